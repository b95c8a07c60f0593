use Rattle.std.proofs.Common.{ap, ◌∙◌}
use Rattle.pearl_stack.specs.Frames.{Stack}
use Rattle.pearl_silent.specs.Steps.{next_of}
use Rattle.pearl_silent.proofs.Tops.{next_at, next_pushed}
use Rattle.pearl_silent.proofs.Made.{silent_does}
use Rattle.pearl_silent.proofs.CellRows.{literal_room, literal_silent}
use Rattle.pearl_silent.proofs.cells.literal.Goals as goal

pub push_literal-requires-clause-some : goal.push_literal-requires-clause-some
push_literal-requires-clause-some c = c.requires.next.some

pub push_literal-requires-clause-room : goal.push_literal-requires-clause-room
push_literal-requires-clause-room c = literal_room c.args.stack.now.frames c.args.x.now c.args.stack.now.room c.requires.ready

pub go_on-requires-clause-some : goal.go_on-requires-clause-some
go_on-requires-clause-some c = (next_at c.push_literal.new.stack _ c.push_literal.ensures (next_pushed c.args.x.now c.args.stack.now.frames c.requires.next)).some

pub go_on-requires-clause-next : goal.go_on-requires-clause-next
go_on-requires-clause-next c = (next_at c.push_literal.new.stack _ c.push_literal.ensures (next_pushed c.args.x.now c.args.stack.now.frames c.requires.next)).next

pub returns : goal.returns
returns c =
    silent_does _ c.args.stack.now c.go_on.new.self _ (literal_silent c.args.stack.now.frames c.args.x.now c.requires.next.some)
    (c.go_on.ensures ∙ ap (λ (s : Stack). record s { frames = next_of s.frames }) c.push_literal.ensures)
