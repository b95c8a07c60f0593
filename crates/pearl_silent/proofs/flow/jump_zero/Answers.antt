use Rattle.std.proofs.Common.{◌≡◌, ◌+◌, sym, ap, ◌∙◌, arith}
use Rattle.std.specs.Prelude.{if◌then◌else◌}
use Rattle.pearl_stack.specs.Frames.{Stack, place_of, popped, moved}
use Rattle.pearl_instructions.specs.Steps.{Silent}
use Rattle.pearl_silent.specs.Steps.{is_zero}
use Rattle.pearl_silent.proofs.Applied.{one_there}
use Rattle.pearl_silent.proofs.Tops.{without_some}
use Rattle.pearl_silent.proofs.Made.{silent_does}
use Rattle.pearl_silent.proofs.FlowRows.{jump_zero_is}
use Rattle.pearl_silent.proofs.flow.jump_zero.Goals as goal

pub top-requires : goal.top-requires
top-requires c = one_there c.args.stack.now.frames _ c.args.stack.now.room c.requires.ready

pub drop_top-requires : goal.drop_top-requires
drop_top-requires c = let there = one_there c.args.stack.now.frames _ c.args.stack.now.room c.requires.ready in omega (arith, there)

pub go-requires : goal.go-requires
go-requires c = rw c.drop_top.ensures (without_some 1 c.args.stack.now.frames c.requires.next.some)

pub returns : goal.returns
returns c =
    let old : Stack = c.args.stack.now in
    let to : c.zero_or-to.result ≡ (if is_zero c.top.result.now then c.args.i else place_of old.frames + 1) = c.zero_or-to.ensures ∙ ap (λ p. if is_zero c.top.result.now then c.args.i else p + 1) c.place.ensures in
    silent_does _ old c.go.new.self _
    (jump_zero_is old.frames c.args.i old.room c.top.result.now c.requires.ready c.top.ensures ∙ ap (λ t. Silent (moved t (popped old.frames))) (sym to))
    (c.go.ensures ∙ ap (λ (s : Stack). record s { frames = moved c.zero_or-to.result s.frames }) c.drop_top.ensures)
