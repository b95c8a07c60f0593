use Rattle.std.proofs.Common.{◌≡◌, ◌-◌, suc, length, ap, ◌∙◌, arith, sym, subst}
use Rattle.std.specs.Prelude.{IsSome}
use Rattle.pearl_stack.specs.Frames.{Stack, cell_at, without}
use Rattle.pearl_silent.proofs.Tops.{own_small, cells_more, next_at, next_pushed, next_without}
use Rattle.pearl_silent.proofs.Copies.{cell_left, copied, copied_does}
use Rattle.pearl_silent.proofs.outcomes.leave_cell.Goals as goal

pub overflow_sub-top : goal.overflow_sub-top
overflow_sub-top c = let more = cells_more c.args.stack.now.frames c.args.c c.requires.cell in omega (arith, more, c.frames-top.ensures)

pub overflow_cast-c : goal.overflow_cast-c
overflow_cast-c c = let less = own_small c.args.stack.now.frames c.args.c c.requires.cell in omega (arith, less, c.size-size.ensures)

pub push_cell-requires-clause-cell : goal.push_cell-requires-clause-cell
push_cell-requires-clause-cell c =
    let old : Stack = c.args.stack.now in
    let more = cells_more old.frames c.args.c c.requires.cell in
    let top : suc (c.frames-top.result - 1) ≡ length old.frames = omega (arith, more, c.frames-top.ensures) in
    subst IsSome (sym (ap (λ (s : Stack). cell_at s.frames (c.frames-top.result - 1) c.args.c) c.drop_top.ensures ∙ cell_left old.frames c.args.taken (c.frames-top.result - 1) c.args.c top)) c.requires.cell

pub push_cell-requires-clause-room : goal.push_cell-requires-clause-room
push_cell-requires-clause-room c = rw c.drop_top.ensures c.requires.room

pub go_on-requires-clause-some : goal.go_on-requires-clause-some
go_on-requires-clause-some c =
    let old : Stack = c.args.stack.now in
    let more = cells_more old.frames c.args.c c.requires.cell in
    let top : suc (c.frames-top.result - 1) ≡ length old.frames = omega (arith, more, c.frames-top.ensures) in
    let d = copied old c.drop_top.new.self c.push_cell.new.self c.args.taken (c.frames-top.result - 1) c.args.c top c.drop_top.ensures c.push_cell.ensures in
    (next_at c.push_cell.new.self _ d.is (next_pushed d.x (without c.args.taken old.frames) (next_without c.args.taken old.frames c.requires.next))).some

pub go_on-requires-clause-next : goal.go_on-requires-clause-next
go_on-requires-clause-next c =
    let old : Stack = c.args.stack.now in
    let more = cells_more old.frames c.args.c c.requires.cell in
    let top : suc (c.frames-top.result - 1) ≡ length old.frames = omega (arith, more, c.frames-top.ensures) in
    let d = copied old c.drop_top.new.self c.push_cell.new.self c.args.taken (c.frames-top.result - 1) c.args.c top c.drop_top.ensures c.push_cell.ensures in
    (next_at c.push_cell.new.self _ d.is (next_pushed d.x (without c.args.taken old.frames) (next_without c.args.taken old.frames c.requires.next))).next

pub returns : goal.returns
returns c =
    let old : Stack = c.args.stack.now in
    let more = cells_more old.frames c.args.c c.requires.cell in
    let top : suc (c.frames-top.result - 1) ≡ length old.frames = omega (arith, more, c.frames-top.ensures) in
    let d = copied old c.drop_top.new.self c.push_cell.new.self c.args.taken (c.frames-top.result - 1) c.args.c top c.drop_top.ensures c.push_cell.ensures in
    copied_does old c.push_cell.new.self c.go_on.new.self c.args.taken c.args.c c.requires.next.some d c.go_on.ensures
