use Rattle.std.proofs.Common.{◌≡◌, ◌-◌, suc, length, ap, arith, sym, subst}
use Rattle.std.specs.Prelude.{IsSome}
use Rattle.pearl_stack.specs.Frames.{Stack, top_operands}
use Rattle.pearl_silent.specs.Steps.{with_top_cell}
use Rattle.pearl_silent.proofs.Tops.{own_small, own_cell_at, cells_more, left_under, next_at, next_with_cell, next_without}
use Rattle.pearl_silent.proofs.Copies.{stored, stored_does}
use Rattle.pearl_silent.proofs.outcomes.leave_stored.Goals as goal

pub overflow_sub-top : goal.overflow_sub-top
overflow_sub-top c = let more = cells_more c.args.stack.now.frames c.args.c c.requires.cell in omega (arith, more, c.frames-top.ensures)

pub overflow_cast-c : goal.overflow_cast-c
overflow_cast-c c = let less = own_small c.args.stack.now.frames c.args.c c.requires.cell in omega (arith, less, c.size-size.ensures)

pub store_top-requires-clause-cell : goal.store_top-requires-clause-cell
store_top-requires-clause-cell c =
    let old : Stack = c.args.stack.now in
    let more = cells_more old.frames c.args.c c.requires.cell in
    let top : suc (c.frames-top.result - 1) ≡ length old.frames = omega (arith, more, c.frames-top.ensures) in
    subst IsSome (sym (own_cell_at old.frames (c.frames-top.result - 1) c.args.c top)) c.requires.cell

pub drop_top-requires : goal.drop_top-requires
drop_top-requires c =
    let old : Stack = c.args.stack.now in
    let more = cells_more old.frames c.args.c c.requires.cell in
    let top : suc (c.frames-top.result - 1) ≡ length old.frames = omega (arith, more, c.frames-top.ensures) in
    let d = stored old c.store_top.new.self (c.frames-top.result - 1) c.args.c top c.store_top.ensures in
    let less = left_under c.args.c d.x c.args.below old.frames c.requires.there in
    let same = ap (λ (s : Stack). length (top_operands s.frames)) d.is in
    omega (arith, less, same)

pub go_on-requires-clause-some : goal.go_on-requires-clause-some
go_on-requires-clause-some c =
    let old : Stack = c.args.stack.now in
    let more = cells_more old.frames c.args.c c.requires.cell in
    let top : suc (c.frames-top.result - 1) ≡ length old.frames = omega (arith, more, c.frames-top.ensures) in
    let d = stored old c.store_top.new.self (c.frames-top.result - 1) c.args.c top c.store_top.ensures in
    let next = next_without 1 (with_top_cell c.args.c d.x old.frames) (next_with_cell c.args.c d.x old.frames c.requires.next) in
    (next_at c.drop_top.new.self _ c.drop_top.ensures (next_without c.args.below c.store_top.new.self.frames (next_at c.store_top.new.self _ d.is next))).some

pub go_on-requires-clause-next : goal.go_on-requires-clause-next
go_on-requires-clause-next c =
    let old : Stack = c.args.stack.now in
    let more = cells_more old.frames c.args.c c.requires.cell in
    let top : suc (c.frames-top.result - 1) ≡ length old.frames = omega (arith, more, c.frames-top.ensures) in
    let d = stored old c.store_top.new.self (c.frames-top.result - 1) c.args.c top c.store_top.ensures in
    let next = next_without 1 (with_top_cell c.args.c d.x old.frames) (next_with_cell c.args.c d.x old.frames c.requires.next) in
    (next_at c.drop_top.new.self _ c.drop_top.ensures (next_without c.args.below c.store_top.new.self.frames (next_at c.store_top.new.self _ d.is next))).next

pub returns : goal.returns
returns c =
    let old : Stack = c.args.stack.now in
    let more = cells_more old.frames c.args.c c.requires.cell in
    let top : suc (c.frames-top.result - 1) ≡ length old.frames = omega (arith, more, c.frames-top.ensures) in
    let d = stored old c.store_top.new.self (c.frames-top.result - 1) c.args.c top c.store_top.ensures in
    stored_does old c.store_top.new.self c.drop_top.new.self c.go_on.new.self c.args.c c.args.below d c.requires.cell c.drop_top.ensures c.go_on.ensures
