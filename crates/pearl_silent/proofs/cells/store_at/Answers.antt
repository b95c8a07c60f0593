use Rattle.std.proofs.Common.{◌+◌, sym, ap, ◌∙◌}
use Rattle.pearl_silent.specs.Steps.{told, stored_on, top_cells}
use Rattle.pearl_silent.proofs.Made.{same_does, offers_does}
use Rattle.pearl_silent.proofs.Applied.{two_there}
use Rattle.pearl_silent.proofs.Tops.{some_within}
use Rattle.pearl_silent.proofs.CellRows.{store_at_some, store_at_none}
use Rattle.pearl_silent.proofs.cells.store_at.Goals as goal

pub top-requires : goal.top-requires
top-requires c = two_there c.args.stack.now.frames _ c.args.stack.now.room c.requires.ready

pub behind-c-requires : goal.behind-c-requires
behind-c-requires c =
    let frames = c.args.stack.now.frames in
    let at = store_at_some frames c.args.first c.args.count c.args.stack.now.room c.in-Some.o c.top.result.now c.requires.ready c.top.ensures (sym c.offset.ensures ∙ c.in-Some.is) in
    some_within (top_cells frames) (c.args.first + c.in-Some.o) at.there

pub leave_stored-requires-clause-cell : goal.leave_stored-requires-clause-cell
leave_stored-requires-clause-cell c =
    rw c.behind-c.ensures (store_at_some c.args.stack.now.frames c.args.first c.args.count c.args.stack.now.room c.in-Some.o c.top.result.now c.requires.ready c.top.ensures (sym c.offset.ensures ∙ c.in-Some.is)).there

pub leave_stored-requires-clause-there : goal.leave_stored-requires-clause-there
leave_stored-requires-clause-there c = two_there c.args.stack.now.frames _ c.args.stack.now.room c.requires.ready

pub returns-in-Some : goal.returns-in-Some
returns-in-Some c =
    let at = store_at_some c.args.stack.now.frames c.args.first c.args.count c.args.stack.now.room c.in-Some.o c.top.result.now c.requires.ready c.top.ensures (sym c.offset.ensures ∙ c.in-Some.is) in
    same_does _ _ c.args.stack.now c.leave_stored.new.stack (told c.leave_stored.result) (at.is ∙ ap (λ k. stored_on k 1 c.args.stack.now.frames) (sym c.behind-c.ensures)) c.leave_stored.ensures

pub returns-in-None : goal.returns-in-None
returns-in-None c =
    offers_does _ c.args.stack.now _ _
    (store_at_none c.args.stack.now.frames c.args.first c.args.count c.args.stack.now.room c.top.result.now c.requires.ready c.top.ensures (sym c.offset.ensures ∙ c.in-None.is))
