use Rattle.std.proofs.Common.{◌+◌, sym, ap, ◌∙◌, arith}
use Rattle.pearl_silent.specs.Steps.{told, referred_on, top_cells}
use Rattle.pearl_silent.proofs.Made.{same_applies, same_does, offers_does}
use Rattle.pearl_silent.proofs.Applied.{one_there}
use Rattle.pearl_silent.proofs.Tops.{some_within}
use Rattle.pearl_silent.proofs.CellRows.{refers_there, ref_cell_at_some, ref_cell_at_none}
use Rattle.pearl_silent.proofs.cells.ref_cell_at.Goals as goal

pub top-requires : goal.top-requires
top-requires c = one_there c.args.stack.now.frames _ c.args.stack.now.room c.requires.ready

pub behind-c-requires : goal.behind-c-requires
behind-c-requires c =
    let frames = c.args.stack.now.frames in
    let is = ref_cell_at_some frames c.args.first c.args.count c.args.stack.now.room c.in-Some.o c.top.result.now c.requires.ready c.top.ensures (sym c.offset.ensures ∙ c.in-Some.is) in
    some_within (top_cells frames) (c.args.first + c.in-Some.o) (refers_there frames (c.args.first + c.in-Some.o) 1 c.args.stack.now.room (same_applies _ _ c.args.stack.now.room is c.requires.ready))

pub refer-requires-clause-there : goal.refer-requires-clause-there
refer-requires-clause-there c = let there = one_there c.args.stack.now.frames _ c.args.stack.now.room c.requires.ready in omega (arith, there)

pub refer-requires-clause-ready : goal.refer-requires-clause-ready
refer-requires-clause-ready c =
    let is = ref_cell_at_some c.args.stack.now.frames c.args.first c.args.count c.args.stack.now.room c.in-Some.o c.top.result.now c.requires.ready c.top.ensures (sym c.offset.ensures ∙ c.in-Some.is) in
    same_applies _ _ c.args.stack.now.room (is ∙ ap (λ k. referred_on k 1 c.args.stack.now.frames) (sym c.behind-c.ensures)) c.requires.ready

pub returns-in-Some : goal.returns-in-Some
returns-in-Some c =
    let is = ref_cell_at_some c.args.stack.now.frames c.args.first c.args.count c.args.stack.now.room c.in-Some.o c.top.result.now c.requires.ready c.top.ensures (sym c.offset.ensures ∙ c.in-Some.is) in
    same_does _ _ c.args.stack.now c.refer.new.stack (told c.refer.result) (is ∙ ap (λ k. referred_on k 1 c.args.stack.now.frames) (sym c.behind-c.ensures)) c.refer.ensures

pub returns-in-None : goal.returns-in-None
returns-in-None c =
    offers_does _ c.args.stack.now _ _
    (ref_cell_at_none c.args.stack.now.frames c.args.first c.args.count c.args.stack.now.room c.top.result.now c.requires.ready c.top.ensures (sym c.offset.ensures ∙ c.in-None.is))
