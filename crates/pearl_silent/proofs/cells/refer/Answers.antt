use Rattle.std.proofs.Common.{◌≡◌, ◌-◌, Ok, suc, length, sym, ap, ◌∙◌, arith}
use Rattle.pearl_value.specs.declared.cell.Cell.TheVariants.{Ref}
use Rattle.pearl_value.specs.declared.cell.Place.TheVariants as place
use Rattle.pearl_stack.specs.Frames.{Stack}
use Rattle.pearl_silent.specs.Steps.{told, made_on}
use Rattle.pearl_silent.proofs.Tops.{cells_more, own_small}
use Rattle.pearl_silent.proofs.Made.{same_applies, same_does}
use Rattle.pearl_silent.proofs.CellRows.{refers_there, refers_is}
use Rattle.pearl_silent.proofs.cells.refer.Goals as goal

pub own-requires : goal.own-requires
own-requires c = refers_there c.args.stack.now.frames c.args.c c.args.taken c.args.stack.now.room c.requires.ready

pub overflow_sub-place : goal.overflow_sub-place
overflow_sub-place c =
    let more = cells_more c.args.stack.now.frames c.args.c (refers_there c.args.stack.now.frames c.args.c c.args.taken c.args.stack.now.room c.requires.ready) in
    omega (arith, more, c.frames.ensures)

pub overflow_cast-place : goal.overflow_cast-place
overflow_cast-place c =
    let less = own_small c.args.stack.now.frames c.args.c (refers_there c.args.stack.now.frames c.args.c c.args.taken c.args.stack.now.room c.requires.ready) in
    omega (arith, less, c.size-size.ensures)

pub leave-requires-clause-ready : goal.leave-requires-clause-ready
leave-requires-clause-ready c =
    let old : Stack = c.args.stack.now in
    let more = cells_more old.frames c.args.c (refers_there old.frames c.args.c c.args.taken old.room c.requires.ready) in
    let e : suc (c.frames.result - 1) ≡ length old.frames = omega (arith, more, c.frames.ensures) in
    let is = refers_is old.frames c.args.c c.args.taken (c.frames.result - 1) old.room c.own.result.now c.requires.ready c.own.ensures e in
    same_applies _ _ old.room
    (is ∙ ap (λ of. made_on c.args.taken (Ok (Ref of (place.Cell (c.frames.result - 1) c.args.c))) old.frames) (sym c.kind-of.ensures)) c.requires.ready

pub returns : goal.returns
returns c =
    let old : Stack = c.args.stack.now in
    let more = cells_more old.frames c.args.c (refers_there old.frames c.args.c c.args.taken old.room c.requires.ready) in
    let e : suc (c.frames.result - 1) ≡ length old.frames = omega (arith, more, c.frames.ensures) in
    let is = refers_is old.frames c.args.c c.args.taken (c.frames.result - 1) old.room c.own.result.now c.requires.ready c.own.ensures e in
    same_does _ _ old c.leave.new.stack (told c.leave.result)
    (is ∙ ap (λ of. made_on c.args.taken (Ok (Ref of (place.Cell (c.frames.result - 1) c.args.c))) old.frames) (sym c.kind-of.ensures)) c.leave.ensures
