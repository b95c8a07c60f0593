use Rattle.std.proofs.Common.{◌∷◌, ◌++◌, [], refl, subst, length, ◌≤◌}
use Rattle.pearl_top.proofs.Explained.{explained, may_have, explains_whole, explains_long}
use Rattle.pearl_top.proofs.read.read_whole.Goals as goal

pub returns-in-Whole-clause-read : goal.returns-in-Whole-clause-read
returns-in-Whole-clause-read g c =
    let held = g.S.Shelf.holds c.args.shelf.now in
    let name = c.args.name.now in
    let bytes = c.in-Whole.bytes.items in
    let is = explains_whole held name bytes c.in-Whole.ensures.read in (
      explained held name bytes,
      may_have held name bytes,
      (is, subst (λ file. length file ≤ c.args.limit) is c.in-Whole.ensures.within),
    )

pub returns-in-TooLong-clause-read : goal.returns-in-TooLong-clause-read
returns-in-TooLong-clause-read g c =
    let held = g.S.Shelf.holds c.args.shelf.now in
    let name = c.args.name.now in
    let bytes = c.in-TooLong.field-0.items in
    let guess = bytes ++ 0 ∷ [] in
    let long = explains_long held name bytes c.args.limit c.in-TooLong.ensures.within c.in-TooLong.ensures.read in
    (explained held name guess, may_have held name guess, (long.0, refl))

pub returns-in-Fault-clause-read : goal.returns-in-Fault-clause-read
returns-in-Fault-clause-read g c =
    let held = g.S.Shelf.holds c.args.shelf.now in
    let name = c.args.name.now in
    (explained held name [], may_have held name [], (c.in-Fault.ensures.cause, refl))

pub returns-clause-read : goal.returns-clause-read
returns-clause-read g c =
    let held = g.S.Shelf.holds c.args.shelf.now in
    let name = c.args.name.now in
    (explained held name [], may_have held name [], refl)
