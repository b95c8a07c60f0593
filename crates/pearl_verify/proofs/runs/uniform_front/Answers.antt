use Rattle.std.proofs.Common.{◌≤◌, ◌+◌, length, arith}
use Rattle.pearl_verify.proofs.Fronts.{front_of_last}
use Rattle.pearl_verify.proofs.runs.uniform_front.Goals as goal

pub returns-then-from-cells-clause-front : goal.returns-then-from-cells-clause-front
returns-then-from-cells-clause-front c =
    let last : length c.args.cells.now ≤ c.args.from + 1 = omega (arith, c.if-from-cells.true) in
    front_of_last c.args.cells.now c.args.from c.requires.within last
