use Rattle.std.proofs.Common.{List, ap, arith}
use Rattle.pearl_value.specs.declared.cell.Cell.{Cell}
use Rattle.pearl_stack.specs.declared.stack.Head.{Head}
use Rattle.pearl_stack.specs.Frames.{Frame}
use Rattle.pearl_stack.proofs.Holds.{Holds, high}
use Rattle.pearl_stack.proofs.stack.Loaded.frames.Goals as goal

pub returns : goal.returns
returns c =
    let heads : List Head = c.self.inside.heads.items in
    let values : List Cell = c.self.inside.values.items in
    let frames : List Frame = c.args.self.now.frames in
    let holds : Holds heads values frames = record { shows = ap (λ s. s.frames) c.self.view_is; divides = c.self.invariant.6 } in
    omega (arith, c.len.ensures, c.self.inside.heads.ok.0, high heads values frames holds)
