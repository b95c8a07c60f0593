use Rattle.std.proofs.Common.{arith, vec_capacity}
use Rattle.pearl_stack.proofs.Holds.{filled}
use Rattle.pearl_stack.proofs.Keeps.{holds_of}
use Rattle.pearl_stack.proofs.stack.Loaded.size.Goals as goal

pub returns : goal.returns
returns c =
    let long = filled c.self.inside.heads.items c.self.inside.values.items c.args.self.now.frames
    (holds_of c.self.inside.heads.items (vec_capacity c.self.inside.heads) c.self.inside.values c.self.inside.room c.self.inside.most c.args.self.now c.self.view_is c.self.invariant) in
    omega (arith, long, c.len.ensures)
