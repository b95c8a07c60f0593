use Rattle.std.proofs.Common.{◌-◌, ap, arith, vec_capacity}
use Rattle.pearl_cells.specs.Filled.{filled}
use Rattle.pearl_stack.proofs.Keeps.{cut_fits, changed_shown}
use Rattle.pearl_stack.proofs.stack.Loaded.fill_top.Goals as goal

pub overflow_sub-last : goal.overflow_sub-last
overflow_sub-last c =
    let fits = cut_fits c.self.inside.heads.items (vec_capacity c.self.inside.heads) c.self.inside.values c.self.inside.room c.self.inside.most c.args.self.now c.self.view_is c.self.invariant 1 (omega (arith, c.requires)) in
    omega (arith, fits, c.len-last.ensures)

pub fill_chars-requires : goal.fill_chars-requires
fill_chars-requires c =
    let fits = cut_fits c.self.inside.heads.items (vec_capacity c.self.inside.heads) c.self.inside.values c.self.inside.room c.self.inside.most c.args.self.now c.self.view_is c.self.invariant 1 (omega (arith, c.requires)) in
    omega (arith, fits, c.len-last.ensures)

pub returns : goal.returns
returns c =
    changed_shown c.self.inside.heads.items (vec_capacity c.self.inside.heads) c.self.inside.values c.self.inside.room c.self.inside.most c.args.self.now c.self.view_is c.self.invariant c.requires
    (c.len-last.result - 1) (ap (λ n. n - 1) c.len-last.ensures) (filled c.args.len) c.fill_chars.new.self c.fill_chars.ensures
