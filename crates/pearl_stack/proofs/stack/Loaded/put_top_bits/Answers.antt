use Rattle.std.proofs.Common.{◌-◌, ap, arith, vec_capacity}
use Rattle.pearl_value.specs.declared.cell.Cell.TheVariants.{Bits}
use Rattle.pearl_stack.proofs.Keeps.{cut_fits, top_shown}
use Rattle.pearl_stack.proofs.stack.Loaded.put_top_bits.Goals as goal

pub overflow_sub-last : goal.overflow_sub-last
overflow_sub-last c =
    let fits = cut_fits c.self.inside.heads.items (vec_capacity c.self.inside.heads) c.self.inside.values c.self.inside.room c.self.inside.most c.args.self.now c.self.view_is c.self.invariant 1 (omega (arith, c.requires)) in
    omega (arith, fits, c.len-last.ensures)

pub set_bits-requires : goal.set_bits-requires
set_bits-requires c =
    let fits = cut_fits c.self.inside.heads.items (vec_capacity c.self.inside.heads) c.self.inside.values c.self.inside.room c.self.inside.most c.args.self.now c.self.view_is c.self.invariant 1 (omega (arith, c.requires)) in
    omega (arith, fits, c.len-last.ensures)

pub returns : goal.returns
returns c =
    top_shown c.self.inside.heads.items (vec_capacity c.self.inside.heads) c.self.inside.values c.self.inside.room c.self.inside.most c.args.self.now c.self.view_is c.self.invariant c.requires
    (c.len-last.result - 1) (ap (λ n. n - 1) c.len-last.ensures) (Bits c.args.len c.args.value) c.set_bits.new.self c.set_bits.ensures
