use Rattle.std.proofs.Common.{◌-◌, set, ap, ◌∙◌, arith, vec_capacity}
use Rattle.std.proofs.lemmas.Int.{ints}
use Rattle.pearl_stack.proofs.Written.{held}
use Rattle.pearl_value.specs.declared.cell.Cell.TheVariants.{Fixed}
use Rattle.pearl_stack.proofs.Keeps.{cut_fits, top_shown}
use Rattle.pearl_stack.proofs.stack.Loaded.put_top_fixed.Goals as goal

pub overflow_sub-last : goal.overflow_sub-last
overflow_sub-last c =
    let fits = cut_fits c.self.inside.heads.items (vec_capacity c.self.inside.heads) c.self.inside.values c.self.inside.room c.self.inside.most c.args.self.now c.self.view_is c.self.invariant 1 (omega (arith, c.requires)) in
    omega (arith, fits, c.len-last.ensures)

pub set_fixed-requires : goal.set_fixed-requires
set_fixed-requires c =
    let fits = cut_fits c.self.inside.heads.items (vec_capacity c.self.inside.heads) c.self.inside.values c.self.inside.room c.self.inside.most c.args.self.now c.self.view_is c.self.invariant 1 (omega (arith, c.requires)) in
    omega (arith, fits, c.len-last.ensures)

pub returns : goal.returns
returns c =
    top_shown c.self.inside.heads.items (vec_capacity c.self.inside.heads) c.self.inside.values c.self.inside.room c.self.inside.most c.args.self.now c.self.view_is c.self.invariant c.requires
    (c.len-last.result - 1) (ap (λ n. n - 1) c.len-last.ensures) (Fixed c.args.len c.args.value) c.set_fixed.new.self (c.set_fixed.ensures ∙ ap (λ v. held (set c.self.inside.values.items (c.len-last.result - 1) (Fixed c.args.len v)) c.self.inside.values.room) (omega (arith, ints)))
