use Rattle.std.proofs.Common.{◌++◌, [], ◌∷◌, ap, ◌∙◌, arith, vec_capacity}
use Rattle.pearl_value.specs.declared.cell.Cell.TheVariants.{Fixed}
use Rattle.std.proofs.lemmas.Int.{ints}
use Rattle.pearl_stack.proofs.Written.{held}
use Rattle.pearl_stack.proofs.Keeps.{push_fits, push_kept, push_shown}
use Rattle.pearl_stack.proofs.stack.Loaded.push_fixed.Goals as goal

pub push_fixed-requires : goal.push_fixed-requires
push_fixed-requires c =
    push_fits c.self.inside.heads.items (vec_capacity c.self.inside.heads) c.self.inside.values c.self.inside.room c.self.inside.most c.args.self.now c.self.view_is c.self.invariant c.requires.room

pub invariant_of-self : goal.invariant_of-self
invariant_of-self c =
    push_kept c.self.inside.heads.items (vec_capacity c.self.inside.heads) c.self.inside.values c.self.inside.room c.self.inside.most c.args.self.now c.self.view_is c.self.invariant c.requires.some c.requires.room (Fixed c.args.len c.args.value) c.push_fixed.new.self (c.push_fixed.ensures ∙ ap (λ v. held (c.self.inside.values.items ++ Fixed c.args.len v ∷ []) c.self.inside.values.room) (omega (arith, ints)))

pub returns : goal.returns
returns c =
    push_shown c.self.inside.heads.items (vec_capacity c.self.inside.heads) c.self.inside.values c.self.inside.room c.self.inside.most c.args.self.now c.self.view_is c.self.invariant c.requires.some (Fixed c.args.len c.args.value) c.push_fixed.new.self (c.push_fixed.ensures ∙ ap (λ v. held (c.self.inside.values.items ++ Fixed c.args.len v ∷ []) c.self.inside.values.room) (omega (arith, ints)))
