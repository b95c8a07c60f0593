use Rattle.std.proofs.Common.{vec_capacity}
use Rattle.pearl_value.specs.declared.cell.Cell.TheVariants.{Bits}
use Rattle.pearl_stack.proofs.Keeps.{push_fits, push_kept, push_shown}
use Rattle.pearl_stack.proofs.stack.Loaded.push_bits.Goals as goal

pub push_bits-requires : goal.push_bits-requires
push_bits-requires c =
    push_fits c.self.inside.heads.items (vec_capacity c.self.inside.heads) c.self.inside.values c.self.inside.room c.self.inside.most c.args.self.now c.self.view_is c.self.invariant c.requires.room

pub invariant_of-self : goal.invariant_of-self
invariant_of-self c =
    push_kept c.self.inside.heads.items (vec_capacity c.self.inside.heads) c.self.inside.values c.self.inside.room c.self.inside.most c.args.self.now c.self.view_is c.self.invariant c.requires.some c.requires.room (Bits c.args.len c.args.value) c.push_bits.new.self c.push_bits.ensures

pub returns : goal.returns
returns c =
    push_shown c.self.inside.heads.items (vec_capacity c.self.inside.heads) c.self.inside.values c.self.inside.room c.self.inside.most c.args.self.now c.self.view_is c.self.invariant c.requires.some (Bits c.args.len c.args.value) c.push_bits.new.self c.push_bits.ensures
