use Rattle.std.proofs.Common.{vec_capacity}
use Rattle.pearl_value.specs.declared.cell.Cell.TheVariants.{Chars}
use Rattle.pearl_stack.proofs.Keeps.{push_fits, push_kept, push_shown}
use Rattle.pearl_stack.proofs.stack.Loaded.push_chars.Goals as goal

pub push_chars-requires-clause-room : goal.push_chars-requires-clause-room
push_chars-requires-clause-room c =
    push_fits c.self.inside.heads.items (vec_capacity c.self.inside.heads) c.self.inside.values c.self.inside.room c.self.inside.most c.args.self.now c.self.view_is c.self.invariant c.requires.room

pub invariant_of-self : goal.invariant_of-self
invariant_of-self c =
    push_kept c.self.inside.heads.items (vec_capacity c.self.inside.heads) c.self.inside.values c.self.inside.room c.self.inside.most c.args.self.now c.self.view_is c.self.invariant c.requires.some c.requires.room (Chars (record { items = c.args.text.now })) c.push_chars.new.self c.push_chars.ensures

pub returns : goal.returns
returns c =
    push_shown c.self.inside.heads.items (vec_capacity c.self.inside.heads) c.self.inside.values c.self.inside.room c.self.inside.most c.args.self.now c.self.view_is c.self.invariant c.requires.some (Chars (record { items = c.args.text.now })) c.push_chars.new.self c.push_chars.ensures
