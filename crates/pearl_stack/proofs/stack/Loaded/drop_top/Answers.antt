use Rattle.std.proofs.Common.{◌-◌, take, ap, ◌∙◌, arith, vec_capacity}
use Rattle.pearl_stack.proofs.Keeps.{cut_fits, cut_kept, cut_shown}
use Rattle.pearl_stack.proofs.Written.{held}
use Rattle.pearl_stack.proofs.stack.Loaded.drop_top.Goals as goal

pub overflow_sub-left : goal.overflow_sub-left
overflow_sub-left c =
    let fits = cut_fits c.self.inside.heads.items (vec_capacity c.self.inside.heads) c.self.inside.values c.self.inside.room c.self.inside.most c.args.self.now c.self.view_is c.self.invariant c.args.count c.requires in
    omega (arith, fits, c.len.ensures)

pub invariant_of-self : goal.invariant_of-self
invariant_of-self c =
    cut_kept c.self.inside.heads.items (vec_capacity c.self.inside.heads) c.self.inside.values c.self.inside.room c.self.inside.most c.args.self.now c.self.view_is c.self.invariant c.args.count c.requires
    c.truncate.new.self (c.truncate.ensures ∙ ap (λ n. held (take (n - c.args.count) c.self.inside.values.items) c.self.inside.values.room) c.len.ensures)

pub returns : goal.returns
returns c =
    cut_shown c.self.inside.heads.items (vec_capacity c.self.inside.heads) c.self.inside.values c.self.inside.room c.self.inside.most c.args.self.now c.self.view_is c.self.invariant c.args.count c.requires
    c.truncate.new.self (c.truncate.ensures ∙ ap (λ n. held (take (n - c.args.count) c.self.inside.values.items) c.self.inside.values.room) c.len.ensures)
