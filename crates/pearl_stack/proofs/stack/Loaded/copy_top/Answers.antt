use Rattle.std.proofs.Common.{◌+◌, ◌-◌, ap, ◌∙◌, arith, vec_capacity}
use Rattle.pearl_stack.proofs.Keeps.{lies_of, cut_fits, copy_shown}
use Rattle.pearl_stack.proofs.stack.Loaded.copy_top.Goals as goal

pub index-requires : goal.index-requires
index-requires c =
    let at = lies_of c.self.inside.heads.items (vec_capacity c.self.inside.heads) c.self.inside.values c.self.inside.room c.self.inside.most c.args.self.now c.self.view_is c.self.invariant c.args.f c.args.c c.requires.cell in
    omega (arith, at.within, c.self.inside.heads.ok.0)

pub overflow_add-at : goal.overflow_add-at
overflow_add-at c =
    let at = lies_of c.self.inside.heads.items (vec_capacity c.self.inside.heads) c.self.inside.values c.self.inside.room c.self.inside.most c.args.self.now c.self.view_is c.self.invariant c.args.f c.args.c c.requires.cell in
    let first = ap (λ h. h.first) (c.index.ensures ∙ at.head_is c.index.result.now) in
    omega (arith, first, at.inside, c.self.invariant.4, c.self.invariant.2)

pub overflow_sub-last : goal.overflow_sub-last
overflow_sub-last c =
    let fits = cut_fits c.self.inside.heads.items (vec_capacity c.self.inside.heads) c.self.inside.values c.self.inside.room c.self.inside.most c.args.self.now c.self.view_is c.self.invariant 1 (omega (arith, c.requires.operand)) in
    omega (arith, fits, c.len-last.ensures)

pub set_again-requires-clause-there : goal.set_again-requires-clause-there
set_again-requires-clause-there c =
    let at = lies_of c.self.inside.heads.items (vec_capacity c.self.inside.heads) c.self.inside.values c.self.inside.room c.self.inside.most c.args.self.now c.self.view_is c.self.invariant c.args.f c.args.c c.requires.cell in
    let first = ap (λ h. h.first) (c.index.ensures ∙ at.head_is c.index.result.now) in
    omega (arith, first, at.inside)

pub set_again-requires-clause-from : goal.set_again-requires-clause-from
set_again-requires-clause-from c =
    let fits = cut_fits c.self.inside.heads.items (vec_capacity c.self.inside.heads) c.self.inside.values c.self.inside.room c.self.inside.most c.args.self.now c.self.view_is c.self.invariant 1 (omega (arith, c.requires.operand)) in
    omega (arith, fits, c.len-last.ensures)

pub returns : goal.returns
returns c =
    let at = lies_of c.self.inside.heads.items (vec_capacity c.self.inside.heads) c.self.inside.values c.self.inside.room c.self.inside.most c.args.self.now c.self.view_is c.self.invariant c.args.f c.args.c c.requires.cell in
    let first = ap (λ h. h.first) (c.index.ensures ∙ at.head_is c.index.result.now) in
    copy_shown c.self.inside.heads.items (vec_capacity c.self.inside.heads) c.self.inside.values c.self.inside.room c.self.inside.most c.args.self.now c.self.view_is c.self.invariant c.requires.operand c.args.f c.args.c c.requires.cell
    (c.index.result.now.first + c.args.c) (c.len-last.result - 1) (ap (λ n. n + c.args.c) first) (ap (λ n. n - 1) c.len-last.ensures) c.set_again.new.self c.set_again.ensures
