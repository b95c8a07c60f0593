use Rattle.std.proofs.Common.{◌+◌, set, ap, ◌∙◌, arith, vec_capacity}
use Rattle.std.proofs.lemmas.Int.{ints}
use Rattle.pearl_value.specs.declared.cell.Cell.TheVariants.{Fixed}
use Rattle.pearl_stack.proofs.Written.{held}
use Rattle.pearl_stack.proofs.Keeps.{lies_of, set_shown}
use Rattle.pearl_stack.proofs.stack.Loaded.set_cell_fixed.Goals as goal

pub index-requires : goal.index-requires
index-requires c =
    let at = lies_of c.self.inside.heads.items (vec_capacity c.self.inside.heads) c.self.inside.values c.self.inside.room c.self.inside.most c.args.self.now c.self.view_is c.self.invariant c.args.f c.args.c c.requires in
    omega (arith, at.within, c.self.inside.heads.ok.0)

pub overflow_add-at : goal.overflow_add-at
overflow_add-at c =
    let at = lies_of c.self.inside.heads.items (vec_capacity c.self.inside.heads) c.self.inside.values c.self.inside.room c.self.inside.most c.args.self.now c.self.view_is c.self.invariant c.args.f c.args.c c.requires in
    let first = ap (λ h. h.first) (c.index.ensures ∙ at.head_is c.index.result.now) in
    omega (arith, first, at.inside, c.self.invariant.4, c.self.invariant.2)

pub set_fixed-requires : goal.set_fixed-requires
set_fixed-requires c =
    let at = lies_of c.self.inside.heads.items (vec_capacity c.self.inside.heads) c.self.inside.values c.self.inside.room c.self.inside.most c.args.self.now c.self.view_is c.self.invariant c.args.f c.args.c c.requires in
    let first = ap (λ h. h.first) (c.index.ensures ∙ at.head_is c.index.result.now) in
    omega (arith, first, at.inside)

pub returns : goal.returns
returns c =
    let at = lies_of c.self.inside.heads.items (vec_capacity c.self.inside.heads) c.self.inside.values c.self.inside.room c.self.inside.most c.args.self.now c.self.view_is c.self.invariant c.args.f c.args.c c.requires in
    let first = ap (λ h. h.first) (c.index.ensures ∙ at.head_is c.index.result.now) in
    set_shown c.self.inside.heads.items (vec_capacity c.self.inside.heads) c.self.inside.values c.self.inside.room c.self.inside.most c.args.self.now c.self.view_is c.self.invariant c.args.f c.args.c c.requires
    (c.index.result.now.first + c.args.c) (ap (λ n. n + c.args.c) first) (Fixed c.args.len c.args.value) c.set_fixed.new.self (c.set_fixed.ensures ∙ ap (λ v. held (set c.self.inside.values.items (c.index.result.now.first + c.args.c) (Fixed c.args.len v)) c.self.inside.values.room) (omega (arith, ints)))
