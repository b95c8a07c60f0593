use Rattle.std.proofs.Common.{◌+◌, ap, ◌∙◌, arith, vec_capacity}
use Rattle.pearl_stack.proofs.Keeps.{lies_of, set_shown}
use Rattle.pearl_stack.proofs.stack.Loaded.set_cell.Goals as goal

pub index-requires : goal.index-requires
index-requires c =
    let at = lies_of c.self.inside.heads.items (vec_capacity c.self.inside.heads) c.self.inside.values c.self.inside.room c.self.inside.most c.args.self.now c.self.view_is c.self.invariant c.args.f c.args.c c.requires in
    omega (arith, at.within, c.self.inside.heads.ok.0)

pub overflow_add-spot : goal.overflow_add-spot
overflow_add-spot c =
    let at = lies_of c.self.inside.heads.items (vec_capacity c.self.inside.heads) c.self.inside.values c.self.inside.room c.self.inside.most c.args.self.now c.self.view_is c.self.invariant c.args.f c.args.c c.requires in
    let first = ap (λ h. h.first) (c.index.ensures ∙ at.head_is c.index.result.now) in
    omega (arith, first, at.inside, c.self.invariant.4, c.self.invariant.2)

pub set_copy-requires : goal.set_copy-requires
set_copy-requires c =
    let at = lies_of c.self.inside.heads.items (vec_capacity c.self.inside.heads) c.self.inside.values c.self.inside.room c.self.inside.most c.args.self.now c.self.view_is c.self.invariant c.args.f c.args.c c.requires in
    let first = ap (λ h. h.first) (c.index.ensures ∙ at.head_is c.index.result.now) in
    omega (arith, first, at.inside)

pub returns : goal.returns
returns c =
    let at = lies_of c.self.inside.heads.items (vec_capacity c.self.inside.heads) c.self.inside.values c.self.inside.room c.self.inside.most c.args.self.now c.self.view_is c.self.invariant c.args.f c.args.c c.requires in
    let first = ap (λ h. h.first) (c.index.ensures ∙ at.head_is c.index.result.now) in
    set_shown c.self.inside.heads.items (vec_capacity c.self.inside.heads) c.self.inside.values c.self.inside.room c.self.inside.most c.args.self.now c.self.view_is c.self.invariant c.args.f c.args.c c.requires
    (c.index.result.now.first + c.args.c) (ap (λ n. n + c.args.c) first) c.args.x c.set_copy.new.self c.set_copy.ensures
