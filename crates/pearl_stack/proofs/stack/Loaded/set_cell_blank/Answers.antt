use Rattle.std.proofs.Common.{◌+◌, ap, ◌∙◌, arith, vec_capacity}
use Rattle.pearl_value.specs.Blanks.{blank_of}
use Rattle.pearl_stack.proofs.Keeps.{lies_of, set_shown}
use Rattle.pearl_stack.proofs.stack.Loaded.set_cell_blank.Goals as goal

pub index-requires : goal.index-requires
index-requires c =
    let at = lies_of c.self.inside.heads.items (vec_capacity c.self.inside.heads) c.self.inside.values c.self.inside.room c.self.inside.most c.args.self.now c.self.view_is c.self.invariant c.args.f c.args.c c.requires.cell in
    omega (arith, at.within, c.self.inside.heads.ok.0)

pub overflow_add-at : goal.overflow_add-at
overflow_add-at c =
    let at = lies_of c.self.inside.heads.items (vec_capacity c.self.inside.heads) c.self.inside.values c.self.inside.room c.self.inside.most c.args.self.now c.self.view_is c.self.invariant c.args.f c.args.c c.requires.cell in
    let first = ap (λ h. h.first) (c.index.ensures ∙ at.head_is c.index.result.now) in
    omega (arith, first, at.inside, c.self.invariant.4, c.self.invariant.2)

pub set_blank-requires-clause-there : goal.set_blank-requires-clause-there
set_blank-requires-clause-there c =
    let at = lies_of c.self.inside.heads.items (vec_capacity c.self.inside.heads) c.self.inside.values c.self.inside.room c.self.inside.most c.args.self.now c.self.view_is c.self.invariant c.args.f c.args.c c.requires.cell in
    let first = ap (λ h. h.first) (c.index.ensures ∙ at.head_is c.index.result.now) in
    omega (arith, first, at.inside)

pub returns : goal.returns
returns c =
    let at = lies_of c.self.inside.heads.items (vec_capacity c.self.inside.heads) c.self.inside.values c.self.inside.room c.self.inside.most c.args.self.now c.self.view_is c.self.invariant c.args.f c.args.c c.requires.cell in
    let first = ap (λ h. h.first) (c.index.ensures ∙ at.head_is c.index.result.now) in
    set_shown c.self.inside.heads.items (vec_capacity c.self.inside.heads) c.self.inside.values c.self.inside.room c.self.inside.most c.args.self.now c.self.view_is c.self.invariant c.args.f c.args.c c.requires.cell
    (c.index.result.now.first + c.args.c) (ap (λ n. n + c.args.c) first) (blank_of c.args.kind) c.set_blank.new.self c.set_blank.ensures
