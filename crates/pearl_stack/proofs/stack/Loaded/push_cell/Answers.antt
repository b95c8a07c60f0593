use Rattle.std.proofs.Common.{◌+◌, ap, ◌∙◌, arith, vec_capacity}
use Rattle.pearl_stack.proofs.Keeps.{lies_of, push_fits, cell_some, again_kept, again_shown}
use Rattle.pearl_stack.proofs.stack.Loaded.push_cell.Goals as goal

pub index-requires : goal.index-requires
index-requires c =
    let at = lies_of c.self.inside.heads.items (vec_capacity c.self.inside.heads) c.self.inside.values c.self.inside.room c.self.inside.most c.args.self.now c.self.view_is c.self.invariant c.args.f c.args.c c.requires.cell in
    omega (arith, at.within, c.self.inside.heads.ok.0)

pub overflow_add-from : goal.overflow_add-from
overflow_add-from c =
    let at = lies_of c.self.inside.heads.items (vec_capacity c.self.inside.heads) c.self.inside.values c.self.inside.room c.self.inside.most c.args.self.now c.self.view_is c.self.invariant c.args.f c.args.c c.requires.cell in
    let first = ap (λ h. h.first) (c.index.ensures ∙ at.head_is c.index.result.now) in
    omega (arith, first, at.inside, c.self.invariant.4, c.self.invariant.2)

pub push_again-requires-clause-there : goal.push_again-requires-clause-there
push_again-requires-clause-there c =
    let at = lies_of c.self.inside.heads.items (vec_capacity c.self.inside.heads) c.self.inside.values c.self.inside.room c.self.inside.most c.args.self.now c.self.view_is c.self.invariant c.args.f c.args.c c.requires.cell in
    let first = ap (λ h. h.first) (c.index.ensures ∙ at.head_is c.index.result.now) in
    omega (arith, first, at.inside)

pub push_again-requires-clause-room : goal.push_again-requires-clause-room
push_again-requires-clause-room c =
    push_fits c.self.inside.heads.items (vec_capacity c.self.inside.heads) c.self.inside.values c.self.inside.room c.self.inside.most c.args.self.now c.self.view_is c.self.invariant c.requires.room

pub invariant_of-self : goal.invariant_of-self
invariant_of-self c =
    again_kept c.self.inside.heads.items (vec_capacity c.self.inside.heads) c.self.inside.values c.self.inside.room c.self.inside.most c.args.self.now c.self.view_is c.self.invariant (cell_some c.args.self.now.frames c.args.f c.args.c c.requires.cell) c.requires.room
    (c.index.result.now.first + c.args.c) c.push_again.new.self c.push_again.ensures

pub returns : goal.returns
returns c =
    let at = lies_of c.self.inside.heads.items (vec_capacity c.self.inside.heads) c.self.inside.values c.self.inside.room c.self.inside.most c.args.self.now c.self.view_is c.self.invariant c.args.f c.args.c c.requires.cell in
    let first = ap (λ h. h.first) (c.index.ensures ∙ at.head_is c.index.result.now) in
    again_shown c.self.inside.heads.items (vec_capacity c.self.inside.heads) c.self.inside.values c.self.inside.room c.self.inside.most c.args.self.now c.self.view_is c.self.invariant c.args.f c.args.c c.requires.cell
    (c.index.result.now.first + c.args.c) (ap (λ n. n + c.args.c) first) c.push_again.new.self c.push_again.ensures
