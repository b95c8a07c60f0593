use Rattle.std.proofs.Common.{suc, ◌-◌, List, Some, get_or, sym, ap, ◌∙◌, arith, vec_capacity}
use Rattle.pearl_value.specs.declared.cell.Cell.{Cell}
use Rattle.pearl_stack.proofs.Holds.{operand_above}
use Rattle.pearl_stack.proofs.Keeps.{holds_of, cut_fits}
use Rattle.pearl_stack.proofs.stack.Loaded.top.Goals as goal

pub overflow_sub-len : goal.overflow_sub-len
overflow_sub-len c =
    let fits = cut_fits c.self.inside.heads.items (vec_capacity c.self.inside.heads) c.self.inside.values c.self.inside.room c.self.inside.most c.args.self.now c.self.view_is c.self.invariant (suc c.args.above) (omega (arith, c.requires)) in
    omega (arith, fits, c.len.ensures)

pub overflow_sub-len-2 : goal.overflow_sub-len-2
overflow_sub-len-2 c =
    let fits = cut_fits c.self.inside.heads.items (vec_capacity c.self.inside.heads) c.self.inside.values c.self.inside.room c.self.inside.most c.args.self.now c.self.view_is c.self.invariant (suc c.args.above) (omega (arith, c.requires)) in
    omega (arith, fits, c.len.ensures)

pub at-requires : goal.at-requires
at-requires c =
    let fits = cut_fits c.self.inside.heads.items (vec_capacity c.self.inside.heads) c.self.inside.values c.self.inside.room c.self.inside.most c.args.self.now c.self.view_is c.self.invariant (suc c.args.above) (omega (arith, c.requires)) in
    omega (arith, fits, c.len.ensures)

pub returns : goal.returns
returns c =
    let values : List Cell = c.self.inside.values.items in
    let x : Cell = c.at.result.now in
    operand_above c.self.inside.heads.items values c.args.self.now.frames
    (holds_of c.self.inside.heads.items (vec_capacity c.self.inside.heads) c.self.inside.values c.self.inside.room c.self.inside.most c.args.self.now c.self.view_is c.self.invariant) c.args.above c.requires x
    ∙ ap Some (sym (c.at.ensures ∙ ap (λ n. get_or values (n - 1 - c.args.above) x) c.len.ensures))
