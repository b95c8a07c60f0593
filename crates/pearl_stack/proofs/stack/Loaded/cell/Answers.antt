use Rattle.std.proofs.Common.{◌+◌, List, get_or, Some, sym, ap, ◌∙◌, arith}
use Rattle.pearl_value.specs.declared.cell.Cell.{Cell}
use Rattle.pearl_stack.specs.declared.stack.Head.{Head}
use Rattle.pearl_stack.specs.Frames.{Frame}
use Rattle.pearl_stack.proofs.Holds.{Holds, cell_lies}
use Rattle.pearl_stack.proofs.stack.Loaded.cell.Goals as goal

pub index-requires : goal.index-requires
index-requires c =
    let heads : List Head = c.self.inside.heads.items in
    let values : List Cell = c.self.inside.values.items in
    let frames : List Frame = c.args.self.now.frames in
    let holds : Holds heads values frames = record { shows = ap (λ s. s.frames) c.self.view_is; divides = c.self.invariant.6 } in
    let at = cell_lies heads values frames holds c.args.f c.args.c c.requires in
    omega (arith, at.within, c.self.inside.heads.ok.0)

pub overflow_add-index : goal.overflow_add-index
overflow_add-index c =
    let heads : List Head = c.self.inside.heads.items in
    let values : List Cell = c.self.inside.values.items in
    let frames : List Frame = c.args.self.now.frames in
    let holds : Holds heads values frames = record { shows = ap (λ s. s.frames) c.self.view_is; divides = c.self.invariant.6 } in
    let at = cell_lies heads values frames holds c.args.f c.args.c c.requires in
    let first = ap (λ h. h.first) (c.index.ensures ∙ at.head_is c.index.result.now) in
    omega (arith, first, at.inside, c.self.invariant.4, c.self.invariant.2)

pub at-requires : goal.at-requires
at-requires c =
    let heads : List Head = c.self.inside.heads.items in
    let values : List Cell = c.self.inside.values.items in
    let frames : List Frame = c.args.self.now.frames in
    let holds : Holds heads values frames = record { shows = ap (λ s. s.frames) c.self.view_is; divides = c.self.invariant.6 } in
    let at = cell_lies heads values frames holds c.args.f c.args.c c.requires in
    let first = ap (λ h. h.first) (c.index.ensures ∙ at.head_is c.index.result.now) in
    omega (arith, first, at.inside, c.self.invariant.4)

pub returns : goal.returns
returns c =
    let heads : List Head = c.self.inside.heads.items in
    let values : List Cell = c.self.inside.values.items in
    let frames : List Frame = c.args.self.now.frames in
    let holds : Holds heads values frames = record { shows = ap (λ s. s.frames) c.self.view_is; divides = c.self.invariant.6 } in
    let at = cell_lies heads values frames holds c.args.f c.args.c c.requires in
    let first = ap (λ h. h.first) (c.index.ensures ∙ at.head_is c.index.result.now) in
    let x : Cell = c.at.result.now in
    at.read x ∙ ap Some (sym (c.at.ensures ∙ ap (λ n. get_or values (n + c.args.c) x) first))
