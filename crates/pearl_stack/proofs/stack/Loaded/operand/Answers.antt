use Rattle.std.proofs.Common.{◌≡◌, ◌+◌, List, get_or, Some, sym, ap, ◌∙◌, arith}
use Rattle.pearl_value.specs.declared.cell.Cell.{Cell}
use Rattle.pearl_stack.specs.declared.stack.Head.{Head}
use Rattle.pearl_stack.specs.Frames.{Frame}
use Rattle.pearl_stack.proofs.Holds.{Holds, operand_lies}
use Rattle.pearl_stack.proofs.stack.Loaded.operand.Goals as goal

pub index-head-requires : goal.index-head-requires
index-head-requires c =
    let heads : List Head = c.self.inside.heads.items in
    let values : List Cell = c.self.inside.values.items in
    let frames : List Frame = c.args.self.now.frames in
    let holds : Holds heads values frames = record { shows = ap (λ s. s.frames) c.self.view_is; divides = c.self.invariant.6 } in
    let at = operand_lies heads values frames holds c.args.f c.args.at c.requires in
    omega (arith, at.within, c.self.inside.heads.ok.0)

pub overflow_add-head : goal.overflow_add-head
overflow_add-head c =
    let heads : List Head = c.self.inside.heads.items in
    let values : List Cell = c.self.inside.values.items in
    let frames : List Frame = c.args.self.now.frames in
    let holds : Holds heads values frames = record { shows = ap (λ s. s.frames) c.self.view_is; divides = c.self.invariant.6 } in
    let at = operand_lies heads values frames holds c.args.f c.args.at c.requires in
    let head : c.index-head.result.now ≡ at.head = c.index-head.ensures ∙ at.head_is c.index-head.result.now in
    omega (arith, ap (λ h. h.first) head, ap (λ h. h.cells) head, at.inside, c.self.invariant.4, c.self.invariant.2)

pub overflow_add-head-2 : goal.overflow_add-head-2
overflow_add-head-2 c =
    let heads : List Head = c.self.inside.heads.items in
    let values : List Cell = c.self.inside.values.items in
    let frames : List Frame = c.args.self.now.frames in
    let holds : Holds heads values frames = record { shows = ap (λ s. s.frames) c.self.view_is; divides = c.self.invariant.6 } in
    let at = operand_lies heads values frames holds c.args.f c.args.at c.requires in
    let head : c.index-head.result.now ≡ at.head = c.index-head.ensures ∙ at.head_is c.index-head.result.now in
    omega (arith, ap (λ h. h.first) head, ap (λ h. h.cells) head, at.inside, c.self.invariant.4, c.self.invariant.2)

pub at-requires : goal.at-requires
at-requires c =
    let heads : List Head = c.self.inside.heads.items in
    let values : List Cell = c.self.inside.values.items in
    let frames : List Frame = c.args.self.now.frames in
    let holds : Holds heads values frames = record { shows = ap (λ s. s.frames) c.self.view_is; divides = c.self.invariant.6 } in
    let at = operand_lies heads values frames holds c.args.f c.args.at c.requires in
    let head : c.index-head.result.now ≡ at.head = c.index-head.ensures ∙ at.head_is c.index-head.result.now in
    omega (arith, ap (λ h. h.first) head, ap (λ h. h.cells) head, at.inside, c.self.invariant.4)

pub returns : goal.returns
returns c =
    let heads : List Head = c.self.inside.heads.items in
    let values : List Cell = c.self.inside.values.items in
    let frames : List Frame = c.args.self.now.frames in
    let holds : Holds heads values frames = record { shows = ap (λ s. s.frames) c.self.view_is; divides = c.self.invariant.6 } in
    let at = operand_lies heads values frames holds c.args.f c.args.at c.requires in
    let head : c.index-head.result.now ≡ at.head = c.index-head.ensures ∙ at.head_is c.index-head.result.now in
    let x : Cell = c.at.result.now in
    at.read x ∙ ap Some (sym (c.at.ensures ∙ ap (λ (h : Head). get_or values (h.first + h.cells + c.args.at) x) head))
