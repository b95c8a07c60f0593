use Rattle.std.proofs.Common.{◌≡◌, ◌-◌, List, length, reverse, get_or, set, sym, ap, ◌∙◌, subst, arith, length-set}
use Rattle.pearl_value.specs.declared.cell.Cell.{Cell}
use Rattle.pearl_stack.specs.declared.stack.Head.{Head}
use Rattle.pearl_stack.specs.Frames.{Frame, moved}
use Rattle.pearl_stack.specs.Memory.{frames_of, Divides}
use Rattle.pearl_stack.proofs.Holds.{Holds, goes, stack_with}
use Rattle.pearl_stack.proofs.stack.Loaded.go.Goals as goal

pub invariant_of-self : goal.invariant_of-self
invariant_of-self c =
    let heads : List Head = c.self.inside.heads.items in
    let values : List Cell = c.self.inside.values.items in
    let frames : List Frame = c.args.self.now.frames in
    let holds : Holds heads values frames = record { shows = ap (λ s. s.frames) c.self.view_is; divides = c.self.invariant.6 } in
    let n : c.len-last.result ≡ length heads = omega (arith, c.len-last.ensures, c.self.inside.heads.ok.0) in
    let old : Head = c.index_mut.result.now in
    let at : old ≡ get_or heads (length heads - 1) old = c.index_mut.ensures.value ∙ ap (λ n. get_or heads (n - 1) old) n in
    let now = goes heads values frames holds c.requires c.args.instruction old at in
    let same = ap (λ n. set heads (n - 1) (record old { instruction = c.args.instruction })) n in (
      c.self.invariant.0,
      c.self.invariant.1,
      c.self.invariant.2,
      c.self.invariant.3,
      c.self.invariant.4,
      omega (arith, length-set heads (c.len-last.result - 1) (record old { instruction = c.args.instruction }), c.self.invariant.5),
      subst (λ hs. Divides (reverse hs) (length values)) (sym same) now.divides,
    )

pub returns : goal.returns
returns c =
    let heads : List Head = c.self.inside.heads.items in
    let values : List Cell = c.self.inside.values.items in
    let frames : List Frame = c.args.self.now.frames in
    let holds : Holds heads values frames = record { shows = ap (λ s. s.frames) c.self.view_is; divides = c.self.invariant.6 } in
    let room = ap (λ s. s.room) c.self.view_is in
    let most = ap (λ s. s.most) c.self.view_is in
    let n : c.len-last.result ≡ length heads = omega (arith, c.len-last.ensures, c.self.inside.heads.ok.0) in
    let old : Head = c.index_mut.result.now in
    let at : old ≡ get_or heads (length heads - 1) old = c.index_mut.ensures.value ∙ ap (λ n. get_or heads (n - 1) old) n in
    let now = goes heads values frames holds c.requires c.args.instruction old at in
    let same = ap (λ n. frames_of (reverse (set heads (n - 1) (record old { instruction = c.args.instruction }))) values) n in
    ap (λ fs. stack_with fs c.self.inside.room c.self.inside.most) (same ∙ now.shows)
    ∙ (ap (λ n. stack_with (moved c.args.instruction frames) n c.self.inside.most) room ∙ ap (stack_with (moved c.args.instruction frames) c.args.self.now.room) most)
