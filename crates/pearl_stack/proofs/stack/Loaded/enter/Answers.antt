use Rattle.std.proofs.Common.{◌≡◌, ◌+◌, ◌-◌, ◌≤◌, List, [], ◌∷◌, ◌++◌, length, reverse, replicate, cond, sym, ap, ◌∙◌, subst, arith, length-append}
use Rattle.std.specs.Prelude.{is_ok}
use Rattle.std.proofs.lemmas.List.{length-replicate}
use Rattle.pearl_value.specs.declared.cell.Cell.{Cell}
use Rattle.pearl_stack.specs.declared.stack.Head.{Head}
use Rattle.pearl_stack.specs.Frames.{Frame, top_operands, unset, entered}
use Rattle.pearl_stack.specs.Memory.{frames_of, Divides}
use Rattle.pearl_stack.proofs.Holds.{Holds, filled, high, enters, top_within, stack_with}
use Rattle.pearl_stack.proofs.stack.Loaded.enter.Goals as goal

pub overflow_sub-head : goal.overflow_sub-head
overflow_sub-head c =
    let heads : List Head = c.self.inside.heads.items in
    let values : List Cell = c.self.inside.values.items in
    let frames : List Frame = c.args.self.now.frames in
    let holds : Holds heads values frames = record { shows = ap (λ s. s.frames) c.self.view_is; divides = c.self.invariant.6 } in
    omega (arith, c.len.ensures, c.self.invariant.4, top_within heads values frames holds, c.requires.operands)

pub fill-requires : goal.fill-requires
fill-requires c =
    let heads : List Head = c.self.inside.heads.items in
    let values : List Cell = c.self.inside.values.items in
    let frames : List Frame = c.args.self.now.frames in
    let holds : Holds heads values frames = record { shows = ap (λ s. s.frames) c.self.view_is; divides = c.self.invariant.6 } in
    let room = ap (λ s. s.room) c.self.view_is in
    let most = ap (λ s. s.most) c.self.view_is in
    omega (arith, filled heads values frames holds, room, c.requires.room, c.self.invariant.0)

pub unwrap-requires : goal.unwrap-requires
unwrap-requires c =
    let heads : List Head = c.self.inside.heads.items in
    let values : List Cell = c.self.inside.values.items in
    let frames : List Frame = c.args.self.now.frames in
    let holds : Holds heads values frames = record { shows = ap (λ s. s.frames) c.self.view_is; divides = c.self.invariant.6 } in
    let room = ap (λ s. s.room) c.self.view_is in
    let most = ap (λ s. s.most) c.self.view_is in
    c.push.ensures.succeeds (omega (arith, high heads values frames holds, most, c.requires.frame, c.self.invariant.1, c.self.inside.heads.ok.0))

pub invariant_of-self : goal.invariant_of-self
invariant_of-self c =
    let heads : List Head = c.self.inside.heads.items in
    let values : List Cell = c.self.inside.values.items in
    let frames : List Frame = c.args.self.now.frames in
    let holds : Holds heads values frames = record { shows = ap (λ s. s.frames) c.self.view_is; divides = c.self.invariant.6 } in
    let room = ap (λ s. s.room) c.self.view_is in
    let most = ap (λ s. s.most) c.self.view_is in
    let within : length (top_operands frames) ≤ length values = top_within heads values frames holds in
    let n : c.len.result ≡ length values = omega (arith, c.len.ensures, c.self.invariant.4) in
    let zs : List Cell = replicate (c.args.cells - c.args.params) unset in
    let wide : length zs ≡ c.args.cells - c.args.params = length-replicate (c.args.cells - c.args.params) unset in
    let pushed_on : List Head = heads ++ record { routine = c.args.routine; cells = c.args.cells; instruction = 0; first = c.len.result - c.args.params } ∷ [] in
    let heads_are : c.push.new.self.items ≡ pushed_on = c.push.ensures.items ∙ ap (λ r. cond (is_ok r) pushed_on heads) c.unwrap.ensures in
    let now = enters heads values frames holds (record { routine = c.args.routine; cells = c.args.cells; instruction = 0; first = c.len.result - c.args.params })
    zs c.args.params c.requires.operands (omega (arith, n)) (omega (arith, wide, c.requires.params)) in
    let long : length c.fill.new.values.items ≡ length values + (c.args.cells - c.args.params) = ap length c.fill.ensures.items ∙ (length-append values zs ∙ ap (λ k. length values + k) wide) in
    let higher : length c.push.new.self.items ≡ length heads + 1 = ap length heads_are ∙ length-append heads (record { routine = c.args.routine; cells = c.args.cells; instruction = 0; first = c.len.result - c.args.params } ∷ []) in (
      omega (arith, c.fill.ensures.room, c.self.invariant.0),
      omega (arith, c.push.ensures.capacity, c.self.invariant.1),
      c.self.invariant.2,
      c.self.invariant.3,
      omega (arith, long, filled heads values frames holds, room, c.requires.room),
      omega (arith, higher, high heads values frames holds, most, c.requires.frame),
      subst (λ hs. Divides (reverse hs) (length c.fill.new.values.items)) (sym heads_are) (subst (λ vs. Divides (reverse pushed_on) (length vs)) (sym c.fill.ensures.items) now.divides),
    )

pub returns : goal.returns
returns c =
    let heads : List Head = c.self.inside.heads.items in
    let values : List Cell = c.self.inside.values.items in
    let frames : List Frame = c.args.self.now.frames in
    let holds : Holds heads values frames = record { shows = ap (λ s. s.frames) c.self.view_is; divides = c.self.invariant.6 } in
    let room = ap (λ s. s.room) c.self.view_is in
    let most = ap (λ s. s.most) c.self.view_is in
    let within : length (top_operands frames) ≤ length values = top_within heads values frames holds in
    let n : c.len.result ≡ length values = omega (arith, c.len.ensures, c.self.invariant.4) in
    let zs : List Cell = replicate (c.args.cells - c.args.params) unset in
    let wide : length zs ≡ c.args.cells - c.args.params = length-replicate (c.args.cells - c.args.params) unset in
    let pushed_on : List Head = heads ++ record { routine = c.args.routine; cells = c.args.cells; instruction = 0; first = c.len.result - c.args.params } ∷ [] in
    let heads_are : c.push.new.self.items ≡ pushed_on = c.push.ensures.items ∙ ap (λ r. cond (is_ok r) pushed_on heads) c.unwrap.ensures in
    let now = enters heads values frames holds (record { routine = c.args.routine; cells = c.args.cells; instruction = 0; first = c.len.result - c.args.params })
    zs c.args.params c.requires.operands (omega (arith, n)) (omega (arith, wide, c.requires.params)) in
    let next : List Frame = entered c.args.routine c.args.params c.args.cells frames in
    ap (λ fs. stack_with fs c.self.inside.room c.self.inside.most)
    (ap (λ hs. frames_of (reverse hs) c.fill.new.values.items) heads_are ∙ (ap (λ vs. frames_of (reverse pushed_on) vs) c.fill.ensures.items ∙ now.shows))
    ∙ (ap (λ n. stack_with next n c.self.inside.most) room ∙ ap (stack_with next c.args.self.now.room) most)
