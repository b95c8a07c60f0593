use Rattle.std.proofs.Common.{◌≡◌, ℕ, suc, ◌+◌, ◌-◌, List, length, slice_get, Some, sym, ap, ◌∙◌, arith}
use Rattle.pearl_value.specs.declared.cell.Cell.{Cell}
use Rattle.pearl_stack.specs.declared.stack.Head.{Head}
use Rattle.pearl_stack.specs.Frames.{Frame, frame_at}
use Rattle.pearl_stack.specs.Memory.{first_or}
use Rattle.pearl_stack.proofs.Holds.{Holds, lies, sizes_lie, some_frame}
use Rattle.pearl_stack.proofs.stack.Loaded.frame.Goals as goal

pub index-head-requires : goal.index-head-requires
index-head-requires c =
    let heads : List Head = c.self.inside.heads.items in
    let values : List Cell = c.self.inside.values.items in
    let frames : List Frame = c.args.self.now.frames in
    let holds : Holds heads values frames = record { shows = ap (λ s. s.frames) c.self.view_is; divides = c.self.invariant.6 } in
    let found = some_frame (frame_at frames c.args.f) c.requires in
    let l = lies heads values frames holds c.args.f found.0 found.1 in
    omega (arith, l.within, c.self.inside.heads.ok.0)

pub overflow_sub-result : goal.overflow_sub-result
overflow_sub-result c =
    let heads : List Head = c.self.inside.heads.items in
    let values : List Cell = c.self.inside.values.items in
    let frames : List Frame = c.args.self.now.frames in
    let holds : Holds heads values frames = record { shows = ap (λ s. s.frames) c.self.view_is; divides = c.self.invariant.6 } in
    let found = some_frame (frame_at frames c.args.f) c.requires in
    let l = lies heads values frames holds c.args.f found.0 found.1 in
    let head : c.index-head.result.now ≡ l.head = c.index-head.ensures ∙ l.head_is c.index-head.result.now in
    let above : c.args.f + 1 ≡ suc c.args.f = omega arith in
    let all : c.len.result ≡ length values = omega (arith, c.len.ensures, c.self.invariant.4) in
    let end : c.values_end-end.result ≡ l.stop = c.values_end-end.ensures
    ∙ (ap (λ hs. first_or c.len.result (slice_get hs (c.args.f + 1))) c.as_slice.ensures.value
    ∙ (ap (λ n. first_or n (slice_get heads (c.args.f + 1))) all ∙ (ap (λ n. first_or (length values) (slice_get heads n)) above ∙ l.ends))) in
    omega (arith, end, ap (λ h. h.first) head, l.fits)

pub overflow_cast-result : goal.overflow_cast-result
overflow_cast-result c =
    let heads : List Head = c.self.inside.heads.items in
    let values : List Cell = c.self.inside.values.items in
    let frames : List Frame = c.args.self.now.frames in
    let holds : Holds heads values frames = record { shows = ap (λ s. s.frames) c.self.view_is; divides = c.self.invariant.6 } in
    let found = some_frame (frame_at frames c.args.f) c.requires in
    let l = lies heads values frames holds c.args.f found.0 found.1 in
    let head : c.index-head.result.now ≡ l.head = c.index-head.ensures ∙ l.head_is c.index-head.result.now in
    let above : c.args.f + 1 ≡ suc c.args.f = omega arith in
    let all : c.len.result ≡ length values = omega (arith, c.len.ensures, c.self.invariant.4) in
    let end : c.values_end-end.result ≡ l.stop = c.values_end-end.ensures
    ∙ (ap (λ hs. first_or c.len.result (slice_get hs (c.args.f + 1))) c.as_slice.ensures.value
    ∙ (ap (λ n. first_or n (slice_get heads (c.args.f + 1))) all ∙ (ap (λ n. first_or (length values) (slice_get heads n)) above ∙ l.ends))) in
    omega (arith, end, l.inside, c.self.invariant.2, c.self.invariant.4)

pub overflow_sub-result-2 : goal.overflow_sub-result-2
overflow_sub-result-2 c =
    let heads : List Head = c.self.inside.heads.items in
    let values : List Cell = c.self.inside.values.items in
    let frames : List Frame = c.args.self.now.frames in
    let holds : Holds heads values frames = record { shows = ap (λ s. s.frames) c.self.view_is; divides = c.self.invariant.6 } in
    let found = some_frame (frame_at frames c.args.f) c.requires in
    let l = lies heads values frames holds c.args.f found.0 found.1 in
    let head : c.index-head.result.now ≡ l.head = c.index-head.ensures ∙ l.head_is c.index-head.result.now in
    let above : c.args.f + 1 ≡ suc c.args.f = omega arith in
    let all : c.len.result ≡ length values = omega (arith, c.len.ensures, c.self.invariant.4) in
    let end : c.values_end-end.result ≡ l.stop = c.values_end-end.ensures
    ∙ (ap (λ hs. first_or c.len.result (slice_get hs (c.args.f + 1))) c.as_slice.ensures.value
    ∙ (ap (λ n. first_or n (slice_get heads (c.args.f + 1))) all ∙ (ap (λ n. first_or (length values) (slice_get heads n)) above ∙ l.ends))) in
    omega (arith, end, ap (λ h. h.first) head, ap (λ h. h.cells) head, l.fits)

pub returns : goal.returns
returns c =
    let heads : List Head = c.self.inside.heads.items in
    let values : List Cell = c.self.inside.values.items in
    let frames : List Frame = c.args.self.now.frames in
    let holds : Holds heads values frames = record { shows = ap (λ s. s.frames) c.self.view_is; divides = c.self.invariant.6 } in
    let found = some_frame (frame_at frames c.args.f) c.requires in
    let l = lies heads values frames holds c.args.f found.0 found.1 in
    let head : c.index-head.result.now ≡ l.head = c.index-head.ensures ∙ l.head_is c.index-head.result.now in
    let above : c.args.f + 1 ≡ suc c.args.f = omega arith in
    let all : c.len.result ≡ length values = omega (arith, c.len.ensures, c.self.invariant.4) in
    let end : c.values_end-end.result ≡ l.stop = c.values_end-end.ensures
    ∙ (ap (λ hs. first_or c.len.result (slice_get hs (c.args.f + 1))) c.as_slice.ensures.value
    ∙ (ap (λ n. first_or n (slice_get heads (c.args.f + 1))) all ∙ (ap (λ n. first_or (length values) (slice_get heads n)) above ∙ l.ends))) in
    sizes_lie heads values frames c.args.f found.0 l found.1
    ∙ sym (ap (λ (h : Head). Some (record { routine = h.routine; instruction = h.instruction; cells = h.cells; operands = c.values_end-end.result - h.first - h.cells })) head
    ∙ ap (λ (n : ℕ). Some (record { routine = l.head.routine; instruction = l.head.instruction; cells = l.head.cells; operands = n - l.head.first - l.head.cells })) end)
