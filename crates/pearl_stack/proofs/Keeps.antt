-- What each call keeps of the memory of a stack, and what it makes of the stack.
use Rattle.std.proofs.Common.{◌≡◌, ◌≢◌, ℕ, suc, ◌+◌, ◌-◌, ◌^◌, ◌<◌, ◌≤◌, List, [], ◌∷◌, ◌++◌, Option, Some, None, length, take, drop, reverse, get_or, set, slice_get, refl, sym, ap, ◌∙◌, subst, arith, length-append, length-take-le}
use Rattle.std.specs.Prelude.{IsSome, option_map}
use Rattle.std.proofs.lemmas.List.{set_split, drop_all, take_more_set}
use Rattle.std.proofs.lemmas.Option.{get_or_from_slice_get}
use Rattle.pearl_value.specs.declared.cell.Cell.{Cell}
use Rattle.pearl_stack.specs.declared.stack.Head.{Head}
use Rattle.pearl_stack.specs.Frames.{Frame, Stack, cell_at, top_operands, used, pushed, popped, without, with_cell}
use Rattle.pearl_stack.specs.Held.{Held}
use Rattle.pearl_stack.specs.Memory.{frames_of, Divides}
use Rattle.pearl_stack.proofs.Holds.{Holds, CellLies, cell_lies, filled, pushes, stack_with, cuts, operand_above, leaves, first_within}
use Rattle.pearl_stack.proofs.Written.{held}

-- what holds of the memory of a stack, whose heads have room for so many
abbrev pub Kept : List Head → ℕ → Held → ℕ → ℕ → Type 0
Kept heads capacity values room most =
    (room ≤ values.room) × (most ≤ capacity) × (room < 2 ^ 32) × (most < 2 ^ 32)
    × (length values.items ≤ room) × (length heads ≤ most) × Divides (reverse heads) (length values.items)

-- the stack that memory shows
abbrev pub shown : List Head → Held → ℕ → ℕ → Stack
shown heads values room most = stack_with (frames_of (reverse heads) values.items) room most

pub holds_of : (heads : List Head) (capacity : ℕ) (values : Held) (room most : ℕ) (s : Stack) → shown heads values room most ≡ s → Kept heads capacity values room most →
    Holds heads values.items s.frames
holds_of heads capacity values room most s view kept = record { shows = ap (λ (s : Stack). s.frames) view; divides = kept.6 }

same_frames : (heads : List Head) (values new : Held) (room most : ℕ) (s : Stack) (frames : List Frame) → shown heads values room most ≡ s → frames_of (reverse heads) new.items ≡ frames →
    shown heads new room most ≡ record s { frames = frames }
same_frames heads values new room most s frames view now =
    ap (λ fs. stack_with fs room most) now
    ∙ (ap (λ (s : Stack). stack_with frames s.room most) view ∙ ap (λ (t : Stack). stack_with frames s.room t.most) view)

-- one more operand

pub push_fits : (heads : List Head) (capacity : ℕ) (values : Held) (room most : ℕ) (s : Stack) → shown heads values room most ≡ s → Kept heads capacity values room most →
    used s.frames < s.room → length values.items < values.room
push_fits heads capacity values room most s view kept less =
    let long = filled heads values.items s.frames (holds_of heads capacity values room most s view kept) in
    let same = ap (λ (s : Stack). s.room) view in
    omega (arith, long, same, less, kept.0)

pub push_kept : (heads : List Head) (capacity : ℕ) (values : Held) (room most : ℕ) (s : Stack) → shown heads values room most ≡ s → Kept heads capacity values room most →
    s.frames ≢ [] → used s.frames < s.room → (x : Cell) (new : Held) → new ≡ held (values.items ++ x ∷ []) values.room → Kept heads capacity new room most
push_kept heads capacity values room most s view kept some less x new e =
    let holds = holds_of heads capacity values room most s view kept in
    let long = filled heads values.items s.frames holds in
    let same = ap (λ (s : Stack). s.room) view in
    let now = pushes heads values.items s.frames holds some x in
    let more : length (values.items ++ x ∷ []) ≡ length values.items + 1 = length-append values.items (x ∷ []) in
    subst (λ (v : Held). Kept heads capacity v room most) (sym e)
    (kept.0, kept.1, kept.2, kept.3, omega (arith, more, long, same, less), kept.5, now.divides)

pub push_shown : (heads : List Head) (capacity : ℕ) (values : Held) (room most : ℕ) (s : Stack) → shown heads values room most ≡ s → Kept heads capacity values room most →
    s.frames ≢ [] → (x : Cell) (new : Held) → new ≡ held (values.items ++ x ∷ []) values.room → shown heads new room most ≡ record s { frames = pushed x s.frames }
push_shown heads capacity values room most s view kept some x new e =
    let now = pushes heads values.items s.frames (holds_of heads capacity values room most s view kept) some x in
    same_frames heads values new room most s (pushed x s.frames) view (ap (λ (v : Held). frames_of (reverse heads) v.items) e ∙ now.shows)

-- fewer operands

pub cut_fits : (heads : List Head) (capacity : ℕ) (values : Held) (room most : ℕ) (s : Stack) → shown heads values room most ≡ s → Kept heads capacity values room most →
    (n : ℕ) → n ≤ length (top_operands s.frames) → n ≤ length values.items
cut_fits heads capacity values room most s view kept n less = (cuts heads values.items s.frames (holds_of heads capacity values room most s view kept) n less).within

pub cut_kept : (heads : List Head) (capacity : ℕ) (values : Held) (room most : ℕ) (s : Stack) → shown heads values room most ≡ s → Kept heads capacity values room most →
    (n : ℕ) → n ≤ length (top_operands s.frames) → (new : Held) → new ≡ held (take (length values.items - n) values.items) values.room → Kept heads capacity new room most
cut_kept heads capacity values room most s view kept n less new e =
    let now = cuts heads values.items s.frames (holds_of heads capacity values room most s view kept) n less in
    let short : length (take (length values.items - n) values.items) ≡ length values.items - n = length-take-le (length values.items - n) values.items (omega arith) in
    subst (λ (v : Held). Kept heads capacity v room most) (sym e)
    (kept.0, kept.1, kept.2, kept.3, omega (arith, short, kept.4), kept.5, now.rest.divides)

pub cut_shown : (heads : List Head) (capacity : ℕ) (values : Held) (room most : ℕ) (s : Stack) → shown heads values room most ≡ s → Kept heads capacity values room most →
    (n : ℕ) → n ≤ length (top_operands s.frames) → (new : Held) → new ≡ held (take (length values.items - n) values.items) values.room →
    shown heads new room most ≡ record s { frames = without n s.frames }
cut_shown heads capacity values room most s view kept n less new e =
    let now = cuts heads values.items s.frames (holds_of heads capacity values room most s view kept) n less in
    same_frames heads values new room most s (without n s.frames) view (ap (λ (v : Held). frames_of (reverse heads) v.items) e ∙ now.rest.shows)

-- another value in a cell

pub lies_of : (heads : List Head) (capacity : ℕ) (values : Held) (room most : ℕ) (s : Stack) → shown heads values room most ≡ s → Kept heads capacity values room most →
    (n c : ℕ) → IsSome (cell_at s.frames n c) → CellLies heads values.items s.frames n c
lies_of heads capacity values room most s view kept n c there = cell_lies heads values.items s.frames (holds_of heads capacity values room most s view kept) n c there

pub set_shown : (heads : List Head) (capacity : ℕ) (values : Held) (room most : ℕ) (s : Stack) (view : shown heads values room most ≡ s) (kept : Kept heads capacity values room most)
    (n c : ℕ) (there : IsSome (cell_at s.frames n c)) (i : ℕ) → i ≡ (lies_of heads capacity values room most s view kept n c there).head.first + c →
    (x : Cell) (new : Held) → new ≡ held (set values.items i x) values.room → shown heads new room most ≡ record s { frames = with_cell s.frames n c x }
set_shown heads capacity values room most s view kept n c there i at x new e =
    let lies = lies_of heads capacity values room most s view kept n c there in
    same_frames heads values new room most s (with_cell s.frames n c x) view
    (ap (λ (v : Held). frames_of (reverse heads) v.items) e ∙ (ap (λ k. frames_of (reverse heads) (set values.items k x)) at ∙ (lies.written x).shows))

-- the top operand

operand_some : (frames : List Frame) → 0 < length (top_operands frames) → frames ≢ []
operand_some [] less = absurd (omega (arith, less))
operand_some (f ∷ below) less = λ e. cc

without_some : (n : ℕ) (frames : List Frame) → frames ≢ [] → without n frames ≢ []
without_some n [] some = absurd (some refl)
without_some n (f ∷ below) some = λ e. cc

set_end : (xs : List Cell) (x : Cell) → 0 < length xs → set xs (length xs - 1) x ≡ take (length xs - 1) xs ++ x ∷ []
set_end xs x some =
    set_split xs (length xs - 1) x (omega (arith, some))
    ∙ ap (λ ys. take (length xs - 1) xs ++ x ∷ ys) (drop_all (suc (length xs - 1)) xs (omega (arith, some)))

top_read : (heads : List Head) (capacity : ℕ) (values : Held) (room most : ℕ) (s : Stack) → shown heads values room most ≡ s → Kept heads capacity values room most →
    0 < length (top_operands s.frames) → (last : ℕ) → last ≡ length values.items - 1 → (x : Cell) → slice_get values.items last ≡ Some x → slice_get (top_operands s.frames) 0 ≡ Some x
top_read heads capacity values room most s view kept operand last end x e =
    let zero_less : length values.items - 1 - 0 ≡ last = omega (arith, end) in
    operand_above heads values.items s.frames (holds_of heads capacity values room most s view kept) 0 operand x
    ∙ (ap (λ k. Some (get_or values.items k x)) zero_less ∙ ap Some (get_or_from_slice_get values.items last x x e))

-- a copy of one of the values

some_of : (o : Option Cell) (go : Cell → Held) (new : Held) → option_map go o ≡ Some new → (x : Cell) × (o ≡ Some x) × (go x ≡ new)
some_of None go new e = cc
some_of (Some x) go new e = (x, refl, cc)

-- a copy of a cell, as one more operand

pub again_kept : (heads : List Head) (capacity : ℕ) (values : Held) (room most : ℕ) (s : Stack) → shown heads values room most ≡ s → Kept heads capacity values room most →
    s.frames ≢ [] → used s.frames < s.room → (from : ℕ) (new : Held) →
    option_map (λ x. held (values.items ++ x ∷ []) values.room) (slice_get values.items from) ≡ Some new → Kept heads capacity new room most
again_kept heads capacity values room most s view kept some less from new e =
    let is = some_of (slice_get values.items from) (λ x. held (values.items ++ x ∷ []) values.room) new e in
    push_kept heads capacity values room most s view kept some less is.0 new (sym is.2)

pub cell_some : (frames : List Frame) (n c : ℕ) → IsSome (cell_at frames n c) → frames ≢ []
cell_some [] n c there = cc
cell_some (f ∷ below) n c there = λ e. cc

pub again_shown : (heads : List Head) (capacity : ℕ) (values : Held) (room most : ℕ) (s : Stack) (view : shown heads values room most ≡ s) (kept : Kept heads capacity values room most)
    (n c : ℕ) (there : IsSome (cell_at s.frames n c)) (from : ℕ) → from ≡ (lies_of heads capacity values room most s view kept n c there).head.first + c → (new : Held) →
    option_map (λ x. held (values.items ++ x ∷ []) values.room) (slice_get values.items from) ≡ Some new →
    option_map (λ x. record s { frames = pushed x s.frames }) (cell_at s.frames n c) ≡ Some (shown heads new room most)
again_shown heads capacity values room most s view kept n c there from at new e =
    let lies = lies_of heads capacity values room most s view kept n c there in
    let is = some_of (slice_get values.items from) (λ x. held (values.items ++ x ∷ []) values.room) new e in
    let x : Cell = is.0 in
    let read : cell_at s.frames n c ≡ Some x =
    lies.read x ∙ (ap (λ k. Some (get_or values.items k x)) (sym at) ∙ ap Some (get_or_from_slice_get values.items from x x is.1)) in
    ap (option_map (λ x. record s { frames = pushed x s.frames })) read
    ∙ ap Some (sym (push_shown heads capacity values room most s view kept (cell_some s.frames n c there) x new (sym is.2)))

-- a copy of the top operand, in a cell
pub copy_shown : (heads : List Head) (capacity : ℕ) (values : Held) (room most : ℕ) (s : Stack) (view : shown heads values room most ≡ s) (kept : Kept heads capacity values room most) →
    0 < length (top_operands s.frames) → (n c : ℕ) (there : IsSome (cell_at s.frames n c)) (i last : ℕ) →
    i ≡ (lies_of heads capacity values room most s view kept n c there).head.first + c → last ≡ length values.items - 1 → (new : Held) →
    option_map (λ x. held (set values.items i x) values.room) (slice_get values.items last) ≡ Some new →
    option_map (λ x. record s { frames = with_cell s.frames n c x }) (slice_get (top_operands s.frames) 0) ≡ Some (shown heads new room most)
copy_shown heads capacity values room most s view kept operand n c there i last at end new e =
    let is = some_of (slice_get values.items last) (λ x. held (set values.items i x) values.room) new e in
    let x : Cell = is.0 in
    let read = top_read heads capacity values room most s view kept operand last end x is.1 in
    ap (option_map (λ x. record s { frames = with_cell s.frames n c x })) read
    ∙ ap Some (sym (set_shown heads capacity values room most s view kept n c there i at x new (sym is.2)))

-- another top operand
pub top_shown : (heads : List Head) (capacity : ℕ) (values : Held) (room most : ℕ) (s : Stack) → shown heads values room most ≡ s → Kept heads capacity values room most →
    0 < length (top_operands s.frames) → (last : ℕ) → last ≡ length values.items - 1 → (x : Cell) (new : Held) → new ≡ held (set values.items last x) values.room →
    shown heads new room most ≡ record s { frames = pushed x (without 1 s.frames) }
top_shown heads capacity values room most s view kept operand last end x new e =
    let holds = holds_of heads capacity values room most s view kept in
    let cut = cuts heads values.items s.frames holds 1 (omega (arith, operand)) in
    let now = pushes heads (take (length values.items - 1) values.items) (without 1 s.frames) cut.rest (without_some 1 s.frames (operand_some s.frames operand)) x in
    same_frames heads values new room most s (pushed x (without 1 s.frames)) view
    (ap (λ (v : Held). frames_of (reverse heads) v.items) e
    ∙ (ap (λ k. frames_of (reverse heads) (set values.items k x)) end ∙ (ap (frames_of (reverse heads)) (set_end values.items x (omega (arith, cut.within))) ∙ now.shows)))

-- a top operand of which something else is made
pub changed_shown : (heads : List Head) (capacity : ℕ) (values : Held) (room most : ℕ) (s : Stack) → shown heads values room most ≡ s → Kept heads capacity values room most →
    0 < length (top_operands s.frames) → (last : ℕ) → last ≡ length values.items - 1 → (change : Cell → Cell) (new : Held) →
    option_map (λ x. held (set values.items last (change x)) values.room) (slice_get values.items last) ≡ Some new →
    option_map (λ x. record s { frames = pushed (change x) (popped s.frames) }) (slice_get (top_operands s.frames) 0) ≡ Some (shown heads new room most)
changed_shown heads capacity values room most s view kept operand last end change new e =
    let is = some_of (slice_get values.items last) (λ x. held (set values.items last (change x)) values.room) new e in
    let x : Cell = is.0 in
    let read = top_read heads capacity values room most s view kept operand last end x is.1 in
    ap (option_map (λ x. record s { frames = pushed (change x) (popped s.frames) })) read
    ∙ ap Some (sym (top_shown heads capacity values room most s view kept operand last end (change x) new (sym is.2)))

-- the top frame is left, but for its top operand

pub record LeavesWith (heads : List Head) (capacity : ℕ) (values : Held) (room most : ℕ) (s : Stack) (new : List Head) (now : Held) : Type 0 where
  pub kept : Kept new capacity now room most
  pub shows : option_map (λ x. record s { frames = pushed x (drop 1 s.frames) }) (slice_get (top_operands s.frames) 0) ≡ Some (shown new now room most)

pub leaves_with : (heads : List Head) (capacity : ℕ) (values : Held) (room most : ℕ) (s : Stack) → shown heads values room most ≡ s → Kept heads capacity values room most →
    0 < length (top_operands s.frames) → drop 1 s.frames ≢ [] → (d : Head) (first last : ℕ) → first ≡ (get_or heads (length heads - 1) d).first → last ≡ length values.items - 1 →
    (mid now : Held) → option_map (λ x. held (set values.items first x) values.room) (slice_get values.items last) ≡ Some mid →
    now ≡ held (take (first + 1) mid.items) mid.room → LeavesWith heads capacity values room most s (take (length heads - 1) heads) now
leaves_with heads capacity values room most s view kept operand below d first last begins end mid now e cut =
    let holds = holds_of heads capacity values room most s view kept in
    let some = operand_some s.frames operand in
    let is = some_of (slice_get values.items last) (λ x. held (set values.items first x) values.room) mid e in
    let x : Cell = is.0 in
    let read = top_read heads capacity values room most s view kept operand last end x is.1 in
    let within = first_within heads values.items s.frames holds some operand d in
    let left = leaves heads values.items s.frames holds some d in
    let fewer : List Head = take (length heads - 1) heads in
    let rest : List Cell = take first values.items in
    let left_at : Holds fewer rest (drop 1 s.frames) = subst (λ n. Holds fewer (take n values.items) (drop 1 s.frames)) (sym begins) left in
    let pushed_on = pushes fewer rest (drop 1 s.frames) left_at below x in
    let items : now ≡ held (rest ++ x ∷ []) values.room =
    cut ∙ (ap (λ (v : Held). held (take (first + 1) v.items) v.room) (sym is.2)
    ∙ ap (λ xs. held xs values.room) (take_more_set values.items first x (omega (arith, within, begins)))) in
    let short : length rest ≡ first = length-take-le first values.items (omega (arith, within, begins)) in
    let more : length (rest ++ x ∷ []) ≡ length rest + 1 = length-append rest (x ∷ []) in
    let lower : length fewer ≡ length heads - 1 = length-take-le (length heads - 1) heads (omega arith) in
    let shows : shown fewer now room most ≡ record s { frames = pushed x (drop 1 s.frames) } =
    ap (λ (v : Held). stack_with (frames_of (reverse fewer) v.items) room most) items
    ∙ (ap (λ fs. stack_with fs room most) pushed_on.shows
    ∙ (ap (λ (t : Stack). stack_with (pushed x (drop 1 s.frames)) t.room most) view ∙ ap (λ (t : Stack). stack_with (pushed x (drop 1 s.frames)) s.room t.most) view)) in
    record {
      kept = subst (λ (v : Held). Kept fewer capacity v room most) (sym items)
          (kept.0, kept.1, kept.2, kept.3, omega (arith, more, short, within, begins, kept.4), omega (arith, lower, kept.5), pushed_on.divides);
      shows = ap (option_map (λ x. record s { frames = pushed x (drop 1 s.frames) })) read ∙ ap Some (sym shows);
    }
