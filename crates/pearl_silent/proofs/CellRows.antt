-- The rows of instructions on cells and operands, where they apply.
use Rattle.std.proofs.Common.{◌≡◌, ◌≢◌, ℕ, suc, ◌+◌, ◌<◌, ◌≤◌, List, [], ◌∷◌, Option, Some, None, Ok, length, drop, slice_get, refl, sym, ap, ◌∙◌, subst, arith, Bool, true, false, pos, negsuc, ltb-true, leb-true}
use Rattle.std.specs.Prelude.{IsSome, nat_lt, nat_le, if◌then◌else◌, ◌==◌, option_and_then}
use Rattle.std.proofs.lemmas.Option.{same_Some}
use Rattle.pearl_value.specs.declared.kind.Kind.{Kind}
use Rattle.pearl_value.specs.declared.cell.Cell.{Cell}
use Rattle.pearl_value.specs.declared.cell.Cell.TheVariants.{Fixed, Bits, Chars, Clock, Span, Ref}
use Rattle.pearl_value.specs.declared.cell.Place.TheVariants as place
use Rattle.pearl_value.specs.declared.trap.Trap.TheVariants.{Index}
use Rattle.pearl_value.specs.Cells.{kind_of}
use Rattle.pearl_rules.specs.declared.action.Action.TheVariants as action
use Rattle.pearl_stack.specs.Frames.{Frame, top_operands, used, without, pushed}
use Rattle.pearl_instructions.specs.Steps.{Step, Silent, Offers, given, needed, popped, value_kind, leaves, traps, within}
use Rattle.pearl_instructions.specs.Cells.{put, filled, fill, load, store, load_at, store_at, cell_reference}
use Rattle.pearl_silent.specs.Steps.{on_top, next_of, Applies, top_cells, with_top_cell, with_cells, made_on, left_on, stored_on, referred_on, offset_below}
use Rattle.pearl_silent.proofs.Applied.{given_some, needed_true, and_then_some}

-- a literal is pushed

pub literal_room : (frames : List Frame) (x : Cell) (room : ℕ) → Applies (on_top (λ f lower. leaves f lower (x ∷ f.operands)) frames) room → used frames < room
literal_room [] x room a = absurd a
literal_room (f ∷ lower) x room a = omega (arith, a)

pub literal_silent : (frames : List Frame) (x : Cell) → frames ≢ [] → on_top (λ f lower. leaves f lower (x ∷ f.operands)) frames ≡ Silent (next_of (pushed x frames))
literal_silent [] x some = absurd (some refl)
literal_silent (f ∷ lower) x some = refl

some_of : {A : Type 0} (o : Option A) (x : A) → o ≡ Some x → IsSome o
some_of None x e = cc
some_of (Some y) x e = refl

-- a cell is loaded

pub load_there : (frames : List Frame) (c room : ℕ) → Applies (on_top (λ f lower. load c f lower f.operands) frames) room → IsSome (slice_get (top_cells frames) c)
load_there [] c room a = absurd a
load_there (f ∷ lower) c room a = let some = given_some (slice_get f.cells c) _ room a in some_of (slice_get f.cells c) some.0 some.1

pub load_is : (frames : List Frame) (c : ℕ) (x : Cell) → slice_get (top_cells frames) c ≡ Some x → on_top (λ f lower. load c f lower f.operands) frames ≡ made_on 0 (Ok x) frames
load_is [] c x e = cc
load_is (f ∷ lower) c x e = ap (λ o. given o (λ x. leaves f lower (x ∷ f.operands))) e

-- a value is stored

store_cell : (f : Frame) (lower : List Frame) (c room : ℕ) (xs : List Cell) → Applies (popped xs (λ x left. store c x f lower left)) room → IsSome (slice_get f.cells c)
store_cell f lower c room [] a = absurd a
store_cell f lower c room (x ∷ left) a = let some = given_some (slice_get f.cells c) _ room a in some_of (slice_get f.cells c) some.0 some.1

pub store_there : (frames : List Frame) (c room : ℕ) → Applies (on_top (λ f lower. popped f.operands (λ x left. store c x f lower left)) frames) room →
    IsSome (slice_get (top_cells frames) c)
store_there [] c room a = absurd a
store_there (f ∷ lower) c room a = store_cell f lower c room f.operands a

pub store_is : (frames : List Frame) (c : ℕ) → on_top (λ f lower. popped f.operands (λ x left. store c x f lower left)) frames ≡ stored_on c 0 frames
store_is [] c = refl
store_is (f ∷ lower) c = refl

stored_by : (f : Frame) (lower : List Frame) (c n : ℕ) (x : Cell) (xs : List Cell) → slice_get xs 0 ≡ Some x → IsSome (slice_get f.cells c) →
    popped xs (λ x left. store c x f lower (drop n left)) ≡ leaves (put f c x) lower (drop n (drop 1 xs))
stored_by f lower c n x [] e some = cc
stored_by f lower c n x (y ∷ left) e some = by (slice_get f.cells c) some
  where
    by : (o : Option Cell) → IsSome o → given o (λ old. leaves (put f c y) lower (drop n left)) ≡ leaves (put f c x) lower (drop n left)
    by None some = cc
    by (Some old) some = ap (λ z. leaves (put f c z) lower (drop n left)) (same_Some y x e)

pub stored_silent : (frames : List Frame) (c n : ℕ) (x : Cell) → slice_get (top_operands frames) 0 ≡ Some x →
    IsSome (slice_get (top_cells frames) c) → stored_on c n frames ≡ Silent (next_of (without n (without 1 (with_top_cell c x frames))))
stored_silent [] c n x e some = cc
stored_silent (f ∷ lower) c n x e some = stored_by f lower c n x f.operands e some

-- an operand is dropped

drop_by : (f : Frame) (lower : List Frame) (room : ℕ) (xs : List Cell) → Applies (popped xs (λ x left. leaves f lower left)) room →
    popped xs (λ x left. leaves f lower left) ≡ leaves f lower (drop 1 xs)
drop_by f lower room [] a = absurd a
drop_by f lower room (x ∷ left) a = refl

pub drop_is : (frames : List Frame) (room : ℕ) → Applies (on_top (λ f lower. popped f.operands (λ x left. leaves f lower left)) frames) room →
    on_top (λ f lower. popped f.operands (λ x left. leaves f lower left)) frames ≡ left_on 1 frames
drop_is [] room a = absurd a
drop_is (f ∷ lower) room a = drop_by f lower room f.operands a

-- cells at an offset

pub within_some : (n o : ℕ) (x : Cell) (f : Frame) (lower : List Frame) (go : ℕ → Step) (room : ℕ) → Applies (within n x f lower go) room → offset_below n x ≡ Some o →
    (o < n) × (within n x f lower go ≡ go o)
within_some n o (Fixed len (pos k)) f lower go room a e =
    let long = needed_true (len == 31) _ room a in by (nat_lt k n) refl long.0 e
  where
    by : (b : Bool) → nat_lt k n ≡ b → (len == 31) ≡ true → (if b then Some k else None) ≡ Some o → (o < n) × (needed (len == 31) (if nat_lt k n then go k else traps Index f lower) ≡ go o)
    by true t long e = let same : k ≡ o = same_Some k o e in (subst (λ k. k < n) same (ltb-true k n t), rw (long, t) (ap go same))
    by false t long e = cc
within_some n o (Fixed len (negsuc k)) f lower go room a e = cc
within_some n o (Bits len k) f lower go room a e = cc
within_some n o (Chars text) f lower go room a e = cc
within_some n o (Clock time) f lower go room a e = cc
within_some n o (Span time) f lower go room a e = cc
within_some n o (Ref kind place) f lower go room a e = cc

pub within_none : (n : ℕ) (x : Cell) (f : Frame) (lower : List Frame) (go : ℕ → Step) (room : ℕ) → Applies (within n x f lower go) room → offset_below n x ≡ None →
    within n x f lower go ≡ traps Index f lower
within_none n (Fixed len (pos k)) f lower go room a e =
    let long = needed_true (len == 31) _ room a in by (nat_lt k n) refl long.0 e
  where
    by : (b : Bool) → nat_lt k n ≡ b → (len == 31) ≡ true → (if b then Some k else None) ≡ None → needed (len == 31) (if nat_lt k n then go k else traps Index f lower) ≡ traps Index f lower
    by true t long e = cc
    by false t long e = rw (long, t) refl
within_none n (Fixed len (negsuc k)) f lower go room a e = let long = needed_true (len == 31) _ room a in rw long.0 refl
within_none n (Bits len k) f lower go room a e = absurd a
within_none n (Chars text) f lower go room a e = absurd a
within_none n (Clock time) f lower go room a e = absurd a
within_none n (Span time) f lower go room a e = absurd a
within_none n (Ref kind place) f lower go room a e = absurd a

load_at_by : (f : Frame) (lower : List Frame) (c n room o : ℕ) (x : Cell) (xs : List Cell) →
    Applies (popped xs (λ o left. within n o f lower (λ o. load (c + o) f lower left))) room → slice_get xs 0 ≡ Some x → offset_below n x ≡ Some o →
    IsSome (slice_get f.cells (c + o)) × ((y : Cell) → slice_get f.cells (c + o) ≡ Some y →
    popped xs (λ o left. within n o f lower (λ o. load (c + o) f lower left)) ≡ leaves f lower (y ∷ drop 1 xs))
load_at_by f lower c n room o x [] a e h = absurd a
load_at_by f lower c n room o x (z ∷ left) a e h =
    let there : offset_below n z ≡ Some o = ap (offset_below n) (same_Some z x e) ∙ h in
    let w = within_some n o z f lower (λ o. load (c + o) f lower left) room a there in
    let some = given_some (slice_get f.cells (c + o)) (λ x. leaves f lower (x ∷ left)) room (subst (λ r. Applies r room) w.1 a) in (
      some_of (slice_get f.cells (c + o)) some.0 some.1,
      λ y g. w.1 ∙ ap (λ o. given o (λ x. leaves f lower (x ∷ left))) g,
    )

pub record LoadsAt (c n o : ℕ) (frames : List Frame) : Type 0 where
  pub there : IsSome (slice_get (top_cells frames) (c + o))
  pub is : (y : Cell) → slice_get (top_cells frames) (c + o) ≡ Some y → on_top (λ f lower. load_at c n f lower) frames ≡ made_on 1 (Ok y) frames

pub load_at_some : (frames : List Frame) (c n room o : ℕ) (x : Cell) → Applies (on_top (λ f lower. load_at c n f lower) frames) room →
    slice_get (top_operands frames) 0 ≡ Some x → offset_below n x ≡ Some o → LoadsAt c n o frames
load_at_some [] c n room o x a e h = absurd a
load_at_some (f ∷ lower) c n room o x a e h = let by = load_at_by f lower c n room o x f.operands a e h in record { there = by.0; is = by.1 }

load_at_past : (f : Frame) (lower : List Frame) (c n room : ℕ) (x : Cell) (xs : List Cell) →
    Applies (popped xs (λ o left. within n o f lower (λ o. load (c + o) f lower left))) room → slice_get xs 0 ≡ Some x → offset_below n x ≡ None →
    popped xs (λ o left. within n o f lower (λ o. load (c + o) f lower left)) ≡ traps Index f lower
load_at_past f lower c n room x [] a e h = absurd a
load_at_past f lower c n room x (z ∷ left) a e h =
    within_none n z f lower (λ o. load (c + o) f lower left) room a (ap (offset_below n) (same_Some z x e) ∙ h)

pub load_at_none : (frames : List Frame) (c n room : ℕ) (x : Cell) → Applies (on_top (λ f lower. load_at c n f lower) frames) room →
    slice_get (top_operands frames) 0 ≡ Some x → offset_below n x ≡ None → on_top (λ f lower. load_at c n f lower) frames ≡ Offers (action.Trap Index) (λ answer. frames)
load_at_none [] c n room x a e h = absurd a
load_at_none (f ∷ lower) c n room x a e h = load_at_past f lower c n room x f.operands a e h

store_at_by : (f : Frame) (lower : List Frame) (c n room o : ℕ) (y : Cell) (xs : List Cell) →
    Applies (popped xs (λ x more. popped more (λ o left. within n o f lower (λ o. store (c + o) x f lower left)))) room → slice_get xs 1 ≡ Some y → offset_below n y ≡ Some o →
    IsSome (slice_get f.cells (c + o)) × (popped xs (λ x more. popped more (λ o left. within n o f lower (λ o. store (c + o) x f lower left)))
    ≡ popped xs (λ x left. store (c + o) x f lower (drop 1 left)))
store_at_by f lower c n room o y [] a e h = absurd a
store_at_by f lower c n room o y (x ∷ []) a e h = absurd a
store_at_by f lower c n room o y (x ∷ z ∷ left) a e h =
    let there : offset_below n z ≡ Some o = ap (offset_below n) (same_Some z y e) ∙ h in
    let w = within_some n o z f lower (λ o. store (c + o) x f lower left) room a there in
    let some = given_some (slice_get f.cells (c + o)) (λ old. leaves (put f (c + o) x) lower left) room (subst (λ r. Applies r room) w.1 a) in
    (some_of (slice_get f.cells (c + o)) some.0 some.1, w.1)

pub record StoresAt (c n o : ℕ) (frames : List Frame) : Type 0 where
  pub there : IsSome (slice_get (top_cells frames) (c + o))
  pub is : on_top (λ f lower. store_at c n f lower) frames ≡ stored_on (c + o) 1 frames

pub store_at_some : (frames : List Frame) (c n room o : ℕ) (y : Cell) → Applies (on_top (λ f lower. store_at c n f lower) frames) room →
    slice_get (top_operands frames) 1 ≡ Some y → offset_below n y ≡ Some o → StoresAt c n o frames
store_at_some [] c n room o y a e h = absurd a
store_at_some (f ∷ lower) c n room o y a e h = let by = store_at_by f lower c n room o y f.operands a e h in record { there = by.0; is = by.1 }

store_at_past : (f : Frame) (lower : List Frame) (c n room : ℕ) (y : Cell) (xs : List Cell) →
    Applies (popped xs (λ x more. popped more (λ o left. within n o f lower (λ o. store (c + o) x f lower left)))) room → slice_get xs 1 ≡ Some y → offset_below n y ≡ None →
    popped xs (λ x more. popped more (λ o left. within n o f lower (λ o. store (c + o) x f lower left))) ≡ traps Index f lower
store_at_past f lower c n room y [] a e h = absurd a
store_at_past f lower c n room y (x ∷ []) a e h = absurd a
store_at_past f lower c n room y (x ∷ z ∷ left) a e h =
    within_none n z f lower (λ o. store (c + o) x f lower left) room a (ap (offset_below n) (same_Some z y e) ∙ h)

pub store_at_none : (frames : List Frame) (c n room : ℕ) (y : Cell) → Applies (on_top (λ f lower. store_at c n f lower) frames) room →
    slice_get (top_operands frames) 1 ≡ Some y → offset_below n y ≡ None → on_top (λ f lower. store_at c n f lower) frames ≡ Offers (action.Trap Index) (λ answer. frames)
store_at_none [] c n room y a e h = absurd a
store_at_none (f ∷ lower) c n room y a e h = store_at_past f lower c n room y f.operands a e h

-- cells are filled

pub fill_is : (frames : List Frame) (c n : ℕ) (kind : Kind) (room : ℕ) → Applies (on_top (λ f lower. fill c n kind f lower) frames) room →
    (c + n ≤ length (top_cells frames))
    × (on_top (λ f lower. fill c n kind f lower) frames ≡ Silent (next_of (with_cells (filled (top_cells frames) c n kind) frames)))
fill_is [] c n kind room a = absurd a
fill_is (f ∷ lower) c n kind room a =
    let go : Step = leaves (record f { cells = filled f.cells c n kind }) lower f.operands in
    let fits = needed_true (nat_le (c + n) (length f.cells)) go room a in (
      leb-true (c + n) (length f.cells) fits.0,
      ap (λ b. needed b go) fits.0,
    )

-- references to cells

kind_is : (x : Cell) (of : Kind) → value_kind x ≡ Some of → kind_of x ≡ of
kind_is (Fixed len n) of e = same_Some _ of e
kind_is (Bits len n) of e = same_Some _ of e
kind_is (Chars text) of e = same_Some _ of e
kind_is (Clock time) of e = same_Some _ of e
kind_is (Span time) of e = same_Some _ of e
kind_is (Ref kind place) of e = cc

pub refers_there : (frames : List Frame) (c n room : ℕ) → Applies (referred_on c n frames) room → IsSome (slice_get (top_cells frames) c)
refers_there [] c n room a = absurd a
refers_there (f ∷ lower) c n room a =
    let some = given_some (option_and_then value_kind (slice_get f.cells c)) _ room a in
    let x = and_then_some (slice_get f.cells c) value_kind some.0 some.1 in
    some_of (slice_get f.cells c) x.0 x.1

pub refers_is : (frames : List Frame) (c n k room : ℕ) (x : Cell) → Applies (referred_on c n frames) room → slice_get (top_cells frames) c ≡ Some x → suc k ≡ length frames →
    referred_on c n frames ≡ made_on n (Ok (Ref (kind_of x) (place.Cell k c))) frames
refers_is [] c n k room x a e h = absurd a
refers_is (f ∷ lower) c n k room x a e h =
    let some = given_some (option_and_then value_kind (slice_get f.cells c)) _ room a in
    let y = and_then_some (slice_get f.cells c) value_kind some.0 some.1 in
    let same : y.0 ≡ x = same_Some y.0 x (sym y.1 ∙ e) in
    let kind : some.0 ≡ kind_of x = sym (kind_is y.0 some.0 y.2) ∙ ap kind_of same in
    let under : length lower ≡ k = omega (arith, h) in
    ap (λ o. given o (λ kind. leaves f lower (Ref kind (place.Cell (length lower) c) ∷ drop n f.operands))) some.1
    ∙ (ap (λ kind. leaves f lower (Ref kind (place.Cell (length lower) c) ∷ drop n f.operands)) kind
    ∙ ap (λ k. leaves f lower (Ref (kind_of x) (place.Cell k c) ∷ drop n f.operands)) under)

pub ref_cell_is : (frames : List Frame) (c : ℕ) → on_top (λ f lower. cell_reference c f lower f.operands) frames ≡ referred_on c 0 frames
ref_cell_is [] c = refl
ref_cell_is (f ∷ lower) c = refl

ref_at_by : (f : Frame) (lower : List Frame) (c n room o : ℕ) (x : Cell) (xs : List Cell) →
    Applies (popped xs (λ v left. within n v f lower (λ k. cell_reference (c + k) f lower left))) room → slice_get xs 0 ≡ Some x → offset_below n x ≡ Some o →
    popped xs (λ v left. within n v f lower (λ k. cell_reference (c + k) f lower left)) ≡ cell_reference (c + o) f lower (drop 1 xs)
ref_at_by f lower c n room o x [] a e h = absurd a
ref_at_by f lower c n room o x (z ∷ left) a e h =
    (within_some n o z f lower (λ k. cell_reference (c + k) f lower left) room a (ap (offset_below n) (same_Some z x e) ∙ h)).1

pub ref_cell_at_some : (frames : List Frame) (c n room o : ℕ) (x : Cell) →
    Applies (on_top (λ f lower. popped f.operands (λ v left. within n v f lower (λ k. cell_reference (c + k) f lower left))) frames) room →
    slice_get (top_operands frames) 0 ≡ Some x → offset_below n x ≡ Some o →
    on_top (λ f lower. popped f.operands (λ v left. within n v f lower (λ k. cell_reference (c + k) f lower left))) frames ≡ referred_on (c + o) 1 frames
ref_cell_at_some [] c n room o x a e h = absurd a
ref_cell_at_some (f ∷ lower) c n room o x a e h = ref_at_by f lower c n room o x f.operands a e h

ref_at_past : (f : Frame) (lower : List Frame) (c n room : ℕ) (x : Cell) (xs : List Cell) →
    Applies (popped xs (λ v left. within n v f lower (λ k. cell_reference (c + k) f lower left))) room → slice_get xs 0 ≡ Some x → offset_below n x ≡ None →
    popped xs (λ v left. within n v f lower (λ k. cell_reference (c + k) f lower left)) ≡ traps Index f lower
ref_at_past f lower c n room x [] a e h = absurd a
ref_at_past f lower c n room x (z ∷ left) a e h =
    within_none n z f lower (λ k. cell_reference (c + k) f lower left) room a (ap (offset_below n) (same_Some z x e) ∙ h)

pub ref_cell_at_none : (frames : List Frame) (c n room : ℕ) (x : Cell) →
    Applies (on_top (λ f lower. popped f.operands (λ v left. within n v f lower (λ k. cell_reference (c + k) f lower left))) frames) room →
    slice_get (top_operands frames) 0 ≡ Some x → offset_below n x ≡ None →
    on_top (λ f lower. popped f.operands (λ v left. within n v f lower (λ k. cell_reference (c + k) f lower left))) frames ≡ Offers (action.Trap Index) (λ answer. frames)
ref_cell_at_none [] c n room x a e h = absurd a
ref_cell_at_none (f ∷ lower) c n room x a e h = ref_at_past f lower c n room x f.operands a e h
