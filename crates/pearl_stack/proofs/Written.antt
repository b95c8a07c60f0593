-- What a write makes of a row of values, of which the first ones are in use.
use Rattle.std.proofs.Common.{◌≡◌, ℕ, ◌+◌, ◌<◌, ◌≤◌, List, [], ◌∷◌, ◌++◌, Option, Some, None, length, take, get_or, set, slice_get, refl, sym, ap, ◌∙◌, subst, arith, length-set, length-take-le, get_or-take}
use Rattle.std.specs.Prelude.{option_map}
use Rattle.std.proofs.Math.Seq.{take-set-lt}
use Rattle.std.proofs.lemmas.List.{take_more_set}
use Rattle.std.proofs.lemmas.Option.{slice_get-get_or, slice_get_read}
use Rattle.pearl_value.specs.declared.cell.Cell.{Cell}
use Rattle.pearl_stack.specs.Held.{Held}

abbrev pub held : List Cell → ℕ → Held
held xs n = record { items = xs; room = n }

pub set_shown : (xs : List Cell) (used i : ℕ) (x : Cell) (h : Held) → held (take used xs) (length xs) ≡ h → used ≤ length xs → i < length h.items →
    held (take used (set xs i x)) (length (set xs i x)) ≡ held (set h.items i x) h.room
set_shown xs used i x h view within =
    let long : length (take used xs) ≡ used = length-take-le used xs within in
    subst (λ (h : Held). i < length h.items → held (take used (set xs i x)) (length (set xs i x)) ≡ held (set h.items i x) h.room) view
    (λ less. ap (λ ys. held ys (length (set xs i x))) (take-set-lt used xs i x (omega (arith, less, long)))
    ∙ ap (λ n. held (set (take used xs) i x) n) (length-set xs i x))

get_within : (xs : List Cell) (used i : ℕ) (x : Cell) → used ≤ length xs → i < length (take used xs) → slice_get (take used xs) i ≡ slice_get xs i
get_within xs used i x within less =
    let long : length (take used xs) ≡ used = length-take-le used xs within in
    slice_get-get_or (take used xs) i x less ∙ (ap Some (get_or-take used xs i x (omega (arith, less, long))) ∙ sym (slice_get-get_or xs i x (omega (arith, less, long, within))))

some_of : (o : Option Cell) (A : Cell → List Cell) (new : List Cell) → option_map A o ≡ Some new → (x : Cell) × (o ≡ Some x) × (A x ≡ new)
some_of None A new e = cc
some_of (Some x) A new e = (x, refl, cc)

-- a copy of one of the values in use, in the place of another
pub set_again_shown : (xs new : List Cell) (used i from : ℕ) (h : Held) → held (take used xs) (length xs) ≡ h → used ≤ length xs → i < length h.items → from < length h.items →
    option_map (λ x. set xs i x) (slice_get xs from) ≡ Some new →
    option_map (λ x. held (set h.items i x) h.room) (slice_get h.items from) ≡ Some (held (take used new) (length new))
set_again_shown xs new used i from h view within less there e =
    let is = some_of (slice_get xs from) (λ x. set xs i x) new e in
    let x : Cell = is.0 in
    let got : slice_get h.items from ≡ Some x =
    subst (λ (h : Held). from < length h.items → slice_get h.items from ≡ Some x) view (λ there. get_within xs used from x within there ∙ is.1) there in
    ap (option_map (λ x. held (set h.items i x) h.room)) got
    ∙ ap Some (sym (set_shown xs used i x h view within less) ∙ ap (λ ys. held (take used ys) (length ys)) is.2)

-- a copy of one of the values in use, as one more
pub push_again_shown : (xs new : List Cell) (used from : ℕ) (h : Held) → held (take used xs) (length xs) ≡ h → used ≤ length xs → length h.items < h.room → from < length h.items →
    option_map (λ x. set xs used x) (slice_get xs from) ≡ Some new →
    option_map (λ x. held (h.items ++ x ∷ []) h.room) (slice_get h.items from) ≡ Some (held (take (used + 1) new) (length new))
push_again_shown xs new used from h view within less there e =
    let is = some_of (slice_get xs from) (λ x. set xs used x) new e in
    let x : Cell = is.0 in
    let got : slice_get h.items from ≡ Some x =
    subst (λ (h : Held). from < length h.items → slice_get h.items from ≡ Some x) view (λ there. get_within xs used from x within there ∙ is.1) there in
    let long : length (take used xs) ≡ used = length-take-le used xs within in
    let pushed : held (h.items ++ x ∷ []) h.room ≡ held (take (used + 1) (set xs used x)) (length (set xs used x)) =
    subst (λ (h : Held). length h.items < h.room → held (h.items ++ x ∷ []) h.room ≡ held (take (used + 1) (set xs used x)) (length (set xs used x))) view
    (λ less. ap (λ ys. held ys (length xs)) (sym (take_more_set xs used x (omega (arith, less, long))))
    ∙ ap (held (take (used + 1) (set xs used x))) (sym (length-set xs used x))) less in
    ap (option_map (λ x. held (h.items ++ x ∷ []) h.room)) got ∙ ap Some (pushed ∙ ap (λ ys. held (take (used + 1) ys) (length ys)) is.2)

-- one of the values in use, of which something else is made
pub changed_shown : (xs : List Cell) (used i : ℕ) (change : Cell → Cell) (x y : Cell) (h : Held) → held (take used xs) (length xs) ≡ h → used ≤ length xs → i < length h.items →
    x ≡ get_or xs i x → y ≡ change x →
    option_map (λ x. held (set h.items i (change x)) h.room) (slice_get h.items i) ≡ Some (held (take used (set xs i y)) (length (set xs i y)))
changed_shown xs used i change x y h view within less read is =
    let long : length (take used xs) ≡ used = length-take-le used xs within in
    let got : slice_get h.items i ≡ Some x =
    subst (λ (h : Held). i < length h.items → slice_get h.items i ≡ Some x) view
    (λ less. get_within xs used i x within less ∙ slice_get_read xs (length xs) i x refl (omega (arith, less, long, within)) read) less in
    ap (option_map (λ x. held (set h.items i (change x)) h.room)) got
    ∙ ap Some (ap (λ y. held (set h.items i y) h.room) (sym is) ∙ sym (set_shown xs used i y h view within less))
