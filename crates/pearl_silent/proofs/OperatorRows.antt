-- The rows of operators and conversions, where they apply.
use Rattle.std.proofs.Common.{◌≡◌, ℕ, ◌<◌, List, [], ◌∷◌, Some, length, drop, slice_get, refl, sym, ap, ◌∙◌, subst, true, leb-true}
use Rattle.std.specs.Prelude.{IsSome, option_and_then}
use Rattle.std.specs.List.{AllByRecursion}
use Rattle.std.proofs.lemmas.Option.{same_Some}
use Rattle.pearl_value.specs.declared.kind.Kind.{Kind}
use Rattle.pearl_value.specs.declared.kind.Kind.TheVariants as kind
use Rattle.pearl_value.specs.declared.cell.Cell.{Cell}
use Rattle.pearl_value.specs.declared.cell.Cell.TheVariants.{Fixed, Bits, Chars, Clock, Span, Ref}
use Rattle.pearl_value.specs.declared.operator.Monad.{Monad}
use Rattle.pearl_value.specs.declared.operator.Dyad.{Dyad}
use Rattle.pearl_value.specs.Cells.{kind_of}
use Rattle.pearl_value.specs.WellFormed.{IsValue}
use Rattle.pearl_value.specs.Rows.{row1, row2}
use Rattle.pearl_value.specs.Applied.{applied1, applied2}
use Rattle.pearl_value.specs.Conversions.{SuitsKind, converted, suits_kind}
use Rattle.pearl_stack.specs.Frames.{Frame, top_operands}
use Rattle.pearl_instructions.specs.Steps.{Step, given, needed, popped, value_kind, makes}
use Rattle.pearl_instructions.specs.Operators.{monadic, dyadic, convert}
use Rattle.pearl_silent.specs.Steps.{on_top, Applies, IsFormed, made_on}
use Rattle.pearl_silent.proofs.Applied.{given_some, needed_true, and_then_some, one_there, two_there}

-- a value of a kind
record IsOf (x : Cell) (of : Kind) : Type 0 where
  pub value : IsValue x
  pub kind : kind_of x ≡ of

value_of : (x : Cell) (of : Kind) → IsFormed x → value_kind x ≡ Some of → IsOf x of
value_of (Fixed len n) of is e = record { value = is; kind = same_Some _ of e }
value_of (Bits len n) of is e = record { value = is; kind = same_Some _ of e }
value_of (Chars text) of is e = record { value = is; kind = same_Some _ of e }
value_of (Clock time) of is e = record { value = is; kind = same_Some _ of e }
value_of (Span time) of is e = record { value = is; kind = same_Some _ of e }
value_of (Ref kind place) of is e = cc

suits_it : (from to : Kind) → suits_kind from to ≡ true → SuitsKind from to
suits_it (kind.Fixed a) (kind.Fixed b) e = tt
suits_it (kind.Bits a) (kind.Bits b) e = leb-true a b e
suits_it (kind.Chars a) (kind.Chars b) e = leb-true a b e
suits_it kind.Clock kind.Clock e = tt
suits_it kind.Span kind.Span e = tt
suits_it a b e = cc

-- one operand

pub record Monadic (op : Monad) (x : Cell) (frames : List Frame) : Type 0 where
  pub value : IsValue x
  pub row : IsSome (row1 op (kind_of x))
  pub is : on_top (λ f lower. monadic op f lower) frames ≡ made_on 1 (applied1 op x) frames

monadic_by : (op : Monad) (f : Frame) (lower : List Frame) (xs : List Cell) (room : ℕ) (x : Cell) →
    Applies (popped xs (λ x left. given (option_and_then (row1 op) (value_kind x)) (λ kind. makes f lower left (applied1 op x)))) room →
    AllByRecursion IsFormed xs → slice_get xs 0 ≡ Some x →
    IsValue x × IsSome (row1 op (kind_of x))
    × (popped xs (λ x left. given (option_and_then (row1 op) (value_kind x)) (λ kind. makes f lower left (applied1 op x))) ≡ makes f lower (drop 1 xs) (applied1 op x))
monadic_by op f lower [] room x a all e = absurd a
monadic_by op f lower (y ∷ left) room x a all e =
    let same : y ≡ x = same_Some y x e in
    let some = given_some (option_and_then (row1 op) (value_kind y)) _ room a in
    let of = and_then_some (value_kind y) (row1 op) some.0 some.1 in
    let is = value_of y of.0 all.0 of.1 in
    let row : row1 op (kind_of y) ≡ Some some.0 = ap (row1 op) is.kind ∙ of.2 in (
      subst IsValue same is.value,
      subst (λ x. IsSome (row1 op (kind_of x))) same (rw row refl),
      ap (λ o. given o (λ kind. makes f lower left (applied1 op y))) some.1 ∙ ap (λ x. makes f lower left (applied1 op x)) same,
    )

pub monadic_applies : (op : Monad) (frames : List Frame) (room : ℕ) (x : Cell) → Applies (on_top (λ f lower. monadic op f lower) frames) room →
    AllByRecursion IsFormed (top_operands frames) → slice_get (top_operands frames) 0 ≡ Some x → Monadic op x frames
monadic_applies op [] room x a all e = absurd a
monadic_applies op (f ∷ lower) room x a all e =
    let by = monadic_by op f lower f.operands room x a all e in record { value = by.0; row = by.1; is = by.2 }

-- a conversion

pub record Converts (to : Kind) (x : Cell) (frames : List Frame) : Type 0 where
  pub value : IsValue x
  pub suit : SuitsKind (kind_of x) to
  pub is : on_top (λ f lower. convert to f lower) frames ≡ made_on 1 (converted x to) frames

convert_by : (to : Kind) (f : Frame) (lower : List Frame) (xs : List Cell) (room : ℕ) (x : Cell) →
    Applies (popped xs (λ x left. given (value_kind x) (λ from. needed (suits_kind from to) (makes f lower left (converted x to))))) room →
    AllByRecursion IsFormed xs → slice_get xs 0 ≡ Some x →
    IsValue x × SuitsKind (kind_of x) to
    × (popped xs (λ x left. given (value_kind x) (λ from. needed (suits_kind from to) (makes f lower left (converted x to)))) ≡ makes f lower (drop 1 xs) (converted x to))
convert_by to f lower [] room x a all e = absurd a
convert_by to f lower (y ∷ left) room x a all e =
    let same : y ≡ x = same_Some y x e in
    let some = given_some (value_kind y) _ room a in
    let suits = needed_true (suits_kind some.0 to) _ room some.2 in
    let is = value_of y some.0 all.0 some.1 in (
      subst IsValue same is.value,
      subst (λ x. SuitsKind (kind_of x) to) same (subst (λ from. SuitsKind from to) (sym is.kind) (suits_it some.0 to suits.0)),
      ap (λ o. given o (λ from. needed (suits_kind from to) (makes f lower left (converted y to)))) some.1
          ∙ (ap (λ b. needed b (makes f lower left (converted y to))) suits.0 ∙ ap (λ x. makes f lower left (converted x to)) same),
    )

pub convert_applies : (to : Kind) (frames : List Frame) (room : ℕ) (x : Cell) → Applies (on_top (λ f lower. convert to f lower) frames) room →
    AllByRecursion IsFormed (top_operands frames) → slice_get (top_operands frames) 0 ≡ Some x → Converts to x frames
convert_applies to [] room x a all e = absurd a
convert_applies to (f ∷ lower) room x a all e =
    let by = convert_by to f lower f.operands room x a all e in record { value = by.0; suit = by.1; is = by.2 }

-- two operands

pub record Dyadic (op : Dyad) (x y : Cell) (frames : List Frame) : Type 0 where
  pub left : IsValue x
  pub right : IsValue y
  pub row : IsSome (row2 op (kind_of x) (kind_of y))
  pub is : on_top (λ f lower. dyadic op f lower) frames ≡ made_on 2 (applied2 op x y) frames

abbrev dyadic_row : Dyad → Frame → List Frame → Cell → Cell → List Cell → Step
dyadic_row op f lower y x left =
    given (value_kind x) (λ of_x. given (value_kind y) (λ of_y. given (row2 op of_x of_y) (λ kind. makes f lower left (applied2 op x y))))

dyadic_by : (op : Dyad) (f : Frame) (lower : List Frame) (xs : List Cell) (room : ℕ) (x y : Cell) →
    Applies (popped xs (λ y more. popped more (λ x left. dyadic_row op f lower y x left))) room → AllByRecursion IsFormed xs →
    slice_get xs 0 ≡ Some y → slice_get xs 1 ≡ Some x →
    IsValue x × IsValue y × IsSome (row2 op (kind_of x) (kind_of y))
    × (popped xs (λ y more. popped more (λ x left. dyadic_row op f lower y x left)) ≡ makes f lower (drop 2 xs) (applied2 op x y))
dyadic_by op f lower [] room x y a all e h = absurd a
dyadic_by op f lower (v ∷ []) room x y a all e h = absurd a
dyadic_by op f lower (v ∷ u ∷ left) room x y a all e h =
    let one : u ≡ x = same_Some u x h in
    let two : v ≡ y = same_Some v y e in
    let of_x = given_some (value_kind u) _ room a in
    let of_y = given_some (value_kind v) _ room of_x.2 in
    let some = given_some (row2 op of_x.0 of_y.0) _ room of_y.2 in
    let is_x = value_of u of_x.0 all.1.0 of_x.1 in
    let is_y = value_of v of_y.0 all.0 of_y.1 in
    let row : row2 op (kind_of u) (kind_of v) ≡ Some some.0 = ap (λ k. row2 op k (kind_of v)) is_x.kind ∙ (ap (row2 op of_x.0) is_y.kind ∙ some.1) in (
      subst IsValue one is_x.value,
      subst IsValue two is_y.value,
      subst (λ x. IsSome (row2 op (kind_of x) (kind_of y))) one (subst (λ y. IsSome (row2 op (kind_of u) (kind_of y))) two (rw row refl)),
      ap (λ o. given o (λ of_x. given (value_kind v) (λ of_y. given (row2 op of_x of_y) (λ kind. makes f lower left (applied2 op u v))))) of_x.1
          ∙ (ap (λ o. given o (λ of_y. given (row2 op of_x.0 of_y) (λ kind. makes f lower left (applied2 op u v)))) of_y.1
          ∙ (ap (λ o. given o (λ kind. makes f lower left (applied2 op u v))) some.1
          ∙ (ap (λ x. makes f lower left (applied2 op x v)) one ∙ ap (λ y. makes f lower left (applied2 op x y)) two))),
    )

pub dyadic_applies : (op : Dyad) (frames : List Frame) (room : ℕ) (x y : Cell) → Applies (on_top (λ f lower. dyadic op f lower) frames) room →
    AllByRecursion IsFormed (top_operands frames) → slice_get (top_operands frames) 0 ≡ Some y → slice_get (top_operands frames) 1 ≡ Some x → Dyadic op x y frames
dyadic_applies op [] room x y a all e h = absurd a
dyadic_applies op (f ∷ lower) room x y a all e h =
    let by = dyadic_by op f lower f.operands room x y a all e h in record { left = by.0; right = by.1; row = by.2; is = by.3 }

-- the operands are there

pub monadic_there : (op : Monad) (frames : List Frame) (room : ℕ) → Applies (on_top (λ f lower. monadic op f lower) frames) room → 0 < length (top_operands frames)
monadic_there op frames room a = one_there frames (λ f lower x left. given (option_and_then (row1 op) (value_kind x)) (λ kind. makes f lower left (applied1 op x))) room a

pub convert_there : (to : Kind) (frames : List Frame) (room : ℕ) → Applies (on_top (λ f lower. convert to f lower) frames) room → 0 < length (top_operands frames)
convert_there to frames room a = one_there frames (λ f lower x left. given (value_kind x) (λ from. needed (suits_kind from to) (makes f lower left (converted x to)))) room a

pub dyadic_there : (op : Dyad) (frames : List Frame) (room : ℕ) → Applies (on_top (λ f lower. dyadic op f lower) frames) room → 1 < length (top_operands frames)
dyadic_there op frames room a = two_there frames (λ f lower y x left. dyadic_row op f lower y x left) room a
