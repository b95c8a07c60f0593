-- Channels that are made of a record, device by device.
use Rattle.std.proofs.Common.{◌≡◌, ℕ, zero, suc, ◌+◌, ◌≤◌, ◌<◌, Bool, true, false, List, [], ◌∷◌, ◌++◌, Some, length, take, drop, get_or, slice_get, refl, sym, ap, subst, ◌∙◌, arith}
use Rattle.std.specs.Prelude.{◌↔◌, IsFalse, if◌then◌else◌}
use Rattle.std.specs.List.{AllByRecursion, AllZip}
use Rattle.std.proofs.lemmas.Option.{none-some, same_Some, slice_get-get_or}
use Rattle.pearl_rules.proofs.Offered.{each_at}
use Rattle.std.proofs.lemmas.List.{take_more, length-take-le}
use Rattle.pearl_value.specs.declared.cell.Cell.TheVariants as cell
use Rattle.pearl_value.specs.Cells.{kind_of}
use Rattle.pearl_value.specs.WellFormed.{IsValue, IsValueOf}
use Rattle.pearl_port.specs.Families.{family_of}
use Rattle.pearl_port.specs.Inputs.{family_of_kind}
use Rattle.pearl_port.specs.Pending.{Queue, IsFull, joined}
use Rattle.pearl_rules.specs.Devices.{input_room}
use Rattle.pearl_value.specs.declared.cell.Cell.{Cell}
use Rattle.pearl_value.specs.declared.kind.Kind.{Kind}
use Rattle.pearl_value.specs.declared.device.Device.{Device}
use Rattle.pearl_value.specs.declared.device.Device.TheVariants.{Interrupt, Terminal, Input, Output}
use Rattle.pearl_rules.specs.Core.{Channel}
use Rattle.pearl_records.specs.States.{count_of_sort, input_kinds, WaitsTyped, WaitsOf}
use Rattle.pearl_records.specs.Records.{channels_made}

-- what is left of a record suits the devices from here on
pub record Suits (devices : List Device) (switches : List Bool) (terminals : List (List ℕ)) (inputs : List (List Cell)) : Type 0 where
  pub as_many_switches : length switches ≡ count_of_sort devices 0
  pub as_many_terminals : length terminals ≡ count_of_sort devices 1
  pub typed : AllByRecursion WaitsTyped terminals
  pub values : AllZip WaitsOf (input_kinds devices) inputs

-- and makes the channels that are missing
pub record Left (devices : List Device) (whole : List Channel) (i : ℕ) (channels : List Channel) (switches : List Bool)
    (terminals : List (List ℕ)) (inputs : List (List Cell)) : Type 0 where
  pub is : channels ++ channels_made (drop i devices) switches terminals inputs ≡ whole
  pub suits : Suits (drop i devices) switches terminals inputs

-- each device has its channel
pub made-length : (devices : List Device) (switches : List Bool) (terminals : List (List ℕ)) (inputs : List (List Cell)) →
    length (channels_made devices switches terminals inputs) ≡ length devices
made-length [] switches terminals inputs = refl
made-length (Interrupt number ∷ devices) switches terminals inputs =
    ap suc (made-length devices (drop 1 switches) terminals inputs)
made-length (Terminal number direction ∷ devices) switches terminals inputs =
    ap suc (made-length devices switches (drop 1 terminals) inputs)
made-length (Input number kind ∷ devices) switches terminals inputs =
    ap suc (made-length devices switches terminals (drop 1 inputs))
made-length (Output number kind ∷ devices) switches terminals inputs =
    ap suc (made-length devices switches terminals inputs)

-- ---- the values of an input

next_taken : {X : Type 0} (xs : List X) (i : ℕ) (x : X) → slice_get xs i ≡ Some x → take i xs ++ x ∷ [] ≡ take (suc i) xs
next_taken [] i x e = absurd (none-some x e)
next_taken (y ∷ xs) zero x e = ap (λ z. z ∷ []) (sym (same_Some y x e))
next_taken (y ∷ xs) (suc i) x e = ap (λ ys. y ∷ ys) (next_taken xs i x e)

-- one more of them
pub one-more-taken : {X : Type 0} (xs : List X) (i : ℕ) (x : X) → slice_get xs i ≡ Some x → take i xs ++ x ∷ [] ≡ take (i + 1) xs
one-more-taken xs i x e = let n : suc i ≡ i + 1 = omega arith in subst (λ m. take i xs ++ x ∷ [] ≡ take m xs) n (next_taken xs i x e)

pub one-of : (kind : Kind) (pending : List Cell) (i : ℕ) (x : Cell) → i < length pending → x ≡ get_or pending i x →
    AllByRecursion (IsValueOf kind) pending → IsValueOf kind x
one-of kind pending i x less is all =
    subst (IsValueOf kind) (sym is) (each_at (IsValueOf kind) pending all i (get_or pending i x) (slice_get-get_or pending i x less))

own_family : (x : Cell) → IsValue x → family_of x ≡ Some (family_of_kind (kind_of x))
own_family (cell.Fixed len value) is = refl
own_family (cell.Bits len value) is = refl
own_family (cell.Chars text) is = refl
own_family (cell.Clock time) is = refl
own_family (cell.Span time) is = refl
own_family (cell.Ref of place) is = absurd is

pub family-is : (kind : Kind) (x : Cell) → IsValueOf kind x → family_of x ≡ Some (family_of_kind kind)
family-is kind x is = own_family x is.is_value ∙ ap (λ k. Some (family_of_kind k)) is.same_kind

-- so many values wait, as there is room for all
abbrev pub Waits : Kind → List Cell → ℕ → Queue Cell
Waits kind pending i = record { kind = kind; room = input_room; items = take i pending }

pub one-waits : (kind : Kind) (pending : List Cell) (i : ℕ) (x : Cell) (old new : Queue Cell) (waits : Bool) → i < length pending →
    length pending ≤ input_room → x ≡ get_or pending i x → old ≡ Waits kind pending i → (IsFalse waits ↔ IsFull old) →
    new ≡ (if waits then joined old x else old) → new ≡ Waits kind pending (i + 1)
one-waits kind pending i x old new true less few is before full e =
    e ∙ ap (λ q. joined q x) before
    ∙ ap (λ items. record { kind = kind; room = input_room; items = items })
    (ap (λ y. take i pending ++ y ∷ []) is ∙ sym (take_more pending i x less))
one-waits kind pending i x old new false less few is before full e =
    let all : length (take i pending) ≡ input_room = subst (λ (q : Queue Cell). length q.items ≡ q.room) before (full.0 refl) in
    (let short = length-take-le i pending (omega (arith, less)) in absurd (omega (arith, all, few, less, short)))
