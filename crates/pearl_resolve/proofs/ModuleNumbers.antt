-- The numbers of the names of the module, one after the other.
use Rattle.std.proofs.Common.{◌≡◌, ◌<◌, ◌≤◌, Bool, cond, nat_lt, unwrap_or, None, ℕ, zero, suc, ◌+◌, List, [], ◌∷◌, ◌++◌, length, drop, slice_get, Some, refl, sym, ap, ◌∙◌, append_assoc, append-nil}
use Rattle.std.proofs.lemmas.Option.{same_Some, none-some}
use Rattle.pearl_names.specs.declared.scope.SortedName.{SortedName}
use Rattle.pearl_names.specs.Tables.{Sense}
use Rattle.pearl_system.specs.declared.device.SpecifiedDevice.{SpecifiedDevice}
use Rattle.std.specs.Str.{bytes_eq}
use Rattle.std.specs.List.{position_or_len}
use Rattle.std.proofs.lemmas.Bool.{lt-ltb, le-ltb}
use Rattle.std.proofs.lemmas.List.Recursion.{is_position_or_len}
use Rattle.pearl_resolve.specs.Devices.{before_device}
use Rattle.pearl_resolve.specs.Numbers.{Before, behind, device_number, module_number, module_numbers}

pub get_left : {X : Type 0} (xs : List X) (i : ℕ) (x : X) → slice_get xs i ≡ Some x → drop i xs ≡ x ∷ drop (suc i) xs
get_left [] i x at = absurd (none-some x at)
get_left (y ∷ xs) zero x at = ap (λ z. z ∷ xs) (same_Some y x at)
get_left (y ∷ xs) (suc i) x at = get_left xs i x at

-- the number of a device
abbrev is_named : List ℕ → SpecifiedDevice → Bool
is_named text device = bytes_eq text device.text.items

before_is : (devices : List SpecifiedDevice) (text : List ℕ) → before_device devices text ≡ position_or_len (is_named text) devices
before_is devices text = is_position_or_len (λ l. before_device l text) (is_named text) refl (λ x xs. refl) devices

abbrev number_if : Bool → ℕ → ℕ
number_if inside n = unwrap_or (cond inside (Some n) None) 0

pub device_found : (devices : List SpecifiedDevice) (text : List ℕ) (n : ℕ) → n ≡ before_device devices text → n < length devices → n ≡ device_number devices text
device_found devices text n is inside =
    let first : n ≡ position_or_len (is_named text) devices = is ∙ before_is devices text in
    sym (ap (λ b. number_if b n) (lt-ltb n (length devices) inside)) ∙ ap (λ k. number_if (nat_lt k (length devices)) k) first

pub no_device : (devices : List SpecifiedDevice) (text : List ℕ) (n : ℕ) → n ≡ before_device devices text → length devices ≤ n → 0 ≡ device_number devices text
no_device devices text n is past =
    let first : n ≡ position_or_len (is_named text) devices = is ∙ before_is devices text in
    sym (ap (λ b. number_if b n) (le-ltb n (length devices) past)) ∙ ap (λ k. number_if (nat_lt k (length devices)) k) first

module _ (devices : List SpecifiedDevice) (procedures : List ℕ) where
  pub module_more : (made : List ℕ) (before next : Before) (entries : List SortedName) (of : List Sense) (i : ℕ) (entry : SortedName) (sense : Sense) (number : ℕ) (all : List ℕ) →
      drop i entries ≡ entry ∷ drop (i + 1) entries → drop i of ≡ sense ∷ drop (i + 1) of → number ≡ module_number devices procedures before entry sense → next ≡ behind before sense →
      made ++ module_numbers devices procedures before (drop i entries) (drop i of) ≡ all →
      (made ++ number ∷ []) ++ module_numbers devices procedures next (drop (i + 1) entries) (drop (i + 1) of) ≡ all
  module_more made before next entries of i entry sense number all named stands is goes so =
      append_assoc made (number ∷ []) (module_numbers devices procedures next (drop (i + 1) entries) (drop (i + 1) of))
      ∙ (λ j. made ++ is j ∷ module_numbers devices procedures (goes j) (drop (i + 1) entries) (drop (i + 1) of))
      ∙ (λ j. made ++ module_numbers devices procedures before (sym named j) (sym stands j))
      ∙ so

  no_senses : (before : Before) (entries : List SortedName) → module_numbers devices procedures before entries [] ≡ []
  no_senses before [] = refl
  no_senses before (entry ∷ entries) = refl

  pub no_sense_left : (made : List ℕ) (before : Before) (entries : List SortedName) (left : List Sense) (all : List ℕ) → left ≡ [] →
      made ++ module_numbers devices procedures before entries left ≡ all → made ≡ all
  no_sense_left made before entries left all none so =
      sym (append-nil made) ∙ sym (ap (λ l. made ++ l) (ap (module_numbers devices procedures before entries) none ∙ no_senses before entries)) ∙ so
