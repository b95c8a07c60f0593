-- An object's file: which object it has, or what is wrong with it, is determined.
use Rattle.std.proofs.Common.{◌≡◌, ◌-◌, ◌<◌, ◌≤◌, ◌⊎◌, ℕ, List, Some, None, Result, Ok, Err, length, ap, ap₂, sym, ◌∙◌, subst, inl, inr, arith}
use Rattle.std.proofs.lemmas.Bool.{cases_lt}
use Rattle.std.proofs.lemmas.Option.{none-some, same_Some}
use Rattle.pearl_instructions.specs.declared.object.Parts.{Parts as Object}
use Rattle.pearl_instructions.specs.Valid.{unsound}
use Rattle.pearl_fields.specs.Codec.{whole_read}
use Rattle.pearl_object.specs.Listing.{listing_of}
use Rattle.pearl_object.specs.Objects.{object}
use Rattle.pearl_object.proofs.Offered.{seen_of}
use Rattle.pearl_script.specs.declared.refusal.Refusal.TheVariants as refusal
use Rattle.pearl_script.specs.Refusals.{refusal_line}
use Rattle.pearl_verify.specs.declared.verify.VerifyFault.TheVariants as fault
use Rattle.pearl_verify.specs.Verdicts.{IsLeast, StandsBefore}
use Rattle.pearl_top.specs.declared.limits.TheConstants.{OBJECT_LIMIT}
use Rattle.pearl_top.specs.ObjectDue.{IsCodeOf, IsFileOf, IsListed, IsNoObject, IsRefused, IsUnsound}
use Rattle.pearl_top.specs.Reading.{AnObject}
use Rattle.pearl_top.proofs.FileLaws.{IsSettled}

-- ONE OBJECT

abbrev as_ok : Object → Result Object ℕ
as_ok o = Ok o

abbrev as_err : ℕ → Result Object ℕ
as_err left = Err left

same_ok : (seen : Result Object ℕ) (o p : Object) → seen ≡ Ok o → seen ≡ Ok p → o ≡ p
same_ok seen o p a b = let e : as_ok o ≡ as_ok p = sym a ∙ b in cc

same_err : (seen : Result Object ℕ) (m n : ℕ) → seen ≡ Err m → seen ≡ Err n → m ≡ n
same_err seen m n a b = let e : as_err m ≡ as_err n = sym a ∙ b in cc

read_as : (file : List ℕ) (o : Object) → IsFileOf file o → whole_read object file ≡ Ok o
read_as file o is = seen_of file o is.in_bytes is.lawful is.spelled

-- a file has one object
pub one_object : (file : List ℕ) (o p : Object) → IsFileOf file o → IsFileOf file p → o ≡ p
one_object file o p is its = same_ok (whole_read object file) o p (read_as file o is) (read_as file p its)

pub one_code : (file : List ℕ) (o p : Object) → IsCodeOf file o → IsCodeOf file p → o ≡ p
one_code file o p code also = one_object file o p code.is also.is

-- or none, and one place
pub never_none : (file bytes : List ℕ) (o : Object) → IsFileOf file o → IsNoObject file bytes → ⊥
never_none file bytes o is lacks = lacks.none o is.lawful is.spelled

one_place : (file bytes others : List ℕ) → IsNoObject file bytes → IsNoObject file others → bytes ≡ others
one_place file bytes others one two =
    let same : one.bad.0 ≡ two.bad.0 = same_err (whole_read object file) one.bad.0 two.bad.0 one.bad.1 two.bad.1 in
    let place : one.place ≡ two.place = one.bad.2 ∙ ap (λ left. length file - left) same ∙ sym two.bad.2 in
    one.text ∙ ap (λ place. refusal_line (refusal.Object place)) place ∙ sym two.text

-- ONE FAULT

-- of two instructions one stands before the other, or they are one
in_order : (r i s j : ℕ) → StandsBefore r i s j ⊎ (StandsBefore s j r i ⊎ ((r ≡ s) × (i ≡ j)))
in_order r i s j = by (cases_lt r s) (cases_lt s r) (cases_lt i j) (cases_lt j i)
  where
    by : (r < s) ⊎ (s ≤ r) → (s < r) ⊎ (r ≤ s) → (i < j) ⊎ (j ≤ i) → (j < i) ⊎ (i ≤ j) →
        StandsBefore r i s j ⊎ (StandsBefore s j r i ⊎ ((r ≡ s) × (i ≡ j)))
    by (inl less) b c d = inl (inl less)
    by (inr a) (inl more) c d = inr (inl (inl more))
    by (inr a) (inr b) (inl less) d = inl (inr (omega arith, less))
    by (inr a) (inr b) (inr c) (inl more) = inr (inl (inr (omega arith, more)))
    by (inr a) (inr b) (inr c) (inr d) = inr (inr (omega arith, omega arith))

never_unsound : (o : Object) (r i rule : ℕ) → unsound o r i ≡ None → unsound o r i ≡ Some rule → ⊥
never_unsound o r i rule none some = none-some rule (sym none ∙ some)

-- there is one least rule that fails
one_fault : (o : Object) (r i rule s j other : ℕ) → IsLeast o (fault.Unsound r i rule) → IsLeast o (fault.Unsound s j other) →
    refusal_line (refusal.Unsound r i rule) ≡ refusal_line (refusal.Unsound s j other)
one_fault o r i rule s j other one two = by (in_order r i s j)
  where
    by : StandsBefore r i s j ⊎ (StandsBefore s j r i ⊎ ((r ≡ s) × (i ≡ j))) → refusal_line (refusal.Unsound r i rule) ≡ refusal_line (refusal.Unsound s j other)
    by (inl before) = absurd (never_unsound o r i rule (two.1 r i before) one.0)
    by (inr (inl behind)) = absurd (never_unsound o s j other (one.1 s j behind) two.0)
    by (inr (inr (e, f))) =
        let same : rule ≡ other = same_Some rule other (sym one.0 ∙ ap₂ (λ a b. unsound o a b) e f ∙ two.0) in
        λ t. refusal_line (refusal.Unsound (e t) (f t) (same t))

unsound_once : (file bytes others : List ℕ) → IsUnsound file bytes → IsUnsound file others → bytes ≡ others
unsound_once file bytes others one two =
    let same : one.o ≡ two.o = one_object file one.o two.o one.is two.is in
    one.text
    ∙ one_fault two.o one.routine one.instruction one.rule two.routine two.instruction two.rule
    (subst (λ o. IsLeast o (fault.Unsound one.routine one.instruction one.rule)) same one.least) two.least
    ∙ sym two.text

-- REFUSED OR NOT

pub refused_once : (file bytes others : List ℕ) → IsRefused file bytes → IsRefused file others → bytes ≡ others
refused_once file bytes others (inl lacks) (inl also) = one_place file bytes others lacks also
refused_once file bytes others (inl lacks) (inr bad) = absurd (never_none file bytes bad.o bad.is lacks)
refused_once file bytes others (inr bad) (inl lacks) = absurd (never_none file others bad.o bad.is lacks)
refused_once file bytes others (inr bad) (inr also) = unsound_once file bytes others bad also

pub refused_within : (file bytes : List ℕ) → IsRefused file bytes → length file ≤ OBJECT_LIMIT
refused_within file bytes (inl lacks) = lacks.within
refused_within file bytes (inr bad) = bad.is.within

-- a valid object is not refused
pub never_refused : (file bytes : List ℕ) (o : Object) → IsCodeOf file o → IsRefused file bytes → ⊥
never_refused file bytes o code (inl lacks) = never_none file bytes o code.is lacks
never_refused file bytes o code (inr bad) =
    let same : bad.o ≡ o = one_object file bad.o o bad.is code.is in
    never_unsound o bad.routine bad.instruction bad.rule (code.valid.sound bad.routine bad.instruction)
    (subst (λ p. IsLeast p (fault.Unsound bad.routine bad.instruction bad.rule)) same bad.least).0

pub listed_once : (file bytes others : List ℕ) → IsListed file bytes → IsListed file others → bytes ≡ others
listed_once file bytes others one two = one.text ∙ ap listing_of (one_object file one.o two.o one.is two.is) ∙ sym two.text

pub list_settled : (file : List ℕ) → IsSettled AnObject file (IsListed file) (IsNoObject file)
list_settled file = record {
  done_within = λ bytes listed. listed.is.within;
  refused_within = λ bytes lacks. lacks.within;
  never_both = λ bytes others listed. never_none file others listed.o listed.is;
  refused_once = one_place file;
}
