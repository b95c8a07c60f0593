-- Which device and which task is the first that is wanted.
use Rattle.std.proofs.Common.{◌≡◌, ◌≢◌, ◌<◌, ◌+◌, ℕ, zero, suc, List, [], ◌∷◌, Bool, true, false, not, cond, ◌&&◌, ◌==◌, length, nat_lt, Some, None, slice_get, bytes_eq, refl, ap, sym, ◌∙◌, subst, arith}
use Rattle.std.proofs.lemmas.Bool.{lt-ltb, le-ltb, eqb-true, eq-eqb}
use Rattle.std.proofs.lemmas.Option.{slice_get_within}
use Rattle.std.proofs.lemmas.Slice.Eq.{bytes_eq-Decides}
use Rattle.std.specs.Bool.{Decides}
use Rattle.std.specs.List.{position, position_or_len}
use Rattle.pearl_value.specs.declared.device.Device.{Device}
use Rattle.pearl_value.specs.declared.device.Device.TheVariants as device
use Rattle.pearl_value.specs.declared.device.Direction.{Direction}
use Rattle.pearl_value.specs.declared.device.Direction.TheVariants as direction
use Rattle.pearl_rules.specs.declared.setup.TaskEntry.{TaskEntry}
use Rattle.pearl_journal.specs.Devices.{is_input, is_interrupt, is_readable, reads}
use Rattle.pearl_journal_laws.specs.Named.{IsFirst, IsInput, IsInterrupt, IsNamed, IsNowhere, IsReadable}

-- PLACES

module _ {X : Type 0} (test : X → Bool) (IsWanted : X → Type 0)
    (decides : (x : X) → Decides (test x) (IsWanted x)) where
  unwanted : (x : X) → (IsWanted x → ⊥) → test x ≡ false
  unwanted x never = by (test x) refl
    where
      by : (b : Bool) → test x ≡ b → b ≡ false
      by true e = absurd (never ((decides x).0 e))
      by false e = refl

  place_is : (all : List X) (place : ℕ) (found : X) → slice_get all place ≡ Some found → IsWanted found →
      ((before : ℕ) (other : X) → before < place → slice_get all before ≡ Some other → IsWanted other → ⊥) →
      position_or_len test all ≡ place
  place_is [] place found stands wanted first = cc
  place_is (x ∷ all) zero found stands wanted first =
      let same : x ≡ found = cc in
      let yes : test x ≡ true = (decides x).1 (subst IsWanted (sym same) wanted) in
      ap (λ b. cond (not b) (1 + position_or_len test all) 0) yes
  place_is (x ∷ all) (suc place) found stands wanted first =
      let not_here : test x ≡ false = unwanted x (first 0 x (omega arith) refl) in
      let later = place_is all place found stands wanted (λ before other less.
      first (suc before) other (omega (arith, less))) in
      let more : 1 + position_or_len test all ≡ suc place = omega (arith, later) in
      ap (λ b. cond (not b) (1 + position_or_len test all) 0) not_here ∙ more

  no_place : (all : List X) → IsNowhere IsWanted all → position_or_len test all ≡ length all
  no_place [] none = refl
  no_place (x ∷ all) none =
      let not_here : test x ≡ false = unwanted x (none 0 x refl) in
      let later = no_place all (λ place other. none (suc place) other) in
      let more : 1 + position_or_len test all ≡ suc (length all) = omega (arith, later) in
      ap (λ b. cond (not b) (1 + position_or_len test all) 0) not_here ∙ more

  pub first_found : (all : List X) (place : ℕ) → IsFirst IsWanted all place → position test all ≡ Some place
  first_found all place is =
      let at = place_is all place is.found is.stands is.wanted is.first in
      ap (λ n. cond (nat_lt n (length all)) (Some n) None) at
      ∙ ap (λ b. cond b (Some place) None) (lt-ltb place (length all) (slice_get_within all place is.found is.stands))

  pub none_found : (all : List X) → IsNowhere IsWanted all → position test all ≡ None
  none_found all none =
      ap (λ n. cond (nat_lt n (length all)) (Some n) None) (no_place all none)
      ∙ ap (λ b. cond b (Some (length all)) None) (le-ltb (length all) (length all) (omega arith))

-- DEVICES AND TASKS

pub interrupt_decides : (k : ℕ) (d : Device) → Decides (is_interrupt k d) (IsInterrupt k d)
interrupt_decides k (device.Interrupt number) =
    (λ e. ap device.Interrupt (eqb-true number k e), λ e. let same : number ≡ k = cc in eq-eqb number k same)
interrupt_decides k (device.Terminal number direction) = (λ e. cc, λ e. cc)
interrupt_decides k (device.Input number kind) = (λ e. cc, λ e. cc)
interrupt_decides k (device.Output number kind) = (λ e. cc, λ e. cc)

reads_is : (of : Direction) → reads of ≡ true → of ≢ direction.Out
reads_is direction.In e same = cc
reads_is direction.Out e same = cc
reads_is direction.InOut e same = cc

is_read : (of : Direction) → of ≢ direction.Out → reads of ≡ true
is_read direction.In differs = refl
is_read direction.Out differs = absurd (differs refl)
is_read direction.InOut differs = refl

both : (a b : Bool) → a && b ≡ true → (a ≡ true) × (b ≡ true)
both true true e = (refl, refl)
both true false e = cc
both false b e = cc

pub readable_decides : (k : ℕ) (d : Device) → Decides (is_readable k d) (IsReadable k d)
readable_decides k (device.Interrupt number) = (λ e. cc, λ is. let e = is.1 in cc)
readable_decides k (device.Terminal number of) = (yes, sure)
  where
    yes : number == k && reads of ≡ true → IsReadable k (device.Terminal number of)
    yes e =
        let h = both (number == k) (reads of) e in
        (of, ap (λ n. device.Terminal n of) (eqb-true number k h.0), reads_is of h.1)

    sure : IsReadable k (device.Terminal number of) → number == k && reads of ≡ true
    sure is =
        let e = is.1 in
        let same : number ≡ k = cc in
        let alike : of ≡ is.0 = cc in
        rw (eq-eqb number k same) (is_read of (subst (λ d. d ≢ direction.Out) (sym alike) is.2))
readable_decides k (device.Input number kind) = (λ e. cc, λ is. let e = is.1 in cc)
readable_decides k (device.Output number kind) = (λ e. cc, λ is. let e = is.1 in cc)

pub input_decides : (k : ℕ) (d : Device) → Decides (is_input k d) (IsInput k d)
input_decides k (device.Interrupt number) = (λ e. cc, λ is. let e = is.1 in cc)
input_decides k (device.Terminal number direction) = (λ e. cc, λ is. let e = is.1 in cc)
input_decides k (device.Input number kind) = (
  λ e. (kind, ap (λ n. device.Input n kind) (eqb-true number k e)),
  λ is. let e = is.1 in let same : number ≡ k = cc in eq-eqb number k same,
)
input_decides k (device.Output number kind) = (λ e. cc, λ is. let e = is.1 in cc)

pub named_decides : (name : List ℕ) (task : TaskEntry) → Decides (bytes_eq task.name.items name) (IsNamed name task)
named_decides name task = bytes_eq-Decides task.name.items name
