-- The number of an interrupt's or a dation's name is that of a device of this name.
use Rattle.std.specs.Prelude.{◌≡◌, ℕ, zero, suc, ◌+◌, ◌<◌, nat_lt, not, Bool, true, false, if◌then◌else◌, ◌||◌, IsTrue, List, [], ◌∷◌, length, Some, None, unwrap_or, slice_get}
use Rattle.std.specs.List.{list_any, position_or_len}
use Rattle.std.proofs.Common.{refl, ap, ◌∙◌, sym, subst, arith, true≢false}
use Rattle.std.proofs.lemmas.Bool.{ltb-false}
use Rattle.std.proofs.lemmas.Option.{none-some}
use Rattle.std.proofs.lemmas.Slice.Eq.{bytes_eq-Decides}
use Rattle.pearl_tree.specs.Names.{name_text}
use Rattle.pearl_names.specs.declared.scope.SortedName.{SortedName}
use Rattle.pearl_names.specs.Tables.{Sense, Interrupt, AlphicDation, BasicDation}
use Rattle.pearl_system.specs.declared.device.SpecifiedDevice.{SpecifiedDevice}
use Rattle.pearl_resolve.specs.Numbers.{Before, behind, device_number, module_number, module_numbers}
use Rattle.pearl_sound.specs.Laws.{IsOfDevice, has_text}
use Rattle.pearl_sound.proofs.SoundParts.{some_one}

pub record Stands (text : List ℕ) (devices : List SpecifiedDevice) (number : ℕ) : Type 0 where
  pub device : SpecifiedDevice
  pub few : number < length devices
  pub there : slice_get devices number ≡ Some device
  pub named : device.text.items ≡ text

first_stands : (text : List ℕ) (devices : List SpecifiedDevice) → IsTrue (list_any (has_text text) devices) →
    Stands text devices (position_or_len (has_text text) devices)
first_stands text [] any = absurd (true≢false (sym any))
first_stands text (head ∷ rest) any = by (has_text text head) refl any (λ more. first_stands text rest more)
  where
    by : (first : Bool) → has_text text head ≡ first → (first || list_any (has_text text) rest) ≡ true →
        (list_any (has_text text) rest ≡ true → Stands text rest (position_or_len (has_text text) rest)) →
        Stands text (head ∷ rest) (if not first then 1 + position_or_len (has_text text) rest else 0)
    by true same any more = record {
      device = head;
      few = omega arith;
      there = refl;
      named = sym ((bytes_eq-Decides text head.text.items).0 same);
    }
    by false same any more =
        let stands = more any in
        let next : suc (position_or_len (has_text text) rest) ≡ 1 + position_or_len (has_text text) rest = omega arith in
        subst (λ n. Stands text (head ∷ rest) n) next (record {
          device = stands.device;
          few = (let few = stands.few in omega (arith, few));
          there = stands.there;
          named = stands.named;
        })

number_is : (count number : ℕ) → number < count → unwrap_or (if nat_lt number count then Some number else None) 0 ≡ number
number_is count number less = by (nat_lt number count) refl
  where
    by : (test : Bool) → nat_lt number count ≡ test → unwrap_or (if test then Some number else None) 0 ≡ number
    by true is = refl
    by false is = let most = ltb-false number count is in absurd (omega (arith, less, most))

pub device_stands : (text : List ℕ) (devices : List SpecifiedDevice) → IsTrue (list_any (has_text text) devices) →
    Stands text devices (device_number devices text)
device_stands text devices any =
    let stands = first_stands text devices any in
    subst (λ n. Stands text devices n)
    (sym (number_is (length devices) (position_or_len (has_text text) devices) stands.few)) stands

module _ (devices : List SpecifiedDevice) (numbers : List ℕ) where
  number_there : (before : Before) (entries : List SortedName) (senses : List Sense) (i number : ℕ) (entry : SortedName) (sense : Sense) →
      slice_get entries i ≡ Some entry → slice_get senses i ≡ Some sense →
      slice_get (module_numbers devices numbers before entries senses) i ≡ Some number →
      (at : Before) × (module_number devices numbers at entry sense ≡ number)
  number_there before [] senses i number entry sense named is has = absurd (none-some entry named)
  number_there before (head ∷ entries) [] i number entry sense named is has = absurd (none-some sense is)
  number_there before (head ∷ entries) (first ∷ rest) zero number entry sense named is has = (
    before,
    ap (λ s. module_number devices numbers before entry s) (sym (some_one is)) ∙
        ap (λ e. module_number devices numbers before e first) (sym (some_one named)) ∙ some_one has,
  )
  number_there before (head ∷ entries) (first ∷ rest) (suc i) number entry sense named is has =
      number_there (behind before first) entries rest i number entry sense named is has

  same_number : (at : Before) (entry : SortedName) (sense : Sense) (number : ℕ) → IsOfDevice sense →
      module_number devices numbers at entry sense ≡ number → device_number devices (name_text entry.name) ≡ number
  same_number at entry Interrupt number of is = is
  same_number at entry (AlphicDation direction) number of is = is
  same_number at entry (BasicDation direction kind) number of is = is
  same_number at entry sense number of is = absurd of

  pub names_devices : (before : Before) (entries : List SortedName) (senses : List Sense) (i number : ℕ) (entry : SortedName) (sense : Sense) →
      slice_get entries i ≡ Some entry → slice_get senses i ≡ Some sense → IsOfDevice sense →
      slice_get (module_numbers devices numbers before entries senses) i ≡ Some number →
      IsTrue (list_any (has_text (name_text entry.name)) devices) →
      (device : SpecifiedDevice) × (slice_get devices number ≡ Some device) × (device.text.items ≡ name_text entry.name)
  names_devices before entries senses i number entry sense named is of has any =
      let at = number_there before entries senses i number entry sense named is has in
      let stands = subst (λ n. Stands (name_text entry.name) devices n) (same_number at.0 entry sense number of at.1)
      (device_stands (name_text entry.name) devices any) in
      (stands.device, stands.there, stands.named)
