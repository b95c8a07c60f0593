-- A module's devices are those that it specifies.
use Rattle.std.proofs.Common.{◌≡◌, inl, inr, ℕ, zero, suc, Bool, true, false, List, [], Option, None, Some, refl, sym, ap, subst, ◌∙◌, bytes_eq}
use Rattle.std.specs.List.{Contains, filter_map, find, slice_get}
use Rattle.pearl_tree.specs.declared.declaration.Device.{Device}
use Rattle.pearl_tree.specs.declared.fault.RuleFault.{RuleFault}
use Rattle.pearl_tree.specs.declared.rule.TheConstants as rule
use Rattle.pearl_tree.specs.ShownModules.{ShownTree}
use Rattle.pearl_system.specs.declared.device.DeviceSort.{DeviceSort}
use Rattle.pearl_system.specs.declared.device.DeviceSort.TheVariants as sort
use Rattle.pearl_system.specs.declared.device.Role.{Role}
use Rattle.pearl_system.specs.declared.device.Role.TheVariants as role
use Rattle.pearl_system.specs.declared.device.SpecifiedDevice.{SpecifiedDevice}
use Rattle.pearl_system.specs.declared.specified.Specified.{Specified}
use Rattle.pearl_system.specs.Devices.{devices_of, device_key, has_key, meant, named, rank, IsDevice}
use Rattle.pearl_system.specs.Laws.{sort_of_role, AreSpecified, HasWordAndNumber, IsSpecifiedBy, Specifies}
use Rattle.pearl_system.specs.Rising.{Lists}
use Rattle.pearl_system.specs.Broken.{IsBroken}
use Rattle.pearl_system.specs.Rules.{broken, is_missed, is_no_device, is_unsuited, word_place}
use Rattle.pearl_system.specs.Specified.{specified}
use Rattle.pearl_system.proofs.Broken.{faults_are_broken, get_contains}
use Rattle.pearl_system.proofs.Found.{find_passes, has_key_is, has_key_of}
use Rattle.pearl_system.proofs.Lists.{some_same}
use Rattle.pearl_system.proofs.Once.{none_in}
use Rattle.pearl_system.proofs.Tests.{find_contains, missed_from, no_device_from, unsuited_from}
use Rattle.pearl_system.proofs.Said.{said_to, meant_part, part_meant, first_of, found_of}

sort_at : ℕ → DeviceSort
sort_at zero = sort.Interrupt
sort_at (suc zero) = sort.Terminal
sort_at (suc (suc zero)) = sort.Input
sort_at _ = sort.Output

rank_of_sort : DeviceSort → ℕ
rank_of_sort sort.Interrupt = 0
rank_of_sort sort.Terminal = 1
rank_of_sort sort.Input = 2
rank_of_sort sort.Output = 3

sort_at_rank : (given : Role) → sort_at (rank given) ≡ sort_of_role given
unfolding sort_at
sort_at_rank role.Interrupt = refl
sort_at_rank (role.Terminal direction) = refl
sort_at_rank (role.Input basic) = refl
sort_at_rank (role.Output basic) = refl

rank_of_role : (given : Role) → rank_of_sort (sort_of_role given) ≡ rank given
unfolding rank_of_sort
rank_of_role role.Interrupt = refl
rank_of_role (role.Terminal direction) = refl
rank_of_role (role.Input basic) = refl
rank_of_role (role.Output basic) = refl

-- a device with the key of another has its word and number
as_other : (part : Device) (device other : SpecifiedDevice) → device_key other ≡ device_key device → HasWordAndNumber part device → HasWordAndNumber part other
as_other part device other key has =
    let same : sort_of_role device.role ≡ sort_of_role other.role =
    sym (sort_at_rank device.role) ∙ ap (λ (k : ℕ × ℕ). sort_at k.0) (sym key) ∙ sort_at_rank other.role in
    record { word = has.word ∙ ap Some same; number = ap (λ (k : ℕ × ℕ). k.1) key ∙ has.number }

-- two devices that have the word and number of one have one key
one_key : (part : Device) (device other : SpecifiedDevice) → HasWordAndNumber part device → HasWordAndNumber part other → device_key other ≡ device_key device
one_key part device other first second =
    let same : sort_of_role other.role ≡ sort_of_role device.role =
    some_same (sort_of_role other.role) (sort_of_role device.role) (sym second.word ∙ first.word) in
    let ranked : rank other.role ≡ rank device.role = sym (rank_of_role other.role) ∙ ap rank_of_sort same ∙ rank_of_role device.role in
    let numbered : other.number ≡ device.number = second.number ∙ sym first.number in
    let pair : ℕ → ℕ → ℕ × ℕ = λ a b. (a, b) in
    let half : pair (rank other.role) other.number ≡ pair (rank device.role) other.number = ap (λ a. pair a other.number) ranked in
    half ∙ ap (λ b. pair (rank device.role) b) numbered

-- what is a device by its definition is specified
specified_by_name : (tree : ShownTree) (device : SpecifiedDevice) → IsDevice tree device
    → (n : ℕ) × (spec : Specified) × (part : Device) × IsSpecifiedBy tree n spec part device
specified_by_name tree device is =
    let (n, spec, first) = first_of (has_key (device_key device)) (meant (devices_of tree)) (specified tree) device is in
    let (part, means, said) = meant_part (devices_of tree) spec device first.gives in (
      n,
      spec,
      part,
      record {
        specifies = record { stands = first.stands; means = means; keeps_s11 = said.keeps_s11; keeps_s13 = said.keeps_s13; keeps_s14 = said.keeps_s14 };
        same = said.same;
        text = said.text;
        place = said.place;
        suits = said.suits;
        first = λ m earlier other below specifies same.
            let told = said_to earlier other specifies.keeps_s11 specifies.keeps_s13 specifies.keeps_s14 in
            let given : meant (devices_of tree) earlier ≡ Some told.0 = part_meant (devices_of tree) earlier other told.0 specifies.means told.1 in
            clash tree n earlier other device told.0 given same specifies.means (first.earlier m earlier told.0 below specifies.stands given);
      },
    )
  where
    clash : (tree : ShownTree) (n : ℕ) (earlier : Specified) (other : Device) (device again : SpecifiedDevice) → meant (devices_of tree) earlier ≡ Some again
        → HasWordAndNumber other device → named (devices_of tree) earlier.text.items ≡ Some other → has_key (device_key device) again ≡ false → ⊥
    clash tree n earlier other device again given same means refused =
        let told = meant_part (devices_of tree) earlier again given in
        let one : told.0 ≡ other = some_same told.0 other (sym told.1 ∙ means) in
        let its : HasWordAndNumber other again = subst (λ p. HasWordAndNumber p again) one told.2.same in
        let passes : has_key (device_key device) again ≡ true = has_key_of (device_key device) again (one_key other device again same its) in
        let wrong : true ≡ false = sym passes ∙ refused in
        cc

-- a name that specifies a device of the system part has one among the devices with this word and number
device_for : (tree : ShownTree) (devices : List SpecifiedDevice) → Lists device_key (IsDevice tree) devices
    → (n : ℕ) (spec : Specified) (part : Device) → Specifies tree n spec part → (device : SpecifiedDevice) × Contains devices device × HasWordAndNumber part device
device_for tree devices lists n spec part specifies =
    let told = said_to spec part specifies.keeps_s11 specifies.keeps_s13 specifies.keeps_s14 in
    let key = device_key told.0 in
    let given : meant (devices_of tree) spec ≡ Some told.0 = part_meant (devices_of tree) spec part told.0 specifies.means told.1 in
    let found = found_of (has_key key) (meant (devices_of tree)) (specified tree) n spec told.0 specifies.stands given (has_key_of key told.0 refl) in
    let same_key : device_key found.0 ≡ key = has_key_is key found.0 (find_passes (has_key key) (filter_map (meant (devices_of tree)) (specified tree)) found.0 found.1) in
    let is : IsDevice tree found.0 =
    subst (λ k. find (has_key k) (filter_map (meant (devices_of tree)) (specified tree)) ≡ Some found.0) (sym same_key) found.1 in
    let means = meant_part (devices_of tree) spec told.0 given in
    let one : means.0 ≡ part = some_same means.0 part (sym means.1 ∙ specifies.means) in
    let its : HasWordAndNumber part told.0 = subst (λ p. HasWordAndNumber p told.0) one means.2.same in
    (found.0, (lists.exact found.0).1 is, as_other part told.0 found.0 same_key its)

pub devices_are_specified : (tree : ShownTree) (devices : List SpecifiedDevice) → Lists device_key (IsDevice tree) devices → AreSpecified tree devices
devices_are_specified tree devices lists = record {
  from = λ device among. specified_by_name tree device ((lists.exact device).0 among);
  to = λ n spec part specifies. device_for tree devices lists n spec part specifies;
}

pub specified_means : (tree : ShownTree) → broken tree ≡ [] → (n : ℕ) (spec : Specified)
    → slice_get (specified tree) n ≡ Some spec → (part : Device) × Specifies tree n spec part
specified_means tree keeps n spec stands = by (named (devices_of tree) spec.text.items) refl
  where
    none : (fault : RuleFault) → IsBroken tree fault → ⊥
    none fault is = none_in fault (subst (λ faults. Contains faults fault) keeps ((faults_are_broken tree fault).1 is))

    among : Contains (specified tree) spec
    among = get_contains (specified tree) n spec stands

    missed : is_missed spec.form (named (devices_of tree) spec.text.items) ≡ true → ⊥
    missed is = none (record { place = spec.place; rule = rule.S13 }) (inr (inr (inr (inl (refl, (spec, among, missed_from tree spec is, refl))))))

    unsuited : is_unsuited spec.form (named (devices_of tree) spec.text.items) ≡ true → ⊥
    unsuited is = none (record { place = spec.place; rule = rule.S14 }) (inr (inr (inr (inr (refl, (spec, among, unsuited_from tree spec is, refl))))))

    no_device : (part : Device) → Contains (devices_of tree) part → is_no_device part ≡ true → ⊥
    no_device part has is = none (record { place = word_place part.word; rule = rule.S11 }) (inr (inl (refl, (part, has, no_device_from part is, refl))))

    kept : (b : Bool) → (b ≡ true → ⊥) → b ≡ false
    kept true refused = absurd (refused refl)
    kept false refused = refl

    by : (o : Option Device) → named (devices_of tree) spec.text.items ≡ o → (part : Device) × Specifies tree n spec part
    by None e = absurd (missed (ap (is_missed spec.form) e))
    by (Some part) e =
        let at = find_contains (λ (device : Device). bytes_eq spec.text.items device.name.text.items) (devices_of tree) part e in (
          part,
          record {
            stands = stands;
            means = e;
            keeps_s11 = kept (is_no_device part) (no_device part at);
            keeps_s13 = kept (is_missed spec.form (Some part)) (λ is. missed (ap (is_missed spec.form) e ∙ is));
            keeps_s14 = kept (is_unsuited spec.form (Some part)) (λ is. unsuited (ap (is_unsuited spec.form) e ∙ is));
          },
        )
