-- A module has at most 396 devices: four sorts, each with numbers from 1 to 99.
use Rattle.std.specs.Prelude.{◌≡◌, ℕ, ◌+◌, ◌*◌, ◌≤◌, nat_le, Bool, true, false, if◌then◌else◌, List, [], ◌∷◌, length, Option, Some, None, find, option_and_then, filter_map, All, Contains}
use Rattle.std.specs.List.{AllByRecursion, cons_option}
use Rattle.std.proofs.Common.{refl, ap, subst, arith, inl, inr}
use Rattle.std.proofs.lemmas.Bool.{leb-true}
use Rattle.std.proofs.lemmas.List.Elements.{All-head, All-tail}
use Rattle.std.proofs.lemmas.Option.{none-some}
use Rattle.pearl_tree.specs.declared.declaration.Device.{Device}
use Rattle.pearl_tree.specs.ShownModules.{ShownTree}
use Rattle.pearl_system.specs.declared.device.Role.{Role}
use Rattle.pearl_system.specs.declared.device.Role.TheVariants as role
use Rattle.pearl_system.specs.declared.device.SpecifiedDevice.{SpecifiedDevice}
use Rattle.pearl_system.specs.declared.specified.Specified.{Specified}
use Rattle.pearl_system.specs.Devices.{devices_of, named, spelling, sort_of, is_number, role_of, numbered, specified_as, meant, rank, device_key, has_key, IsDevice}
use Rattle.pearl_system.specs.Rising.{IsLess, IsRising, Lists}
use Rattle.pearl_system.specs.Specified.{specified}
use Rattle.pearl_system.proofs.Offered.{pairs_head, pairs_tail, contains_here, contains_later}
use Rattle.pearl_sound_sizes.proofs.Basics.{some_one, both}

abbrev IsNumbered : SpecifiedDevice → Type 0
IsNumbered device = (1 ≤ device.number) × (device.number ≤ 99)

-- each device of a module has a number from 1 to 99
number_fits : (spec : Specified) (number : ℕ) (of : Role) (device : SpecifiedDevice) (test : Bool) → is_number number ≡ test →
    (if test then Some (record { text = spec.text; place = spec.place; number = number; role = of }) else None) ≡ Some device → IsNumbered device
number_fits spec number of device true fits is =
    let parts = both (nat_le 1 number) (nat_le number 99) fits in
    let low = leb-true 1 number parts.0 in
    let high = leb-true number 99 parts.1 in
    let same : number ≡ device.number = ap (λ (device : SpecifiedDevice). device.number) (some_one is) in
    (omega (arith, low, same), omega (arith, high, same))
number_fits spec number of device false fits is = absurd (none-some device is)

role_fits : (spec : Specified) (number : ℕ) (found : Option Role) (device : SpecifiedDevice) → option_and_then (numbered spec number) found ≡ Some device →
    IsNumbered device
role_fits spec number None device is = absurd (none-some device is)
role_fits spec number (Some of) device is = number_fits spec number of device (is_number number) refl is

device_fits : (spec : Specified) (found : Option Device) (device : SpecifiedDevice) → option_and_then (specified_as spec) found ≡ Some device → IsNumbered device
device_fits spec None device is = absurd (none-some device is)
device_fits spec (Some one) device is =
    role_fits spec one.number.value (option_and_then (λ sort. role_of sort spec.form) (sort_of (spelling one.word))) device is

all_fit : (devices : List Device) (specs : List Specified) → AllByRecursion IsNumbered (filter_map (meant devices) specs)
all_fit devices [] = tt
all_fit devices (spec ∷ rest) = by (meant devices spec) refl (all_fit devices rest)
  where
    by : (found : Option SpecifiedDevice) → meant devices spec ≡ found → AllByRecursion IsNumbered (filter_map (meant devices) rest) →
        AllByRecursion IsNumbered (cons_option found (filter_map (meant devices) rest))
    by None is more = more
    by (Some device) is more = (device_fits spec (named devices spec.text.items) device is, more)

found_fits : (P : SpecifiedDevice → Type 0) (test : SpecifiedDevice → Bool) (devices : List SpecifiedDevice) (device : SpecifiedDevice) →
    AllByRecursion P devices → find test devices ≡ Some device → P device
found_fits P test [] device all is = absurd (none-some device is)
found_fits P test (first ∷ rest) device all is = by (test first) is (λ more. found_fits P test rest device all.1 more)
  where
    by : (b : Bool) → (if b then Some first else find test rest) ≡ Some device → (find test rest ≡ Some device → P device) → P device
    by true is more = subst P (some_one is) all.0
    by false is more = more is

is_numbered : (tree : ShownTree) (device : SpecifiedDevice) → IsDevice tree device → IsNumbered device
is_numbered tree device is =
    found_fits IsNumbered (has_key (device_key device)) (filter_map (meant (devices_of tree)) (specified tree)) device (all_fit (devices_of tree) (specified tree)) is

all_contained : (P : SpecifiedDevice → Type 0) (devices : List SpecifiedDevice) → ((device : SpecifiedDevice) → Contains devices device → P device) →
    AllByRecursion P devices
all_contained P [] each = tt
all_contained P (first ∷ rest) each = (
  each first (contains_here first rest),
  all_contained P rest (λ device inside. each device (contains_later first rest device inside)),
)

-- devices have codes from 1 to 396, which rise
abbrev code : SpecifiedDevice → ℕ
code device = 99 * rank device.role + device.number

rank_small : (of : Role) → rank of ≤ 3
rank_small role.Interrupt = omega arith
rank_small other = omega arith

code_rises : (one other : SpecifiedDevice) → IsNumbered one → IsNumbered other → IsLess (device_key one) (device_key other) → code one + 1 ≤ code other
code_rises one other first second (inl less) = let a = first.1 in let b = second.0 in omega (arith, less, a, b)
code_rises one other first second (inr same) = let a = same.0 in let b = same.1 in omega (arith, a, b)

all_later : (one : SpecifiedDevice) (devices : List SpecifiedDevice) → IsNumbered one → AllByRecursion IsNumbered devices →
    All (λ other. IsLess (device_key one) (device_key other)) devices → AllByRecursion (λ other. code one + 1 ≤ code other) devices
all_later one [] own all less = tt
all_later one (first ∷ rest) own all less = (
  code_rises one first own all.0 (All-head (λ other. IsLess (device_key one) (device_key other)) first rest less),
  all_later one rest own all.1 (All-tail (λ other. IsLess (device_key one) (device_key other)) first rest less),
)

few_from : (low : ℕ) (devices : List SpecifiedDevice) → low ≤ 397 → IsRising device_key devices → AllByRecursion IsNumbered devices →
    AllByRecursion (λ device. low ≤ code device) devices → length devices + low ≤ 397
few_from low [] small rising all above = omega (arith, small)
few_from low (first ∷ rest) small rising all above =
    let a = rank_small first.role in
    let b = all.0.1 in
    let c = above.0 in
    let more = few_from (code first + 1) rest (omega (arith, a, b))
    (pairs_tail (λ one other. IsLess (device_key one) (device_key other)) first rest rising) all.1
    (all_later first rest all.0 all.1 (pairs_head (λ one other. IsLess (device_key one) (device_key other)) first rest rising)) in
    omega (arith, c, more)

pub few_devices : (tree : ShownTree) (devices : List SpecifiedDevice) → Lists device_key (IsDevice tree) devices → length devices ≤ 396
few_devices tree devices lists =
    let all = all_contained IsNumbered devices (λ device inside. is_numbered tree device ((lists.exact device).0 inside)) in
    let above = all_positive devices all in
    let few = few_from 1 devices (omega arith) lists.rising all above in
    omega (arith, few)
  where
    all_positive : (devices : List SpecifiedDevice) → AllByRecursion IsNumbered devices → AllByRecursion (λ device. 1 ≤ code device) devices
    all_positive [] all = tt
    all_positive (first ∷ rest) all = ((let a = all.0.0 in omega (arith, a)), all_positive rest all.1)
