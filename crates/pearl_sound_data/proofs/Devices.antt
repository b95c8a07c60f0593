-- The devices of a program have numbers from 1 to 99 and kinds with lengths in their ranges, and stand in order.
use Rattle.std.specs.Prelude.{◌≡◌, ℕ, ◌<◌, ◌≤◌, true, ◌&&◌, nat_le, List, [], ◌∷◌, map, Option, Some, None, is_some, Contains}
use Rattle.std.specs.List.{AllByRecursion}
use Rattle.std.proofs.Common.{refl, ap, ◌∙◌, sym, arith, inl, inr}
use Rattle.std.proofs.lemmas.Bool.{leb-true}
use Rattle.std.proofs.lemmas.List.Elements.{All-contains_itself, recursion_from_All, All-head}
use Rattle.pearl_value.specs.declared.kind.Kind.{Kind}
use Rattle.pearl_value.specs.Kinds.{IsKind}
use Rattle.pearl_tree.specs.declared.declaration.Device.{Device}
use Rattle.pearl_tree.specs.ShownModules.{ShownTree}
use Rattle.pearl_names.specs.declared.length.DefaultLength.{DefaultLength}
use Rattle.pearl_names.specs.Lengths.{lengths_set, kind_of_basic}
use Rattle.pearl_system.specs.declared.device.Role.{Role}
use Rattle.pearl_system.specs.declared.device.Role.TheVariants as role
use Rattle.pearl_system.specs.declared.device.SpecifiedDevice.{SpecifiedDevice}
use Rattle.pearl_system.specs.Devices.{rank, device_key, is_number, sort_of, spelling, IsDevice}
use Rattle.pearl_system.specs.declared.specified.Specified.{Specified}
use Rattle.pearl_system.specs.Laws.{IsSpecifiedBy}
use Rattle.pearl_system.specs.Rising.{IsLess, IsRising, Lists}
use Rattle.pearl_system.proofs.Offered.{devices_are_specified, pairs_head, pairs_tail}
use Rattle.pearl_value.specs.Devices as device_list
use Rattle.pearl_value.specs.Devices.{sort_rank, own_number, IsBefore, AreRising}
use Rattle.pearl_resolve_tables.specs.Devices.{kind_or_short, device_of}
use Rattle.pearl_sound_data.proofs.Faults.{really, both, all_weaker}
use Rattle.pearl_sound.proofs.Offered.{AreSet, all_set}
use Rattle.pearl_sound_data.proofs.Shapes.{IfThere, basic_kind}

number_fits : (n : ℕ) → is_number n ≡ true → (0 < n) × (n ≤ 99)
number_fits n is =
    let tests = both (nat_le 1 n) (nat_le n 99) is in
    let low = leb-true 1 n tests.0 in
    (omega (arith, low), leb-true n 99 tests.1)

short_kind : (known : Option Kind) → IfThere IsKind known → IsKind (kind_or_short known)
short_kind None is = (omega arith, omega arith)
short_kind (Some kind) is = is

module _ (lengths : List DefaultLength) (set : AreSet lengths) where
  device_sound : (device : SpecifiedDevice) → is_number device.number ≡ true → device_list.IsDevice (device_of lengths device)
  device_sound device is = by device.role
    where
      by : (of : Role) → device_list.IsDevice (device_of lengths (record device { role = of }))
      by role.Interrupt = let fits = number_fits device.number is in (fits.0, fits.1, tt)
      by (role.Terminal direction) = let fits = number_fits device.number is in (fits.0, fits.1, tt)
      by (role.Input basic) =
          let fits = number_fits device.number is in
          (fits.0, fits.1, short_kind (kind_of_basic lengths basic) (basic_kind lengths set basic))
      by (role.Output basic) =
          let fits = number_fits device.number is in
          (fits.0, fits.1, short_kind (kind_of_basic lengths basic) (basic_kind lengths set basic))

  devices_sound : (devices : List SpecifiedDevice) → AllByRecursion (λ (device : SpecifiedDevice). is_number device.number ≡ true) devices →
      AllByRecursion device_list.IsDevice (map (device_of lengths) devices)
  devices_sound [] all = tt
  devices_sound (device ∷ rest) all = (device_sound device all.0, devices_sound rest all.1)

same_rank : (lengths : List DefaultLength) (device : SpecifiedDevice) → sort_rank (device_of lengths device) ≡ rank device.role
same_rank lengths device = by device.role
  where
    by : (of : Role) → sort_rank (device_of lengths (record device { role = of })) ≡ rank of
    by role.Interrupt = refl
    by (role.Terminal direction) = refl
    by (role.Input basic) = refl
    by (role.Output basic) = refl

same_number : (lengths : List DefaultLength) (device : SpecifiedDevice) → own_number (device_of lengths device) ≡ device.number
same_number lengths device = by device.role
  where
    by : (of : Role) → own_number (device_of lengths (record device { role = of })) ≡ device.number
    by role.Interrupt = refl
    by (role.Terminal direction) = refl
    by (role.Input basic) = refl
    by (role.Output basic) = refl

stands_before : (lengths : List DefaultLength) (a b : SpecifiedDevice) → IsLess (device_key a) (device_key b) →
    IsBefore (device_of lengths a) (device_of lengths b)
stands_before lengths a b (inl less) =
    let one = same_rank lengths a in let two = same_rank lengths b in inl (omega (arith, one, two, less))
stands_before lengths a b (inr less) =
    let one = same_number lengths a in let two = same_number lengths b in let below = less.1 in
    inr (same_rank lengths a ∙ less.0 ∙ sym (same_rank lengths b), omega (arith, one, two, below))

in_order : (lengths : List DefaultLength) (devices : List SpecifiedDevice) → IsRising device_key devices → AreRising (map (device_of lengths) devices)
in_order lengths (device ∷ next ∷ rest) rising =
    let R = λ (x y : SpecifiedDevice). IsLess (device_key x) (device_key y) in (
      stands_before lengths device next (All-head (R device) next rest (pairs_head R device (next ∷ rest) rising)),
      in_order lengths (next ∷ rest) (pairs_tail R device (next ∷ rest) rising),
    )
in_order lengths other rising = tt

has_number : (tree : ShownTree) (device : SpecifiedDevice) →
    (n : ℕ) × (spec : Specified) × (part : Device) × IsSpecifiedBy tree n spec part device → is_number device.number ≡ true
has_number tree device found =
    let part = found.2 in
    let is = really (is_some (sort_of (spelling part.word)) && is_number part.number.value) found.3.specifies.keeps_s11 in
    ap is_number found.3.same.number ∙ (both (is_some (sort_of (spelling part.word))) (is_number part.number.value) is).1

pub program_devices : (tree : ShownTree) (devices : List SpecifiedDevice) → Lists device_key (IsDevice tree) devices →
    AllByRecursion device_list.IsDevice (map (device_of (lengths_set tree.declarations)) devices) ×
    AreRising (map (device_of (lengths_set tree.declarations)) devices)
program_devices tree devices lists =
    let lengths = lengths_set tree.declarations in
    let specified = devices_are_specified tree devices lists in (
      devices_sound lengths (all_set tree.declarations) devices
          (all_weaker (Contains devices) (λ (device : SpecifiedDevice). is_number device.number ≡ true)
          (λ device among. has_number tree device (specified.from device among)) devices
          (recursion_from_All (Contains devices) devices (All-contains_itself devices))),
      in_order lengths devices lists.rising,
    )
