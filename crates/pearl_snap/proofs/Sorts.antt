-- How many slots, and devices of one sort, an object has.
use Rattle.std.proofs.Common.{◌≡◌, inl, inr, ℕ, zero, suc, ◌+◌, ◌≤◌, ◌<◌, List, [], ◌∷◌, length, Some, refl, ap, arith, length-append}
use Rattle.std.specs.Prelude.{◌==◌, sum_by, replicate, slice_get}
use Rattle.std.proofs.lemmas.Bool.{cases_lt, eq-eqb, ne_eqb}
use Rattle.std.proofs.lemmas.List.{length-replicate}
use Rattle.std.proofs.lemmas.List.Sums.{sum_by-cons}
use Rattle.std.specs.List.{AllByRecursion, AllZip, filter, flat_map}
use Rattle.pearl_value.specs.declared.device.Device.{Device}
use Rattle.pearl_value.specs.declared.device.Device.TheVariants.{Interrupt, Terminal, Input, Output}
use Rattle.pearl_value.specs.Devices.{sort_rank, own_number, IsDevice, IsBefore, AreRising}
use Rattle.pearl_instructions.specs.declared.object.Leaf.{Leaf}
use Rattle.pearl_instructions.specs.declared.object.Parts.{Parts as Object}
use Rattle.pearl_instructions.specs.Objects.{first_slot}
use Rattle.pearl_instructions.specs.Lawful.{IsObject}
use Rattle.pearl_records.specs.States.{count_of_sort, kind_coming_in, input_kinds}
use Rattle.pearl_snap.specs.Parts.{slot_kinds}

-- ---- slots

abbrev all_slots : List Leaf → ℕ
all_slots leaves = sum_by (λ leaf. leaf.slots) leaves

kinds_of_slots : (leaves : List Leaf) → length (flat_map (λ leaf. replicate leaf.slots leaf.kind) leaves) ≡ all_slots leaves
kinds_of_slots [] = refl
kinds_of_slots (leaf ∷ leaves) =
    let rest = flat_map (λ l. replicate l.slots l.kind) leaves in
    omega (arith, length-append (replicate leaf.slots leaf.kind) rest, length-replicate leaf.slots leaf.kind, kinds_of_slots leaves, sum_by-cons (λ l. l.slots) leaf leaves)

pub slots_few : (o : Object) → IsObject o → length (slot_kinds o) ≤ 65536
slots_few o h = let few = h.few_slots in omega (arith, few, kinds_of_slots o.leaves)

-- a leaf's slots lie among all
up_to_all : (leaves : List Leaf) (v : ℕ) (leaf : Leaf) → slice_get leaves v ≡ Some leaf → first_slot leaves v + leaf.slots ≤ all_slots leaves
up_to_all [] v leaf e = absurd cc
up_to_all (first ∷ leaves) zero leaf e =
    let same : first ≡ leaf = cc in omega (arith, ap (λ l. l.slots) same, sum_by-cons (λ l. l.slots) first leaves)
up_to_all (first ∷ leaves) (suc v) leaf e = let more = up_to_all leaves v leaf e in omega (arith, more, sum_by-cons (λ l. l.slots) first leaves)

pub slot_few : (o : Object) → IsObject o → (v : ℕ) (leaf : Leaf) → slice_get o.leaves v ≡ Some leaf → first_slot o.leaves v + leaf.slots ≤ 65536
slot_few o h v leaf e = let few = h.few_slots in let all = up_to_all o.leaves v leaf e in omega (arith, few, all)

pub zip_length : {K X : Type 0} (R : K → X → Type 0) (ks : List K) (xs : List X) → AllZip R ks xs → length xs ≡ length ks
zip_length R [] [] h = refl
zip_length R [] (x ∷ xs) h = absurd h
zip_length R (k ∷ ks) [] h = absurd h
zip_length R (k ∷ ks) (x ∷ xs) h = ap suc (zip_length R ks xs h.1)

-- ---- devices of one sort

module _ (sort : ℕ) where
  abbrev those : List Device → List Device
  those ds = filter (λ d. sort_rank d == sort) ds

  of_it : (d : Device) (ds : List Device) → sort_rank d ≡ sort → length (those (d ∷ ds)) ≡ suc (length (those ds))
  of_it d ds same = rw (eq-eqb (sort_rank d) sort same) refl

  of_others : (d : Device) (ds : List Device) → (sort_rank d ≡ sort → ⊥) → length (those (d ∷ ds)) ≡ length (those ds)
  of_others d ds other = rw (ne_eqb (sort_rank d) sort other) refl

  -- behind a device there are no more than its number leaves
  record Few (a : Device) (ds : List Device) : Type 0 where
    sooner : sort_rank a < sort → length (those ds) ≤ 99
    same : sort_rank a ≡ sort → length (those ds) + own_number a ≤ 99
    later : sort < sort_rank a → length (those ds) ≡ 0

  few_behind : (a : Device) (ds : List Device) → IsDevice a → AllByRecursion IsDevice ds → AreRising (a ∷ ds) → Few a ds
  few_behind a [] is are rise = record { sooner = λ h. omega arith; same = λ h. omega (arith, is.1); later = λ h. refl }
  few_behind a (d ∷ ds) is are rise =
      let f = few_behind d ds are.0 are.1 rise.1 in
      elim (cases_lt (sort_rank d) sort) [
        | inl less ↦
            let n = of_others d ds (λ e. absurd (omega (arith, e, less))) in
            let low = f.sooner less in
            record {
              sooner = λ h. omega (arith, n, low);
              same = λ h. absurd (ranks (λ le. omega (arith, le, less, h)) rise.0);
              later = λ h. absurd (ranks (λ le. omega (arith, le, less, h)) rise.0);
            }
        | inr more ↦ elim (cases_lt sort (sort_rank d)) [
          | inl above ↦
              let n = of_others d ds (λ e. absurd (omega (arith, e, above))) in
              let none = f.later above in
              record { sooner = λ h. omega (arith, n, none); same = λ h. omega (arith, n, none, is.1); later = λ h. omega (arith, n, none) }
          | inr below ↦
              let e : sort_rank d ≡ sort = omega (arith, more, below) in
              let n = of_it d ds e in
              let few = f.same e in
              record {
                sooner = λ h. omega (arith, n, few, are.0.0);
                same = λ h. (let up = numbers (omega (arith, h, e)) rise.0 in omega (arith, n, few, up));
                later = λ h. absurd (ranks (λ le. omega (arith, le, e, h)) rise.0);
              }
        ]
      ]
    where
      ranks : (sort_rank a ≤ sort_rank d → ⊥) → IsBefore a d → ⊥
      ranks none (inl less) = none (omega (arith, less))
      ranks none (inr p) = none (omega (arith, p.0))

      numbers : sort_rank a ≡ sort_rank d → IsBefore a d → own_number a < own_number d
      numbers e (inl less) = absurd (omega (arith, e, less))
      numbers e (inr p) = p.1

  few_of_all : (ds : List Device) → AllByRecursion IsDevice ds → AreRising ds → length (those ds) ≤ 99
  few_of_all [] are rise = omega arith
  few_of_all (d ∷ ds) are rise =
      let f = few_behind d ds are.0 are.1 rise in
      elim (cases_lt (sort_rank d) sort) [
        | inl less ↦ (let n = of_others d ds (λ e. absurd (omega (arith, e, less))) in let low = f.sooner less in omega (arith, n, low))
        | inr more ↦ elim (cases_lt sort (sort_rank d)) [
          | inl above ↦ (let n = of_others d ds (λ e. absurd (omega (arith, e, above))) in let none = f.later above in omega (arith, n, none))
          | inr below ↦ (let e : sort_rank d ≡ sort = omega (arith, more, below) in let n = of_it d ds e in let few = f.same e in omega (arith, n, few, are.0.0))
        ]
      ]

pub few_of_sort : (o : Object) (sort : ℕ) → IsObject o → count_of_sort o.devices sort ≤ 99
few_of_sort o sort h = few_of_all sort o.devices h.devices h.rising

as_many_in : (ds : List Device) → length (flat_map kind_coming_in ds) ≡ length (filter (λ d. sort_rank d == 2) ds)
as_many_in [] = refl
as_many_in (Interrupt n ∷ ds) = as_many_in ds
as_many_in (Terminal n direction ∷ ds) = as_many_in ds
as_many_in (Input n of ∷ ds) = ap suc (as_many_in ds)
as_many_in (Output n of ∷ ds) = as_many_in ds

pub few_inputs : (o : Object) → IsObject o → length (input_kinds o.devices) ≤ 99
few_inputs o h = let few = few_of_sort o 2 h in omega (arith, few, as_many_in o.devices)
