-- The numbers that procedures get by the rule are below their count, and all different.
use Rattle.std.specs.Prelude.{◌≡◌, ℕ, suc, ◌≤◌, ◌<◌, nat_eq, nat_lt, Bool, true, false, not, ◌||◌, List, [], ◌∷◌, ◌++◌, length, Some, slice_get}
use Rattle.std.specs.List.{AllByRecursion, IsDistinct, list_any}
use Rattle.std.proofs.Common.{refl, ap, ◌∙◌, sym, arith, true≢false}
use Rattle.std.proofs.lemmas.Bool.{eqb-true}
use Rattle.std.proofs.lemmas.Map.Steps.{length-le_from_distinct_below}
use Rattle.std.proofs.lemmas.Option.{slice_get_within, get_or_from_slice_get}
use Rattle.pearl_tree.specs.ShownModules.{ShownTree}
use Rattle.pearl_names.specs.Tables.{table_of}
use Rattle.pearl_system.specs.declared.device.SpecifiedDevice.{SpecifiedDevice}
use Rattle.pearl_calls.specs.Callers.{Caller}
use Rattle.pearl_calls.specs.Numberings.{waits, GetNext, IsNumbering}
use Rattle.pearl_calls.specs.Numbers.{AreNumbers}
use Rattle.pearl_resolve.specs.Numbers.{first}
use Rattle.pearl_resolve.specs.Resolve.{procedures_in, numbered_of}
use Rattle.pearl_sound.specs.ModuleNames.{AreProcedureNumbers}
use Rattle.pearl_sound.proofs.ByNumber.{not_same}
use Rattle.pearl_sound.proofs.ModuleEntries.{neither}
use Rattle.pearl_sound.proofs.SoundParts.{some_one}
use Rattle.pearl_sound.proofs.Subscripting.{both}

negated : (b : Bool) → not b ≡ true → b ≡ false
negated true is = absurd (true≢false (sym is))
negated false is = refl

last_none : (p : ℕ → Bool) (xs : List ℕ) (y : ℕ) → list_any p (xs ++ y ∷ []) ≡ false → (list_any p xs ≡ false) × (p y ≡ false)
last_none p [] y none = (refl, (neither (p y) false none).0)
last_none p (x ∷ xs) y none =
    let parts = neither (p x) (list_any p (xs ++ y ∷ [])) none in
    let more = last_none p xs y parts.1 in
    (ap (λ b. b || list_any p xs) parts.0 ∙ more.0, more.1)

abbrev IsNew : List ℕ → ℕ → Type 0
IsNew numbered procedure = list_any (nat_eq procedure) numbered ≡ false

new_before : (numbered : List ℕ) (last : ℕ) (order : List ℕ) → AllByRecursion (IsNew (numbered ++ last ∷ [])) order →
    AllByRecursion (IsNew numbered) order × AllByRecursion (λ other. nat_eq last other ≡ false) order
new_before numbered last [] all = (tt, tt)
new_before numbered last (procedure ∷ order) all =
    let one = last_none (nat_eq procedure) numbered last all.0 in
    let more = new_before numbered last order all.1 in
    ((one.0, more.0), (not_same last procedure one.1, more.1))

pub order_new : (callers : List Caller) (numbered order : List ℕ) → GetNext callers numbered order →
    AllByRecursion (IsNew numbered) order × IsDistinct nat_eq order
unfolding IsDistinct
order_new callers numbered [] next = (tt, tt)
order_new callers numbered (procedure ∷ order) next =
    let ready = both (waits callers numbered procedure) _ next.0.ready in
    let own = both (nat_lt procedure (length callers)) (not (list_any (nat_eq procedure) numbered)) ready.0 in
    let more = order_new callers (numbered ++ procedure ∷ []) order next.1 in
    let parts = new_before numbered procedure order more.0 in
    ((negated (list_any (nat_eq procedure) numbered) own.1, parts.0), (parts.1, more.1))

pub each_passes : (P : ℕ → Type 0) (numbers : List ℕ) → ((i x : ℕ) → slice_get numbers i ≡ Some x → P x) → AllByRecursion P numbers
each_passes P [] all = tt
each_passes P (x ∷ rest) all = (all 0 x refl, each_passes P rest (λ i y is. all (suc i) y is))

differ_later : (numbers : List ℕ) → ((i j x y : ℕ) → i < j → slice_get numbers i ≡ Some x → slice_get numbers j ≡ Some y → nat_eq x y ≡ false) →
    IsDistinct nat_eq numbers
unfolding IsDistinct
differ_later [] all = tt
differ_later (x ∷ rest) all = (
  each_passes (λ y. nat_eq x y ≡ false) rest (λ j y is. all 0 (suc j) x y (omega arith) refl is),
  differ_later rest (λ i j a b less is has. all (suc i) (suc j) a b (omega (arith, less)) is has),
)

module _ (callers : List Caller) (order numbers : List ℕ) (numbering : IsNumbering callers order) (are : AreNumbers order numbers) where
  few : length order ≤ length numbers
  few = length-le_from_distinct_below order (length numbers) (order_new callers [] order numbering.by_rule).1 (λ q any. are.within q any)

  pub placed : (i x : ℕ) → slice_get numbers i ≡ Some x → slice_get order x ≡ Some i
  placed i x is =
      ap (λ n. slice_get order n) (sym (get_or_from_slice_get numbers i x 0 is)) ∙ are.place i (slice_get_within numbers i x is)

  pub numbers_below : AllByRecursion (λ number. number < length numbers) numbers
  numbers_below = each_passes (λ number. number < length numbers) numbers
      (λ i x is. let less = slice_get_within order x i (placed i x is) in let most = few in omega (arith, less, most))

  pub numbers_differ : IsDistinct nat_eq numbers
  numbers_differ = differ_later numbers (λ i j x y less is has. by i j x y less is has (nat_eq x y) refl)
    where
      by : (i j x y : ℕ) → i < j → slice_get numbers i ≡ Some x → slice_get numbers j ≡ Some y → (test : Bool) → nat_eq x y ≡ test → test ≡ false
      by i j x y less is has true same =
          let equal : i ≡ j = some_one (sym (placed i x is) ∙ ap (slice_get order) (eqb-true x y same) ∙ placed j y has) in
          absurd (omega (arith, less, equal))
      by i j x y less is has false same = refl

pub numbers_given : (tree : ShownTree) (devices : List SpecifiedDevice) (callers : List Caller) (order numbers : List ℕ) →
    IsNumbering callers order → AreNumbers order numbers →
    length numbers ≡ length (procedures_in (numbered_of (table_of tree) devices numbers tree) first tree.declarations) →
    AreProcedureNumbers tree devices numbers
numbers_given tree devices callers order numbers numbering are count = record {
  each = count;
  below = numbers_below callers order numbers numbering are;
  distinct = numbers_differ callers order numbers numbering are;
}
