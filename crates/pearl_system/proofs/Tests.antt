-- The tests of the rules S11, S13 and S14, and what the rules say.
use Rattle.std.proofs.Common.{◌≡◌, ◌⊎◌, inl, inr, ℕ, ◌≤◌, Bool, true, false, cond, not, ◌&&◌, nat_le, List, [], ◌∷◌, Option, None, Some, is_some, refl, sym, ap, subst, ◌∙◌, bytes_eq}
use Rattle.std.proofs.lemmas.Bool.{leb-true, le-leb}
use Rattle.std.proofs.lemmas.Slice.Eq.{bytes_eq-Decides}
use Rattle.std.specs.List.{Contains, find}
use Rattle.pearl_tree.specs.declared.declaration.Class.{Class}
use Rattle.pearl_tree.specs.declared.declaration.Class.TheVariants.{Alphic, Basic}
use Rattle.pearl_tree.specs.declared.declaration.Device.{Device}
use Rattle.pearl_value.specs.declared.device.Direction.{Direction}
use Rattle.pearl_value.specs.declared.device.Direction.TheVariants.{In, Out, InOut}
use Rattle.pearl_tree.specs.ShownModules.{ShownTree}
use Rattle.pearl_system.specs.declared.device.DeviceSort.{DeviceSort}
use Rattle.pearl_system.specs.declared.device.DeviceSort.TheVariants.{Interrupt, Terminal, Input, Output}
use Rattle.pearl_system.specs.declared.specified.Form.{Form}
use Rattle.pearl_system.specs.declared.specified.Form.TheVariants as form
use Rattle.pearl_system.specs.declared.specified.Specified.{Specified}
use Rattle.pearl_system.specs.Broken.{word_of, IsAlphic, IsBasic, IsNoDevice, IsOther, IsUnfit, IsUnknown, Means}
use Rattle.pearl_system.specs.Devices.{devices_of, is_number, named}
use Rattle.pearl_system.specs.Rules.{is_alphic, is_basic, is_in, is_missed, is_no_device, is_other, is_out, is_unfit, is_unsuited}
use Rattle.pearl_system.proofs.Found.{find_passes}
use Rattle.pearl_system.proofs.Lists.{some_same, contains_here, contains_later, contains_cases}
use Rattle.pearl_system.proofs.Once.{none_in}

not_both : (b : Bool) → not b ≡ true → b ≡ true → ⊥
not_both true refused passes = cc
not_both false refused passes = cc

refused_not : (b : Bool) → (b ≡ true → ⊥) → not b ≡ true
refused_not true refused = absurd (refused refl)
refused_not false refused = refl

-- S11

number_from : (n : ℕ) → is_number n ≡ true → (1 ≤ n) × (n ≤ 99)
number_from n h = by (nat_le 1 n) (nat_le n 99) refl refl h
  where
    by : (a b : Bool) → nat_le 1 n ≡ a → nat_le n 99 ≡ b → a && b ≡ true → (1 ≤ n) × (n ≤ 99)
    by true true low high h = (leb-true 1 n low, leb-true n 99 high)
    by true false low high h = absurd (cc)
    by false b low high h = absurd (cc)

number_to : (n : ℕ) → 1 ≤ n → n ≤ 99 → is_number n ≡ true
number_to n low high = λ i. le-leb 1 n low i && le-leb n 99 high i

pub no_device_from : (device : Device) → is_no_device device ≡ true → IsNoDevice device
no_device_from device = by (word_of device)
  where
    by : (o : Option DeviceSort) → not (is_some o && is_number device.number.value) ≡ true
        → (o ≡ None) ⊎ ((1 ≤ device.number.value) × (device.number.value ≤ 99) → ⊥)
    by None h = inl refl
    by (Some sort) h = inr (λ within. not_both (is_number device.number.value) h (number_to device.number.value within.0 within.1))

pub no_device_to : (device : Device) → IsNoDevice device → is_no_device device ≡ true
no_device_to device = by (word_of device)
  where
    by : (o : Option DeviceSort) → (o ≡ None) ⊎ ((1 ≤ device.number.value) × (device.number.value ≤ 99) → ⊥)
        → not (is_some o && is_number device.number.value) ≡ true
    by None h = refl
    by (Some sort) (inl none) = absurd (cc)
    by (Some sort) (inr refused) = refused_not (is_number device.number.value) (λ is. refused (number_from device.number.value is))

-- S13

other_from : (specified : Form) (o : Option DeviceSort) → is_other specified o ≡ true → IsOther specified o
other_from form.Interrupt (Some Interrupt) h = absurd (cc)
other_from form.Interrupt o h = λ is. cc
other_from (form.Dation direction class) (Some Interrupt) h = refl
other_from (form.Dation direction class) o h = absurd (cc)

other_to : (specified : Form) (o : Option DeviceSort) → IsOther specified o → is_other specified o ≡ true
other_to form.Interrupt (Some Interrupt) h = absurd (h refl)
other_to form.Interrupt o h = refl
other_to (form.Dation direction class) (Some Interrupt) h = refl
other_to (form.Dation direction class) o h = absurd (cc)

not_found : {X : Type 0} (p : X → Bool) (xs : List X) (x : X) → find p xs ≡ None → Contains xs x → p x ≡ true → ⊥
not_found p [] x none has passes = none_in x has
not_found {X} p (y ∷ ys) x none has passes = by (p y) refl none (contains_cases y ys x has) (λ rest among. not_found p ys x rest among passes)
  where
    by : (b : Bool) → p y ≡ b → cond b (Some y) (find p ys) ≡ None → (x ≡ y) ⊎ Contains ys x → (find p ys ≡ None → Contains ys x → ⊥) → ⊥
    by true is none at further = cc
    by false is none (inl same) further = let wrong : true ≡ false = sym passes ∙ ap p same ∙ is in cc
    by false is none (inr among) further = further none among

pub find_contains : {X : Type 0} (p : X → Bool) (xs : List X) (x : X) → find p xs ≡ Some x → Contains xs x
find_contains p [] x h = absurd (cc)
find_contains {X} p (y ∷ ys) x h = by (p y) h (find_contains p ys x)
  where
    by : (b : Bool) → cond b (Some y) (find p ys) ≡ Some x → (find p ys ≡ Some x → Contains ys x) → Contains (y ∷ ys) x
    by true h further = subst (Contains (y ∷ ys)) (some_same y x h) (contains_here y ys)
    by false h further = contains_later y ys x (further h)

pub missed_from : (tree : ShownTree) (spec : Specified) → is_missed spec.form (named (devices_of tree) spec.text.items) ≡ true
    → IsUnknown tree spec ⊎ ((device : Device) × Means tree spec device × IsOther spec.form (word_of device))
missed_from tree spec h = by (named (devices_of tree) spec.text.items) refl h
  where
    by : (o : Option Device) → named (devices_of tree) spec.text.items ≡ o → is_missed spec.form o ≡ true
        → IsUnknown tree spec ⊎ ((device : Device) × Means tree spec device × IsOther spec.form (word_of device))
    by None means h = inl (λ device among same.
        not_found (λ (d : Device). bytes_eq spec.text.items d.name.text.items) (devices_of tree) device means among
        ((bytes_eq-Decides spec.text.items device.name.text.items).1 (sym same)))
    by (Some device) means h = inr (device, means, other_from spec.form (word_of device) h)

pub missed_to : (tree : ShownTree) (spec : Specified) → IsUnknown tree spec ⊎ ((device : Device) × Means tree spec device × IsOther spec.form (word_of device))
    → is_missed spec.form (named (devices_of tree) spec.text.items) ≡ true
missed_to tree spec (inr (device, means, other)) = ap (is_missed spec.form) means ∙ other_to spec.form (word_of device) other
missed_to tree spec (inl unknown) = by (named (devices_of tree) spec.text.items) refl
  where
    by : (o : Option Device) → named (devices_of tree) spec.text.items ≡ o → is_missed spec.form o ≡ true
    by None means = refl
    by (Some device) means =
        absurd (unknown device (find_contains (λ (d : Device). bytes_eq spec.text.items d.name.text.items) (devices_of tree) device means)
        (sym ((bytes_eq-Decides spec.text.items device.name.text.items).0
        (find_passes (λ (d : Device). bytes_eq spec.text.items d.name.text.items) (devices_of tree) device means))))

-- S14

not_alphic : (class : Class) → not (is_alphic class) ≡ true → IsAlphic class → ⊥
not_alphic (Alphic place) h is = cc
not_alphic (Basic basic place) h (at, is) = cc

no_alphic : (class : Class) → (IsAlphic class → ⊥) → not (is_alphic class) ≡ true
no_alphic (Alphic place) refused = absurd (refused (place, refl))
no_alphic (Basic basic place) refused = refl

not_in_basic : (direction : Direction) (class : Class) → not (is_in direction && is_basic class) ≡ true → (direction ≡ In) × IsBasic class → ⊥
not_in_basic In (Alphic place) h (to, (basic, at, is)) = cc
not_in_basic In (Basic part place) h is = cc
not_in_basic Out class h (to, is) = cc
not_in_basic InOut class h (to, is) = cc

no_in_basic : (direction : Direction) (class : Class) → ((direction ≡ In) × IsBasic class → ⊥) → not (is_in direction && is_basic class) ≡ true
no_in_basic In (Alphic place) refused = refl
no_in_basic In (Basic part place) refused = absurd (refused (refl, (part, place, refl)))
no_in_basic Out class refused = refl
no_in_basic InOut class refused = refl

not_out_basic : (direction : Direction) (class : Class) → not (is_out direction && is_basic class) ≡ true → (direction ≡ Out) × IsBasic class → ⊥
not_out_basic Out (Alphic place) h (to, (basic, at, is)) = cc
not_out_basic Out (Basic part place) h is = cc
not_out_basic In class h (to, is) = cc
not_out_basic InOut class h (to, is) = cc

no_out_basic : (direction : Direction) (class : Class) → ((direction ≡ Out) × IsBasic class → ⊥) → not (is_out direction && is_basic class) ≡ true
no_out_basic Out (Alphic place) refused = refl
no_out_basic Out (Basic part place) refused = absurd (refused (refl, (part, place, refl)))
no_out_basic In class refused = refl
no_out_basic InOut class refused = refl

unfit_from : (specified : Form) (o : Option DeviceSort) → is_unfit specified o ≡ true → IsUnfit specified o
unfit_from form.Interrupt o h = absurd (cc)
unfit_from (form.Dation direction class) (Some Terminal) h = inl (refl, not_alphic class h)
unfit_from (form.Dation direction class) (Some Input) h = inr (inl (refl, not_in_basic direction class h))
unfit_from (form.Dation direction class) (Some Output) h = inr (inr (refl, not_out_basic direction class h))
unfit_from (form.Dation direction class) o h = absurd (cc)

unfit_to : (specified : Form) (o : Option DeviceSort) → IsUnfit specified o → is_unfit specified o ≡ true
unfit_to form.Interrupt o is = absurd is
unfit_to (form.Dation direction class) o (inl (word, refused)) = ap (is_unfit (form.Dation direction class)) word ∙ no_alphic class refused
unfit_to (form.Dation direction class) o (inr (inl (word, refused))) = ap (is_unfit (form.Dation direction class)) word ∙ no_in_basic direction class refused
unfit_to (form.Dation direction class) o (inr (inr (word, refused))) = ap (is_unfit (form.Dation direction class)) word ∙ no_out_basic direction class refused

pub unsuited_from : (tree : ShownTree) (spec : Specified) → is_unsuited spec.form (named (devices_of tree) spec.text.items) ≡ true
    → (device : Device) × Means tree spec device × IsUnfit spec.form (word_of device)
unsuited_from tree spec h = by (named (devices_of tree) spec.text.items) refl h
  where
    by : (o : Option Device) → named (devices_of tree) spec.text.items ≡ o → is_unsuited spec.form o ≡ true
        → (device : Device) × Means tree spec device × IsUnfit spec.form (word_of device)
    by None means h = absurd (cc)
    by (Some device) means h = (device, means, unfit_from spec.form (word_of device) h)

pub unsuited_to : (tree : ShownTree) (spec : Specified) → (device : Device) × Means tree spec device × IsUnfit spec.form (word_of device)
    → is_unsuited spec.form (named (devices_of tree) spec.text.items) ≡ true
unsuited_to tree spec (device, means, unfit) = ap (is_unsuited spec.form) means ∙ unfit_to spec.form (word_of device) unfit
