-- What a specified name means, by the rules that it keeps.
use Rattle.std.proofs.Common.{◌≡◌, ℕ, zero, suc, ◌<◌, Bool, true, false, cond, not, List, [], ◌∷◌, Option, None, Some, refl, sym, ap, subst, ◌∙◌, arith}
use Rattle.std.specs.List.{cons_option, filter_map, find, slice_get}
use Rattle.std.specs.Prelude.{◌&&◌, option_and_then, is_some}
use Rattle.pearl_tree.specs.declared.declaration.Class.TheVariants.{Alphic, Basic}
use Rattle.pearl_tree.specs.declared.declaration.Device.{Device}
use Rattle.pearl_value.specs.declared.device.Direction.TheVariants.{In, Out}
use Rattle.pearl_system.specs.declared.device.DeviceSort.{DeviceSort}
use Rattle.pearl_system.specs.declared.device.DeviceSort.TheVariants.{Interrupt, Terminal, Input, Output}
use Rattle.pearl_system.specs.declared.device.Role.{Role}
use Rattle.pearl_system.specs.declared.device.Role.TheVariants as role
use Rattle.pearl_system.specs.declared.device.SpecifiedDevice.{SpecifiedDevice}
use Rattle.pearl_system.specs.declared.specified.Form.{Form}
use Rattle.pearl_system.specs.declared.specified.Form.TheVariants as form
use Rattle.pearl_system.specs.declared.specified.Specified.{Specified}
use Rattle.pearl_system.specs.Devices.{is_number, meant, named, numbered, role_of, sort_of, specified_as, spelling}
use Rattle.pearl_system.specs.Laws.{sort_of_role, HasWordAndNumber, IsSpecifiedAs}
use Rattle.pearl_system.specs.Rules.{is_missed, is_no_device, is_other, is_unfit, is_unsuited}
use Rattle.pearl_system.proofs.Lists.{some_same}

-- what a role says of the word and the form that give it
record Suits (sort : DeviceSort) (specified : Form) (found : Role) : Type 0 where
  is_no_other : is_other specified (Some sort) ≡ false
  is_fit : is_unfit specified (Some sort) ≡ false
  same : sort ≡ sort_of_role found
  suits : IsSpecifiedAs found specified

role_from : (sort : DeviceSort) (specified : Form) (found : Role) → role_of sort specified ≡ Some found → Suits sort specified found
role_from Interrupt form.Interrupt found e =
    subst (λ r. Suits Interrupt form.Interrupt r) (some_same role.Interrupt found e)
    (record { is_no_other = refl; is_fit = refl; same = refl; suits = refl })
role_from Terminal (form.Dation direction (Alphic place)) found e =
    subst (λ r. Suits Terminal (form.Dation direction (Alphic place)) r) (some_same (role.Terminal direction) found e)
    (record { is_no_other = refl; is_fit = refl; same = refl; suits = (place, refl) })
role_from Input (form.Dation In (Basic basic place)) found e =
    subst (λ r. Suits Input (form.Dation In (Basic basic place)) r) (some_same (role.Input basic) found e)
    (record { is_no_other = refl; is_fit = refl; same = refl; suits = (place, refl) })
role_from Output (form.Dation Out (Basic basic place)) found e =
    subst (λ r. Suits Output (form.Dation Out (Basic basic place)) r) (some_same (role.Output basic) found e)
    (record { is_no_other = refl; is_fit = refl; same = refl; suits = (place, refl) })
role_from _ _ found e = absurd (cc)

role_to : (sort : DeviceSort) (specified : Form) → is_other specified (Some sort) ≡ false → is_unfit specified (Some sort) ≡ false
    → (found : Role) × (role_of sort specified ≡ Some found)
role_to Interrupt form.Interrupt other unfit = (role.Interrupt, refl)
role_to Terminal (form.Dation direction (Alphic place)) other unfit = (role.Terminal direction, refl)
role_to Input (form.Dation In (Basic basic place)) other unfit = (role.Input basic, refl)
role_to Output (form.Dation Out (Basic basic place)) other unfit = (role.Output basic, refl)
role_to _ _ other unfit = absurd (cc)

-- a device is what a specified name says of one of the system part
pub record IsSaid (spec : Specified) (part : Device) (device : SpecifiedDevice) : Type 0 where
  pub keeps_s11 : is_no_device part ≡ false
  pub keeps_s13 : is_missed spec.form (Some part) ≡ false
  pub keeps_s14 : is_unsuited spec.form (Some part) ≡ false
  pub same : HasWordAndNumber part device
  pub text : device.text ≡ spec.text
  pub place : device.place ≡ spec.place
  pub suits : IsSpecifiedAs device.role spec.form

abbrev made : Specified → ℕ → Role → SpecifiedDevice
made spec number found = record { text = spec.text; place = spec.place; number = number; role = found }

pub said_from : (spec : Specified) (part : Device) (device : SpecifiedDevice) → specified_as spec part ≡ Some device → IsSaid spec part device
said_from spec part device h = by_word (sort_of (spelling part.word)) refl h
  where
    by_number : (sort : DeviceSort) (found : Role) (b : Bool) → sort_of (spelling part.word) ≡ Some sort → Suits sort spec.form found
        → is_number part.number.value ≡ b → cond b (Some (made spec part.number.value found)) None ≡ Some device → IsSaid spec part device
    by_number sort found false word suits in_range h = absurd (cc)
    by_number sort found true word suits in_range h =
        subst (λ d. IsSaid spec part d) (some_same (made spec part.number.value found) device h) (record {
          keeps_s11 = λ i. not (is_some (word i) && in_range i);
          keeps_s13 = ap (is_other spec.form) word ∙ suits.is_no_other;
          keeps_s14 = ap (is_unfit spec.form) word ∙ suits.is_fit;
          same = record { word = word ∙ ap Some suits.same; number = refl };
          text = refl;
          place = refl;
          suits = suits.suits;
        })

    by_role : (sort : DeviceSort) (o : Option Role) → sort_of (spelling part.word) ≡ Some sort → role_of sort spec.form ≡ o
        → option_and_then (numbered spec part.number.value) o ≡ Some device → IsSaid spec part device
    by_role sort None word is h = absurd (cc)
    by_role sort (Some found) word is h =
        by_number sort found (is_number part.number.value) word (role_from sort spec.form found is) refl h

    by_word : (o : Option DeviceSort) → sort_of (spelling part.word) ≡ o
        → option_and_then (numbered spec part.number.value) (option_and_then (λ sort. role_of sort spec.form) o) ≡ Some device → IsSaid spec part device
    by_word None word h = absurd (cc)
    by_word (Some sort) word h = by_role sort (role_of sort spec.form) word refl h

pub said_to : (spec : Specified) (part : Device) → is_no_device part ≡ false → is_missed spec.form (Some part) ≡ false
    → is_unsuited spec.form (Some part) ≡ false → (device : SpecifiedDevice) × (specified_as spec part ≡ Some device)
said_to spec part s11 s13 s14 = by (sort_of (spelling part.word)) (is_number part.number.value) s11 s13 s14
  where
    by : (o : Option DeviceSort) (b : Bool) → not (is_some o && b) ≡ false → is_other spec.form o ≡ false → is_unfit spec.form o ≡ false
        → (device : SpecifiedDevice) × (option_and_then (λ found. cond b (Some (made spec part.number.value found)) None)
        (option_and_then (λ sort. role_of sort spec.form) o) ≡ Some device)
    by None b no_device missed unsuited = absurd (cc)
    by (Some sort) false no_device missed unsuited = absurd (cc)
    by (Some sort) true no_device missed unsuited =
        let role_is = role_to sort spec.form missed unsuited in
        (made spec part.number.value role_is.0, ap (λ o. option_and_then (λ found. Some (made spec part.number.value found)) o) role_is.1)

pub meant_part : (devices : List Device) (spec : Specified) (device : SpecifiedDevice) → meant devices spec ≡ Some device
    → (part : Device) × (named devices spec.text.items ≡ Some part) × IsSaid spec part device
meant_part devices spec device h = by (named devices spec.text.items) refl h
  where
    by : (o : Option Device) → named devices spec.text.items ≡ o → option_and_then (specified_as spec) o ≡ Some device
        → (part : Device) × (named devices spec.text.items ≡ Some part) × IsSaid spec part device
    by None e h = absurd (cc)
    by (Some part) e h = (part, e, said_from spec part device h)

pub part_meant : (devices : List Device) (spec : Specified) (part : Device) (device : SpecifiedDevice) → named devices spec.text.items ≡ Some part
    → specified_as spec part ≡ Some device → meant devices spec ≡ Some device
part_meant devices spec part device e h = ap (option_and_then (specified_as spec)) e ∙ h

-- the first y that passes, of those that some x in order give, is given by the n-th of these
pub record IsFirst {X Y : Type 0} (p : Y → Bool) (f : X → Option Y) (xs : List X) (y : Y) (n : ℕ) (x : X) : Type 0 where
  pub stands : slice_get xs n ≡ Some x
  pub gives : f x ≡ Some y
  pub earlier : (m : ℕ) (w : X) (z : Y) → m < n → slice_get xs m ≡ Some w → f w ≡ Some z → p z ≡ false

abbrev HasFirst : {X Y : Type 0} → (Y → Bool) → (X → Option Y) → List X → Y → Type 0
HasFirst {X} p f xs y = (n : ℕ) × (x : X) × IsFirst p f xs y n x

later : {X Y : Type 0} (p : Y → Bool) (f : X → Option Y) (x : X) (xs : List X) (y : Y) → ((z : Y) → f x ≡ Some z → p z ≡ false)
    → HasFirst p f xs y → HasFirst p f (x ∷ xs) y
later {X} {Y} p f x xs y refused (n, w, first) = (suc n, w, record { stands = first.stands; gives = first.gives; earlier = earlier })
  where
    earlier : (m : ℕ) (v : X) (z : Y) → m < suc n → slice_get (x ∷ xs) m ≡ Some v → f v ≡ Some z → p z ≡ false
    earlier zero v z below read given = refused z (ap f (some_same x v read) ∙ given)
    earlier (suc m) v z below read given = first.earlier m v z (omega arith) read given

pub first_of : {X Y : Type 0} (p : Y → Bool) (f : X → Option Y) (xs : List X) (y : Y) → find p (filter_map f xs) ≡ Some y → HasFirst p f xs y
first_of p f [] y h = absurd (cc)
first_of {X} {Y} p f (x ∷ xs) y h = by (f x) refl h (first_of p f xs y)
  where
    by_test : (z : Y) (b : Bool) → f x ≡ Some z → p z ≡ b → cond b (Some z) (find p (filter_map f xs)) ≡ Some y
        → (find p (filter_map f xs) ≡ Some y → HasFirst p f xs y) → HasFirst p f (x ∷ xs) y
    by_test z true given passes h further =
        (zero, x, record { stands = refl; gives = given ∙ h; earlier = λ m w v below read. absurd (omega arith) })
    by_test z false given passes h further =
        later p f x xs y (λ v g. subst (λ q. p q ≡ false) (some_same z v (sym given ∙ g)) passes) (further h)

    by : (o : Option Y) → f x ≡ o → find p (cons_option o (filter_map f xs)) ≡ Some y
        → (find p (filter_map f xs) ≡ Some y → HasFirst p f xs y) → HasFirst p f (x ∷ xs) y
    by None given h further = later p f x xs y (λ v g. let clash : None ≡ Some v = sym given ∙ g in absurd (cc)) (further h)
    by (Some z) given h further = by_test z (p z) given refl h further

-- of those that some x in order give, one that passes is found where one of them passes
pub found_of : {X Y : Type 0} (p : Y → Bool) (f : X → Option Y) (xs : List X) (n : ℕ) (x : X) (y : Y) → slice_get xs n ≡ Some x → f x ≡ Some y
    → p y ≡ true → (z : Y) × (find p (filter_map f xs) ≡ Some z)
found_of p f [] n x y read given passes = absurd (cc)
found_of p f (w ∷ xs) zero x y read given passes =
    (y, ap (λ o. find p (cons_option o (filter_map f xs))) (ap f (some_same w x read) ∙ given) ∙ ap (λ b. cond b (Some y) (find p (filter_map f xs))) passes)
found_of {X} {Y} p f (w ∷ xs) (suc n) x y read given passes = by (f w) (found_of p f xs n x y read given passes)
  where
    by_test : (v : Y) (b : Bool) → (z : Y) × (find p (filter_map f xs) ≡ Some z) → (z : Y) × (cond b (Some v) (find p (filter_map f xs)) ≡ Some z)
    by_test v true found = (v, refl)
    by_test v false found = found

    by : (o : Option Y) → (z : Y) × (find p (filter_map f xs) ≡ Some z) → (z : Y) × (find p (cons_option o (filter_map f xs)) ≡ Some z)
    by None found = found
    by (Some v) found = by_test v (p v) found
