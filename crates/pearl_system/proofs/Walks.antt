-- Lists of faults that go over a list, each element with those before it.
use Rattle.std.proofs.Common.{◌≡◌, List, [], ◌∷◌, ◌++◌, map, append_assoc, append-nil, refl, sym, ap, ◌∙◌}
use Rattle.std.proofs.lemmas.List.{map-append}
use Rattle.std.specs.List.{list_any}
use Rattle.pearl_tree.specs.declared.declaration.Device.{Device}
use Rattle.pearl_tree.specs.declared.fault.RuleFault.{RuleFault}
use Rattle.pearl_tree.specs.declared.rule.TheConstants as rule
use Rattle.pearl_tree.specs.Faults.{fault_if}
use Rattle.pearl_tree.specs.Names.{is_among, repeats, name_text}
use Rattle.pearl_system.specs.declared.specified.Specified.{Specified}
use Rattle.pearl_system.specs.Rules.{faults_of, is_twin, s10, s11, s12, s13, s14, twins}

-- the faults of each device after those before it
abbrev pub each_after : (List Device → Device → List RuleFault) → List Device → List Device → List RuleFault
each_after faults before [] = []
each_after faults before (device ∷ devices) = faults before device ++ each_after faults (before ++ device ∷ []) devices

pub each_push : (faults : List Device → Device → List RuleFault) (before devices : List Device) (device : Device) →
    each_after faults before (devices ++ device ∷ []) ≡ each_after faults before devices ++ faults (before ++ devices) device
each_push faults before [] device = append-nil _ ∙ ap (λ l. faults l device) (sym (append-nil before))
each_push faults before (first ∷ devices) device =
    ap (λ t. faults before first ++ t) (each_push faults (before ++ first ∷ []) devices device)
    ∙ sym (append_assoc (faults before first) (each_after faults (before ++ first ∷ []) devices) _)
    ∙ ap (λ l. (faults before first ++ each_after faults (before ++ first ∷ []) devices) ++ faults l device)
    (append_assoc before (first ∷ []) devices)

-- the fault of a name that stands before
abbrev pub name_fault : List Device → Device → List RuleFault
name_fault before device = fault_if (is_among (map (λ d. d.name) before) (name_text device.name)) device.name.place rule.S10

-- the fault of a word and number that stand before
abbrev pub twin_fault : List Device → Device → List RuleFault
twin_fault before device = fault_if (list_any (is_twin device) before) device.name.place rule.S12

names_after : (before devices : List Device) →
    repeats rule.S10 (map (λ d. d.name) before) (map (λ d. d.name) devices) ≡ each_after name_fault before devices
names_after before [] = refl
names_after before (device ∷ devices) =
    ap (λ t. name_fault before device ++ t)
    (ap (λ l. repeats rule.S10 l (map (λ d. d.name) devices)) (sym (map-append (λ d. d.name) before (device ∷ [])))
    ∙ names_after (before ++ device ∷ []) devices)

pub s10_is : (devices : List Device) → s10 devices ≡ each_after name_fault [] devices
s10_is devices = names_after [] devices

twins_after : (before devices : List Device) → twins before devices ≡ each_after twin_fault before devices
twins_after before [] = refl
twins_after before (device ∷ devices) = ap (λ t. twin_fault before device ++ t) (twins_after (before ++ device ∷ []) devices)

pub s12_is : (devices : List Device) → s12 devices ≡ each_after twin_fault [] devices
s12_is devices = twins_after [] devices

pub s10_push : (devices : List Device) (device : Device) → s10 (devices ++ device ∷ []) ≡
    s10 devices ++ fault_if (is_among (map (λ d. d.name) devices) (name_text device.name)) device.name.place rule.S10
s10_push devices device = s10_is (devices ++ device ∷ []) ∙ each_push name_fault [] devices device ∙ ap (λ t. t ++ name_fault devices device) (sym (s10_is devices))

pub s12_push : (devices : List Device) (device : Device) → s12 (devices ++ device ∷ []) ≡
    s12 devices ++ fault_if (list_any (is_twin device) devices) device.name.place rule.S12
s12_push devices device = s12_is (devices ++ device ∷ []) ∙ each_push twin_fault [] devices device ∙ ap (λ t. t ++ twin_fault devices device) (sym (s12_is devices))

-- the faults of all rules, gathered one rule after the other
pub all_faults : (devices : List Device) (specs : List Specified) {a b c d e : List RuleFault} → a ≡ s10 devices → b ≡ a ++ s11 devices → c ≡ b ++ s12 devices →
    d ≡ c ++ s13 devices specs → e ≡ d ++ s14 devices specs → e ≡ faults_of devices specs
all_faults devices specs first second third fourth fifth =
    let of_names = s13 devices specs ++ s14 devices specs in
    fifth
    ∙ ap (λ l. l ++ s14 devices specs) (fourth ∙ ap (λ l. l ++ s13 devices specs) (third ∙ ap (λ l. l ++ s12 devices) (second ∙ ap (λ l. l ++ s11 devices) first)))
    ∙ append_assoc ((s10 devices ++ s11 devices) ++ s12 devices) (s13 devices specs) (s14 devices specs)
    ∙ append_assoc (s10 devices ++ s11 devices) (s12 devices) of_names
    ∙ append_assoc (s10 devices) (s11 devices) (s12 devices ++ of_names)
