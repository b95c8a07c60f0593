-- The lists of faults have what is broken, and nothing else.
use Rattle.std.proofs.Common.{◌≡◌, ◌⊎◌, inl, inr, ℕ, zero, suc, ◌<◌, min, Bool, true, false, ◌||◌, ◌++◌, List, [], ◌∷◌, length, get_or, map, take, Some, refl, sym, ap, subst, ◌∙◌, append_assoc, append-nil, arith, bytes_eq}
use Rattle.std.proofs.lemmas.Bool.Decides.{Decides-eqb, Decides-and}
use Rattle.std.proofs.lemmas.List.{length-take, get_or-take}
use Rattle.std.proofs.lemmas.List.Elements.{Contains-append_cases, Contains-append_left, Contains-append_right}
use Rattle.std.proofs.lemmas.List.Folds.{Any-from_list_any, list_any-from_Any}
use Rattle.std.proofs.lemmas.Option.{slice_get-get_or, slice_get_within, get_or_from_slice_get}
use Rattle.std.proofs.lemmas.Slice.Eq.{bytes_eq-Decides}
use Rattle.std.specs.List.{Contains, flat_map, list_any, slice_get}
use Rattle.pearl_tree.specs.declared.declaration.Device.{Device}
use Rattle.pearl_tree.specs.declared.fault.RuleFault.{RuleFault}
use Rattle.pearl_tree.specs.declared.rule.TheConstants as rule
use Rattle.pearl_tree.specs.Faults.{fault_if}
use Rattle.pearl_tree.specs.Names.{is_among, name_text}
use Rattle.pearl_tree.specs.ShownModules.{ShownTree}
use Rattle.pearl_system.specs.declared.specified.Specified.{Specified}
use Rattle.pearl_system.specs.Broken.{BreaksS10, BreaksS11, BreaksS12, BreaksS13, BreaksS14, FaultsAreBroken, IsBroken}
use Rattle.pearl_system.specs.Devices.{devices_of, named, spelling}
use Rattle.pearl_system.specs.Rules.{broken, is_missed, is_no_device, is_twin, is_unsuited, missed_fault, no_device_fault, s10, s11, s12, s13, s14, unsuited_fault, word_place}
use Rattle.pearl_system.specs.Specified.{specified}
use Rattle.pearl_system.proofs.Lists.{contains_here, contains_later, contains_cases, some_same}
use Rattle.pearl_system.proofs.Once.{none_in}
use Rattle.pearl_system.proofs.Tests.{missed_from, missed_to, no_device_from, no_device_to, unsuited_from, unsuited_to}
use Rattle.pearl_system.proofs.Walks.{each_after, name_fault, s10_is, s12_is, twin_fault}

contains_get : {X : Type 0} (xs : List X) (x : X) → Contains xs x → (k : ℕ) × (slice_get xs k ≡ Some x)
contains_get xs x (k, below, is) = (k, slice_get-get_or xs k x below ∙ ap Some is)

pub get_contains : {X : Type 0} (xs : List X) (k : ℕ) (x : X) → slice_get xs k ≡ Some x → Contains xs x
get_contains xs k x read = (k, slice_get_within xs k x read, get_or_from_slice_get xs k x x read)

-- one of the first n that passes
before_from : {X : Type 0} (p : X → Bool) (xs : List X) (n : ℕ) → list_any p (take n xs) ≡ true
    → (i : ℕ) × (x : X) × (i < n) × (slice_get xs i ≡ Some x) × (p x ≡ true)
before_from {X} p xs n any = by (Any-from_list_any p (take n xs) any)
  where
    by : (k : ℕ) × (x : X) × (k < length (take n xs)) × (get_or (take n xs) k x ≡ x) × (p x ≡ true)
        → (i : ℕ) × (x : X) × (i < n) × (slice_get xs i ≡ Some x) × (p x ≡ true)
    by (k, x, below, is, passes) =
        let length_is : length (take n xs) ≡ min n (length xs) = length-take n xs in
        let early : k < n = omega arith in
        let inside : k < length xs = omega arith in
        (k, x, early, slice_get-get_or xs k x inside ∙ ap Some (sym (get_or-take n xs k x early) ∙ is), passes)

before_to : {X : Type 0} (p : X → Bool) (xs : List X) (n i : ℕ) (x : X) → i < n → slice_get xs i ≡ Some x → p x ≡ true
    → list_any p (take n xs) ≡ true
before_to p xs n i x early read passes =
    let length_is : length (take n xs) ≡ min n (length xs) = length-take n xs in
    let inside : i < length xs = slice_get_within xs i x read in
    list_any-from_Any p (take n xs) (i, x, omega arith, get_or-take n xs i x early ∙ get_or_from_slice_get xs i x x read, passes)

twin_from : (a b : Device) → is_twin b a ≡ true → (spelling a.word ≡ spelling b.word) × (a.number.value ≡ b.number.value)
twin_from a b h =
    let same = (Decides-and _ _ (bytes_eq-Decides (spelling b.word) (spelling a.word)) (Decides-eqb b.number.value a.number.value)).0 h in
    (sym same.0, sym same.1)

twin_to : (a b : Device) → spelling a.word ≡ spelling b.word → a.number.value ≡ b.number.value → is_twin b a ≡ true
twin_to a b words numbers =
    (Decides-and _ _ (bytes_eq-Decides (spelling b.word) (spelling a.word)) (Decides-eqb b.number.value a.number.value)).1 (sym words, sym numbers)

-- a list of one fault at most
record IsAt (is_so : Bool) (place number : ℕ) (fault : RuleFault) : Type 0 where
  is : is_so ≡ true
  at : fault.place ≡ place
  by : fault.rule ≡ number

if_in : (is_so : Bool) (place number : ℕ) (fault : RuleFault) → Contains (fault_if is_so place number) fault → IsAt is_so place number fault
if_in true place number fault (zero, below, is) =
    record { is = refl; at = ap (λ (f : RuleFault). f.place) (sym is); by = ap (λ (f : RuleFault). f.rule) (sym is) }
if_in true place number fault (suc k, below, is) = absurd (omega arith)
if_in false place number fault h = absurd (none_in fault h)

if_to : (is_so : Bool) (place number : ℕ) (fault : RuleFault) → is_so ≡ true → fault.place ≡ place → fault.rule ≡ number → Contains (fault_if is_so place number) fault
if_to true place number fault is at by = (zero, omega arith, λ i. record { place = sym at i; rule = sym by i })
if_to false place number fault is at by = absurd (cc)

-- the faults of each element
flat_in : {X : Type 0} (faults : X → List RuleFault) (xs : List X) (fault : RuleFault) → Contains (flat_map faults xs) fault
    → (x : X) × Contains xs x × Contains (faults x) fault
flat_in faults [] fault h = absurd (none_in fault h)
flat_in {X} faults (x ∷ xs) fault h = by (Contains-append_cases (faults x) (flat_map faults xs) fault h) (flat_in faults xs fault)
  where
    by : Contains (faults x) fault ⊎ Contains (flat_map faults xs) fault
        → (Contains (flat_map faults xs) fault → (y : X) × Contains xs y × Contains (faults y) fault)
        → (y : X) × Contains (x ∷ xs) y × Contains (faults y) fault
    by (inl here) behind = (x, contains_here x xs, here)
    by (inr later) behind = let found = behind later in (found.0, contains_later x xs found.0 found.1, found.2)

flat_to : {X : Type 0} (faults : X → List RuleFault) (xs : List X) (x : X) (fault : RuleFault) → Contains xs x → Contains (faults x) fault
    → Contains (flat_map faults xs) fault
flat_to faults [] x fault has h = absurd (none_in x has)
flat_to {X} faults (y ∷ ys) x fault has h = by (contains_cases y ys x has) (λ among. flat_to faults ys x fault among h)
  where
    by : (x ≡ y) ⊎ Contains ys x → (Contains ys x → Contains (flat_map faults ys) fault) → Contains (faults y ++ flat_map faults ys) fault
    by (inl same) behind = Contains-append_left (faults y) (flat_map faults ys) fault (subst (λ z. Contains (faults z) fault) same h)
    by (inr among) behind = Contains-append_right (faults y) (flat_map faults ys) fault (behind among)

-- the faults of each device after those before it
each_in : (faults : List Device → Device → List RuleFault) (before devices : List Device) (fault : RuleFault) → Contains (each_after faults before devices) fault
    → (j : ℕ) × (device : Device) × (slice_get devices j ≡ Some device) × Contains (faults (before ++ take j devices) device) fault
each_in faults before [] fault h = absurd (none_in fault h)
each_in faults before (first ∷ devices) fault h =
    by (Contains-append_cases (faults before first) (each_after faults (before ++ first ∷ []) devices) fault h) (each_in faults (before ++ first ∷ []) devices fault)
  where
    by : Contains (faults before first) fault ⊎ Contains (each_after faults (before ++ first ∷ []) devices) fault
        → (Contains (each_after faults (before ++ first ∷ []) devices) fault
        → (j : ℕ) × (device : Device) × (slice_get devices j ≡ Some device) × Contains (faults ((before ++ first ∷ []) ++ take j devices) device) fault)
        → (j : ℕ) × (device : Device) × (slice_get (first ∷ devices) j ≡ Some device) × Contains (faults (before ++ take j (first ∷ devices)) device) fault
    by (inl here) behind = (zero, first, refl, subst (λ l. Contains (faults l first) fault) (sym (append-nil before)) here)
    by (inr later) behind =
        let (j, device, read, has) = behind later in
        (suc j, device, read, subst (λ l. Contains (faults l device) fault) (append_assoc before (first ∷ []) (take j devices)) has)

each_to : (faults : List Device → Device → List RuleFault) (before devices : List Device) (j : ℕ) (device : Device) (fault : RuleFault)
    → slice_get devices j ≡ Some device → Contains (faults (before ++ take j devices) device) fault → Contains (each_after faults before devices) fault
each_to faults before [] j device fault read has = absurd (cc)
each_to faults before (first ∷ devices) zero device fault read has =
    Contains-append_left (faults before first) (each_after faults (before ++ first ∷ []) devices) fault
    (subst (λ d. Contains (faults before d) fault) (sym (some_same first device read)) (subst (λ l. Contains (faults l device) fault) (append-nil before) has))
each_to faults before (first ∷ devices) (suc j) device fault read has =
    Contains-append_right (faults before first) (each_after faults (before ++ first ∷ []) devices) fault
    (each_to faults (before ++ first ∷ []) devices j device fault read
    (subst (λ l. Contains (faults l device) fault) (sym (append_assoc before (first ∷ []) (take j devices))) has))

has_name : List ℕ → Device → Bool
has_name text device = bytes_eq device.name.text.items text

among_any : (devices : List Device) (text : List ℕ) → is_among (map (λ d. d.name) devices) text ≡ list_any (has_name text) devices
unfolding has_name
among_any [] text = refl
among_any (device ∷ devices) text = ap (λ b. bytes_eq device.name.text.items text || b) (among_any devices text)

s10_from : (tree : ShownTree) (fault : RuleFault) → Contains (s10 (devices_of tree)) fault → (fault.rule ≡ rule.S10) × BreaksS10 tree fault.place
unfolding has_name
s10_from tree fault h =
    let devices = devices_of tree in
    let (j, later, read, has) = each_in name_fault [] devices fault (subst (λ l. Contains l fault) (s10_is devices) h) in
    let told = if_in (is_among (map (λ d. d.name) (take j devices)) (name_text later.name)) later.name.place rule.S10 fault has in
    let first = before_from (has_name later.name.text.items) devices j (sym (among_any (take j devices) later.name.text.items) ∙ told.is) in
    (told.by, (first.1, later, (first.0, j, first.2, first.3, read), (bytes_eq-Decides first.1.name.text.items later.name.text.items).0 first.4, told.at))

s10_to : (tree : ShownTree) (fault : RuleFault) → fault.rule ≡ rule.S10 → BreaksS10 tree fault.place → Contains (s10 (devices_of tree)) fault
unfolding has_name
s10_to tree fault number (first, later, (i, j, early, read, there), same, place) =
    let devices = devices_of tree in
    let passes = (bytes_eq-Decides first.name.text.items later.name.text.items).1 same in
    let among = among_any (take j devices) later.name.text.items ∙ before_to (has_name later.name.text.items) devices j i first early read passes in
    subst (λ l. Contains l fault) (sym (s10_is devices))
    (each_to name_fault [] devices j later fault there
    (if_to (is_among (map (λ d. d.name) (take j devices)) (name_text later.name)) later.name.place rule.S10 fault among place number))

s11_from : (tree : ShownTree) (fault : RuleFault) → Contains (s11 (devices_of tree)) fault → (fault.rule ≡ rule.S11) × BreaksS11 tree fault.place
s11_from tree fault h =
    let (device, among, has) = flat_in no_device_fault (devices_of tree) fault h in
    let told = if_in (is_no_device device) (word_place device.word) rule.S11 fault has in
    (told.by, (device, among, no_device_from device told.is, told.at))

s11_to : (tree : ShownTree) (fault : RuleFault) → fault.rule ≡ rule.S11 → BreaksS11 tree fault.place → Contains (s11 (devices_of tree)) fault
s11_to tree fault number (device, among, is, place) =
    flat_to no_device_fault (devices_of tree) device fault among (if_to (is_no_device device) (word_place device.word) rule.S11 fault (no_device_to device is) place number)

s12_from : (tree : ShownTree) (fault : RuleFault) → Contains (s12 (devices_of tree)) fault → (fault.rule ≡ rule.S12) × BreaksS12 tree fault.place
s12_from tree fault h =
    let devices = devices_of tree in
    let (j, later, read, has) = each_in twin_fault [] devices fault (subst (λ l. Contains l fault) (s12_is devices) h) in
    let told = if_in (list_any (is_twin later) (take j devices)) later.name.place rule.S12 fault has in
    let first = before_from (is_twin later) devices j told.is in
    let same = twin_from first.1 later first.4 in
    (told.by, (first.1, later, (first.0, j, first.2, first.3, read), same.0, same.1, told.at))

s12_to : (tree : ShownTree) (fault : RuleFault) → fault.rule ≡ rule.S12 → BreaksS12 tree fault.place → Contains (s12 (devices_of tree)) fault
s12_to tree fault number (first, later, (i, j, early, read, there), words, numbers, place) =
    let devices = devices_of tree in
    let any = before_to (is_twin later) devices j i first early read (twin_to first later words numbers) in
    subst (λ l. Contains l fault) (sym (s12_is devices))
    (each_to twin_fault [] devices j later fault there
    (if_to (list_any (is_twin later) (take j devices)) later.name.place rule.S12 fault any place number))

s13_from : (tree : ShownTree) (fault : RuleFault) → Contains (s13 (devices_of tree) (specified tree)) fault → (fault.rule ≡ rule.S13) × BreaksS13 tree fault.place
s13_from tree fault h =
    let (spec, among, has) = flat_in (missed_fault (devices_of tree)) (specified tree) fault h in
    let told = if_in (is_missed spec.form (named (devices_of tree) spec.text.items)) spec.place rule.S13 fault has in
    (told.by, (spec, among, missed_from tree spec told.is, told.at))

s13_to : (tree : ShownTree) (fault : RuleFault) → fault.rule ≡ rule.S13 → BreaksS13 tree fault.place → Contains (s13 (devices_of tree) (specified tree)) fault
s13_to tree fault number (spec, among, is, place) =
    flat_to (missed_fault (devices_of tree)) (specified tree) spec fault among
    (if_to (is_missed spec.form (named (devices_of tree) spec.text.items)) spec.place rule.S13 fault (missed_to tree spec is) place number)

s14_from : (tree : ShownTree) (fault : RuleFault) → Contains (s14 (devices_of tree) (specified tree)) fault → (fault.rule ≡ rule.S14) × BreaksS14 tree fault.place
s14_from tree fault h =
    let (spec, among, has) = flat_in (unsuited_fault (devices_of tree)) (specified tree) fault h in
    let told = if_in (is_unsuited spec.form (named (devices_of tree) spec.text.items)) spec.place rule.S14 fault has in
    (told.by, (spec, among, unsuited_from tree spec told.is, told.at))

s14_to : (tree : ShownTree) (fault : RuleFault) → fault.rule ≡ rule.S14 → BreaksS14 tree fault.place → Contains (s14 (devices_of tree) (specified tree)) fault
s14_to tree fault number (spec, among, is, place) =
    flat_to (unsuited_fault (devices_of tree)) (specified tree) spec fault among
    (if_to (is_unsuited spec.form (named (devices_of tree) spec.text.items)) spec.place rule.S14 fault (unsuited_to tree spec is) place number)

-- one of two lists has it
of_two : {P Q : Type 0} (a b : List RuleFault) (fault : RuleFault) → (Contains a fault → P) → (Contains b fault → Q) → Contains (a ++ b) fault → P ⊎ Q
of_two {P} {Q} a b fault left right h = by (Contains-append_cases a b fault h)
  where
    by : Contains a fault ⊎ Contains b fault → P ⊎ Q
    by (inl i) = inl (left i)
    by (inr i) = inr (right i)

broken_from : (tree : ShownTree) (fault : RuleFault) → Contains (broken tree) fault → IsBroken tree fault
broken_from tree fault h =
    let ds = devices_of tree in
    let names = specified tree in
    of_two (s10 ds) (s11 ds ++ (s12 ds ++ (s13 ds names ++ s14 ds names))) fault (s10_from tree fault)
    (of_two (s11 ds) (s12 ds ++ (s13 ds names ++ s14 ds names)) fault (s11_from tree fault)
    (of_two (s12 ds) (s13 ds names ++ s14 ds names) fault (s12_from tree fault)
    (of_two (s13 ds names) (s14 ds names) fault (s13_from tree fault) (s14_from tree fault)))) h

broken_to : (tree : ShownTree) (fault : RuleFault) → IsBroken tree fault → Contains (broken tree) fault
broken_to tree fault is = by is
  where
    ds : List Device
    ds = devices_of tree

    names : List Specified
    names = specified tree

    of_names : List RuleFault
    of_names = s13 ds names ++ s14 ds names

    past_s11 : Contains (s12 ds ++ of_names) fault → Contains (broken tree) fault
    past_s11 h = Contains-append_right (s10 ds) (s11 ds ++ (s12 ds ++ of_names)) fault (Contains-append_right (s11 ds) (s12 ds ++ of_names) fault h)

    past_s12 : Contains of_names fault → Contains (broken tree) fault
    past_s12 h = past_s11 (Contains-append_right (s12 ds) of_names fault h)

    by : IsBroken tree fault → Contains (broken tree) fault
    by (inl (number, breaks)) = Contains-append_left (s10 ds) (s11 ds ++ (s12 ds ++ of_names)) fault (s10_to tree fault number breaks)
    by (inr (inl (number, breaks))) =
        Contains-append_right (s10 ds) (s11 ds ++ (s12 ds ++ of_names)) fault
        (Contains-append_left (s11 ds) (s12 ds ++ of_names) fault (s11_to tree fault number breaks))
    by (inr (inr (inl (number, breaks)))) = past_s11 (Contains-append_left (s12 ds) of_names fault (s12_to tree fault number breaks))
    by (inr (inr (inr (inl (number, breaks))))) =
        past_s12 (Contains-append_left (s13 ds names) (s14 ds names) fault (s13_to tree fault number breaks))
    by (inr (inr (inr (inr (number, breaks))))) =
        past_s12 (Contains-append_right (s13 ds names) (s14 ds names) fault (s14_to tree fault number breaks))

pub faults_are_broken : FaultsAreBroken
faults_are_broken tree fault = (broken_from tree fault, broken_to tree fault)
