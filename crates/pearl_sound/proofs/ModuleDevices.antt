-- At the number of an interrupt's or a dation's name stands a device of the sort that the name says.
use Rattle.std.specs.Prelude.{◌≡◌, ℕ, zero, suc, ◌+◌, ◌<◌, ◌≤◌, ◌⊎◌, ◌==◌, Bool, true, false, ◌&&◌, ◌||◌, if◌then◌else◌, List, [], ◌∷◌, ◌++◌, length, map, Option, Some, None, option_map, slice_get, codes, Contains}
use Rattle.std.specs.List.{flat_map, filter_map, cons_option, list_any}
use Rattle.std.specs.Str.{bytes_eq}
use Rattle.std.proofs.Common.{refl, ap, ◌∙◌, sym, subst, arith, true≢false, inl, inr}
use Rattle.std.proofs.lemmas.Bool.{eq-eqb, cases_lt}
use Rattle.std.proofs.lemmas.List.Elements.{filter_map-append}
use Rattle.std.proofs.lemmas.Map.Keys.{any_passes_from_place}
use Rattle.std.proofs.lemmas.Option.{none-some, slice_get-map, slice_get-get_or, slice_get_within, get_or_from_slice_get}
use Rattle.std.proofs.lemmas.Slice.Eq.{bytes_eq-Decides}
use Rattle.pearl_value.specs.declared.kind.Kind.{Kind}
use Rattle.pearl_tree.specs.declared.name.Name.{Name}
use Rattle.pearl_tree.specs.declared.typing.Basic.{Basic}
use Rattle.pearl_tree.specs.declared.declaration.Class.TheVariants as class
use Rattle.pearl_tree.specs.declared.declaration.Device.{Device}
use Rattle.pearl_value.specs.declared.device.Direction.{Direction}
use Rattle.pearl_value.specs.declared.device.Direction.TheVariants.{In, Out}
use Rattle.pearl_tree.specs.declared.fault.RuleFault.{RuleFault}
use Rattle.pearl_tree.specs.declared.rule.TheConstants as rule
use Rattle.pearl_tree.specs.Names.{name_text, names_of}
use Rattle.pearl_tree.specs.ShownDeclarations.{ShownDeclared, OfItem, OfSema, ShownSpec, OfInterrupt, OfDation}
use Rattle.pearl_tree.specs.ShownModules.{ShownDecl, OfDeclare, OfSpecify, ShownTree}
use Rattle.pearl_names.specs.declared.length.DefaultLength.{DefaultLength}
use Rattle.pearl_names.specs.declared.scope.SortedName.{SortedName}
use Rattle.pearl_names.specs.FirstNames.{first_index, repeated}
use Rattle.pearl_names.specs.Lengths.{kind_of_basic}
use Rattle.pearl_names.specs.Known.{Known, known_of}
use Rattle.pearl_names.specs.Scopes.{Meaning, Entry, entries_as, declared_entries, spec_entries, decl_entries, decls_entries, types_in}
use Rattle.pearl_names.specs.Scopes as scopes
use Rattle.pearl_names.specs.Sorts.{sorted_names, names_of_scopes}
use Rattle.pearl_names.specs.Tables.{Sense, Interrupt, AlphicDation, BasicDation, sense_of, table_of}
use Rattle.pearl_system.specs.declared.device.DeviceSort.{DeviceSort}
use Rattle.pearl_system.specs.declared.device.DeviceSort.TheVariants as sort
use Rattle.pearl_system.specs.declared.device.Role.{Role}
use Rattle.pearl_system.specs.declared.device.Role.TheVariants as role
use Rattle.pearl_system.specs.declared.device.SpecifiedDevice.{SpecifiedDevice}
use Rattle.pearl_system.specs.declared.specified.Form.{Form}
use Rattle.pearl_system.specs.declared.specified.Form.TheVariants as form
use Rattle.pearl_system.specs.declared.specified.Specified.{Specified}
use Rattle.pearl_system.specs.Devices.{devices_of, device_key, named, sort_of, spelling, IsDevice}
use Rattle.pearl_system.specs.Laws.{sort_of_role, IsSpecifiedAs, HasWordAndNumber, AreSpecified}
use Rattle.pearl_system.specs.Rising.{Lists}
use Rattle.pearl_system.specs.Rules.{is_twin, twins, s10, s11, s12, s13, s14, broken}
use Rattle.pearl_system.specs.Specified.{as_form, specified_by, specified_in, specified}
use Rattle.pearl_system.proofs.Offered.{devices_are_specified, specified_means}
use Rattle.pearl_program.specs.SoundStatements.{IsInterruptDevice}
use Rattle.pearl_resolve.specs.Numbers.{device_number}
use Rattle.pearl_resolve.specs.Resolve.{kind_or_short, device_of, resolve}
use Rattle.pearl_sound.specs.Laws.{IsOfDevice, has_text}
use Rattle.pearl_sound.specs.ModuleNames.{IsModuleName, HasNamesOnce, DevicesAreThere}
use Rattle.pearl_sound.specs.SoundNames.{IsTerminal, IsChannel}
use Rattle.pearl_sound.proofs.Devices.{device_stands}
use Rattle.pearl_sound.proofs.ModuleCounts.{entered_at}
use Rattle.pearl_sound.proofs.ModuleEntries.{no_fault, neither, entry_found, get_at}
use Rattle.pearl_sound.proofs.SoundParts.{some_one}

-- the entries of specified names are the specified names
abbrev form_of : Meaning → Option Form
form_of scopes.Interrupt = Some form.Interrupt
form_of (scopes.Dation direction of) = Some (form.Dation direction of)
form_of (scopes.Variable item types) = None
form_of (scopes.Control loop) = None
form_of (scopes.Parameter basic ident) = None
form_of (scopes.NewType number) = None
form_of scopes.Semaphore = None
form_of scopes.Task = None
form_of (scopes.Procedure params returns) = None

abbrev spec_of : Entry → Option Specified
spec_of entry = option_map (λ f. as_form f entry.name) (form_of entry.meaning)

abbrev specs_of : List Entry → List Specified
specs_of entries = filter_map spec_of entries

some_specified : (meaning : Meaning) (f : Form) (names : List Name) → form_of meaning ≡ Some f →
    specs_of (entries_as meaning names) ≡ map (as_form f) names
some_specified meaning f [] is = refl
some_specified meaning f (name ∷ names) is =
    ap (λ found. cons_option (option_map (λ f. as_form f name) found) (specs_of (entries_as meaning names))) is ∙
    ap (λ rest. as_form f name ∷ rest) (some_specified meaning f names is)

none_specified : (meaning : Meaning) (names : List Name) → form_of meaning ≡ None → specs_of (entries_as meaning names) ≡ []
none_specified meaning [] is = refl
none_specified meaning (name ∷ names) is =
    ap (λ found. cons_option (option_map (λ f. as_form f name) found) (specs_of (entries_as meaning names))) is ∙ none_specified meaning names is

both_specified : (one two : List Entry) (a b : List Specified) → specs_of one ≡ a → specs_of two ≡ b → specs_of (one ++ two) ≡ a ++ b
both_specified one two a b first second = filter_map-append spec_of one two ∙ (λ i. first i ++ second i)

specs_specified : (specs : List ShownSpec) → specs_of (flat_map spec_entries specs) ≡ flat_map specified_by specs
specs_specified [] = refl
specs_specified (OfInterrupt names place ∷ rest) =
    both_specified (entries_as scopes.Interrupt (names_of names)) (flat_map spec_entries rest) (map (as_form form.Interrupt) (names_of names))
    (flat_map specified_by rest) (some_specified scopes.Interrupt form.Interrupt (names_of names) refl) (specs_specified rest)
specs_specified (OfDation names direction of control place ∷ rest) =
    both_specified (entries_as (scopes.Dation direction of) (names_of names)) (flat_map spec_entries rest) (map (as_form (form.Dation direction of)) (names_of names))
    (flat_map specified_by rest) (some_specified (scopes.Dation direction of) (form.Dation direction of) (names_of names) refl) (specs_specified rest)

declared_specified : (types : ℕ) (parts : List ShownDeclared) → specs_of (flat_map (declared_entries types) parts) ≡ []
declared_specified types [] = refl
declared_specified types (OfItem item ∷ rest) =
    both_specified (entries_as (scopes.Variable item types) (names_of item.names)) (flat_map (declared_entries types) rest) [] []
    (none_specified (scopes.Variable item types) (names_of item.names) refl) (declared_specified types rest)
declared_specified types (OfSema sema ∷ rest) =
    both_specified (entries_as scopes.Semaphore (names_of sema.names)) (flat_map (declared_entries types) rest) [] []
    (none_specified scopes.Semaphore (names_of sema.names) refl) (declared_specified types rest)

decl_specified : (types : ℕ) (decl : ShownDecl) → specs_of (decl_entries types decl) ≡ specified_in decl
decl_specified types (OfDeclare parts place) = declared_specified types parts
decl_specified types (OfSpecify specs place) = specs_specified specs
decl_specified types decl = refl

decls_specified : (types : ℕ) (decls : List ShownDecl) → specs_of (decls_entries types decls) ≡ flat_map specified_in decls
decls_specified types [] = refl
decls_specified types (decl ∷ rest) =
    both_specified (decl_entries types decl) (decls_entries (types + types_in decl) rest) (specified_in decl) (flat_map specified_in rest)
    (decl_specified types decl) (decls_specified (types + types_in decl) rest)

-- an entry among the specified names, and back
record HasPlace (list : List Specified) (spec : Specified) : Type 0 where
  pub index : ℕ
  pub there : slice_get list index ≡ Some spec

placed_first : (first : Option Specified) (list : List Specified) (spec : Specified) → HasPlace list spec → HasPlace (cons_option first list) spec
placed_first None list spec has = has
placed_first (Some x) list spec has = record { index = suc has.index; there = has.there }

spec_placed : (before : List Entry) (entry : Entry) (after : List Entry) (spec : Specified) → spec_of entry ≡ Some spec →
    HasPlace (specs_of (before ++ entry ∷ after)) spec
spec_placed [] entry after spec is =
    record { index = 0; there = ap (λ found. slice_get (cons_option found (specs_of after)) 0) is }
spec_placed (first ∷ before) entry after spec is =
    placed_first (spec_of first) (specs_of (before ++ entry ∷ after)) spec (spec_placed before entry after spec is)

record HasEntry (entries : List Entry) (spec : Specified) : Type 0 where
  pub before : List Entry
  pub entry : Entry
  pub after : List Entry
  pub is : entries ≡ before ++ entry ∷ after
  pub same : spec_of entry ≡ Some spec

further_entry : (first : Entry) (rest : List Entry) (spec : Specified) → HasEntry rest spec → HasEntry (first ∷ rest) spec
further_entry first rest spec has =
    record { before = first ∷ has.before; entry = has.entry; after = has.after; is = ap (λ more. first ∷ more) has.is; same = has.same }

spec_entry : (entries : List Entry) (n : ℕ) (spec : Specified) → slice_get (specs_of entries) n ≡ Some spec → HasEntry entries spec
spec_entry [] n spec is = absurd (none-some spec is)
spec_entry (first ∷ rest) n spec is = by (spec_of first) refl n is (λ m there. spec_entry rest m spec there)
  where
    by : (found : Option Specified) → spec_of first ≡ found → (n : ℕ) → slice_get (cons_option found (specs_of rest)) n ≡ Some spec →
        ((m : ℕ) → slice_get (specs_of rest) m ≡ Some spec → HasEntry rest spec) → HasEntry (first ∷ rest) spec
    by None here n is more = further_entry first rest spec (more n is)
    by (Some x) here zero is more = record { before = []; entry = first; after = rest; is = refl; same = here ∙ is }
    by (Some x) here (suc n) is more = further_entry first rest spec (more n is)

text_first : (f : Option Form) (name : Name) (spec : Specified) → option_map (λ f. as_form f name) f ≡ Some spec → name.text ≡ spec.text
text_first None name spec is = absurd (none-some spec is)
text_first (Some f) name spec is = ap (λ (s : Specified). s.text) (some_one is)

form_first : (f : Option Form) (name : Name) (spec : Specified) → option_map (λ f. as_form f name) f ≡ Some spec → f ≡ Some spec.form
form_first None name spec is = absurd (none-some spec is)
form_first (Some f) name spec is = ap (λ (s : Specified). Some s.form) (some_one is)

-- no word with its number stands twice
last_none : (p : Device → Bool) (xs : List Device) (y : Device) → list_any p (xs ++ y ∷ []) ≡ false → (list_any p xs ≡ false) × (p y ≡ false)
last_none p [] y none = (refl, (neither (p y) false none).0)
last_none p (x ∷ xs) y none =
    let parts = neither (p x) (list_any p (xs ++ y ∷ [])) none in
    let more = last_none p xs y parts.1 in
    (ap (λ b. b || list_any p xs) parts.0 ∙ more.0, more.1)

none_seen : (seen devices : List Device) (j : ℕ) (later : Device) → twins seen devices ≡ [] → slice_get devices j ≡ Some later →
    list_any (is_twin later) seen ≡ false
none_seen seen [] j later none is = absurd (none-some later is)
none_seen seen (device ∷ rest) zero later none is =
    ap (λ d. list_any (is_twin d) seen) (sym (some_one is)) ∙
    (no_fault (list_any (is_twin device) seen) device.name.place rule.S12 (twins (seen ++ device ∷ []) rest) none).0
none_seen seen (device ∷ rest) (suc j) later none is =
    (last_none (is_twin later) seen device (none_seen (seen ++ device ∷ []) rest j later
    (no_fault (list_any (is_twin device) seen) device.name.place rule.S12 (twins (seen ++ device ∷ []) rest) none).1 is)).0

no_twin : (seen devices : List Device) (i j : ℕ) (earlier later : Device) → i < j → twins seen devices ≡ [] → slice_get devices i ≡ Some earlier →
    slice_get devices j ≡ Some later → is_twin later earlier ≡ false
no_twin seen [] i j earlier later less none is has = absurd (none-some earlier is)
no_twin seen (device ∷ rest) i zero earlier later less none is has = absurd (omega (arith, less))
no_twin seen (device ∷ rest) zero (suc j) earlier later less none is has =
    ap (is_twin later) (sym (some_one is)) ∙
    (last_none (is_twin later) seen device (none_seen (seen ++ device ∷ []) rest j later
    (no_fault (list_any (is_twin device) seen) device.name.place rule.S12 (twins (seen ++ device ∷ []) rest) none).1 has)).1
no_twin seen (device ∷ rest) (suc i) (suc j) earlier later less none is has =
    no_twin (seen ++ device ∷ []) rest i j earlier later (omega (arith, less))
    (no_fault (list_any (is_twin device) seen) device.name.place rule.S12 (twins (seen ++ device ∷ []) rest) none).1 is has

-- the word of each sort
abbrev spelled : DeviceSort → List ℕ
spelled sort.Interrupt = codes "INTERRUPT"
spelled sort.Terminal = codes "TERMINAL"
spelled sort.Input = codes "INPUT"
spelled sort.Output = codes "OUTPUT"

sort_spelled : (text : List ℕ) (of : DeviceSort) → sort_of text ≡ Some of → text ≡ spelled of
sort_spelled text of is =
    by (bytes_eq text (codes "INTERRUPT")) (bytes_eq text (codes "TERMINAL")) (bytes_eq text (codes "INPUT")) (bytes_eq text (codes "OUTPUT"))
    refl refl refl refl is
  where
    by : (a b c d : Bool) → bytes_eq text (codes "INTERRUPT") ≡ a → bytes_eq text (codes "TERMINAL") ≡ b → bytes_eq text (codes "INPUT") ≡ c →
        bytes_eq text (codes "OUTPUT") ≡ d → (if a then Some sort.Interrupt else if b then Some sort.Terminal else
        if c then Some sort.Input else if d then Some sort.Output else None) ≡ Some of → text ≡ spelled of
    by true b c d e f g h is = (bytes_eq-Decides text (codes "INTERRUPT")).0 e ∙ ap spelled (some_one is)
    by false true c d e f g h is = (bytes_eq-Decides text (codes "TERMINAL")).0 f ∙ ap spelled (some_one is)
    by false false true d e f g h is = (bytes_eq-Decides text (codes "INPUT")).0 g ∙ ap spelled (some_one is)
    by false false false true e f g h is = (bytes_eq-Decides text (codes "OUTPUT")).0 h ∙ ap spelled (some_one is)
    by false false false false e f g h is = absurd (none-some of is)

are_twins : (one two : Device) (device : SpecifiedDevice) → HasWordAndNumber one device → HasWordAndNumber two device → is_twin one two ≡ true
are_twins one two device first second =
    let words = sort_spelled (spelling one.word) (sort_of_role device.role) first.word ∙
    sym (sort_spelled (spelling two.word) (sort_of_role device.role) second.word) in
    let numbers = sym first.number ∙ second.number in
    ap (λ b. b && (one.number.value == two.number.value)) ((bytes_eq-Decides (spelling one.word) (spelling two.word)).1 words) ∙
    eq-eqb one.number.value two.number.value numbers

record IsNamed (devices : List Device) (text : List ℕ) (device : Device) : Type 0 where
  pub index : ℕ
  pub there : slice_get devices index ≡ Some device
  pub same : text ≡ device.name.text.items

named_there : (devices : List Device) (text : List ℕ) (device : Device) → named devices text ≡ Some device → IsNamed devices text device
named_there [] text device is = absurd (none-some device is)
named_there (first ∷ rest) text device is = by (bytes_eq text first.name.text.items) refl is (λ more. named_there rest text device more)
  where
    by : (test : Bool) → bytes_eq text first.name.text.items ≡ test → (if test then Some first else named rest text) ≡ Some device →
        (named rest text ≡ Some device → IsNamed rest text device) → IsNamed (first ∷ rest) text device
    by true e is more = record {
      index = 0;
      there = is;
      same = (bytes_eq-Decides text first.name.text.items).0 e ∙ ap (λ (d : Device). d.name.text.items) (some_one is);
    }
    by false e is more = let found = more is in record { index = suc found.index; there = found.there; same = found.same }

one_device : (devices : List Device) (one two : Device) (i j : ℕ) → twins [] devices ≡ [] → slice_get devices i ≡ Some one → slice_get devices j ≡ Some two →
    is_twin one two ≡ true → is_twin two one ≡ true → one ≡ two
one_device devices one two i j none is has first second = by (cases_lt i j)
  where
    after : (j < i) ⊎ (i ≤ j) → j ≤ i → one ≡ two
    after (inl less) most = absurd (true≢false (sym first ∙ no_twin [] devices j i two one less none has is))
    after (inr more) most = let same : i ≡ j = omega (arith, more, most) in some_one (sym is ∙ ap (slice_get devices) same ∙ has)

    by : (i < j) ⊎ (j ≤ i) → one ≡ two
    by (inl less) = absurd (true≢false (sym second ∙ no_twin [] devices i j one two less none is has))
    by (inr most) = after (cases_lt j i) most

-- which form a name's sense has
abbrev Fits : List DefaultLength → Sense → Form → Type 0
Fits lengths Interrupt f = f ≡ form.Interrupt
Fits lengths (AlphicDation direction) f = (place : ℕ) × (f ≡ form.Dation direction (class.Alphic place))
Fits lengths (BasicDation direction kind) f =
    (basic : Basic) × (place : ℕ) × (f ≡ form.Dation direction (class.Basic basic place)) × (kind_of_basic lengths basic ≡ kind)
Fits lengths sense f = ⊥

record HasForm (lengths : List DefaultLength) (meaning : Meaning) (sense : Sense) : Type 0 where
  pub given : Form
  pub is : form_of meaning ≡ Some given
  pub fits : Fits lengths sense given

has_form : (known : Known) (meaning : Meaning) → IsOfDevice (sense_of known 0 meaning) → HasForm known.lengths meaning (sense_of known 0 meaning)
has_form known scopes.Interrupt of = record { given = form.Interrupt; is = refl; fits = refl }
has_form known (scopes.Dation direction (class.Alphic place)) of =
    record { given = form.Dation direction (class.Alphic place); is = refl; fits = (place, refl) }
has_form known (scopes.Dation direction (class.Basic basic place)) of =
    record { given = form.Dation direction (class.Basic basic place); is = refl; fits = (basic, place, refl, refl) }
has_form known meaning of = absurd of

-- parts of forms
abbrev is_dation : Form → Bool
is_dation form.Interrupt = false
is_dation (form.Dation direction of) = true

abbrev is_alphic_form : Form → Bool
is_alphic_form form.Interrupt = false
is_alphic_form (form.Dation direction (class.Alphic place)) = true
is_alphic_form (form.Dation direction (class.Basic basic place)) = false

abbrev direction_or : Direction → Form → Direction
direction_or other form.Interrupt = other
direction_or other (form.Dation direction of) = direction

abbrev basic_or : Basic → Form → Basic
basic_or other form.Interrupt = other
basic_or other (form.Dation direction (class.Alphic place)) = other
basic_or other (form.Dation direction (class.Basic basic place)) = basic

clash : {X : Type 0} (test : Form → Bool) (one two : Form) → one ≡ two → test one ≡ true → test two ≡ false → X
clash test one two same yes_one no_two = absurd (true≢false (sym yes_one ∙ ap test same ∙ no_two))

interrupt_fits : (lengths : List DefaultLength) (device : SpecifiedDevice) (of : Role) (f : Form) → device.role ≡ of → IsSpecifiedAs of f →
    f ≡ form.Interrupt → IsInterruptDevice (Some (device_of lengths (record device { role = of })))
interrupt_fits lengths device role.Interrupt f here suits is = tt
interrupt_fits lengths device (role.Terminal direction) f here suits is =
    clash is_dation (form.Dation direction (class.Alphic suits.0)) form.Interrupt (sym suits.1 ∙ is) refl refl
interrupt_fits lengths device (role.Input basic) f here suits is =
    clash is_dation (form.Dation In (class.Basic basic suits.0)) form.Interrupt (sym suits.1 ∙ is) refl refl
interrupt_fits lengths device (role.Output basic) f here suits is =
    clash is_dation (form.Dation Out (class.Basic basic suits.0)) form.Interrupt (sym suits.1 ∙ is) refl refl

terminal_fits : (lengths : List DefaultLength) (device : SpecifiedDevice) (of : Role) (f : Form) (direction : Direction) (place : ℕ) →
    IsSpecifiedAs of f → f ≡ form.Dation direction (class.Alphic place) → IsTerminal direction (Some (device_of lengths (record device { role = of })))
terminal_fits lengths device role.Interrupt f direction place suits is =
    clash is_dation (form.Dation direction (class.Alphic place)) form.Interrupt (sym is ∙ suits) refl refl
terminal_fits lengths device (role.Terminal other) f direction place suits is =
    ap (direction_or other) (sym suits.1 ∙ is)
terminal_fits lengths device (role.Input basic) f direction place suits is =
    clash is_alphic_form (form.Dation direction (class.Alphic place)) (form.Dation In (class.Basic basic suits.0)) (sym is ∙ suits.1) refl refl
terminal_fits lengths device (role.Output basic) f direction place suits is =
    clash is_alphic_form (form.Dation direction (class.Alphic place)) (form.Dation Out (class.Basic basic suits.0)) (sym is ∙ suits.1) refl refl

channel_fits : (lengths : List DefaultLength) (device : SpecifiedDevice) (of : Role) (f : Form) (direction : Direction) (basic : Basic) (place : ℕ) (kind : Kind) →
    IsSpecifiedAs of f → f ≡ form.Dation direction (class.Basic basic place) → kind_of_basic lengths basic ≡ Some kind →
    IsChannel direction kind (Some (device_of lengths (record device { role = of })))
channel_fits lengths device role.Interrupt f direction basic place kind suits is known =
    clash is_dation (form.Dation direction (class.Basic basic place)) form.Interrupt (sym is ∙ suits) refl refl
channel_fits lengths device (role.Terminal other) f direction basic place kind suits is known =
    clash is_alphic_form (form.Dation other (class.Alphic suits.0)) (form.Dation direction (class.Basic basic place)) (sym suits.1 ∙ is) refl refl
channel_fits lengths device (role.Input other) f direction basic place kind suits is known =
    subst (λ d. IsChannel d kind (Some (device_of lengths (record device { role = role.Input other })))) (ap (direction_or In) (sym suits.1 ∙ is))
    (ap (λ b. kind_or_short (kind_of_basic lengths b)) (ap (basic_or other) (sym suits.1 ∙ is)) ∙ ap kind_or_short known)
channel_fits lengths device (role.Output other) f direction basic place kind suits is known =
    subst (λ d. IsChannel d kind (Some (device_of lengths (record device { role = role.Output other })))) (ap (direction_or Out) (sym suits.1 ∙ is))
    (ap (λ b. kind_or_short (kind_of_basic lengths b)) (ap (basic_or other) (sym suits.1 ∙ is)) ∙ ap kind_or_short known)

contained : (devices : List SpecifiedDevice) (device : SpecifiedDevice) → Contains devices device → (n : ℕ) × (slice_get devices n ≡ Some device)
contained devices device has = (has.0, slice_get-get_or devices has.0 device has.1 ∙ ap Some has.2)

module _ (tree : ShownTree) (devices : List SpecifiedDevice) (procedures : List ℕ) (keeps : broken tree ≡ []) (once : HasNamesOnce tree)
    (lists : Lists device_key (IsDevice tree) devices) where
  abbrev entries : List Entry
  entries = decls_entries 0 tree.declarations

  specified_is : specs_of entries ≡ specified tree
  specified_is = decls_specified 0 tree.declarations

  in_scope : repeated (sorted_names entries) ≡ []
  unfolding names_of_scopes
  in_scope = once

  none_twice : twins [] (devices_of tree) ≡ []
  none_twice = third (s10 (devices_of tree)) (s11 (devices_of tree)) (s12 (devices_of tree)) (s13 (devices_of tree) (specified tree) ++ s14 (devices_of tree) (specified tree)) keeps
    where
      empty_left : (xs ys : List RuleFault) → xs ++ ys ≡ [] → xs ≡ []
      empty_left [] ys none = refl
      empty_left (x ∷ xs) ys none = let more = ap (λ (faults : List RuleFault). length faults) none in absurd (omega (arith, more))

      empty_right : (xs ys : List RuleFault) → xs ++ ys ≡ [] → ys ≡ []
      empty_right [] ys none = none
      empty_right (x ∷ xs) ys none = let more = ap (λ (faults : List RuleFault). length faults) none in absurd (omega (arith, more))

      third : (a b c d : List RuleFault) → a ++ (b ++ (c ++ d)) ≡ [] → c ≡ []
      third a b c d none = empty_left c d (empty_right b (c ++ d) (empty_right a (b ++ (c ++ d)) none))

  specifies : AreSpecified tree devices
  specifies = devices_are_specified tree devices lists

  -- one device is specified under each specified name
  text_there : (n : ℕ) (spec : Specified) → slice_get (specified tree) n ≡ Some spec → list_any (has_text spec.text.items) devices ≡ true
  text_there n spec there =
      let part = specified_means tree keeps n spec there in
      let device = specifies.to n spec part.0 part.1 in
      let from = specifies.from device.0 device.1 in
      let is = from.3 in
      let here = named_there (devices_of tree) spec.text.items part.0 part.1.means in
      let other = named_there (devices_of tree) from.1.text.items from.2 is.specifies.means in
      let same = one_device (devices_of tree) part.0 from.2 here.index other.index none_twice here.there other.there
      (are_twins part.0 from.2 device.0 device.2 is.same) (are_twins from.2 part.0 device.0 is.same device.2) in
      let texts = here.same ∙ ap (λ (d : Device). d.name.text.items) same ∙ sym other.same ∙ ap (λ text. text.items) (sym is.text) in
      let at = contained devices device.0 device.1 in
      any_passes_from_place (has_text spec.text.items) devices at.0 device.0 at.1 ((bytes_eq-Decides spec.text.items device.0.text.items).1 texts)

  -- of two entries of one name
  one_entry : (before : List Entry) (entry : Entry) (after : List Entry) (others : List Entry) (other : Entry) (rest : List Entry) →
      entries ≡ before ++ entry ∷ after → entries ≡ others ++ other ∷ rest → name_text entry.name ≡ name_text other.name → entry ≡ other
  one_entry before entry after others other rest is has same =
      let counts : length before ≡ length others =
      some_one (sym (entry_found entries before entry after is in_scope) ∙ ap (λ text. first_index (sorted_names entries) text) same ∙
      entry_found entries others other rest has in_scope) in
      some_one (sym (get_at before entry after) ∙ ap (λ es. slice_get es (length before)) (sym is) ∙ ap (λ n. slice_get entries n) counts ∙
      ap (λ es. slice_get es (length others)) has ∙ get_at others other rest)

  -- the device at a specified name's number is what the name is specified as
  pub record IsDeviceOf (number : ℕ) (f : Form) : Type 0 where
    pub device : SpecifiedDevice
    pub there : slice_get devices number ≡ Some device
    pub suits : IsSpecifiedAs device.role f

  entry_device : (before : List Entry) (entry : Entry) (after : List Entry) (f : Form) → entries ≡ before ++ entry ∷ after → form_of entry.meaning ≡ Some f →
      IsDeviceOf (device_number devices (name_text entry.name)) f
  entry_device before entry after f is has =
      let spec = as_form f entry.name in
      let same : spec_of entry ≡ Some spec = ap (option_map (λ f. as_form f entry.name)) has in
      let placed = spec_placed before entry after spec same in
      let any = text_there placed.index spec (ap (λ list. slice_get list placed.index) (sym specified_is ∙ ap specs_of is) ∙ placed.there) in
      let stands = device_stands (name_text entry.name) devices any in
      let number = device_number devices (name_text entry.name) in
      let within : Contains devices stands.device =
      (number, slice_get_within devices number stands.device stands.there, get_or_from_slice_get devices number stands.device stands.device stands.there) in
      let from = specifies.from stands.device within in
      let found = spec_entry entries from.0 from.1 (ap (λ list. slice_get list from.0) specified_is ∙ from.3.specifies.stands) in
      let texts : name_text entry.name ≡ name_text found.entry.name =
      sym stands.named ∙ ap (λ text. text.items) from.3.text ∙ ap (λ text. text.items) (sym (text_first (form_of found.entry.meaning) found.entry.name from.1 found.same)) in
      let one = one_entry before entry after found.before found.entry found.after is found.is texts in
      let forms : from.1.form ≡ f =
      some_one (sym (form_first (form_of found.entry.meaning) found.entry.name from.1 found.same) ∙ ap (λ (e : Entry). form_of e.meaning) (sym one) ∙ has) in
      record { device = stands.device; there = stands.there; suits = subst (λ g. IsSpecifiedAs stands.device.role g) forms from.3.suits }

  record IsFit (name : SortedName) (sense : Sense) : Type 0 where
    pub given : Form
    pub fits : Fits (known_of tree).lengths sense given
    pub is : IsDeviceOf (device_number devices (name_text name.name)) given

  name_fits : (name : SortedName) (sense : Sense) (number : ℕ) → IsModuleName tree devices procedures name sense number → IsOfDevice sense → IsFit name sense
  name_fits name sense number is of =
      let at = entered_at tree devices procedures name sense number is in
      let known = known_of tree in
      let has = has_form known at.entry.meaning (subst IsOfDevice (sym at.means) of) in
      record {
        given = has.given;
        fits = subst (λ s. Fits known.lengths s has.given) at.means has.fits;
        is = subst (λ (n : SortedName). IsDeviceOf (device_number devices (name_text n.name)) has.given) at.named
            (entry_device at.before at.entry at.after has.given at.is has.is);
      }

  there_of : (number : ℕ) (device : SpecifiedDevice) → slice_get devices number ≡ Some device →
      slice_get (resolve (table_of tree) devices procedures tree).devices number ≡ Some (device_of (known_of tree).lengths device)
  there_of number device is =
      slice_get-map (device_of (known_of tree).lengths) devices number ∙ ap (option_map (device_of (known_of tree).lengths)) is

  number_of_name : (name : SortedName) (sense : Sense) (number : ℕ) → IsModuleName tree devices procedures name sense number → IsOfDevice sense →
      device_number devices (name_text name.name) ≡ number
  number_of_name name Interrupt number is of = (entered_at tree devices procedures name Interrupt number is).numbered
  number_of_name name (AlphicDation direction) number is of = (entered_at tree devices procedures name (AlphicDation direction) number is).numbered
  number_of_name name (BasicDation direction kind) number is of = (entered_at tree devices procedures name (BasicDation direction kind) number is).numbered
  number_of_name name sense number is of = absurd of

  device_at : (name : SortedName) (sense : Sense) (number : ℕ) → IsModuleName tree devices procedures name sense number → (of : IsOfDevice sense) →
      (fit : IsFit name sense) →
      slice_get (resolve (table_of tree) devices procedures tree).devices number ≡ Some (device_of (known_of tree).lengths fit.is.device)
  device_at name sense number is of fit =
      ap (λ n. slice_get (resolve (table_of tree) devices procedures tree).devices n) (sym (number_of_name name sense number is of)) ∙
      there_of (device_number devices (name_text name.name)) fit.is.device fit.is.there

  pub devices_there : DevicesAreThere tree devices procedures
  devices_there = record {
    interrupts = λ name number is.
        let fit = name_fits name Interrupt number is tt in
        subst IsInterruptDevice (sym (device_at name Interrupt number is tt fit))
        (interrupt_fits (known_of tree).lengths fit.is.device fit.is.device.role fit.given refl fit.is.suits fit.fits);
    terminals = λ name direction number is.
        let fit = name_fits name (AlphicDation direction) number is tt in
        subst (IsTerminal direction) (sym (device_at name (AlphicDation direction) number is tt fit))
        (terminal_fits (known_of tree).lengths fit.is.device fit.is.device.role fit.given direction fit.fits.0 fit.is.suits fit.fits.1);
    channels = λ name direction kind number is.
        let fit = name_fits name (BasicDation direction (Some kind)) number is tt in
        subst (IsChannel direction kind) (sym (device_at name (BasicDation direction (Some kind)) number is tt fit))
        (channel_fits (known_of tree).lengths fit.is.device fit.is.device.role fit.given direction fit.fits.0 fit.fits.1 kind fit.is.suits fit.fits.2 fit.fits.3);
  }
