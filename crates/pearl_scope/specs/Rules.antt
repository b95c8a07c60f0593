-- The rules S1 to S9, one after the other, and the faults of a module in them.
use Rattle.std.specs.Prelude.{ℕ, ◌-◌, ◌^◌, Bool, true, false, ◌&&◌, ◌||◌, not, nat_le, nat_lt, List, [], ◌∷◌, ◌++◌, length, Option, Some, None, is_none}
use Rattle.std.specs.List.{list_all, flat_map}
use Rattle.pearl_value.specs.declared.kind.Kind.{Kind}
use Rattle.pearl_tree.specs.declared.fault.RuleFault.{RuleFault}
use Rattle.pearl_tree.specs.declared.rule.TheConstants as rule
use Rattle.pearl_tree.specs.declared.name.Name.{Name}
use Rattle.pearl_tree.specs.declared.name.Number.{Number}
use Rattle.pearl_tree.specs.ShownLiterals.{ShownConst}
use Rattle.pearl_tree.specs.ShownModules.{ShownTree}
use Rattle.pearl_tree.specs.Faults.{fault_if}
use Rattle.pearl_names.specs.Lengths.{is_length}
use Rattle.pearl_tree.specs.Durations.{place_of_duration}
use Rattle.pearl_names.specs.Durations.{is_too_long}
use Rattle.pearl_tree.specs.Names.{name_text, names_of, repeats}
use Rattle.pearl_names.specs.declared.scope.NameSort.{NameSort}
use Rattle.pearl_names.specs.declared.scope.NameSort.TheVariants.{NewType as TypeNumber}
use Rattle.pearl_names.specs.ScopeNames.{ScopeNames}
use Rattle.pearl_names.specs.FirstNames.{repeated}
use Rattle.pearl_names.specs.Known.{Known, known_of, around}
use Rattle.pearl_names.specs.Found.{sort_from, sort_within}
use Rattle.pearl_names.specs.Shapes.{field_names, is_sound_pair, bound_pair}
use Rattle.pearl_names.specs.Layout.{Leaf, item_leaves, is_sound_leaf, slots_of}
use Rattle.pearl_scope.specs.Constants.{missing_slots, wrong_signs}
use Rattle.pearl_scope.specs.Parts.{Part, Used, UsedAsType, Length, Lasts, Bounds, Struct, Item, Sema, parts_of}

-- S1: a name is declared twice in one scope
abbrev pub s1 : ScopeNames → List RuleFault
s1 scope = repeated scope.names

-- S2: a name is used that no visible scope declares
abbrev pub s2 : List ScopeNames → Part → List RuleFault
s2 scopes (Used view name) = fault_if (is_none (sort_from scopes view (name_text name))) name.place rule.S2
s2 scopes part = []

abbrev pub is_later_or_no_type : ℕ → Option NameSort → Bool
is_later_or_no_type types None = false
is_later_or_no_type types (Some (TypeNumber number)) = nat_le types number
is_later_or_no_type types (Some sort) = true

-- S3: a type name is used before its TYPE, or names something else
abbrev pub s3 : List ScopeNames → Part → List RuleFault
s3 scopes (UsedAsType scope types name) =
    fault_if (is_later_or_no_type types (sort_within scopes scope (name_text name))) name.place rule.S3
s3 scopes part = []

-- S4: a length is outside its range, or a duration literal is too long
abbrev pub s4 : Part → List RuleFault
s4 (Length sort number) = fault_if (not (is_length sort number.value)) number.place rule.S4
s4 (Lasts duration) = fault_if (is_too_long duration) (place_of_duration duration) rule.S4
s4 part = []

-- at each of these names, by the rule of a number
abbrev pub fault_at_names : Bool → List Name → ℕ → List RuleFault
fault_at_names broken [] number = []
fault_at_names broken (name ∷ names) number = fault_if broken name.place number ++ fault_at_names broken names number

abbrev pub has_unsound_leaf : Option (List Leaf) → Bool
has_unsound_leaf None = false
has_unsound_leaf (Some leaves) = not (list_all is_sound_leaf leaves)

-- S5: a lower bound is above the upper one, or a bound is out of range; a leaf has more than three dimensions on its path
-- or more than 65,536 elements
abbrev pub s5 : Known → Part → List RuleFault
s5 known (Bounds bound) = fault_if (not (is_sound_pair (bound_pair bound))) bound.place rule.S5
s5 known (Item scope types item) =
    fault_at_names (has_unsound_leaf (item_leaves (around known scope types) item)) (names_of item.names) rule.S5
s5 known part = []

-- S6: a STRUCT names a field twice
abbrev pub s6 : Part → List RuleFault
s6 (Struct fields) = repeats rule.S6 [] (field_names fields)
s6 part = []

-- INIT's constants run over the slots of each name in turn
abbrev pub slots_of_names : List Name → List Leaf → List Kind
slots_of_names names leaves = flat_map (λ name. slots_of leaves) names

abbrev pub missing_of : List Name → List ShownConst → Option (List Leaf) → List RuleFault
missing_of names init None = []
missing_of names init (Some leaves) =
    if_sound (list_all is_sound_leaf leaves) (missing_slots (slots_of_names names leaves) init)
  where
    if_sound : Bool → List RuleFault → List RuleFault
    if_sound true faults = faults
    if_sound false faults = []

-- S7: INIT has more constants than slots, or one that doesn't suit or fit its slot, or a sign before another literal than
-- FIXED and DURATION
abbrev pub s7 : Known → Part → List RuleFault
s7 known (Item scope types item) =
    wrong_signs item.init ++ missing_of (names_of item.names) item.init (item_leaves (around known scope types) item)
s7 known part = []

abbrev pub has_no_constant : List ShownConst → Bool
has_no_constant [] = true
has_no_constant (constant ∷ rest) = false

abbrev pub fault_at_first : Bool → List Name → ℕ → List RuleFault
fault_at_first broken [] number = []
fault_at_first broken (name ∷ names) number = fault_if broken name.place number

-- S8: INV without INIT
abbrev pub s8 : Part → List RuleFault
s8 (Item scope types item) = fault_at_first (item.inv && has_no_constant item.init) (names_of item.names) rule.S8
s8 part = []

-- where so many names are left for the numbers
abbrev pub unfit_presets : ℕ → List Number → List RuleFault
unfit_presets names [] = []
unfit_presets names (number ∷ rest) =
    fault_if (nat_lt names 1 || nat_lt (2 ^ 31 - 1) number.value) number.place rule.S9 ++ unfit_presets (names - 1) rest

-- S9: PRESET has more numbers than names, or a number above 2^31 - 1
abbrev pub s9 : Part → List RuleFault
s9 (Sema sema) = unfit_presets (length (names_of sema.names)) sema.preset
s9 part = []

-- the rules other than S1
abbrev pub part_faults : Known → Part → List RuleFault
part_faults known part =
    s2 known.scopes part ++
    (s3 known.scopes part ++ (s4 part ++ (s5 known part ++ (s6 part ++ (s7 known part ++ (s8 part ++ s9 part))))))

-- what is broken in these parts
unfoldable pub faults_in : Known → List Part → List RuleFault
faults_in known parts = flat_map (part_faults known) parts

-- the rules S1 to S9 that a module breaks, in no order and perhaps more than once
abbrev pub broken : ShownTree → List RuleFault
broken tree = flat_map s1 (known_of tree).scopes ++ faults_in (known_of tree) (parts_of tree)
