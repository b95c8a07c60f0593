-- Names in a list, and those that repeat one before them.
use Rattle.std.specs.Prelude.{ℕ, Bool, false, ◌||◌, List, [], ◌∷◌, ◌++◌}
use Rattle.std.specs.Str.{bytes_eq}
use Rattle.pearl_tree.specs.declared.fault.RuleFault.{RuleFault}
use Rattle.pearl_tree.specs.declared.name.Name.{Name}
use Rattle.pearl_tree.specs.ShownDeclarations.{ShownNames, OfOne, OfSeveral}
use Rattle.pearl_tree.specs.Faults.{fault_if}

abbrev pub name_text : Name → List ℕ
name_text name = name.text.items

abbrev pub names_of : ShownNames → List Name
names_of (OfOne name) = name ∷ []
names_of (OfSeveral names place) = names

abbrev pub is_among : List Name → List ℕ → Bool
is_among [] text = false
is_among (name ∷ names) text = bytes_eq (name_text name) text || is_among names text

-- a fault of this rule at each name that has the text of one before it
abbrev pub repeats : ℕ → List Name → List Name → List RuleFault
repeats rule before [] = []
repeats rule before (name ∷ names) =
    fault_if (is_among before (name_text name)) name.place rule ++ repeats rule (before ++ name ∷ []) names

-- whether a name has the text of one before it
abbrev pub has_repeats : List Name → List Name → Bool
has_repeats before [] = false
has_repeats before (name ∷ names) = is_among before (name_text name) || has_repeats (before ++ name ∷ []) names
