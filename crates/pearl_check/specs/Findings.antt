-- What is found of the parts of a statement when each is asked: the kinds of its subjects, and the entries that its names
-- mean.
use Rattle.std.specs.Prelude.{◌≡◌, ℕ, List, [], ◌∷◌, ◌++◌, Option, Some, None, slice_get, unwrap_or}
use Rattle.std.specs.List.{flat_map}
use Rattle.std.specs.Option.{option_and_then}
use Rattle.pearl_value.specs.declared.kind.Kind.{Kind}
use Rattle.pearl_tree.specs.declared.name.Name.{Name}
use Rattle.pearl_tree.specs.Names.{name_text}
use Rattle.pearl_tree.specs.ShownExpressions.{ShownExpr}
use Rattle.pearl_names.specs.declared.meaning.Found.{Found}
use Rattle.pearl_names.specs.declared.scope.View.TheVariants.{Within}
use Rattle.pearl_names.specs.Found.{found_from}
use Rattle.pearl_names.specs.Tables.{Sense, Table, sense_at}
use Rattle.pearl_check.specs.declared.findings.Findings.{Findings}
use Rattle.pearl_check.specs.Asked.{Asked, Subject, Named}
use Rattle.pearl_check.specs.Views.{subject_kind, value_kind}

-- the entry that a name means
abbrev pub meant : Table → (scope : ℕ) → Name → Option Found
meant table scope name = found_from table.names (Within scope) (name_text name)

-- what a name stands for that means this entry
abbrev pub sense_of : Table → Option Found → Option Sense
sense_of table found = option_and_then (sense_at table.senses) found

-- the kind of a part that is a subject
abbrev pub kind_found : Table → Asked → List (Option Kind)
kind_found table (Subject role scope subject) = subject_kind table scope subject ∷ []
kind_found table (Named role scope name) = []

-- what a part means that is a name
abbrev pub name_found : Table → Asked → List (Option Found)
name_found table (Subject role scope subject) = []
name_found table (Named role scope name) = meant table scope name ∷ []

-- what is found of this part stands behind the old findings
pub record IsFound (table : Table) (old new : Findings) (part : Asked) : Type 0 where
  pub kind : new.kinds.items ≡ old.kinds.items ++ kind_found table part
  pub name : new.names.items ≡ old.names.items ++ name_found table part

-- this is what is found of these parts
pub record AreFound (table : Table) (findings : Findings) (parts : List Asked) : Type 0 where
  pub kinds : findings.kinds.items ≡ flat_map (kind_found table) parts
  pub names : findings.names.items ≡ flat_map (name_found table) parts

abbrev pub kind_at : Findings → ℕ → Option Kind
kind_at findings index = unwrap_or (slice_get findings.kinds.items index) None

abbrev pub first_name : Findings → Option Found
first_name findings = unwrap_or (slice_get findings.names.items 0) None

-- the kind of a value that may be missing
abbrev pub kind_if : Table → (scope : ℕ) → Option ShownExpr → Option Kind
kind_if table scope None = None
kind_if table scope (Some expr) = value_kind table scope expr
