-- The table of names: what each name stands for, with all that is asked of it where it is used. A kind or form is
-- missing where a rule is broken in it, so that the name counts as one with a fault.
use Rattle.std.specs.Prelude.{ℕ, ◌+◌, ℤ, Bool, if◌then◌else◌, List, [], ◌∷◌, map, Option, Some, None, option_map, slice_get}
use Rattle.std.specs.List.{list_all, flat_map}
use Rattle.std.specs.Option.{option_and_then}
use Rattle.pearl_value.specs.declared.kind.Kind.{Kind}
use Rattle.pearl_value.specs.declared.kind.Kind.TheVariants as kind
use Rattle.pearl_tree.specs.declared.typing.Sort.TheVariants.{Fixed}
use Rattle.pearl_value.specs.declared.device.Direction.{Direction}
use Rattle.pearl_tree.specs.declared.declaration.Class.{Class}
use Rattle.pearl_tree.specs.declared.declaration.Class.TheVariants.{Alphic, Basic as BasicClass}
use Rattle.pearl_tree.specs.ShownDeclarations.{ShownItem, ShownParam}
use Rattle.pearl_tree.specs.ShownModules.{ShownTree}
use Rattle.pearl_names.specs.declared.length.DefaultLength.{DefaultLength}
use Rattle.pearl_names.specs.Lengths.{length_at, kind_of_basic}
use Rattle.pearl_tree.specs.Names.{names_of}
use Rattle.pearl_names.specs.Scopes.{Meaning, Entry, Scope, scopes_of}
use Rattle.pearl_names.specs.Scopes as scopes
use Rattle.pearl_names.specs.declared.meaning.Found.{Found}
use Rattle.pearl_names.specs.declared.scope.View.{View}
use Rattle.pearl_names.specs.Found.{found_from}
use Rattle.pearl_names.specs.ScopeNames.{ScopeNames}
use Rattle.pearl_names.specs.Shapes.{Shape, Around, shape_of, sound_bounds}
use Rattle.pearl_names.specs.Layout.{Leaf, leaves_of, is_sound_leaf}
use Rattle.pearl_names.specs.Known.{Known, known_of, around}

-- the bounds and the shape of a variable
pub record Form : Type 0 where
  pub bounds : List (ℤ × ℤ)
  pub shape : Shape

-- where a rule is broken in a variable's declaration, it has no leaves
abbrev pub leaves_in : Option Form → List Leaf
leaves_in None = []
leaves_in (Some form) = leaves_of [] form.bounds form.shape

-- a parameter, and whether it is IDENT
pub record Parameter : Type 0 where
  pub kind : Option Kind
  pub ident : Bool

pub data Sense : Type 0 where
  Variable : (form : Option Form) (inv : Bool) → Sense
  Control : (kind : Kind) → Sense
  OwnParameter : (parameter : Parameter) → Sense
  NewType : Sense
  Semaphore : Sense
  Interrupt : Sense
  AlphicDation : (direction : Direction) → Sense
  BasicDation : (direction : Direction) (kind : Option Kind) → Sense
  Task : Sense
  -- without RETURNS there is no result
  Procedure : (parameters : List Parameter) (result : Option (Option Kind)) → Sense

-- where the leaves have few dimensions and elements
abbrev pub sound_form : Option (List (ℤ × ℤ)) → Option Shape → Option Form
sound_form (Some bounds) (Some shape) =
    if list_all is_sound_leaf (leaves_of [] bounds shape) then Some (record { bounds = bounds; shape = shape }) else None
sound_form bounds shape = None

-- the form of the variables of an item
abbrev pub form_of : Around → ShownItem → Option Form
form_of around item = sound_form (sound_bounds item.bounds) (shape_of around item.part)

abbrev pub parameters_of : List DefaultLength → ShownParam → List Parameter
parameters_of lengths param =
    map (λ name. record { kind = kind_of_basic lengths param.basic; ident = param.ident }) (names_of param.names)

abbrev pub dation_sense : List DefaultLength → Direction → Class → Sense
dation_sense lengths direction (Alphic place) = AlphicDation direction
dation_sense lengths direction (BasicClass part place) = BasicDation direction (kind_of_basic lengths part)

-- what a name stands for that this declares in this scope
abbrev pub sense_of : Known → ℕ → Meaning → Sense
sense_of known scope (scopes.Variable item types) = Variable (form_of (around known scope types) item) item.inv
sense_of known scope (scopes.Control loop) = Control (kind.Fixed (length_at known.lengths Fixed loop))
sense_of known scope (scopes.Parameter part ident) =
    OwnParameter (record { kind = kind_of_basic known.lengths part; ident = ident })
sense_of known scope (scopes.NewType number) = NewType
sense_of known scope scopes.Semaphore = Semaphore
sense_of known scope scopes.Interrupt = Interrupt
sense_of known scope (scopes.Dation direction class) = dation_sense known.lengths direction class
sense_of known scope scopes.Task = Task
sense_of known scope (scopes.Procedure params returns) =
    Procedure (flat_map (parameters_of known.lengths) params) (option_map (kind_of_basic known.lengths) returns)

-- what the names of a scope of this number stand for
abbrev pub senses_of : Known → ℕ → List Entry → List Sense
senses_of known scope entries = map (λ entry. sense_of known scope entry.meaning) entries

-- scope by scope, where the first of them has this number
abbrev pub senses_in : Known → ℕ → List Scope → List (List Sense)
senses_in known number [] = []
senses_in known number (scope ∷ rest) = senses_of known number scope.entries ∷ senses_in known (number + 1) rest

pub record Table : Type 0 where
  -- the scopes with their names, and in the same order what these stand for
  pub names : List ScopeNames
  pub senses : List (List Sense)
  pub lengths : List DefaultLength

abbrev pub table_of : ShownTree → Table
table_of tree = record {
  names = (known_of tree).scopes;
  senses = senses_in (known_of tree) 0 (scopes_of tree);
  lengths = (known_of tree).lengths;
}

-- what an entry stands for
abbrev pub sense_at : List (List Sense) → Found → Option Sense
sense_at senses found = option_and_then (λ names. slice_get names found.entry) (slice_get senses found.scope)

-- what a name stands for where it is seen, if a visible scope declares it
abbrev pub sense_from : Table → View → List ℕ → Option Sense
sense_from table view text = option_and_then (sense_at table.senses) (found_from table.names view text)
