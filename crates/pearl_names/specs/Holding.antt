-- Which table in memory holds which table of names. A TYPE stands there by its number, and is written out in the
-- definition.
use Rattle.std.specs.Prelude.{◌≡◌, ℕ, List, [], ◌∷◌, map, Option, Some, None, option_map, slice_get}
use Rattle.std.specs.Option.{option_and_then}
use Rattle.pearl_names.specs.declared.meaning.Found.{Found}
use Rattle.pearl_names.specs.declared.sense.Form.{Form as HeldForm}
use Rattle.pearl_names.specs.declared.sense.Parameter.{Parameter as HeldParameter}
use Rattle.pearl_names.specs.declared.sense.Sense.{Sense as HeldSense}
use Rattle.pearl_names.specs.declared.sense.Sense.TheVariants as held
use Rattle.pearl_names.specs.declared.sense.ScopeSenses.{ScopeSenses}
use Rattle.pearl_names.specs.declared.table.SenseTable.{SenseTable}
use Rattle.pearl_names.specs.declared.types.StructForm.{StructForm}
use Rattle.pearl_names.specs.declared.types.TypeRef.{TypeRef}
use Rattle.pearl_names.specs.Forms.{pair_of, StandsFor, Matches}
use Rattle.pearl_names.specs.Known.{Known, around}
use Rattle.pearl_names.specs.Scopes.{Meaning}
use Rattle.pearl_names.specs.Scopes as scopes
use Rattle.pearl_names.specs.Tables.{Form, Parameter, Sense, Variable, Control, OwnParameter, NewType, Semaphore, Interrupt, AlphicDation, BasicDation, Task, Procedure, Table, form_of}

abbrev pub HoldsForm : List StructForm → Option HeldForm → Option Form → Type 0
HoldsForm forms None None = Unit {0}
HoldsForm forms (Some form) (Some of) = (map pair_of form.bounds.items ≡ of.bounds) × StandsFor forms form.part of.shape
HoldsForm forms form of = ⊥

-- the type of a name's variable, where no rule is broken in it
abbrev pub HasPart : List StructForm → Option TypeRef → Known → (scope : ℕ) → Meaning → Type 0
HasPart forms part known scope (scopes.Variable item types) =
    Matches forms part (option_map (λ form. form.shape) (form_of (around known scope types) item))
HasPart forms part known scope meaning = Unit {0}

abbrev pub parameter_of : HeldParameter → Parameter
parameter_of parameter = record { kind = parameter.kind; ident = parameter.ident }

abbrev pub HoldsSense : List StructForm → HeldSense → Sense → Type 0
HoldsSense forms (held.Variable form inv) (Variable of fixed) = HoldsForm forms form of × (inv ≡ fixed)
HoldsSense forms (held.Control kind) (Control of) = kind ≡ of
HoldsSense forms (held.Parameter parameter) (OwnParameter of) = parameter_of parameter ≡ of
HoldsSense forms held.NewType NewType = Unit {0}
HoldsSense forms held.Semaphore Semaphore = Unit {0}
HoldsSense forms held.Interrupt Interrupt = Unit {0}
HoldsSense forms (held.AlphicDation direction) (AlphicDation of) = direction ≡ of
HoldsSense forms (held.BasicDation direction kind) (BasicDation of to) = (direction ≡ of) × (kind ≡ to)
HoldsSense forms held.Task Task = Unit {0}
HoldsSense forms (held.Procedure signature) (Procedure parameters result) =
    (map parameter_of signature.parameters.items ≡ parameters) × (signature.result ≡ result)
HoldsSense forms sense of = ⊥

abbrev pub HoldsFound : List StructForm → Option HeldSense → Option Sense → Type 0
HoldsFound forms None None = Unit {0}
HoldsFound forms (Some sense) (Some of) = HoldsSense forms sense of
HoldsFound forms sense of = ⊥

abbrev pub HoldsAll : List StructForm → List HeldSense → List Sense → Type 0
HoldsAll forms [] [] = Unit {0}
HoldsAll forms (sense ∷ rest) (of ∷ others) = HoldsSense forms sense of × HoldsAll forms rest others
HoldsAll forms senses of = ⊥

-- scope by scope
abbrev pub HoldsSenses : List StructForm → List ScopeSenses → List (List Sense) → Type 0
HoldsSenses forms [] [] = Unit {0}
HoldsSenses forms (scope ∷ rest) (of ∷ others) = HoldsAll forms scope.senses.items of × HoldsSenses forms rest others
HoldsSenses forms scopes of = ⊥

pub record HoldsTable (table : SenseTable) (of : Table) : Type 0 where
  pub names : table.names.items ≡ of.names
  pub senses : HoldsSenses table.forms.items table.senses.items of.senses
  pub lengths : table.lengths ≡ of.lengths

-- what a name stands for that was found in memory
abbrev pub held_at : List ScopeSenses → Found → Option HeldSense
held_at scopes found = option_and_then (λ scope. slice_get scope.senses.items found.entry) (slice_get scopes found.scope)
