-- What is answered and added, against what the definitions say: a kind and broken rules, or where a reference stands.
use Rattle.std.specs.Prelude.{◌≡◌, Bool, List, [], ◌++◌, map, length, Option, Some, None}
use Rattle.pearl_value.specs.declared.kind.Kind.{Kind}
use Rattle.pearl_tree.specs.declared.fault.RuleFault.{RuleFault}
use Rattle.pearl_names.specs.declared.types.StructForm.{StructForm}
use Rattle.pearl_names.specs.declared.table.SenseTable.{SenseTable}
use Rattle.pearl_names.specs.declared.sense.Signature.{Signature}
use Rattle.pearl_names.specs.Forms.{StandsFor}
use Rattle.pearl_names.specs.Tables.{Table}
use Rattle.pearl_names.specs.Holding.{HoldsTable, parameter_of}
use Rattle.pearl_check_expr.specs.declared.standing.Standing.{Standing as Reached}
use Rattle.pearl_check_expr.specs.declared.standing.Standing.TheVariants as reached
use Rattle.pearl_check_expr.specs.declared.standing.Subscripts.{Subscripts}
use Rattle.pearl_check_expr.specs.Senses.{Callee}
use Rattle.pearl_check_expr.specs.Standings.{Judged, Standing, Broken, Open, Walked, all_fixed, all_known, faults_of}
use Rattle.pearl_check_expr.specs.Judged.{Argument, all_well, argument_faults}

-- a kind without a fault
abbrev pub of_kind : Option Kind → Judged
of_kind kind = record { kind = kind; faults = [] }

-- this kind is answered, and the faults are added to the old ones
pub record IsJudged (kind : Option Kind) (old new : List RuleFault) (judged : Judged) : Type 0 where
  pub same : kind ≡ judged.kind
  pub added : new ≡ old ++ judged.faults

-- the same of each table of names that the one in memory holds
abbrev pub Judges : SenseTable → Option Kind → (old new : List RuleFault) → (Table → Judged) → Type 0
Judges held kind old new judged = (table : Table) → HoldsTable held table → IsJudged kind old new (judged table)

abbrev pub StandsAt : List StructForm → Reached → Standing → Type 0
StandsAt forms reached.Broken Broken = Unit {0}
StandsAt forms (reached.Open dimensions part) (Open number shape) = (dimensions ≡ number) × StandsFor forms part shape
StandsAt forms reached standing = ⊥

abbrev pub StandsIf : List StructForm → Option Reached → Option Standing → Type 0
StandsIf forms None None = Unit {0}
StandsIf forms (Some reached) (Some standing) = StandsAt forms reached standing
StandsIf forms reached standing = ⊥

pub record IsWalked (forms : List StructForm) (standing : Reached) (old new : List RuleFault) (walked : Walked) : Type 0 where
  pub stands : StandsAt forms standing walked.standing
  pub added : new ≡ old ++ walked.faults

abbrev pub Walks : SenseTable → Reached → (old new : List RuleFault) → (Table → Walked) → Type 0
Walks held standing old new walked =
    (table : Table) → HoldsTable held table → IsWalked held.forms.items standing old new (walked table)

-- what is known of these subscripts as a whole
pub record AreSubscripts (subscripts : Subscripts) (parts : List Judged) : Type 0 where
  pub count : subscripts.count ≡ length parts
  pub fixed : subscripts.fixed ≡ all_fixed parts
  pub known : subscripts.known ≡ all_known parts

pub record IsArgument (well : Bool) (old new : List RuleFault) (argument : Argument) : Type 0 where
  pub same : well ≡ argument.well
  pub added : new ≡ old ++ argument.faults

-- the subscripts are these parts, whose faults are added to the old ones
pub record AreJudged (subscripts : Subscripts) (old new : List RuleFault) (parts : List Judged) : Type 0 where
  pub whole : AreSubscripts subscripts parts
  pub added : new ≡ old ++ faults_of parts

pub record AreArguments (well : Bool) (old new : List RuleFault) (arguments : List Argument) : Type 0 where
  pub same : well ≡ all_well arguments
  pub added : new ≡ old ++ argument_faults arguments

abbrev pub callee_in : Signature → Callee
callee_in signature = record { parameters = map parameter_of signature.parameters.items; result = signature.result }
