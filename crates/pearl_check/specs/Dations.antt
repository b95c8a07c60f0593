-- Which dations a transfer may name. What is no dation breaks S16 alone.
use Rattle.std.specs.Prelude.{ℕ, Bool, true, false, ◌||◌, List, [], Option, Some}
use Rattle.pearl_value.specs.declared.kind.Kind.{Kind}
use Rattle.pearl_tree.specs.declared.fault.RuleFault.{RuleFault}
use Rattle.pearl_tree.specs.declared.rule.TheConstants as rule
use Rattle.pearl_tree.specs.Faults.{fault_if}
use Rattle.pearl_tree.specs.ShownStatements.{ShownStmt, OfPut, OfGet, OfSend, OfTake}
use Rattle.pearl_names.specs.declared.scope.View.TheVariants.{Within}
use Rattle.pearl_names.specs.Tables.{Sense, AlphicDation, BasicDation, Table}
use Rattle.pearl_system.specs.Rules.{is_in, is_out}
use Rattle.pearl_check_expr.specs.Judged.{misfits}
use Rattle.pearl_check.specs.Views.{seen, value_kind, target_kind}

-- PUT writes to ALPHIC, and not to IN
abbrev pub takes_no_put : Option Sense → Bool
takes_no_put (Some (AlphicDation direction)) = is_in direction
takes_no_put (Some (BasicDation direction kind)) = true
takes_no_put sense = false

-- GET reads from ALPHIC, and not from OUT
abbrev pub gives_no_get : Option Sense → Bool
gives_no_get (Some (AlphicDation direction)) = is_out direction
gives_no_get (Some (BasicDation direction kind)) = true
gives_no_get sense = false

-- SEND writes to BASIC, not to IN, and what suits its kind
abbrev pub takes_no_send : Option Kind → Option Sense → Bool
takes_no_send sent (Some (AlphicDation direction)) = true
takes_no_send sent (Some (BasicDation direction kind)) = is_in direction || misfits sent kind
takes_no_send sent sense = false

-- TAKE reads from BASIC, not from OUT, and into what its kind suits
abbrev pub gives_no_take : Option Kind → Option Sense → Bool
gives_no_take taken (Some (AlphicDation direction)) = true
gives_no_take taken (Some (BasicDation direction kind)) = is_out direction || misfits kind taken
gives_no_take taken sense = false

-- S32: a transfer doesn't suit its dation: not ALPHIC or not BASIC, a direction that doesn't allow it, or another kind
abbrev pub s32 : Table → (scope : ℕ) → ShownStmt → List RuleFault
s32 table scope (OfPut values dation formats place) =
    fault_if (takes_no_put (seen table (Within scope) dation)) dation.place rule.S32
s32 table scope (OfGet targets dation formats place) =
    fault_if (gives_no_get (seen table (Within scope) dation)) dation.place rule.S32
s32 table scope (OfSend expr dation place) =
    fault_if (takes_no_send (value_kind table scope expr) (seen table (Within scope) dation)) dation.place rule.S32
s32 table scope (OfTake target dation place) =
    fault_if (gives_no_take (target_kind table scope target) (seen table (Within scope) dation)) dation.place rule.S32
s32 table scope statement = []
