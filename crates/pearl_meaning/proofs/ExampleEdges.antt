-- To which frame and element a reference leads, how arrays with other lower bounds lie, and which values of schedules are just in range.
use Rattle.std.specs.Prelude.{◌≡◌, ℕ, pos, negsuc, List, [], ◌∷◌, Option, Some, None}
use Rattle.std.proofs.Common.{refl}
use Rattle.pearl_value.specs.declared.kind.Kind.TheVariants as kind
use Rattle.pearl_value.specs.declared.kind.CellKind.TheVariants.{RefTo}
use Rattle.pearl_value.specs.declared.cell.Cell.{Cell}
use Rattle.pearl_value.specs.declared.cell.Cell.TheVariants.{Fixed, Clock, Span}
use Rattle.pearl_value.specs.declared.operator.Dyad.TheVariants.{Add}
use Rattle.pearl_value.specs.declared.trap.Trap.TheVariants as trap
use Rattle.pearl_rules.specs.declared.action.Action.TheVariants.{Read, Write, Now, Enter, Activate, Continue, Resume, Disable, End, Trap}
use Rattle.pearl_rules.specs.declared.action.Answer.TheVariants.{Nothing, One}
use Rattle.pearl_rules.specs.declared.action.Start.TheVariants as start
use Rattle.pearl_rules.specs.declared.action.Repeat.TheVariants as repeat
use Rattle.pearl_program.specs.declared.expression.Target.TheVariants.{Leaf, Own}
use Rattle.pearl_program.specs.declared.expression.Bound.{Bound}
use Rattle.pearl_program.specs.PlainExpressions.{PlainExpr, OfLiteral, OfRead, OfDyadic, OfNow, OfIdent, OfValue, PlainVariable, OfVariable, NoArguments, MoreArguments}
use Rattle.pearl_program.specs.PlainStatements.{OfUntil, OfDuring, PlainPeriodEnd, OfAt, OfAfter, OfWhenAfter, OnceAt, OnceAfter, PlainStmt, OfRenew, OfAssign, OfCallOf, OfActivate, OfContinue, OfResume, OfDisable, MoreStmts}
use Rattle.pearl_program.specs.PlainPrograms.{PlainProcedure, PlainProg}
use Rattle.pearl_meaning.specs.Variables.{elements_before}
use Rattle.pearl_meaning.specs.Programs.{offer}
use Rattle.pearl_meaning.proofs.Examples.{fixed, number, hears, literal, alone, both, bound, own, param, a, b, only, two, doing, program, offers}

-- REFERENCES

-- q: PROC(x FIXED IDENT, y FIXED); x := x + y; END;
abbrev raising : PlainProcedure
raising = record {
  params = 2;
  result = None;
  routine = record { cells = RefTo (kind.Fixed 31) ∷ fixed ∷ []; body = only (OfAssign (param 0) (OfDyadic Add (OfRead (param 0)) (OfRead (own 1)))) };
}

-- CALL q(variable, 4);
abbrev raise : PlainVariable → PlainStmt
raise variable = OfCallOf 0 (MoreArguments (OfIdent variable) (MoreArguments (OfValue (literal 4)) NoArguments))

-- DCL .. FIXED INIT(..), in so many cells from this one on
abbrev declare : (cell count : ℕ) → List Cell → PlainStmt
declare cell count constants = OfRenew cell (record { kind = kind.Fixed 31; count = count; constants = constants })

-- r: PROC; DCL n FIXED INIT(3); CALL q(n, 4); a := n; END;
abbrev lending : PlainProcedure
lending = record {
  params = 0;
  result = None;
  routine = record { cells = fixed ∷ []; body = MoreStmts (declare 0 1 (number 3 ∷ [])) (two (raise (own 0)) (OfAssign a (OfRead (own 0)))) };
}

-- DCL k FIXED INIT(50); CALL r; b := k; the reference leads to r's own variable, and not to the task's in the same cell
refers_to_the_callers_frame : offers (offer (program (raising ∷ lending ∷ []) (fixed ∷ [])
    (MoreStmts (declare 0 1 (number 50 ∷ [])) (two (OfCallOf 1 NoArguments) (OfAssign b (OfRead (own 0)))))) 0)
    (Nothing ∷ Nothing ∷ Nothing ∷ Nothing ∷ [])
    ≡ Enter ∷ Enter ∷ Write 0 (number 7) ∷ Write 1 (number 50) ∷ End ∷ []
unfolding offer
refers_to_the_callers_frame = refl

abbrev minus_one : Cell
minus_one = Fixed 31 (negsuc 0)

abbrev from_0_to_2 : Bound
from_0_to_2 = bound 0 2

abbrev from_minus_1_to_1 : Bound
from_minus_1_to_1 = record { lower = negsuc 0; upper = pos 1 }

-- an element of an array in three cells from cell 1 on
abbrev of_own : Bound → PlainExpr → PlainVariable
of_own bound e = OfVariable (Own 1) (bound ∷ []) (alone e)

abbrev v : ℕ → PlainVariable
v n = of_own (bound 1 3) (literal n)

abbrev array : PlainStmt
array = declare 1 3 (number 30 ∷ number 60 ∷ number 90 ∷ [])

-- DCL k FIXED, v(3) FIXED INIT(30, 60, 90); .. ; a := x; b := y;
abbrev with_array : PlainStmt → (x y : PlainVariable) → PlainProg
with_array statement x y = program (raising ∷ []) (fixed ∷ fixed ∷ fixed ∷ fixed ∷ [])
    (MoreStmts array (MoreStmts statement (two (OfAssign a (OfRead x)) (OfAssign b (OfRead y)))))

-- CALL q(v(2), 4); a := v(2); b := v(1);
refers_to_an_own_element : offers (offer (with_array (raise (v 2)) (v 2) (v 1)) 0) (Nothing ∷ Nothing ∷ Nothing ∷ [])
    ≡ Enter ∷ Write 0 (number 64) ∷ Write 1 (number 30) ∷ End ∷ []
unfolding offer
refers_to_an_own_element = refl

-- v(3) := 5; a := v(3); b := v(1);
writes_an_own_element : offers (offer (with_array (OfAssign (v 3) (literal 5)) (v 3) (v 1)) 0) (Nothing ∷ Nothing ∷ [])
    ≡ Write 0 (number 5) ∷ Write 1 (number 30) ∷ End ∷ []
unfolding offer
writes_an_own_element = refl

-- v(4) := 5;
traps_behind_an_own_array : offer (with_array (OfAssign (v 4) (literal 5)) a b) 0 [] ≡ Trap trap.Index
unfolding offer
traps_behind_an_own_array = refl

-- LOWER BOUNDS

-- DCL v(0:2) FIXED; v(0) := 5; a := v(0); b := v(2);
begins_at_0 : offers (offer (with_array (OfAssign (of_own from_0_to_2 (literal 0)) (literal 5))
    (of_own from_0_to_2 (literal 0)) (of_own from_0_to_2 (literal 2))) 0) (Nothing ∷ Nothing ∷ [])
    ≡ Write 0 (number 5) ∷ Write 1 (number 90) ∷ End ∷ []
unfolding offer
begins_at_0 = refl

-- DCL v(-1:1) FIXED; v(-1) := 5; a := v(0); b := v(1);
begins_below_0 : offers (offer (with_array (OfAssign (of_own from_minus_1_to_1 (OfLiteral minus_one)) (literal 5))
    (of_own from_minus_1_to_1 (literal 0)) (of_own from_minus_1_to_1 (literal 1))) 0) (Nothing ∷ Nothing ∷ [])
    ≡ Write 0 (number 60) ∷ Write 1 (number 90) ∷ End ∷ []
unfolding offer
begins_below_0 = refl

-- DCL m(0:1, -1:1) FIXED; m(a, b) := 5; in the slots 2 to 7
abbrev to_slots : PlainProg
to_slots = doing (OfAssign (OfVariable (Leaf 2) (bound 0 1 ∷ from_minus_1_to_1 ∷ []) (both (OfRead a) (OfRead b))) (literal 5))

first_slot_below_0 : offers (offer to_slots 0) (hears 0 ∷ One minus_one ∷ []) ≡ Read 0 ∷ Read 1 ∷ Write 2 (number 5) ∷ []
unfolding offer
first_slot_below_0 = refl

last_slot_from_0 : offers (offer to_slots 0) (hears 1 ∷ hears 1 ∷ []) ≡ Read 0 ∷ Read 1 ∷ Write 7 (number 5) ∷ []
unfolding offer
last_slot_from_0 = refl

traps_below_0 : offers (offer to_slots 0) (One minus_one ∷ hears 0 ∷ []) ≡ Read 0 ∷ Read 1 ∷ Trap trap.Index ∷ []
unfolding offer
traps_below_0 = refl

traps_above_1 : offers (offer to_slots 0) (hears 0 ∷ hears 2 ∷ []) ≡ Read 0 ∷ Read 1 ∷ Trap trap.Index ∷ []
unfolding offer
traps_above_1 = refl

-- (0:2, -1:1) has nine elements, row by row
none_before : elements_before (from_0_to_2 ∷ from_minus_1_to_1 ∷ []) (number 0 ∷ minus_one ∷ []) ≡ Some 0
none_before = refl

five_before : elements_before (from_0_to_2 ∷ from_minus_1_to_1 ∷ []) (number 1 ∷ number 1 ∷ []) ≡ Some 5
five_before = refl

eight_before : elements_before (from_0_to_2 ∷ from_minus_1_to_1 ∷ []) (number 2 ∷ number 1 ∷ []) ≡ Some 8
eight_before = refl

-- SCHEDULES

abbrev lasting : ℕ → PlainExpr
lasting milliseconds = OfLiteral (Span (pos milliseconds))

-- ALL so long ACTIVATE task 1;
abbrev every : ℕ → Option PlainPeriodEnd → PlainStmt
every milliseconds end = OfActivate 1 None (Some (record { duration = lasting milliseconds; end = end })) None

-- AFTER 0 SEC is lawful
resumes_after_none : offer (doing (OfResume (OnceAfter (lasting 0)))) 0 [] ≡ Resume (start.After (pos 0))
unfolding offer
resumes_after_none = refl

continues_after_none : offer (doing (OfContinue 1 (Some (OnceAfter (lasting 0))))) 0 [] ≡ Continue 1 (start.After (pos 0))
unfolding offer
continues_after_none = refl

starts_after_none : offer (doing (OfActivate 1 (Some (OfAfter (lasting 0))) None None)) 0 [] ≡ Activate 1 (start.After (pos 0)) repeat.Once None
unfolding offer
starts_after_none = refl

starts_when_after_none : offer (doing (OfActivate 1 (Some (OfWhenAfter 0 (lasting 0))) None None)) 0 []
    ≡ Activate 1 (start.WhenAfter 0 (pos 0)) repeat.Once None
unfolding offer
starts_when_after_none = refl

-- ALL 0 SEC isn't, whatever end it has
until_does_not_help : offer (doing (every 0 (Some (OfUntil (OfLiteral (Clock 1000)))))) 0 [] ≡ Trap trap.Range
unfolding offer
until_does_not_help = refl

during_does_not_help : offer (doing (every 0 (Some (OfDuring (lasting 1000))))) 0 [] ≡ Trap trap.Range
unfolding offer
during_does_not_help = refl

-- ALL 0.001 SEC is, and goes on without an end where none is written
goes_on_without_an_end : offer (doing (every 1 None)) 0 [] ≡ Activate 1 start.Free (repeat.All (pos 1)) None
unfolding offer
goes_on_without_an_end = refl

goes_on_until : offer (doing (every 1 (Some (OfUntil (OfLiteral (Clock 1000)))))) 0 [] ≡ Activate 1 start.Free (repeat.Until (pos 1) 1000) None
unfolding offer
goes_on_until = refl

-- AT NOW ACTIVATE task 1; AT 12:00:00 RESUME;
starts_at : offers (offer (doing (OfActivate 1 (Some (OfAt OfNow)) None None)) 0) (One (Clock 7) ∷ Nothing ∷ [])
    ≡ Now ∷ Activate 1 (start.At 7) repeat.Once None ∷ End ∷ []
unfolding offer
starts_at = refl

resumes_at : offer (doing (OfResume (OnceAt (OfLiteral (Clock 43200000))))) 0 [] ≡ Resume (start.At 43200000)
unfolding offer
resumes_at = refl

disables : offers (offer (doing (OfDisable 0)) 0) (Nothing ∷ []) ≡ Disable 0 ∷ End ∷ []
unfolding offer
disables = refl

-- ACTIVATE task 1 PRIO a;
abbrev with_priority : PlainProg
with_priority = doing (OfActivate 1 None None (Some (OfRead a)))

most_urgent : offers (offer with_priority 0) (hears 1 ∷ []) ≡ Read 0 ∷ Activate 1 start.Free repeat.Once (Some 1) ∷ []
unfolding offer
most_urgent = refl

least_urgent : offers (offer with_priority 0) (hears 255 ∷ []) ≡ Read 0 ∷ Activate 1 start.Free repeat.Once (Some 255) ∷ []
unfolding offer
least_urgent = refl

priority_0 : offers (offer with_priority 0) (hears 0 ∷ []) ≡ Read 0 ∷ Trap trap.Range ∷ []
unfolding offer
priority_0 = refl

priority_256 : offers (offer with_priority 0) (hears 256 ∷ []) ≡ Read 0 ∷ Trap trap.Range ∷ []
unfolding offer
priority_256 = refl

priority_below_0 : offers (offer with_priority 0) (One minus_one ∷ []) ≡ Read 0 ∷ Trap trap.Range ∷ []
unfolding offer
priority_below_0 = refl
