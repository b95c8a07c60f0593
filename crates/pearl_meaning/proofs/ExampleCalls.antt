-- What calls do with arguments, references, results and own variables.
use Rattle.std.specs.Prelude.{◌≡◌, ℕ, List, [], ◌∷◌, Option, Some, None}
use Rattle.std.proofs.Common.{refl}
use Rattle.pearl_value.specs.declared.kind.Kind.{Kind}
use Rattle.pearl_value.specs.declared.kind.Kind.TheVariants as kind
use Rattle.pearl_value.specs.declared.kind.CellKind.{CellKind}
use Rattle.pearl_value.specs.declared.kind.CellKind.TheVariants.{Plain, RefTo}
use Rattle.pearl_value.specs.declared.operator.Dyad.TheVariants.{Add}
use Rattle.pearl_value.specs.declared.trap.Trap.TheVariants as trap
use Rattle.pearl_rules.specs.declared.action.Action.TheVariants.{Read, Write, Turn, Enter, End, Trap}
use Rattle.pearl_rules.specs.declared.action.Answer.TheVariants.{Nothing}
use Rattle.pearl_program.specs.PlainExpressions.{OfRead, OfDyadic, OfCall, OfValue, OfIdent, PlainArgument, PlainArguments, NoArguments, MoreArguments}
use Rattle.pearl_program.specs.PlainStatements.{PlainStmt, OfRenew, OfAssign, OfCallOf, OfRepeat, OfReturn, PlainStmts, NoStmts, MoreStmts}
use Rattle.pearl_program.specs.PlainPrograms.{PlainProcedure}
use Rattle.pearl_meaning.specs.Programs.{offer}
use Rattle.pearl_meaning.proofs.Examples.{fixed, number, hears, literal, own, param, a, b, m, only, two, program, offers}

abbrev short : Kind
short = kind.Fixed 3

abbrev procedure : ℕ → Option Kind → List CellKind → PlainStmts → PlainProcedure
procedure params result cells body = record { params = params; result = result; routine = record { cells = cells; body = body } }

abbrev one : PlainArgument → PlainArguments
one argument = MoreArguments argument NoArguments

abbrev with_two : PlainArgument → PlainArgument → PlainArguments
with_two argument other = MoreArguments argument (one other)

abbrev call_of : PlainArguments → PlainStmt
call_of arguments = OfCallOf 0 arguments

-- p: PROC(x FIXED(3), y FIXED); a := x + y; END;
abbrev adding : PlainProcedure
adding = procedure 2 None (Plain short ∷ fixed ∷ []) (only (OfAssign a (OfDyadic Add (OfRead (own 0)) (OfRead (own 1)))))

-- CALL p(a, b); from left to right, then it is entered
hands_over_values : offers (offer (program (adding ∷ []) [] (only (call_of (with_two (OfValue (OfRead a)) (OfValue (OfRead b)))))) 0)
    (hears 7 ∷ hears 30 ∷ Nothing ∷ Nothing ∷ [])
    ≡ Read 0 ∷ Read 1 ∷ Enter ∷ Write 0 (number 37) ∷ End ∷ []
unfolding offer
hands_over_values = refl

-- the first argument is converted before the second is evaluated
converts_one_by_one : offers (offer (program (adding ∷ []) [] (only (call_of (with_two (OfValue (OfRead a)) (OfValue (OfRead b)))))) 0) (hears 8 ∷ [])
    ≡ Read 0 ∷ Trap trap.Overflow ∷ []
unfolding offer
converts_one_by_one = refl

-- q: PROC(x FIXED IDENT, y FIXED); x := x + y; END;
abbrev raising : PlainProcedure
raising = procedure 2 None (RefTo (kind.Fixed 31) ∷ fixed ∷ []) (only (OfAssign (param 0) (OfDyadic Add (OfRead (param 0)) (OfRead (own 1)))))

-- CALL q(m(a, 2), b); the element is found and checked first, and is read and written in the procedure
refers_to_a_slot : offers (offer (program (raising ∷ []) [] (only (call_of (with_two (OfIdent (m (OfRead a) (literal 2))) (OfValue (OfRead b)))))) 0)
    (hears 2 ∷ hears 5 ∷ Nothing ∷ hears 40 ∷ Nothing ∷ [])
    ≡ Read 0 ∷ Read 1 ∷ Enter ∷ Read 6 ∷ Write 6 (number 45) ∷ End ∷ []
unfolding offer
refers_to_a_slot = refl

checks_before_the_next : offers (offer (program (raising ∷ []) [] (only (call_of (with_two (OfIdent (m (OfRead a) (literal 2))) (OfValue (OfRead b)))))) 0) (hears 3 ∷ [])
    ≡ Read 0 ∷ Trap trap.Index ∷ []
unfolding offer
checks_before_the_next = refl

-- DCL n FIXED INIT(3); CALL q(n, 4); a := n; no action reads or writes an own variable
refers_to_a_cell : offers (offer (program (raising ∷ []) (fixed ∷ []) (MoreStmts (OfRenew 0 (record { kind = kind.Fixed 31; count = 1; constants = number 3 ∷ [] }))
    (two (call_of (with_two (OfIdent (own 0)) (OfValue (literal 4)))) (OfAssign a (OfRead (own 0)))))) 0) (Nothing ∷ Nothing ∷ [])
    ≡ Enter ∷ Write 0 (number 7) ∷ End ∷ []
unfolding offer
refers_to_a_cell = refl

-- r: PROC(x FIXED IDENT); CALL q(x, 1); END; hands its reference on: q is number 0, r number 1
abbrev handing_on : PlainProcedure
handing_on = procedure 1 None (RefTo (kind.Fixed 31) ∷ []) (only (call_of (with_two (OfIdent (param 0)) (OfValue (literal 1)))))

hands_on : offers (offer (program (raising ∷ handing_on ∷ []) (fixed ∷ []) (two (OfCallOf 1 (one (OfIdent (own 0)))) (OfAssign a (OfRead (own 0))))) 0)
    (Nothing ∷ Nothing ∷ Nothing ∷ [])
    ≡ Enter ∷ Enter ∷ Write 0 (number 1) ∷ End ∷ []
unfolding offer
hands_on = refl

-- f: PROC RETURNS(FIXED(3)); DCL n FIXED; n := n + 1; RETURN(n + a); END; its variable is new at each entry
abbrev returning : PlainProcedure
returning = procedure 0 (Some short) (fixed ∷ []) (MoreStmts (OfRenew 0 (record { kind = kind.Fixed 31; count = 1; constants = [] }))
    (two (OfAssign (own 0) (OfDyadic Add (OfRead (own 0)) (literal 1))) (OfReturn (Some (OfDyadic Add (OfRead (own 0)) (OfRead a))))))

-- b := f + f;
gives_results : offers (offer (program (returning ∷ []) [] (only (OfAssign b (OfDyadic Add (OfCall 0 NoArguments) (OfCall 0 NoArguments))))) 0)
    (Nothing ∷ hears 1 ∷ Nothing ∷ hears 2 ∷ [])
    ≡ Enter ∷ Read 0 ∷ Enter ∷ Read 0 ∷ Write 1 (number 5) ∷ []
unfolding offer
gives_results = refl

converts_the_result : offers (offer (program (returning ∷ []) [] (only (OfAssign b (OfCall 0 NoArguments)))) 0) (Nothing ∷ hears 7 ∷ [])
    ≡ Enter ∷ Read 0 ∷ Trap trap.Overflow ∷ []
unfolding offer
converts_the_result = refl

-- RETURN leaves the loops around it too, and what follows the call is done
leaves_by_return : offers (offer (program (procedure 0 None [] (two (OfRepeat None None (two (OfReturn None) (OfAssign a (literal 1)))) (OfAssign a (literal 2))) ∷ [])
    [] (two (call_of NoArguments) (OfAssign a (literal 3)))) 0) (Nothing ∷ Nothing ∷ Nothing ∷ [])
    ≡ Enter ∷ Turn ∷ Write 0 (number 3) ∷ End ∷ []
unfolding offer
leaves_by_return = refl

-- a procedure with RETURNS that reaches its END
traps_at_its_end : offers (offer (program (procedure 0 (Some short) [] NoStmts ∷ []) [] (only (OfAssign b (OfCall 0 NoArguments)))) 0) (Nothing ∷ [])
    ≡ Enter ∷ Trap trap.Range ∷ []
unfolding offer
traps_at_its_end = refl

-- one without may, and a result that a call statement doesn't use is dropped
drops_the_result : offers (offer (program (returning ∷ []) [] (two (call_of NoArguments) (OfAssign b (literal 1)))) 0) (Nothing ∷ hears 3 ∷ [])
    ≡ Enter ∷ Read 0 ∷ Write 1 (number 1) ∷ []
unfolding offer
drops_the_result = refl
