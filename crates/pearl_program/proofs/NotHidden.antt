-- No variable that is written or handed over lies in a hidden cell.
use Rattle.std.specs.Prelude.{◌≡◌, ◌⊎◌, ℕ, zero, suc, ◌+◌, ◌<◌, ◌≤◌, nat_eq, Bool, true, false, ◌||◌, List, [], ◌∷◌, ◌++◌, Option}
use Rattle.std.specs.List.{AllByRecursion, AllZip, flat_map, list_any}
use Rattle.std.proofs.Common.{inl, inr, refl, arith}
use Rattle.std.proofs.lemmas.Bool.{eqb-true}
use Rattle.pearl_value.specs.declared.kind.Kind.{Kind}
use Rattle.pearl_value.specs.declared.kind.CellKind.{CellKind}
use Rattle.pearl_value.specs.declared.kind.CellKind.TheVariants.{Plain, RefTo}
use Rattle.pearl_program.specs.declared.expression.Target.TheVariants.{Leaf, Own, Param}
use Rattle.pearl_program.specs.PlainExpressions.{PlainVariable, OfVariable, OfValue, OfIdent, PlainArguments, NoArguments, MoreArguments}
use Rattle.pearl_program.specs.PlainStatements.{PlainStmt, OfRenew, OfAssign, OfCallOf, OfIf, OfCase, OfRepeat, OfExit, OfReturn, OfActivate, OfContinue, OfResume, OfSuspend, OfTerminate, OfPrevent, OfRequest, OfRelease, OfEnable, OfDisable, OfTrigger, OfPut, OfGet, OfSend, OfTake, PlainStmts, NoStmts, MoreStmts, PlainBranches, NoBranches, MoreBranches}
use Rattle.pearl_program.specs.PlainPrograms.{PlainRoutine, PlainProg}
use Rattle.pearl_program.specs.Typing.{Around, elements, AreOpen, IsVariable, Suit}
use Rattle.pearl_program.specs.HiddenCells.{run, hidden_in_all}
use Rattle.pearl_program.specs.SoundStatements.{within, IsStmt, AreStmts, AreBranches}
use Rattle.pearl_program.specs.Sound.{around_of, IsRoutine}
use Rattle.pearl_program.specs.Laws.{own_cells, handed_cells, written_in, written_in_all, written_in_branches}

-- none of these cells is hidden
abbrev Clear : List ℕ → List ℕ → Type 0
Clear hidden cells = AllByRecursion (λ cell. list_any (nat_eq cell) hidden ≡ false) cells

clear_both : (hidden xs ys : List ℕ) → Clear hidden xs → Clear hidden ys → Clear hidden (xs ++ ys)
clear_both hidden [] ys one two = two
clear_both hidden (x ∷ xs) ys one two = (one.0, clear_both hidden xs ys one.1 two)

another : (from other count : ℕ) → (other < from) ⊎ (from + suc count ≤ other) → from ≡ other → ⊥
another from other count (inl less) same = omega (arith, less, same)
another from other count (inr more) same = omega (arith, more, same)

first_clear : (hidden : List ℕ) (from count : ℕ) → AreOpen hidden from (suc count) → list_any (nat_eq from) hidden ≡ false
first_clear [] from count clear = refl
first_clear (other ∷ rest) from count clear = by (nat_eq from other) refl (first_clear rest from count clear.1)
  where
    by : (first : Bool) → nat_eq from other ≡ first → list_any (nat_eq from) rest ≡ false →
        (first || list_any (nat_eq from) rest) ≡ false
    by true same more = absurd (another from other count clear.0 (eqb-true from other same))
    by false same more = more

later : (other from count : ℕ) → (other < from) ⊎ (from + suc count ≤ other) → (other < from + 1) ⊎ (from + 1 + count ≤ other)
later other from count (inl less) = inl (omega (arith, less))
later other from count (inr more) = inr (omega (arith, more))

others_open : (hidden : List ℕ) (from count : ℕ) → AreOpen hidden from (suc count) → AreOpen hidden (from + 1) count
others_open [] from count clear = tt
others_open (other ∷ rest) from count clear = (later other from count clear.0, others_open rest from count clear.1)

run_clear : (hidden : List ℕ) (from count : ℕ) → AreOpen hidden from count → Clear hidden (run from count)
run_clear hidden from zero clear = tt
run_clear hidden from (suc count) clear =
    (first_clear hidden from count clear, run_clear hidden (from + 1) count (others_open hidden from count clear))

variable_clear : (around : Around) (variable : PlainVariable) (kind : Kind) → IsVariable around variable kind →
    Clear around.hidden (own_cells variable)
variable_clear around (OfVariable (Leaf number) bounds subscripts) kind is = tt
variable_clear around (OfVariable (Own cell) bounds subscripts) kind is = run_clear around.hidden cell (elements bounds) is.0.1
variable_clear around (OfVariable (Param number) bounds subscripts) kind is = tt

targets_clear : (around : Around) (targets : List PlainVariable) (kinds : List Kind) → AllZip (IsVariable around) targets kinds →
    Clear around.hidden (flat_map own_cells targets)
targets_clear around [] kinds are = tt
targets_clear around (target ∷ targets) [] are = absurd are
targets_clear around (target ∷ targets) (kind ∷ kinds) are =
    clear_both around.hidden (own_cells target) (flat_map own_cells targets) (variable_clear around target kind are.0)
    (targets_clear around targets kinds are.1)

handed_clear : (around : Around) (params : List CellKind) (arguments : PlainArguments) → Suit around params arguments →
    Clear around.hidden (handed_cells arguments)
handed_clear around params NoArguments suit = tt
handed_clear around [] (MoreArguments argument rest) suit = absurd suit
handed_clear around (param ∷ params) (MoreArguments (OfValue e) rest) suit = handed_clear around params rest suit.1
handed_clear around (RefTo kind ∷ params) (MoreArguments (OfIdent variable) rest) suit =
    clear_both around.hidden (own_cells variable) (handed_cells rest) (variable_clear around variable kind suit.0)
    (handed_clear around params rest suit.1)
handed_clear around (Plain kind ∷ params) (MoreArguments (OfIdent variable) rest) suit = absurd suit.0

mutual
  stmt_clear : (around : Around) (s : PlainStmt) → IsStmt around s → Clear around.hidden (written_in s)
  stmt_clear around (OfRenew cell values) is = run_clear around.hidden cell values.count is.1.1
  stmt_clear around (OfAssign target value) is = variable_clear around target is.0 is.1
  stmt_clear around (OfCallOf procedure arguments) is = handed_clear around is.0.params arguments is.2
  stmt_clear around (OfIf condition statements otherwise) is =
      clear_both around.hidden (written_in_all statements) (written_in_all otherwise) (all_clear around statements is.1)
      (all_clear around otherwise is.2)
  stmt_clear around (OfCase selector alternatives otherwise) is =
      clear_both around.hidden (written_in_branches alternatives) (written_in_all otherwise)
      (branches_clear around alternatives is.1) (all_clear around otherwise is.2)
  stmt_clear around (OfRepeat counter condition statements) is = all_clear (within around counter) statements is.2
  stmt_clear around OfExit is = tt
  stmt_clear around (OfReturn value) is = tt
  stmt_clear around (OfActivate task start period priority) is = tt
  stmt_clear around (OfContinue task once) is = tt
  stmt_clear around (OfResume once) is = tt
  stmt_clear around (OfSuspend task) is = tt
  stmt_clear around (OfTerminate task) is = tt
  stmt_clear around (OfPrevent task) is = tt
  stmt_clear around (OfRequest semaphores) is = tt
  stmt_clear around (OfRelease semaphores) is = tt
  stmt_clear around (OfEnable interrupt) is = tt
  stmt_clear around (OfDisable interrupt) is = tt
  stmt_clear around (OfTrigger interrupt) is = tt
  stmt_clear around (OfPut values device format) is = tt
  stmt_clear around (OfGet targets device format cell) is = targets_clear around targets is.1 is.2
  stmt_clear around (OfSend value device) is = tt
  stmt_clear around (OfTake target device) is = variable_clear around target is.1 is.3

  all_clear : (around : Around) (statements : PlainStmts) → AreStmts around statements →
      Clear around.hidden (written_in_all statements)
  all_clear around NoStmts are = tt
  all_clear around (MoreStmts statement rest) are =
      clear_both around.hidden (written_in statement) (written_in_all rest) (stmt_clear around statement are.0)
      (all_clear around rest are.1)

  branches_clear : (around : Around) (branches : PlainBranches) → AreBranches around branches →
      Clear around.hidden (written_in_branches branches)
  branches_clear around NoBranches are = tt
  branches_clear around (MoreBranches statements rest) are =
      clear_both around.hidden (written_in_all statements) (written_in_branches rest) (all_clear around statements are.0)
      (branches_clear around rest are.1)

pub not_hidden : (p : PlainProg) (count : ℕ) (returns : Option (Option Kind)) (routine : PlainRoutine) →
    IsRoutine p count returns routine → Clear (hidden_in_all routine.body) (written_in_all routine.body) ×
    ((controls : List ℕ) (in_loop : Bool) (variable : PlainVariable) (kind : Kind) →
    IsVariable (record (around_of p routine returns) { controls = controls; in_loop = in_loop }) variable kind →
    Clear (hidden_in_all routine.body) (own_cells variable))
not_hidden p count returns routine is = (
  all_clear (around_of p routine returns) routine.body is.body,
  λ controls in_loop variable kind is.
      variable_clear (record (around_of p routine returns) { controls = controls; in_loop = in_loop }) variable kind is,
)
