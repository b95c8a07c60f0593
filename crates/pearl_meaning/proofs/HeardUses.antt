-- A part of a program that has had all answers that it can have has none left.
use Rattle.std.specs.Prelude.{◌≡◌, ℕ, ◌≤◌, List, [], ◌∷◌, ◌++◌, length}
use Rattle.std.proofs.Common.{refl, sym, subst, arith, append_assoc, append-nil}
use Rattle.pearl_rules.specs.declared.action.Answer.{Answer}
use Rattle.pearl_program.specs.PlainPrograms.{PlainProg}
use Rattle.pearl_meaning.specs.Frames.{Store}
use Rattle.pearl_meaning.specs.Evaluation.{Outcome, Value, Needs, Fails, Does}
use Rattle.pearl_meaning.specs.Hearing.{SuitsNeed, HeardInAfter, HeardIn}
use Rattle.pearl_meaning.specs.Laws.{LeavesNoMore, LeavesFewer, GoesOn, UsesUp}

abbrev pub LeavesNone : {X : Type 0} → Outcome X → Type 0
LeavesNone (Value x store left) = left ≡ []
LeavesNone (Needs action) = Unit {0}
LeavesNone (Fails trap) = Unit {0}

none_of : {X : Type 0} (o : Outcome X) → LeavesNoMore [] o → LeavesNone o
none_of (Value x store []) few = refl
none_of (Value x store (answer ∷ left)) few = absurd (omega (arith, few))
none_of (Needs action) few = tt
none_of (Fails trap) few = tt

none_of_one : {X : Type 0} (answer : Answer) (o : Outcome X) → LeavesFewer (answer ∷ []) o → LeavesNone o
none_of_one answer (Value x store []) few = refl
none_of_one answer (Value x store (other ∷ left)) few = absurd (omega (arith, few))
none_of_one answer (Needs action) few = tt
none_of_one answer (Fails trap) few = tt

module _ (p : PlainProg) {X : Type 0} (does : Does X) (uses : UsesUp does) (store : Store) where
  -- where an answer is needed it is used
  used : (answer : Answer) (o having : Outcome X) → GoesOn (answer ∷ []) o having → SuitsNeed p store.task o answer →
      LeavesNone having
  used answer (Value x after left) having same suits = absurd suits
  used answer (Needs action) having less suits = none_of_one answer having less
  used answer (Fails trap) having same suits = absurd suits

  all_used : (before answers : List Answer) → LeavesNone (does store before) →
      HeardInAfter p does store before answers → LeavesNone (does store (before ++ answers))
  all_used before [] none heard = subst (λ answers. LeavesNone (does store answers)) (sym (append-nil before)) none
  all_used before (answer ∷ answers) none heard =
      subst (λ answers. LeavesNone (does store answers)) (append_assoc before (answer ∷ []) answers)
      (all_used (before ++ answer ∷ []) answers
      (used answer (does store before) (does store (before ++ answer ∷ [])) (uses.goes_on store before (answer ∷ []))
      heard.0) heard.1)

  pub heard_used : (answers : List Answer) → HeardIn p does store answers → LeavesNone (does store answers)
  heard_used answers heard = all_used [] answers (none_of (does store []) (uses.leaves store [])) heard
