-- What is asked for is known where its names are and no rule is broken.
use Rattle.std.specs.Prelude.{◌≡◌, ℕ, List, [], ◌∷◌, Option, Some, None, is_some}
use Rattle.std.specs.List.{AllByRecursion, flat_map}
use Rattle.std.proofs.Common.{refl, ap, ◌∙◌, sym, subst}
use Rattle.pearl_tree.specs.declared.rule.TheConstants as rule
use Rattle.pearl_tree.specs.declared.name.Name.{Name}
use Rattle.pearl_tree.specs.Faults.{fault_if}
use Rattle.pearl_tree.specs.Names.{name_text}
use Rattle.pearl_tree.specs.ShownExpressions.{ShownExprs, OfSubscripts}
use Rattle.pearl_names.specs.declared.scope.View.TheVariants.{Within, WhileOf}
use Rattle.pearl_names.specs.Tables.{Sense, BasicDation, Table, sense_from}
use Rattle.pearl_check_expr.specs.Judged.{judged_all}
use Rattle.pearl_check_expr.specs.Senses.{Callee, callee_of}
use Rattle.pearl_check_expr.specs.Standings.{faults_of}
use Rattle.pearl_check_expr.specs.Subjects.{ShownSubject, OfValue, OfWhile, OfTarget, OfCallStatement, called_or_not, subject_judged}
use Rattle.pearl_check.specs.Asked.{Asked, Subject, Named}
use Rattle.pearl_check.specs.Roles.{part_faults, role_faults, asked_faults}
use Rattle.pearl_sound.specs.KnownNames.{IsComplete, HaveNames}
use Rattle.pearl_sound.specs.KnownParts.{HasItsKind, IsKnownSense, IsKnown, SubjectHasNames, HasItsNames, AskedLiterals}
use Rattle.pearl_sound.proofs.KnownKinds.{one_fault, expr_known, target_known, first_well}
use Rattle.pearl_sound.proofs.SimpleStatements.{left_none, right_none}
use Rattle.pearl_sound.proofs.SoundParts.{some_one, callee_is}

sense_known : (sense : Sense) → IsComplete sense → IsKnownSense sense
sense_known (BasicDation direction kind) complete = complete
sense_known sense complete = tt

module _ (table : Table) (scope : ℕ) where
  -- a name that stands for no procedure breaks a rule
  call_known : (name : Name) (arguments : ShownExprs) (found : Option Sense) (given : Option Callee) →
      sense_from table (Within scope) (name_text name) ≡ found → callee_of found ≡ given → (sense : Sense) → found ≡ Some sense → IsComplete sense →
      HaveNames table (Within scope) arguments → (called_or_not table (Within scope) name arguments found given).faults ≡ [] →
      HasItsKind table scope (OfCallStatement name arguments)
  call_known name arguments found None there here sense is complete names none =
      one_fault _ [] (subst (λ s. fault_if (is_some s) name.place rule.S16 ≡ []) is
      (right_none (faults_of (judged_all table (Within scope) arguments)) (fault_if (is_some found) name.place rule.S16) none))
  call_known name arguments found (Some callee) there here sense is complete names none =
      let parts = subst IsComplete (some_one (sym is ∙ callee_is found callee here)) complete in (
        callee,
        ap callee_of there ∙ here,
        first_well table (Within scope) name callee (OfSubscripts arguments 0) parts.0 names none,
      )

  subject_known : (subject : ShownSubject) → SubjectHasNames table scope subject →
      (subject_judged table scope subject).faults ≡ [] → HasItsKind table scope subject
  subject_known (OfValue e) names none = expr_known table (Within scope) e names none
  subject_known (OfWhile e) names none = expr_known table (WhileOf scope) e names none
  subject_known (OfTarget target) names none = target_known table (Within scope) target names.0 names.1 none
  subject_known (OfCallStatement name arguments) names none =
      call_known name arguments (sense_from table (Within scope) (name_text name)) (callee_of (sense_from table (Within scope) (name_text name))) refl refl
      names.0.0 names.0.1 names.0.2 names.1 none

pub asked_known : (table : Table) (asked : Asked) → HasItsNames table asked → AskedLiterals table.lengths asked → asked_faults table asked ≡ [] →
    IsKnown table asked
asked_known table (Subject role scope subject) names literals none =
    (subject_known table scope subject names (left_none (part_faults table (Subject role scope subject)) (role_faults table (Subject role scope subject)) none), literals)
asked_known table (Named role scope name) names literals none = (names.0, names.1, sense_known names.0 names.2)

pub all_asked_known : (table : Table) (asked : List Asked) → AllByRecursion (HasItsNames table) asked →
    AllByRecursion (AskedLiterals table.lengths) asked → flat_map (asked_faults table) asked ≡ [] → AllByRecursion (IsKnown table) asked
all_asked_known table [] names literals none = tt
all_asked_known table (first ∷ rest) names literals none = (
  asked_known table first names.0 literals.0 (left_none (asked_faults table first) (flat_map (asked_faults table) rest) none),
  all_asked_known table rest names.1 literals.1 (right_none (asked_faults table first) (flat_map (asked_faults table) rest) none),
)
