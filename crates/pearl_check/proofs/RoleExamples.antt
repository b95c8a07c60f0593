-- Which kinds the parts of a statement may have, what may be a target, and which priorities a task may declare: S23, S25,
-- S29 and S30. Places are counted from the statement's first byte.
use Prim.Native.String.{String}
use Rattle.std.specs.Prelude.{◌≡◌, ℕ, ◌+◌, Bool, true, false, List, [], ◌∷◌, map, Option, Some, None}
use Rattle.std.proofs.Common.{refl}
use Rattle.pearl_value.specs.declared.kind.Kind.{Kind}
use Rattle.pearl_value.specs.declared.kind.Kind.TheVariants as kind
use Rattle.pearl_tree.specs.declared.fault.RuleFault.{RuleFault}
use Rattle.pearl_tree.specs.declared.format.Fmt.TheVariants.{Wide}
use Rattle.pearl_tree.specs.declared.format.WideCode.TheVariants.{F}
use Rattle.pearl_tree.specs.ShownExpressions.{ShownExpr}
use Rattle.pearl_tree.specs.ShownStatements.{ShownPeriod, ShownStart, OfAt, OfAfter, OfWhen, OfAll, ShownPeriodEnd, OfUntil, OfDuring, OnceAt, OnceAfter, ShownStmt, OfAssign, OfIf, OfCase, OfRepeat, OfBegin, OfActivate, OfContinue, OfResume, OfGet, OfTake, ShownStmts, NoStmts, MoreStmts, NoBranches, MoreBranches, NoOtherwise}
use Rattle.pearl_names.specs.Sorts.{sorted_names, names_of_scopes}
use Rattle.pearl_check.proofs.EachSort.{name, number, fault, reference, variable, literal, one, loop, locals, doing, with_each_kind, told}
use Rattle.pearl_check.specs.declared.asked.Role.TheVariants.{Plain, Condition, Count, Moment, Lapse, Priority}
use Rattle.pearl_check.specs.Roles.{is_for_role}
use Rattle.pearl_check.specs.Rules.{is_priority}
use Rattle.pearl_check.proofs.Broken.{broken}

-- of FIXED, BIT(1), BIT(2), CHAR, CLOCK and DURATION
abbrev only_fixed : List Bool
only_fixed = true ∷ false ∷ false ∷ false ∷ false ∷ false ∷ []

abbrev only_one_bit : List Bool
only_one_bit = false ∷ true ∷ false ∷ false ∷ false ∷ false ∷ []

abbrev only_clock : List Bool
only_clock = false ∷ false ∷ false ∷ false ∷ true ∷ false ∷ []

abbrev only_duration : List Bool
only_duration = false ∷ false ∷ false ∷ false ∷ false ∷ true ∷ []

abbrev kinds : List Kind
kinds = kind.Fixed 1 ∷ kind.Bits 1 ∷ kind.Bits 2 ∷ kind.Chars 1 ∷ kind.Clock ∷ kind.Span ∷ []

plain : map (is_for_role Plain) kinds ≡ true ∷ true ∷ true ∷ true ∷ true ∷ true ∷ []
plain = refl

condition : map (is_for_role Condition) kinds ≡ only_one_bit
condition = refl

count : map (is_for_role Count) kinds ≡ only_fixed
count = refl

moment : map (is_for_role Moment) kinds ≡ only_clock
moment = refl

lapse : map (is_for_role Lapse) kinds ≡ only_duration
lapse = refl

priority : map (is_for_role Priority) kinds ≡ only_fixed
priority = refl

-- PRIO 0, 1, 255 and 256 of a task
declared_priority : map is_priority (0 ∷ 1 ∷ 255 ∷ 256 ∷ []) ≡ false ∷ true ∷ true ∷ false ∷ []
declared_priority = refl

-- In what follows v is a variable of each kind.
-- IF v THEN FIN;
after_if : with_each_kind (λ v. OfIf (variable v 3) NoStmts NoOtherwise 0) ≡ told (fault 3 23) only_one_bit
unfolding names_of_scopes sorted_names
after_if = refl

-- WHILE v REPEAT END;
after_while : with_each_kind (λ v. loop None None None None (Some (variable v 6))) ≡ told (fault 6 23) only_one_bit
unfolding names_of_scopes sorted_names
after_while = refl

-- CASE v ALT FIN;
after_case : with_each_kind (λ v. OfCase (variable v 5) (MoreBranches NoStmts 7 NoBranches) NoOtherwise 0) ≡ told (fault 5 23) only_fixed
unfolding names_of_scopes sorted_names
after_case = refl

-- FROM v REPEAT END;
after_from : with_each_kind (λ v. loop None (Some (variable v 5)) None None None) ≡ told (fault 5 23) only_fixed
unfolding names_of_scopes sorted_names
after_from = refl

-- BY v REPEAT END;
after_by : with_each_kind (λ v. loop None None (Some (variable v 3)) None None) ≡ told (fault 3 23) only_fixed
unfolding names_of_scopes sorted_names
after_by = refl

-- TO v REPEAT END;
after_to : with_each_kind (λ v. loop None None None (Some (variable v 3)) None) ≡ told (fault 3 23) only_fixed
unfolding names_of_scopes sorted_names
after_to = refl

abbrev activate : ShownStart → ShownStmt
activate start = OfActivate (Some start) (name "t" 30) None 0

-- ALL duration, and perhaps an end
abbrev all : ShownExpr → Option ShownPeriodEnd → ShownPeriod
all duration end = record { duration = duration; end = end; place = 0 }

-- AT v ACTIVATE t;
after_at : with_each_kind (λ v. activate (OfAt (variable v 3) None 0)) ≡ told (fault 3 29) only_clock
unfolding names_of_scopes sorted_names
after_at = refl

-- AFTER v ACTIVATE t;
after_after : with_each_kind (λ v. activate (OfAfter (variable v 6) None 0)) ≡ told (fault 6 29) only_duration
unfolding names_of_scopes sorted_names
after_after = refl

-- WHEN i AFTER v ACTIVATE t;
after_when : with_each_kind (λ v. activate (OfWhen (name "i" 5) (Some (variable v 13)) None 0)) ≡ told (fault 13 29) only_duration
unfolding names_of_scopes sorted_names
after_when = refl

-- ALL v ACTIVATE t;
after_all : with_each_kind (λ v. activate (OfAll (all (variable v 4) None))) ≡ told (fault 4 29) only_duration
unfolding names_of_scopes sorted_names
after_all = refl

abbrev ends : ShownPeriodEnd → ShownStmt
ends end = activate (OfAll (all (variable "d" 4) (Some end)))

-- ALL d UNTIL v ACTIVATE t;
after_until : with_each_kind (λ v. ends (OfUntil (variable v 12) 6)) ≡ told (fault 12 29) only_clock
unfolding names_of_scopes sorted_names
after_until = refl

-- ALL d DURING v ACTIVATE t;
after_during : with_each_kind (λ v. ends (OfDuring (variable v 13) 6)) ≡ told (fault 13 29) only_duration
unfolding names_of_scopes sorted_names
after_during = refl

-- AT c ALL v ACTIVATE t;
at_and_all : with_each_kind (λ v. activate (OfAt (variable "c" 3) (Some (all (variable v 9) None)) 0)) ≡ told (fault 9 29) only_duration
unfolding names_of_scopes sorted_names
at_and_all = refl

-- ACTIVATE t PRIO v;
after_prio : with_each_kind (λ v. OfActivate None (name "t" 9) (Some (variable v 16)) 0) ≡ told (fault 16 29) only_fixed
unfolding names_of_scopes sorted_names
after_prio = refl

-- AT v CONTINUE t;
continue_at : with_each_kind (λ v. OfContinue (Some (OnceAt (variable v 3) 0)) (name "t" 14) 0) ≡ told (fault 3 29) only_clock
unfolding names_of_scopes sorted_names
continue_at = refl

-- AFTER v RESUME;
resume_after : with_each_kind (λ v. OfResume (OnceAfter (variable v 6) 0) 0) ≡ told (fault 6 29) only_duration
unfolding names_of_scopes sorted_names
resume_after = refl

-- with a variable, one that is INV, a parameter and a control variable
abbrev with_each_target : (String → ShownStmt) → List (List RuleFault)
with_each_target statement = map (λ text. broken (doing (statement text))) ("f" ∷ "k" ∷ "q" ∷ "n" ∷ [])

abbrev may_change : List Bool
may_change = true ∷ false ∷ true ∷ false ∷ []

-- In what follows v is each of these.
-- v:=1;
assigned : with_each_target (λ v. OfAssign (reference v 0) (literal 1 3) 0) ≡ told (fault 0 25) may_change
unfolding names_of_scopes sorted_names
assigned = refl

-- GET v FROM a BY F(3);
got : with_each_target (λ v. OfGet (reference v 4 ∷ []) (name "a" 11) (Wide F (number 3 18) 16 ∷ []) 0) ≡ told (fault 4 25) may_change
unfolding names_of_scopes sorted_names
got = refl

-- TAKE v FROM e;
taken : with_each_target (λ v. OfTake (reference v 5) (name "e" 12) 0) ≡ told (fault 5 25) may_change
unfolding names_of_scopes sorted_names
taken = refl

-- the text as the target of 1, at this place
abbrev changed : String → ℕ → ShownStmts
changed text place = MoreStmts (OfAssign (reference text place) (literal 1 (place + 3)) place) NoStmts

-- FOR k REPEAT k:=1;END; where the constant k is hidden
hidden_constant : broken (doing (OfRepeat (Some (name "k" 4)) None None None None [] (changed "k" 13) 13 0)) ≡ fault 13 25 ∷ []
unfolding names_of_scopes sorted_names
hidden_constant = refl

-- BEGIN DCL n FIXED;n:=1;END; where the control variable n is hidden
hidden_control : broken (doing (OfBegin (locals (one "n") []) (changed "n" 18) 6 0)) ≡ []
unfolding names_of_scopes sorted_names
hidden_control = refl

-- IF z THEN FIN; AT z ACTIVATE t; z:=1; where z isn't declared, and so has no kind
abbrev with_unknown : List ShownStmt
with_unknown =
    OfIf (variable "z" 3) NoStmts NoOtherwise 0 ∷ activate (OfAt (variable "z" 3) None 0) ∷
    OfAssign (reference "z" 0) (literal 1 3) 0 ∷ []

unknown : map (λ statement. broken (doing statement)) with_unknown ≡ [] ∷ [] ∷ [] ∷ []
unfolding names_of_scopes sorted_names
unknown = refl
