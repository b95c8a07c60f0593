-- Small modules and their faults. Each stands between `MODULE(m);PROBLEM;` and `MODEND;`, so that its first byte is 18.
use Prim.Native.String.{String}
use Rattle.std.specs.Prelude.{◌≡◌, ℕ, false, true, List, [], ◌∷◌, Some, None, codes}
use Rattle.std.proofs.Common.{refl}
use Rattle.pearl_tree.specs.declared.fault.RuleFault.{RuleFault}
use Rattle.pearl_tree.specs.declared.rule.TheConstants as rule
use Rattle.pearl_tree.specs.declared.literal.Sign.TheVariants.{Plus}
use Rattle.pearl_tree.specs.declared.literal.Duration.TheVariants.{Hours}
use Rattle.pearl_tree.specs.declared.typing.Sort.TheVariants.{Fixed, Char}
use Rattle.pearl_tree.specs.declared.typing.Basic.TheVariants.{Sized, Duration}
use Rattle.pearl_tree.specs.declared.tree.TaskHead.TheVariants.{PrioFirst}
use Rattle.pearl_tree.specs.ShownLiterals.{OfText, OfDuration}
use Rattle.pearl_tree.specs.ShownExpressions.{ShownExpr, OfOperand, OfRef, NoSelectors}
use Rattle.pearl_tree.specs.ShownDeclarations.{OfOne, OfSeveral, OfBasic, OfStruct, OfNamed, NoFields, MoreFields, OfItem, OfSema}
use Rattle.pearl_tree.specs.ShownStatements.{ShownStmt, OfRepeat, NoStmts}
use Rattle.pearl_tree.specs.ShownModules.{ShownDecl, OfLength, OfType, OfDeclare, OfTask}
use Rattle.pearl_names.specs.Sorts.{sorted_names, names_of_scopes}
use Rattle.pearl_names.specs.FirstNames.{repeated}
use Rattle.pearl_names.proofs.Offered.{name, number, source, upto, between, fixed, item, declare, constant, tabled}
use Rattle.pearl_scope.specs.Rules.{broken, faults_in}

abbrev fault : ℕ → ℕ → RuleFault
fault place number = record { place = place; rule = number }

abbrev task : List ShownStmt → ShownDecl
task statements =
    OfTask (name "t" 18) (PrioFirst None false) (record { declarations = []; statements = statements; place = 25 }) 18

-- a name alone as an expression
abbrev named : String → ℕ → ShownExpr
named text place = OfOperand [] (OfRef (name text place) NoSelectors place) place

-- DCL (a,a) FIXED;
twice : broken (source (declare (item (OfSeveral (name "a" 23 ∷ name "a" 25 ∷ []) 22) [] (fixed 28) []) ∷ [])) ≡ fault 25 rule.S1 ∷ []
unfolding faults_in repeated names_of_scopes sorted_names
twice = refl

-- DCL x u;
undeclared : broken (source (declare (item (OfOne (name "x" 22)) [] (OfNamed (name "u" 24)) []) ∷ [])) ≡ fault 24 rule.S2 ∷ []
unfolding faults_in repeated names_of_scopes sorted_names
undeclared = refl

-- TYPE t STRUCT[a t];
names_itself :
    broken (source (OfType (name "t" 23)
    (OfStruct (MoreFields (OfOne (name "a" 32)) [] (OfNamed (name "t" 34)) 32 NoFields) 25) 18 ∷ [])) ≡ fault 34 rule.S3 ∷ []
unfolding faults_in repeated names_of_scopes sorted_names
names_itself = refl

-- DCL u FIXED,x u;
names_a_variable :
    broken (source (OfDeclare (OfItem (item (OfOne (name "u" 22)) [] (fixed 24) []) ∷
    OfItem (item (OfOne (name "x" 30)) [] (OfNamed (name "u" 32)) []) ∷ []) 18 ∷ [])) ≡ fault 32 rule.S3 ∷ []
unfolding faults_in repeated names_of_scopes sorted_names
names_a_variable = refl

-- LENGTH FIXED(64); sets nothing, LENGTH FIXED(3); makes 8 too great for x
lengths_hold :
    broken (source (OfLength Fixed (number 64 31) 18 ∷ OfLength Fixed (number 3 48) 35 ∷
    declare (item (OfOne (name "x" 55)) [] (fixed 57) (constant 8 68 ∷ [])) ∷ [])) ≡ fault 31 rule.S4 ∷ fault 68 rule.S7 ∷ []
unfolding faults_in repeated names_of_scopes sorted_names
lengths_hold = refl

-- DCL d DURATION INIT(305420 HRS); is above 2^40 milliseconds, and breaks S4 alone
too_long :
    broken (source (declare (item (OfOne (name "d" 22)) [] (OfBasic (Duration 24))
    (record { sign = None; literal = OfDuration (Hours (number 305420 38) None None 38); place = 38 } ∷ [])) ∷ [])) ≡ fault 38 rule.S4 ∷ []
unfolding faults_in repeated names_of_scopes sorted_names
too_long = refl

-- DCL a(0:3000000000) FIXED;
out_of_range :
    broken (source (declare (item (OfOne (name "a" 22)) (between 0 3000000000 24 ∷ []) (fixed 38) []) ∷ [])) ≡ fault 24 rule.S5 ∷ []
unfolding faults_in repeated names_of_scopes sorted_names
out_of_range = refl

-- DCL x STRUCT[n(70000) FIXED];
too_many_elements :
    broken (source (declare (item (OfOne (name "x" 22)) []
    (OfStruct (MoreFields (OfOne (name "n" 31)) (upto 70000 33 ∷ []) (fixed 40) 31 NoFields) 24) []) ∷ [])) ≡ fault 22 rule.S5 ∷ []
unfolding faults_in repeated names_of_scopes sorted_names
too_many_elements = refl

-- TYPE t STRUCT[n(1,1,1,1) FIXED]; has no leaves
type_has_no_leaves :
    broken (source (OfType (name "t" 23)
    (OfStruct (MoreFields (OfOne (name "n" 32)) (upto 1 34 ∷ upto 1 36 ∷ upto 1 38 ∷ upto 1 40 ∷ []) (fixed 43) 32 NoFields) 25) 18 ∷ [])) ≡ []
unfolding faults_in repeated names_of_scopes sorted_names
type_has_no_leaves = refl

-- DCL x STRUCT[(n,n) FIXED];
field_twice :
    broken (source (declare (item (OfOne (name "x" 22)) []
    (OfStruct (MoreFields (OfSeveral (name "n" 32 ∷ name "n" 34 ∷ []) 31) [] (fixed 37) 31 NoFields) 24) []) ∷ [])) ≡ fault 34 rule.S6 ∷ []
unfolding faults_in repeated names_of_scopes sorted_names
field_twice = refl

-- DCL a STRUCT[n FIXED,c CHAR] INIT(1); the last constant is repeated, also into the slot of c
repeated_constant :
    broken (source (declare (item (OfOne (name "a" 22)) []
    (OfStruct (MoreFields (OfOne (name "n" 31)) [] (fixed 33) 31
    (MoreFields (OfOne (name "c" 39)) [] (OfBasic (Sized Char None 41)) 39 NoFields)) 24) (constant 1 52 ∷ [])) ∷ [])) ≡ fault 52 rule.S7 ∷ []
unfolding faults_in repeated names_of_scopes sorted_names
repeated_constant = refl

-- DCL (a,b) FIXED INIT(1,2,3);
more_than_slots :
    broken (source (declare (item (OfSeveral (name "a" 23 ∷ name "b" 25 ∷ []) 22) [] (fixed 28)
    (constant 1 39 ∷ constant 2 41 ∷ constant 3 43 ∷ [])) ∷ [])) ≡ fault 43 rule.S7 ∷ []
unfolding faults_in repeated names_of_scopes sorted_names
more_than_slots = refl

-- DCL c CHAR INIT(+'a');
signed_text :
    broken (source (declare (item (OfOne (name "c" 22)) [] (OfBasic (Sized Char None 24))
    (record { sign = Some Plus; literal = OfText (codes "a") 35; place = 34 } ∷ [])) ∷ [])) ≡ fault 34 rule.S7 ∷ []
unfolding faults_in repeated names_of_scopes sorted_names
signed_text = refl

-- DCL k INV FIXED;
inv_without_init :
    broken (source (declare (record (item (OfOne (name "k" 22)) [] (fixed 28) []) { inv = true }) ∷ [])) ≡ fault 22 rule.S8 ∷ []
unfolding faults_in repeated names_of_scopes sorted_names
inv_without_init = refl

-- DCL (s,t) SEMA PRESET(1,2147483648,3);
presets :
    broken (source (OfDeclare (OfSema (record {
      names = OfSeveral (name "s" 23 ∷ name "t" 25 ∷ []) 22;
      preset = number 1 40 ∷ number 2147483648 42 ∷ number 3 53 ∷ [];
      place = 22;
    }) ∷ []) 18 ∷ [])) ≡ fault 42 rule.S9 ∷ fault 53 rule.S9 ∷ []
unfolding faults_in repeated names_of_scopes sorted_names
presets = refl

-- t:TASK;FOR i FROM i WHILE i REPEAT END;END; the control variable is not visible in FROM
control_variable :
    broken (source (task (OfRepeat (Some (name "i" 29)) (Some (named "i" 36)) None None (Some (named "i" 44)) [] NoStmts 53 25 ∷ []) ∷ [])) ≡ fault 36 rule.S2 ∷ []
unfolding faults_in repeated names_of_scopes sorted_names
control_variable = refl

-- t:TASK;WHILE j REPEAT DCL j FIXED;END;END; what the body declares is not visible in WHILE
body_variable :
    broken (source (task (OfRepeat None None None None (Some (named "j" 31))
    (record { items = item (OfOne (name "j" 44)) [] (fixed 46) [] ∷ []; place = 40 } ∷ []) NoStmts 40 25 ∷ []) ∷ [])) ≡ fault 31 rule.S2 ∷ []
unfolding faults_in repeated names_of_scopes sorted_names
body_variable = refl

-- a module of many sorts of names has no fault
sound : broken tabled ≡ []
unfolding faults_in repeated names_of_scopes sorted_names
sound = refl
