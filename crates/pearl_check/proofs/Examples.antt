-- Small modules and what they break. Each stands between `MODULE(m);PROBLEM;` and `MODEND;`, so that its first byte is 18.
use Prim.Native.String.{String}
use Rattle.std.specs.Prelude.{◌≡◌, ℕ, ◌+◌, false, true, List, [], ◌∷◌, Some, None, codes}
use Rattle.std.proofs.Common.{refl}
use Rattle.pearl_value.specs.declared.kind.Kind.TheVariants as kind
use Rattle.pearl_tree.specs.declared.fault.RuleFault.{RuleFault}
use Rattle.pearl_tree.specs.declared.format.Fmt.TheVariants.{Free, Wide}
use Rattle.pearl_tree.specs.declared.format.FreeCode.TheVariants.{B3, X}
use Rattle.pearl_tree.specs.declared.format.WideCode.TheVariants.{F, T}
use Rattle.pearl_tree.specs.declared.name.Name.{Name}
use Rattle.pearl_tree.specs.declared.name.Number.{Number}
use Rattle.pearl_tree.specs.declared.tree.TaskHead.TheVariants.{PrioFirst}
use Rattle.pearl_tree.specs.declared.typing.Basic.TheVariants.{Sized}
use Rattle.pearl_tree.specs.declared.typing.Sort.TheVariants.{Char}
use Rattle.pearl_tree.specs.ShownLiterals.{OfText}
use Rattle.pearl_tree.specs.ShownExpressions.{OfOperand, OfLiteral, NoSelectors}
use Rattle.pearl_tree.specs.ShownDeclarations.{OfOne, OfBasic, OfItem}
use Rattle.pearl_tree.specs.ShownStatements.{ShownStmt, OfAssign, OfCall, OfRepeat, OfExit, OfReturn, NoStmts, MoreStmts}
use Rattle.pearl_tree.specs.ShownModules.{ShownDecl, OfDeclare, OfTask, OfProc, ShownTree}
use Rattle.pearl_scope.specs.Rules.{faults_in}
use Rattle.pearl_names.specs.FirstNames.{repeated}
use Rattle.pearl_names.specs.Sorts.{sorted_names, names_of_scopes}
use Rattle.pearl_check.specs.Formats.{format_faults}
use Rattle.pearl_check.proofs.Broken.{broken}
use Rattle.pearl_check.specs.Rules.{all_broken, first}

abbrev name : String → ℕ → Name
name text place = record { text = record { items = codes text }; place = place }

abbrev number : ℕ → ℕ → Number
number value place = record { value = value; place = place }

abbrev fault : ℕ → ℕ → RuleFault
fault place rule = record { place = place; rule = rule }

abbrev source : List ShownDecl → ShownTree
source declarations =
    record { name = None; system = None; declarations = declarations; modend = 0; semicolon = true; place = 0 }

abbrev task : ℕ → List ShownStmt → ShownDecl
task place statements =
    OfTask (name "t" place) (PrioFirst None false) (record { declarations = []; statements = statements; place = place + 7 }) place

abbrev procedure : String → ℕ → List ShownStmt → ShownDecl
procedure text place statements =
    OfProc (name text place) [] None (record { declarations = []; statements = statements; place = place + 7 }) place

abbrev call : String → ℕ → ShownStmt
call text place = OfCall true (name text (place + 5)) [] place

-- t:TASK;EXIT;END;
no_loop : broken (source (task 18 (OfExit 25 ∷ []) ∷ [])) ≡ fault 25 26 ∷ []
unfolding faults_in names_of_scopes sorted_names
no_loop = refl

-- t:TASK;REPEAT EXIT;END;END;
a_loop : broken (source (task 18 (OfRepeat None None None None None [] (MoreStmts (OfExit 32) NoStmts) 32 25 ∷ []) ∷ [])) ≡ []
unfolding faults_in names_of_scopes sorted_names
a_loop = refl

-- t:TASK;RETURN;END;
returning : broken (source (task 18 (OfReturn None 25 ∷ []) ∷ [])) ≡ fault 25 27 ∷ []
unfolding faults_in names_of_scopes sorted_names
returning = refl

-- t:TASK PRIO 0;END;
too_urgent : broken (source (OfTask (name "t" 18) (PrioFirst (Some (record { number = number 0 30; place = 25 })) false)
    (record { declarations = []; statements = []; place = 32 }) 18 ∷ [])) ≡ fault 30 30 ∷ []
unfolding faults_in names_of_scopes sorted_names
too_urgent = refl

-- p:PROC;CALL q;END;q:PROC;CALL p;END;
each_other : broken (source (procedure "p" 18 (call "q" 25 ∷ []) ∷ procedure "q" 36 (call "p" 43 ∷ []) ∷ [])) ≡ fault 18 28 ∷ fault 36 28 ∷ []
unfolding faults_in names_of_scopes sorted_names
each_other = refl

-- t:TASK;CALL p;END;p:PROC;END;
another : broken (source (task 18 (call "p" 25 ∷ []) ∷ procedure "p" 36 [] ∷ [])) ≡ []
unfolding faults_in names_of_scopes sorted_names
another = refl

-- DCL c CHAR(3);t:TASK;c:='abcde';END;, or another text
abbrev assigned : String → ShownTree
assigned text = source
    (OfDeclare (OfItem (record { names = OfOne (name "c" 22); bounds = []; inv = false; part = OfBasic (Sized Char (Some (number 3 29)) 24); init = []; place = 22 }) ∷ []) 18 ∷
    task 32 (OfAssign (record { name = name "c" 39; selectors = NoSelectors; place = 39 }) (OfOperand [] (OfLiteral (OfText (codes text) 42)) 42) 39 ∷ []) ∷ [])

too_long : first (all_broken (assigned "abcde")) ≡ Some (fault 39 24)
unfolding faults_in names_of_scopes sorted_names repeated
too_long = refl

short : first (all_broken (assigned "ab")) ≡ None
unfolding faults_in names_of_scopes sorted_names repeated
short = refl

-- F(0)
no_width : format_faults 7 (Wide F (number 0 31) 29 ∷ []) (Some (kind.Fixed 31) ∷ []) ≡ fault 29 33 ∷ []
no_width = refl

-- T(8) for DURATION
no_clock : format_faults 7 (Wide T (number 8 31) 29 ∷ []) (Some kind.Span ∷ []) ≡ fault 29 33 ∷ []
no_clock = refl

-- B3,X(255),X(255),X(255),X(255),X(n), over seven bits: three digits
abbrev blanks : ℕ → List RuleFault
blanks n = format_faults 7
    (Free B3 None 29 ∷ Free X (Some (number 255 34)) 32 ∷ Free X (Some (number 255 41)) 39 ∷ Free X (Some (number 255 48)) 46 ∷
    Free X (Some (number 255 55)) 53 ∷ Free X (Some (number n 62)) 60 ∷ []) (Some (kind.Bits 7) ∷ [])

wide_enough : blanks 1 ≡ []
wide_enough = refl

too_wide : blanks 2 ≡ fault 7 33 ∷ []
too_wide = refl
