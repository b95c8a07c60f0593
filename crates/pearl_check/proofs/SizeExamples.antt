-- Sizes at their limits, and what cells and needs are counted: S34.
use Rattle.std.specs.Prelude.{◌≡◌, ℕ, zero, suc, pos, true, false, List, [], ◌∷◌, ◌++◌, map, replicate, Some, None}
use Rattle.std.specs.List.{flat_map}
use Rattle.std.proofs.Common.{refl}
use Rattle.pearl_value.specs.declared.kind.Kind.TheVariants as kind
use Rattle.pearl_value.specs.declared.operator.Dyad.TheVariants.{Add}
use Rattle.pearl_tree.specs.declared.expression.Side.TheVariants.{Lower}
use Rattle.pearl_tree.specs.declared.fault.RuleFault.{RuleFault}
use Rattle.pearl_tree.specs.declared.format.Fmt.TheVariants.{Wide}
use Rattle.pearl_tree.specs.declared.format.WideCode.TheVariants.{F}
use Rattle.pearl_tree.specs.declared.typing.Bound.{Bound}
use Rattle.pearl_tree.specs.declared.statement.SemaWord.TheVariants.{Request}
use Rattle.pearl_tree.specs.ShownExpressions.{ShownExpr, OfOperand, OfDyadic, ShownPrimary, OfRef, OfGroup, OfNow, OfTry, OfLimit, ShownSelectors, NoSelectors, MoreSelectors, OfSubscripts, OfComponent, NoExprs, MoreExprs}
use Rattle.pearl_tree.specs.ShownDeclarations.{OfItem}
use Rattle.pearl_tree.specs.ShownStatements.{ShownStmt, OfAssign, OfCall, OfIf, OfRepeat, OfBegin, OfReturn, OfOnSemas, OfGet, NoStmts, MoreStmts, NoOtherwise}
use Rattle.pearl_tree.specs.ShownModules.{ShownTree, OfDeclare}
use Rattle.pearl_names.specs.Shapes.{Shape, OfKind, OfFields, NoField, MoreField}
use Rattle.pearl_names.specs.Sorts.{sorted_names, names_of_scopes}
use Rattle.pearl_names.specs.Tables.{Sense, Variable, Semaphore, Task, Procedure, table_of}
use Rattle.pearl_check.proofs.EachSort.{name, number, fault, reference, variable, literal, one, item, fixed, loop, locals, task, procedure, parameter, source}
use Rattle.pearl_check.specs.Routines.{Routine, routines_of, statements_of}
use Rattle.pearl_check.specs.Calls.{Weighed}
use Rattle.pearl_check.proofs.Broken.{broken}
use Rattle.pearl_check.specs.Sizes.{Declared, counted_sizes, hidden_cells, cells_of, need, overweight, weights}

abbrev declared : Sense → ℕ → Declared
declared sense place = record { name = name "v" place; sense = sense }

-- so many names at the place 1, and one each at 2 and 3
abbrev beyond : ℕ → Sense → List Declared
beyond n sense = replicate n (declared sense 1) ++ declared sense 2 ∷ declared sense 3 ∷ []

tasks_enough : counted_sizes (replicate 200 (declared Task 1)) ≡ []
tasks_enough = refl

tasks_beyond : counted_sizes (beyond 200 Task) ≡ fault 2 34 ∷ []
tasks_beyond = refl

procedures_enough : counted_sizes (replicate 200 (declared (Procedure [] None) 1)) ≡ []
procedures_enough = refl

procedures_beyond : counted_sizes (beyond 200 (Procedure [] None)) ≡ fault 2 34 ∷ []
procedures_beyond = refl

semaphores_enough : counted_sizes (replicate 1000 (declared Semaphore 1)) ≡ []
semaphores_enough = refl

semaphores_beyond : counted_sizes (beyond 1000 Semaphore) ≡ fault 2 34 ∷ []
semaphores_beyond = refl

-- of each so many as there may be
abbrev most : List Declared
most =
    replicate 200 (declared Task 1) ++
    (replicate 200 (declared (Procedure [] None) 2) ++ replicate 1000 (declared Semaphore 3))

all_enough : counted_sizes most ≡ []
all_enough = refl

-- elements from 1 to n
abbrev array : ℕ → Sense
array n = Variable (Some (record { bounds = (pos 1, pos n) ∷ []; shape = OfKind (kind.Fixed 31) })) false

-- the second and the third have the 65,536th and the 65,537th slot
slots_enough : counted_sizes (declared (array 65535) 1 ∷ declared (array 1) 2 ∷ []) ≡ []
slots_enough = refl

slots_beyond : counted_sizes (declared (array 65535) 1 ∷ declared (array 1) 2 ∷ declared (array 1) 3 ∷ declared (array 2) 4 ∷ []) ≡
    fault 3 34 ∷ []
slots_beyond = refl

-- within so many structures, each with one field of 63 bytes
abbrev nested : ℕ → Shape → Shape
nested zero shape = shape
nested (suc depth) shape = OfFields (MoreField (replicate 63 97) [] (nested depth shape) NoField)

-- a variable of 10 bytes with one leaf, the name of which has 10 + 15 * 64 + 1 + n bytes
abbrev deep : ℕ → Declared
deep n = record {
  name = name "abcdefghij" 1;
  sense = Variable (Some (record {
    bounds = [];
    shape = nested 15 (OfFields (MoreField (replicate n 97) [] (OfKind kind.Clock) NoField));
  })) false;
}

name_enough : counted_sizes (deep 53 ∷ []) ≡ []
name_enough = refl

name_beyond : counted_sizes (deep 54 ∷ []) ≡ fault 1 34 ∷ []
name_beyond = refl

abbrev sum : ShownExpr → ShownExpr → ShownExpr
sum left right = OfDyadic left (record { operator = Add; place = 0 }) right 0

abbrev primary : ShownPrimary → ShownExpr
primary part = OfOperand [] part 0

abbrev up_to : ℕ → List Bound
up_to n = record { first = record { minus = false; number = number n 0; place = 0 }; second = None; place = 0 } ∷ []

-- FOR n, FROM 1, BY 1 and TO 1, each alone, and all of them with WHILE
abbrev counting : List ShownStmt
counting =
    loop (Some (name "n" 0)) None None None None ∷ loop None (Some (literal 1 0)) None None None ∷
    loop None None (Some (literal 1 0)) None None ∷ loop None None None (Some (literal 1 0)) None ∷
    loop (Some (name "n" 0)) (Some (literal 1 0)) (Some (literal 1 0)) (Some (literal 1 0)) (Some (variable "b" 0)) ∷ []

counting_loops : map hidden_cells counting ≡ replicate 5 3
counting_loops = refl

-- REPEAT END; and WHILE b REPEAT END;
other_loops : map hidden_cells (loop None None None None None ∷ loop None None None None (Some (variable "b" 0)) ∷ []) ≡ 0 ∷ 0 ∷ []
other_loops = refl

-- GET v,v,v FROM a BY ..
targets : hidden_cells (OfGet (replicate 3 (reference "v" 0)) (name "a" 0) [] 0) ≡ 6
targets = refl

-- FOR n TO 3 REPEAT DCL x(10) FIXED;END;BEGIN DCL z(20) FIXED;GET v FROM a BY F(3);END;
abbrev two_bodies : List ShownStmt
two_bodies =
    OfRepeat (Some (name "n" 0)) None None (Some (literal 3 0)) None (locals (one "x") (up_to 10)) NoStmts 0 0 ∷
    OfBegin (locals (one "z") (up_to 20))
    (MoreStmts (OfGet (reference "v" 0 ∷ []) (name "a" 0) (Wide F (number 3 0) 0 ∷ []) 0) NoStmts) 0 0 ∷ []

-- DCL g(7) FIXED;p:PROC(q FIXED);DCL u(3) FIXED;END;t:TASK;DCL v FIXED; these bodies END;r:PROC;DCL h(5) FIXED;END;
abbrev three_routines : ShownTree
three_routines = source
    (OfDeclare (OfItem (item (one "g") (up_to 7) fixed) ∷ []) 0 ∷
    procedure (name "p" 0) (parameter "q" ∷ []) (item (one "u") (up_to 3) fixed ∷ []) [] ∷
    task (name "t" 0) (item (one "v") [] fixed ∷ []) two_bodies ∷
    procedure (name "r" 0) [] (item (one "h") (up_to 5) fixed ∷ []) [] ∷ [])

-- 1 + 3 in p, 1 + 3 + 10 + 20 + 2 in t
counted_cells : map (cells_of (table_of three_routines)) (routines_of three_routines) ≡ 4 ∷ 36 ∷ 5 ∷ []
unfolding names_of_scopes sorted_names
counted_cells = refl

-- the needs of the statements of a task
abbrev needs : List ShownStmt → List ℕ
needs statements =
    flat_map (λ (routine : Routine). map need (statements_of routine)) (routines_of (source (task (name "t" 0) [] statements ∷ [])))

abbrev assign : ShownExpr → ShownStmt
assign expr = OfAssign (reference "f" 0) expr 0

-- RETURN; REQUEST s; f:=1; f:=f+NOW; f:=TRY s; f:=2 LWB u; f:=(f);
few_needs : needs
    (OfReturn None 0 ∷ OfOnSemas Request (name "s" 0 ∷ []) 0 ∷ assign (literal 1 0) ∷
    assign (sum (variable "f" 0) (primary (OfNow 0))) ∷ assign (primary (OfTry (name "s" 0) 0)) ∷
    assign (primary (OfLimit (Some (number 2 0)) Lower (name "u" 0) NoSelectors 0 0)) ∷
    assign (primary (OfGroup (variable "f" 0) 0)) ∷ []) ≡ 2 ∷ 2 ∷ 3 ∷ 4 ∷ 4 ∷ 4 ∷ 3 ∷ []
few_needs = refl

abbrev subscript : ShownExpr → ShownSelectors
subscript expr = MoreSelectors (OfSubscripts (MoreExprs expr NoExprs) 0) NoSelectors

-- f:=u(f+1); u(f):=1; f:=y.g; CALL p(f,1);
more_needs : needs
    (assign (primary (OfRef (name "u" 0) (subscript (sum (variable "f" 0) (literal 1 0))) 0)) ∷
    OfAssign (record { name = name "u" 0; selectors = subscript (variable "f" 0); place = 0 }) (literal 1 0) 0 ∷
    assign (primary (OfRef (name "y" 0) (MoreSelectors (OfComponent (name "g" 0) 0) NoSelectors) 0)) ∷
    OfCall true (name "p" 0) (variable "f" 0 ∷ literal 1 0 ∷ []) 0 ∷ []) ≡ 5 ∷ 4 ∷ 3 ∷ 4 ∷ []
more_needs = refl

abbrev doubled : ShownExpr
doubled = sum (variable "f" 0) (variable "f" 0)

-- IF b THEN f:=f+f;FIN; and FROM 1 BY f TO f+f WHILE b REPEAT RETURN;END;
needs_around : needs
    (OfIf (variable "b" 0) (MoreStmts (assign doubled) NoStmts) NoOtherwise 0 ∷
    OfRepeat None (Some (literal 1 0)) (Some (variable "f" 0)) (Some doubled) (Some (variable "b" 0)) []
    (MoreStmts (OfReturn None 0) NoStmts) 0 0 ∷ []) ≡ 3 ∷ 4 ∷ 7 ∷ 2 ∷ []
needs_around = refl

abbrev weighed : ℕ → List ℕ → Weighed
weighed own calls = record { name = name "p" 1; caller = record { own = own; calls = calls } }

weight_enough : overweight [] (weighed 4096 []) ≡ []
weight_enough = refl

weight_beyond : overweight [] (weighed 4097 []) ≡ fault 1 34 ∷ []
weight_beyond = refl

-- where S28 is broken, weights aren't asked
no_weight : weights (fault 7 28 ∷ []) (weighed 4097 [] ∷ []) [] ≡ []
no_weight = refl

-- p:PROC;DCL u(n) FIXED;END;t:TASK;CALL p;END; with p at the place 1 and t at 2
abbrev calling : ℕ → List RuleFault
calling n = broken (source
    (procedure (name "p" 1) [] (item (one "u") (up_to n) fixed ∷ []) [] ∷
    task (name "t" 2) [] (OfCall true (name "p" 0) [] 0 ∷ []) ∷ []))

-- 2 for CALL, 2 in the procedure
called_enough : calling 4092 ≡ []
unfolding names_of_scopes sorted_names
called_enough = refl

called_beyond : calling 4093 ≡ fault 2 34 ∷ []
unfolding names_of_scopes sorted_names
called_beyond = refl

both_beyond : calling 4095 ≡ fault 1 34 ∷ fault 2 34 ∷ []
unfolding names_of_scopes sorted_names
both_beyond = refl
