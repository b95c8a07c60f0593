-- Two of each sort of names, each with a number of its own.
use Prim.Native.String.{String}
use Rattle.std.specs.Prelude.{◌≡◌, ℕ, false, List, [], ◌∷◌, None, codes}
use Rattle.std.proofs.Common.{refl}
use Rattle.pearl_tree.specs.declared.name.Name.{Name}
use Rattle.pearl_tree.specs.declared.typing.Bound.{Bound}
use Rattle.pearl_tree.specs.declared.tree.TaskHead.TheVariants.{PrioFirst}
use Rattle.pearl_tree.specs.ShownDeclarations.{OfOne, ShownTyping, OfBasic, OfStruct, NoFields, MoreFields, OfSema}
use Rattle.pearl_tree.specs.ShownStatements.{ShownBodyDecl, ShownStmt, OfBegin, NoStmts}
use Rattle.pearl_tree.specs.ShownModules.{ShownDecl, OfDeclare, OfTask, ShownTree}
use Rattle.pearl_names.specs.Sorts.{sorted_names, names_of_scopes}
use Rattle.pearl_names.specs.Tables.{table_of}
use Rattle.pearl_resolve.specs.Numbers.{numbers_of}
use Rattle.pearl_resolve.proofs.Offered.{source, variable, item, fixed}

abbrev name : String → Name
name text = record { text = record { items = codes text }; place = 0 }

-- STRUCT[f FIXED,g FIXED]
abbrev pair : ShownTyping
pair = OfStruct (MoreFields (OfOne (name "f")) [] (OfBasic fixed) 0 (MoreFields (OfOne (name "g")) [] (OfBasic fixed) 0 NoFields)) 0

abbrev upto : ℕ → Bound
upto value =
    record { first = record { minus = false; number = record { value = value; place = 0 }; place = 0 }; second = None; place = 0 }

abbrev semaphore : String → ShownDecl
semaphore text = OfDeclare (OfSema (record { names = OfOne (name text); preset = []; place = 0 }) ∷ []) 0

abbrev local : String → List Bound → ShownTyping → ShownBodyDecl
local text bounds part = record { items = item text bounds part [] ∷ []; place = 0 }

abbrev task : String → List ShownBodyDecl → List ShownStmt → ShownDecl
task text declarations statements =
    OfTask (name text) (PrioFirst None false) (record { declarations = declarations; statements = statements; place = 0 }) 0

-- DCL x STRUCT[f FIXED,g FIXED];DCL y FIXED;DCL r SEMA;DCL s SEMA;
-- t:TASK;DCL u(3) FIXED;DCL v FIXED;BEGIN DCL w FIXED;END;END;z:TASK;END;
abbrev twice : ShownTree
twice = source (variable (item "x" [] pair []) ∷ variable (item "y" [] (OfBasic fixed) []) ∷ semaphore "r" ∷ semaphore "s" ∷
    task "t" (local "u" (upto 3 ∷ []) (OfBasic fixed) ∷ local "v" [] (OfBasic fixed) ∷ [])
    (OfBegin (local "w" [] (OfBasic fixed) ∷ []) NoStmts 0 0 ∷ []) ∷ task "z" [] [] ∷ [])

-- x has the leaves 0 and 1, u the cells 0 to 2
numbered : numbers_of (table_of twice) [] [] twice ≡ (0 ∷ 2 ∷ 0 ∷ 1 ∷ 0 ∷ 1 ∷ []) ∷ (0 ∷ 3 ∷ []) ∷ (4 ∷ []) ∷ [] ∷ []
unfolding names_of_scopes sorted_names
numbered = refl
