-- In a loop within a loop, and in the condition of its WHILE, names lead to what is there:
-- t:TASK;FOR i TO 2 REPEAT FOR j TO 3 WHILE j<i REPEAT DCL k FIXED;END;END;END;
use Rattle.std.specs.Prelude.{◌≡◌, Bool, true, false, if◌then◌else◌, [], ◌∷◌, List, Option, Some, None, option_map, suc, codes}
use Rattle.std.specs.Option.{option_and_then}
use Rattle.std.specs.Str.{bytes_eq}
use Rattle.std.proofs.Common.{inl, refl, arith}
use Rattle.pearl_value.specs.declared.operator.Dyad.TheVariants.{Lt}
use Rattle.pearl_tree.specs.declared.tree.TaskHead.TheVariants.{PrioFirst}
use Rattle.pearl_tree.specs.Names.{name_text}
use Rattle.pearl_tree.specs.ShownExpressions.{OfDyadic, NoSelectors}
use Rattle.pearl_tree.specs.ShownDeclarations.{OfBasic}
use Rattle.pearl_tree.specs.ShownStatements as shown
use Rattle.pearl_tree.specs.ShownStatements.{ShownStmt}
use Rattle.pearl_tree.specs.ShownModules.{OfTask, ShownTree}
use Rattle.pearl_names.specs.declared.meaning.Found.{Found}
use Rattle.pearl_names.specs.declared.scope.View.TheVariants.{Within, WhileOf}
use Rattle.pearl_names.specs.Found.{found_in}
use Rattle.pearl_names.specs.Sorts.{sorted_names, names_of_scopes}
use Rattle.pearl_names.specs.Tables.{table_of}
use Rattle.pearl_program.specs.declared.expression.Target.TheVariants.{Own}
use Rattle.pearl_program.specs.PlainExpressions.{OfRead}
use Rattle.pearl_program.specs.PlainExpressions as plain
use Rattle.pearl_program.specs.PlainStatements.{PlainCounter, OfRenew, OfRepeat, NoStmts, MoreStmts}
use Rattle.pearl_program.specs.PlainPrograms.{PlainRoutine, PlainTask, PlainProg}
use Rattle.pearl_program.specs.Typing.{Around}
use Rattle.pearl_program.specs.SoundStatements.{IsIf, within}
use Rattle.pearl_program.specs.Sound.{around_of}
use Rattle.pearl_program.proofs.Offered.{short, number, alone}
use Rattle.pearl_resolve.specs.Expressions.{Numbered, meant_at}
use Rattle.pearl_resolve.specs.Resolve.{numbered_of, resolve}
use Rattle.pearl_resolve.proofs.Offered.{source, item, fixed}
use Rattle.pearl_sound.specs.SoundNames.{LeadNames}
use Rattle.pearl_sound.proofs.Leading.{Leads, lead_all, reaches}
use Rattle.pearl_sound.proofs.WholeModule.{name, literal, read}

abbrev inner_loop : ShownStmt
inner_loop = shown.OfRepeat (Some (name "j")) None None (Some (literal 3))
    (Some (OfDyadic (read "j" NoSelectors) (record { operator = Lt; place = 0 }) (read "i" NoSelectors) 0))
    (record { items = item "k" [] (OfBasic fixed) [] ∷ []; place = 0 } ∷ []) shown.NoStmts 0 0

abbrev outer_loop : ShownStmt
outer_loop = shown.OfRepeat (Some (name "i")) None None (Some (literal 2)) None [] (shown.MoreStmts inner_loop shown.NoStmts) 0 0

abbrev loops : ShownTree
loops = source (OfTask (name "t") (PrioFirst None false) (record { declarations = []; statements = outer_loop ∷ []; place = 0 }) 0 ∷ [])

abbrev numbered : Numbered
numbered = numbered_of (table_of loops) [] [] loops

abbrev program : PlainProg
program = resolve (table_of loops) [] [] loops

abbrev first_routine : List PlainTask → PlainRoutine
first_routine [] = record { cells = []; body = NoStmts }
first_routine (task ∷ rest) = task.routine

abbrev routine : PlainRoutine
routine = first_routine program.tasks

-- the cells 0 to 2
abbrev outer : PlainCounter
outer = record { cell = 0; begin = None; step = None; end = Some (number 2) }

-- the cells 3 to 5; k has the cell 6
abbrev inner : PlainCounter
inner = record { cell = 3; begin = None; step = None; end = Some (number 3) }

body_is : routine.body ≡ MoreStmts (OfRepeat (Some outer) None (MoreStmts (OfRepeat (Some inner)
    (Some (plain.OfDyadic Lt (OfRead (alone 3)) (OfRead (alone 0))))
    (MoreStmts (OfRenew 6 (record { kind = short; count = 1; constants = [] })) NoStmts)) NoStmts)) NoStmts
unfolding names_of_scopes sorted_names
body_is = refl

-- around the condition and the body of the inner loop
abbrev around : Around
around = within (within (around_of program routine None) (Some outer)) (Some inner)

abbrev task_if : Bool → Option Found
task_if t = found_in 0 (if t then Some 0 else option_map suc None) None

outer_leads : (i t : Bool) →
    IsIf (Leads around) (option_and_then (meant_at numbered) (found_in 2 (if i then Some 0 else option_map suc None) (task_if t)))
unfolding names_of_scopes sorted_names
outer_leads true t = reaches around true (Own 0) [] short (record { sound = tt; end = (omega arith, (refl, refl)) })
outer_leads false true = omega arith
outer_leads false false = tt

inner_leads : (j k i t : Bool) → IsIf (Leads around) (option_and_then (meant_at numbered)
    (found_in 3 (if j then Some 0 else option_map suc (if k then Some 0 else option_map suc None))
    (found_in 2 (if i then Some 0 else option_map suc None) (task_if t))))
unfolding names_of_scopes sorted_names
inner_leads true k i t = reaches around true (Own 3) [] short (record { sound = tt; end = (omega arith, (refl, refl)) })
inner_leads false true i t = reaches around false (Own 6) [] short (record {
  sound = tt;
  end = (
    omega arith,
    (refl, (inl (omega arith), (inl (omega arith), (inl (omega arith), (inl (omega arith), (inl (omega arith), (inl (omega arith), tt))))))),
  );
})
inner_leads false false true t = outer_leads true t
inner_leads false false false true = outer_leads false true
inner_leads false false false false = tt

in_body : LeadNames numbered (Within 3) around
unfolding names_of_scopes sorted_names
in_body = lead_all numbered (Within 3) around (λ name. inner_leads (bytes_eq (name_text name) (codes "j"))
    (bytes_eq (name_text name) (codes "k")) (bytes_eq (name_text name) (codes "i")) (bytes_eq (name_text name) (codes "t")))

-- WHILE doesn't see k
condition_leads : (j i t : Bool) → IsIf (Leads around) (option_and_then (meant_at numbered)
    (if j then Some (record { scope = 3; entry = 0 }) else found_in 2 (if i then Some 0 else option_map suc None) (task_if t)))
unfolding names_of_scopes sorted_names
condition_leads true i t = reaches around true (Own 3) [] short (record { sound = tt; end = (omega arith, (refl, refl)) })
condition_leads false true t = outer_leads true t
condition_leads false false true = outer_leads false true
condition_leads false false false = tt

in_condition : LeadNames numbered (WhileOf 3) around
unfolding names_of_scopes sorted_names
in_condition = lead_all numbered (WhileOf 3) around (λ name. condition_leads (bytes_eq (codes "j") (name_text name))
    (bytes_eq (name_text name) (codes "i")) (bytes_eq (name_text name) (codes "t")))
