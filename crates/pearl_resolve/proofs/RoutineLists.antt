-- Tasks and procedures, one after the other.
use Rattle.std.proofs.Common.{◌≡◌, ℕ, ◌+◌, ◌<◌, ◌≤◌, Bool, Option, List, [], ◌∷◌, ◌++◌, length, map, drop, get_or, ap, ◌∙◌, append_assoc, arith}
use Rattle.std.specs.List.{sum_by}
use Rattle.std.proofs.lemmas.List.{drop_all, map-append}
use Rattle.std.proofs.lemmas.List.Sums.{sum_by-cons}
use Rattle.pearl_tree.specs.ShownModules.{ShownDecl}
use Rattle.pearl_value.specs.declared.kind.Kind.{Kind}
use Rattle.pearl_program.specs.PlainPrograms.{PlainRoutine, PlainTask, PlainProcedure, plain_task, plain_procedure}
use Rattle.pearl_resolve.specs.declared.routines.Routines.{Routines}
use Rattle.pearl_resolve.specs.Expressions.{Numbered}
use Rattle.pearl_resolve.specs.Holding.{AddsRoutines}
use Rattle.pearl_resolve.specs.Numbers.{At, after_decl}
use Rattle.pearl_resolve.specs.Resolve.{decl_tasks, decl_procedures, procedures_in, tasks_in}
use Rattle.pearl_resolve.proofs.PlainNodes.{one_left}

pub record GoingRoutines (of : Numbered) (here start : At) (made : Routines) (left all : List ShownDecl) : Type 0 where
  pub tasks : map plain_task made.tasks.items ++ tasks_in of here left ≡ tasks_in of start all
  pub procedures : map plain_procedure made.procedures.items ++ procedures_in of here left ≡ procedures_in of start all

pub routines_more : (of : Numbered) (here start next : At) (made new : Routines) (d : ShownDecl) (rest all : List ShownDecl) →
    GoingRoutines of here start made (d ∷ rest) all →
    AddsRoutines next made new (after_decl of.table here d) (decl_tasks of here d) (decl_procedures of here d) →
    GoingRoutines of next start new rest all
routines_more of here start next made new d rest all p g = record {
  tasks = (λ i. g.adds_tasks i ++ tasks_in of (g.goes i) rest) ∙ append_assoc (map plain_task made.tasks.items) (decl_tasks of here d) _ ∙ p.tasks;
  procedures = (λ i. g.adds_procedures i ++ procedures_in of (g.goes i) rest)
      ∙ append_assoc (map plain_procedure made.procedures.items) (decl_procedures of here d) _ ∙ p.procedures;
}

-- one element more that shows this
pub shown_push : {X Y : Type 0} (show : X → Y) (old new : List X) (x : X) (y : Y) → new ≡ old ++ x ∷ [] → show x ≡ y →
    map show new ≡ map show old ++ y ∷ []
shown_push show old new x y pushes is = ap (map show) pushes ∙ map-append show old (x ∷ []) ∙ ap (λ s. map show old ++ s ∷ []) is

pub task_with : (name : List ℕ) (priority : ℕ) (main : Bool) (one other : PlainRoutine) → one ≡ other →
    ◌≡◌ {A = PlainTask} (record { name = name; priority = priority; main = main; routine = one })
    (record { name = name; priority = priority; main = main; routine = other })
task_with name priority main one other is = λ i. record { name = name; priority = priority; main = main; routine = is i }

pub procedure_with : (params count : ℕ) (result kind : Option Kind) (one other : PlainRoutine) → params ≡ count → result ≡ kind → one ≡ other →
    ◌≡◌ {A = PlainProcedure} (record { params = params; result = result; routine = one }) (record { params = count; result = kind; routine = other })
procedure_with params count result kind one other counts same is = λ i. record { params = counts i; result = same i; routine = is i }

-- a sum over one part more
pub sum_more : {X S : Type 0} (show : X → S) (f : S → ℕ) (parts : List X) (i : ℕ) (part : X) (count next own total : ℕ) →
    i < length parts → part ≡ get_or parts i part → own ≡ f (show part) → next ≡ count + own →
    count + sum_by f (map show (drop i parts)) ≡ total → next + sum_by f (map show (drop (i + 1) parts)) ≡ total
sum_more show f parts i part count next own total inside is counts sums before =
    let rest = map show (drop (i + 1) parts) in
    let left : sum_by f (map show (drop i parts)) ≡ f (show part) + sum_by f rest =
    ap (λ l. sum_by f (map show l)) (one_left parts i part inside is) ∙ sum_by-cons f (show part) rest in
    omega (arith, left, counts, sums, before)

pub sum_all : {X S : Type 0} (show : X → S) (f : S → ℕ) (parts : List X) (i count total : ℕ) → length parts ≤ i →
    count + sum_by f (map show (drop i parts)) ≡ total → count ≡ total
sum_all show f parts i count total past before =
    let none : sum_by f (map show (drop i parts)) ≡ 0 = ap (λ l. sum_by f (map show l)) (drop_all i parts past) in
    omega (arith, none, before)
