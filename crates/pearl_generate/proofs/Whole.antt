-- An object with a program's tables and routines is one that the program becomes.
use Rattle.std.proofs.Common.{◌≡◌, ℕ, suc, ◌+◌, List, [], ◌∷◌, ◌++◌, length, map, Option, Some, None, slice_get, option_map, refl, sym, ap, ◌∙◌, subst, arith}
use Rattle.std.specs.Prelude.{IfSome}
use Rattle.std.specs.List.{AllZip}
use Rattle.std.proofs.lemmas.List.{length-map}
use Rattle.std.proofs.lemmas.Option.{none-some, slice_get-map}
use Rattle.pearl_value.specs.declared.kind.Kind.{Kind}
use Rattle.pearl_program.specs.declared.program.Program.{Program}
use Rattle.pearl_program.specs.PlainPrograms.{PlainRoutine, PlainProcedure, PlainTask, PlainProg, plain_prog, plain_procedure, plain_task}
use Rattle.pearl_meaning.specs.ProgramRuns.{entry_of}
use Rattle.pearl_instructions.specs.declared.instr.Instr.{Instr}
use Rattle.pearl_instructions.specs.declared.instr.Instr.TheVariants.{End}
use Rattle.pearl_instructions.specs.declared.object.Code.{Code}
use Rattle.pearl_instructions.specs.declared.object.Procedure as code_procedure
use Rattle.pearl_instructions.specs.declared.object.Task as code_task
use Rattle.pearl_instructions.specs.declared.object.Parts.{Parts as Object}
use Rattle.pearl_instructions.specs.Objects.{routines, routine_at}
use Rattle.pearl_gen_expr.specs.ExprCode.{Is, instructions_or_none, code_of}
use Rattle.pearl_gen_expr.specs.Tables.{plain_leaf, head_of, code_head, code_entry}
use Rattle.pearl_gen_stmt.specs.StmtCode.{StmtsAt}
use Rattle.pearl_gen_stmt.specs.Generated.{within_program, last_of, IsStated, IsCode, IsGenerated}
use Rattle.pearl_gen_stmt.proofs.Offered.{procedure_routine}
use Rattle.pearl_generate.specs.Routines.{IsRoutine, IsProcedure, IsTask}
use Rattle.pearl_generate.proofs.Zips.{zip_at, zip_maps}

found_behind : (one two : List Code) (n : ℕ) → slice_get (one ++ two) (length one + n) ≡ slice_get two n
found_behind [] two n = let none : length {A = Code} [] + n ≡ n = omega arith in ap (λ n. slice_get two n) none
found_behind (y ∷ one) two n =
    let more : length (y ∷ one) + n ≡ suc (length one + n) = omega arith in
    ap (λ n. slice_get (y ∷ (one ++ two)) n) more ∙ found_behind one two n

-- a task's code is its routine's
task_routine : (o : Object) (t : ℕ) (task : code_task.Task) → slice_get o.tasks t ≡ Some task → routine_at o (length o.procedures + t) ≡ Some task.code
task_routine o t task is =
    let codes = map (λ (p : code_procedure.Procedure). p.code) o.procedures in
    let long : length o.procedures + t ≡ length codes + t =
    ap (λ n. n + t) (sym (length-map o.procedures (λ (p : code_procedure.Procedure). p.code))) in
    ap (λ r. slice_get (routines o) r) long ∙
    (found_behind codes (map (λ (task : code_task.Task). task.code) o.tasks) t ∙
    (slice_get-map (λ (task : code_task.Task). task.code) o.tasks t ∙ ap (option_map (λ (task : code_task.Task). task.code)) is))

-- what is said of a routine's code, where the object has it
code_there : (p : PlainProg) (o : Object) (number : ℕ) (result : Option Kind) (routine : PlainRoutine) (last : Instr) (code : Code) →
    routine_at o number ≡ Some code → IsRoutine p result routine last code → IsCode p o number result routine last
code_there p o number result routine last code there is =
    let same : code.instructions ≡ code_of o number = sym (ap instructions_or_none there) in
    record {
      end = is.end;
      statements = subst (λ list. StmtsAt (within_program p result routine) list None 0 routine.body is.end) same is.statements;
      behind = subst (λ list. Is list is.end last) same is.behind;
      whole = subst (λ list. length list ≡ is.end + 1) same is.whole;
      stated = subst (λ found. IfSome found (IsStated p routine)) (sym there) is.stated;
    }

-- an element of a list that was mapped comes of one
record IsFrom {X Y : Type 0} (f : X → Y) (xs : List X) (k : ℕ) (y : Y) : Type 0 where
  pub from : X
  pub there : slice_get xs k ≡ Some from
  pub is : f from ≡ y

mapped_at : {X Y : Type 0} (f : X → Y) (xs : List X) (k : ℕ) (y : Y) → slice_get (map f xs) k ≡ Some y → IsFrom f xs k y
mapped_at {X = X} f xs k y is = by (slice_get xs k) refl
  where
    by : (found : Option X) → slice_get xs k ≡ found → IsFrom f xs k y
    by None e = absurd (none-some y (ap (option_map f) (sym e) ∙ (sym (slice_get-map f xs k) ∙ is)))
    by (Some x) e =
        let same : Some (f x) ≡ Some y = ap (option_map f) (sym e) ∙ (sym (slice_get-map f xs k) ∙ is) in
        record { from = x; there = e; is = cc }

map_twice : {X Y Z : Type 0} (f : Y → Z) (g : X → Y) (xs : List X) → map (λ x. f (g x)) xs ≡ map f (map g xs)
map_twice f g [] = refl
map_twice f g (x ∷ xs) = ap (λ t. f (g x) ∷ t) (map_twice f g xs)

heads_same : (program : Program) (made : List code_procedure.Procedure) → AllZip (IsProcedure (plain_prog program)) program.procedures made →
    map code_head made ≡ map head_of (map plain_procedure program.procedures)
heads_same program made are =
    zip_maps (IsProcedure (plain_prog program)) (λ procedure. head_of (plain_procedure procedure)) code_head program.procedures made (λ x y is. is.head) are
    ∙ map_twice head_of plain_procedure program.procedures

entries_same : (program : Program) (made : List code_task.Task) → AllZip (IsTask (plain_prog program)) program.tasks made →
    map code_entry made ≡ map entry_of (map plain_task program.tasks)
entries_same program made are =
    zip_maps (IsTask (plain_prog program)) (λ task. entry_of (plain_task task)) code_entry program.tasks made (λ x y is. is.entry) are
    ∙ map_twice entry_of plain_task program.tasks

cells_same : (program : Program) (made : List code_task.Task) → AllZip (IsTask (plain_prog program)) program.tasks made →
    map (λ (task : code_task.Task). task.code.cells) made ≡ map (λ (task : PlainTask). task.routine.cells) (map plain_task program.tasks)
cells_same program made are =
    zip_maps (IsTask (plain_prog program)) (λ task. (plain_task task).routine.cells) (λ (task : code_task.Task). task.code.cells) program.tasks made
    (λ x y is. is.code.cells) are
    ∙ map_twice (λ (task : PlainTask). task.routine.cells) plain_task program.tasks

pub generated : (program : Program) (o : Object) →
    map plain_leaf o.leaves ≡ (plain_prog program).leaves → o.semaphores ≡ program.semaphores → o.devices ≡ program.devices →
    o.formats ≡ program.formats → AllZip (IsProcedure (plain_prog program)) program.procedures o.procedures →
    AllZip (IsTask (plain_prog program)) program.tasks o.tasks → IsGenerated (plain_prog program) o
generated program o leaves semaphores devices formats procedures tasks = record {
  tables = record {
    leaves = leaves;
    semaphores = semaphores;
    devices = devices;
    formats = formats;
    procedures = heads_same program o.procedures procedures;
    tasks = entries_same program o.tasks tasks;
    task_cells = cells_same program o.tasks tasks;
  };
  procedures = λ number procedure there.
      let p = plain_prog program in
      let from = mapped_at plain_procedure program.procedures number procedure there in
      let made = zip_at (IsProcedure p) program.procedures o.procedures number from.from procedures from.there in
      subst (λ (procedure : PlainProcedure). IsCode p o number procedure.result procedure.routine (last_of procedure.result)) from.is
      (code_there p o number (plain_procedure from.from).result (plain_procedure from.from).routine (last_of (plain_procedure from.from).result)
      made.0.code (procedure_routine o number made.0 made.1) made.2.code);
  tasks = λ t task there.
      let p = plain_prog program in
      let from = mapped_at plain_task program.tasks t task there in
      let made = zip_at (IsTask p) program.tasks o.tasks t from.from tasks from.there in
      subst (λ (task : PlainTask). IsCode p o (length o.procedures + t) None task.routine End) from.is
      (code_there p o (length o.procedures + t) None (plain_task from.from).routine End made.0.code (task_routine o t made.0 made.1) made.2.code);
}
