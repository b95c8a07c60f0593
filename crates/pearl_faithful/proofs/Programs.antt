-- All routines of what a sound program becomes.
use Rattle.std.proofs.Common.{◌≡◌, ℕ, zero, suc, ◌+◌, ◌-◌, ◌<◌, ◌≤◌, ◌⊎◌, inl, inr, Bool, true, false, List, [], ◌∷◌, Option, Some, None, slice_get, length, map, refl, sym, ap, ◌∙◌, subst, arith, le-leb, leb-true, ltb-true, ltb-false}
use Rattle.std.specs.Prelude.{nat_lt, nat_le, IfSome, option_map, option_and_then, take, drop}
use Rattle.std.specs.List.{AllByRecursion}
use Rattle.std.proofs.lemmas.Option.{same_Some, slice_get-map, slice_get_past, slice_get_within}
use Rattle.std.proofs.lemmas.List.{length-map}
use Rattle.pearl_value.specs.declared.kind.Kind.{Kind}
use Rattle.pearl_value.specs.declared.kind.CellKind.{CellKind}
use Rattle.pearl_value.specs.declared.kind.CellKind.TheVariants.{Plain, RefTo}
use Rattle.pearl_value.specs.declared.trap.Trap.TheVariants.{Range}
use Rattle.pearl_value.specs.Kinds.{IsKind}
use Rattle.pearl_program.specs.PlainPrograms.{PlainProcedure, PlainTask, PlainProg}
use Rattle.pearl_program.specs.SoundStatements.{IsIf}
use Rattle.pearl_program.specs.Sound.{IsSound, IsCellKind, IsPlain, IsProcedure, IsTask, CallSmaller}
use Rattle.pearl_program.specs.Weights.{calls, greatest_of_all, weight, weights_of}
use Rattle.pearl_meaning.specs.ProgramRuns.{entry_of}
use Rattle.pearl_instructions.specs.declared.instr.Instr.TheVariants as instr
use Rattle.pearl_instructions.specs.declared.object.Code.{Code}
use Rattle.pearl_instructions.specs.declared.object.Procedure.{Procedure}
use Rattle.pearl_instructions.specs.declared.object.Task.{Task}
use Rattle.pearl_instructions.specs.declared.object.Parts.{Parts as Object}
use Rattle.pearl_instructions.specs.Objects.{routine_at, is_task, result_of}
use Rattle.pearl_instructions.specs.Valid.{unsound_in, unsound, IsValid}
use Rattle.pearl_gen_expr.specs.Tables.{Head, head_of, code_head, code_entry}
use Rattle.pearl_gen_expr.specs.Shapes.{depths}
use Rattle.pearl_gen_expr.proofs.Offered.{each}
use Rattle.pearl_gen_stmt.specs.Generated.{last_of, IsStated, IsGenerated}
use Rattle.pearl_faithful.proofs.Steps.{end_keeps, return_keeps, trap_keeps}
use Rattle.pearl_faithful.proofs.Lists.{mapped_there, get_front, get_behind, cases, outside, same_list}
use Rattle.pearl_faithful.proofs.Weights.{weight_is, weights_count}
use Rattle.pearl_faithful.proofs.Routines.{EndsWell, RoutineIsValid, routine_valid}

plain_lawful : (cells : List CellKind) → AllByRecursion IsPlain cells → AllByRecursion IsCellKind cells
plain_lawful [] all = tt
plain_lawful (Plain kind ∷ cells) all = (all.0, plain_lawful cells all.1)
plain_lawful (RefTo kind ∷ cells) all = absurd all.0

-- parameters, and the other cells
pub all_lawful : (n : ℕ) (cells : List CellKind) → AllByRecursion IsCellKind (take n cells) → AllByRecursion IsPlain (drop n cells) → AllByRecursion IsCellKind cells
all_lawful zero cells params others = plain_lawful cells others
all_lawful (suc n) [] params others = tt
all_lawful (suc n) (k ∷ cells) params others = (params.0, all_lawful n cells params.1 others)

pub if_some : {X : Type 0} (P : X → Type 0) (found : Option X) → IsIf P found → IfSome found P
if_some P None is = tt
if_some P (Some x) is = is

-- a procedure calls smaller numbers
smaller_at : (procedures : List PlainProcedure) (first n : ℕ) (procedure : PlainProcedure) → CallSmaller first procedures → slice_get procedures n ≡ Some procedure →
    greatest_of_all calls procedure.routine.body ≤ first + n
smaller_at [] first n procedure order there = cc
smaller_at (one ∷ rest) first zero procedure order there =
    let less = subst (λ (procedure : PlainProcedure). greatest_of_all calls procedure.routine.body ≤ first) (same_Some one procedure there) order.0 in omega (arith, less)
smaller_at (one ∷ rest) first (suc n) procedure order there = let less = smaller_at rest (first + 1) n procedure order.1 there in omega (arith, less)

not_le : (a b : ℕ) → b < a → nat_le a b ≡ false
not_le a b less = by (nat_le a b) refl
  where
    by : (test : Bool) → nat_le a b ≡ test → test ≡ false
    by false is = refl
    by true is = let other = leb-true a b is in absurd (omega (arith, less, other))

module _ (p : PlainProg) (o : Object) (sound : IsSound p) (generated : IsGenerated p o) where
  -- what stands in one table stands in the other
  pub procedure_of : (n : ℕ) (found : Procedure) → slice_get o.procedures n ≡ Some found →
      (procedure : PlainProcedure) × (slice_get p.procedures n ≡ Some procedure) × (head_of procedure ≡ code_head found)
  procedure_of n found here =
      mapped_there head_of (slice_get p.procedures n) (code_head found)
      (sym (slice_get-map head_of p.procedures n) ∙ (ap (λ heads. slice_get heads n) (sym generated.tables.procedures) ∙ (slice_get-map code_head o.procedures n ∙ ap (option_map code_head) here)))

  pub task_of : (t : ℕ) (found : Task) → slice_get o.tasks t ≡ Some found → (task : PlainTask) × (slice_get p.tasks t ≡ Some task) × (entry_of task ≡ code_entry found)
  task_of t found here =
      mapped_there entry_of (slice_get p.tasks t) (code_entry found)
      (sym (slice_get-map entry_of p.tasks t) ∙ (ap (λ entries. slice_get entries t) (sym generated.tables.tasks) ∙ (slice_get-map code_entry o.tasks t ∙ ap (option_map code_entry) here)))

  pub its_cells : (t : ℕ) (found : Task) (task : PlainTask) → slice_get o.tasks t ≡ Some found → slice_get p.tasks t ≡ Some task → task.routine.cells ≡ found.code.cells
  its_cells t found task here there =
      same_Some task.routine.cells found.code.cells
      (ap (option_map (λ (task : PlainTask). task.routine.cells)) (sym there) ∙ (sym (slice_get-map (λ (task : PlainTask). task.routine.cells) p.tasks t)
      ∙ (ap (λ cells. slice_get cells t) (sym generated.tables.task_cells) ∙ (slice_get-map (λ (task : Task). task.code.cells) o.tasks t ∙ ap (option_map (λ (task : Task). task.code.cells)) here))))

  procedure_routine : (n : ℕ) (found : Procedure) → slice_get o.procedures n ≡ Some found → routine_at o n ≡ Some found.code
  procedure_routine n found here =
      get_front (map (λ (p : Procedure). p.code) o.procedures) (map (λ (t : Task). t.code) o.tasks) n found.code
      (slice_get-map (λ (p : Procedure). p.code) o.procedures n ∙ ap (option_map (λ (p : Procedure). p.code)) here)

  task_routine : (t : ℕ) → routine_at o (length o.procedures + t) ≡ option_map (λ (t : Task). t.code) (slice_get o.tasks t)
  task_routine t =
      let long = length-map o.procedures (λ (p : Procedure). p.code) in
      get_behind (map (λ (p : Procedure). p.code) o.procedures) (map (λ (t : Task). t.code) o.tasks) (length o.procedures + t) t (omega (arith, long))
      ∙ slice_get-map (λ (t : Task). t.code) o.tasks t

  as_many : length o.procedures ≡ length p.procedures
  as_many =
      let one = length-map o.procedures code_head in let two = length-map p.procedures head_of in let three = ap length generated.tables.procedures in omega (arith, one, two, three)

  -- the depth that is stated for a procedure is its weight
  stated_depth : (n : ℕ) (found : Procedure) (procedure : PlainProcedure) → slice_get o.procedures n ≡ Some found → slice_get p.procedures n ≡ Some procedure →
      found.code.depth ≡ weight (weights_of p.procedures) procedure.routine
  stated_depth n found procedure here there =
      (subst (λ code. IfSome code (IsStated p procedure.routine)) (procedure_routine n found here) (generated.procedures n procedure there).stated).0

  depths_are : depths o ≡ weights_of p.procedures
  depths_are = same_list (depths o) (weights_of p.procedures) (λ n. by n (cases (slice_get o.procedures n)))
    where
      depth_at : (n : ℕ) → slice_get (depths o) n ≡ option_map (λ (procedure : Procedure). procedure.code.depth) (slice_get o.procedures n)
      depth_at n = slice_get-map (λ (procedure : Procedure). procedure.code.depth) o.procedures n

      by : (n : ℕ) → ((found : Procedure) × (slice_get o.procedures n ≡ Some found)) ⊎ (slice_get o.procedures n ≡ None) → slice_get (depths o) n ≡ slice_get (weights_of p.procedures) n
      by n (inl here) =
          let found = here.0 in let procedure = procedure_of n found here.1 in
          depth_at n ∙ (ap (option_map (λ (procedure : Procedure). procedure.code.depth)) here.1
          ∙ (ap Some (stated_depth n found procedure.0 here.1 procedure.1) ∙ sym (weight_is p.procedures n procedure.0 procedure.1 sound.order)))
      by n (inr none) =
          let count = weights_count p.procedures in let many = as_many in
          depth_at n ∙ (ap (option_map (λ (procedure : Procedure). procedure.code.depth)) none
          ∙ sym (slice_get_past (weights_of p.procedures) n (let less = outside o.procedures n none in omega (arith, count, many, less))))

  -- PROCEDURES

  last_ends : (r : ℕ) (code : Code) (result : Option Kind) → result_of o r ≡ result → is_task o r ≡ false → EndsWell o r code (last_of result)
  last_ends r code None known procedure = record {
    lawful = tt;
    nowhere = refl;
    stops = refl;
    keeps = λ whole end is room. return_keeps o r code whole end None is procedure known room;
  }
  last_ends r code (Some kind) known procedure = record {
    lawful = tt;
    nowhere = refl;
    stops = refl;
    keeps = λ whole end is room. trap_keeps o r code whole end Range is room;
  }

  pub procedure_valid : (n : ℕ) (found : Procedure) → slice_get o.procedures n ≡ Some found → RoutineIsValid o n found.code
  procedure_valid n found here =
      let matching = procedure_of n found here in
      let procedure = matching.0 in let there = matching.1 in
      let is : IsProcedure p procedure = each (IsProcedure p) p.procedures n procedure sound.procedures there in
      let known : result_of o n ≡ procedure.result =
      ap (λ found. option_and_then (λ (p : Procedure). p.result) found) here ∙ sym (ap (λ (head : Head). head.result) matching.2) in
      let no_task : is_task o n ≡ false = not_le (length o.procedures) n (slice_get_within o.procedures n found here) in
      routine_valid p o n found.code procedure.result procedure.routine (Some procedure.result) n (last_of procedure.result)
      (record {
        sound = sound;
        tables = generated.tables;
        weights = depths_are;
        cells = ap (λ (head : Head). head.cells) matching.2;
        lawful = all_lawful procedure.params procedure.routine.cells is.routine.params is.routine.others;
        light = subst (λ n. n ≤ 4096) (sym (stated_depth n found procedure here there))
            (each (λ weight. weight ≤ 4096) (weights_of p.procedures) n (weight (weights_of p.procedures) procedure.routine) sound.sizes.weights (weight_is p.procedures n procedure there sound.order));
        smaller = inr (omega arith);
        returning = (refl, known, no_task);
        kind = if_some IsKind procedure.result is.result;
        body = is.routine.body;
        few_calls = let less = smaller_at p.procedures 0 n procedure sound.order there in omega (arith, less);
      })
      (procedure_routine n found here) (generated.procedures n procedure there) (last_ends n found.code procedure.result known no_task)

  -- TASKS

  pub task_valid : (t : ℕ) (found : Task) → slice_get o.tasks t ≡ Some found → RoutineIsValid o (length o.procedures + t) found.code
  task_valid t found here =
      let matching = task_of t found here in
      let task = matching.0 in let there = matching.1 in
      let is : IsTask p task = each (IsTask p) p.tasks t task sound.tasks there in
      let r = length o.procedures + t in
      let at : routine_at o r ≡ Some found.code = task_routine t ∙ ap (option_map (λ (t : Task). t.code)) here in
      let its_task : is_task o r ≡ true = le-leb (length o.procedures) r (omega arith) in
      let stated : IsStated p task.routine found.code = subst (λ code. IfSome code (IsStated p task.routine)) at (generated.tasks t task there).stated in
      routine_valid p o r found.code None task.routine None (greatest_of_all calls task.routine.body) instr.End
      (record {
        sound = sound;
        tables = generated.tables;
        weights = depths_are;
        cells = its_cells t found task here there;
        lawful = all_lawful 0 task.routine.cells is.routine.params is.routine.others;
        light = subst (λ n. n ≤ 4096) (sym stated.0) (each (λ (task : PlainTask). weight (weights_of p.procedures) task.routine ≤ 4096) p.tasks t task sound.sizes.task_weights there);
        smaller = inl its_task;
        returning = tt;
        kind = tt;
        body = is.routine.body;
        few_calls = omega arith;
      })
      at (generated.tasks t task there)
      (record { lawful = tt; nowhere = refl; stops = refl; keeps = λ whole end is room. end_keeps o r found.code whole end is its_task room })

  -- ALL ROUTINES

  pub all_valid : IsValid o
  all_valid = record { sound = λ r i. by r i (nat_lt r (length o.procedures)) refl }
    where
      procedure_sound : (r i : ℕ) → ((found : Procedure) × (slice_get o.procedures r ≡ Some found)) ⊎ (slice_get o.procedures r ≡ None) → r < length o.procedures → unsound o r i ≡ None
      procedure_sound r i (inl here) less = (procedure_valid r here.0 here.1).sound i
      procedure_sound r i (inr none) less = let past = outside o.procedures r none in absurd (omega (arith, past, less))

      task_sound : (t i : ℕ) → ((found : Task) × (slice_get o.tasks t ≡ Some found)) ⊎ (slice_get o.tasks t ≡ None) → unsound o (length o.procedures + t) i ≡ None
      task_sound t i (inl here) = (task_valid t here.0 here.1).sound i
      task_sound t i (inr none) = ap (λ found. unsound_in o (length o.procedures + t) found i) (task_routine t ∙ ap (option_map (λ (t : Task). t.code)) none)

      by : (r i : ℕ) (test : Bool) → nat_lt r (length o.procedures) ≡ test → unsound o r i ≡ None
      by r i true is = procedure_sound r i (cases (slice_get o.procedures r)) (ltb-true r (length o.procedures) is)
      by r i false is =
          let past = ltb-false r (length o.procedures) is in
          let t = r - length o.procedures in
          let same : length o.procedures + t ≡ r = omega (arith, past) in
          subst (λ r. unsound o r i ≡ None) same (task_sound t i (cases (slice_get o.tasks t)))
