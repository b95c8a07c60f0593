-- What a sound program becomes is as each object is to be.
use Rattle.std.proofs.Common.{◌≡◌, ℕ, ◌<◌, ◌≤◌, ◌^◌, inl, inr, List, [], ◌∷◌, Some, slice_get, length, map, refl, sym, ap, ◌∙◌, subst, arith}
use Rattle.std.specs.Prelude.{IfSome, drop, sum_by}
use Rattle.std.specs.List.{AllByRecursion}
use Rattle.std.proofs.lemmas.List.{length-map}
use Rattle.std.proofs.lemmas.List.Sums.{sum_by-cons}
use Rattle.pearl_value.specs.declared.kind.CellKind.{CellKind}
use Rattle.pearl_value.specs.declared.kind.CellKind.TheVariants.{Plain, RefTo}
use Rattle.pearl_value.specs.Kinds.{IsKind}
use Rattle.pearl_value.specs.Devices as device_list
use Rattle.pearl_value.specs.Devices.{IsDevice}
use Rattle.pearl_rules.specs.declared.setup.TaskEntry.{TaskEntry}
use Rattle.pearl_format.specs.Items.{IsFormat}
use Rattle.pearl_tree.specs.Tokens.{IsId}
use Rattle.pearl_program.specs.PlainPrograms.{PlainLeaf, PlainProg}
use Rattle.pearl_program.specs.Sound as sound
use Rattle.pearl_program.specs.Sound.{IsSound, IsProcedure as IsSoundProcedure, IsTask as IsSoundTask}
use Rattle.pearl_meaning.specs.ProgramRuns.{entry_of}
use Rattle.pearl_instructions.specs.declared.object.Leaf.{Leaf}
use Rattle.pearl_instructions.specs.declared.object.Shape.{Shape as Stated}
use Rattle.pearl_instructions.specs.declared.object.Code.{Code}
use Rattle.pearl_instructions.specs.declared.object.Procedure.{Procedure}
use Rattle.pearl_instructions.specs.declared.object.Task.{Task}
use Rattle.pearl_instructions.specs.declared.object.Parts.{Parts as Object}
use Rattle.pearl_instructions.specs.Lawful.{IsCellKind, IsPlain, IsLeaf, IsInstr, AreRising, IsCode, IsProcedure, IsTask, IsObject}
use Rattle.pearl_gen_expr.specs.Tables.{plain_leaf, Head, head_of, code_head, code_entry}
use Rattle.pearl_gen_expr.proofs.Offered.{each}
use Rattle.pearl_gen_stmt.specs.Generated.{IsGenerated}
use Rattle.pearl_faithful.proofs.Lists.{all_by_number}
use Rattle.pearl_faithful.proofs.Programs.{procedure_of, task_of, its_cells, if_some, all_lawful, procedure_valid, task_valid}

-- LEAVES

slots_sum : (leaves : List Leaf) → sum_by (λ (leaf : PlainLeaf). leaf.values.count) (map plain_leaf leaves) ≡ sum_by (λ (leaf : Leaf). leaf.slots) leaves
slots_sum [] = refl
slots_sum (leaf ∷ leaves) =
    let one = sum_by-cons (λ (leaf : PlainLeaf). leaf.values.count) (plain_leaf leaf) (map plain_leaf leaves) in
    let two = sum_by-cons (λ (leaf : Leaf). leaf.slots) leaf leaves in
    let more = slots_sum leaves in
    omega (arith, one, two, more)

leaves_lawful : (leaves : List Leaf) → AllByRecursion sound.IsLeaf (map plain_leaf leaves) → sum_by (λ (leaf : Leaf). leaf.slots) leaves ≤ 65536 → AllByRecursion IsLeaf leaves
leaves_lawful [] all few = tt
leaves_lawful (leaf ∷ leaves) all few =
    let sum = sum_by-cons (λ (leaf : Leaf). leaf.slots) leaf leaves in (
      record {
        named = all.0.spelled;
        short = all.0.named.1;
        kind = all.0.values.kind;
        some = (all.0.values.some, omega (arith, sum, few));
        constants = all.0.values.constants;
        few = all.0.values.few;
      },
      leaves_lawful leaves all.1 (omega (arith, sum, few)),
    )

-- ROUTINES

others_plain : (cells : List CellKind) → AllByRecursion sound.IsPlain cells → AllByRecursion IsPlain cells
others_plain [] all = tt
others_plain (Plain kind ∷ cells) all = (tt, others_plain cells all.1)
others_plain (RefTo kind ∷ cells) all = absurd all.0

code_lawful : (params : ℕ) (code : Code) (cells : List CellKind) → cells ≡ code.cells → AllByRecursion sound.IsCellKind cells → AllByRecursion sound.IsPlain (drop params cells) → params ≤ length cells →
    AllByRecursion IsInstr code.instructions → code.shapes ≡ [] → IsCode params code
code_lawful params code cells same lawful others few instructions none = record {
  kinds = subst (λ cells. AllByRecursion IsCellKind cells) same lawful;
  plain = subst (λ cells. AllByRecursion IsPlain (drop params cells)) same (others_plain (drop params cells) others);
  few = subst (λ cells. params ≤ length cells) same few;
  instructions = instructions;
  shapes = subst (λ shapes. AllByRecursion (λ (s : Stated). AllByRecursion IsCellKind s.kinds) shapes) (sym none) tt;
  rising = subst (λ shapes. AreRising shapes) (sym none) tt;
}

module _ (p : PlainProg) (o : Object) (is_sound : IsSound p) (generated : IsGenerated p o) where
  procedure_lawful : (n : ℕ) (found : Procedure) → slice_get o.procedures n ≡ Some found → IsProcedure found
  procedure_lawful n found here =
      let matching = procedure_of p o is_sound generated n found here in
      let procedure = matching.0 in
      let is : IsSoundProcedure p procedure = each (IsSoundProcedure p) p.procedures n procedure is_sound.procedures matching.1 in
      let valid = procedure_valid p o is_sound generated n found here in
      let params : procedure.params ≡ found.params = ap (λ (head : Head). head.params) matching.2 in
      record {
        code = subst (λ n. IsCode n found.code) params
            (code_lawful procedure.params found.code procedure.routine.cells (ap (λ (head : Head). head.cells) matching.2)
            (all_lawful procedure.params procedure.routine.cells is.routine.params is.routine.others) is.routine.others is.few valid.lawful valid.none_stated);
        result = subst (λ result. IfSome result IsKind) (ap (λ (head : Head). head.result) matching.2) (if_some IsKind procedure.result is.result);
      }

  task_lawful : (t : ℕ) (found : Task) → slice_get o.tasks t ≡ Some found → IsTask found
  task_lawful t found here =
      let matching = task_of p o is_sound generated t found here in
      let task = matching.0 in
      let is : IsSoundTask p task = each (IsSoundTask p) p.tasks t task is_sound.tasks matching.1 in
      let valid = task_valid p o is_sound generated t found here in
      record {
        code = code_lawful 0 found.code task.routine.cells (its_cells p o is_sound generated t found task here matching.1)
            (all_lawful 0 task.routine.cells is.routine.params is.routine.others) is.routine.others (omega arith) valid.lawful valid.none_stated;
        named = subst (λ (entry : TaskEntry). IsId entry.name.items) matching.2 is.named;
        urgent = subst (λ (entry : TaskEntry). (0 < entry.priority) × (entry.priority ≤ 255)) matching.2 is.urgent;
      }

  few_slots : sum_by (λ (leaf : Leaf). leaf.slots) o.leaves ≤ 65536
  few_slots =
      let one = slots_sum o.leaves in
      let two = ap (sum_by (λ (leaf : PlainLeaf). leaf.values.count)) generated.tables.leaves in
      let few = is_sound.sizes.slots in
      omega (arith, one, two, few)

  pub object_lawful : length o.formats < 2 ^ 32 → IsObject o
  object_lawful few_formats = record {
    devices = subst (λ devices. AllByRecursion IsDevice devices) (sym generated.tables.devices) is_sound.devices;
    rising = subst (λ devices. device_list.AreRising devices) (sym generated.tables.devices) is_sound.rising;
    leaves = leaves_lawful o.leaves (subst (λ leaves. AllByRecursion sound.IsLeaf leaves) (sym generated.tables.leaves) is_sound.leaves) few_slots;
    formats = subst (λ formats. AllByRecursion IsFormat formats) (sym generated.tables.formats) is_sound.formats;
    procedures = all_by_number IsProcedure o.procedures procedure_lawful;
    tasks = all_by_number IsTask o.tasks task_lawful;
    semaphores = subst (λ counts. AllByRecursion (λ count. count < 2 ^ 31) counts) (sym generated.tables.semaphores) is_sound.semaphores;
    few_formats = few_formats;
    few_slots = few_slots;
    few_procedures =
        let one = length-map o.procedures code_head in let two = length-map p.procedures head_of in let same = ap length generated.tables.procedures in
        let few = is_sound.sizes.procedures in omega (arith, one, two, same, few);
    few_tasks =
        let one = length-map o.tasks code_entry in let two = length-map p.tasks entry_of in let same = ap length generated.tables.tasks in
        let few = is_sound.sizes.tasks in omega (arith, one, two, same, few);
    few_semaphores = let same = ap length generated.tables.semaphores in let few = is_sound.sizes.semaphores in omega (arith, same, few);
    few_devices =
        let same = ap length generated.tables.devices in let few = is_sound.sizes.devices in omega (arith, same, few);
  }
