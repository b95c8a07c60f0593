use Rattle.std.proofs.Common.{◌≡◌, List, [], length, sym, ap, subst, ◌∙◌}
use Rattle.std.specs.List.{AllByRecursion}
use Rattle.pearl_rules.specs.declared.setup.Setup.{Setup}
use Rattle.pearl_rules.specs.Tables.{IsSetup}
use Rattle.pearl_instructions.specs.Setups.{setup_of}
use Rattle.pearl_records.specs.States.{IsRecord}
use Rattle.pearl_records.specs.declared.record.TaskRecord.{TaskRecord}
use Rattle.pearl_saved.specs.declared.saved.FrameRecord.{FrameRecord}
use Rattle.pearl_saved.specs.declared.saved.Saved.{Saved}
use Rattle.pearl_saved.specs.Rules.{HasStacks, AllRefer}
use Rattle.pearl_machine.specs.Resumed.{AreFilled}
use Rattle.pearl_machine.proofs.Resuming.{as_many_rows, record_is, resumes_from, ready_from}
use Rattle.pearl_machine.proofs.machine.Machine.restored.Goals as goal

pub from_record-requires-clause-setup : goal.from_record-requires-clause-setup
from_record-requires-clause-setup c =
    subst IsSetup (sym c.in_ok-setup.ensures) (c.laws_hold.ensures.laws.tables c.args.object c.laws_hold.ensures.object)

pub from_record-requires-clause-record : goal.from_record-requires-clause-record
from_record-requires-clause-record c =
    subst (λ (t : Setup). IsRecord t c.args.saved.core) (sym c.in_ok-setup.ensures) (record_is c.args.object c.args.saved c.requires.state c.requires.ends)

pub filled_parts-requires-clause-tasks : goal.filled_parts-requires-clause-tasks
filled_parts-requires-clause-tasks c =
    ap (λ (rows : List TaskRecord). length rows) c.as_slice-rows.ensures ∙ as_many_rows c.args.object c.args.saved c.requires.state c.laws_hold.ensures.object

pub filled_parts-requires-clause-stand : goal.filled_parts-requires-clause-stand
filled_parts-requires-clause-stand c =
    subst (λ (rows : List TaskRecord). HasStacks c.args.object 0 rows c.as_slice.result.now) (sym c.as_slice-rows.ensures)
    (subst (λ (stacks : List (List FrameRecord)). HasStacks c.args.object 0 c.args.saved.core.tasks stacks) (sym c.as_slice.ensures) (c.requires.state 5))

pub filled_parts-requires-clause-refer : goal.filled_parts-requires-clause-refer
filled_parts-requires-clause-refer c = subst (λ (stacks : List (List FrameRecord)). AllByRecursion (AllRefer c.args.object []) stacks) (sym c.as_slice.ensures) (c.requires.state 6)

pub invariant_of-result : goal.invariant_of-result
invariant_of-result c =
    let s : Saved = c.args.saved in
    let are : AreFilled s.core.tasks s.stacks c.in_ok-parts.parts.items =
    subst (λ (rows : List TaskRecord). AreFilled rows s.stacks c.in_ok-parts.parts.items) c.as_slice-rows.ensures
    (subst (λ (stacks : List (List FrameRecord)). AreFilled c.as_slice-rows.result.now stacks c.in_ok-parts.parts.items) c.as_slice.ensures c.in_ok-parts.ensures.filled) in
    ready_from c.args.object s c.requires.state c.laws_hold.ensures.object c.in_ok-parts.parts.items c.in_ok-parts.ensures.each are c.in_ok-setup.setup c.in_ok-setup.ensures
    c.in_ok-kernel.kernel c.in_ok-kernel.ensures.restored c.tasks-due.result c.tasks-due.ensures
    c.stacks_are_split.ensures.frames c.laws_hold.ensures.valid c.in_ok-parts.ensures.memory c.in_ok-kernel.ensures.lawful

pub returns : goal.returns
returns c =
    let s : Saved = c.args.saved in
    let are : AreFilled s.core.tasks s.stacks c.in_ok-parts.parts.items =
    subst (λ (rows : List TaskRecord). AreFilled rows s.stacks c.in_ok-parts.parts.items) c.as_slice-rows.ensures
    (subst (λ (stacks : List (List FrameRecord)). AreFilled c.as_slice-rows.result.now stacks c.in_ok-parts.parts.items) c.as_slice.ensures c.in_ok-parts.ensures.filled) in
    resumes_from c.args.object s c.requires.state c.laws_hold.ensures.object c.in_ok-parts.parts.items c.in_ok-parts.ensures.each are c.in_ok-setup.setup c.in_ok-setup.ensures
    c.in_ok-kernel.kernel c.in_ok-kernel.ensures.restored c.tasks-due.result c.tasks-due.ensures
