use Rattle.std.proofs.Common.{rules, arith, ◌≡◌, ◌+◌, ◌<◌, ◌≤◌, List, [], Some, length, get_or, slice_get, slice_set, sym, ap, subst, ◌∙◌}
use Rattle.std.proofs.lemmas.Option.{slice_get-get_or, slice_get_within}
use Rattle.pearl_saved.specs.declared.saved.FrameRecord.{FrameRecord}
use Rattle.pearl_saved.specs.Rules.{HasStack, AllRefer}
use Rattle.pearl_machine.specs.declared.part.Part.{Part}
use Rattle.pearl_machine.specs.Parts.{stack_in}
use Rattle.pearl_machine.specs.Resumed.{filled}
use Rattle.pearl_machine.proofs.Filling.{Filled, one_filled}
use Rattle.pearl_machine.proofs.Members.{all_to, as_many, stack_of}
use Rattle.pearl_machine.proofs.Owned.{part_is}
use Rattle.pearl_machine.proofs.saved.filled_parts.Goals as goal

pub bounds-stacks-task : goal.bounds-stacks-task
bounds-stacks-task c =
    let less : c.loop-task.task < length c.args.rows.now = search rules in
    omega (arith, less, as_many c.args.code.now 0 c.args.rows.now c.args.stacks.now c.requires.stand)

pub fill_part-requires-clause-memory : goal.fill_part-requires-clause-memory
fill_part-requires-clause-memory c =
    let o = c.args.code.now in
    let rows = c.args.rows.now in
    let stacks = c.args.stacks.now in
    let parts = c.loop-task.parts.items in
    let i = c.loop-task.task in
    let less : i < length rows = search rules in
    let part = c.index_mut.result.now in
    let at : slice_get parts i ≡ Some part = part_is parts i part (omega (arith, less, c.loop-task.invariant.each, c.requires.tasks)) c.index_mut.ensures.value in
    c.loop-task.invariant.memory i part at

pub fill_part-requires-clause-empty : goal.fill_part-requires-clause-empty
fill_part-requires-clause-empty c =
    let o = c.args.code.now in
    let rows = c.args.rows.now in
    let stacks = c.args.stacks.now in
    let parts = c.loop-task.parts.items in
    let i = c.loop-task.task in
    let less : i < length rows = search rules in
    let part = c.index_mut.result.now in
    let at : slice_get parts i ≡ Some part = part_is parts i part (omega (arith, less, c.loop-task.invariant.each, c.requires.tasks)) c.index_mut.ensures.value in
    sym (ap (λ x. (stack_in x).frames) at) ∙ (c.loop-task.invariant.rest i (omega arith)).1

pub fill_part-requires-clause-stack : goal.fill_part-requires-clause-stack
fill_part-requires-clause-stack c =
    let o = c.args.code.now in
    let rows = c.args.rows.now in
    let stacks = c.args.stacks.now in
    let parts = c.loop-task.parts.items in
    let i = c.loop-task.task in
    let less : i < length rows = search rules in
    let row = c.index-rows-task.result in
    let row_is : row ≡ get_or rows i row = search rules in
    let row_at : slice_get rows i ≡ Some row = slice_get-get_or rows i row less ∙ ap Some (sym row_is) in
    let frames = c.index-stacks-task.result in
    let frames_is : frames ≡ get_or stacks i frames = search rules in
    let few : i < length stacks = omega (arith, less, as_many o 0 rows stacks c.requires.stand) in
    let frames_at : slice_get stacks i ≡ Some frames = slice_get-get_or stacks i frames few ∙ ap Some (sym frames_is) in
    subst (λ (fs : List FrameRecord). HasStack o i row.standing fs) (sym c.as_slice.ensures) (stack_of o rows stacks c.requires.stand i row frames row_at frames_at)

pub fill_part-requires-clause-refer : goal.fill_part-requires-clause-refer
fill_part-requires-clause-refer c =
    let o = c.args.code.now in
    let rows = c.args.rows.now in
    let stacks = c.args.stacks.now in
    let parts = c.loop-task.parts.items in
    let i = c.loop-task.task in
    let less : i < length rows = search rules in
    let frames = c.index-stacks-task.result in
    let frames_is : frames ≡ get_or stacks i frames = search rules in
    let few : i < length stacks = omega (arith, less, as_many o 0 rows stacks c.requires.stand) in
    let frames_at : slice_get stacks i ≡ Some frames = slice_get-get_or stacks i frames few ∙ ap Some (sym frames_is) in
    subst (λ (fs : List FrameRecord). AllRefer o [] fs) (sym c.as_slice.ensures) (all_to (AllRefer o []) stacks i frames c.requires.refer frames_at)

pub loop-task-preserved : goal.loop-task-preserved
loop-task-preserved c =
    let o = c.args.code.now in
    let rows = c.args.rows.now in
    let stacks = c.args.stacks.now in
    let parts = c.loop-task.parts.items in
    let i = c.loop-task.task in
    let less : i < length rows = search rules in
    let part = c.index_mut.result.now in
    let at : slice_get parts i ≡ Some part = part_is parts i part (omega (arith, less, c.loop-task.invariant.each, c.requires.tasks)) c.index_mut.ensures.value in
    let row = c.index-rows-task.result in
    let row_is : row ≡ get_or rows i row = search rules in
    let row_at : slice_get rows i ≡ Some row = slice_get-get_or rows i row less ∙ ap Some (sym row_is) in
    let frames = c.index-stacks-task.result in
    let frames_is : frames ≡ get_or stacks i frames = search rules in
    let few : i < length stacks = omega (arith, less, as_many o 0 rows stacks c.requires.stand) in
    let frames_at : slice_get stacks i ≡ Some frames = slice_get-get_or stacks i frames few ∙ ap Some (sym frames_is) in
    let there : i < length parts = omega (arith, less, c.loop-task.invariant.each, c.requires.tasks) in
    let next : c.fill_part.new.part ≡ filled row.standing frames part = c.fill_part.ensures ∙ ap (λ (fs : List FrameRecord). filled row.standing fs part) c.as_slice.ensures in
    subst (λ (p : Part). Filled o rows stacks (i + 1) (slice_set parts i p)) (sym next)
    (one_filled o rows stacks i parts part row frames c.loop-task.invariant there at row_at frames_at)

pub returns-clause-filled : goal.returns-clause-filled
returns-clause-filled c = λ t row frames e f.
    let within = slice_get_within c.args.rows.now t row e in
    let all : length c.args.rows.now ≤ c.loop-task.task = omega arith in
    c.loop-task.invariant.before t (omega (arith, within, all)) row frames e f
