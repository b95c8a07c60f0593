use Rattle.std.proofs.Common.{rules, arith, ◌≡◌, ◌<◌, ◌≤◌, ◌++◌, [], ◌∷◌, Some, length, get_or, slice_get, sym, ap, ap₂, ◌∙◌}
use Rattle.std.proofs.lemmas.Option.{slice_get-get_or}
use Rattle.pearl_machine.proofs.Filling.{stacks_more, all_stacks}
use Rattle.pearl_machine.proofs.saved.saved_stacks.Goals as goal

pub loop-task-preserved : goal.loop-task-preserved
loop-task-preserved c =
    let rows = c.args.rows.now in
    let parts = c.args.parts.now in
    let i = c.loop-task.task in
    let row = c.index-rows-task.result in
    let part = c.index-parts-task.result in
    let less : i < length rows = search rules in
    let there : i < length parts = omega (arith, less, c.requires) in
    let row_is : row ≡ get_or rows i row = search rules in
    let part_is : part ≡ get_or parts i part = search rules in
    c.in_ok-push.ensures.items
    ∙ ap₂ (λ xs x. xs ++ x ∷ []) c.loop-task.invariant c.in_ok-saved_stack.ensures
    ∙ sym (stacks_more rows parts i row part (slice_get-get_or rows i row less ∙ ap Some (sym row_is)) (slice_get-get_or parts i part there ∙ ap Some (sym part_is)))

pub returns : goal.returns
returns c =
    let all : length c.args.rows.now ≤ c.loop-task.task = omega arith in
    c.new.ensures ∙ c.loop-task.invariant ∙ all_stacks c.args.rows.now c.args.parts.now c.loop-task.task all
