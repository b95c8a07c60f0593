use Rattle.std.proofs.Common.{◌+◌, map, ap, ◌∙◌, length}
use Rattle.pearl_instructions.specs.declared.object.Parts.{Parts as Object}
use Rattle.pearl_machine.specs.Parts.{first_part}
use Rattle.pearl_machine.proofs.Owned.{all_shallow, first_memories, first_still, first_empty}
use Rattle.pearl_machine.proofs.part.new_parts.Goals as goal

pub first_parts-requires-clause-shallow : goal.first_parts-requires-clause-shallow
first_parts-requires-clause-shallow c =
    rw c.as_slice-2.ensures (rw c.object-object.ensures.value (all_shallow c.args.code.now c.laws_hold.ensures.valid))

pub returns-clause-memory : goal.returns-clause-memory
returns-clause-memory c =
    let frames = ap length c.as_slice.ensures ∙ ap (λ (o : Object). length o.procedures) c.object-object.ensures.value in
    first_memories c.args.code.now c.in_ok-parts.parts.items (length c.as_slice.result.now + 1) (ap (λ n. n + 1) frames)
    (c.in_ok-parts.ensures ∙ ap (λ (tasks : _). map (first_part (length c.as_slice.result.now + 1)) tasks) (c.as_slice-2.ensures ∙ ap (λ (o : Object). o.tasks) c.object-object.ensures.value))

pub returns-clause-still : goal.returns-clause-still
returns-clause-still c = first_still c.as_slice-2.result.now c.in_ok-parts.parts.items (length c.as_slice.result.now + 1) c.in_ok-parts.ensures

pub returns-clause-empty : goal.returns-clause-empty
returns-clause-empty c = first_empty c.as_slice-2.result.now c.in_ok-parts.parts.items (length c.as_slice.result.now + 1) c.in_ok-parts.ensures
