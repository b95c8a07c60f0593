use Rattle.std.proofs.Common.{subst, ◌∙◌}
use Rattle.pearl_names.specs.FirstNames.{HasNames}
use Rattle.pearl_names.proofs.Lists.{all_taken}
use Rattle.pearl_names.proofs.Repeating.{noted_none, noted_more}
use Rattle.pearl_names.proofs.names.ScopeTable.new.Goals as goal

pub loop-entry-init : goal.loop-entry-init
loop-entry-init c = noted_none _ _ c.new-first.ensures.empty c.new-repeats.ensures.items

pub loop-entry-preserved : goal.loop-entry-preserved
loop-entry-preserved c =
    noted_more c.as_slice-entry-items.result.now c.loop-entry.entry-index c.entry-item.result _ _ _ _ _ _ c.loop-entry-test.true c.entry-item.is
    c.loop-entry.invariant c.in_ok-number.ensures.after c.in_ok-number.ensures.noted

pub invariant_of-result : goal.invariant_of-result
invariant_of-result c =
    subst (λ names. HasNames names c.loop-entry.first.entries c.loop-entry.repeats.items)
    (all_taken c.as_slice-entry-items.result.now c.loop-entry.entry-index c.loop-entry-test.false ∙ c.as_slice-entry-items.ensures.value)
    c.loop-entry.invariant.has
