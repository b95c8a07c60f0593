use Rattle.std.proofs.Common.{sym, ◌∙◌}
use Rattle.pearl_names.specs.Counts.{within}
use Rattle.pearl_names.proofs.Counting.{counts_of_variable}
use Rattle.pearl_names.proofs.layout.counts_of_laid.Goals as goal

pub returns : goal.returns
returns c = λ bounds shape same stands.
    c.within.ensures ∙ (λ i. within (same i).dimensions (same i).elements (c.counts_of.ensures shape stands i)) ∙ sym (counts_of_variable bounds shape)
