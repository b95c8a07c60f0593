use Rattle.std.proofs.Common.{sym, subst, ◌∙◌}
use Rattle.pearl_names.specs.Forming.{IsLaid}
use Rattle.pearl_names.proofs.Laid.{some_sound, some_unsound, none_sound}
use Rattle.pearl_names.proofs.layout.sound_within.Goals as goal

pub returns-then-has_sound_leaves : goal.returns-then-has_sound_leaves
returns-then-has_sound_leaves c = λ bounds shape laid.
    some_sound c.args.forms.now c.in-Some.laid c.counts_of_laid.result c.counts_of_laid.ensures bounds shape
    (subst (λ l. IsLaid c.args.forms.now l bounds shape) c.in-Some.is laid) (sym c.has_sound_leaves.ensures ∙ c.if-has_sound_leaves.true)

pub returns-else-has_sound_leaves : goal.returns-else-has_sound_leaves
returns-else-has_sound_leaves c = λ bounds shape laid.
    some_unsound c.args.forms.now c.in-Some.laid c.counts_of_laid.result c.counts_of_laid.ensures bounds shape
    (subst (λ l. IsLaid c.args.forms.now l bounds shape) c.in-Some.is laid) (sym c.has_sound_leaves.ensures ∙ c.if-has_sound_leaves.false)

pub returns-in-None : goal.returns-in-None
returns-in-None c = λ bounds shape laid. none_sound c.args.forms.now bounds shape (subst (λ l. IsLaid c.args.forms.now l bounds shape) c.in-None.is laid)
