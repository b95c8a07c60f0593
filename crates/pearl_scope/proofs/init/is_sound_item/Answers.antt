use Rattle.std.proofs.Common.{ap, ◌∙◌}
use Rattle.pearl_names.specs.Counts.{has_sound_leaves}
use Rattle.pearl_scope.proofs.Filled.{item_sound}
use Rattle.pearl_scope.proofs.init.is_sound_item.Goals as goal

pub returns : goal.returns
returns c = λ leaves has.
    c.has_sound_leaves.ensures ∙ ap has_sound_leaves c.within.ensures ∙ item_sound c.args.forms.now c.args.form leaves c.counts_of-each.result has c.counts_of-each.ensures
