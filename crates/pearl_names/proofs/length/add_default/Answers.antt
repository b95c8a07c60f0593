use Rattle.std.proofs.Common.{sym, ◌∙◌}
use Rattle.pearl_names.proofs.Steps.{one_step, other_step}
use Rattle.pearl_names.proofs.length.add_default.Goals as goal

pub returns-then-not-is_same_sort : goal.returns-then-not-is_same_sort
returns-then-not-is_same_sort c = λ lengths so. other_step lengths c.args.default.now c.args.sort _ so (sym c.is_same_sort.ensures ∙ c.if-not-is_same_sort.true)

pub returns : goal.returns
returns c = λ lengths so.
    one_step lengths c.args.default.now c.args.sort _ _ so (sym c.is_same_sort.ensures ∙ c.if-not-is_same_sort.false) c.in_ok-add_step.ensures.rising c.in_ok-add_step.ensures.tells
