use Rattle.std.proofs.Common.{length, ap, sym, ◌∙◌}
use Rattle.pearl_resolve.specs.Placing.{collected}
use Rattle.pearl_resolve.proofs.PlacingSteps.{by_number_is}
use Rattle.pearl_resolve.proofs.placing.by_number.Goals as goal

pub returns : goal.returns
returns c = c.in_ok-made.ensures ∙ ap collected c.in_ok-places.ensures ∙ sym (by_number_is c.args.numbers.now c.args.procedures.items (length c.args.numbers.now) 0)
