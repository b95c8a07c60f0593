use Rattle.std.proofs.Common.{◌∙◌}
use Rattle.pearl_calls.proofs.Weighing.{weighs}
use Rattle.pearl_calls.proofs.weight.weight_of.Goals as goal

pub returns : goal.returns
returns c =
    c.add_up.ensures ∙
    weighs c.args.callers.now c.args.numbering.now c.requires.numbering c.args.caller.now c.args.weights.now c.requires.weights
