use Rattle.std.proofs.Common.{ap, ◌∙◌}
use Rattle.pearl_verify.specs.Runs.{covers}
use Rattle.pearl_verify.proofs.Fronts.{covers_values}
use Rattle.pearl_verify.proofs.runs.CellRuns.are_values.Goals as goal

pub returns : goal.returns
returns c =
    c.covers.ensures
    ∙ (ap (λ fronts. covers fronts c.args.first c.args.count) (c.as_slice.ensures.value ∙ c.requires.values)
    ∙ covers_values c.args.code.now.cells c.args.first c.args.count)
