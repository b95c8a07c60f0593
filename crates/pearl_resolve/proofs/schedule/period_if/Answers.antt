use Rattle.std.proofs.Common.{Some, ap, option_map, ◌∙◌}
use Rattle.pearl_resolve.specs.Statements.{period_in}
use Rattle.pearl_resolve.proofs.schedule.period_if.Goals as goal

pub returns-in_ok-made-in-Some : goal.returns-in_ok-made-in-Some
returns-in_ok-made-in-Some c = λ of holds.
    ap Some (c.in_ok-made-in-Some.ensures of holds) ∙ ap (option_map (period_in of c.args.scope)) c.in-Some.ensures
