use Rattle.std.proofs.Common.{ap}
use Rattle.pearl_program.specs.declared.statement.Renewal.{Renewal}
use Rattle.pearl_program.specs.PlainStatements.{OfRenew, plain_values}
use Rattle.pearl_resolve.proofs.renewals.renewal.Goals as goal

pub returns : goal.returns
returns c = ap (λ (x : Renewal). OfRenew x.cell (plain_values x.values)) c.in_ok-made.ensures.ok
