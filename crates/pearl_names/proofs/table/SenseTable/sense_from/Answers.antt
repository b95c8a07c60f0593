use Rattle.std.proofs.Common.{◌≡◌, Some, option_copied, ap, subst}
use Rattle.std.specs.Option.{option_and_then}
use Rattle.pearl_names.specs.Found.{found_from}
use Rattle.pearl_names.specs.Holding.{HoldsFound}
use Rattle.pearl_names.specs.Tables.{sense_at}
use Rattle.pearl_names.proofs.table.SenseTable.sense_from.Goals as goal

pub returns : goal.returns
returns c = λ t holds.
    let e : Some c.in_ok-found.found ≡ found_from t.names c.args.view c.args.text.now.items = c.in_ok-found.ensures t holds in
    subst (HoldsFound c.args.self.now.forms.items (option_copied c.sense_at.result)) (ap (option_and_then (sense_at t.senses)) e)
    (c.sense_at.ensures t holds)
