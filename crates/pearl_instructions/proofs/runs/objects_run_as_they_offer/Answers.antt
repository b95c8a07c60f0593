use Rattle.pearl_instructions.proofs.OwnOffers.{run_as_offered}
use Rattle.pearl_instructions.proofs.runs.objects_run_as_they_offer.Goals as goal

pub returns : goal.returns
returns c = run_as_offered c.tables_are_lawful.ensures c.code_stands.ensures c.actions_are_offered_soon.ensures
