use Rattle.pearl_instructions.proofs.Stands.{offers_there}
use Rattle.pearl_instructions.proofs.FitTables.{fits}
use Rattle.pearl_instructions.proofs.runs.offers_fit_the_tables.Goals as goal

pub returns : goal.returns
returns c = λ o t frames action valid lawful stands e. fits o action lawful (offers_there c.offers_name_what_is_there.ensures o t frames action valid lawful stands e)
