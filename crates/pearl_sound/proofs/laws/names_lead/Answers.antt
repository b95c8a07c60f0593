use Rattle.pearl_sound.proofs.ModuleSighted.{module_sighted}
use Rattle.pearl_sound.proofs.laws.names_lead.Goals as goal

pub returns : goal.returns
returns c = module_sighted
