use Rattle.pearl_sound.proofs.ModuleRules.{unbroken_lead}
use Rattle.pearl_sound.proofs.laws.names_lead_in_modules.Goals as goal

pub returns : goal.returns
returns c = unbroken_lead
