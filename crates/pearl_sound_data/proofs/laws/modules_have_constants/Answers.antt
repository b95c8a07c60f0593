use Rattle.pearl_sound_data.proofs.ModuleConstants.{module_constants}
use Rattle.pearl_sound_data.proofs.laws.modules_have_constants.Goals as goal

pub returns : goal.returns
returns c = module_constants
