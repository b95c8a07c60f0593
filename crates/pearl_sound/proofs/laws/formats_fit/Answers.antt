use Rattle.pearl_sound.proofs.FormatsFit.{formats_fit}
use Rattle.pearl_sound.proofs.laws.formats_fit.Goals as goal

pub returns : goal.returns
returns c = formats_fit
