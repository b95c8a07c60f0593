use Rattle.pearl_faithful.proofs.Telling.{end_alike}
use Rattle.pearl_faithful.proofs.laws.objects_end_alike.Goals as goal

pub returns : goal.returns
returns c = end_alike
