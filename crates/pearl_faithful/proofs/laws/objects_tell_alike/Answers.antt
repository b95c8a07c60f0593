use Rattle.pearl_faithful.proofs.Telling.{tell_alike}
use Rattle.pearl_faithful.proofs.laws.objects_tell_alike.Goals as goal

pub returns : goal.returns
returns c = tell_alike
