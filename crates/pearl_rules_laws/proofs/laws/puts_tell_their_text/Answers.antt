use Rattle.pearl_rules_laws.proofs.Doing.{put_tells}
use Rattle.pearl_rules_laws.proofs.laws.puts_tell_their_text.Goals as goal

pub returns : goal.returns
returns c = put_tells
