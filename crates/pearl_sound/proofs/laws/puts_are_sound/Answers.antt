use Rattle.pearl_sound.proofs.TextTransfers.{put_sound}
use Rattle.pearl_sound.proofs.laws.puts_are_sound.Goals as goal

pub returns : goal.returns
returns c = put_sound
