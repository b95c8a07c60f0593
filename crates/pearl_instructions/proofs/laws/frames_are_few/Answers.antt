use Rattle.pearl_instructions.proofs.Begun.{frames_within}
use Rattle.pearl_instructions.proofs.laws.frames_are_few.Goals as goal

pub returns : goal.returns
returns c = frames_within
