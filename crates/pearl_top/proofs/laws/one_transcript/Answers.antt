use Rattle.pearl_top.proofs.OneProgram.{one_transcript}
use Rattle.pearl_top.proofs.laws.one_transcript.Goals as goal

pub returns : goal.returns
returns c = one_transcript
