use Rattle.pearl_stack.proofs.StackLaws.{numbers_frames}
use Rattle.pearl_stack.proofs.laws.frames_are_numbered.Goals as goal

pub returns : goal.returns
returns c = numbers_frames
