use Rattle.pearl_snap.proofs.Values.{values_held, frames_held}
use Rattle.pearl_snap.proofs.laws.states_hold_values.Goals as goal

pub returns-clause-core : goal.returns-clause-core
returns-clause-core c = values_held

pub returns-clause-frames : goal.returns-clause-frames
returns-clause-frames c = frames_held
