use Rattle.pearl_kernel.proofs.Changing.{stirs-occurred}
use Rattle.pearl_kernel.proofs.state.State.interrupted.Goals as goal

pub returns-then-is_enabled-clause-stirs : goal.returns-then-is_enabled-clause-stirs
returns-then-is_enabled-clause-stirs c = stirs-occurred c.args.self.now c.occur.new.self c.args.device c.occur.ensures
