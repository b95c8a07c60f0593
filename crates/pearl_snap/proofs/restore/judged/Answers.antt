use Rattle.std.proofs.Common.{subst}
use Rattle.pearl_snap.specs.Restoring.{Restores}
use Rattle.pearl_snap.proofs.Restored.{unsound_breaks}
use Rattle.pearl_snap.proofs.restore.judged.Goals as goal

pub returns-in-Ok : goal.returns-in-Ok
returns-in-Ok c = subst (λ o. Restores o c.args.snapshot.saved c.judged_state.result) c.in-Ok.ensures.ok.0 c.judged_state.ensures

pub returns-in-Err-Unsound : goal.returns-in-Err-Unsound
returns-in-Err-Unsound c = unsound_breaks c.args.snapshot.object c.args.snapshot.saved c.in-Err-Unsound.field-0 _ _ _ c.in-Err-Unsound.field-0-is c.in-Err-Unsound.ensures.err
