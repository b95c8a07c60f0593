use Rattle.std.proofs.Common.{refl}
use Rattle.pearl_top.proofs.TakenLaws.{on_err, on_ok}
use Rattle.pearl_top.proofs.follower.MonitorFollower.finish.Goals as goal

pub returns-clause-ok : goal.returns-clause-ok
returns-clause-ok g c = on_ok c.close.result _ _ (λ taken. (_, refl, taken)) c.close.ensures.ok

pub returns-clause-err : goal.returns-clause-err
returns-clause-err g c = on_err c.close.result _ _ (λ front. (_, refl, front)) c.close.ensures.err

pub returns-clause-cause : goal.returns-clause-cause
returns-clause-cause g c = c.close.ensures.cause

pub returns-clause-later : goal.returns-clause-later
returns-clause-later g c = c.close.ensures.later
