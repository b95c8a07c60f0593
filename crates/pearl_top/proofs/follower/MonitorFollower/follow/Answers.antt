use Rattle.pearl_top.proofs.TakenLaws.{on_ok}
use Rattle.pearl_top.proofs.follower.MonitorFollower.follow.Goals as goal

pub entry-requires-clause-told : goal.entry-requires-clause-told
entry-requires-clause-told g c = c.requires.rests.told

pub returns-clause-rests : goal.returns-clause-rests
returns-clause-rests g c = on_ok c.entry.result _ _ (λ told. record { settled = c.entry.ensures.settled; told = told }) c.entry.ensures.told

pub entry-requires-clause-fits : goal.entry-requires-clause-fits
entry-requires-clause-fits g c = c.requires.fits

pub returns-clause-ok : goal.returns-clause-ok
returns-clause-ok g c = c.entry.ensures.ok

pub returns-clause-err : goal.returns-clause-err
returns-clause-err g c = c.entry.ensures.err

pub returns-clause-moment : goal.returns-clause-moment
returns-clause-moment g c = c.entry.ensures.moment

pub returns-clause-cause : goal.returns-clause-cause
returns-clause-cause g c = c.entry.ensures.cause

pub returns-clause-later : goal.returns-clause-later
returns-clause-later g c = c.entry.ensures.later
