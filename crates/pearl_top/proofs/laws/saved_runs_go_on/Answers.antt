use Rattle.pearl_run_laws.proofs.Offered.{moments_come}
use Rattle.pearl_top.proofs.SavedFiles.{saved_runs_go_on}
use Rattle.pearl_top.proofs.laws.saved_runs_go_on.Goals as goal

pub returns : goal.returns
returns c =
    saved_runs_go_on (record {
      moments = moments_come c.time_passes.ensures.acts c.time_passes.ensures.passes c.time_passes.ensures.arrives;
      join = c.journals_join.ensures.lines;
      go_on = c.journals_go_on.ensures;
      again = λ o valid lawful es fits n near settled more.
          let comes = c.offers_come_again.ensures o valid lawful es fits n near settled more in (comes.steps, comes.is, comes.each);
    }) c.snapshots_are_read_as_they_are_spelled.ensures.lawful
