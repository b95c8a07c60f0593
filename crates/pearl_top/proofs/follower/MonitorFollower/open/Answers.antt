use Rattle.std.proofs.Common.{None, ap, ◌∙◌}
use Rattle.pearl_rules.specs.Runs.{unsettled}
use Rattle.pearl_machine.specs.Seen.{Seen}
use Rattle.pearl_top.proofs.TakenLaws.{on_any, on_ok}
use Rattle.pearl_top.proofs.WatchRuns.{none_told, watches_told}
use Rattle.pearl_top.proofs.follower.MonitorFollower.open.Goals as goal

pub returns-clause-ok : goal.returns-clause-ok
returns-clause-ok g c = c.tell.ensures.ok None (none_told c.args.self.now c.requires)

pub returns-clause-err : goal.returns-clause-err
returns-clause-err g c = c.tell.ensures.err None (none_told c.args.self.now c.requires)

pub returns-clause-goes : goal.returns-clause-goes
returns-clause-goes g c =
    on_any c.tell.result _ (watches_told c.args.self.now c.tell.new.self c.tell.ensures.machine c.tell.ensures.marks c.tell.ensures.names c.tell.ensures.watched)

pub returns-clause-rests : goal.returns-clause-rests
returns-clause-rests g c =
    on_ok c.tell.result _ _ (λ told. record {
      settled = ap (λ (seen : Seen). unsettled seen.state) c.tell.ensures.machine ∙ c.requires.settled;
      told = told;
    }) c.tell.ensures.told

pub returns-clause-cause : goal.returns-clause-cause
returns-clause-cause g c = c.tell.ensures.cause

pub returns-clause-later : goal.returns-clause-later
returns-clause-later g c = c.tell.ensures.later
