use Rattle.std.proofs.Common.{refl}
use Rattle.pearl_watch.specs.Monitored.{Monitored}
use Rattle.pearl_watch.proofs.Entering.{step_slots, step_watches}
use Rattle.pearl_watch.proofs.monitor.Monitor.step.Goals as goal

pub returns-clause-watches : goal.returns-clause-watches
returns-clause-watches c =
    let m = c.self.inside in
    let old : Monitored = record { machine = m.machine; watch = m.watch; marks = m.marks } in
    rw (← c.self.view_is)
    (step_watches old (record { machine = c.enter.new.machine; watch = m.watch; marks = c.saturating_add-self-inside.result }) c.args.one.now
    c.enter.ensures.handles.0 c.makes_the_mark_that_comes.ensures c.self.invariant.settled c.enter.ensures.handles.1 c.enter.ensures.object refl
    c.saturating_add-self-inside.ensures)

pub returns-clause-slots : goal.returns-clause-slots
returns-clause-slots c =
    let m = c.self.inside in
    rw (← c.self.view_is)
    (step_slots m.machine c.enter.new.machine c.args.one.now c.enter.ensures.handles.0 c.makes_the_mark_that_comes.ensures c.self.invariant.settled
    c.enter.ensures.handles.1)
