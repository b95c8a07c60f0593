use Rattle.pearl_watch.proofs.monitor.Monitor.tell.Goals as goal

pub returns-clause-ok : goal.returns-clause-ok
returns-clause-ok g c = rw (← c.self.view_is) (λ before told. c.tell_changes.ensures.ok before told)
