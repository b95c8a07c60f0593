use Rattle.std.proofs.Common.{◌+◌, Some, OnOk, OnErr, ap, subst, ◌∙◌, arith}
use Rattle.pearl_io.specs.Outside.{Takes, TakesFront}
use Rattle.pearl_rules.specs.declared.entry.Entry.TheVariants.{Tick}
use Rattle.pearl_watch.proofs.Entering.{mark_watches, takes_still, told_before, told_text}
use Rattle.pearl_watch.proofs.monitor.Monitor.mark.Goals as goal

pub returns-clause-ok : goal.returns-clause-ok
returns-clause-ok g c =
    takes_still c.args.self.now c.step.new.self (c.args.self.now.marks + 1) (g.K.Sink.taken c.args.sink.now)
    (c.step.ensures.slots (c.in-Tick.is ∙ ap Tick (omega (arith, c.if-count-eq1.true))))

pub returns-2-clause-watches : goal.returns-2-clause-watches
returns-2-clause-watches g c = λ from coming next is.
    mark_watches c.args.self.now c.step.new.self c.tell.new.self c.step.ensures.watch c.step.ensures.marks c.tell.ensures.machine c.tell.ensures.marks
    c.tell.ensures.names c.tell.ensures.watched from coming.rest (c.step.ensures.watches from coming next is)

pub returns-2-clause-ok : goal.returns-2-clause-ok
returns-2-clause-ok g c =
    let old = c.args.self.now in
    subst (λ text. OnOk c.tell.result (Takes (g.K.Sink.taken c.args.sink.now) (g.K.Sink.taken c.tell.new.sink) text))
    (told_text old c.step.new.self c.tell.new.self c.step.ensures.watch c.step.ensures.marks c.tell.ensures.machine)
    (c.tell.ensures.ok (Some old.machine.state.core)
    (told_before old c.step.new.self c.tell.new.self c.step.ensures.watch c.step.ensures.marks c.tell.ensures.machine c.requires.told))

pub returns-2-clause-err : goal.returns-2-clause-err
returns-2-clause-err g c =
    let old = c.args.self.now in
    subst (λ text. OnErr c.tell.result (TakesFront (g.K.Sink.taken c.args.sink.now) (g.K.Sink.taken c.tell.new.sink) text))
    (told_text old c.step.new.self c.tell.new.self c.step.ensures.watch c.step.ensures.marks c.tell.ensures.machine)
    (c.tell.ensures.err (Some old.machine.state.core)
    (told_before old c.step.new.self c.tell.new.self c.step.ensures.watch c.step.ensures.marks c.tell.ensures.machine c.requires.told))
