use Rattle.std.proofs.Common.{ap, [], ◌∷◌, refl}
use Rattle.pearl_machine.specs.Seen.{Seen}
use Rattle.pearl_machine.proofs.Entering.{on_ok, on_err, on_err₂, entered_from, entered_turn, entered_state, entered_arrival, comes_alone}
use Rattle.pearl_machine.proofs.Last.{last_settled, last_state, last_arrival, cut_of_last}
use Rattle.pearl_rules.specs.declared.entry.Entry.TheVariants.{Run, Tick, Pass, Turn, State}
use Rattle.pearl_machine.proofs.machine.Machine.entry.Goals as goal

pub returns-in-Run-clause-ok : goal.returns-in-Run-clause-ok
returns-in-Run-clause-ok g c =
    on_ok c.run.result (entered_from _ _ _ _ (Run c.in-Run.count) _ _ c.settle.ensures.object c.settle.ensures.handles c.in-Run.is) c.run.ensures.ok

pub returns-in-Run-clause-last : goal.returns-in-Run-clause-last
returns-in-Run-clause-last g c =
    on_err c.run.result (last_settled _ _ _ _ (Run c.in-Run.count) _ _ c.settle.ensures.object c.settle.ensures.handles c.in-Run.is) c.run.ensures.last

pub returns-in-Run-clause-err : goal.returns-in-Run-clause-err
returns-in-Run-clause-err g c =
    on_err c.run.result
    (λ last. cut_of_last _ _ _ _ _ (last_settled _ _ _ _ (Run c.in-Run.count) _ _ c.settle.ensures.object c.settle.ensures.handles c.in-Run.is last)) c.run.ensures.last

pub returns-in-Tick-clause-ok : goal.returns-in-Tick-clause-ok
returns-in-Tick-clause-ok g c =
    on_ok c.tick.result (entered_from _ _ _ _ (Tick c.in-Tick.count) _ _ c.settle.ensures.object c.settle.ensures.handles c.in-Tick.is) c.tick.ensures.ok

pub returns-in-Tick-clause-last : goal.returns-in-Tick-clause-last
returns-in-Tick-clause-last g c =
    on_err c.tick.result (last_settled _ _ _ _ (Tick c.in-Tick.count) _ _ c.settle.ensures.object c.settle.ensures.handles c.in-Tick.is) c.tick.ensures.last

pub returns-in-Tick-clause-err : goal.returns-in-Tick-clause-err
returns-in-Tick-clause-err g c =
    on_err c.tick.result
    (λ last. cut_of_last _ _ _ _ _ (last_settled _ _ _ _ (Tick c.in-Tick.count) _ _ c.settle.ensures.object c.settle.ensures.handles c.in-Tick.is last)) c.tick.ensures.last

pub returns-in-Pass-clause-ok : goal.returns-in-Pass-clause-ok
returns-in-Pass-clause-ok g c =
    on_ok c.pass.result (entered_from _ _ _ _ (Pass c.in-Pass.times c.in-Pass.picks) _ _ c.settle.ensures.object c.settle.ensures.handles c.in-Pass.is) c.pass.ensures.ok

pub returns-in-Pass-clause-last : goal.returns-in-Pass-clause-last
returns-in-Pass-clause-last g c =
    on_err c.pass.result (last_settled _ _ _ _ (Pass c.in-Pass.times c.in-Pass.picks) _ _ c.settle.ensures.object c.settle.ensures.handles c.in-Pass.is) c.pass.ensures.last

pub returns-in-Pass-clause-err : goal.returns-in-Pass-clause-err
returns-in-Pass-clause-err g c =
    on_err c.pass.result
    (λ last. cut_of_last _ _ _ _ _ (last_settled _ _ _ _ (Pass c.in-Pass.times c.in-Pass.picks) _ _ c.settle.ensures.object c.settle.ensures.handles c.in-Pass.is last)) c.pass.ensures.last

pub returns-in-Turn-clause-ok : goal.returns-in-Turn-clause-ok
returns-in-Turn-clause-ok g c =
    entered_from _ _ _ _ (Turn c.in-Turn.task) _ _ c.settle.ensures.object c.settle.ensures.handles c.in-Turn.is
    (entered_turn c.settle.new.self c.turn.new.self c.in-Turn.task (g.K.Sink.taken c.args.sink.now) c.settle.ensures.settled c.turn.ensures.turns c.turn.ensures.taken)

pub returns-in-State-clause-ok : goal.returns-in-State-clause-ok
returns-in-State-clause-ok g c =
    on_ok c.tell.result
    (λ takes. entered_from _ _ _ _ State _ _ c.settle.ensures.object c.settle.ensures.handles c.in-State.is
    (entered_state c.settle.new.self c.show.new.self c.tell.new.self (g.K.Sink.taken c.args.sink.now) (g.K.Sink.taken c.tell.new.sink) c.settle.ensures.settled
    (ap (λ (s : Seen). s.object) c.show.ensures.same) c.show.ensures.tells c.tell.ensures.same takes)) c.tell.ensures.ok

pub returns-in-State-clause-last : goal.returns-in-State-clause-last
returns-in-State-clause-last g c =
    on_err c.tell.result
    (last_state _ _ _ _ c.args.entry.now _ _ c.settle.ensures.object c.settle.ensures.handles c.in-State.is c.settle.ensures.settled
    (ap (λ (s : Seen). s.object) c.show.ensures.same) c.show.ensures.tells c.tell.ensures.same) c.tell.ensures.err

pub returns-in-State-clause-err : goal.returns-in-State-clause-err
returns-in-State-clause-err g c =
    on_err c.tell.result
    (λ cut. cut_of_last _ _ _ _ _
    (last_state _ _ _ _ c.args.entry.now _ _ c.settle.ensures.object c.settle.ensures.handles c.in-State.is c.settle.ensures.settled
    (ap (λ (s : Seen). s.object) c.show.ensures.same) c.show.ensures.tells c.tell.ensures.same cut)) c.tell.ensures.err

pub returns-in_default-clause-ok : goal.returns-in_default-clause-ok
returns-in_default-clause-ok g c =
    let entry = c.args.entry.now in
    let d = c.in_default in
    on_ok c.finish.result
    (λ lines. entered_from _ _ _ _ entry _ _ c.settle.ensures.object c.settle.ensures.handles refl
    (entered_arrival c.settle.new.self c.arrive.new.self c.finish.new.self entry (g.K.Sink.taken c.args.sink.now) (g.K.Sink.taken c.finish.new.sink) c.settle.ensures.settled
    c.arrive.ensures.object (comes_alone entry d.not-Run d.not-Tick d.not-Pass d.not-Turn d.not-State) c.arrive.ensures.arrives
    (c.finish.ensures.handles c.settle.new.self (entry ∷ []) [] c.arrive.new.self.state.core.told c.arrive.ensures.object) lines)) c.finish.ensures.ok

pub returns-in_default-clause-last : goal.returns-in_default-clause-last
returns-in_default-clause-last g c =
    let entry = c.args.entry.now in
    let d = c.in_default in
    on_err₂ c.finish.result
    (last_arrival _ _ _ _ entry _ _ c.settle.ensures.object c.settle.ensures.handles
    (comes_alone entry d.not-Run d.not-Tick d.not-Pass d.not-Turn d.not-State) c.settle.ensures.settled c.arrive.ensures.object c.arrive.ensures.arrives)
    c.finish.ensures.stays c.finish.ensures.err

pub returns-in_default-clause-err : goal.returns-in_default-clause-err
returns-in_default-clause-err g c =
    let entry = c.args.entry.now in
    let d = c.in_default in
    on_err₂ c.finish.result
    (λ same cut. cut_of_last _ _ _ _ _
    (last_arrival _ _ _ _ entry _ _ c.settle.ensures.object c.settle.ensures.handles
    (comes_alone entry d.not-Run d.not-Tick d.not-Pass d.not-Turn d.not-State) c.settle.ensures.settled c.arrive.ensures.object c.arrive.ensures.arrives same cut))
    c.finish.ensures.stays c.finish.ensures.err
