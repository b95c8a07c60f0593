use Rattle.std.proofs.Common.{ap, subst, sym, ◌∙◌, arith}
use Rattle.std.proofs.lemmas.Bool.{OnFalse_at, OnTrue_at, false≢true}
use Rattle.std.proofs.lemmas.Result.{err_from_is_err_and}
use Rattle.pearl_instructions.specs.Actions.{IsSlotNumber}
use Rattle.pearl_io.specs.Outside.{Takes, TakesFront}
use Rattle.pearl_rules.specs.Core.{value_at}
use Rattle.pearl_rules.proofs.Offered.{there_at}
use Rattle.pearl_watch.specs.Lines.{IsLast}
use Rattle.pearl_watch.specs.Monitored.{TellsPlace}
use Rattle.pearl_watch.proofs.Telling.{no_line, slot_is, takes_nothing, tells_again, tells_now, told_as}
use Rattle.pearl_watch.proofs.tell.tell_place.Goals as goal

pub slot-value-requires : goal.slot-value-requires
slot-value-requires g c =
    let w = c.args.watch.now in
    let here = there_at w.watched c.args.place c.requires.within in
    subst (λ slot. IsSlotNumber c.args.machine.now.object slot)
    (sym (slot_is w.watched c.slots.result.now c.args.place here.0 c.slots.ensures.slots here.1)) (c.requires.slots c.args.place here.0 here.1)

pub returns-in_err-put_all-clause-tells : goal.returns-in_err-put_all-clause-tells
returns-in_err-put_all-clause-tells g c =
    let w = c.args.watch.now in
    let core = c.args.machine.now.state.core in
    let here = there_at w.watched c.args.place c.requires.within in
    let holds = c.slot-value.ensures.value
    ∙ ap (value_at core.slots) (slot_is w.watched c.slots.result.now c.args.place here.0 c.slots.ensures.slots here.1) in
    tells_now w c.line.new.self c.args.marks c.now.result c.args.place c.slot-value.result.now c.line.new.into.items core here.0 here.1 holds
    (omega (arith, c.requires.within, c.slots.ensures.given)) (OnTrue_at c.if-line.true c.line.ensures.told)

pub returns-in_err-put_all-clause-err : goal.returns-in_err-put_all-clause-err
returns-in_err-put_all-clause-err g c =
    let w = c.args.watch.now in
    let core = c.args.machine.now.state.core in
    let here = there_at w.watched c.args.place c.requires.within in
    let holds = c.slot-value.ensures.value
    ∙ ap (value_at core.slots) (slot_is w.watched c.slots.result.now c.args.place here.0 c.slots.ensures.slots here.1) in
    let line = told_as w c.line.new.self c.args.marks c.now.result c.args.place c.slot-value.result.now c.line.new.into.items core here.0
    (omega (arith, c.ranges.marks.fits)) c.now.ensures holds here.1 c.slot-value.ensures.is_value
    (λ last. false≢true (sym (c.line.ensures.last.1 last) ∙ c.if-line.true)) (OnTrue_at c.if-line.true c.line.ensures.told) in
    let p = err_from_is_err_and c.from_residual.result c.from_residual.ensures.1 in
    rw p.1 (subst (λ text. TakesFront (g.K.Sink.taken c.args.sink.now) (g.K.Sink.taken c.put_all.new.sink) text) (c.as_slice.ensures.value ∙ line)
    c.in_err-put_all.ensures.err)

pub returns-in_ok-put_all-clause-tells : goal.returns-in_ok-put_all-clause-tells
returns-in_ok-put_all-clause-tells g c =
    let w = c.args.watch.now in
    let core = c.args.machine.now.state.core in
    let here = there_at w.watched c.args.place c.requires.within in
    let holds = c.slot-value.ensures.value
    ∙ ap (value_at core.slots) (slot_is w.watched c.slots.result.now c.args.place here.0 c.slots.ensures.slots here.1) in
    tells_now w c.line.new.self c.args.marks c.now.result c.args.place c.slot-value.result.now c.line.new.into.items core here.0 here.1 holds
    (omega (arith, c.requires.within, c.slots.ensures.given)) (OnTrue_at c.if-line.true c.line.ensures.told)

pub returns-in_ok-put_all-clause-ok : goal.returns-in_ok-put_all-clause-ok
returns-in_ok-put_all-clause-ok g c =
    let w = c.args.watch.now in
    let core = c.args.machine.now.state.core in
    let here = there_at w.watched c.args.place c.requires.within in
    let holds = c.slot-value.ensures.value
    ∙ ap (value_at core.slots) (slot_is w.watched c.slots.result.now c.args.place here.0 c.slots.ensures.slots here.1) in
    let line = told_as w c.line.new.self c.args.marks c.now.result c.args.place c.slot-value.result.now c.line.new.into.items core here.0
    (omega (arith, c.ranges.marks.fits)) c.now.ensures holds here.1 c.slot-value.ensures.is_value
    (λ last. false≢true (sym (c.line.ensures.last.1 last) ∙ c.if-line.true)) (OnTrue_at c.if-line.true c.line.ensures.told) in
    subst (λ text. Takes (g.K.Sink.taken c.args.sink.now) (g.K.Sink.taken c.put_all.new.sink) text) (c.as_slice.ensures.value ∙ line)
    c.in_ok-put_all.ensures.ok

pub returns-else-line-clause-tells : goal.returns-else-line-clause-tells
returns-else-line-clause-tells g c =
    let w = c.args.watch.now in
    let core = c.args.machine.now.state.core in
    let here = there_at w.watched c.args.place c.requires.within in
    let holds = c.slot-value.ensures.value
    ∙ ap (value_at core.slots) (slot_is w.watched c.slots.result.now c.args.place here.0 c.slots.ensures.slots here.1) in
    let last = subst (λ v. IsLast w c.args.place v) holds (c.line.ensures.last.0 c.if-line.false) in
    let same = OnFalse_at c.if-line.false c.line.ensures.none in
    subst (λ n. TellsPlace w n core c.args.place) (sym same.1) (tells_again w core c.args.place here.0 here.1 last)

pub returns-else-line-clause-ok : goal.returns-else-line-clause-ok
returns-else-line-clause-ok g c =
    let w = c.args.watch.now in
    let core = c.args.machine.now.state.core in
    let here = there_at w.watched c.args.place c.requires.within in
    let holds = c.slot-value.ensures.value
    ∙ ap (value_at core.slots) (slot_is w.watched c.slots.result.now c.args.place here.0 c.slots.ensures.slots here.1) in
    let last = subst (λ v. IsLast w c.args.place v) holds (c.line.ensures.last.0 c.if-line.false) in
    subst (λ text. Takes (g.K.Sink.taken c.args.sink.now) (g.K.Sink.taken c.args.sink.now) text)
    (sym (no_line w c.args.marks core c.args.place here.0 here.1 last)) (takes_nothing (g.K.Sink.taken c.args.sink.now))
