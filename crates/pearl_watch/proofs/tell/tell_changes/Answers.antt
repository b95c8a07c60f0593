use Rattle.std.proofs.Common.{length, ap, sym, subst, arith}
use Rattle.std.proofs.lemmas.List.{length-map}
use Rattle.std.proofs.lemmas.Result.{err_from_is_err_and}
use Rattle.pearl_watch.specs.Monitored.{AreSlots}
use Rattle.pearl_watch.proofs.Telling.{cut_off, none_yet, one_on, taken_all, told_all}
use Rattle.pearl_watch.proofs.tell.tell_changes.Goals as goal

pub loop-place-init : goal.loop-place-init
loop-place-init g c = record {
  so_far = none_yet c.args.watch.now c.args.marks c.args.machine.now.state.core (g.K.Sink.taken c.args.sink.now);
  count = omega (arith, ap length c.slots-count.ensures.slots, length-map c.args.watch.now.watched (λ s. s.slot));
  within = omega arith;
  later = omega arith;
}

pub tell_place-requires-clause-within : goal.tell_place-requires-clause-within
tell_place-requires-clause-within g c =
    let i = c.loop-place.invariant in omega (arith, ap length i.so_far.watched, i.count, i.within)

pub tell_place-requires-clause-slots : goal.tell_place-requires-clause-slots
tell_place-requires-clause-slots g c =
    subst (λ ws. AreSlots c.args.machine.now.object ws) (sym c.loop-place.invariant.so_far.watched) c.requires

pub returns-in_err-tell_place-clause-err : goal.returns-in_err-tell_place-clause-err
returns-in_err-tell_place-clause-err g c = λ before told.
    let i = c.loop-place.invariant in
    let p = err_from_is_err_and c.from_residual.result c.from_residual.ensures.1 in
    rw p.1 (cut_off c.args.watch.now c.loop-place.watch c.args.marks c.args.machine.now.state.core c.loop-place.place (g.K.Sink.taken c.args.sink.now)
    (g.K.Sink.taken c.loop-place.sink) i.so_far before (g.K.Sink.taken c.tell_place.new.sink) told (omega (arith, i.count, i.within))
    c.in_err-tell_place.ensures.err)

pub loop-place-preserved : goal.loop-place-preserved
loop-place-preserved g c =
    let i = c.loop-place.invariant in record {
      so_far = one_on c.args.watch.now c.loop-place.watch c.args.marks c.args.machine.now.state.core c.loop-place.place (g.K.Sink.taken c.args.sink.now)
          (g.K.Sink.taken c.loop-place.sink) i.so_far c.tell_place.new.watch (g.K.Sink.taken c.tell_place.new.sink) c.tell_place.ensures.tells
          c.in_ok-tell_place.ensures.ok;
      count = i.count;
      within = omega (arith, i.within);
      later = omega (arith, i.later, c.tell_place.ensures.later);
    }

pub returns-clause-ok : goal.returns-clause-ok
returns-clause-ok g c = λ before told.
    let i = c.loop-place.invariant in
    taken_all c.args.watch.now c.loop-place.watch c.args.marks c.args.machine.now.state.core c.loop-place.place (g.K.Sink.taken c.args.sink.now)
    (g.K.Sink.taken c.loop-place.sink) i.so_far (omega (arith, i.count, i.within)) before told

pub returns-clause-told : goal.returns-clause-told
returns-clause-told g c =
    let i = c.loop-place.invariant in
    told_all c.args.watch.now c.loop-place.watch c.args.marks c.args.machine.now.state.core c.loop-place.place (g.K.Sink.taken c.args.sink.now)
    (g.K.Sink.taken c.loop-place.sink) i.so_far (omega (arith, i.count, i.within))
