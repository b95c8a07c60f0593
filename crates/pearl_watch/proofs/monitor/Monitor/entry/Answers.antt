use Rattle.std.proofs.Common.{sym, subst, arith}
use Rattle.std.proofs.lemmas.Result.{err_from_is_err_and}
use Rattle.pearl_machine.specs.Seen.{picked}
use Rattle.pearl_watch.specs.Monitored.{Monitored}
use Rattle.pearl_watch.proofs.Entering.{IsBetween, between_first, between_next, cut_next, fewer_left, is_next, is_over, next_fits, over_moment, over_watches, same_after}
use Rattle.pearl_watch.proofs.monitor.Monitor.entry.Goals as goal

pub marks-init : goal.marks-init
marks-init g c = record {
  so_far = subst (λ es. IsBetween c.args.self.now c.args.entry es c.args.self.now (g.K.Sink.taken c.args.sink.now) (g.K.Sink.taken c.args.sink.now))
      (sym c.new-steps.ensures) (between_first c.args.self.now c.args.entry (g.K.Sink.taken c.args.sink.now) c.requires.told c.requires.fits);
  later = omega arith;
}

pub returns-in_default-clause-ok : goal.returns-in_default-clause-ok
returns-in_default-clause-ok g c =
    let i = c.self.inside in
    let inside : Monitored = record { machine = i.machine; watch = i.watch; marks = i.marks } in
    let now : Monitored = record { machine = c.idle-idle.new.self; watch = i.watch; marks = i.marks } in
    let old = g.K.Sink.taken c.args.sink.now in
    let mid = g.K.Sink.taken c.marks.sink in
    let so_far = subst (λ m. IsBetween c.args.self.now c.args.entry c.marks.steps m old mid)
    (sym (same_after inside c.marks.self c.idle-idle.new.self c.self.view_is c.self.invariant.settled c.idle-idle.ensures.still)) c.marks.invariant.so_far in
    let none = is_over now c.marks.steps c.next.new.self (c.in_default.ensures (picked c.idle-idle.new.self) (sym c.idle-idle.ensures.idle)) in
    over_watches c.args.self.now now c.args.entry c.marks.steps old mid so_far c.idle-idle.ensures.settled none

pub returns-in_default-clause-moment : goal.returns-in_default-clause-moment
returns-in_default-clause-moment g c =
    let i = c.self.inside in
    let inside : Monitored = record { machine = i.machine; watch = i.watch; marks = i.marks } in
    let now : Monitored = record { machine = c.idle-idle.new.self; watch = i.watch; marks = i.marks } in
    let old = g.K.Sink.taken c.args.sink.now in
    let mid = g.K.Sink.taken c.marks.sink in
    let so_far = subst (λ m. IsBetween c.args.self.now c.args.entry c.marks.steps m old mid)
    (sym (same_after inside c.marks.self c.idle-idle.new.self c.self.view_is c.self.invariant.settled c.idle-idle.ensures.still)) c.marks.invariant.so_far in
    let none = is_over now c.marks.steps c.next.new.self (c.in_default.ensures (picked c.idle-idle.new.self) (sym c.idle-idle.ensures.idle)) in
    over_moment c.args.self.now now c.args.entry c.marks.steps old mid so_far c.idle-idle.ensures.settled none

pub mark-requires-clause-fits : goal.mark-requires-clause-fits
mark-requires-clause-fits g c =
    let i = c.self.inside in
    let inside : Monitored = record { machine = i.machine; watch = i.watch; marks = i.marks } in
    let now : Monitored = record { machine = c.idle-idle.new.self; watch = i.watch; marks = i.marks } in
    let old = g.K.Sink.taken c.args.sink.now in
    let mid = g.K.Sink.taken c.marks.sink in
    let so_far = subst (λ m. IsBetween c.args.self.now c.args.entry c.marks.steps m old mid)
    (sym (same_after inside c.marks.self c.idle-idle.new.self c.self.view_is c.self.invariant.settled c.idle-idle.ensures.still)) c.marks.invariant.so_far in
    let next = is_next now c.marks.steps c.next.new.self c.in-Some.one (c.in-Some.ensures (picked c.idle-idle.new.self) (sym c.idle-idle.ensures.idle)) in
    next_fits c.args.self.now now c.args.entry c.marks.steps c.next.new.self c.in-Some.one old mid so_far next

pub marks-smaller : goal.marks-smaller
marks-smaller g c =
    let i = c.self.inside in
    let inside : Monitored = record { machine = i.machine; watch = i.watch; marks = i.marks } in
    let now : Monitored = record { machine = c.idle-idle.new.self; watch = i.watch; marks = i.marks } in
    let old = g.K.Sink.taken c.args.sink.now in
    let mid = g.K.Sink.taken c.marks.sink in
    let so_far = subst (λ m. IsBetween c.args.self.now c.args.entry c.marks.steps m old mid)
    (sym (same_after inside c.marks.self c.idle-idle.new.self c.self.view_is c.self.invariant.settled c.idle-idle.ensures.still)) c.marks.invariant.so_far in
    let next = is_next now c.marks.steps c.next.new.self c.in-Some.one (c.in-Some.ensures (picked c.idle-idle.new.self) (sym c.idle-idle.ensures.idle)) in
    fewer_left c.args.self.now now c.args.entry c.marks.steps c.next.new.self c.in-Some.one old mid so_far next

pub marks-preserved : goal.marks-preserved
marks-preserved g c =
    let i = c.self.inside in
    let inside : Monitored = record { machine = i.machine; watch = i.watch; marks = i.marks } in
    let now : Monitored = record { machine = c.idle-idle.new.self; watch = i.watch; marks = i.marks } in
    let old = g.K.Sink.taken c.args.sink.now in
    let mid = g.K.Sink.taken c.marks.sink in
    let so_far = subst (λ m. IsBetween c.args.self.now c.args.entry c.marks.steps m old mid)
    (sym (same_after inside c.marks.self c.idle-idle.new.self c.self.view_is c.self.invariant.settled c.idle-idle.ensures.still)) c.marks.invariant.so_far in
    let next = is_next now c.marks.steps c.next.new.self c.in-Some.one (c.in-Some.ensures (picked c.idle-idle.new.self) (sym c.idle-idle.ensures.idle)) in
    record {
      so_far = between_next c.args.self.now now c.args.entry c.marks.steps c.next.new.self c.in-Some.one old mid so_far next c.mark.new.self _ c.mark.ensures.watches
          (g.K.Sink.taken c.mark.new.sink) c.mark.ensures.moment c.in_ok-mark.ensures.ok c.in_ok-mark.ensures.told;
      later = omega (arith, c.marks.invariant.later, c.mark.ensures.later);
    }

pub returns-in_err-mark-clause-err : goal.returns-in_err-mark-clause-err
returns-in_err-mark-clause-err g c =
    let i = c.self.inside in
    let inside : Monitored = record { machine = i.machine; watch = i.watch; marks = i.marks } in
    let now : Monitored = record { machine = c.idle-idle.new.self; watch = i.watch; marks = i.marks } in
    let old = g.K.Sink.taken c.args.sink.now in
    let mid = g.K.Sink.taken c.marks.sink in
    let so_far = subst (λ m. IsBetween c.args.self.now c.args.entry c.marks.steps m old mid)
    (sym (same_after inside c.marks.self c.idle-idle.new.self c.self.view_is c.self.invariant.settled c.idle-idle.ensures.still)) c.marks.invariant.so_far in
    let next = is_next now c.marks.steps c.next.new.self c.in-Some.one (c.in-Some.ensures (picked c.idle-idle.new.self) (sym c.idle-idle.ensures.idle)) in
    let p = err_from_is_err_and c.from_residual.result c.from_residual.ensures.1 in
    rw p.1 (cut_next c.args.self.now now c.args.entry c.marks.steps c.next.new.self c.in-Some.one old mid so_far next c.mark.new.self _ c.mark.ensures.watches
    (g.K.Sink.taken c.mark.new.sink) c.in_err-mark.ensures.err)
