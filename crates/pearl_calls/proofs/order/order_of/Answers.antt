use Rattle.std.proofs.Common.{◌≡◌, ◌<◌, ◌∙◌, length, get_or, refl, sym, ap, subst, arith, true≢false}
use Rattle.pearl_calls.proofs.Following.{none_calls_back}
use Rattle.pearl_calls.proofs.Waiting.{Between, waiting, within, enough, falls, next_between, turns, all_numbered}
use Rattle.pearl_calls.specs.Marks.{times}
use Rattle.pearl_calls.proofs.order.order_of.Goals as goal

pub callers_of-requires : goal.callers_of-requires
callers_of-requires c =
    let inside : c.in-Some.procedure < length c.args.callers.now =
    within c.args.callers.now c.loop-procedure.order.items c.loop-procedure.open_calls.items c.loop-procedure.ready c.loop-procedure.invariant
    c.in-Some.procedure c.take_first.new.self c.in-Some.ensures.rest c.in-Some.ensures.first in
    omega (arith, inside, c.in_ok-calling.ensures.length)

pub close_calls-requires : goal.close_calls-requires
close_calls-requires c =
    let inside : c.in-Some.procedure < length c.args.callers.now =
    within c.args.callers.now c.loop-procedure.order.items c.loop-procedure.open_calls.items c.loop-procedure.ready c.loop-procedure.invariant
    c.in-Some.procedure c.take_first.new.self c.in-Some.ensures.rest c.in-Some.ensures.first in
    enough c.args.callers.now c.loop-procedure.order.items c.loop-procedure.open_calls.items c.loop-procedure.ready c.loop-procedure.invariant
    c.in-Some.procedure c.take_first.new.self c.in-Some.ensures.rest c.in-Some.ensures.first c.callers_of.result.now
    (λ i. ap (λ z. times i z) c.callers_of.ensures ∙ c.in_ok-calling.ensures.callers c.in-Some.procedure i inside)

pub loop-procedure-smaller : goal.loop-procedure-smaller
loop-procedure-smaller c =
    subst (λ z. waiting c.args.callers.now z (length c.args.callers.now) < waiting c.args.callers.now c.loop-procedure.order.items (length c.args.callers.now))
    (sym c.in_ok-push.ensures.items)
    (falls c.args.callers.now c.loop-procedure.order.items c.loop-procedure.open_calls.items c.loop-procedure.ready c.loop-procedure.invariant
    c.in-Some.procedure c.take_first.new.self c.in-Some.ensures.rest c.in-Some.ensures.first)

pub loop-procedure-preserved : goal.loop-procedure-preserved
loop-procedure-preserved c =
    let inside : c.in-Some.procedure < length c.args.callers.now =
    within c.args.callers.now c.loop-procedure.order.items c.loop-procedure.open_calls.items c.loop-procedure.ready c.loop-procedure.invariant
    c.in-Some.procedure c.take_first.new.self c.in-Some.ensures.rest c.in-Some.ensures.first in
    subst (λ z. Between c.args.callers.now z c.close_calls.new.open_calls.items c.close_calls.new.ready) (sym c.in_ok-push.ensures.items)
    (next_between c.args.callers.now c.loop-procedure.order.items c.loop-procedure.open_calls.items c.loop-procedure.ready c.loop-procedure.invariant
    c.in-Some.procedure c.take_first.new.self c.in-Some.ensures.rest c.in-Some.ensures.first c.callers_of.result.now
    c.close_calls.new.open_calls.items c.close_calls.new.ready
    (λ i. ap (λ z. times i z) c.callers_of.ensures ∙ c.in_ok-calling.ensures.callers c.in-Some.procedure i inside)
    c.in_ok-close_calls.ensures.length c.in_ok-close_calls.ensures.closed c.in_ok-close_calls.ensures.ready)

pub returns-in-Some-first_open-clause-none : goal.returns-in-Some-first_open-clause-none
returns-in-Some-first_open-clause-none c = (
  λ e. turns c.args.callers.now c.loop-procedure.order.items c.loop-procedure.open_calls.items c.loop-procedure.ready c.loop-procedure.invariant
      c.in_default.ensures.none c.in-Some-first_open.field-0
      (subst (λ z. 0 < get_or z c.in-Some-first_open.field-0 0) c.as_slice.ensures.value c.in-Some-first_open.ensures.some),
  λ some. refl,
)

pub returns-clause-none : goal.returns-clause-none
returns-clause-none c = (
  λ e. absurd (true≢false e),
  λ some. absurd (none_calls_back c.args.callers.now c.loop-procedure.order.items
      (all_numbered c.args.callers.now c.loop-procedure.order.items c.loop-procedure.open_calls.items c.loop-procedure.ready c.loop-procedure.invariant
      c.in_default.ensures.none (λ i. subst (λ z. get_or z i 0 ≡ 0) c.as_slice.ensures.value (c.in-None.ensures.none i))) some),
)

pub returns-clause-order : goal.returns-clause-order
returns-clause-order c =
    all_numbered c.args.callers.now c.loop-procedure.order.items c.loop-procedure.open_calls.items c.loop-procedure.ready c.loop-procedure.invariant
    c.in_default.ensures.none (λ i. subst (λ z. get_or z i 0 ≡ 0) c.as_slice.ensures.value (c.in-None.ensures.none i))
