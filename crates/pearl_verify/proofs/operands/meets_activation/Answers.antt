use Rattle.std.proofs.Common.{◌+◌, ap, ◌∙◌}
use Rattle.pearl_verify.proofs.Asking.{asked_activation, and_first, and_second, and_third}
use Rattle.pearl_verify.proofs.operands.meets_activation.Goals as goal

pub returns-then-not-meets_priority : goal.returns-then-not-meets_priority
returns-then-not-meets_priority c =
    and_first _ _ _ c.if-not-meets_priority.ensures
    (asked_activation c.args.a.priority c.args.a.start c.args.a.repeat c.args.kinds.now _ _ c.priority_count-above.ensures.value
    (ap (λ k. c.priority_count-above.result + k) c.repeat_count.ensures))

pub returns-then-not-meets_repeat : goal.returns-then-not-meets_repeat
returns-then-not-meets_repeat c =
    and_second _ _ _ _ c.if-not-meets_priority.ensures c.if-not-meets_repeat.ensures
    (asked_activation c.args.a.priority c.args.a.start c.args.a.repeat c.args.kinds.now _ _ c.priority_count-above.ensures.value
    (ap (λ k. c.priority_count-above.result + k) c.repeat_count.ensures))

pub returns : goal.returns
returns c =
    c.meets_start.ensures
    ∙ and_third _ _ _ _ c.if-not-meets_priority.ensures c.if-not-meets_repeat.ensures
    (asked_activation c.args.a.priority c.args.a.start c.args.a.repeat c.args.kinds.now _ _ c.priority_count-above.ensures.value
    (ap (λ k. c.priority_count-above.result + k) c.repeat_count.ensures))
