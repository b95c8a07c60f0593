use Rattle.std.proofs.Common.{map, ap, subst, sym, ◌∙◌}
use Rattle.std.specs.List.{AllByRecursion}
use Rattle.pearl_rules.specs.Core.{declared_of}
use Rattle.pearl_rules.specs.Pick.{turned}
use Rattle.pearl_rules.specs.Slots.{IsUrgentRow, HasKinds}
use Rattle.pearl_rules.proofs.Offered.{turned-is}
use Rattle.pearl_records.proofs.Cores.{kinds_last}
use Rattle.pearl_records.proofs.laws.cores_stay_recordable.Goals as goal

pub returns-clause-opens : goal.returns-clause-opens
returns-clause-opens c = λ setup is. record {
  kinds = c.keeps_kinds.ensures.opens setup is.slots is.devices;
  counts = c.counts_stay_counts.ensures.opens setup is.semaphores;
  declared = c.tasks_keep_their_declared_priority.ensures.opens setup;
  urgent = c.tasks_keep_their_declared_priority.ensures.urgent_at_start setup is.tasks;
  times = c.plans_have_their_series.ensures.opens setup;
  last = c.tasks_alone_act.ensures.opens setup;
}

pub returns-clause-acts : goal.returns-clause-acts
returns-clause-acts c = λ setup core own action there active fits is. record {
  kinds = c.keeps_kinds.ensures.slots setup core own action is.kinds fits;
  counts = c.counts_stay_counts.ensures.acts setup core own action is.counts fits;
  declared = c.tasks_keep_their_declared_priority.ensures.acts core own action ∙ is.declared;
  urgent = c.tasks_keep_their_declared_priority.ensures.urgent setup core own action is.urgent fits;
  times = c.plans_have_their_series.ensures.acts setup core own action active is.times fits;
  last = c.tasks_alone_act.ensures.acts core own action there;
}

pub returns-clause-turns : goal.returns-clause-turns
returns-clause-turns c = λ setup core offers t is.
    let same = c.tasks_keep_their_declared_priority.ensures.turns core offers t in
    record {
      kinds = subst (HasKinds setup) (sym (turned-is core offers t)) (kinds_last setup core (turned core offers t).last is.kinds);
      counts = c.counts_stay_counts.ensures.turns setup core offers t is.counts;
      declared = ap (map declared_of) same ∙ is.declared;
      urgent = subst (AllByRecursion IsUrgentRow) (sym same) is.urgent;
      times = c.plans_have_their_series.ensures.turns setup core offers t is.times;
      last = c.tasks_alone_act.ensures.turns core offers t is.last;
    }

pub returns-clause-passes : goal.returns-clause-passes
returns-clause-passes c = λ setup core later is. record {
  kinds = c.keeps_kinds.ensures.passes setup core is.kinds;
  counts = c.counts_stay_counts.ensures.passes setup core is.counts;
  declared = c.tasks_keep_their_declared_priority.ensures.passes core ∙ is.declared;
  urgent = c.tasks_keep_their_declared_priority.ensures.urgent_later core is.urgent;
  times = c.plans_have_their_series.ensures.passes setup core later is.times;
  last = c.tasks_alone_act.ensures.passes core is.last;
}

pub returns-clause-arrives : goal.returns-clause-arrives
returns-clause-arrives c = λ setup core entry fits is. record {
  kinds = c.keeps_kinds.ensures.arrives setup core entry is.kinds fits;
  counts = c.counts_stay_counts.ensures.arrives setup core entry is.counts;
  declared = c.tasks_keep_their_declared_priority.ensures.arrives core entry ∙ is.declared;
  urgent = c.tasks_keep_their_declared_priority.ensures.urgent_then core entry is.urgent;
  times = c.plans_have_their_series.ensures.arrives setup core entry is.times fits;
  last = c.tasks_alone_act.ensures.arrives core entry is.last;
}

pub returns-clause-is_of : goal.returns-clause-is_of
returns-clause-is_of c = λ setup core is near. record {
  kinds = is.kinds;
  counts = is.counts;
  declared = is.declared;
  urgent = is.urgent;
  times = is.times near;
  last = is.last;
}
