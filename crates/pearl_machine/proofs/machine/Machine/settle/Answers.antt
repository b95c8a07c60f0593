use Rattle.std.proofs.Common.{[], refl, ap, ◌∙◌}
use Rattle.pearl_rules.specs.Runs.{unsettled}
use Rattle.pearl_machine.specs.Seen.{Seen}
use Rattle.pearl_machine.proofs.Going.{handles_none, handles_on, handles_settle}
use Rattle.pearl_machine.proofs.Entering.{owing_less, settled_object, settled_core, settled_told, settled_moment, none_settles}
use Rattle.pearl_machine.proofs.machine.Machine.settle.Goals as goal

pub loop-init : goal.loop-init
loop-init c = record {
  object = refl;
  core = refl;
  told = refl;
  moment = refl;
  still = λ settled. refl;
  handles = λ from. handles_none c.args.self.now from;
}

pub loop-smaller : goal.loop-smaller
loop-smaller c = owing_less c.loop.self c.settle_first.new.self c.loop-test.ensures

pub loop-preserved : goal.loop-preserved
loop-preserved c = record {
  object = settled_object c.loop.self c.settle_first.new.self c.loop-test.ensures ∙ c.loop.invariant.object;
  core = settled_core c.loop.self c.settle_first.new.self c.loop-test.ensures ∙ c.loop.invariant.core;
  told = settled_told c.loop.self c.settle_first.new.self c.loop-test.ensures ∙ c.loop.invariant.told;
  moment = settled_moment c.loop.self c.settle_first.new.self c.loop-test.ensures ∙ c.loop.invariant.moment;
  still = λ settled. absurd (none_settles c.loop.self c.settle_first.new.self c.loop-test.ensures
      (ap (λ (x : Seen). unsettled x.state) (c.loop.invariant.still settled) ∙ settled));
  handles = λ from. handles_on c.args.self.now c.loop.self c.settle_first.new.self from from from [] c.loop.invariant.object
      (c.loop.invariant.handles from) (handles_settle c.loop.self c.settle_first.new.self from c.loop-test.ensures);
}
