use Rattle.std.proofs.Common.{subst, sym, take}
use Rattle.std.proofs.lemmas.List.{take_more}
use Rattle.pearl_names.specs.Steps.{HasSteps}
use Rattle.pearl_names.proofs.length.steps_of.Goals as goal

pub loop-default-preserved : goal.loop-default-preserved
loop-default-preserved c =
    let set = c.args.set.now in
    let i = c.loop-default.default-index in
    subst (λ l. HasSteps l c.args.sort c.add_default.new.steps.items) (sym (take_more set i _ c.loop-default-test.true))
    (c.in_ok-add_default.ensures (take i set) c.loop-default.invariant)
