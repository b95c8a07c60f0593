use Rattle.std.proofs.Common.{arith, Bool}
use Rattle.pearl_tree.specs.declared.name.Name.{Name}
use Rattle.pearl_names.specs.declared.scope.View.TheVariants.{Within}
use Rattle.pearl_check.specs.Views.{seen, is_semaphore}
use Rattle.pearl_check.proofs.SeenSemaphores.{told_nothing, told_rest, told_all}
use Rattle.pearl_check.proofs.semaphores.tell_repeats.Goals as goal

pub loop-names-init : goal.loop-names-init
loop-names-init c = λ table holds. told_nothing _ _ _ _ c.new-seen.ensures.empty

pub loop-names-preserved : goal.loop-names-preserved
loop-names-preserved c = λ table holds.
    let test : Name → Bool = λ name. is_semaphore (seen table (Within c.args.scope) name) in
    told_rest test _ _ _ _ _ _ c.loop-names.names.now c.name-item.result (omega (arith, c.in-len1-up.len_at_least)) c.name-item.is
    (c.in_ok-tell_semaphore.ensures table holds) (c.loop-names.invariant table holds)

pub returns : goal.returns
returns c = λ table holds.
    let test : Name → Bool = λ name. is_semaphore (seen table (Within c.args.scope) name) in
    told_all test _ _ _ _ c.loop-names.names.now c.in_default.len_below (c.loop-names.invariant table holds)
