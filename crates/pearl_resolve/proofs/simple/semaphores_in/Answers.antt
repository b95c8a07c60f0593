use Rattle.std.proofs.Common.{map, ap, ◌∙◌}
use Rattle.pearl_names.proofs.Offered.{all_taken}
use Rattle.pearl_names.specs.declared.scope.View.TheVariants.{Within}
use Rattle.pearl_resolve.specs.Expressions.{number_of}
use Rattle.pearl_resolve.proofs.StatementParts.{one_mapped}
use Rattle.pearl_resolve.proofs.simple.semaphores_in.Goals as goal

pub loop-name-preserved : goal.loop-name-preserved
loop-name-preserved c = λ of holds.
    one_mapped (number_of of (Within c.args.scope)) c.args.names.now _ _ c.loop-name.name-index c.name-item.result
    c.loop-name-test.true c.name-item.is (c.loop-name.invariant of holds) (c.in_ok-add_semaphore.ensures of holds)

pub returns : goal.returns
returns c = λ of holds.
    c.loop-name.invariant of holds
    ∙ ap (map (number_of of (Within c.args.scope))) (all_taken c.args.names.now c.loop-name.name-index c.loop-name-test.false)
