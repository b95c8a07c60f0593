use Rattle.std.proofs.Common.{subst}
use Rattle.pearl_names.proofs.Offered.{all_taken}
use Rattle.pearl_scope.specs.Placed.{placed_in}
use Rattle.pearl_scope.proofs.Offered.{placed_in-nil}
use Rattle.pearl_check.specs.Routines.{shown_sort}
use Rattle.pearl_check.specs.Rules.{statement_faults}
use Rattle.pearl_check.proofs.Adding.{Adds, adds_none, adds_more, placed_taken}
use Rattle.pearl_check.proofs.rules.all_statement_faults.Goals as goal

pub loop-place-init : goal.loop-place-init
loop-place-init c = adds_none _ _ (λ table. statement_faults table (shown_sort c.args.sort)) _ placed_in-nil

pub loop-place-preserved : goal.loop-place-preserved
loop-place-preserved c =
    adds_more _ _ _ _ (λ table. statement_faults table (shown_sort c.args.sort)) _ _ _ (placed_taken c.args.places.now c.loop-place.place-index c.place-item.result c.loop-place-test.true c.place-item.is)
    c.loop-place.invariant c.in_ok-statement_faults_at.ensures

pub returns : goal.returns
returns c =
    subst (λ l. Adds c.args.table.now c.args.faults.now.items c.loop-place.faults.items (λ table. statement_faults table (shown_sort c.args.sort)) (placed_in l))
    (all_taken c.args.places.now c.loop-place.place-index c.loop-place-test.false) c.loop-place.invariant
