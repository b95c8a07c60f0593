use Rattle.pearl_scope.proofs.Filled.{laid_leaves}
use Rattle.pearl_scope.proofs.init.form_of_item.Goals as goal

pub returns-clause-form : goal.returns-clause-form
returns-clause-form c = λ shapes all. laid_leaves _ _ _ _ (c.in_ok-form.ensures.laid shapes all)
