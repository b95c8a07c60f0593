use Rattle.std.proofs.Common.{sym, ◌∙◌}
use Rattle.pearl_names.proofs.Walking.{begins_none, begins_some}
use Rattle.pearl_names.proofs.slots.begin.Goals as goal

pub returns-then-not-has_leaf : goal.returns-then-not-has_leaf
returns-then-not-has_leaf c = λ slots has left.
    begins_none c.args.forms.now c.args.part c.args.count c.args.stack.now.items slots has left (λ shape h. sym c.if-not-has_leaf.true ∙ c.has_leaf.ensures shape h)

pub returns : goal.returns
returns c = λ slots has left.
    begins_some c.args.forms.now c.args.part c.args.count c.args.stack.now.items c.descend.new.stack.items slots c.in_ok-run.run' has left
    (λ shape h. sym c.if-not-has_leaf.false ∙ c.has_leaf.ensures shape h) c.in_ok-run.ensures
