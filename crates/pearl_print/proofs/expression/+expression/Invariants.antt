use Rattle.std.proofs.Common.{◌≡◌, ◌++◌, take}
use Rattle.std.specs.List.{flat_map}
use Rattle.pearl_print.specs.Spelled.{text_of_tokens}
use Rattle.pearl_print.specs.Lists.{after_commas}
use Rattle.pearl_print.specs.Expressions.{expr_tokens, selector_tokens}
use Rattle.pearl_print.proofs.expression.«+expression».Given as goal

abbrev pub invariant-put_exprs-loop-expr : goal.invariant-put_exprs-loop-expr
invariant-put_exprs-loop-expr l = l.into.items ≡ l.initial.into.items ++ text_of_tokens (after_commas expr_tokens (take l.expr-index l.rest))

abbrev pub invariant-put_selectors-loop-selector : goal.invariant-put_selectors-loop-selector
invariant-put_selectors-loop-selector l = l.into.items ≡ l.fn.into.items ++ text_of_tokens (flat_map selector_tokens (take l.selector-index l.selectors))
