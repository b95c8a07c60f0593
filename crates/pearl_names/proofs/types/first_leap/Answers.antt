use Rattle.std.proofs.Common.{sym, ◌∙◌}
use Rattle.pearl_names.proofs.Leaps.{leap_made}
use Rattle.pearl_names.proofs.types.first_leap.Goals as goal

pub returns-then-not-has_leaf : goal.returns-then-not-has_leaf
returns-then-not-has_leaf c = λ fields h tails. tt

pub returns-else-not-has_leaf : goal.returns-else-not-has_leaf
returns-else-not-has_leaf c = λ fields h tails.
    leap_made c.args.forms.now c.args.form.now.fields.entries fields _ c.kinds_behind.result c.far_leap.result (sym c.in-Some.ensures.entry) h
    (c.kinds_behind.ensures c.args.forms.now fields h tails) c.far_leap.ensures (λ shape stands. sym c.if-not-has_leaf.false ∙ c.has_leaf.ensures shape stands)

pub returns-in-None : goal.returns-in-None
returns-in-None c = λ fields h tails. tt
