use Rattle.std.proofs.Common.{◌++◌, ap, ◌∙◌, subst}
use Rattle.pearl_names.specs.Holding.{HoldsSense}
use Rattle.pearl_resolve.proofs.ScopeCells.{variable_count, variable_cells}
use Rattle.pearl_resolve.proofs.cells.add_sense_cells.Goals as goal

pub returns-in_ok-count-in-Variable-clause-count : goal.returns-in_ok-count-in-Variable-clause-count
returns-in_ok-count-in-Variable-clause-count c = λ of h.
    c.in_ok-count-in-Variable.ensures.count of h
    ∙ variable_count c.args.forms.now _ _ of (subst (λ s. HoldsSense c.args.forms.now s of) c.in-Variable.is h)

pub returns-in_ok-count-in-Variable-clause-cells : goal.returns-in_ok-count-in-Variable-clause-cells
returns-in_ok-count-in-Variable-clause-cells c = λ of h.
    c.in_ok-count-in-Variable.ensures.cells of h
    ∙ ap (λ l. c.args.into.now.items ++ l) (variable_cells c.args.forms.now _ _ of (subst (λ s. HoldsSense c.args.forms.now s of) c.in-Variable.is h))
