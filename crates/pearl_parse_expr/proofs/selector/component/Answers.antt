-- A component is a period with a name behind it.
use Rattle.std.proofs.Common.{refl, rules}
use Rattle.pearl_tree.specs.declared.token.What.TheVariants as what
use Rattle.pearl_tree.specs.declared.expression.Selector as selector
use Rattle.pearl_tree.specs.declared.symbol.TheConstants as s
use Rattle.pearl_tree.specs.Expressions.{SpellsSelector}
use Rattle.pearl_parse_expr.proofs.Ids.{x_name}
use Rattle.pearl_parse_expr.proofs.Primaries.{only_component}
use Rattle.pearl_parse_expr.proofs.Readings.{name_read, name_missing}
use Rattle.pearl_parse_expr.proofs.selector.component.Goals as goal

pub returns-in-Some-clause-reads : goal.returns-in-Some-clause-reads
returns-in-Some-clause-reads c = λ depth.
    name_read (λ tokens. SpellsSelector tokens depth) c.args.tokens.now c.args.from (what.Symbol s.PERIOD)
    c.requires.period (λ others. only_component others depth c.args.from) _ (search rules) c.in-Some.ensures.within

pub returns-in-None-clause-reads : goal.returns-in-None-clause-reads
returns-in-None-clause-reads c = λ depth.
    name_missing (λ tokens. SpellsSelector tokens depth) c.args.tokens.now c.args.from (what.Symbol s.PERIOD)
    c.requires.period (λ others. only_component others depth c.args.from) (c.in-None.ensures.none refl)
    (λ place. selector.Component x_name place) (λ others place at period name. (at, period, name, refl))
