use Rattle.pearl_resolve_tables.proofs.Walking.{comes_to_itself, comes_to_end}
use Rattle.pearl_resolve_tables.proofs.walk.ended.Goals as goal

pub returns-then-asked : goal.returns-then-asked
returns-then-asked c = λ path leaves has. comes_to_itself c.args.forms.now c.args.asked c.args.part c.args.count path leaves has

pub returns : goal.returns
returns c = λ path leaves has.
    rw c.if-asked.false
    (comes_to_end c.args.forms.now c.args.part c.end_of-end.result c.args.count c.in_ok-each.each c.in_ok-count.count path leaves c.end_of-end.ensures c.in_ok-each.ensures c.in_ok-count.ensures has)
