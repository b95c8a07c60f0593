use Rattle.std.proofs.Common.{ap, ◌∙◌}
use Rattle.pearl_names.specs.Found.{found_from}
use Rattle.pearl_names.proofs.table.SenseTable.find_from.Goals as goal

pub returns : goal.returns
returns c = λ t holds.
    c.find_from.ensures ∙ ap (λ names. found_from names c.args.view c.args.text.now.items) (c.as_slice.ensures.value ∙ holds.names)
