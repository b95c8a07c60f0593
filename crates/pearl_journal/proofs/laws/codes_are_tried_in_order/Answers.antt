use Rattle.pearl_journal.proofs.CodeLaws.{codes_are_four, form_is_first, names_are_second, time_is_last}
use Rattle.pearl_journal.proofs.laws.codes_are_tried_in_order.Goals as goal

pub returns-clause-four : goal.returns-clause-four
returns-clause-four c = codes_are_four

pub returns-clause-form : goal.returns-clause-form
returns-clause-form c = form_is_first

pub returns-clause-names : goal.returns-clause-names
returns-clause-names c = names_are_second

pub returns-clause-late : goal.returns-clause-late
returns-clause-late c = time_is_last
