use Rattle.pearl_journal_laws.proofs.ArrivalLaws.{value_is, value_long, value_no_literal, value_no_number, value_none, value_unfit}
use Rattle.pearl_journal_laws.proofs.arrivals.values_come_in.Goals as goal

pub returns-clause-entry : goal.returns-clause-entry
returns-clause-entry c setup reading line digits spelled k d kind x says =
    value_is setup reading line digits spelled says k d kind x

pub returns-clause-unfit : goal.returns-clause-unfit
returns-clause-unfit c setup reading line digits spelled k d kind x says =
    value_unfit setup reading line digits spelled says k d kind x

pub returns-clause-long : goal.returns-clause-long
returns-clause-long c setup reading line digits spelled k d says = value_long setup reading line digits spelled says k d

pub returns-clause-none : goal.returns-clause-none
returns-clause-none c setup reading line digits spelled k says = value_none setup reading line digits spelled says k

pub returns-clause-form : goal.returns-clause-form
returns-clause-form c = value_no_literal

pub returns-clause-number : goal.returns-clause-number
returns-clause-number c = value_no_number
