use Rattle.pearl_journal_laws.proofs.ArrivalLaws.{line_is, line_no_number, line_no_text, line_none}
use Rattle.pearl_journal_laws.proofs.arrivals.lines_come_in.Goals as goal

pub returns-clause-entry : goal.returns-clause-entry
returns-clause-entry c setup reading line digits spelled text k d says =
    line_is setup reading line digits spelled says text k d

pub returns-clause-none : goal.returns-clause-none
returns-clause-none c setup reading line digits spelled text k says =
    line_none setup reading line digits spelled says text k

pub returns-clause-form : goal.returns-clause-form
returns-clause-form c = line_no_text

pub returns-clause-number : goal.returns-clause-number
returns-clause-number c = line_no_number
