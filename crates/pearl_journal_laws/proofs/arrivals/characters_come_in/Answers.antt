use Rattle.pearl_journal_laws.proofs.ArrivalLaws.{chars_is, chars_no_number, chars_no_text, chars_none}
use Rattle.pearl_journal_laws.proofs.arrivals.characters_come_in.Goals as goal

pub returns-clause-entry : goal.returns-clause-entry
returns-clause-entry c setup reading line digits spelled text k d says =
    chars_is setup reading line digits spelled says text k d

pub returns-clause-none : goal.returns-clause-none
returns-clause-none c setup reading line digits spelled text k says =
    chars_none setup reading line digits spelled says text k

pub returns-clause-form : goal.returns-clause-form
returns-clause-form c = chars_no_text

pub returns-clause-number : goal.returns-clause-number
returns-clause-number c = chars_no_number
