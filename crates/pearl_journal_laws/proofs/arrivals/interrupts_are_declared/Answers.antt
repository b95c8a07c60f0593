use Rattle.pearl_journal_laws.proofs.ArrivalLaws.{irpt_is, irpt_no_number, irpt_none}
use Rattle.pearl_journal_laws.proofs.arrivals.interrupts_are_declared.Goals as goal

pub returns-clause-entry : goal.returns-clause-entry
returns-clause-entry c setup reading line digits k d says = irpt_is setup reading line digits says k d

pub returns-clause-none : goal.returns-clause-none
returns-clause-none c setup reading line digits k says = irpt_none setup reading line digits says k

pub returns-clause-form : goal.returns-clause-form
returns-clause-form c = irpt_no_number
