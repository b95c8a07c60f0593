use Rattle.pearl_journal.specs.declared.reading.Line.TheVariants.{Blank, Item, Wrong}
use Rattle.pearl_journal_laws.proofs.Readings.{count_at, entries_of, refused_at}
use Rattle.pearl_journal_laws.proofs.lines.entries_end_at_a_refusal.Goals as goal

pub returns-clause-skipped : goal.returns-clause-skipped
returns-clause-skipped c setup reading line later = entries_of setup reading line later Blank

pub returns-clause-entry : goal.returns-clause-entry
returns-clause-entry c setup reading line later entry = entries_of setup reading line later (Item entry)

pub returns-clause-refused : goal.returns-clause-refused
returns-clause-refused c setup reading line later code = entries_of setup reading line later (Wrong code)

pub returns-clause-counted : goal.returns-clause-counted
returns-clause-counted c = count_at

pub returns-clause-number : goal.returns-clause-number
returns-clause-number c = refused_at
