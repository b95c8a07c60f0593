use Rattle.std.proofs.Common.{rules}
use Rattle.pearl_journal.proofs.NumberLaws.{number_from-start}
use Rattle.pearl_journal.proofs.words.number_of.Goals as goal

pub loop-digit-init : goal.loop-digit-init
loop-digit-init c = search (rules, number_from-start)
