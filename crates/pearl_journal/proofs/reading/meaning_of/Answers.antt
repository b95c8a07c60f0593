use Rattle.std.proofs.Common.{rules, subst, sym}
use Rattle.pearl_journal.specs.Meaning.{meaning}
use Rattle.pearl_rules.specs.Entries.{EntryFits}
use Rattle.pearl_journal.specs.Entries.{IfItem}
use Rattle.pearl_journal.proofs.FitLaws.{meaning-fits}
use Rattle.pearl_journal.proofs.reading.meaning_of.Goals as goal

pub returns-then-line-gt-LINE_LIMIT-clause-meaning : goal.returns-then-line-gt-LINE_LIMIT-clause-meaning
unfolding meaning
returns-then-line-gt-LINE_LIMIT-clause-meaning c lines = search rules

means : goal.returns-clause-meaning
unfolding meaning
means c lines = search (rules, c.meaning_of_text.ensures lines)

pub returns-clause-meaning : goal.returns-clause-meaning
returns-clause-meaning c = means c

pub returns-clause-fits : goal.returns-clause-fits
returns-clause-fits c =
    subst (λ line. IfItem line (EntryFits c.args.setup.now c.args.moment)) (sym (means c 0)) (meaning-fits c.args.setup.now (record { lines = 0; is_first = c.args.is_first; moment = c.args.moment }) c.args.line.now)
