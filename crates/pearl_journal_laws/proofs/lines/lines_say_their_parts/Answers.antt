use Rattle.pearl_journal_laws.proofs.Writing.{says_text, says_three, says_word}
use Rattle.pearl_journal_laws.proofs.lines.lines_say_their_parts.Goals as goal

pub returns-clause-word : goal.returns-clause-word
returns-clause-word c = says_word

pub returns-clause-text : goal.returns-clause-text
returns-clause-text c = says_text

pub returns-clause-three : goal.returns-clause-three
returns-clause-three c = says_three
