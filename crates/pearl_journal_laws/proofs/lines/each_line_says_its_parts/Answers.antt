use Rattle.pearl_journal_laws.proofs.Parting.{each_line_says, each_text_says}
use Rattle.pearl_journal_laws.proofs.lines.each_line_says_its_parts.Goals as goal

pub returns-clause-parts : goal.returns-clause-parts
returns-clause-parts c = each_line_says

pub returns-clause-three : goal.returns-clause-three
returns-clause-three c = each_text_says
