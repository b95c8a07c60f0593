use Rattle.pearl_print.proofs.LawfulRead.{lawful_text_reads}
use Rattle.pearl_print.proofs.laws.text_reads.Goals as goal

pub returns : goal.returns
returns c = lawful_text_reads
