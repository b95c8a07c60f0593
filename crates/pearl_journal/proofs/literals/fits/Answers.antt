use Rattle.pearl_journal.proofs.ValueFits.{signed_wide}
use Rattle.pearl_journal.proofs.literals.fits.Goals as goal

pub returns-then-len-ge63 : goal.returns-then-len-ge63
returns-then-len-ge63 c = signed_wide c.args.len c.args.value c.if-len-ge63.true c.ranges.value
