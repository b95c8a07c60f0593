use Rattle.std.proofs.Common.{length}
use Rattle.pearl_fields.proofs.reader.Reader.+exactly.Given as goal

abbrev pub decreases-exactly : goal.decreases-exactly
decreases-exactly l = length l.wanted.now
