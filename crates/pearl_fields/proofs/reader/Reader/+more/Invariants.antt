use Rattle.pearl_fields.proofs.reader.Reader.+more.Given as goal

abbrev pub decreases-more : goal.decreases-more
decreases-more l = l.k
