use Rattle.pearl_names.proofs.meaning.«+find_through».Given as goal

abbrev pub decreases-find_through : goal.decreases-find_through
decreases-find_through l = l.steps
