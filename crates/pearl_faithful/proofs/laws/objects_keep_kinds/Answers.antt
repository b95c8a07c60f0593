use Rattle.pearl_faithful.proofs.laws.objects_keep_kinds.Goals as goal

pub returns : goal.returns
returns c = λ p o sound generated lawful valid es fit n. c.runs_keep_kinds.ensures o valid lawful es fit n
