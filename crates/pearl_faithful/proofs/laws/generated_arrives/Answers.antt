use Rattle.pearl_faithful.proofs.Programs.{all_valid}
use Rattle.pearl_faithful.proofs.Tables.{object_lawful}
use Rattle.pearl_faithful.proofs.laws.generated_arrives.Goals as goal

pub returns : goal.returns
returns c = λ p o sound generated few.
    c.code_arrives.ensures p o sound generated (all_valid p o sound generated) (object_lawful p o sound generated few)
