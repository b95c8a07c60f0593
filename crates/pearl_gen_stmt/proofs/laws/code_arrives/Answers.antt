use Rattle.pearl_gen_stmt.proofs.Parts.{code_arrives}
use Rattle.pearl_gen_stmt.proofs.laws.code_arrives.Goals as goal

pub returns : goal.returns
returns c = code_arrives c.rows_lead_to_stacks.ensures c.frames_stay.ensures
