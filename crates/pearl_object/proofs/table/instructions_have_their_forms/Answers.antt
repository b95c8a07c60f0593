use Rattle.pearl_object.proofs.CodeTable.{has_its_form}
use Rattle.pearl_object.proofs.table.instructions_have_their_forms.Goals as goal

pub returns : goal.returns
returns c = has_its_form
