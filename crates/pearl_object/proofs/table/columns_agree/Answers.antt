use Rattle.pearl_object.proofs.ColumnLaws.{columns_agree}
use Rattle.pearl_object.proofs.table.columns_agree.Goals as goal

pub returns : goal.returns
returns c = columns_agree
