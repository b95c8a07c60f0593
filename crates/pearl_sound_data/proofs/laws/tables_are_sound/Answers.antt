use Rattle.pearl_sound_data.proofs.Tables.{module_tables}
use Rattle.pearl_sound_data.proofs.laws.tables_are_sound.Goals as goal

pub returns : goal.returns
returns c = module_tables
