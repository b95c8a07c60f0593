use Rattle.std.proofs.Common.{string_bytes}
use Rattle.pearl_top.proofs.Numbers.{few}
use Rattle.pearl_top.proofs.command.command_of_words.Goals as goal

pub returns-in_default : goal.returns-in_default
returns-in_default c = few string_bytes c.args.words.now c.in_default.len_below
