use Rattle.pearl_print.proofs.BitsRead.{digits_are_the_bits}
use Rattle.pearl_print.proofs.laws.bits_are_written_in_order.Goals as goal

pub returns : goal.returns
returns c = digits_are_the_bits
