use Rattle.pearl_lex.proofs.BitOrder.{bits_are_their_digits, takes_bits_in_order}
use Rattle.pearl_lex.proofs.laws.bits_are_in_order.Goals as goal

pub returns-clause-digits : goal.returns-clause-digits
returns-clause-digits c = bits_are_their_digits

pub returns-clause-taken : goal.returns-clause-taken
returns-clause-taken c = takes_bits_in_order
