use Rattle.std.proofs.Common.{◌≡◌, ◌-◌, length}
use Rattle.pearl_fields.specs.Codec.{rolled_read}
use Rattle.pearl_fields.proofs.Offered.{with_front}
use Rattle.pearl_object.specs.Objects.{letter, after_letter, first_letter}
use Rattle.pearl_object.proofs.routines.read_letters.Given as goal

abbrev pub invariant-loop : goal.invariant-loop
invariant-loop l = record {
  read : with_front l.text.items (rolled_read letter after_letter (record { before = l.text.items; count = l.count }) (l.count - l.counter) l.reader) ≡ rolled_read letter after_letter (first_letter l.count) l.count l.fn.reader;
  count : length l.text.items ≡ l.counter;
}
