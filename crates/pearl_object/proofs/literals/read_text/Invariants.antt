use Rattle.std.proofs.Common.{◌≡◌, ◌-◌, length}
use Rattle.pearl_fields.specs.Codec.{rolled_read, byte_in}
use Rattle.pearl_fields.proofs.Offered.{with_front}
use Rattle.pearl_object.proofs.literals.read_text.Given as goal

abbrev pub invariant-loop : goal.invariant-loop
invariant-loop l = record {
  read : with_front l.text.items (rolled_read (λ (s : Unit {0}). byte_in 32 126) (λ s b. s) tt (l.len - l.counter) l.reader) ≡ rolled_read (λ (s : Unit {0}). byte_in 32 126) (λ s b. s) tt l.len l.fn.reader;
  count : length l.text.items ≡ l.counter;
}
