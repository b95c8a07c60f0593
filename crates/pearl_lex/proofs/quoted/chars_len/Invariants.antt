use Rattle.std.proofs.Common.{◌≡◌, ◌+◌, ◌-◌, ◌≤◌, length, drop, get_or}
use Rattle.pearl_lex.specs.Quoted.{char_len, chars_len}
use Rattle.pearl_lex.proofs.quoted.chars_len.Given as goal

abbrev pub invariant-loop-size : goal.invariant-loop-size
invariant-loop-size l = record {
  all : l.count + chars_len (drop l.count l.bytes) ≡ chars_len l.bytes;
  next : l.size ≡ char_len (get_or (drop l.count l.bytes) 0 0) (get_or (drop l.count l.bytes) 1 0);
  within : l.count + l.size ≤ length l.bytes;
}

abbrev pub decreases-loop-size : goal.decreases-loop-size
decreases-loop-size l = length l.bytes - l.count
