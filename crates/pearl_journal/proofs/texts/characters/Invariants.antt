use Rattle.std.proofs.Common.{◌≡◌, ◌≤◌, ◌++◌, length, option_map}
use Rattle.pearl_journal.specs.Texts as spec
use Rattle.pearl_journal.proofs.texts.characters.Given as goal

abbrev pub invariant-each : goal.invariant-each
invariant-each l = record {
  same : spec.limited_text (option_map (λ text. l.text.items ++ text) (spec.characters l.left)) ≡ spec.limited_text (spec.characters l.bytes);
  room : length l.text.items ≤ 255;
}

abbrev pub decreases-each : goal.decreases-each
decreases-each l = length l.left
