use Rattle.std.proofs.Common.{◌≡◌, ℕ, ◌<◌, ◌≤◌, false, length, map, string_bytes}
use Rattle.pearl_watch.specs.Watched.{is_refused, name_at, watched_by}
use Rattle.pearl_watch.proofs.watched.watched_slots.Given as goal

abbrev pub invariant-loop-name : goal.invariant-loop-name
invariant-loop-name l = record {
  watched : l.watched.items ≡ watched_by l.leaves (map string_bytes l.names) l.name;
  few : length l.watched.items ≤ 1024;
  counted : l.name ≤ length l.watched.items;
  accepted : (before : ℕ) → before < l.name → is_refused l.leaves (map string_bytes l.names) before ≡ false;
  short : (before : ℕ) → before < l.name → length (name_at (map string_bytes l.names) before) ≤ 1024;
}
