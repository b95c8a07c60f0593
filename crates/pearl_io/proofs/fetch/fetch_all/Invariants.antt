use Rattle.std.proofs.Common.{◌≡◌, ℕ, ◌≤◌, List, ◌+◌, ◌-◌, length, take, Some}
use Rattle.pearl_io.specs.Outside.{Files, content}
use Rattle.pearl_io.proofs.fetch.fetch_all.Given as goal

-- what was read is the file's front, the files are the same, and no count fell
abbrev pub invariant-loop-bytes : goal.invariant-loop-bytes
invariant-loop-bytes g l = record {
  within : length l.bytes.items ≤ l.limit;
  read : (files : Files) → g.S.Shelf.holds l.initial.shelf ≡ Some files →
      l.bytes.items ≡ take (length l.bytes.items) (content files l.name);
  held : g.S.Shelf.holds l.shelf ≡ g.S.Shelf.holds l.initial.shelf;
  later : (other : List ℕ) → g.S.Shelf.faults l.initial.shelf other ≤ g.S.Shelf.faults l.shelf other;
}

abbrev pub decreases-loop-bytes : goal.decreases-loop-bytes
decreases-loop-bytes g l = l.limit + 1 - length l.bytes.items
