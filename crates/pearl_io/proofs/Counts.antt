-- Counts of faults over a call and over its parts.
use Rattle.std.proofs.Common.{ℕ, ◌≤◌, ◌<◌, inl, inr, arith}
use Rattle.pearl_io.specs.Outside.{CountRose, WriteFailed}

-- a count that rose later rose from earlier on
pub rose_since : (a b c : ℕ) → a ≤ b → CountRose b c → CountRose a c
rose_since a b c h (inl less) = inl (omega arith)
rose_since a b c h (inr last) = inr last

-- writing that failed later failed from earlier on
pub failed_since : (a b c : ℕ) (full : Type 0) → a ≤ b → WriteFailed b c full → WriteFailed a c full
failed_since a b c full h (inl rose) = inl (rose_since a b c h rose)
failed_since a b c full h (inr is_full) = inr is_full
