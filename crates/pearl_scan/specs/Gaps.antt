-- Which bytes count as blanks.
use Rattle.std.specs.Prelude.{ℕ, Bool, ◌||◌, ◌==◌}
use Rattle.pearl_scan.specs.declared.gap.Gap.{Gap}
use Rattle.pearl_scan.specs.declared.gap.Gap.TheVariants.{Blanks, BlanksAndTabs}

abbrev pub is_gap : Gap → ℕ → Bool
is_gap Blanks byte = byte == 32
is_gap BlanksAndTabs byte = byte == 32 || byte == 9
