-- How far a GET has come in the bytes that wait at a terminal, where more bytes may come in behind them.
use Rattle.std.specs.Prelude.{◌≡◌, ℕ, ◌<◌, ◌≤◌, Bool, true, false, List, ◌++◌, drop, length}
use Rattle.std.specs.List.{count_by}
use Rattle.pearl_value.specs.declared.kind.Kind.{Kind}
use Rattle.pearl_format.specs.declared.item.ItemCode.{ItemCode}
use Rattle.pearl_format.specs.declared.item.ItemCode.TheVariants.{Skip}
use Rattle.pearl_format.specs.declared.item.Item.{Item}
use Rattle.pearl_format.specs.Items.{skip_count, width_over}
use Rattle.pearl_rules.specs.Pick.{is_complete}
use Rattle.pearl_rules.specs.Scan.{is_line_end, scan}
use Rattle.pearl_scan.specs.declared.progress.Progress.{Progress}
use Rattle.pearl_scan.specs.declared.progress.Progress.TheVariants.{Complete, Short}
use Rattle.pearl_scan.specs.declared.progress.Reached.{Reached}

-- how many line ends there are
abbrev pub line_ends : List ℕ → ℕ
line_ends bytes = count_by is_line_end bytes

-- whether a GET finds all that it waits for
abbrev pub finds : List Item → List Kind → List ℕ → Bool
finds items kinds bytes = is_complete (scan items kinds bytes)

-- an item isn't complete while there are fewer bytes than these, and fewer line ends than those: SKIP waits for line ends alone, and
-- no more than 4096 bytes wait at a terminal
abbrev pub bytes_awaited : ItemCode → (width : ℕ) → List Kind → ℕ
bytes_awaited Skip width kinds = 4097
bytes_awaited code width kinds = width_over code width kinds

abbrev pub lines_awaited : ItemCode → (width : ℕ) → ℕ
lines_awaited Skip width = skip_count width
lines_awaited code width = 1

-- Whatever comes in behind these bytes: the GET finds all as soon as the items do that weren't passed, and that isn't so while there
-- are fewer bytes than so many, and fewer line ends.
pub record HasReached (items : List Item) (kinds : List Kind) (bytes : List ℕ) (r : Reached) : Type 0 where
  pub within : r.used ≤ length bytes
  pub fewer : r.targets ≤ length kinds
  pub far : (more : List ℕ) → finds (drop r.items items) (drop r.targets kinds) (drop r.used (bytes ++ more)) ≡ finds items kinds (bytes ++ more)
  pub short : (more : List ℕ) → length (bytes ++ more) < r.bytes → line_ends (bytes ++ more) < r.lines → finds items kinds (bytes ++ more) ≡ false

-- from there a GET can go on, whatever comes in
abbrev pub CanGoOn : List Item → List Kind → List ℕ → Progress → Type 0
CanGoOn items kinds bytes Complete = (more : List ℕ) → finds items kinds (bytes ++ more) ≡ true
CanGoOn items kinds bytes (Short r) = HasReached items kinds bytes r

abbrev pub is_whole : Progress → Bool
is_whole Complete = true
is_whole (Short r) = false

-- and it tells whether the GET finds all in these bytes
pub record IsProgress (items : List Item) (kinds : List Kind) (bytes : List ℕ) (p : Progress) : Type 0 where
  pub goes_on : CanGoOn items kinds bytes p
  pub tells : finds items kinds bytes ≡ is_whole p
