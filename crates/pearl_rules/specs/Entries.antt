-- Which entries of a journal fit the tables.
use Rattle.std.specs.Prelude.{◌≡◌, ◌≢◌, ℕ, ◌+◌, ◌<◌, ◌≤◌, ◌^◌, List, [], ◌∷◌, Bool, true, false, Option, Some, None, Ok, length, slice_get}
use Rattle.std.specs.List.{AllByRecursion}
use Rattle.pearl_value.specs.declared.cell.Cell.{Cell}
use Rattle.pearl_value.specs.declared.kind.Kind.{Kind}
use Rattle.pearl_value.specs.Cells.{kind_of}
use Rattle.pearl_value.specs.Conversions.{SuitsKind, converted}
use Rattle.pearl_value.specs.WellFormed.{IsValue}
use Rattle.pearl_rules.specs.declared.entry.Entry.{Entry}
use Rattle.pearl_rules.specs.declared.entry.Entry.TheVariants.{Clock, Run, Tick, Pass, Irpt, Chars, Line, Value, Turn, State}
use Rattle.pearl_rules.specs.declared.setup.Setup.{Setup}
use Rattle.pearl_rules.specs.Plans.{day}
use Rattle.pearl_rules.specs.Tables.{IsInterrupt, IsReadable, input_kind}

-- the last moment that there is
abbrev pub last_moment_of_all : ℕ
last_moment_of_all = 2 ^ 40

-- a byte of a text
abbrev pub IsPrinted : ℕ → Type 0
IsPrinted byte = (32 ≤ byte) × (byte ≤ 126)

-- a value that becomes one of this kind
pub record Becomes (kind : Kind) (x : Cell) : Type 0 where
  pub is_value : IsValue x
  pub suits : SuitsKind (kind_of x) kind
  pub becomes : Cell
  pub converts : converted x kind ≡ Ok becomes

abbrev pub ComesInAt : Option Kind → Cell → Type 0
ComesInAt None x = ⊥
ComesInAt (Some kind) x = Becomes kind x

-- What an entry names is there, its numbers are below 2^63, what comes in suits the device, and it leads past no moment but the last.
abbrev pub EntryFits : Setup → (moment : ℕ) → Entry → Type 0
EntryFits setup moment (Clock time) = time < day
EntryFits setup moment (Run picks) = picks < 2 ^ 63
EntryFits setup moment (Tick milliseconds) = moment + milliseconds ≤ last_moment_of_all
EntryFits setup moment (Pass times picks) = (moment + times ≤ last_moment_of_all) × (picks < 2 ^ 63)
EntryFits setup moment (Irpt device) = IsInterrupt (slice_get setup.devices device)
EntryFits setup moment (Chars device text) = IsReadable (slice_get setup.devices device) × AllByRecursion IsPrinted text.items
EntryFits setup moment (Line device text) = IsReadable (slice_get setup.devices device) × AllByRecursion IsPrinted text.items
EntryFits setup moment (Value device x) = ComesInAt (input_kind (slice_get setup.devices device)) x
EntryFits setup moment (Turn task) = task < length setup.tasks
EntryFits setup moment State = Unit {0}

-- an entry that fits the tables at some moment
abbrev pub IsFitting : Setup → Entry → Type 0
IsFitting setup entry = (moment : ℕ) × EntryFits setup moment entry

-- each of these entries fits
abbrev pub AreFitting : Setup → List Entry → Type 0
AreFitting setup entries = AllByRecursion (IsFitting setup) entries

-- the moment after an entry that fits, where it is handled to its end
abbrev pub moment_after : (moment : ℕ) → Entry → ℕ
moment_after moment (Tick milliseconds) = moment + milliseconds
moment_after moment (Pass times picks) = moment + times
moment_after moment entry = moment

-- ENTRIES ONE AFTER THE OTHER

-- an entry that sets the clock is the first of all, and one that brings bytes brings at least one
abbrev pub MayCome : (is_first : Bool) → Entry → Type 0
MayCome is_first (Clock time) = is_first ≡ true
MayCome is_first (Chars device text) = text.items ≢ []
MayCome is_first entry = Unit {0}

-- each of these entries may come, and fits at the moment to which those before it lead
abbrev pub FitFrom : Setup → (is_first : Bool) (moment : ℕ) → List Entry → Type 0
FitFrom setup is_first moment [] = Unit {0}
FitFrom setup is_first moment (entry ∷ entries) =
    MayCome is_first entry × EntryFits setup moment entry × FitFrom setup false (moment_after moment entry) entries

-- the entries of a journal fit one after the other
abbrev pub FitInTurn : Setup → List Entry → Type 0
FitInTurn setup entries = FitFrom setup true 0 entries

-- how many milliseconds these entries let pass
abbrev pub time_in : List Entry → ℕ
time_in [] = 0
time_in (Tick milliseconds ∷ entries) = milliseconds + time_in entries
time_in (Pass times picks ∷ entries) = times + time_in entries
time_in (entry ∷ entries) = time_in entries
