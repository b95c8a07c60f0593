-- What a monitor writes of a run: how the watched slots change, mark by mark.
use Rattle.std.specs.Prelude.{ℕ, zero, suc, ◌+◌, ◌-◌, ◌^◌, min, if◌then◌else◌, List, [], ◌∷◌, ◌++◌, Bool, true, false, ◌&&◌, nat_eq, Option, Some, None, codes, replicate}
use Rattle.std.specs.Fmt.{decimal}
use Rattle.std.specs.List.{flat_map}
use Rattle.std.specs.Ordering.{int_eq}
use Rattle.std.specs.Str.{bytes_eq}
use Rattle.pearl_value.specs.declared.cell.Cell.{Cell}
use Rattle.pearl_value.specs.declared.cell.Cell.TheVariants.{Fixed, Bits, Chars, Clock, Span, Ref}
use Rattle.pearl_rules.specs.Core.{Core, value_at}
use Rattle.pearl_rules.specs.Runs.{Engine, Machine, machine_after, marked_after, marks_in_step}
use Rattle.pearl_script.specs.Lines.{close_line}
use Rattle.pearl_watch.specs.declared.watched.Watched.{Watched}
use Rattle.pearl_watch.specs.Lines.{value_line}
use Rattle.pearl_watch.specs.Watched.{name_at}

-- a number of marks as it is written, where 2^64 - 1 stands for more
abbrev pub shown : ℕ → ℕ
shown marks = min marks (2 ^ 64 - 1)

-- whether two values are the same; no slot holds a reference
abbrev pub is_same : Cell → Cell → Bool
is_same (Fixed len x) (Fixed length y) = nat_eq len length && int_eq x y
is_same (Bits len x) (Bits length y) = nat_eq len length && nat_eq x y
is_same (Chars x) (Chars y) = bytes_eq x.items y.items
is_same (Clock x) (Clock y) = nat_eq x y
is_same (Span x) (Span y) = int_eq x y
is_same (Ref of at) (Ref kind place) = true
is_same _ _ = false

-- the line, unless this value was there before
abbrev pub unless_same : Option Cell → Cell → List ℕ → List ℕ
unless_same None value line = line
unless_same (Some before) value line = if is_same before value then [] else line

-- what a slot held before, if there was a core before
abbrev pub held : Option Core → ℕ → Option Cell
held None slot = None
held (Some core) slot = Some (value_at core.slots slot)

-- the line of a watched slot after so many marks
abbrev pub slot_line : List (List ℕ) → (marks : ℕ) → Core → Watched → List ℕ
slot_line names marks core s = value_line (shown marks) core.moment (name_at names s.name) s.number (value_at core.slots s.slot)

-- likewise, unless the slot holds what it held before
abbrev pub change_line : List (List ℕ) → (marks : ℕ) → (before : Option Core) → Core → Watched → List ℕ
change_line names marks before core s = unless_same (held before s.slot) (value_at core.slots s.slot) (slot_line names marks core s)

-- the lines of the watched slots that changed, in order; without a core before, those of all
abbrev pub change_lines : List (List ℕ) → List Watched → (marks : ℕ) → (before : Option Core) → Core → List ℕ
change_lines names watched marks before core = flat_map (change_line names marks before core) watched

-- The lines of so many machine steps behind so many marks: after each step those of what it changed. A step that is no mark changes no
-- slot.
abbrev pub step_lines : {S : Type 0} → List (List ℕ) → List Watched → (marks : ℕ) → Engine S → Machine S → ℕ → List ℕ
step_lines names watched marks engine m zero = []
step_lines names watched marks engine m (suc n) =
    step_lines names watched marks engine m n
    ++ change_lines names watched (marks + marked_after engine m (suc n)) (Some (machine_after engine m n).core) (machine_after engine m (suc n)).core

-- all lines from the start of a run up to there: what each watched slot holds first, and then how it changes
abbrev pub watch_lines : {S : Type 0} → List (List ℕ) → List Watched → Engine S → Machine S → ℕ → List ℕ
watch_lines names watched engine start n = change_lines names watched 0 None start.core ++ step_lines names watched 0 engine start n

-- the last line, after so many marks
abbrev pub last_line : (marks moment : ℕ) → List ℕ
last_line marks moment = decimal (shown marks) ++ codes " " ++ close_line moment

-- MARK BY MARK

-- the cores of a run after 0, 1, 2 .. marks, within so many machine steps
abbrev pub mark_cores : {S : Type 0} → Engine S → Machine S → ℕ → List Core
mark_cores engine m zero = m.core ∷ []
mark_cores engine m (suc n) = mark_cores engine m n ++ replicate (marks_in_step (machine_after engine m n)) (machine_after engine m (suc n)).core

-- for each of these cores the lines of the watched slots that differ from what they were in the core before; the first core comes
-- after so many marks
abbrev pub core_lines : List (List ℕ) → List Watched → (marks : ℕ) → (before : Option Core) → List Core → List ℕ
core_lines names watched marks before [] = []
core_lines names watched marks before (core ∷ cores) =
    change_lines names watched marks before core ++ core_lines names watched (marks + 1) (Some core) cores
