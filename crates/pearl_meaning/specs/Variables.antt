-- Which element a variable's subscripts name, and how it is read and written.
use Rattle.std.specs.Prelude.{ℕ, zero, suc, ◌+◌, ◌*◌, pos, ℤ, ◌-ℤ◌, int_le, nat_lt, unsigned_abs, ◌&&◌, if◌then◌else◌, List, [], ◌∷◌, Option, Some, None, option_map, slice_get}
use Rattle.pearl_value.specs.declared.cell.Cell.{Cell}
use Rattle.pearl_value.specs.declared.cell.Cell.TheVariants.{Fixed, Ref}
use Rattle.pearl_value.specs.declared.cell.Place.{Place}
use Rattle.pearl_value.specs.declared.cell.Place.TheVariants as place
use Rattle.pearl_value.specs.declared.trap.Trap.TheVariants.{Index, Range}
use Rattle.pearl_value.specs.Cells.{kind_of}
use Rattle.pearl_rules.specs.declared.action.Action.TheVariants.{Read, Write}
use Rattle.pearl_program.specs.declared.expression.Target.{Target}
use Rattle.pearl_program.specs.declared.expression.Target.TheVariants.{Leaf, Own, Param}
use Rattle.pearl_program.specs.declared.expression.Bound.{Bound}
use Rattle.pearl_program.specs.PlainPrograms.{PlainLeaf}
use Rattle.pearl_program.specs.Typing.{elements}
use Rattle.pearl_meaning.specs.Evaluation.{Does, gives, fails, bind, next, ask, ask_value, given, own_frame, own_cell, cell_of_frame, put_cell_of_frame}
use Rattle.pearl_meaning.specs.Setting.{Setting}

-- the number of a FIXED
abbrev pub number_of : Cell → ℤ
number_of (Fixed len value) = value
number_of x = pos 0

-- How many elements lie before the one with these subscripts: row by row, the last subscript running fastest. None where a
-- subscript is outside its bounds.
abbrev pub elements_before : List Bound → List Cell → Option ℕ
elements_before [] xs = Some 0
elements_before (bound ∷ bounds) [] = None
elements_before (bound ∷ bounds) (x ∷ xs) =
    if int_le bound.lower (number_of x) && int_le (number_of x) bound.upper
    then option_map (λ before. unsigned_abs (number_of x -ℤ bound.lower) * elements bounds + before) (elements_before bounds xs)
    else None

-- the subscripts are checked: how far the element lies behind the first one, or the trap Index
abbrev pub offset_of : Option ℕ → Does Cell
offset_of None = fails Index
offset_of (Some before) = gives (Fixed 31 (pos before))

-- of so many elements the one that lies so far behind the first; where there is none, Index is trapped
abbrev pub within : ℕ → Cell → (ℕ → Does Cell) → Does Cell
within count (Fixed len (pos offset)) go = if nat_lt offset count then go offset else fails Index
within count x go = fails Index

-- the first slot of a leaf: the slots of all leaves are numbered through
abbrev pub first_slot : List PlainLeaf → ℕ → ℕ
first_slot [] number = 0
first_slot (leaf ∷ leaves) zero = 0
first_slot (leaf ∷ leaves) (suc number) = leaf.values.count + first_slot leaves number

-- a reference to a cell of the routine at work
abbrev pub own_reference : ℕ → Does Cell
own_reference cell = bind (own_cell cell) (λ x. bind own_frame (λ frame. gives (Ref (kind_of x) (place.Cell frame cell))))

-- a reference to the element of a variable that lies so far behind the first one; a parameter with IDENT is one itself
abbrev pub reference : Setting → Target → List Bound → Cell → Does Cell
reference setting (Leaf number) bounds offset = given (slice_get setting.program.leaves number) (λ leaf.
    within leaf.values.count offset (λ before. gives (Ref leaf.values.kind (place.Slot (first_slot setting.program.leaves number + before)))))
reference setting (Own cell) bounds offset = within (elements bounds) offset (λ before. own_reference (cell + before))
reference setting (Param cell) bounds offset = own_cell cell

abbrev pub read_place : Place → Does Cell
read_place (place.Slot slot) = ask_value (Read slot)
read_place (place.Cell frame cell) = cell_of_frame frame cell

-- the value to which a reference leads: in a slot it is read by an action, in a cell of a frame without one
abbrev pub read_reference : Cell → Does Cell
read_reference (Ref kind place) = read_place place
read_reference x = fails Range

abbrev pub write_place : Place → Cell → Does (Unit {0})
write_place (place.Slot slot) x = next (ask (Write slot x)) (gives tt)
write_place (place.Cell frame cell) x = put_cell_of_frame frame cell x

-- and where it leads, a value is written
abbrev pub write_reference : Cell → Cell → Does (Unit {0})
write_reference (Ref kind place) x = write_place place x
write_reference r x = fails Range
