-- The text of an object: a line for each device, semaphore, leaf and format, and then for each routine and its instructions.
use Rattle.std.specs.Prelude.{ℕ, suc, List, [], ◌∷◌, ◌++◌, Bool, true, false, Option, Some, None, length, codes, slice_index_or, ◌==◌, if◌then◌else◌}
use Rattle.std.specs.Fmt.{decimal, signed_decimal}
use Rattle.std.specs.List.{flat_map}
use Rattle.pearl_value.specs.declared.kind.Kind.{Kind}
use Rattle.pearl_value.specs.declared.kind.Kind.TheVariants as kinds
use Rattle.pearl_value.specs.declared.device.Device.{Device}
use Rattle.pearl_value.specs.declared.device.Device.TheVariants.{Interrupt, Terminal, Input, Output}
use Rattle.pearl_value.specs.Cells.{kind_of}
use Rattle.pearl_value.specs.Devices.{own_number}
use Rattle.pearl_format.specs.declared.item.ItemCode.{ItemCode}
use Rattle.pearl_format.specs.declared.item.ItemCode.TheVariants.{A, B1, B2, B3, B4, F, T, D, X, Skip}
use Rattle.pearl_format.specs.declared.item.Item.{Item}
use Rattle.pearl_instructions.specs.declared.instr.Bounds.{Bounds}
use Rattle.pearl_instructions.specs.declared.schedule.OnceForm.{OnceForm}
use Rattle.pearl_instructions.specs.declared.schedule.OnceForm.TheVariants as once_form
use Rattle.pearl_instructions.specs.declared.schedule.StartForm.{StartForm}
use Rattle.pearl_instructions.specs.declared.schedule.StartForm.TheVariants.{When, WhenAfter}
use Rattle.pearl_instructions.specs.declared.instr.Instr.{Instr}
use Rattle.pearl_instructions.specs.declared.object.Leaf.{Leaf}
use Rattle.pearl_instructions.specs.declared.object.Code.{Code}
use Rattle.pearl_instructions.specs.declared.object.Procedure.{Procedure}
use Rattle.pearl_instructions.specs.declared.object.Task.{Task}
use Rattle.pearl_instructions.specs.declared.object.Parts.{Parts}
use Rattle.pearl_script.specs.Literals.{literal}
use Rattle.pearl_object.specs.CodeRows.{names}
use Rattle.pearl_object.specs.Operands.{flag_tag, trap_tag, once_tag, start_tag, repeat_tag}
use Rattle.pearl_object.specs.Instructions.{Operand, OfNumber, OfKind, OfLiteral, OfNumbers, OfBounds, OfCause, OfOnce, OfMaybe, OfStart, OfRepeat, OfFlag, joined, row, opcode_of}

-- a word behind a blank
abbrev pub word : List ℕ → List ℕ
word text = codes " " ++ text

abbrev pub number_word : ℕ → List ℕ
number_word n = word (decimal n)

abbrev pub kind_text : Kind → List ℕ
kind_text (kinds.Fixed len) = codes "FIXED(" ++ decimal len ++ codes ")"
kind_text (kinds.Bits len) = codes "BIT(" ++ decimal len ++ codes ")"
kind_text (kinds.Chars len) = codes "CHAR(" ++ decimal len ++ codes ")"
kind_text kinds.Clock = codes "CLOCK"
kind_text kinds.Span = codes "DURATION"

abbrev pub bounds_words : Bounds → List ℕ
bounds_words b = word (signed_decimal b.low) ++ word (signed_decimal b.high)

-- when something is to happen: its byte, and the interrupt's device, if there is one
abbrev pub once_words : OnceForm → List ℕ
once_words (once_form.When d) = number_word 3 ++ number_word d
once_words form = number_word (once_tag form)

abbrev pub maybe_words : Option OnceForm → List ℕ
maybe_words None = number_word 0
maybe_words (Some form) = once_words form

abbrev pub start_words : StartForm → List ℕ
start_words (When d) = number_word 3 ++ number_word d
start_words (WhenAfter d) = number_word 4 ++ number_word d
start_words form = number_word (start_tag form)

-- the words of an operand, each behind a blank
abbrev pub operand_words : Operand → List ℕ
operand_words (OfNumber n) = number_word n
operand_words (OfKind of) = word (kind_text of)
operand_words (OfLiteral x) = word (kind_text (kind_of x)) ++ word (literal x)
operand_words (OfNumbers list) = flat_map number_word list
operand_words (OfBounds list) = flat_map bounds_words list
operand_words (OfCause cause) = number_word (trap_tag cause)
operand_words (OfOnce form) = once_words form
operand_words (OfMaybe form) = maybe_words form
operand_words (OfStart form) = start_words form
operand_words (OfRepeat form) = number_word (repeat_tag form)
operand_words (OfFlag given) = number_word (flag_tag given)

-- each member's text, told its number
abbrev pub numbered : {X : Type 0} → (ℕ → X → List ℕ) → ℕ → List X → List ℕ
numbered text n [] = []
numbered text n (x ∷ xs) = text n x ++ numbered text (suc n) xs

abbrev pub name_of : Instr → List ℕ
name_of i = slice_index_or names (opcode_of i) []

abbrev pub instr_line : ℕ → Instr → List ℕ
instr_line n i = decimal n ++ word (name_of i) ++ joined operand_words (row i).operands ++ codes "\n"

abbrev pub sort_text : Device → List ℕ
sort_text (Interrupt number) = codes "INTERRUPT"
sort_text (Terminal number direction) = codes "TERMINAL"
sort_text (Input number kind) = codes "INPUT"
sort_text (Output number kind) = codes "OUTPUT"

abbrev pub device_line : ℕ → Device → List ℕ
device_line n d = codes "device" ++ word (sort_text d) ++ number_word (own_number d) ++ codes "\n"

abbrev pub semaphore_line : ℕ → ℕ → List ℕ
semaphore_line n count = codes "semaphore" ++ number_word n ++ number_word count ++ codes "\n"

abbrev pub leaf_line : ℕ → Leaf → List ℕ
leaf_line n v = codes "leaf" ++ number_word n ++ word v.name ++ word (kind_text v.kind) ++ number_word v.slots ++ codes "\n"

abbrev pub item_text : ItemCode → List ℕ
item_text A = codes "A"
item_text B1 = codes "B1"
item_text B2 = codes "B2"
item_text B3 = codes "B3"
item_text B4 = codes "B4"
item_text F = codes "F"
item_text T = codes "T"
item_text D = codes "D"
item_text X = codes "X"
item_text Skip = codes "SKIP"

-- an item without a width stands bare
abbrev pub width_text : ℕ → List ℕ
width_text width = if width == 0 then [] else codes "(" ++ decimal width ++ codes ")"

abbrev pub item_word : Item → List ℕ
item_word item = word (item_text item.code) ++ width_text item.width

abbrev pub format_line : ℕ → List Item → List ℕ
format_line n items = codes "format" ++ number_word n ++ flat_map item_word items ++ codes "\n"

-- what the head of a routine ends with, and a line for each instruction
abbrev pub code_lines : Code → List ℕ
code_lines c =
    codes " cells" ++ number_word (length c.cells) ++ codes " depth" ++ number_word c.depth ++ codes "\n"
    ++ numbered instr_line 0 c.instructions

abbrev pub procedure_lines : ℕ → Procedure → List ℕ
procedure_lines n p = codes "procedure" ++ number_word n ++ code_lines p.code

abbrev pub main_word : Bool → List ℕ
main_word true = codes " main"
main_word false = []

abbrev pub task_lines : ℕ → Task → List ℕ
task_lines n t =
    codes "task" ++ word t.name.items ++ codes " prio" ++ number_word t.priority ++ main_word t.main ++ code_lines t.code

-- the tables in their order, and then the routines; devices and tasks show no number
abbrev pub listing_of : Parts → List ℕ
listing_of o =
    numbered device_line 0 o.devices ++ numbered semaphore_line 0 o.semaphores ++ numbered leaf_line 0 o.leaves
    ++ numbered format_line 0 o.formats ++ numbered procedure_lines 0 o.procedures ++ numbered task_lines 0 o.tasks
