-- Which is the least of the validator's rules that fails at an instruction, and which objects are valid.
use Rattle.std.specs.Prelude.{◌≡◌, ℕ, zero, suc, ◌+◌, ◌*◌, ◌-ℤ◌, int_le, unsigned_abs, Bool, true, false, ◌&&◌, ◌||◌, ◌==◌, not, nat_lt, nat_le, if◌then◌else◌, List, [], ◌∷◌, Option, Some, None, option_map, option_and_then, option_to_list, length, take, drop, reverse, slice_get}
use Rattle.std.specs.List.{list_all, list_any}
use Rattle.pearl_value.specs.declared.kind.Kind.{Kind}
use Rattle.pearl_value.specs.declared.kind.CellKind.{CellKind}
use Rattle.pearl_value.specs.declared.kind.CellKind.TheVariants.{Plain}
use Rattle.pearl_format.specs.declared.item.Item.{Item}
use Rattle.pearl_format.specs.Items.{data_count, text_width}
use Rattle.pearl_instructions.specs.declared.instr.Bounds.{Bounds}
use Rattle.pearl_instructions.specs.declared.instr.Instr.{Instr}
use Rattle.pearl_instructions.specs.declared.instr.Instr.TheVariants.{Turn}
use Rattle.pearl_instructions.specs.declared.object.Shape.{Shape as Stated}
use Rattle.pearl_instructions.specs.declared.object.Code.{Code}
use Rattle.pearl_instructions.specs.declared.object.Procedure.{Procedure}
use Rattle.pearl_instructions.specs.declared.object.Parts.{Parts as Object}
use Rattle.pearl_instructions.specs.Objects.{routine_at, is_task, result_of, items_at}
use Rattle.pearl_instructions.specs.Offers.{items_suit}
use Rattle.pearl_instructions.specs.Opcodes.{Targets, NoTarget, Target, AnyTarget, Way, GoesOn, Stops, Returns, Finishes, Limits, NoLimits, OfSemaphores, OfBounds, OfValues, OfCells, opcode}
use Rattle.pearl_instructions.specs.Operands.{Shape, same_shape, asked, v2}
use Rattle.pearl_instructions.specs.Named.{v1, read_cells}
use Rattle.pearl_instructions.specs.Kinds.{plain_kind, v3, v4, v5, shape_after}

abbrev pub leads_on : Way → Bool
leads_on GoesOn = true
leads_on Stops = false
leads_on Returns = false
leads_on Finishes = false

abbrev pub goes_on : Instr → Bool
goes_on instr = leads_on (opcode instr).way

abbrev pub targets_of : Targets → List ℕ
targets_of NoTarget = []
targets_of (Target i) = i ∷ []
targets_of (AnyTarget list) = list

-- the instructions to which an instruction may jump
abbrev pub targets : Instr → List ℕ
targets instr = targets_of (opcode instr).targets

-- a jump names instruction i
abbrev pub is_named : List Instr → ℕ → Bool
is_named instrs i = list_any (λ instr. list_any (λ t. t == i) (targets instr)) instrs

-- the shape that is stated for an instruction
abbrev pub stated : List Stated → ℕ → Option Shape
stated [] i = None
stated (s ∷ more) i = if s.instruction == i then Some (reverse s.kinds) else stated more i

-- the shape with which an instruction goes on to the one behind it; empty where it doesn't
abbrev pub passed_on : Object → ℕ → Code → Option Instr → Shape → Shape
passed_on o r code None s = []
passed_on o r code (Some instr) s = if goes_on instr then shape_after o r code instr s else []

abbrev pub shape_or : Option Shape → Shape → Shape
shape_or None s = s
shape_or (Some s) other = s

-- The shape before instruction 0 is empty. Before any other it is the stated one; else the one after the instruction before it,
-- where that goes on to it and no jump names this one; else empty.
abbrev pub shape_before : Object → ℕ → Code → ℕ → Shape
shape_before o r code zero = []
shape_before o r code (suc i) = shape_or (stated code.shapes (suc i))
    (if is_named code.instructions (suc i) then [] else passed_on o r code (slice_get code.instructions i) (shape_before o r code i))

-- V6: the shape with which an instruction goes on or jumps is the one before where it goes
abbrev pub v6 : Object → ℕ → Code → ℕ → Instr → Shape → Bool
v6 o r code i instr left =
    list_all (λ t. same_shape (shape_before o r code t) left) (targets instr)
    && (not (goes_on instr && nat_lt (i + 1) (length code.instructions)) || same_shape (shape_before o r code (i + 1)) left)

abbrev pub is_turn : Option Instr → Bool
is_turn (Some Turn) = true
is_turn other = false

-- V7: a jump goes forward, or to a Turn
abbrev pub v7 : Code → ℕ → Instr → Bool
v7 code i instr = list_all (λ t. nat_lt i t || is_turn (slice_get code.instructions t)) (targets instr)

abbrev pub calls_smaller : Object → ℕ → Option ℕ → Bool
calls_smaller o r None = true
calls_smaller o r (Some p) = is_task o r || nat_lt p r

-- V8: a procedure calls smaller numbers
abbrev pub v8 : Object → ℕ → Instr → Bool
v8 o r instr = calls_smaller o r (opcode instr).calls

abbrev pub result_shape : Option Kind → Shape
result_shape result = option_to_list (option_map Plain result)

abbrev pub ends_well : Object → ℕ → Way → Shape → Bool
ends_well o r GoesOn s = true
ends_well o r Stops s = true
ends_well o r Returns s = not (is_task o r) && same_shape s (result_shape (result_of o r))
ends_well o r Finishes s = is_task o r && same_shape s []

-- V10: a procedure returns just its result, and a task ends with no operand
abbrev pub v10 : Object → ℕ → Instr → Shape → Bool
v10 o r instr s = ends_well o r (opcode instr).way s

-- with the cells, the shape below the arguments and the callee's depth
abbrev pub call_fits : Code → Option Procedure → Shape → Bool
call_fits code None s = true
call_fits code (Some callee) s = nat_le (length code.cells + length (drop callee.params s) + callee.code.depth) code.depth

abbrev pub keeps_depth : Object → Code → Option ℕ → Shape → Bool
keeps_depth o code None s = nat_le (length code.cells + length s) code.depth
keeps_depth o code (Some p) s =
    nat_le (length code.cells + length s) code.depth && call_fits code (slice_get o.procedures p) s

-- V11: cells and operands stay within the stated depth, over calls too
abbrev pub v11 : Object → Code → Instr → Shape → Bool
v11 o code instr s = keeps_depth o code (opcode instr).calls s

abbrev pub is_repeated : ℕ → List ℕ → Bool
is_repeated n ns = list_any (λ m. m == n) ns

abbrev pub are_different : List ℕ → Bool
are_different [] = true
are_different (n ∷ ns) = not (is_repeated n ns) && are_different ns

-- 1 to 16 semaphores, none twice
abbrev pub is_semaphore_list : List ℕ → Bool
is_semaphore_list list = nat_le 1 (length list) && nat_le (length list) 16 && are_different list

abbrev pub extent : Bounds → ℕ
extent b = unsigned_abs (b.high -ℤ b.low) + 1

abbrev pub elements : List Bounds → ℕ
elements [] = 1
elements (b ∷ bounds) = extent b * elements bounds

-- one to three dimensions, none empty, with at most 65,536 elements
abbrev pub is_array : List Bounds → Bool
is_array bounds =
    nat_le 1 (length bounds) && nat_le (length bounds) 3 && list_all (λ b. int_le b.low b.high) bounds && nat_le (elements bounds) 65536

abbrev pub plain_kinds : Shape → Option (List Kind)
plain_kinds [] = Some []
plain_kinds (k ∷ ks) = option_and_then (λ of. option_map (λ kinds. of ∷ kinds) (plain_kinds ks)) (plain_kind k)

-- the items suit these kinds, at most 64 of them, and their widths are at most 1,024 together
abbrev pub suits_format : List Item → Option (List Kind) → Bool
suits_format items None = false
suits_format items (Some kinds) = items_suit items kinds && nat_le (length kinds) 64 && nat_le (text_width items kinds) 1024

abbrev pub values_suit : Option (List Item) → Shape → Bool
values_suit None s = false
values_suit (Some items) s = suits_format items (plain_kinds (reverse (take (data_count items) s)))

abbrev pub cells_suit : Option (List Item) → List CellKind → Bool
cells_suit None cells = false
cells_suit (Some items) cells = suits_format items (plain_kinds cells)

abbrev pub keeps_limits : Object → Code → Limits → Shape → Bool
keeps_limits o code NoLimits s = true
keeps_limits o code (OfSemaphores list) s = is_semaphore_list list
keeps_limits o code (OfBounds bounds) s = is_array bounds
keeps_limits o code (OfValues format) s = values_suit (items_at o format) s
keeps_limits o code (OfCells c format) s = cells_suit (items_at o format) (read_cells code c (items_at o format))

-- V12: lists of semaphores, bounds and formats keep their limits
abbrev pub v12 : Object → Code → Instr → Shape → Bool
v12 o code instr s = keeps_limits o code (opcode instr).limits s

-- a rule, or where it is kept the least of those behind it
abbrev pub keep : Bool → ℕ → Option ℕ → Option ℕ
keep true rule later = later
keep false rule later = Some rule

-- the least rule that fails at an instruction, from the shape before it; each is asked only where those before it are kept
abbrev pub judged : Object → ℕ → Code → ℕ → Instr → Shape → Option ℕ
judged o r code i instr s =
    keep (v1 o code instr) 1
    (keep (v2 (asked o r instr) s) 2
    (keep (v3 instr s) 3
    (keep (v4 o code instr s) 4
    (keep (v5 o code instr) 5
    (keep (v6 o r code i instr (shape_after o r code instr s)) 6
    (keep (v7 code i instr) 7
    (keep (v8 o r instr) 8
    (keep (v10 o r instr s) 10
    (keep (v11 o code instr s) 11
    (keep (v12 o code instr s) 12 None))))))))))

-- the last instruction, and there is one, doesn't go on
abbrev pub is_closed : List Instr → Bool
is_closed [] = false
is_closed (instr ∷ []) = not (goes_on instr)
is_closed (instr ∷ more) = is_closed more

-- the rules on a whole routine: each stated shape names an instruction (V1), the last one doesn't go on (V9), and the stated depth
-- is at most 4,096 (V11)
abbrev pub judged_whole : Code → Option ℕ
judged_whole code =
    keep (list_all (λ s. nat_lt s.instruction (length code.instructions)) code.shapes) 1
    (keep (is_closed code.instructions) 9 (keep (nat_le code.depth 4096) 11 None))

-- what fails at instruction i; the rules on the whole routine stand behind its last instruction
abbrev pub judged_at : Object → ℕ → Code → ℕ → Option Instr → Option ℕ
judged_at o r code i (Some instr) = judged o r code i instr (shape_before o r code i)
judged_at o r code i None = if i == length code.instructions then judged_whole code else None

abbrev pub unsound_in : Object → ℕ → Option Code → ℕ → Option ℕ
unsound_in o r None i = None
unsound_in o r (Some code) i = judged_at o r code i (slice_get code.instructions i)

-- the least rule that fails at instruction i of routine r
abbrev pub unsound : Object → ℕ → ℕ → Option ℕ
unsound o r i = unsound_in o r (routine_at o r) i

-- nothing fails anywhere
pub record IsValid (o : Object) : Type 0 where
  pub sound : (r i : ℕ) → unsound o r i ≡ None
