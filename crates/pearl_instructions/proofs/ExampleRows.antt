-- What the instructions of small objects do.
use Rattle.std.specs.Prelude.{◌≡◌, ℕ, ℤ, pos, negsuc, true, List, [], ◌∷◌, Option, Some, None}
use Rattle.std.proofs.Common.{refl}
use Rattle.std.specs.Fmt.{digits}
use Rattle.pearl_value.specs.declared.kind.Kind.TheVariants as kind
use Rattle.pearl_value.specs.declared.kind.CellKind.TheVariants.{Plain, RefTo}
use Rattle.pearl_value.specs.declared.cell.Place.TheVariants as place
use Rattle.pearl_value.specs.declared.cell.Cell.{Cell}
use Rattle.pearl_value.specs.declared.cell.Cell.TheVariants.{Fixed, Bits, Chars, Clock, Span, Ref}
use Rattle.pearl_value.specs.declared.trap.Trap.TheVariants as trap
use Rattle.pearl_format.specs.declared.item.ItemCode.TheVariants.{A, F}
use Rattle.pearl_value.specs.declared.device.Device.TheVariants.{Terminal}
use Rattle.pearl_value.specs.declared.device.Direction.TheVariants.{InOut}
use Rattle.pearl_rules.specs.declared.action.Action.{Action}
use Rattle.pearl_rules.specs.declared.action.Action.TheVariants as action
use Rattle.pearl_rules.specs.declared.action.Start.TheVariants as start
use Rattle.pearl_rules.specs.declared.action.Repeat.TheVariants as repeat
use Rattle.pearl_rules.specs.declared.action.Answer.{Answer}
use Rattle.pearl_rules.specs.declared.action.Answer.TheVariants.{Nothing, Many}
use Rattle.pearl_stack.specs.Frames.{Frame}
use Rattle.pearl_instructions.specs.declared.schedule.StartForm.TheVariants as form
use Rattle.pearl_instructions.specs.declared.schedule.RepeatForm.TheVariants as again
use Rattle.pearl_instructions.specs.declared.instr.Instr.{Instr}
use Rattle.pearl_instructions.specs.declared.instr.Instr.TheVariants.{Load, LoadAt, Index, RefCell, RefSlotAt, ReadRef, WriteRef, Call, Return, Advance, Activate, Continue, TerminateOwn, Put, Get}
use Rattle.pearl_instructions.specs.declared.object.Procedure.{Procedure}
use Rattle.pearl_instructions.specs.declared.object.Leaf.{Leaf}
use Rattle.pearl_instructions.specs.declared.object.Parts.{Parts as Object}
use Rattle.pearl_instructions.specs.Steps.{Step, Silent, Offers, Missing}
use Rattle.pearl_instructions.specs.Rows.{row, after, begun}
use Rattle.pearl_instructions.specs.Stacks.{Answers}
use Rattle.pearl_instructions.proofs.Examples.{fixed, code, task, sound, bounds, item}

abbrev pub number : ℕ → Cell
number n = Fixed 31 (pos n)

abbrev pub offered : Step → Option Action
offered (Silent frames) = None
offered (Offers action go) = Some action
offered Missing = None

-- the one frame of a task that has no procedures below it
abbrev pub frame : ℕ → List Cell → List Cell → List Frame
frame place cells operands = record { routine = 0; place = place; cells = cells; operands = operands } ∷ []

begins_unset : begun sound 0 ≡ frame 0 (number 0 ∷ []) []
begins_unset = refl

loads : row sound (frame 0 (number 1 ∷ []) []) ≡ Silent (frame 1 (number 1 ∷ []) (number 1 ∷ []))
loads = refl

adds : row sound (frame 2 (number 1 ∷ []) (number 1 ∷ number 1 ∷ [])) ≡ Silent (frame 3 (number 1 ∷ []) (number 2 ∷ []))
adds = refl

stores : row sound (frame 3 (number 1 ∷ []) (number 2 ∷ [])) ≡ Silent (frame 4 (number 2 ∷ []) [])
stores = refl

-- a task that has just this instruction
abbrev pub only : Instr → Object
only instr = task (code [] 9 (instr ∷ []) [])

-- a loop of the control 127, the step 1 and the limit 127 of FIXED(7): the sum leaves the kind, so the loop is left
abbrev short : ℕ → Cell
short n = Fixed 7 (pos n)

advances : row (only (Advance 0 5)) (frame 0 (short 126 ∷ short 1 ∷ short 127 ∷ []) []) ≡ Silent (frame 1 (short 127 ∷ short 1 ∷ short 127 ∷ []) [])
advances = refl

leaves_its_kind : row (only (Advance 0 5)) (frame 0 (short 127 ∷ short 1 ∷ short 127 ∷ []) []) ≡ Silent (frame 5 (short 127 ∷ short 1 ∷ short 127 ∷ []) [])
leaves_its_kind = refl

-- a procedure whose one parameter is of this kind, and which has a BIT(1) besides, and a task; the task is routine 1
abbrev pub calling : Procedure → Object
calling procedure = record (only (Call 0)) { procedures = procedure ∷ [] }

abbrev returning : Object
returning = calling (record { params = 1; result = Some (kind.Fixed 31); code = code (fixed ∷ Plain (kind.Bits 1) ∷ []) 9 (Load 0 ∷ Return ∷ []) [] })

abbrev pub caller : ℕ → List Cell → List Cell → Frame
caller place cells operands = record { routine = 1; place = place; cells = cells; operands = operands }

abbrev pub callee : ℕ → List Cell → List Cell → Frame
callee place cells operands = record { routine = 0; place = place; cells = cells; operands = operands }

enters : offered (row returning (caller 0 [] (number 2 ∷ number 9 ∷ []) ∷ [])) ≡ Some action.Enter
enters = refl

-- the arguments become cells, the other cells are unset, and the caller stays at its Call
calls : after (row returning (caller 0 [] (number 2 ∷ number 9 ∷ []) ∷ [])) Nothing ≡ callee 0 (number 2 ∷ Bits 1 0 ∷ []) [] ∷ caller 0 [] (number 9 ∷ []) ∷ []
calls = refl

returns : row returning (callee 1 (number 2 ∷ Bits 1 0 ∷ []) (number 7 ∷ []) ∷ caller 0 [] (number 9 ∷ []) ∷ []) ≡ Silent (caller 1 [] (number 7 ∷ number 9 ∷ []) ∷ [])
returns = refl

-- a frame's number is the number of frames below it
refers : row (only (RefCell 1)) (frame 0 (number 3 ∷ number 4 ∷ []) []) ≡ Silent (frame 1 (number 3 ∷ number 4 ∷ []) (Ref (kind.Fixed 31) (place.Cell 0 1) ∷ []))
refers = refl

abbrev writing : Object
writing = calling (record { params = 1; result = None; code = code (RefTo (kind.Fixed 31) ∷ []) 9 (WriteRef ∷ []) [] })

abbrev reference : Cell
reference = Ref (kind.Fixed 31) (place.Cell 0 1)

writes_at_the_caller : row writing (callee 0 (reference ∷ []) (number 5 ∷ reference ∷ []) ∷ caller 0 (number 3 ∷ number 4 ∷ []) [] ∷ [])
    ≡ Silent (callee 1 (reference ∷ []) [] ∷ caller 0 (number 3 ∷ number 5 ∷ []) [] ∷ [])
writes_at_the_caller = refl

abbrev leaf : ℕ → Leaf
leaf slots = record { name = 120 ∷ []; kind = kind.Fixed 31; slots = slots; constants = [] }

-- leaves of three slots and of two
abbrev pub with_leaves : Instr → Object
with_leaves instr = record (only instr) { leaves = leaf 3 ∷ leaf 2 ∷ [] }

refers_to_a_slot : row (with_leaves (RefSlotAt 1)) (frame 0 [] (number 1 ∷ [])) ≡ Silent (frame 1 [] (Ref (kind.Fixed 31) (place.Slot 4) ∷ []))
refers_to_a_slot = refl

refers_past_a_leaf : offered (row (with_leaves (RefSlotAt 1)) (frame 0 [] (number 2 ∷ []))) ≡ Some (action.Trap trap.Index)
refers_past_a_leaf = refl

reads_a_slot : offered (row (with_leaves ReadRef) (frame 0 [] (Ref (kind.Fixed 31) (place.Slot 4) ∷ []))) ≡ Some (action.Read 4)
reads_a_slot = refl

abbrev dimensions : Instr
dimensions = Index (bounds 1 3 ∷ bounds 0 1 ∷ [])

-- the element (3, 1) of (1 : 3, 0 : 1) is the last one
last_element : row (only dimensions) (frame 0 [] (number 1 ∷ number 3 ∷ [])) ≡ Silent (frame 1 [] (number 5 ∷ []))
last_element = refl

outside_the_bounds : offered (row (only dimensions) (frame 0 [] (number 2 ∷ number 3 ∷ []))) ≡ Some (action.Trap trap.Index)
outside_the_bounds = refl

abbrev three : List Cell
three = number 10 ∷ number 11 ∷ number 12 ∷ []

loads_the_last : row (only (LoadAt 1 2)) (frame 0 three (number 1 ∷ [])) ≡ Silent (frame 1 three (number 12 ∷ []))
loads_the_last = refl

loads_past_the_range : offered (row (only (LoadAt 0 2)) (frame 0 three (number 2 ∷ []))) ≡ Some (action.Trap trap.Index)
loads_past_the_range = refl

-- AFTER a time ALL a period UNTIL a time of day ACTIVATE task 0 PRIO a number: the values lie in this order
abbrev plan : Instr
plan = Activate (record { task = 0; start = form.After; repeat = again.Until; priority = true })

abbrev planned : ℤ → ℤ → ℕ → Option Action
planned time period priority = offered (row (only plan) (frame 0 [] (number priority ∷ Clock 500 ∷ Span period ∷ Span time ∷ [])))

plans : planned (pos 0) (pos 1) 255 ≡ Some (action.Activate 0 (start.After (pos 0)) (repeat.Until (pos 1) 500) (Some 255))
plans = refl

negative_time : planned (negsuc 0) (pos 1) 255 ≡ Some (action.Trap trap.Range)
negative_time = refl

no_period : planned (pos 0) (pos 0) 255 ≡ Some (action.Trap trap.Range)
no_period = refl

priority_too_great : planned (pos 0) (pos 1) 256 ≡ Some (action.Trap trap.Range)
priority_too_great = refl

goes_on_at_once : offered (row (only (Continue (record { task = 0; once = None }))) (frame 0 [] [])) ≡ Some (action.Continue 0 start.Free)
goes_on_at_once = refl

-- the task is number 0 of the tasks, and routine 1
ends_itself : offered (row (record returning { tasks = (only TerminateOwn).tasks }) (caller 0 [] [] ∷ [])) ≡ Some (action.Terminate 0)
ends_itself = refl

hears_nothing : (answer : Answer) → Answers returning 0 (action.Terminate 0) answer → ⊥
hears_nothing answer suits = suits.0 refl

-- a terminal, and the format A(3), F(2)
abbrev transfers : Instr → Object
transfers instr = record (only instr) { devices = Terminal 1 InOut ∷ []; formats = (item A 3 ∷ item F 2 ∷ []) ∷ [] }

abbrev text : Cell
text = Chars (record { items = 97 ∷ 98 ∷ [] })

writes : offered (row (transfers (Put 0 0)) (frame 0 [] (number 7 ∷ text ∷ []))) ≡ Some (action.Put 0 (record { items = 97 ∷ 98 ∷ 32 ∷ 32 ∷ 55 ∷ [] }))
unfolding digits
writes = refl

too_wide : offered (row (transfers (Put 0 0)) (frame 0 [] (number 123 ∷ text ∷ []))) ≡ Some (action.Trap trap.Format)
unfolding digits
too_wide = refl

abbrev reading : Object
reading = transfers (Get (record { device = 0; format = 0; first = 1 }))

abbrev cells : List Cell
cells = number 1 ∷ text ∷ number 2 ∷ []

asks_for_kinds : offered (row reading (frame 0 cells [])) ≡ Some (action.Get 0 0 (record { items = kind.Chars 2 ∷ kind.Fixed 31 ∷ [] }))
asks_for_kinds = refl

gets : after (row reading (frame 0 cells [])) (Many (record { items = text ∷ number 8 ∷ [] })) ≡ frame 1 (number 1 ∷ text ∷ number 8 ∷ []) []
gets = refl
