-- Small objects, and which rule fails where.
use Rattle.std.specs.Prelude.{◌≡◌, ℕ, pos, false, List, [], ◌∷◌, ◌++◌, Some, None}
use Rattle.std.proofs.Common.{refl}
use Rattle.pearl_value.specs.declared.kind.Kind.TheVariants as kind
use Rattle.pearl_value.specs.declared.kind.CellKind.{CellKind}
use Rattle.pearl_value.specs.declared.kind.CellKind.TheVariants.{Plain, RefTo}
use Rattle.pearl_value.specs.declared.operator.Monad.TheVariants.{Not}
use Rattle.pearl_value.specs.declared.operator.Dyad.TheVariants.{Add}
use Rattle.pearl_format.specs.declared.item.Item.{Item}
use Rattle.pearl_format.specs.declared.item.ItemCode.{ItemCode}
use Rattle.pearl_format.specs.declared.item.ItemCode.TheVariants.{A, F, X}
use Rattle.pearl_value.specs.declared.device.Device.TheVariants.{Terminal}
use Rattle.pearl_value.specs.declared.device.Direction.TheVariants.{InOut}
use Rattle.pearl_instructions.specs.declared.instr.Bounds.{Bounds}
use Rattle.pearl_instructions.specs.declared.instr.Instr.{Instr}
use Rattle.pearl_instructions.specs.declared.instr.Instr.TheVariants.{Load, Store, Drop, Index, Jump, JumpZero, Turn, Call, Return, End, Monadic, Dyadic, Request, Put}
use Rattle.pearl_instructions.specs.declared.object.Shape.{Shape as Stated}
use Rattle.pearl_instructions.specs.declared.object.Code.{Code}
use Rattle.pearl_instructions.specs.declared.object.Parts.{Parts as Object}
use Rattle.pearl_instructions.specs.Valid.{unsound}

abbrev pub fixed : CellKind
fixed = Plain (kind.Fixed 31)

abbrev pub code : List CellKind → ℕ → List Instr → List Stated → Code
code cells depth instructions shapes = record { cells = cells; depth = depth; instructions = instructions; shapes = shapes }

-- an object with one task of this code
abbrev pub task : Code → Object
task code = record {
  devices = [];
  semaphores = [];
  leaves = [];
  formats = [];
  procedures = [];
  tasks = record { name = record { items = 84 ∷ [] }; priority = 1; main = false; code = code } ∷ [];
}

-- an object with one procedure that returns a FIXED(31)
abbrev pub procedure : Code → Object
procedure code = record {
  devices = [];
  semaphores = [];
  leaves = [];
  formats = [];
  tasks = [];
  procedures = record { params = 0; result = Some (kind.Fixed 31); code = code } ∷ [];
}

abbrev pub stated : ℕ → List CellKind → Stated
stated instruction kinds = record { instruction = instruction; kinds = kinds }

abbrev pub sound : Object
sound = task (code (fixed ∷ []) 3 (Load 0 ∷ Load 0 ∷ Dyadic Add ∷ Store 0 ∷ End ∷ []) [])

nothing_fails_1 : unsound sound 0 0 ≡ None
nothing_fails_1 = refl

nothing_fails_2 : unsound sound 0 1 ≡ None
nothing_fails_2 = refl

nothing_fails_3 : unsound sound 0 2 ≡ None
nothing_fails_3 = refl

nothing_fails_4 : unsound sound 0 3 ≡ None
nothing_fails_4 = refl

nothing_fails_5 : unsound sound 0 4 ≡ None
nothing_fails_5 = refl

nothing_fails_behind : unsound sound 0 5 ≡ None
nothing_fails_behind = refl

no_such_cell : unsound (task (code [] 9 (Load 0 ∷ End ∷ []) [])) 0 0 ≡ Some 1
no_such_cell = refl

stated_for_nothing : unsound (task (code [] 9 (End ∷ []) (stated 1 [] ∷ []))) 0 1 ≡ Some 1
stated_for_nothing = refl

nothing_to_store : unsound (task (code (fixed ∷ []) 9 (Store 0 ∷ End ∷ []) [])) 0 0 ≡ Some 2
nothing_to_store = refl

no_bit : unsound (task (code (fixed ∷ []) 9 (Load 0 ∷ JumpZero 2 ∷ End ∷ []) [])) 0 1 ≡ Some 2
no_bit = refl

nothing_to_return : unsound (procedure (code [] 9 (Return ∷ []) [])) 0 0 ≡ Some 2
nothing_to_return = refl

no_row : unsound (task (code (fixed ∷ []) 9 (Load 0 ∷ Monadic Not ∷ End ∷ []) [])) 0 1 ≡ Some 3
no_row = refl

another_kind : unsound (task (code (fixed ∷ Plain (kind.Fixed 7) ∷ []) 9 (Load 0 ∷ Store 1 ∷ End ∷ []) [])) 0 1 ≡ Some 4
another_kind = refl

-- a reference is copied, but stored in no cell
copies_a_reference : unsound (procedure (code (RefTo (kind.Fixed 31) ∷ []) 9 (Load 0 ∷ Store 0 ∷ Return ∷ []) [])) 0 0 ≡ None
copies_a_reference = refl

stores_a_reference : unsound (procedure (code (RefTo (kind.Fixed 31) ∷ []) 9 (Load 0 ∷ Store 0 ∷ Return ∷ []) [])) 0 1 ≡ Some 5
stores_a_reference = refl

-- a jump names the instruction, so the shape before it is empty where none is stated
another_shape : unsound (task (code (fixed ∷ []) 9 (Load 0 ∷ Jump 2 ∷ End ∷ []) [])) 0 1 ≡ Some 6
another_shape = refl

stated_shape : unsound (task (code (fixed ∷ []) 9 (Load 0 ∷ Jump 2 ∷ Drop ∷ End ∷ []) (stated 2 (fixed ∷ []) ∷ []))) 0 1 ≡ None
stated_shape = refl

back_without_a_turn : unsound (task (code [] 9 (Jump 0 ∷ []) [])) 0 0 ≡ Some 7
back_without_a_turn = refl

back_to_a_turn : unsound (task (code [] 9 (Turn ∷ Jump 0 ∷ []) [])) 0 1 ≡ None
back_to_a_turn = refl

calls_itself : unsound (procedure (code [] 9 (Call 0 ∷ Return ∷ []) [])) 0 0 ≡ Some 8
calls_itself = refl

goes_past_the_end : unsound (task (code (fixed ∷ []) 9 (Load 0 ∷ []) [])) 0 1 ≡ Some 9
goes_past_the_end = refl

another_result : unsound (procedure (code (Plain (kind.Bits 1) ∷ []) 9 (Load 0 ∷ Return ∷ []) [])) 0 1 ≡ Some 10
another_result = refl

ends_with_an_operand : unsound (task (code (fixed ∷ []) 9 (Load 0 ∷ End ∷ []) [])) 0 1 ≡ Some 10
ends_with_an_operand = refl

-- the shape before an instruction counts, not the one after it
too_deep : unsound (task (code (fixed ∷ []) 1 (Load 0 ∷ Drop ∷ End ∷ []) [])) 0 1 ≡ Some 11
too_deep = refl

states_too_much : unsound (task (code [] 4097 (End ∷ []) [])) 0 1 ≡ Some 11
states_too_much = refl

-- an object with three semaphores, whose task begins by requesting these
abbrev requests : List ℕ → Object
requests semaphores = record (task (code [] 9 (Request semaphores ∷ End ∷ []) [])) { semaphores = 0 ∷ 1 ∷ 1 ∷ [] }

two_semaphores : unsound (requests (2 ∷ 0 ∷ [])) 0 0 ≡ None
two_semaphores = refl

no_semaphore : unsound (requests []) 0 0 ≡ Some 12
no_semaphore = refl

one_semaphore_twice : unsound (requests (2 ∷ 0 ∷ 2 ∷ [])) 0 0 ≡ Some 12
one_semaphore_twice = refl

abbrev pub bounds : ℕ → ℕ → Bounds
bounds low high = record { low = pos low; high = pos high }

-- the task takes one subscript for each of these dimensions
abbrev indexes : List Bounds → List Instr → Object
indexes dimensions subscripts = task (code (fixed ∷ []) 9 (subscripts ++ (Index dimensions ∷ Drop ∷ End ∷ [])) [])

full_array : unsound (indexes (bounds 1 256 ∷ bounds 0 255 ∷ []) (Load 0 ∷ Load 0 ∷ [])) 0 2 ≡ None
full_array = refl

too_many_elements : unsound (indexes (bounds 0 65536 ∷ []) (Load 0 ∷ [])) 0 1 ≡ Some 12
too_many_elements = refl

bounds_turned_round : unsound (indexes (bounds 1 0 ∷ []) (Load 0 ∷ [])) 0 1 ≡ Some 12
bounds_turned_round = refl

abbrev pub item : ItemCode → ℕ → Item
item code width = record { code = code; width = width }

-- an object with a terminal, whose task writes a FIXED(31) by these items
abbrev puts : List Item → Object
puts items = record (task (code (fixed ∷ []) 9 (Load 0 ∷ Put 0 0 ∷ End ∷ []) [])) {
  devices = Terminal 1 InOut ∷ [];
  formats = items ∷ [];
}

abbrev blanks : List Item
blanks = item X 255 ∷ item X 255 ∷ item X 255 ∷ item X 255 ∷ []

full_text : unsound (puts (item F 4 ∷ blanks)) 0 1 ≡ None
full_text = refl

text_too_long : unsound (puts (item F 5 ∷ blanks)) 0 1 ≡ Some 12
text_too_long = refl

another_item : unsound (puts (item A 4 ∷ [])) 0 1 ≡ Some 12
another_item = refl
