-- The names of the opcodes, and which letter stands for each of their operands.
use Rattle.std.specs.Prelude.{◌≡◌, ℕ, suc, Bool, true, false, ◌&&◌, nat_lt, ◌==◌, List, [], ◌∷◌, codes, map, slice_index_or, IsTrue}
use Rattle.std.specs.List.{list_any}
use Rattle.pearl_instructions.specs.declared.instr.Instr.{Instr}
use Rattle.pearl_object.specs.declared.table.CodeRow.{CodeRow}
use Rattle.pearl_object.specs.Instructions.{Operand, OfNumber, OfKind, OfLiteral, OfNumbers, OfBounds, OfCause, OfOnce, OfMaybe, OfStart, OfRepeat, OfFlag, row, opcode_of}

-- the names, in the order of the opcodes
unfoldable pub names : List (List ℕ)
names =
    codes "Const" ∷ codes "Load" ∷ codes "Store" ∷ codes "Fill" ∷ codes "Drop" ∷ codes "Conv" ∷ codes "Index"
    ∷ codes "LoadAt" ∷ codes "StoreAt" ∷ codes "Read" ∷ codes "Write" ∷ codes "ReadAt" ∷ codes "WriteAt"
    ∷ codes "RefSlot" ∷ codes "RefSlotAt" ∷ codes "RefCell" ∷ codes "RefCellAt" ∷ codes "ReadRef" ∷ codes "WriteRef"
    ∷ codes "Jump" ∷ codes "JumpZero" ∷ codes "Case" ∷ codes "Turn" ∷ codes "Call" ∷ codes "Return" ∷ codes "End"
    ∷ codes "Trap" ∷ codes "Within" ∷ codes "Advance" ∷ codes "NonZero" ∷ codes "Plus" ∷ codes "Minus" ∷ codes "Abs"
    ∷ codes "Sign" ∷ codes "Not" ∷ codes "Pow" ∷ codes "Mul" ∷ codes "Div" ∷ codes "Rem" ∷ codes "Cat" ∷ codes "Add"
    ∷ codes "Sub" ∷ codes "Cshift" ∷ codes "Shift" ∷ codes "Lt" ∷ codes "Gt" ∷ codes "Le" ∷ codes "Ge" ∷ codes "Eq"
    ∷ codes "Ne" ∷ codes "And" ∷ codes "Or" ∷ codes "Exor" ∷ codes "Now" ∷ codes "Request" ∷ codes "Release"
    ∷ codes "Try" ∷ codes "Activate" ∷ codes "Continue" ∷ codes "Resume" ∷ codes "Suspend" ∷ codes "Terminate"
    ∷ codes "Prevent" ∷ codes "SuspendOwn" ∷ codes "TerminateOwn" ∷ codes "PreventOwn" ∷ codes "Enable"
    ∷ codes "Disable" ∷ codes "Trigger" ∷ codes "Put" ∷ codes "Get" ∷ codes "Take" ∷ codes "Send"
    ∷ []

-- the letters, in the order of the opcodes
unfoldable pub letters : List (List ℕ)
letters =
    codes "L" ∷ codes "c" ∷ codes "c" ∷ codes "cnk" ∷ codes "" ∷ codes "k" ∷ codes "x" ∷ codes "cn" ∷ codes "cn"
    ∷ codes "v" ∷ codes "v" ∷ codes "v" ∷ codes "v" ∷ codes "v" ∷ codes "v" ∷ codes "c" ∷ codes "cn" ∷ codes ""
    ∷ codes "" ∷ codes "i" ∷ codes "i" ∷ codes "I" ∷ codes "" ∷ codes "p" ∷ codes "" ∷ codes "" ∷ codes "T"
    ∷ codes "c" ∷ codes "ci" ∷ codes "" ∷ codes "" ∷ codes "" ∷ codes "" ∷ codes "" ∷ codes "" ∷ codes "" ∷ codes ""
    ∷ codes "" ∷ codes "" ∷ codes "" ∷ codes "" ∷ codes "" ∷ codes "" ∷ codes "" ∷ codes "" ∷ codes "" ∷ codes ""
    ∷ codes "" ∷ codes "" ∷ codes "" ∷ codes "" ∷ codes "" ∷ codes "" ∷ codes "" ∷ codes "S" ∷ codes "S" ∷ codes "s"
    ∷ codes "tarq" ∷ codes "tb" ∷ codes "e" ∷ codes "t" ∷ codes "t" ∷ codes "t" ∷ codes "" ∷ codes "" ∷ codes ""
    ∷ codes "d" ∷ codes "d" ∷ codes "d" ∷ codes "df" ∷ codes "dfc" ∷ codes "d" ∷ codes "d"
    ∷ []

abbrev pub is_one_of : List ℕ → ℕ → Bool
is_one_of set letter = list_any (λ other. other == letter) set

-- whether an operand is of the form that a letter stands for
abbrev pub has_form : Operand → ℕ → Bool
has_form (OfNumber n) letter = is_one_of (codes "cnviptsdf") letter
has_form (OfKind of) letter = is_one_of (codes "k") letter
has_form (OfLiteral x) letter = is_one_of (codes "L") letter
has_form (OfNumbers list) letter = is_one_of (codes "IS") letter
has_form (OfBounds list) letter = is_one_of (codes "x") letter
has_form (OfCause cause) letter = is_one_of (codes "T") letter
has_form (OfOnce form) letter = is_one_of (codes "e") letter
has_form (OfMaybe form) letter = is_one_of (codes "b") letter
has_form (OfStart form) letter = is_one_of (codes "a") letter
has_form (OfRepeat form) letter = is_one_of (codes "r") letter
has_form (OfFlag given) letter = is_one_of (codes "q") letter

-- the operands are of the forms of these letters, as many and in this order
abbrev pub have_forms : List Operand → List ℕ → Bool
have_forms [] [] = true
have_forms (operand ∷ operands) (letter ∷ more) = has_form operand letter && have_forms operands more
have_forms _ _ = false

-- an instruction's operands are those of its opcode's letters
abbrev pub HasItsForm : Instr → Type 0
HasItsForm i = IsTrue (have_forms (row i).operands (slice_index_or letters (opcode_of i) []))

abbrev pub rises_from : CodeRow → List CodeRow → Bool
rises_from r [] = true
rises_from r (s ∷ rows) = nat_lt r.opcode s.opcode && rises_from s rows

-- the opcodes rise strictly
abbrev pub rises : List CodeRow → Bool
rises [] = true
rises (r ∷ rows) = rises_from r rows

abbrev pub counts_from : ℕ → List CodeRow → Bool
counts_from n [] = true
counts_from n (r ∷ rows) = (r.opcode == n) && counts_from (suc n) rows

-- a row for each opcode, in order, with its name and its letters
pub record AreTheCodes (rows : List CodeRow) : Type 0 where
  pub counted : IsTrue (counts_from 0 rows)
  pub named : map (λ (r : CodeRow). r.name.now) rows ≡ names
  pub lettered : map (λ (r : CodeRow). r.operands.now) rows ≡ letters
