-- What is emitted: new instructions stand behind the old ones, and a statement's code stands there once the jumps to
-- places that come later have got theirs.
use Rattle.std.specs.Prelude.{◌≡◌, ℕ, ◌≤◌, Bool, true, List, length, Option, Some, None, option_map, Contains}
use Rattle.pearl_value.specs.declared.kind.Kind.{Kind}
use Rattle.pearl_value.specs.declared.trap.Trap.TheVariants.{Index, Range}
use Rattle.pearl_program.specs.declared.statement.Case.{Case, out-Case}
use Rattle.pearl_program.specs.declared.statement.If.{If}
use Rattle.pearl_program.specs.declared.statement.Repeat.{Repeat}
use Rattle.pearl_program.specs.declared.program.Program.{Program}
use Rattle.pearl_program.specs.declared.program.Routine.{Routine}
use Rattle.pearl_program.specs.PlainExpressions.{plain_expr}
use Rattle.pearl_program.specs.PlainStatements.{PlainStmt, OfIf, OfCase, OfRepeat, PlainStmts, PlainBranches, plain_counter, plain_stmts, plain_branches}
use Rattle.pearl_program.specs.PlainPrograms.{plain_prog, plain_routine}
use Rattle.pearl_instructions.specs.declared.instr.Instr.{Instr}
use Rattle.pearl_instructions.specs.declared.instr.Instr.TheVariants.{Jump, JumpZero, End, Trap}
use Rattle.pearl_meaning.specs.Setting.{Setting}
use Rattle.pearl_gen_expr.specs.ExprCode.{Is}
use Rattle.pearl_gen_stmt.specs.StmtCode.{StmtAt, StmtsAt, ElseAt, BranchesAt}
use Rattle.pearl_gen_stmt.specs.Generated.{within_program}
use Rattle.pearl_gen_stmt.specs.declared.pending.Pending.{Pending}
use Rattle.pearl_gen_stmt.specs.declared.pending.Pending.TheVariants.{Exit, Test, Branch as Behind}

-- the setting of a routine's statements
abbrev pub setting_of : Program → Option Kind → Routine → Setting
setting_of program result routine = within_program (plain_prog program) result (plain_routine routine)

-- statements with statements within them
abbrev pub plain_if : If → PlainStmt
plain_if part = OfIf (plain_expr part.condition) (plain_stmts part.statements.items) (plain_stmts part.otherwise.items)

abbrev pub plain_case : Case → PlainStmt
plain_case part =
    OfCase (plain_expr (out-Case part).selector) (plain_branches (out-Case part).alternatives.items)
    (plain_stmts (out-Case part).otherwise.items)

abbrev pub plain_repeat : Repeat → PlainStmt
plain_repeat part =
    OfRepeat (option_map plain_counter part.counter) (option_map plain_expr part.condition)
    (plain_stmts part.statements.items)

-- PENDING JUMPS

-- what stands in the place of a jump until it is known where it leads, and of which one
abbrev pub pending : Instr → Option Pending
pending End = Some Exit
pending (Trap Index) = Some Test
pending (Trap Range) = Some Behind
pending instr = None

abbrev pub instr_of : Pending → Instr
instr_of Exit = End
instr_of Test = Trap Index
instr_of Behind = Trap Range

abbrev pub jump_to : Pending → (place : ℕ) → Instr
jump_to Exit place = Jump place
jump_to Test place = JumpZero place
jump_to Behind place = Jump place

-- all else stays
abbrev pub Stays : List Instr → List Instr → Type 0
Stays old new = (place : ℕ) (instr : Instr) → Is old place instr → pending instr ≡ None → Is new place instr

-- places that are noted stay noted
abbrev pub Notes : (old new : List ℕ) → Type 0
Notes old new = (place : ℕ) → Contains old place → Contains new place

-- EXIT, emitted from a place on and noted, has become a jump behind the loop
abbrev pub Exits : (leave : Option ℕ) → (noted : List ℕ) → (from : ℕ) → List Instr → List Instr → Type 0
Exits leave noted from old new = (place : ℕ) → from ≤ place → Contains noted place → Is old place End →
    (past : ℕ) × (leave ≡ Some past) × Is new place (Jump past)

-- so have jumps behind CASE
abbrev pub GoBehind : (to : ℕ) → (noted : List ℕ) → (from : ℕ) → List Instr → List Instr → Type 0
GoBehind to noted from old new =
    (place : ℕ) → from ≤ place → Contains noted place → Is old place (Trap Range) → Is new place (Jump to)

-- and jumps behind a loop where a bit is 0
abbrev pub Leave : (past : ℕ) → (from : ℕ) → List Instr → List Instr → Type 0
Leave past from old new = (place : ℕ) → from ≤ place → Is old place (Trap Index) → Is new place (JumpZero past)

-- PARTS

-- from the end of the old instructions up to that of the new ones stands a part's code, whatever becomes of pending jumps
abbrev pub Adds : (Stands : List Instr → (from to : ℕ) → Type 0) → List Instr → List Instr → Type 0
Adds Stands old new = (final : List Instr) → Stays new final → Stands final (length old) (length new)

-- the same of a part that leaves a loop where a bit is 0, once the loop's end is known
abbrev pub AddsTest : (Stands : (past : ℕ) → List Instr → (from to : ℕ) → Type 0) → List Instr → List Instr → Type 0
AddsTest Stands old new = (final : List Instr) (past : ℕ) → Stays new final → Leave past (length old) new final →
    Stands past final (length old) (length new)

-- the same of a part with EXIT in it, once this has become a jump; there is none where no loop stands around, and each is
-- noted
abbrev pub AddsWithin : (in_loop : Bool) → (exits : List ℕ) → (Stands : Option ℕ → List Instr → (from to : ℕ) → Type 0) →
    List Instr → List Instr → Type 0
AddsWithin in_loop exits Stands old new = (final : List Instr) (leave : Option ℕ) → Stays new final →
    (in_loop ≡ true → Exits leave exits (length old) new final) → Stands leave final (length old) (length new)

module _ (setting : Setting) (in_loop : Bool) (exits : List ℕ) where
  abbrev pub AddsStmt : PlainStmt → List Instr → List Instr → Type 0
  AddsStmt statement = AddsWithin in_loop exits (λ leave code from to. StmtAt setting code leave from statement to)

  abbrev pub AddsStmts : PlainStmts → List Instr → List Instr → Type 0
  AddsStmts statements = AddsWithin in_loop exits (λ leave code from to. StmtsAt setting code leave from statements to)

  abbrev pub AddsElse : (other : ℕ) → PlainStmts → List Instr → List Instr → Type 0
  AddsElse other otherwise = AddsWithin in_loop exits (λ leave code from to. ElseAt setting code leave from other otherwise to)

  -- alternatives, at these places, once the jumps behind each, which are noted, have become jumps behind CASE
  abbrev pub AddsBranches : List ℕ → (ends : List ℕ) → PlainBranches → List Instr → List Instr → Type 0
  AddsBranches targets ends branches old new = (final : List Instr) (leave : Option ℕ) → Stays new final →
      (in_loop ≡ true → Exits leave exits (length old) new final) → GoBehind (length new) ends (length old) new final →
      BranchesAt setting final leave (length old) targets branches (length new)
