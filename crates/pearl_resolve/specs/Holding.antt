-- What stands in memory of what the definitions say: the numbers of names, and how far a reference has come.
use Rattle.std.specs.Prelude.{◌≡◌, ◌+◌, ◌++◌, ℕ, Bool, false, List, [], ◌∷◌, map, replicate, option_map, unwrap_or, slice_get}
use Rattle.pearl_value.specs.declared.kind.CellKind.{CellKind}
use Rattle.pearl_value.specs.declared.kind.CellKind.TheVariants.{Plain}
use Rattle.pearl_tree.specs.ShownExpressions.{ShownPrimary, OfRef, ShownRef}
use Rattle.pearl_tree.specs.ShownStatements.{ShownBodyDecl, ShownStmt, ShownStmts, ShownBranches, ShownOtherwise}
use Rattle.pearl_names.specs.declared.sense.Signature.{Signature}
use Rattle.pearl_names.specs.declared.types.StructForm.{StructForm}
use Rattle.pearl_names.specs.Forms.{StandsFor}
use Rattle.pearl_names.specs.Holding.{HoldsTable, parameter_of}
use Rattle.pearl_names.specs.Tables.{Parameter}
use Rattle.pearl_program.specs.declared.statement.Branch.{Branch}
use Rattle.pearl_program.specs.declared.statement.Stmt.{Stmt}
use Rattle.pearl_program.specs.PlainExpressions.{plain_exprs}
use Rattle.pearl_program.specs.PlainStatements.{PlainValues, OfRenew, PlainStmts, NoStmts, MoreStmts, PlainBranches, NoBranches, MoreBranches, plain_stmt, plain_stmts, plain_branches}
use Rattle.pearl_program.specs.PlainPrograms.{PlainTask, PlainProcedure, plain_task, plain_procedure}
use Rattle.pearl_resolve.specs.declared.numbered.ScopeNumbers.{ScopeNumbers}
use Rattle.pearl_resolve.specs.declared.numbered.NumberedTable.{NumberedTable}
use Rattle.pearl_resolve.specs.declared.routines.Routines.{Routines}
use Rattle.pearl_resolve.specs.declared.walk.Walk.{Walk as HeldWalk}
use Rattle.pearl_resolve.specs.declared.numbers.At.{At as HeldAt}
use Rattle.pearl_resolve.specs.declared.module_names.Before.{Before as HeldBefore}
use Rattle.pearl_resolve.specs.Expressions.{Numbered, Walk}
use Rattle.pearl_resolve.specs.Cells.{scope_cells, cells_in, cells_in_all, cells_in_branches, cells_in_otherwise}
use Rattle.pearl_resolve.specs.Numbers.{At, Before, entered, after, after_all, after_branches, after_otherwise}
use Rattle.pearl_resolve.specs.Statements.{alone, declared_renewals, joined, resolve_stmt, resolve_all, resolve_branches, resolve_otherwise}

-- scope by scope
abbrev pub numbers_held : List ScopeNumbers → List (List ℕ)
numbers_held scopes = map (λ (scope : ScopeNumbers). scope.numbers.items) scopes

pub record HoldsNumbered (held : NumberedTable) (of : Numbered) : Type 0 where
  pub table : HoldsTable held.table of.table
  pub numbers : numbers_held held.numbers.items ≡ of.numbers

-- what is made in memory is what it means for each numbered table that the one in memory holds
abbrev pub Becomes : {X : Type 0} → NumberedTable → X → (Numbered → X) → Type 0
Becomes held made meant = (of : Numbered) → HoldsNumbered held of → made ≡ meant of

abbrev pub parameters_in : Signature → List Parameter
parameters_in signature = map parameter_of signature.parameters.items

-- whether a parameter is one with IDENT
abbrev pub is_ident_at : List Parameter → ℕ → Bool
is_ident_at parameters index = unwrap_or (option_map (λ (parameter : Parameter). parameter.ident) (slice_get parameters index)) false

-- a reference as an expression
abbrev pub ref_primary : ShownRef → ShownPrimary
ref_primary reference = OfRef reference.name reference.selectors reference.place

-- a reference in memory that has come as far
pub record HoldsWalk (forms : List StructForm) (held : HeldWalk) (of : Walk) : Type 0 where
  pub target : held.target ≡ of.target
  pub part : StandsFor forms held.part of.shape
  pub bounds : held.bounds.items ≡ of.bounds
  pub subscripts : plain_exprs held.subscripts.items ≡ of.subscripts

-- the same for each numbered table
abbrev pub Walks : NumberedTable → HeldWalk → (Numbered → Walk) → Type 0
Walks held walk meant = (of : Numbered) → HoldsNumbered held of → HoldsWalk held.table.forms.items walk (meant of)

abbrev pub at_in : HeldAt → At
at_in at = record { next = at.next; cell = at.cell; format = at.format }

abbrev pub before_in : HeldBefore → Before
before_in before = record {
  leaves = before.leaves;
  semaphores = before.semaphores;
  tasks = before.tasks;
  procedures = before.procedures;
}

-- how far the text has come behind a part of it, and the numbers that are added for its scopes
pub record GoesPast (now : At) (old new : List (List ℕ)) (after : At) (numbers : List (List ℕ)) : Type 0 where
  pub at : now ≡ after
  pub added : new ≡ old ++ numbers

-- a statement that becomes one, whatever stands before it
abbrev pub BecomesStmt : NumberedTable → ℕ → ShownStmt → Stmt → Type 0
BecomesStmt held scope statement made = (of : Numbered) → HoldsNumbered held of → (at : At) →
    alone (plain_stmt made) ≡ resolve_stmt of scope at statement

-- the same where the text has come so far
abbrev pub BecomesStmtAt : NumberedTable → ℕ → HeldAt → ShownStmt → Stmt → Type 0
BecomesStmtAt held scope at statement made = (of : Numbered) → HoldsNumbered held of →
    alone (plain_stmt made) ≡ resolve_stmt of scope (at_in at) statement

-- how far the text has come behind a part of it, the cells that are added for it, and what is made of it
pub record Resolves {X : Type 0} (now : At) (cells more : List CellKind) (made : X) (after : At) (own : List CellKind) (meant : X) : Type 0 where
  pub goes : now ≡ after
  pub adds : more ≡ cells ++ own
  pub makes : made ≡ meant

-- what a statement of this scope adds behind others, for each numbered table that the one in memory holds
abbrev pub AddsStmt : NumberedTable → ℕ → HeldAt → ShownStmt → HeldAt → (cells more : List CellKind) (made new : List Stmt) → Type 0
AddsStmt held scope at statement now cells more made new = (of : Numbered) → HoldsNumbered held of →
    Resolves (at_in now) cells more (plain_stmts new) (after of.table (at_in at) statement) (cells_in of scope (at_in at) statement)
    (joined (plain_stmts made) (resolve_stmt of scope (at_in at) statement))

abbrev pub AddsStmts : NumberedTable → ℕ → HeldAt → ShownStmts → HeldAt → (cells more : List CellKind) (made new : List Stmt) → Type 0
AddsStmts held scope at statements now cells more made new = (of : Numbered) → HoldsNumbered held of →
    Resolves (at_in now) cells more (plain_stmts new) (after_all of.table (at_in at) statements) (cells_in_all of scope (at_in at) statements)
    (joined (plain_stmts made) (resolve_all of scope (at_in at) statements))

abbrev pub AddsOtherwise : NumberedTable → ℕ → HeldAt → ShownOtherwise → HeldAt → (cells more : List CellKind) (made new : List Stmt) → Type 0
AddsOtherwise held scope at otherwise now cells more made new = (of : Numbered) → HoldsNumbered held of →
    Resolves (at_in now) cells more (plain_stmts new) (after_otherwise of.table (at_in at) otherwise)
    (cells_in_otherwise of scope (at_in at) otherwise) (joined (plain_stmts made) (resolve_otherwise of scope (at_in at) otherwise))

abbrev pub joined_branches : PlainBranches → PlainBranches → PlainBranches
joined_branches NoBranches more = more
joined_branches (MoreBranches statements rest) more = MoreBranches statements (joined_branches rest more)

abbrev pub AddsBranches : NumberedTable → ℕ → HeldAt → ShownBranches → HeldAt → (cells more : List CellKind) (made new : List Branch) → Type 0
AddsBranches held scope at branches now cells more made new = (of : Numbered) → HoldsNumbered held of →
    Resolves (at_in now) cells more (plain_branches new) (after_branches of.table (at_in at) branches)
    (cells_in_branches of scope (at_in at) branches) (joined_branches (plain_branches made) (resolve_branches of scope (at_in at) branches))

-- what a body adds whose scope begins here, where so many cells stand before its own
abbrev pub AddsBody : NumberedTable → ℕ → HeldAt → List ShownBodyDecl → ShownStmts → HeldAt → (cells more : List CellKind) (made new : List Stmt) → Type 0
AddsBody held hidden at declarations statements now cells more made new = (of : Numbered) → HoldsNumbered held of →
    Resolves (at_in now) cells more (plain_stmts new) (after_all of.table (entered of.table hidden (at_in at)) statements)
    (scope_cells of.table at.next ++ cells_in_all of at.next (entered of.table hidden (at_in at)) statements)
    (joined (plain_stmts made)
    (joined (declared_renewals of at.next declarations) (resolve_all of at.next (entered of.table hidden (at_in at)) statements)))

-- the cells of a leaf of a variable with these first values
abbrev pub values_cells : PlainValues → List CellKind
values_cells values = replicate values.count (Plain values.kind)

-- leaves with these first values that lie in cells from this one on get them
abbrev pub values_renewals : ℕ → List PlainValues → PlainStmts
values_renewals cell [] = NoStmts
values_renewals cell (values ∷ rest) = MoreStmts (OfRenew cell values) (values_renewals (cell + values.count) rest)

-- the tasks and procedures that a part of the text adds
pub record AddsRoutines (now : At) (old new : Routines) (after : At) (tasks : List PlainTask) (procedures : List PlainProcedure) : Type 0 where
  pub goes : now ≡ after
  pub adds_tasks : map plain_task new.tasks.items ≡ map plain_task old.tasks.items ++ tasks
  pub adds_procedures : map plain_procedure new.procedures.items ≡ map plain_procedure old.procedures.items ++ procedures
