-- What is not sound: hidden cells serve nothing else, control variables are only read, and only in their loops, and no
-- procedure calls its own number.
use Rattle.std.specs.Prelude.{◌≡◌, ◌⊎◌, ℕ, ◌+◌, ◌<◌, ◌≤◌, nat_eq, [], ◌∷◌, Some, None}
use Rattle.std.specs.List.{IsDistinct}
use Rattle.std.proofs.Common.{inl, inr, refl, sym, arith, true≢false}
use Rattle.pearl_value.specs.declared.kind.Kind.{Kind}
use Rattle.pearl_program.specs.PlainExpressions.{OfRead, OfIdent, NoArguments}
use Rattle.pearl_program.specs.PlainStatements.{PlainStmts, OfAssign, OfCallOf, OfRepeat, NoStmts, MoreStmts}
use Rattle.pearl_program.specs.Typing.{Around, HasKind, IsVariable, SuitsParam}
use Rattle.pearl_value.specs.declared.kind.CellKind.TheVariants.{RefTo}
use Rattle.pearl_program.specs.HiddenCells.{hidden_in_all}
use Rattle.pearl_program.specs.SoundStatements.{IsStmt, within}
use Rattle.pearl_program.specs.Sound.{CallSmaller}
use Rattle.pearl_program.proofs.WholeProgram.{short, number, alone, counter, around_task}

-- in the loop of the whole program, whose control variable, step and limit have the cells 1 to 3, behind which the value
-- that comes in and where it goes have 4 and 5
abbrev pub around_body : Around
around_body = within around_task (Some counter)

impossible : (cell other : ℕ) → cell ≡ other → (other < cell) ⊎ (cell + 1 ≤ other) → ⊥
impossible cell other same (inl less) = omega (arith, same, less)
impossible cell other same (inr more) = omega (arith, same, more)

-- the control variable isn't assigned
control_assigned : (kind : Kind) → IsVariable around_body (alone 1) kind → ⊥
control_assigned kind is = impossible 1 1 refl is.0.1.0

assigned : IsStmt around_body (OfAssign (alone 1) (number 1)) → ⊥
assigned is = control_assigned is.0 is.1

-- nor is it handed over for an IDENT parameter
control_handed : SuitsParam around_body (RefTo short) (OfIdent (alone 1)) → ⊥
control_handed suits = control_assigned short suits

-- it isn't read outside its loop
control_outside : HasKind around_task (OfRead (alone 1)) short → ⊥
control_outside (inl is) = impossible 1 1 refl is.0.1.0
control_outside (inr is) = true≢false (sym is.0)

-- the limit isn't read
limit_read : HasKind around_body (OfRead (alone 3)) short → ⊥
limit_read (inl is) = impossible 3 3 refl is.0.1.1.1.0
limit_read (inr is) = true≢false (sym is.0)

-- where a value that comes in goes isn't where its target lies
where_read : HasKind around_body (OfRead (alone 5)) short → ⊥
where_read (inl is) = impossible 5 5 refl is.0.1.1.1.1.1.0
where_read (inr is) = true≢false (sym is.0)

-- a loop within another counts in cells of its own
abbrev nested : ℕ → PlainStmts
nested cell = MoreStmts (OfRepeat (Some counter) None
    (MoreStmts (OfRepeat (Some (record { cell = cell; begin = None; step = None; end = None })) None NoStmts) NoStmts)) NoStmts

shared : IsDistinct nat_eq (hidden_in_all (nested 2)) → ⊥
unfolding IsDistinct
shared apart = true≢false apart.1.0.1.0

-- a procedure calls neither itself nor a later one
itself : CallSmaller 0 (record { params = 0; result = None; routine = record { cells = []; body = MoreStmts (OfCallOf 0 NoArguments) NoStmts } } ∷ []) → ⊥
itself smaller = let less = smaller.0 in omega (arith, less)
