-- What the value of an expression is, and what a procedure is handed.
use Rattle.std.specs.Prelude.{ℕ, List, [], ◌∷◌, drop, Option, option_and_then, slice_get}
use Rattle.pearl_value.specs.declared.kind.Kind.{Kind}
use Rattle.pearl_value.specs.declared.kind.CellKind.{CellKind}
use Rattle.pearl_value.specs.declared.cell.Cell.{Cell}
use Rattle.pearl_value.specs.Applied.{applied1, applied2}
use Rattle.pearl_value.specs.Conversions.{converted}
use Rattle.pearl_rules.specs.declared.action.Action.TheVariants as action
use Rattle.pearl_program.specs.PlainExpressions.{PlainExpr, OfLiteral, OfRead, OfMonadic, OfDyadic, OfCall, OfNow, OfTry, PlainVariable, OfVariable, PlainExprs, NoExprs, MoreExprs, PlainArgument, OfValue, OfIdent, PlainArguments, NoArguments, MoreArguments}
use Rattle.pearl_meaning.specs.Evaluation.{Does, gives, bind, ask_value, value_or_trap, given}
use Rattle.pearl_meaning.specs.Setting.{Setting, plain_kind, params_of}
use Rattle.pearl_meaning.specs.Variables.{elements_before, offset_of, reference, read_reference}

-- a value becomes one of this kind
abbrev pub convert : Option Kind → Cell → Does Cell
convert kind x = given kind (λ to. value_or_trap (converted x to))

-- a call: the arguments are evaluated for the procedure's parameters, and then it is entered
abbrev pub calls : Setting → (procedure : ℕ) → (List CellKind → Does (List Cell)) → Does (Option Cell)
calls setting number arguments = given (slice_get setting.program.procedures number) (λ procedure.
    bind (arguments (params_of procedure)) (λ xs. setting.call number xs))

module _ (setting : Setting) where
  -- operands are evaluated from left to right, and all of them
  abbrev mutual
    pub eval : PlainExpr → Does Cell
    eval (OfLiteral value) = gives value
    eval (OfRead variable) = bind (taken variable) read_reference
    eval (OfMonadic op operand) = bind (eval operand) (λ x. value_or_trap (applied1 op x))
    eval (OfDyadic op left right) = bind (eval left) (λ x. bind (eval right) (λ y. value_or_trap (applied2 op x y)))
    eval (OfCall procedure arguments) = bind (calls setting procedure (λ params. hand_over params arguments)) (λ result. given result gives)
    eval OfNow = ask_value action.Now
    eval (OfTry semaphore) = ask_value (action.Try semaphore)

    -- a variable is taken: all its subscripts are evaluated, then they are checked, and then there is a reference to it
    pub taken : PlainVariable → Does Cell
    taken (OfVariable target bounds subscripts) =
        bind (eval_all subscripts) (λ xs. bind (offset_of (elements_before bounds xs)) (λ offset. reference setting target bounds offset))

    pub eval_all : PlainExprs → Does (List Cell)
    eval_all NoExprs = gives []
    eval_all (MoreExprs e rest) = bind (eval e) (λ x. bind (eval_all rest) (λ xs. gives (x ∷ xs)))

    -- the arguments are evaluated from left to right
    pub hand_over : List CellKind → PlainArguments → Does (List Cell)
    hand_over params NoArguments = gives []
    hand_over params (MoreArguments argument rest) =
        bind (handed (slice_get params 0) argument) (λ x. bind (hand_over (drop 1 params) rest) (λ xs. gives (x ∷ xs)))

    -- a value is converted to the parameter's kind, and a variable with IDENT made a reference, before the next argument
    pub handed : Option CellKind → PlainArgument → Does Cell
    handed param (OfValue e) = bind (eval e) (λ x. convert (option_and_then plain_kind param) x)
    handed param (OfIdent variable) = taken variable
