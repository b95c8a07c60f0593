-- What the expressions of a program have together is no more than what the pieces have of which they are made in the tree.
use Rattle.std.specs.Prelude.{◌≡◌, ℕ, ◌≤◌, Bool, true, false, List, [], ◌∷◌, ◌++◌, Option, Some, None, option_map, is_some, slice_get, ◌-◌}
use Rattle.std.specs.Option.{option_and_then}
use Rattle.std.proofs.Common.{refl, ap, ◌∙◌, sym, arith}
use Rattle.pearl_tree.specs.declared.name.Name.{Name}
use Rattle.pearl_tree.specs.declared.name.Number.{Number}
use Rattle.pearl_tree.specs.declared.expression.Monadic.{Monadic}
use Rattle.pearl_tree.specs.declared.expression.Side.{Side}
use Rattle.pearl_tree.specs.Names.{name_text}
use Rattle.pearl_tree.specs.ShownExpressions.{ShownExpr, ShownPrimary, ShownSelectors, NoSelectors, MoreSelectors, ShownSelector, OfSubscripts, OfComponent, ShownExprs}
use Rattle.pearl_tree.specs.ShownExpressions as shown
use Rattle.pearl_names.specs.declared.scope.View.{View}
use Rattle.pearl_names.specs.declared.meaning.Found.{Found}
use Rattle.pearl_names.specs.Found.{found_from}
use Rattle.pearl_names.specs.Forms.{Component}
use Rattle.pearl_names.specs.Tables.{Parameter, Sense, Variable, Control, OwnParameter, NewType, Semaphore, Interrupt, AlphicDation, BasicDation, Task, Procedure, sense_at}
use Rattle.pearl_program.specs.declared.expression.Bound.{Bound}
use Rattle.pearl_program.specs.PlainExpressions.{PlainExpr, OfLiteral, OfRead, OfMonadic, OfDyadic, OfCall, OfNow, OfTry, PlainExprs, NoExprs, MoreExprs}
use Rattle.pearl_program.specs.Weights.{Sizes, of_expr, of_exprs, of_argument, of_arguments}
use Rattle.pearl_check_expr.specs.Judged.{dimension_of}
use Rattle.pearl_check.specs.Pieces.{Piece, Reference, Other, expr_pieces, primary_pieces, selectors_pieces, selector_pieces, exprs_pieces}
use Rattle.pearl_check.specs.Views.{seen, is_procedure_sense}
use Rattle.pearl_resolve.specs.Expressions.{Numbered, Meant, meant, meant_at, number_at, number_of, Walk, walk_of, walk_from, to_field, field_of, joined_exprs, variable_of, open_bounds, limit_value, limit_of, monadics_over, params_of, called_or, handed, resolve_expr, resolve_primary, along, step, resolve_exprs, resolve_call, first_arguments, resolve_arguments}

-- what is taken together grows with its parts
pub record IsMeasure (sizes : Sizes) : Type 0 where
  pub left : (a b : ℕ) → a ≤ sizes.both a b
  pub right : (a b : ℕ) → b ≤ sizes.both a b
  pub grows : (a b c d : ℕ) → a ≤ c → b ≤ d → sizes.both a b ≤ sizes.both c d
  pub assoc : (a b c : ℕ) → sizes.both (sizes.both a b) c ≡ sizes.both a (sizes.both b c)
  pub none : (a : ℕ) → sizes.both 0 a ≡ a

-- a name stands for a procedure where a program finds its parameters
same_sort : (numbered : Numbered) (found : Option Found) →
    is_procedure_sense (option_and_then (sense_at numbered.table.senses) found) ≡ is_some (params_of (option_and_then (meant_at numbered) found))
same_sort numbered None = refl
same_sort numbered (Some found) = by (sense_at numbered.table.senses found)
  where
    by : (sense : Option Sense) → is_procedure_sense sense ≡
        is_some (params_of (option_map (λ (sense : Sense). record { sense = sense; scope = found.scope; number = number_at numbered.numbers found }) sense))
    by None = refl
    by (Some (Variable form inv)) = refl
    by (Some (Control kind)) = refl
    by (Some (OwnParameter parameter)) = refl
    by (Some NewType) = refl
    by (Some Semaphore) = refl
    by (Some Interrupt) = refl
    by (Some (AlphicDation direction)) = refl
    by (Some (BasicDation direction kind)) = refl
    by (Some Task) = refl
    by (Some (Procedure parameters result)) = refl

pub is_called : (numbered : Numbered) (view : View) (name : Name) →
    is_procedure_sense (seen numbered.table view name) ≡ is_some (params_of (meant numbered view name))
is_called numbered view name = same_sort numbered (found_from numbered.table.names view (name_text name))

-- no subscripts come before the first selector
walk_begins : (found : Option Meant) → (walk_from found).subscripts ≡ NoExprs
walk_begins None = refl
walk_begins (Some thing) = by thing.sense
  where
    thing_as : Sense → Meant
    thing_as sense = record { sense = sense; scope = thing.scope; number = thing.number }

    by : (sense : Sense) → (walk_of (record { sense = sense; scope = thing.scope; number = thing.number })).subscripts ≡ NoExprs
    by (Variable None inv) = refl
    by sense = refl

field_subscripts : (walk : Walk) (found : Option Component) → (to_field walk found).subscripts ≡ walk.subscripts
field_subscripts walk None = refl
field_subscripts walk (Some field) = refl

module _ (sizes : Sizes) (numbered : Numbered) where
  -- of a call of this number, where one is called
  abbrev pub called_size : Bool → ℕ → ℕ
  called_size true number = sizes.call number
  called_size false number = 0

  abbrev pub piece_size : View → Piece → ℕ
  piece_size view (Reference name) =
      sizes.both sizes.one (called_size (is_procedure_sense (seen numbered.table view name)) (number_of numbered view name))
  piece_size view Other = sizes.one

  abbrev pub pieces_size : View → List Piece → ℕ
  pieces_size view [] = 0
  pieces_size view (piece ∷ rest) = sizes.both (piece_size view piece) (pieces_size view rest)

module _ (sizes : Sizes) (is : IsMeasure sizes) (numbered : Numbered) where
  pieces_both : (view : View) (a b : List Piece) → sizes.both (pieces_size sizes numbered view a) (pieces_size sizes numbered view b) ≡ pieces_size sizes numbered view (a ++ b)
  pieces_both view [] b = is.none (pieces_size sizes numbered view b)
  pieces_both view (piece ∷ rest) b =
      is.assoc (piece_size sizes numbered view piece) (pieces_size sizes numbered view rest) (pieces_size sizes numbered view b) ∙
      ap (λ n. sizes.both (piece_size sizes numbered view piece) n) (pieces_both view rest b)

  joined_size : (a b : PlainExprs) → of_exprs sizes (joined_exprs a b) ≡ sizes.both (of_exprs sizes a) (of_exprs sizes b)
  joined_size NoExprs b = sym (is.none (of_exprs sizes b))
  joined_size (MoreExprs e rest) b =
      ap (λ n. sizes.both (of_expr sizes e) n) (joined_size rest b) ∙ sym (is.assoc (of_expr sizes e) (of_exprs sizes rest) (of_exprs sizes b))

  monadics_size : (monadics : List Monadic) (e : PlainExpr) → of_expr sizes (monadics_over monadics e) ≡ of_expr sizes e
  monadics_size [] e = refl
  monadics_size (monadic ∷ rest) e = monadics_size rest e

  handed_size : (ident : Bool) (e : PlainExpr) → of_argument sizes (handed ident e) ≡ of_expr sizes e
  handed_size true (OfRead variable) = refl
  handed_size true (OfLiteral value) = refl
  handed_size true (OfMonadic op operand) = refl
  handed_size true (OfDyadic op left right) = refl
  handed_size true (OfCall procedure _) = refl
  handed_size true OfNow = refl
  handed_size true (OfTry semaphore) = refl
  handed_size false e = refl

  limit_size : (side : Side) (bound : Option Bound) → of_expr sizes (limit_value side bound) ≡ sizes.one
  limit_size side None = refl
  limit_size side (Some bound) = refl

  limit_one : (dimension : Option Number) (side : Side) (walk : Walk) → of_expr sizes (limit_of dimension side walk) ≡ sizes.one
  limit_one dimension side walk = limit_size side (slice_get (open_bounds walk) (dimension_of dimension - 1))

  -- a name with its selectors, as a call or as a variable
  ref_by : (view : View) (name : Name) (selectors : ShownSelectors) (params : Option (List Parameter)) →
      is_procedure_sense (seen numbered.table view name) ≡ is_some params →
      of_exprs sizes (along numbered view (walk_from (meant numbered view name)) selectors).subscripts ≤ pieces_size sizes numbered view (selectors_pieces selectors) →
      ((parameters : List Parameter) → of_arguments sizes (resolve_call numbered view parameters selectors) ≤ pieces_size sizes numbered view (selectors_pieces selectors)) →
      of_expr sizes (called_or params
      (λ parameters. OfCall (number_of numbered view name) (resolve_call numbered view parameters selectors))
      (OfRead (variable_of (along numbered view (walk_from (meant numbered view name)) selectors)))) ≤
      pieces_size sizes numbered view (Reference name ∷ selectors_pieces selectors)
  ref_by view name selectors None same walk call =
      is.grows sizes.one (of_exprs sizes (along numbered view (walk_from (meant numbered view name)) selectors).subscripts)
      (piece_size sizes numbered view (Reference name)) (pieces_size sizes numbered view (selectors_pieces selectors))
      (is.left sizes.one (called_size sizes numbered (is_procedure_sense (seen numbered.table view name)) (number_of numbered view name))) walk
  ref_by view name selectors (Some parameters) same walk call =
      let number = number_of numbered view name in
      let arguments = of_arguments sizes (resolve_call numbered view parameters selectors) in
      let behind = pieces_size sizes numbered view (selectors_pieces selectors) in
      let own = sizes.both sizes.one (sizes.call number) in
      let a = is.assoc sizes.one (sizes.call number) arguments in
      let b = is.grows own arguments own behind (omega arith) (call parameters) in
      let c : sizes.both (sizes.both sizes.one (called_size sizes numbered (is_procedure_sense (seen numbered.table view name)) number)) behind ≡ sizes.both own behind =
      ap (λ test. sizes.both (sizes.both sizes.one (called_size sizes numbered test number)) behind) same in
      omega (arith, a, b, c)

  -- from a name on
  from_name : (view : View) (found : Option Meant) (selectors : ShownSelectors) →
      of_exprs sizes (along numbered view (walk_from found) selectors).subscripts ≤
      sizes.both (of_exprs sizes (walk_from found).subscripts) (pieces_size sizes numbered view (selectors_pieces selectors)) →
      of_exprs sizes (along numbered view (walk_from found) selectors).subscripts ≤ pieces_size sizes numbered view (selectors_pieces selectors)
  from_name view found selectors a =
      let b = ap (λ subscripts. sizes.both (of_exprs sizes subscripts) (pieces_size sizes numbered view (selectors_pieces selectors))) (walk_begins found) in
      let c = is.none (pieces_size sizes numbered view (selectors_pieces selectors)) in
      omega (arith, a, b, c)

  mutual
    pub expr_size : (view : View) (e : ShownExpr) → of_expr sizes (resolve_expr numbered view e) ≤ pieces_size sizes numbered view (expr_pieces e)
    expr_size view (shown.OfOperand monadics part place) =
        let a = monadics_size monadics (resolve_primary numbered view part) in let b = primary_size view part in omega (arith, a, b)
    expr_size view (shown.OfDyadic left dyadic right place) =
        let a = is.grows _ _ _ _ (expr_size view left) (expr_size view right) in
        let b = pieces_both view (expr_pieces left) (expr_pieces right) in
        omega (arith, a, b)

    primary_size : (view : View) (part : ShownPrimary) → of_expr sizes (resolve_primary numbered view part) ≤ pieces_size sizes numbered view (primary_pieces part)
    primary_size view (shown.OfRef name selectors place) =
        ref_by view name selectors (params_of (meant numbered view name)) (is_called numbered view name)
        (from_name view (meant numbered view name) selectors (along_size view (walk_from (meant numbered view name)) selectors)) (λ parameters. call_size view parameters selectors)
    primary_size view (shown.OfGroup inner place) = expr_size view inner
    primary_size view (shown.OfTry name place) = is.left sizes.one (sizes.both sizes.one 0)
    primary_size view (shown.OfLimit dimension side name selectors ref_place place) =
        let a = is.left sizes.one (sizes.both sizes.one (pieces_size sizes numbered view (selectors_pieces selectors))) in
        let b = limit_one dimension side (along numbered view (walk_from (meant numbered view name)) selectors) in omega (arith, a, b)
    primary_size view part = is.left sizes.one 0

    along_size : (view : View) (walk : Walk) (selectors : ShownSelectors) → of_exprs sizes (along numbered view walk selectors).subscripts ≤
        sizes.both (of_exprs sizes walk.subscripts) (pieces_size sizes numbered view (selectors_pieces selectors))
    along_size view walk NoSelectors = is.left (of_exprs sizes walk.subscripts) 0
    along_size view walk (MoreSelectors selector rest) =
        let before = of_exprs sizes walk.subscripts in
        let own = pieces_size sizes numbered view (selector_pieces selector) in
        let behind = pieces_size sizes numbered view (selectors_pieces rest) in
        let a = along_size view (step numbered view walk selector) rest in
        let b = is.grows (of_exprs sizes (step numbered view walk selector).subscripts) behind (sizes.both before own) behind
        (step_size view walk selector) (omega arith) in
        let c = is.assoc before own behind in
        let d = ap (λ n. sizes.both before n) (pieces_both view (selector_pieces selector) (selectors_pieces rest)) in
        omega (arith, a, b, c, d)

    step_size : (view : View) (walk : Walk) (selector : ShownSelector) → of_exprs sizes (step numbered view walk selector).subscripts ≤
        sizes.both (of_exprs sizes walk.subscripts) (pieces_size sizes numbered view (selector_pieces selector))
    step_size view walk (OfSubscripts exprs place) =
        let a = joined_size walk.subscripts (resolve_exprs numbered view exprs) in
        let b = is.grows (of_exprs sizes walk.subscripts) (of_exprs sizes (resolve_exprs numbered view exprs)) (of_exprs sizes walk.subscripts)
        (pieces_size sizes numbered view (exprs_pieces exprs)) (omega arith) (exprs_size view exprs) in
        omega (arith, a, b)
    step_size view walk (OfComponent name place) =
        let a = is.left (of_exprs sizes walk.subscripts) 0 in
        let b = ap (λ subscripts. of_exprs sizes subscripts) (field_subscripts walk (field_of walk.shape name)) in
        omega (arith, a, b)

    pub exprs_size : (view : View) (exprs : ShownExprs) → of_exprs sizes (resolve_exprs numbered view exprs) ≤ pieces_size sizes numbered view (exprs_pieces exprs)
    exprs_size view shown.NoExprs = omega arith
    exprs_size view (shown.MoreExprs e rest) =
        let a = is.grows _ _ _ _ (expr_size view e) (exprs_size view rest) in
        let b = pieces_both view (expr_pieces e) (exprs_pieces rest) in
        omega (arith, a, b)

    call_size : (view : View) (parameters : List Parameter) (selectors : ShownSelectors) →
        of_arguments sizes (resolve_call numbered view parameters selectors) ≤ pieces_size sizes numbered view (selectors_pieces selectors)
    call_size view parameters NoSelectors = omega arith
    call_size view parameters (MoreSelectors selector rest) =
        let a = first_size view parameters selector in
        let b = is.left (pieces_size sizes numbered view (selector_pieces selector)) (pieces_size sizes numbered view (selectors_pieces rest)) in
        let c = pieces_both view (selector_pieces selector) (selectors_pieces rest) in
        omega (arith, a, b, c)

    first_size : (view : View) (parameters : List Parameter) (selector : ShownSelector) →
        of_arguments sizes (first_arguments numbered view parameters selector) ≤ pieces_size sizes numbered view (selector_pieces selector)
    first_size view parameters (OfSubscripts exprs place) = arguments_size view parameters exprs
    first_size view parameters (OfComponent name place) = omega arith

    pub arguments_size : (view : View) (parameters : List Parameter) (exprs : ShownExprs) →
        of_arguments sizes (resolve_arguments numbered view parameters exprs) ≤ pieces_size sizes numbered view (exprs_pieces exprs)
    arguments_size view parameters shown.NoExprs = omega arith
    arguments_size view [] (shown.MoreExprs e rest) =
        let a = is.grows _ _ _ _ (expr_size view e) (arguments_size view [] rest) in
        let b = pieces_both view (expr_pieces e) (exprs_pieces rest) in
        omega (arith, a, b)
    arguments_size view (parameter ∷ parameters) (shown.MoreExprs e rest) =
        let own = of_argument sizes (handed parameter.ident (resolve_expr numbered view e)) in
        let same = handed_size parameter.ident (resolve_expr numbered view e) in
        let first = expr_size view e in
        let a = is.grows own _ (pieces_size sizes numbered view (expr_pieces e)) _ (omega (arith, same, first)) (arguments_size view parameters rest) in
        let b = pieces_both view (expr_pieces e) (exprs_pieces rest) in
        omega (arith, a, b)

  pub begun_size : (view : View) (found : Option Meant) (selectors : ShownSelectors) →
      of_exprs sizes (along numbered view (walk_from found) selectors).subscripts ≤ pieces_size sizes numbered view (selectors_pieces selectors)
  begun_size view found selectors = from_name view found selectors (along_size view (walk_from found) selectors)
