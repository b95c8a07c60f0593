-- Code that stands still stands when more is emitted behind it.
use Rattle.std.proofs.Common.{◌≡◌, ◌≢◌, ℕ, zero, suc, ◌+◌, List, [], ◌∷◌, ◌++◌, length, map, Some, slice_get, refl, sym, ap, ◌∙◌, subst, false, true≢false, eq-eqb}
use Rattle.std.specs.Prelude.{◌==◌}
use Rattle.std.proofs.lemmas.List.{append-nil, append_assoc, length-append}
use Rattle.pearl_value.specs.declared.kind.Kind.{Kind}
use Rattle.pearl_value.specs.declared.operator.Monad.{Monad}
use Rattle.pearl_value.specs.declared.operator.Dyad.{Dyad}
use Rattle.pearl_value.specs.declared.kind.CellKind.{CellKind}
use Rattle.pearl_value.specs.declared.kind.CellKind.TheVariants.{Plain, RefTo}
use Rattle.pearl_value.specs.declared.cell.Cell.{Cell}
use Rattle.pearl_program.specs.declared.expression.Target.{Target}
use Rattle.pearl_program.specs.declared.expression.Target.TheVariants.{Leaf as LeafOf, Own, Param}
use Rattle.pearl_program.specs.declared.expression.Bound.{Bound}
use Rattle.pearl_program.specs.PlainExpressions.{PlainExpr, OfLiteral, OfRead, OfMonadic, OfDyadic, OfCall, OfNow, OfTry, OfVariable, PlainExprs, NoExprs, MoreExprs, PlainArgument, OfValue, OfIdent, PlainArguments, NoArguments, MoreArguments}
use Rattle.pearl_program.specs.PlainPrograms.{PlainProcedure, PlainProg}
use Rattle.pearl_meaning.specs.Setting.{params_of}
use Rattle.pearl_instructions.specs.declared.instr.Bounds.{Bounds}
use Rattle.pearl_instructions.specs.declared.instr.Instr.{Instr}
use Rattle.pearl_instructions.specs.declared.instr.Instr.TheVariants as instr
use Rattle.pearl_gen_expr.specs.ExprCode.{reading, referring, bounds_of, Is, OffsetOf, WayOf, ReadOf, ReferenceOf, ExprAt, AllAt, ArgumentsAt, ArgumentAt}
use Rattle.pearl_gen_expr.specs.Emitting.{Extends, EmitsExpr, EmitsAll, EmitsOffset, EmitsWay, EmitsRead, EmitsElement, EmitsCall, EmitsArguments, EmitsArgument}

-- EXTENDING

pub extends_self : (code : List Instr) → Extends code code
extends_self code = ([], sym (append-nil code))

pub extends_more : (one two three : List Instr) → Extends one two → Extends two three → Extends one three
extends_more one two three a b = (a.0 ++ b.0, b.1 ∙ (ap (λ two. two ++ b.0) a.1 ∙ append_assoc one a.0 b.0))

pub extends_one : (old new : List Instr) (instr : Instr) → new ≡ old ++ instr ∷ [] → Extends old new
extends_one old new instr e = (instr ∷ [], e)

there_still : (code more : List Instr) (place : ℕ) (instr : Instr) → slice_get code place ≡ Some instr → slice_get (code ++ more) place ≡ Some instr
there_still [] more place instr e = cc
there_still (x ∷ code) more zero instr e = e
there_still (x ∷ code) more (suc place) instr e = there_still code more place instr e

pub still_is : (old new : List Instr) (place : ℕ) (instr : Instr) → Extends old new → Is old place instr → Is new place instr
still_is old new place instr more is = ap (λ code. slice_get code place) more.1 ∙ there_still old more.0 place instr is

behind : (old : List Instr) (instr : Instr) → slice_get (old ++ instr ∷ []) (length old) ≡ Some instr
behind [] instr = refl
behind (x ∷ old) instr = behind old instr

-- the instruction that was emitted last
pub last_is : (old new : List Instr) (instr : Instr) → new ≡ old ++ instr ∷ [] → Is new (length old) instr
last_is old new instr e = ap (λ code. slice_get code (length old)) e ∙ behind old instr

pub one_longer : (old new : List Instr) (instr : Instr) → new ≡ old ++ instr ∷ [] → length new ≡ length old + 1
one_longer old new instr e = ap length e ∙ length-append old (instr ∷ [])

-- WHAT STANDS

module _ (old new : List Instr) (more : Extends old new) where
  module _ (one two : ℕ → Type 0) (on : (end : ℕ) → one end → two end) where
    pub still_offset : (bounds : List Bound) (from to : ℕ) → OffsetOf old from bounds one to → OffsetOf new from bounds two to
    still_offset [] from to is = is
    still_offset (bound ∷ bounds) from to is = (is.0, on is.0 is.1, still_is old new is.0 (instr.Index (map bounds_of (bound ∷ bounds))) more is.2, is.3)

    pub still_way : (target : Target) (bounds : List Bound) (from to : ℕ) → WayOf old from target bounds one to → WayOf new from target bounds two to
    still_way (LeafOf number) bounds from to is = still_offset bounds from to is
    still_way (Own first) bounds from to is = still_offset bounds from to is
    still_way (Param first) bounds from to is = (still_is old new from (instr.Load first) more is.0, is.1)

    pub still_read : (target : Target) (bounds : List Bound) (from to : ℕ) → ReadOf old from target bounds one to → ReadOf new from target bounds two to
    still_read target bounds from to is = (is.0, still_way target bounds from is.0 is.1, still_is old new is.0 _ more is.2, is.3)

    pub still_reference : (target : Target) (bounds : List Bound) (from to : ℕ) → ReferenceOf old from target bounds one to → ReferenceOf new from target bounds two to
    still_reference (LeafOf number) bounds from to is = (is.0, still_offset bounds from is.0 is.1, still_is old new is.0 _ more is.2, is.3)
    still_reference (Own first) bounds from to is = (is.0, still_offset bounds from is.0 is.1, still_is old new is.0 _ more is.2, is.3)
    still_reference (Param first) bounds from to is = (still_is old new from (instr.Load first) more is.0, is.1)

module _ (p : PlainProg) (old new : List Instr) (more : Extends old new) where
  mutual
    pub still_expr : (e : PlainExpr) (from to : ℕ) → ExprAt p old from e to → ExprAt p new from e to
    still_expr (OfLiteral value) from to is = (still_is old new from (instr.Const value) more is.0, is.1)
    still_expr (OfRead (OfVariable target bounds subscripts)) from to is =
        still_read old new more (λ end. AllAt p old from subscripts end) (λ end. AllAt p new from subscripts end) (λ end are. still_all subscripts from end are) target bounds from to is
    still_expr (OfMonadic op operand) from to is = (is.0, still_expr operand from is.0 is.1, still_is old new is.0 (instr.Monadic op) more is.2, is.3)
    still_expr (OfDyadic op left right) from to is =
        (is.0, is.1, still_expr left from is.0 is.2, still_expr right is.0 is.1 is.3, still_is old new is.1 (instr.Dyadic op) more is.4, is.5)
    still_expr (OfCall number arguments) from to is =
        (is.0, is.1, is.2, still_arguments arguments _ from is.2 is.3, still_is old new is.2 (instr.Call number) more is.4, is.5)
    still_expr OfNow from to is = (still_is old new from instr.Now more is.0, is.1)
    still_expr (OfTry semaphore) from to is = (still_is old new from (instr.Try semaphore) more is.0, is.1)

    pub still_all : (es : PlainExprs) (from to : ℕ) → AllAt p old from es to → AllAt p new from es to
    still_all NoExprs from to is = is
    still_all (MoreExprs e rest) from to is = (is.0, still_expr e from is.0 is.1, still_all rest is.0 to is.2)

    pub still_arguments : (arguments : PlainArguments) (params : List CellKind) (from to : ℕ) → ArgumentsAt p old from params arguments to → ArgumentsAt p new from params arguments to
    still_arguments NoArguments [] from to is = is
    still_arguments NoArguments (param ∷ params) from to is = absurd is
    still_arguments (MoreArguments argument rest) [] from to is = absurd is
    still_arguments (MoreArguments argument rest) (param ∷ params) from to is =
        (is.0, still_argument argument param from is.0 is.1, still_arguments rest params is.0 to is.2)

    pub still_argument : (argument : PlainArgument) (param : CellKind) (from to : ℕ) → ArgumentAt p old from param argument to → ArgumentAt p new from param argument to
    still_argument (OfValue e) (Plain kind) from to is = (is.0, still_expr e from is.0 is.1, still_is old new is.0 (instr.Conv kind) more is.2, is.3)
    still_argument (OfValue e) (RefTo kind) from to is = absurd is
    still_argument (OfIdent variable) (Plain kind) from to is = absurd is
    still_argument (OfIdent (OfVariable target bounds subscripts)) (RefTo kind) from to is =
        still_reference old new more (λ end. AllAt p old from subscripts end) (λ end. AllAt p new from subscripts end) (λ end are. still_all subscripts from end are) target bounds from to is

-- PART BEHIND PART

module _ (p : PlainProg) (old one two : List Instr) where
  pub const_emits : (value literal : Cell) → literal ≡ value → one ≡ old ++ instr.Const literal ∷ [] → EmitsExpr p (OfLiteral value) old one
  const_emits value literal same e =
      let last = e ∙ ap (λ x. old ++ instr.Const x ∷ []) same in (last_is old one (instr.Const value) last, one_longer old one (instr.Const value) last)

  pub now_emits : one ≡ old ++ instr.Now ∷ [] → EmitsExpr p OfNow old one
  now_emits e = (last_is old one instr.Now e, one_longer old one instr.Now e)

  pub try_emits : (semaphore : ℕ) → one ≡ old ++ instr.Try semaphore ∷ [] → EmitsExpr p (OfTry semaphore) old one
  try_emits semaphore e = (last_is old one (instr.Try semaphore) e, one_longer old one (instr.Try semaphore) e)

  pub monadic_emits : (op : Monad) (e : PlainExpr) → EmitsExpr p e old one → two ≡ one ++ instr.Monadic op ∷ [] → EmitsExpr p (OfMonadic op e) old two
  monadic_emits op e is last =
      let more = extends_one one two (instr.Monadic op) last in
      (length one, still_expr p one two more e (length old) (length one) is, last_is one two (instr.Monadic op) last, one_longer one two (instr.Monadic op) last)

  pub dyadic_emits : (three : List Instr) (op : Dyad) (left right : PlainExpr) → EmitsExpr p left old one → Extends one two → EmitsExpr p right one two →
      three ≡ two ++ instr.Dyadic op ∷ [] → EmitsExpr p (OfDyadic op left right) old three
  dyadic_emits three op left right is kept then_is last =
      let more = extends_one two three (instr.Dyadic op) last in (
        length one,
        length two,
        still_expr p one three (extends_more one two three kept more) left (length old) (length one) is,
        still_expr p two three more right (length one) (length two) then_is,
        last_is two three (instr.Dyadic op) last,
        one_longer two three (instr.Dyadic op) last,
      )

  pub conv_emits : (kind : Kind) (e : PlainExpr) → EmitsExpr p e old one → two ≡ one ++ instr.Conv kind ∷ [] → EmitsArgument p (Plain kind) (OfValue e) old two
  conv_emits kind e is last =
      let more = extends_one one two (instr.Conv kind) last in
      (length one, still_expr p one two more e (length old) (length one) is, last_is one two (instr.Conv kind) last, one_longer one two (instr.Conv kind) last)

  pub read_emits : (target : Target) (bounds : List Bound) (es : PlainExprs) (next : Instr) → EmitsWay p (OfVariable target bounds es) old one → two ≡ one ++ next ∷ [] →
      next ≡ reading target bounds → EmitsRead p (OfVariable target bounds es) old two
  read_emits target bounds es next is last same =
      let more = extends_one one two next last in (
        length one,
        still_way one two more (λ end. AllAt p one (length old) es end) (λ end. AllAt p two (length old) es end) (λ end are. still_all p one two more es (length old) end are)
            target bounds (length old) (length one) is,
        subst (Is two (length one)) same (last_is one two next last),
        one_longer one two next last,
      )

  pub element_emits : (target : Target) (bounds : List Bound) (es : PlainExprs) (next : Instr) → EmitsOffset p (OfVariable target bounds es) old one → two ≡ one ++ next ∷ [] →
      next ≡ referring target bounds → EmitsElement p (OfVariable target bounds es) old two
  element_emits target bounds es next is last same =
      let more = extends_one one two next last in (
        length one,
        still_offset one two more (λ end. AllAt p one (length old) es end) (λ end. AllAt p two (length old) es end) (λ end are. still_all p one two more es (length old) end are)
            bounds (length old) (length one) is,
        subst (Is two (length one)) same (last_is one two next last),
        one_longer one two next last,
      )

  -- the subscripts, and their check
  pub index_emits : (target : Target) (bounds : List Bound) (es : PlainExprs) (list : List Bounds) → EmitsAll p es old one → list ≡ map bounds_of bounds →
      two ≡ one ++ instr.Index list ∷ [] → bounds ≢ [] → EmitsOffset p (OfVariable target bounds es) old two
  index_emits target [] es list is same last some = absurd (some refl)
  index_emits target (bound ∷ bounds) es list is same last some =
      let next = instr.Index (map bounds_of (bound ∷ bounds)) in
      let last = last ∙ ap (λ list. one ++ instr.Index list ∷ []) same in
      let more = extends_one one two next last in
      (length one, still_all p one two more es (length old) (length one) is, last_is one two next last, one_longer one two next last)

  pub call_emits : (number : ℕ) (procedure : PlainProcedure) (arguments : PlainArguments) → slice_get p.procedures number ≡ Some procedure →
      EmitsArguments p (params_of procedure) arguments old one → two ≡ one ++ instr.Call number ∷ [] → EmitsCall p number arguments old two
  call_emits number procedure arguments there is last =
      let more = extends_one one two (instr.Call number) last in (
        procedure,
        there,
        length one,
        still_arguments p one two more arguments (params_of procedure) (length old) (length one) is,
        last_is one two (instr.Call number) last,
        one_longer one two (instr.Call number) last,
      )

-- LISTS

-- where the code of those that are left follows, all of the code stands
abbrev pub AllSoFar : PlainProg → (old now : List Instr) → (left all : PlainExprs) → Type 0
AllSoFar p old now left all = (new : List Instr) (to : ℕ) → Extends now new → AllAt p new (length now) left to → AllAt p new (length old) all to

abbrev pub ArgumentsSoFar : PlainProg → (old now : List Instr) → List CellKind → PlainArguments → List CellKind → PlainArguments → Type 0
ArgumentsSoFar p old now params left all_params all =
    (new : List Instr) (to : ℕ) → Extends now new → ArgumentsAt p new (length now) params left to → ArgumentsAt p new (length old) all_params all to

pub all_next : (p : PlainProg) (old now next : List Instr) (e : PlainExpr) (left all : PlainExprs) → AllSoFar p old now (MoreExprs e left) all → Extends now next →
    EmitsExpr p e now next → AllSoFar p old next left all
all_next p old now next e left all before kept is new to more rest =
    before new to (extends_more now next new kept more) (length next, still_expr p next new more e (length now) (length next) is, rest)

pub arguments_next : (p : PlainProg) (old now next : List Instr) (param : CellKind) (params : List CellKind) (argument : PlainArgument) (left : PlainArguments)
    (all_params : List CellKind) (all : PlainArguments) → ArgumentsSoFar p old now (param ∷ params) (MoreArguments argument left) all_params all → Extends now next →
    EmitsArgument p param argument now next → ArgumentsSoFar p old next params left all_params all
arguments_next p old now next param params argument left all_params all before kept is new to more rest =
    before new to (extends_more now next new kept more) (length next, still_argument p next new more argument param (length now) (length next) is, rest)

-- a list whose length isn't 0
pub some_are : {X : Type 0} (n : ℕ) (xs : List X) → false ≡ (n == 0) → n ≡ length xs → xs ≢ []
some_are n xs e same none = true≢false (sym (e ∙ eq-eqb n 0 (same ∙ ap length none)))
