-- How the counter of a loop begins, is asked and is added to.
use Rattle.std.specs.Prelude.{◌≡◌, ℕ, ◌+◌, pos, negsuc, ℤ, ◌+ℤ◌, int_lt, int_le, ◌&&◌, ◌||◌, ◌⊎◌, not, Bool, true, false, if◌then◌else◌, List, [], ◌∷◌, length, Option, Some, None, Ok, Err, is_some, slice_get, slice_set}
use Rattle.std.specs.Ordering.{int_eq}
use Rattle.std.proofs.Common.{refl, sym, subst, ap, ◌∙◌, arith, inl, inr}
use Rattle.std.proofs.Math.Dec.{leb-zero, leb-suc-zero}
use Rattle.std.proofs.lemmas.List.{length-set}
use Rattle.pearl_value.specs.declared.kind.Kind.{Kind}
use Rattle.pearl_value.specs.declared.cell.Cell.{Cell}
use Rattle.pearl_value.specs.declared.cell.Cell.TheVariants.{Fixed, Bits}
use Rattle.pearl_value.specs.declared.trap.Trap.{Trap}
use Rattle.pearl_value.specs.declared.trap.Trap.TheVariants.{Range, Overflow}
use Rattle.pearl_value.specs.Conversions.{fits_fixed, fixed_of}
use Rattle.pearl_rules.specs.declared.action.Answer.{Answer}
use Rattle.pearl_stack.specs.Frames.{Frame}
use Rattle.pearl_program.specs.PlainExpressions.{PlainExpr}
use Rattle.pearl_program.specs.PlainStatements.{PlainCounter}
use Rattle.pearl_instructions.specs.declared.instr.Instr.TheVariants as instr
use Rattle.pearl_instructions.specs.declared.object.Parts.{Parts as Object}
use Rattle.pearl_instructions.specs.Steps.{Step, Silent, Missing, traps}
use Rattle.pearl_instructions.specs.Operators as operators
use Rattle.pearl_instructions.specs.Flow as flow
use Rattle.pearl_meaning.specs.Frames.{Store}
use Rattle.pearl_meaning.specs.Evaluation.{Outcome, Value, Needs, Fails, Does, gives, fails, on_value, bind, next, put_cell, own_cell}
use Rattle.pearl_meaning.specs.Setting.{Setting, cell_kind}
use Rattle.pearl_meaning.specs.Variables.{number_of}
use Rattle.pearl_meaning.specs.Values.{convert, eval}
use Rattle.pearl_meaning.specs.Loops.{holds, counted, limited, begins, is_past, is_within, counts_on, advance_to, advances, asks_while, goes_on}
use Rattle.pearl_gen_expr.specs.Contexts.{stack, Context, at, IsStoreOf}
use Rattle.pearl_gen_expr.specs.Carrying.{End, Carries}
use Rattle.pearl_gen_expr.specs.ExprCode.{code_of, Is, ExprAt}
use Rattle.pearl_gen_expr.specs.Ends.{on_top, done}
use Rattle.pearl_gen_expr.proofs.Offered.{frame_at, RowMeets, bind_carries, gives_carries, instr_carries, same_carries}
use Rattle.pearl_gen_expr.proofs.Offered.{missing_meets, silent_meets, stops_meets, goes_meets}
use Rattle.pearl_gen_stmt.specs.StmtCode.{ConvertedAt, CountedAt, LimitAt, BeginsAt, WithinAt, CountsAt, WhileAt, PassedAt, AdvanceAt}
use Rattle.pearl_gen_stmt.proofs.Single.{more_cells, const_carries, store_carries, conv_carries, branch_carries}
use Rattle.pearl_gen_stmt.proofs.Flows.{jump_carries}

-- the bit that a Bool is
abbrev pub bit_of : Bool → Cell
bit_of past = Bits 1 (if past then 0 else 1)

first_of_both : (one two : Bool) → ((one && true) || (two && false)) ≡ one
first_of_both true two = refl
first_of_both false true = refl
first_of_both false false = refl

second_of_both : (one two : Bool) → ((one && false) || (two && true)) ≡ two
second_of_both true true = refl
second_of_both true false = refl
second_of_both false true = refl
second_of_both false false = refl

-- a limit is passed the same way
past_same : (control step limit : ℤ) → flow.is_past control step limit ≡ is_past control step limit
past_same control (pos n) limit =
    let low : int_le (pos 0) (pos n) ≡ true = leb-zero n in
    let high : int_lt (pos n) (pos 0) ≡ false = leb-suc-zero n in
    rw (low, high) (first_of_both (int_lt limit control) (int_lt control limit))
past_same control (negsuc n) limit = second_of_both (int_lt limit control) (int_lt control limit)

-- three FIXED cells of a loop
pub record IsLoop (f : Frame) (cell : ℕ) : Type 0 where
  pub len : ℕ
  pub other : ℕ
  pub another : ℕ
  pub control : ℤ
  pub step : ℤ
  pub limit : ℤ
  pub first : slice_get f.cells cell ≡ Some (Fixed len control)
  pub second : slice_get f.cells (cell + 1) ≡ Some (Fixed other step)
  pub third : slice_get f.cells (cell + 2) ≡ Some (Fixed another limit)

given_on : {X : Type 0} (m : Outcome X) → on_value m gives ≡ m
given_on (Value x store rest) = refl
given_on (Needs action) = refl
given_on (Fails trap) = refl

module _ (f : Frame) (cell : ℕ) (go : ℕ → ℤ → ℤ → ℤ → Step) where
  loop_cases : (x y z : Option Cell) → slice_get f.cells cell ≡ x → slice_get f.cells (cell + 1) ≡ y → slice_get f.cells (cell + 2) ≡ z →
      IsLoop f cell ⊎ (flow.loop_cells f cell go ≡ Missing)
  loop_cases (Some (Fixed l a)) (Some (Fixed m b)) (Some (Fixed n k)) d e h =
      inl (record { len = l; other = m; another = n; control = a; step = b; limit = k; first = d; second = e; third = h })
  loop_cases None y z d e h = inr (rw d refl)
  loop_cases (Some x) None z d e h = inr (rw (d, e) refl)
  loop_cases (Some x) (Some y) None d e h = inr (rw (d, e, h) refl)
  loop_cases (Some x) (Some y) (Some z) d e h = inr (rw (d, e, h) refl)

  loop_is : (l : IsLoop f cell) → flow.loop_cells f cell go ≡ go l.len l.control l.step l.limit
  loop_is l = rw (l.first, l.second, l.third) refl

module _ (o : Object) (c : Context) where
  -- whether something goes on is known by where the code is
  abbrev pub forked : (on past : ℕ) → End Bool
  forked on past = record { stack = λ going. at c (if going then on else past) []; Of = λ going. Unit {0} }

  -- the bit of a Bool lies on the operands
  abbrev pub tested : ℕ → End Bool
  tested place = record { stack = λ going. at c place (bit_of (not going) ∷ []); Of = λ going. Unit {0} }

  -- what is met where there are such cells is met at the row
  loop_meets : {X : Type 0} (end : End X) (frames : List Frame) (f : Frame) (cell : ℕ) (go : ℕ → ℤ → ℤ → ℤ → Step) (rest : List Answer) (m : Outcome X) →
      ((l : IsLoop f cell) → RowMeets o c end frames (go l.len l.control l.step l.limit) rest m) → RowMeets o c end frames (flow.loop_cells f cell go) rest m
  loop_meets end frames f cell go rest m on =
      either (loop_cases f cell go (slice_get f.cells cell) (slice_get f.cells (cell + 1)) (slice_get f.cells (cell + 2)) refl refl refl)
    where
      either : IsLoop f cell ⊎ (flow.loop_cells f cell go ≡ Missing) → RowMeets o c end frames (flow.loop_cells f cell go) rest m
      either (inl l) = subst (λ step. RowMeets o c end frames step rest m) (sym (loop_is f cell go l)) (on l)
      either (inr lost) = subst (λ step. RowMeets o c end frames step rest m) (sym lost) (missing_meets o c end frames rest m)

  -- WITHIN

  -- whether the loop's control variable is within its limit
  abbrev asks_limit : ℕ → Does Bool
  asks_limit cell = bind (own_cell cell) (λ control. bind (own_cell (cell + 1)) (λ step. bind (own_cell (cell + 2)) (λ limit.
      gives (not (is_past (number_of control) (number_of step) (number_of limit))))))

  limit_is : (f : Frame) (cell task : ℕ) (more : List (List Cell)) (rest : List Answer) (l : IsLoop f cell) →
      Value (not (is_past l.control l.step l.limit)) (record { task = task; frames = f.cells ∷ more }) rest
      ≡ asks_limit cell (record { task = task; frames = f.cells ∷ more }) rest
  limit_is f cell task more rest l = rw (l.first, l.second, l.third) refl

  bit_is : (control step limit : ℤ) → bit_of (flow.is_past control step limit) ≡ bit_of (not (not (is_past control step limit)))
  bit_is control step limit = ap bit_of (past_same control step limit ∙ twice (is_past control step limit))
    where
      twice : (b : Bool) → b ≡ not (not b)
      twice true = refl
      twice false = refl

  pub within_carries : (place cell : ℕ) → Is (code_of o c.routine) place (instr.Within cell) → Carries o c (tested (place + 1)) (at c place []) (asks_limit cell)
  within_carries place cell is = instr_carries o c (tested (place + 1)) place [] (instr.Within cell) (asks_limit cell) is (λ task cells more rest of.
      let lower = stack c.callers more in let f = frame_at c place [] cells in let store : Store = record { task = task; frames = cells ∷ more } in
      loop_meets (tested (place + 1)) (f ∷ lower) f cell (λ len control step limit. Silent (frame_at c (place + 1) (bit_of (flow.is_past control step limit) ∷ []) cells ∷ lower)) rest
      (asks_limit cell store rest) (λ l.
      subst (λ m. RowMeets o c (tested (place + 1)) (f ∷ lower) (Silent (frame_at c (place + 1) (bit_of (flow.is_past l.control l.step l.limit) ∷ []) cells ∷ lower)) rest m)
      (limit_is f cell task more rest l)
      (subst (λ bit. RowMeets o c (tested (place + 1)) (f ∷ lower) (Silent (frame_at c (place + 1) (bit ∷ []) cells ∷ lower)) rest (Value (not (is_past l.control l.step l.limit)) store rest))
      (sym (bit_is l.control l.step l.limit))
      (silent_meets o c (tested (place + 1)) (f ∷ lower) (not (is_past l.control l.step l.limit)) store rest tt of))))

  -- what is told of a value is told of it where it ends
  pub then_gives : {X : Type 0} (middle end : End X) (from : Store → List Frame) (does : Does X) → Carries o c middle from does →
      ((x : X) → middle.Of x → Carries o c end (middle.stack x) (gives x)) → Carries o c end from does
  then_gives middle end from does first on =
      same_carries o c end from (bind does gives) does (λ store rest. given_on (does store rest)) (bind_carries o c middle end from does gives first on)

  gives_at : (place on past : ℕ) → on ≡ place → Carries o c (forked on past) (at c place []) (gives true)
  gives_at place on past is = subst (λ on. Carries o c (forked on past) (at c place []) (gives true)) (sym is) (gives_carries o c (forked place past) true tt)

  -- a jump where the bit of a Bool is 0
  pub leaves_carries : (place past to : ℕ) (going : Bool) → Is (code_of o c.routine) place (instr.JumpZero past) → to ≡ place + 1 →
      Carries o c (forked to past) (at c place (bit_of (not going) ∷ [])) (gives going)
  leaves_carries place past to true is to_is =
      branch_carries o c (forked to past) place past (bit_of false) [] (gives true) (gives false) is (gives_at (place + 1) to past to_is) (gives_carries o c (forked to past) false tt)
  leaves_carries place past to false is to_is =
      branch_carries o c (forked to past) place past (bit_of true) [] (gives true) (gives false) is (gives_at (place + 1) to past to_is) (gives_carries o c (forked to past) false tt)

  pub trap_carries : {X : Type 0} (end : End X) (place : ℕ) (operands : List Cell) (trap : Trap) → Is (code_of o c.routine) place (instr.Trap trap) →
      Carries o c end (at c place operands) (fails trap)
  trap_carries end place operands trap is = instr_carries o c end place operands (instr.Trap trap) (fails trap) is (λ task cells more rest of.
      stops_meets o c end (frame_at c place operands cells ∷ stack c.callers more) trap rest)

  -- where BY is 0

  not_zero : {X : Type 0} (end : End X) (place : ℕ) (operands : List Cell) (does : Does X) → Carries o c end (at c (place + 1) operands) does → (test : Bool) →
      (task : ℕ) (cells : List Cell) (more : List (List Cell)) (rest : List Answer) → IsStoreOf o c (record { task = task; frames = cells ∷ more }) →
      let f = frame_at c place operands cells in let lower = stack c.callers more in
      RowMeets o c end (f ∷ lower) (if test then traps Range f lower else Silent (frame_at c (place + 1) operands cells ∷ lower)) rest
      ((if test then fails Range else does) (record { task = task; frames = cells ∷ more }) rest)
  not_zero end place operands does carries true task cells more rest of = stops_meets o c end (frame_at c place operands cells ∷ stack c.callers more) Range rest
  not_zero end place operands does carries false task cells more rest of =
      goes_meets o c end (frame_at c place operands cells ∷ stack c.callers more) (at c (place + 1) operands (record { task = task; frames = cells ∷ more })) rest
      (does (record { task = task; frames = cells ∷ more }) rest) (carries.over (record { task = task; frames = cells ∷ more }) rest of)

  asks_zero : {X : Type 0} (end : End X) (place : ℕ) (x : Cell) (operands : List Cell) (does : Does X) → Carries o c end (at c (place + 1) (x ∷ operands)) does →
      (task : ℕ) (cells : List Cell) (more : List (List Cell)) (rest : List Answer) → IsStoreOf o c (record { task = task; frames = cells ∷ more }) →
      let f = frame_at c place (x ∷ operands) cells in let lower = stack c.callers more in
      RowMeets o c end (f ∷ lower) (operators.non_zero f lower) rest
      ((if int_eq (number_of x) (pos 0) then fails Range else does) (record { task = task; frames = cells ∷ more }) rest)
  asks_zero end place (Fixed len n) operands does carries task cells more rest of =
      not_zero end place (Fixed len n ∷ operands) does carries (int_eq n (pos 0)) task cells more rest of
  asks_zero end place x operands does carries task cells more rest of =
      missing_meets o c end (frame_at c place (x ∷ operands) cells ∷ stack c.callers more) rest ((if int_eq (number_of x) (pos 0) then fails Range else does) (record { task = task; frames = cells ∷ more }) rest)

  pub non_zero_carries : {X : Type 0} (end : End X) (place : ℕ) (x : Cell) (operands : List Cell) (does : Does X) → Is (code_of o c.routine) place instr.NonZero →
      Carries o c end (at c (place + 1) (x ∷ operands)) does → Carries o c end (at c place (x ∷ operands)) (if int_eq (number_of x) (pos 0) then fails Range else does)
  non_zero_carries end place x operands does is carries =
      instr_carries o c end place (x ∷ operands) instr.NonZero (if int_eq (number_of x) (pos 0) then fails Range else does) is (asks_zero end place x operands does carries)

  -- ADVANCE

  -- BY is added to the control variable
  abbrev adds : PlainCounter → Does Bool
  adds counter = advances (Some counter)

  sum_is : (f : Frame) (counter : PlainCounter) (task : ℕ) (more : List (List Cell)) (rest : List Answer) (l : IsLoop f counter.cell) →
      advance_to counter (fixed_of l.len (l.control +ℤ l.step)) (record { task = task; frames = f.cells ∷ more }) rest
      ≡ adds counter (record { task = task; frames = f.cells ∷ more }) rest
  sum_is f counter task more rest l = rw (l.first, l.second) refl

  module _ (from top past over : ℕ) (counter : PlainCounter) (back : Is (code_of o c.routine) (from + 1) (instr.Jump top))
      (passes : Carries o c (forked top past) (at c over []) (if is_some counter.end then gives false else fails Overflow)) where
    summed : (fits : Bool) (x : Cell) (task : ℕ) (cells : List Cell) (more : List (List Cell)) (rest : List Answer) → IsStoreOf o c (record { task = task; frames = cells ∷ more }) →
        let f = frame_at c from [] cells in let lower = stack c.callers more in
        RowMeets o c (forked top past) (f ∷ lower)
        (if fits then Silent (frame_at c (from + 1) [] (slice_set cells counter.cell x) ∷ lower) else Silent (frame_at c over [] cells ∷ lower)) rest
        (advance_to counter (if fits then Ok x else Err Overflow) (record { task = task; frames = cells ∷ more }) rest)
    summed true x task cells more rest of =
        let after : Store = record { task = task; frames = slice_set cells counter.cell x ∷ more } in
        let long : length (slice_set cells counter.cell x) ≡ length cells = length-set cells counter.cell x in
        goes_meets o c (forked top past) (frame_at c from [] cells ∷ stack c.callers more) (at c (from + 1) [] after) rest (Value true after rest)
        ((jump_carries o c (forked top past) (from + 1) top [] (gives true) back (gives_carries o c (forked top past) true tt)).over after rest
        (more_cells (slice_set cells counter.cell x) of (omega (arith, long))))
    summed false x task cells more rest of =
        let store : Store = record { task = task; frames = cells ∷ more } in
        goes_meets o c (forked top past) (frame_at c from [] cells ∷ stack c.callers more) (at c over [] store) rest
        ((if is_some counter.end then gives false else fails Overflow) store rest) (passes.over store rest of)

    added_carries : Is (code_of o c.routine) from (instr.Advance counter.cell over) → Carries o c (forked top past) (at c from []) (adds counter)
    added_carries is = instr_carries o c (forked top past) from [] (instr.Advance counter.cell over) (adds counter) is (λ task cells more rest of.
        let lower = stack c.callers more in let f = frame_at c from [] cells in let store : Store = record { task = task; frames = cells ∷ more } in
        loop_meets (forked top past) (f ∷ lower) f counter.cell (λ len control step limit. if fits_fixed len (control +ℤ step)
        then Silent (frame_at c (from + 1) [] (slice_set cells counter.cell (Fixed len (control +ℤ step))) ∷ lower) else Silent (frame_at c over [] cells ∷ lower)) rest
        (adds counter store rest) (λ l.
        let sum = l.control +ℤ l.step in
        subst (λ m. RowMeets o c (forked top past) (f ∷ lower)
        (if fits_fixed l.len sum then Silent (frame_at c (from + 1) [] (slice_set cells counter.cell (Fixed l.len sum)) ∷ lower) else Silent (frame_at c over [] cells ∷ lower)) rest m)
        (sum_is f counter task more rest l)
        (summed (fits_fixed l.len sum) (Fixed l.len sum) task cells more rest of)))

  passed_carries : (setting : Setting) (from top past : ℕ) (counter : PlainCounter) (end : Option PlainExpr) → counter.end ≡ end →
      PassedAt setting (code_of o c.routine) from top counter end past → Carries o c (forked top past) (at c from []) (adds counter)
  passed_carries setting from top past counter None none code =
      added_carries from top past (from + 2) counter code.1
      (subst (λ end. Carries o c (forked top past) (at c (from + 2) []) (if is_some end then gives false else fails Overflow)) (sym none)
      (trap_carries (forked top past) (from + 2) [] Overflow code.2)) code.0
  passed_carries setting from top past counter (Some e) some code =
      added_carries from top past past counter code.1
      (subst (λ end. Carries o c (forked top past) (at c past []) (if is_some end then gives false else fails Overflow)) (sym some)
      (gives_carries o c (forked top past) false tt)) code.0

  pub advance_carries : (setting : Setting) (from top past : ℕ) (counter : Option PlainCounter) → AdvanceAt setting (code_of o c.routine) from top counter past →
      Carries o c (forked top past) (at c from []) (advances counter)
  advance_carries setting from top past None code =
      jump_carries o c (forked top past) from top [] (gives true) code.0 (gives_carries o c (forked top past) true tt)
  advance_carries setting from top past (Some counter) code = passed_carries setting from top past counter counter.end refl code

  -- TO AND WHILE

  limit_carries : (setting : Setting) (from past to : ℕ) (counter : PlainCounter) (end : Option PlainExpr) → WithinAt setting (code_of o c.routine) from past counter end to →
      Carries o c (forked to past) (at c from []) (is_within counter end)
  limit_carries setting from past to counter None code = gives_at from to past code
  limit_carries setting from past to counter (Some e) code =
      then_gives (tested (from + 1)) (forked to past) (at c from []) (asks_limit counter.cell) (within_carries from counter.cell code.0)
      (λ going of. leaves_carries (from + 1) past to going code.1.0 code.1.1)

  pub counts_carries : (setting : Setting) (from past to : ℕ) (counter : Option PlainCounter) → CountsAt setting (code_of o c.routine) from past counter to →
      Carries o c (forked to past) (at c from []) (counts_on counter)
  counts_carries setting from past to None code = gives_at from to past code
  counts_carries setting from past to (Some counter) code = limit_carries setting from past to counter counter.end code

  -- where the code of the expressions in question leaves their values
  module _ (setting : Setting) (Fine : PlainExpr → Type 0) (values : (e : PlainExpr) (from to : ℕ) (operands : List Cell) → Fine e →
      ExprAt setting.program (code_of o c.routine) from e to → Carries o c (on_top c to operands) (at c from operands) (eval setting e)) where
    abbrev FineIf : Option PlainExpr → Type 0
    FineIf None = Unit {0}
    FineIf (Some e) = Fine e

    told : (b : Bool) (store : Store) (rest : List Answer) → (if b then gives true else gives false) store rest ≡ gives b store rest
    told true store rest = refl
    told false store rest = refl

    while_carries : (from past to : ℕ) (condition : Option PlainExpr) → FineIf condition → WhileAt setting (code_of o c.routine) from past condition to →
        Carries o c (forked to past) (at c from []) (asks_while setting condition)
    while_carries from past to None fine code = gives_at from to past code
    while_carries from past to (Some e) fine code =
        bind_carries o c (on_top c code.0 []) (forked to past) (at c from []) (eval setting e) (λ x. gives (holds x)) (values e from code.0 [] fine code.1) (λ x of.
        same_carries o c (forked to past) (at c code.0 (x ∷ [])) (if holds x then gives true else gives false) (gives (holds x)) (told (holds x))
        (branch_carries o c (forked to past) code.0 past x [] (gives true) (gives false) code.2.0 (gives_at (code.0 + 1) to past code.2.1) (gives_carries o c (forked to past) false tt)))

    pub goes_on_carries : (from counted past to : ℕ) (counter : Option PlainCounter) (condition : Option PlainExpr) → FineIf condition →
        CountsAt setting (code_of o c.routine) from past counter counted → WhileAt setting (code_of o c.routine) counted past condition to →
        Carries o c (forked to past) (at c from []) (goes_on setting counter condition)
    goes_on_carries from counted past to counter condition fine counts asks =
        bind_carries o c (forked counted past) (forked to past) (at c from []) (counts_on counter) (λ inside. if inside then asks_while setting condition else gives false)
        (counts_carries setting from past counted counter counts) inside
      where
        inside : (inside : Bool) → Unit {0} → Carries o c (forked to past) (at c (if inside then counted else past) []) (if inside then asks_while setting condition else gives false)
        inside true of = while_carries counted past to condition fine asks
        inside false of = gives_carries o c (forked to past) false tt

    -- FROM, BY AND TO

    pub converted_carries : (from to : ℕ) (e : PlainExpr) (kind : Option Kind) (operands : List Cell) → Fine e → ConvertedAt setting (code_of o c.routine) from e kind to →
        Carries o c (on_top c to operands) (at c from operands) (bind (eval setting e) (λ x. convert kind x))
    converted_carries from to e kind operands fine code =
        bind_carries o c (on_top c code.0 operands) (on_top c to operands) (at c from operands) (eval setting e) (λ x. convert kind x) (values e from code.0 operands fine code.3) (λ x of.
        subst (λ to. Carries o c (on_top c to operands) (at c code.0 (x ∷ operands)) (convert kind x)) (sym code.5)
        (conv_carries o c code.0 code.1 kind x operands code.2 code.4))

    counted_carries : (from to : ℕ) (counter : PlainCounter) (e : Option PlainExpr) → FineIf e → CountedAt setting (code_of o c.routine) from counter e to →
        Carries o c (on_top c to []) (at c from []) (counted setting counter e)
    counted_carries from to counter None fine code =
        let two : to ≡ from + 1 + 1 = let is = code.4 in omega (arith, is) in
        const_carries o c (on_top c to []) from (Fixed 31 (pos 1)) [] (counted setting counter None) code.2
        (subst (λ to. Carries o c (on_top c to []) (at c (from + 1) (Fixed 31 (pos 1) ∷ [])) (convert (cell_kind setting counter.cell) (Fixed 31 (pos 1)))) (sym two)
        (conv_carries o c (from + 1) code.0 (cell_kind setting counter.cell) (Fixed 31 (pos 1)) [] code.1 code.3))
    counted_carries from to counter (Some e) fine code = converted_carries from to e (cell_kind setting counter.cell) [] fine code

    stored_carries : {X : Type 0} (end : End X) (place cell : ℕ) (x : Cell) (does : Does X) → Is (code_of o c.routine) place (instr.Store cell) →
        Carries o c end (at c (place + 1) []) does → Carries o c end (at c place (x ∷ [])) (next (put_cell cell x) does)
    stored_carries end place cell x does is carries =
        bind_carries o c (done c (place + 1) []) end (at c place (x ∷ [])) (put_cell cell x) (λ it. does) (store_carries o c place cell x [] is) (λ it of. carries)

    limited_carries : (from to : ℕ) (counter : PlainCounter) (e : Option PlainExpr) → FineIf e → LimitAt setting (code_of o c.routine) from counter e to →
        Carries o c (done c to []) (at c from []) (limited setting counter e)
    limited_carries from to counter None fine code =
        subst (λ to. Carries o c (done c to []) (at c from []) (gives tt)) (sym code) (gives_carries o c (done c from []) tt tt)
    limited_carries from to counter (Some e) fine code =
        bind_carries o c (on_top c code.0 []) (done c to []) (at c from []) (counted setting counter (Some e)) (λ limit. put_cell (counter.cell + 2) limit)
        (counted_carries from code.0 counter (Some e) fine code.1) (λ x of.
        subst (λ to. Carries o c (done c to []) (at c code.0 (x ∷ [])) (put_cell (counter.cell + 2) x)) (sym code.3)
        (store_carries o c code.0 (counter.cell + 2) x [] code.2))

    abbrev FineCounter : Option PlainCounter → Type 0
    FineCounter None = Unit {0}
    FineCounter (Some counter) = FineIf counter.begin × FineIf counter.step × FineIf counter.end

    pub begins_carries : (from to : ℕ) (counter : Option PlainCounter) → FineCounter counter → BeginsAt setting (code_of o c.routine) from counter to →
        Carries o c (done c to []) (at c from []) (begins setting counter)
    begins_carries from to None fine code =
        subst (λ to. Carries o c (done c to []) (at c from []) (gives tt)) (sym code) (gives_carries o c (done c from []) tt tt)
    begins_carries from to (Some counter) fine code =
        let begun = code.0 in let step = code.1 in
        let two : step + 2 ≡ step + 1 + 1 = omega arith in
        let behind : Carries o c (done c to []) (at c (step + 1 + 1) []) (limited setting counter counter.end) =
        subst (λ place. Carries o c (done c to []) (at c place []) (limited setting counter counter.end)) two (limited_carries (step + 2) to counter counter.end fine.2 code.7) in
        bind_carries o c (on_top c begun []) (done c to []) (at c from []) (counted setting counter counter.begin)
        (λ control. next (put_cell counter.cell control) (bind (counted setting counter counter.step) (λ x. if int_eq (number_of x) (pos 0) then fails Range
        else next (put_cell (counter.cell + 1) x) (limited setting counter counter.end))))
        (counted_carries from begun counter counter.begin fine.0 code.2) (λ control of.
        stored_carries (done c to []) begun counter.cell control (bind (counted setting counter counter.step) (λ x. if int_eq (number_of x) (pos 0) then fails Range
        else next (put_cell (counter.cell + 1) x) (limited setting counter counter.end))) code.3
        (bind_carries o c (on_top c step []) (done c to []) (at c (begun + 1) []) (counted setting counter counter.step) (λ x. if int_eq (number_of x) (pos 0) then fails Range
        else next (put_cell (counter.cell + 1) x) (limited setting counter counter.end))
        (counted_carries (begun + 1) step counter counter.step fine.1 code.4) (λ x of.
        non_zero_carries (done c to []) step x [] (next (put_cell (counter.cell + 1) x) (limited setting counter counter.end)) code.5
        (stored_carries (done c to []) (step + 1) (counter.cell + 1) x (limited setting counter counter.end) code.6 behind))))
