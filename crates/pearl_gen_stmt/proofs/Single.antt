-- What single instructions of statements do.
use Rattle.std.specs.Prelude.{◌≡◌, ℕ, ◌+◌, ◌≤◌, ◌==◌, not, Bool, true, false, if◌then◌else◌, List, [], ◌∷◌, length, Option, Some, None, slice_get, slice_set}
use Rattle.std.proofs.Common.{refl, sym, subst, arith}
use Rattle.std.proofs.lemmas.List.{length-set}
use Rattle.pearl_value.specs.declared.kind.Kind.{Kind}
use Rattle.pearl_value.specs.declared.cell.Cell.{Cell}
use Rattle.pearl_value.specs.declared.cell.Cell.TheVariants.{Fixed, Bits, Chars, Clock, Span, Ref}
use Rattle.pearl_value.specs.Conversions.{converted, suits_kind}
use Rattle.pearl_rules.specs.declared.action.Action.{Action}
use Rattle.pearl_rules.specs.declared.action.Answer.{Answer}
use Rattle.pearl_stack.specs.Frames.{Frame}
use Rattle.pearl_instructions.specs.declared.instr.Instr.{Instr}
use Rattle.pearl_instructions.specs.declared.instr.Instr.TheVariants as instr
use Rattle.pearl_instructions.specs.declared.object.Parts.{Parts as Object}
use Rattle.pearl_instructions.specs.Steps.{Silent, Offers, given, needed, value_kind, makes}
use Rattle.pearl_instructions.specs.Flow.{jump_zero}
use Rattle.pearl_instructions.specs.Rows.{act}
use Rattle.pearl_meaning.specs.Frames.{Store}
use Rattle.pearl_meaning.specs.Evaluation.{Value, Does, gives, on_value, bind, ask, value_or_trap, put_cell, own_cell, given as eval_given}
use Rattle.pearl_meaning.specs.Values.{convert}
use Rattle.pearl_meaning.specs.Loops.{holds}
use Rattle.pearl_gen_expr.specs.Contexts.{stack, Context, at, IsStoreOf}
use Rattle.pearl_gen_expr.specs.Carrying.{End, Meets, Carries}
use Rattle.pearl_gen_expr.specs.ExprCode.{code_of, Is, IsConst}
use Rattle.pearl_gen_expr.specs.Ends.{on_top, done}
use Rattle.pearl_gen_expr.proofs.Offered.{offered_from, frame_at, RowMeets, instr_carries, missing_meets, goes_meets}
use Rattle.pearl_gen_expr.proofs.Offered.{silent_meets, heard_meets, given_meets, needed_meets, makes_meets}

-- what a cell holds, where it is there
abbrev pub given_value : Option Cell → Does Cell
given_value found = eval_given found gives

-- the frame at work gets cells that are no fewer
pub more_cells : {o : Object} {c : Context} {task : ℕ} {cells : List Cell} (after : List Cell) {more : List (List Cell)} → IsStoreOf o c (record { task = task; frames = cells ∷ more }) →
    length cells ≤ length after → IsStoreOf o c (record { task = task; frames = after ∷ more })
more_cells after is less = let wide = is.cells.0 in record { cells = (omega (arith, wide, less), is.cells.1); task = is.task }

-- an action is asked, and what follows it is met
pub asked_meets : (o : Object) (c : Context) {X : Type 0} (end : End X) (frames : List Frame) (offered : Action) (go : Answer → List Frame) (store : Store) (on : Answer → Does X) (rest : List Answer) →
    ((answer : Answer) (left : List Answer) → Meets o c end (go answer) left (on answer store left)) →
    RowMeets o c end frames (Offers offered go) rest (on_value (ask offered store rest) on)
asked_meets o c end frames offered go store on [] meets e = offered_from o offered go
asked_meets o c end frames offered go store on (answer ∷ rest) meets e =
    heard_meets o c end frames offered go answer rest (on answer store rest) (meets answer rest) e

module _ (o : Object) (c : Context) where
  -- AN INSTRUCTION THAT ONLY GOES ON

  -- with other operands, whatever the cells are
  pub silent_carries : {X : Type 0} (end : End X) (place q : ℕ) (operands ops : List Cell) (instr : Instr) (does : Does X) → Is (code_of o c.routine) place instr →
      ((cells : List Cell) (low : List Frame) → act o instr (frame_at c place operands cells) low ≡ Silent (frame_at c q ops cells ∷ low)) →
      Carries o c end (at c q ops) does → Carries o c end (at c place operands) does
  silent_carries end place q operands ops instr does is acts carries = instr_carries o c end place operands instr does is (λ task cells more rest of.
      let lower = stack c.callers more in let store : Store = record { task = task; frames = cells ∷ more } in
      subst (λ step. RowMeets o c end (frame_at c place operands cells ∷ lower) step rest (does store rest)) (sym (acts cells lower))
      (goes_meets o c end (frame_at c place operands cells ∷ lower) (frame_at c q ops cells ∷ lower) rest (does store rest) (carries.over store rest of)))

  -- AN INSTRUCTION THAT OFFERS AN ACTION

  -- and then goes on with these operands, whatever the cells are
  pub ask_carries : {X : Type 0} (end : End X) (place q : ℕ) (operands : List Cell) (ops : Answer → List Cell) (instr : Instr) (offered : Action) (on : Answer → Does X) →
      Is (code_of o c.routine) place instr →
      ((cells : List Cell) (low : List Frame) → act o instr (frame_at c place operands cells) low ≡ Offers offered (λ answer. frame_at c q (ops answer) cells ∷ low)) →
      ((answer : Answer) → Carries o c end (at c q (ops answer)) (on answer)) → Carries o c end (at c place operands) (bind (ask offered) on)
  ask_carries end place q operands ops instr offered on is acts carries = instr_carries o c end place operands instr (bind (ask offered) on) is (λ task cells more rest of.
      let lower = stack c.callers more in let store : Store = record { task = task; frames = cells ∷ more } in
      subst (λ step. RowMeets o c end (frame_at c place operands cells ∷ lower) step rest (bind (ask offered) on store rest)) (sym (acts cells lower))
      (asked_meets o c end (frame_at c place operands cells ∷ lower) offered (λ answer. frame_at c q (ops answer) cells ∷ lower) store on rest
      (λ answer left. (carries answer).over store left of)))

  -- CELLS

  pub store_carries : (place cell : ℕ) (x : Cell) (operands : List Cell) → Is (code_of o c.routine) place (instr.Store cell) →
      Carries o c (done c (place + 1) operands) (at c place (x ∷ operands)) (put_cell cell x)
  store_carries place cell x operands is = instr_carries o c (done c (place + 1) operands) place (x ∷ operands) (instr.Store cell) (put_cell cell x) is (λ task cells more rest of.
      let lower = stack c.callers more in let f = frame_at c place (x ∷ operands) cells in let after : Store = record { task = task; frames = slice_set cells cell x ∷ more } in
      let long : length (slice_set cells cell x) ≡ length cells = length-set cells cell x in
      given_meets o c (done c (place + 1) operands) (f ∷ lower) (slice_get cells cell) (λ old. Silent (frame_at c (place + 1) operands (slice_set cells cell x) ∷ lower)) rest
      (Value tt after rest) (λ old e.
      silent_meets o c (done c (place + 1) operands) (f ∷ lower) tt after rest tt (more_cells (slice_set cells cell x) of (omega (arith, long)))))

  pub load_carries : (place cell : ℕ) (operands : List Cell) → Is (code_of o c.routine) place (instr.Load cell) →
      Carries o c (on_top c (place + 1) operands) (at c place operands) (own_cell cell)
  load_carries place cell operands is = instr_carries o c (on_top c (place + 1) operands) place operands (instr.Load cell) (own_cell cell) is (λ task cells more rest of.
      let lower = stack c.callers more in let f = frame_at c place operands cells in
      loaded (slice_get cells cell) f lower (record { task = task; frames = cells ∷ more }) rest of)
    where
      loaded : (found : Option Cell) (f : Frame) (lower : List Frame) (store : Store) (rest : List Answer) → IsStoreOf o c store →
          RowMeets o c (on_top c (place + 1) operands) (f ∷ lower) (given found (λ x. Silent (at c (place + 1) (x ∷ operands) store))) rest (given_value found store rest)
      loaded None f lower store rest of = missing_meets o c (on_top c (place + 1) operands) (f ∷ lower) rest (given_value None store rest)
      loaded (Some x) f lower store rest of = silent_meets o c (on_top c (place + 1) operands) (f ∷ lower) x store rest tt of

  -- VALUES

  -- the value on top is converted
  pub conv_carries : (place : ℕ) (of : Kind) (kind : Option Kind) (x : Cell) (operands : List Cell) → kind ≡ Some of → Is (code_of o c.routine) place (instr.Conv of) →
      Carries o c (on_top c (place + 1) operands) (at c place (x ∷ operands)) (convert kind x)
  conv_carries place of kind x operands known is =
      subst (λ kind. Carries o c (on_top c (place + 1) operands) (at c place (x ∷ operands)) (convert kind x)) (sym known)
      (instr_carries o c (on_top c (place + 1) operands) place (x ∷ operands) (instr.Conv of) (convert (Some of) x) is (λ task cells more rest fits.
      let lower = stack c.callers more in let f = frame_at c place (x ∷ operands) cells in let store : Store = record { task = task; frames = cells ∷ more } in
      given_meets o c (on_top c (place + 1) operands) (f ∷ lower) (value_kind x) (λ from. needed (suits_kind from of) (makes f lower operands (converted x of))) rest
      (value_or_trap (converted x of) store rest) (λ from e.
      needed_meets o c (on_top c (place + 1) operands) (f ∷ lower) (suits_kind from of) (makes f lower operands (converted x of)) rest
      (value_or_trap (converted x of) store rest) (λ suits.
      makes_meets o c (λ x. Unit {0}) place (x ∷ operands) operands cells more task (converted x of) rest (λ y made. tt) fits))))

  -- a value is pushed
  pub const_carries : {X : Type 0} (end : End X) (place : ℕ) (x : Cell) (operands : List Cell) (does : Does X) → IsConst (code_of o c.routine) place x →
      Carries o c end (at c (place + 1) (x ∷ operands)) does → Carries o c end (at c place operands) does
  const_carries end place x operands does is carries =
      silent_carries end place (place + 1) operands (x ∷ operands) (instr.Const x) does is (λ cells low. refl) carries

  -- a jump where the bit on top is 0
  pub branch_carries : {X : Type 0} (end : End X) (place other : ℕ) (x : Cell) (operands : List Cell) (does otherwise : Does X) → Is (code_of o c.routine) place (instr.JumpZero other) →
      Carries o c end (at c (place + 1) operands) does → Carries o c end (at c other operands) otherwise →
      Carries o c end (at c place (x ∷ operands)) (if holds x then does else otherwise)
  branch_carries end place other x operands does otherwise is here there = instr_carries o c end place (x ∷ operands) (instr.JumpZero other) (if holds x then does else otherwise) is
      (λ task cells more rest of. jumped x (frame_at c place (x ∷ operands) cells ∷ stack c.callers more) task cells more rest of)
    where
      either : (test : Bool) (frames : List Frame) (task : ℕ) (cells : List Cell) (more : List (List Cell)) (rest : List Answer) → IsStoreOf o c (record { task = task; frames = cells ∷ more }) →
          RowMeets o c end frames (Silent (frame_at c (if test then other else place + 1) operands cells ∷ stack c.callers more)) rest
          ((if not test then does else otherwise) (record { task = task; frames = cells ∷ more }) rest)
      either true frames task cells more rest of = goes_meets o c end frames (at c other operands (record { task = task; frames = cells ∷ more })) rest
          (otherwise (record { task = task; frames = cells ∷ more }) rest) (there.over (record { task = task; frames = cells ∷ more }) rest of)
      either false frames task cells more rest of = goes_meets o c end frames (at c (place + 1) operands (record { task = task; frames = cells ∷ more })) rest
          (does (record { task = task; frames = cells ∷ more }) rest) (here.over (record { task = task; frames = cells ∷ more }) rest of)

      jumped : (x : Cell) (frames : List Frame) (task : ℕ) (cells : List Cell) (more : List (List Cell)) (rest : List Answer) → IsStoreOf o c (record { task = task; frames = cells ∷ more }) →
          RowMeets o c end frames (jump_zero other (frame_at c place (x ∷ operands) cells) (stack c.callers more) operands x) rest
          ((if holds x then does else otherwise) (record { task = task; frames = cells ∷ more }) rest)
      jumped (Bits len value) frames task cells more rest of = needed_meets o c end frames (len == 1) (Silent (frame_at c (if value == 0 then other else place + 1) operands cells ∷ stack c.callers more)) rest
          ((if not (value == 0) then does else otherwise) (record { task = task; frames = cells ∷ more }) rest) (λ one. either (value == 0) frames task cells more rest of)
      jumped (Fixed len value) frames task cells more rest of = missing_meets o c end frames rest (otherwise (record { task = task; frames = cells ∷ more }) rest)
      jumped (Chars text) frames task cells more rest of = missing_meets o c end frames rest (otherwise (record { task = task; frames = cells ∷ more }) rest)
      jumped (Clock time) frames task cells more rest of = missing_meets o c end frames rest (otherwise (record { task = task; frames = cells ∷ more }) rest)
      jumped (Span time) frames task cells more rest of = missing_meets o c end frames rest (otherwise (record { task = task; frames = cells ∷ more }) rest)
      jumped (Ref kind place) frames task cells more rest of = missing_meets o c end frames rest (otherwise (record { task = task; frames = cells ∷ more }) rest)
