-- The instruction at which a stack is, by the instructions of its top frame's routine.
use Rattle.std.proofs.Common.{◌≡◌, ◌≢◌, ℕ, ◌+◌, ◌<◌, ◌≤◌, ◌^◌, List, [], ◌∷◌, Option, Some, None, length, slice_get, refl, sym, ap, ◌∙◌, subst, arith}
use Rattle.std.specs.Prelude.{IsSome, Bool, true, false, option_map, option_and_then}
use Rattle.std.proofs.lemmas.Option.{same_Some}
use Rattle.pearl_rules.specs.declared.action.Action.{Action}
use Rattle.pearl_rules.specs.declared.action.Answer.{Answer}
use Rattle.pearl_stack.specs.declared.stack.Frame as size
use Rattle.pearl_stack.specs.Frames.{Frame, Stack, place_of}
use Rattle.pearl_instructions.specs.declared.instr.Instr.{Instr}
use Rattle.pearl_instructions.specs.declared.instr.Instr.TheVariants.{Call, Return}
use Rattle.pearl_instructions.specs.declared.object.Code.{Code}
use Rattle.pearl_instructions.specs.declared.object.Parts.{Parts as Object}
use Rattle.pearl_instructions.specs.declared.object.Procedure.{Procedure}
use Rattle.pearl_instructions.specs.Flow.{call}
use Rattle.pearl_instructions.specs.Lawful.{IsObject}
use Rattle.pearl_instructions.specs.Objects.{routine_at}
use Rattle.pearl_instructions.specs.Owned.{Moves, Proceeds, Afterwards, IsOfTask}
use Rattle.pearl_instructions.specs.Rows.{row, act}
use Rattle.pearl_instructions.specs.Stacks.{IsStack, task_of, room}
use Rattle.pearl_instructions.specs.Steps.{Step, Silent, Offers, needed}
use Rattle.pearl_instructions.specs.Valid.{IsValid}
use Rattle.pearl_silent.specs.declared.stepped.Did.{Did}
use Rattle.pearl_silent.specs.Known.{Known}
use Rattle.pearl_silent.specs.Settling.{Ends, instructions_of}
use Rattle.pearl_silent.specs.Standing.{act_on, family, instr_of, StandsAt}
use Rattle.pearl_silent.specs.Steps.{Does, Tries, told, HasNext, IsSizes, sizes_of}
use Rattle.pearl_silent.proofs.Stands.{row_is, stands, kept, same_task}
use Rattle.pearl_silent.proofs.Tops.{sized}

pub stack_some : (o : Object) (frames : List Frame) → IsStack o frames → frames ≢ []
stack_some o [] never = absurd never
stack_some o (f ∷ lower) t = λ e. cc

-- the routine of the top frame

pub routine_here : (o : Object) (frames : List Frame) (here : size.Frame) → IsStack o frames → IsSizes here frames → IsSome (routine_at o here.routine)
routine_here o [] here never is = absurd never
routine_here o (f ∷ lower) here t is =
    subst (λ (h : size.Frame). IsSome (routine_at o h.routine)) (sym is) (subst IsSome (sym t.routine) refl)

pub instructions_here : (o : Object) (frames : List Frame) (here : size.Frame) → IsSizes here frames →
    instructions_of o frames ≡ option_map (λ code. code.instructions) (routine_at o here.routine)
instructions_here o [] here never = absurd never
instructions_here o (f ∷ lower) here is = ap (λ (h : size.Frame). option_map (λ code. code.instructions) (routine_at o h.routine)) (sym is)

-- the place is that of one of them

pub place_within : (o : Object) (frames : List Frame) (xs : List Instr) → IsStack o frames → instructions_of o frames ≡ Some xs → place_of frames < length xs
place_within o [] xs never e = absurd never
place_within o (f ∷ lower) xs t e =
    let same : t.code.instructions ≡ xs = same_Some t.code.instructions xs (ap (option_map (λ code. code.instructions)) (sym t.routine) ∙ e) in
    subst (λ xs. f.place < length xs) same t.place

abbrev option_read : Option Code → ℕ → Option Instr
option_read code n = option_and_then (λ code. slice_get code.instructions n) code

instr_by : (code : Option Code) (xs : List Instr) (n : ℕ) (instr : Instr) → option_map (λ code. code.instructions) code ≡ Some xs → slice_get xs n ≡ Some instr →
    option_read code n ≡ Some instr
instr_by None xs n instr e h = cc
instr_by (Some code) xs n instr e h = ap (λ ys. slice_get ys n) (same_Some code.instructions xs e) ∙ h

instr_in : (o : Object) (frames : List Frame) (xs : List Instr) (instr : Instr) → instructions_of o frames ≡ Some xs → slice_get xs (place_of frames) ≡ Some instr →
    instr_of o frames ≡ Some instr
instr_in o [] xs instr e h = cc
instr_in o (f ∷ lower) xs instr e h = instr_by (routine_at o f.routine) xs f.place instr e h

-- the stack stands there

pub record Here (o : Object) (s : Stack) (instr : Instr) : Type 0 where
  pub at : StandsAt o instr (sizes_of s.frames) s
  pub there : instr_of o s.frames ≡ Some instr
  pub row : row o s.frames ≡ act_on o instr s.frames

pub here_at : Known → (o : Object) (s : Stack) (xs : List Instr) (place : ℕ) (instr : Instr) → IsValid o → IsObject o → IsStack o s.frames → room o s.frames ≤ s.room →
    instructions_of o s.frames ≡ Some xs → place ≡ place_of s.frames → slice_get xs place ≡ Some instr → place + 1 < 2 ^ 64 → Here o s instr
here_at k o s xs place instr v w t less e at h next =
    let there : instr_of o s.frames ≡ Some instr = instr_in o s.frames xs instr e (ap (slice_get xs) (sym at) ∙ h) in
    let goes : HasNext s.frames = record { some = stack_some o s.frames t; next = omega (arith, at, next) } in
    record {
      at = stands k o s instr (sizes_of s.frames) v w t less (sized s.frames goes) there;
      there = there;
      row = row_is o s.frames instr there;
    }

-- a stack that stands at an instruction, by the sizes of its own top frame
pub stands_sized : (o : Object) (instr : Instr) (here : size.Frame) (s : Stack) → StandsAt o instr here s → StandsAt o instr (sizes_of s.frames) s
stands_sized o instr here s h = record {
  lawful = h.lawful;
  stack = h.stack;
  sizes = sized s.frames h.next;
  next = h.next;
  ready = h.ready;
  operands = h.operands;
  cells = h.cells;
  offers = h.offers;
  literal = h.literal;
  code = h.code;
  kinds = h.kinds;
  suits = h.suits;
  named = h.named;
  limits = h.limits;
}

-- a silent row that is no Return leaves a frame of the same routine on top

offers_needed : (b : Bool) (action : Action) (go : Answer → List Frame) (next : List Frame) → needed b (Offers action go) ≡ Silent next → ⊥
offers_needed true action go next e = cc
offers_needed false action go next e = cc

proceeds : (o : Object) (instr : Instr) (f : Frame) (lower next : List Frame) → (instr ≡ Return → ⊥) → act o instr f lower ≡ Silent next → Moves instr f lower next →
    Proceeds instr f lower next
proceeds o (Call p) f lower next other e m = absurd (call_offers (slice_get o.procedures p) e)
  where
    call_offers : (callee : Option Procedure) → call p callee f lower ≡ Silent next → ⊥
    call_offers None e = cc
    call_offers (Some procedure) e = offers_needed _ _ _ next e
proceeds o Return f lower next other e m = absurd (other refl)
proceeds o instr f lower next other e m = m

same_routine : (o : Object) (instr : Instr) (f : Frame) (lower next : List Frame) → Proceeds instr f lower next → instructions_of o next ≡ instructions_of o (f ∷ lower)
same_routine o instr f lower [] never = absurd never
same_routine o instr f lower (g ∷ left) p = ap (λ r. option_map (λ code. code.instructions) (routine_at o r)) p.0

pub instructions_stay : Known → (o : Object) (frames next : List Frame) (instr : Instr) → IsStack o frames → instr_of o frames ≡ Some instr → (instr ≡ Return → ⊥) →
    row o frames ≡ Silent next → instructions_of o next ≡ instructions_of o frames
instructions_stay k o [] next instr never there other e = absurd never
instructions_stay k o (f ∷ lower) next instr t there other e =
    let own : ℕ = task_of o (f ∷ lower) in
    let kept : Afterwards o own (λ next. Moves instr f lower next × IsOfTask o own next) (Silent next) =
    subst (Afterwards o own (λ next. Moves instr f lower next × IsOfTask o own next)) e (k.stays o own f lower instr (k.task o (f ∷ lower) t).1 there) in
    same_routine o instr f lower next (proceeds o instr f lower next other (sym (row_is o (f ∷ lower) instr there) ∙ e) kept.0)

-- a row that was tried

pub tried_as : (o : Object) (step : Step) (old now : Stack) (result : Option Did) (instr : Instr) → row o old.frames ≡ step → instr_of o old.frames ≡ Some instr →
    Tries step (2 ≤ family instr) old now result → Tries (row o old.frames) (Ends o old.frames None) old now result
tried_as o step old now None instr e there t = ((instr, there, t.0), t.1)
tried_as o step old now (Some did) instr e there t = subst (λ r. Does r old now (told did)) (sym e) t

pub kept_tried : Known → (o : Object) (old now : Stack) (result : Option Did) → IsValid o → IsObject o → IsStack o old.frames → room o old.frames ≤ old.room →
    Tries (row o old.frames) (Ends o old.frames None) old now result → IsStack o now.frames × (room o now.frames ≤ now.room)
kept_tried k o old now None v w stack less t = subst (λ (s : Stack). IsStack o s.frames × (room o s.frames ≤ s.room)) (sym t.1) (stack, less)
kept_tried k o old now (Some did) v w stack less t = kept k o old now (told did) v w stack less t

pub same_task_tried : Known → (o : Object) (old now : Stack) (result : Option Did) → IsValid o → IsObject o → IsStack o old.frames →
    Tries (row o old.frames) (Ends o old.frames None) old now result → task_of o now.frames ≡ task_of o old.frames
same_task_tried k o old now None v w stack t = ap (λ (s : Stack). task_of o s.frames) t.1
same_task_tried k o old now (Some did) v w stack t = same_task k o old now (told did) v w stack t
