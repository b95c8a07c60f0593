-- A task begins with a stack of its object, and no stack passes the stated depth or has more frames than can call one another.
use Rattle.std.proofs.Common.{◌≡◌, ℕ, zero, suc, ◌+◌, ◌<◌, ◌≤◌, List, [], ◌∷◌, ◌++◌, Some, length, map, drop, slice_get, refl, sym, ap, ◌∙◌, subst, arith, Bool, true, false, ltb-true, leb-true, leb-false, inl, inr}
use Rattle.std.proofs.lemmas.Bool.{lt-leb}
use Rattle.std.specs.Prelude.{◌⊎◌, nat_lt, nat_le}
use Rattle.std.specs.List.{AllZip, AllByRecursion}
use Rattle.std.proofs.lemmas.List.{length-map}
use Rattle.std.proofs.lemmas.Option.{slice_get_within}
use Rattle.pearl_stack.specs.Frames.{Frame, used}
use Rattle.pearl_instructions.specs.declared.instr.Instr.{Instr}
use Rattle.pearl_instructions.specs.declared.instr.Instr.TheVariants.{Call}
use Rattle.pearl_instructions.specs.declared.object.Code.{Code}
use Rattle.pearl_instructions.specs.declared.object.Procedure.{Procedure}
use Rattle.pearl_instructions.specs.declared.object.Parts.{Parts as Object}
use Rattle.pearl_instructions.specs.Objects.{routine_at, is_task}
use Rattle.pearl_instructions.specs.Lawful.{IsCode, IsTask, IsObject}
use Rattle.pearl_instructions.specs.Flow as flow
use Rattle.pearl_instructions.specs.Rows.{fresh_cells, begun}
use Rattle.pearl_instructions.specs.Operands.{Shape}
use Rattle.pearl_instructions.specs.Valid.{shape_before, v11, call_fits, IsValid}
use Rattle.pearl_instructions.specs.Stacks.{routines_of, Suits, IsCalling, Below, IsStack, depth_or_none, room}
use Rattle.pearl_instructions.proofs.Tests.{and_true, or_true, closed_some}
use Rattle.pearl_instructions.proofs.Zips.{zip_length}
use Rattle.pearl_instructions.proofs.Kept.{keeps_at, whole_at, here}
use Rattle.pearl_instructions.proofs.SoundVariables.{all_of}
use Rattle.pearl_instructions.proofs.SoundFlow.{fresh_suits, procedure_code}
use Rattle.pearl_instructions.proofs.Sound.{all_mapped}

behind_of : {A : Type 0} (P : A → Type 0) (xs ys : List A) (n : ℕ) (x : A) → length xs ≤ n → AllByRecursion P ys → slice_get (xs ++ ys) n ≡ Some x → P x
behind_of P [] ys n x less all e = all_of P ys n x all e
behind_of P (a ∷ xs) ys zero x less all e = absurd (omega (arith, less))
behind_of P (a ∷ xs) ys (suc n) x less all e = behind_of P xs ys n x (omega (arith, less)) all e

-- the code of a task has no parameters
task_code : (o : Object) (r : ℕ) (code : Code) → IsObject o → length o.procedures ≤ r → routine_at o r ≡ Some code → IsCode 0 code
task_code o r code w less e =
    let long : length (map (λ p. p.code) o.procedures) ≡ length o.procedures = length-map o.procedures (λ p. p.code) in
    behind_of (IsCode 0) (map (λ p. p.code) o.procedures) (map (λ t. t.code) o.tasks) r code (omega (arith, less, long))
    (all_mapped IsTask (IsCode 0) (λ t. t.code) o.tasks (λ t is. is.code) w.tasks) e

pub begun_sound : (o : Object) (r : ℕ) (code : Code) → IsValid o → IsObject o → length o.procedures ≤ r → routine_at o r ≡ Some code → IsStack o (begun o r)
begun_sound o r code v w less e =
    let is = task_code o r code w less e in
    let cells : map flow.fresh code.cells ≡ fresh_cells (routine_at o r) = ap fresh_cells (sym e) in
    record {
      code = code;
      routine = e;
      place = closed_some code.instructions (whole_at o r code v e).closed;
      below = less;
      stands = record { cells = subst (AllZip (Suits o []) code.cells) cells (fresh_suits o [] code.cells is.plain is.kinds); operands = tt };
    }

deep_any : (o : Object) (code : Code) (instr : Instr) (s : Shape) → v11 o code instr s ≡ true → length code.cells + length s ≤ code.depth
deep_any o code (Call p) s e =
    leb-true _ code.depth (and_true (nat_le (length code.cells + length s) code.depth) (call_fits code (slice_get o.procedures p) s) e).0
deep_any o code instr s e = leb-true _ code.depth e

deep_call : (o : Object) (code : Code) (callee : Procedure) (p : ℕ) (s : Shape) → v11 o code (Call p) s ≡ true → slice_get o.procedures p ≡ Some callee →
    length code.cells + length (drop callee.params s) + callee.code.depth ≤ code.depth
deep_call o code callee p s e q =
    let b = and_true (nat_le (length code.cells + length s) code.depth) (call_fits code (slice_get o.procedures p) s) e in
    leb-true _ code.depth (ap (λ x. call_fits code x s) (sym q) ∙ b.1)

below_used : (o : Object) (v : IsValid o) (f : Frame) (lower : List Frame) → Below o f.routine lower →
    used lower + depth_or_none (routine_at o f.routine) ≤ room o (f ∷ lower)
below_used o v f [] b = omega arith
below_used o v f (g ∷ lower) b =
    let call = b.0 in
    let d : Procedure = call.callee in
    let c : Code = call.code in
    let more = below_used o v g lower b.1 in
    let keeps = keeps_at o g.routine c g.place (Call f.routine) v call.routine call.place in
    let deep = deep_call o c d f.routine (shape_before o g.routine c g.place) keeps.deep call.called in
    let cells = zip_length _ c.cells g.cells call.stands.cells in
    let operands = zip_length _ (drop d.params (shape_before o g.routine c g.place)) g.operands call.stands.operands in
    let own = ap depth_or_none call.routine in
    let callee = ap depth_or_none (procedure_code o f.routine d call.called) in
    omega (arith, more, deep, cells, operands, own, callee)

-- the stated depth isn't passed
pub used_within : (o : Object) → IsValid o → (frames : List Frame) → IsStack o frames → used frames ≤ room o frames
used_within o v [] never = absurd never
used_within o v (f ∷ lower) t =
    let at = here o v f lower t in
    let c : Code = t.code in
    let deep = deep_any o c at.0 (shape_before o f.routine c f.place) at.2.keeps.deep in
    let cells = zip_length _ c.cells f.cells t.stands.cells in
    let operands = zip_length _ (shape_before o f.routine c f.place) f.operands t.stands.operands in
    let own = ap depth_or_none t.routine in
    let more = below_used o v f lower t.below in
    omega (arith, deep, cells, operands, own, more)

pub task_or_procedure : (o : Object) (r : ℕ) → ((length o.procedures ≤ r) ⊎ (r < length o.procedures))
task_or_procedure o r = by (nat_le (length o.procedures) r) refl
  where
    by : (b : Bool) → nat_le (length o.procedures) r ≡ b → ((length o.procedures ≤ r) ⊎ (r < length o.procedures))
    by true e = inl (leb-true (length o.procedures) r e)
    by false e = inr (leb-false (length o.procedures) r e)

-- a procedure that is called from a procedure has the smaller number
pub smaller : (o : Object) (v : IsValid o) (p : ℕ) (g : Frame) (rs : List ℕ) → IsCalling o p g rs → g.routine < length o.procedures → p < g.routine
smaller o v p g rs call less =
    let keeps = keeps_at o g.routine call.code g.place (Call p) v call.routine call.place in
    ltb-true p g.routine (or_true (is_task o g.routine) (nat_lt p g.routine) keeps.smaller (lt-leb (length o.procedures) g.routine less))

-- frames that call one another are no more than there are procedures from the top one's on
callers : (o : Object) (v : IsValid o) (p : ℕ) (lower : List Frame) → Below o p lower → p < length o.procedures → length lower + p ≤ length o.procedures
callers o v p [] b less = absurd (omega (arith, b, less))
callers o v p (g ∷ lower) b less = elim (task_or_procedure o g.routine) [
  | inl task ↦ by_task lower b.1 task
  | inr procedure ↦ (let more = callers o v g.routine lower b.1 procedure in let fewer = smaller o v p g (routines_of lower) b.0 procedure in omega (arith, more, fewer))
]
  where
    by_task : (lower : List Frame) → Below o g.routine lower → length o.procedures ≤ g.routine → suc (length lower) + p ≤ length o.procedures
    by_task [] below task = omega (arith, less)
    by_task (h ∷ lower) below task =
        let within = slice_get_within o.procedures g.routine below.0.callee below.0.called in
        absurd (omega (arith, task, within))

-- a stack has at most one frame more than there are procedures
pub frames_within : (o : Object) → IsValid o → (frames : List Frame) → IsStack o frames → length frames ≤ length o.procedures + 1
frames_within o v [] never = absurd never
frames_within o v (f ∷ lower) t = elim (task_or_procedure o f.routine) [
  | inl task ↦ by_task lower t.below task
  | inr procedure ↦ (let few = callers o v f.routine lower t.below procedure in omega (arith, few))
]
  where
    by_task : (lower : List Frame) → Below o f.routine lower → length o.procedures ≤ f.routine → suc (length lower) ≤ length o.procedures + 1
    by_task [] below task = omega arith
    by_task (h ∷ lower) below task =
        let within = slice_get_within o.procedures f.routine below.0.callee below.0.called in
        absurd (omega (arith, task, within))
