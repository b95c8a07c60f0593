-- Each row leads from a stack of a valid object to such stacks only.
use Rattle.std.proofs.Common.{◌≡◌, ℕ, List, [], ◌∷◌, ◌++◌, Some, length, map, slice_get, refl, subst, ltb-true}
use Rattle.std.specs.List.{AllByRecursion}
use Rattle.pearl_value.proofs.Offered.{blank_gives}
use Rattle.pearl_rules.specs.declared.action.Action.{Action}
use Rattle.pearl_rules.specs.declared.action.Answer.{Answer}
use Rattle.pearl_stack.specs.Frames.{Frame}
use Rattle.pearl_instructions.specs.declared.instr.Instr.{Instr}
use Rattle.pearl_instructions.specs.declared.instr.Instr.TheVariants.{Const, Load, Store, Fill, Drop, Conv, Index, LoadAt, StoreAt, Read, Write, ReadAt, WriteAt, RefSlot, RefSlotAt, RefCell, RefCellAt, ReadRef, WriteRef, Jump, JumpZero, Case, Turn, Call, Return, End, Trap, Within, Advance, NonZero, Monadic, Dyadic, Now, Request, Release, Try, Activate, Continue, Resume, Suspend, Terminate, Prevent, SuspendOwn, TerminateOwn, PreventOwn, Enable, Disable, Trigger, Put, Get, Take, Send}
use Rattle.pearl_instructions.specs.declared.object.Code.{Code}
use Rattle.pearl_instructions.specs.declared.object.Parts.{Parts as Object}
use Rattle.pearl_instructions.specs.Objects.{routine_at, routines}
use Rattle.pearl_instructions.specs.Lawful.{IsCellKind, IsInstr, IsCode, IsProcedure, IsTask, IsObject}
use Rattle.pearl_instructions.specs.Steps.{Step, Silent, Offers, Missing}
use Rattle.pearl_instructions.specs.Rows.{act, instr_at, row}
use Rattle.pearl_instructions.specs.Operands.{Shape}
use Rattle.pearl_instructions.specs.Valid.{shape_before, IsValid}
use Rattle.pearl_instructions.specs.Stacks.{IsTop, IsStack, task_of, Goes}
use Rattle.pearl_instructions.specs.Actions.{IsOffered}
use Rattle.pearl_instructions.proofs.OfferedActions.{interrupt_there, semaphores_there, own_there}
use Rattle.pearl_instructions.proofs.Kept.{IsSound, Here, here, goes, given_goes}
use Rattle.pearl_instructions.proofs.SoundCells.{const_sound, load_sound, drop_sound, store_sound, fill_sound, load_at_sound, store_at_sound, ref_cell_sound, ref_cell_at_sound}
use Rattle.pearl_instructions.proofs.SoundOperators.{conv_sound, monadic_sound, dyadic_sound, non_zero_sound}
use Rattle.pearl_instructions.proofs.SoundIndex.{index_sound}
use Rattle.pearl_instructions.proofs.SoundVariables.{all_of, read_sound, read_at_sound, write_sound, write_at_sound, ref_slot_sound, ref_slot_at_sound, read_ref_sound, write_ref_sound}
use Rattle.pearl_instructions.proofs.SoundFlow.{jump_sound, jump_zero_sound, case_sound, turn_sound, within_sound, advance_sound, call_sound, return_sound}
use Rattle.pearl_instructions.proofs.SoundActions.{now_sound, try_sound, take_sound, send_sound, continue_sound, resume_sound, put_sound}
use Rattle.pearl_instructions.proofs.SoundActivate.{activate_sound}
use Rattle.pearl_instructions.proofs.SoundGet.{get_sound}

act_sound : (o : Object) (v : IsValid o) (w : IsObject o) (f : Frame) (lower : List Frame) (t : IsTop o f lower) (code : Code) (instr : Instr) (s : Shape) → IsInstr instr →
    AllByRecursion IsCellKind code.cells → Here o f lower code instr s → IsSound o (act o instr f lower)
act_sound o v w f lower t code (Const x) s is kinds h = const_sound o f lower code s x is h
act_sound o v w f lower t code (Load c) s is kinds h = load_sound o f lower code s c h
act_sound o v w f lower t code (Store c) s is kinds h = store_sound o f lower code s c h
act_sound o v w f lower t code (Fill c n of) s is kinds h = fill_sound o f lower code s c n of (blank_gives of is) h
act_sound o v w f lower t code Drop s is kinds h = drop_sound o f lower code s h
act_sound o v w f lower t code (Conv to) s is kinds h = conv_sound o f lower code s to is h
act_sound o v w f lower t code (Index bounds) s is kinds h = index_sound o f lower code s bounds h
act_sound o v w f lower t code (LoadAt c n) s is kinds h = load_at_sound o f lower code s c n h
act_sound o v w f lower t code (StoreAt c n) s is kinds h = store_at_sound o f lower code s c n h
act_sound o v w f lower t code (Read n) s is kinds h = read_sound o w f lower code s n h
act_sound o v w f lower t code (Write n) s is kinds h = write_sound o w f lower code s n h
act_sound o v w f lower t code (ReadAt n) s is kinds h = read_at_sound o f lower code s n h
act_sound o v w f lower t code (WriteAt n) s is kinds h = write_at_sound o f lower code s n h
act_sound o v w f lower t code (RefSlot n) s is kinds h = ref_slot_sound o w f lower code s n h
act_sound o v w f lower t code (RefSlotAt n) s is kinds h = ref_slot_at_sound o f lower code s n h
act_sound o v w f lower t code (RefCell c) s is kinds h = ref_cell_sound o f lower code s c h
act_sound o v w f lower t code (RefCellAt c n) s is kinds h = ref_cell_at_sound o f lower code s c n h
act_sound o v w f lower t code ReadRef s is kinds h = read_ref_sound o f lower code s h
act_sound o v w f lower t code WriteRef s is kinds h = write_ref_sound o f lower code s h
act_sound o v w f lower t code (Jump i) s is kinds h = jump_sound o f lower code s i h
act_sound o v w f lower t code (JumpZero i) s is kinds h = jump_zero_sound o f lower code s i h
act_sound o v w f lower t code (Case targets) s is kinds h = case_sound o f lower code s targets h
act_sound o v w f lower t code Turn s is kinds h = turn_sound o f lower code s h
act_sound o v w f lower t code (Call p) s is kinds h = call_sound o v w f lower code s p h
act_sound o v w f lower t code Return s is kinds h = return_sound o v f lower code s h
act_sound o v w f lower t code End s is kinds h = (tt, λ answer own never. absurd never)
act_sound o v w f lower t code (Trap trap) s is kinds h = (tt, λ answer own never. absurd never)
act_sound o v w f lower t code (Within c) s is kinds h = within_sound o f lower code s c h
act_sound o v w f lower t code (Advance c i) s is kinds h = advance_sound o f lower code s c i h
act_sound o v w f lower t code NonZero s is kinds h = non_zero_sound o f lower code s h
act_sound o v w f lower t code (Monadic op) s is kinds h = monadic_sound o f lower code s op h
act_sound o v w f lower t code (Dyadic op) s is kinds h = dyadic_sound o f lower code s op h
act_sound o v w f lower t code Now s is kinds h = now_sound o f lower code s h
act_sound o v w f lower t code (Request list) s is kinds h =
    (semaphores_there o list h.keeps.named h.keeps.limits, λ answer own e. goes o f lower code (Request list) s h f.cells f.operands s refl refl h.stands.cells h.stands.operands)
act_sound o v w f lower t code (Release list) s is kinds h =
    (semaphores_there o list h.keeps.named h.keeps.limits, λ answer own e. goes o f lower code (Release list) s h f.cells f.operands s refl refl h.stands.cells h.stands.operands)
act_sound o v w f lower t code (Try n) s is kinds h = try_sound o f lower code s n h
act_sound o v w f lower t code (Activate a) s is kinds h = activate_sound o f lower code s a h
act_sound o v w f lower t code (Continue c) s is kinds h = continue_sound o f lower code s c h
act_sound o v w f lower t code (Resume once) s is kinds h = resume_sound o f lower code s once h
act_sound o v w f lower t code (Suspend n) s is kinds h =
    (ltb-true n (length o.tasks) h.keeps.named, λ answer own e. goes o f lower code (Suspend n) s h f.cells f.operands s refl refl h.stands.cells h.stands.operands)
act_sound o v w f lower t code (Terminate n) s is kinds h =
    (ltb-true n (length o.tasks) h.keeps.named, λ answer own e. goes o f lower code (Terminate n) s h f.cells f.operands s refl refl h.stands.cells h.stands.operands)
act_sound o v w f lower t code (Prevent n) s is kinds h =
    (ltb-true n (length o.tasks) h.keeps.named, λ answer own e. goes o f lower code (Prevent n) s h f.cells f.operands s refl refl h.stands.cells h.stands.operands)
act_sound o v w f lower t code SuspendOwn s is kinds h =
    (own_there o f lower code h.routine h.below, λ answer own e. goes o f lower code SuspendOwn s h f.cells f.operands s refl refl h.stands.cells h.stands.operands)
act_sound o v w f lower t code TerminateOwn s is kinds h = (own_there o f lower code h.routine h.below, λ answer own e. t)
act_sound o v w f lower t code PreventOwn s is kinds h =
    (own_there o f lower code h.routine h.below, λ answer own e. goes o f lower code PreventOwn s h f.cells f.operands s refl refl h.stands.cells h.stands.operands)
act_sound o v w f lower t code (Enable n) s is kinds h =
    (interrupt_there (slice_get o.devices n) h.keeps.named, λ answer own e. goes o f lower code (Enable n) s h f.cells f.operands s refl refl h.stands.cells h.stands.operands)
act_sound o v w f lower t code (Disable n) s is kinds h =
    (interrupt_there (slice_get o.devices n) h.keeps.named, λ answer own e. goes o f lower code (Disable n) s h f.cells f.operands s refl refl h.stands.cells h.stands.operands)
act_sound o v w f lower t code (Trigger n) s is kinds h =
    (interrupt_there (slice_get o.devices n) h.keeps.named, λ answer own e. goes o f lower code (Trigger n) s h f.cells f.operands s refl refl h.stands.cells h.stands.operands)
act_sound o v w f lower t code (Put d n) s is kinds h = put_sound o f lower code s d n h
act_sound o v w f lower t code (Get g) s is kinds h = get_sound o w f lower code s g kinds h
act_sound o v w f lower t code (Take d) s is kinds h = take_sound o f lower code s d h
act_sound o v w f lower t code (Send d) s is kinds h = send_sound o f lower code s d h

-- each routine's code is lawful
all_front : {A : Type 0} (P : A → Type 0) (xs ys : List A) → AllByRecursion P xs → AllByRecursion P ys → AllByRecursion P (xs ++ ys)
all_front P [] ys a b = b
all_front P (x ∷ xs) ys a b = (a.0, all_front P xs ys a.1 b)

pub all_mapped : {A B : Type 0} (P : A → Type 0) (Q : B → Type 0) (f : A → B) (xs : List A) → ((x : A) → P x → Q (f x)) → AllByRecursion P xs → AllByRecursion Q (map f xs)
all_mapped P Q f [] h a = tt
all_mapped P Q f (x ∷ xs) h a = (h x a.0, all_mapped P Q f xs h a.1)

pub lawful_code : (P : Code → Type 0) → ((params : ℕ) (code : Code) → IsCode params code → P code) → (o : Object) (r : ℕ) (code : Code) → IsObject o →
    routine_at o r ≡ Some code → P code
lawful_code P of o r code w e = all_of P (routines o) r code
    (all_front P (map (λ p. p.code) o.procedures) (map (λ t. t.code) o.tasks)
    (all_mapped IsProcedure P (λ p. p.code) o.procedures (λ p is. of p.params p.code is.code) w.procedures)
    (all_mapped IsTask P (λ t. t.code) o.tasks (λ t is. of 0 t.code is.code) w.tasks)) e

-- Every row is there, and leads to a stack of the object: the next one, or the one after each answer that suits.
pub row_sound : (o : Object) → IsValid o → IsObject o → (frames : List Frame) → IsStack o frames → IsSound o (row o frames)
row_sound o v w [] never = absurd never
row_sound o v w (f ∷ lower) t =
    let at = here o v f lower t in
    let lawful = lawful_code (λ code. AllByRecursion IsInstr code.instructions) (λ params code is. is.instructions) o f.routine t.code w t.routine in
    let kinds = lawful_code (λ code. AllByRecursion IsCellKind code.cells) (λ params code is. is.kinds) o f.routine t.code w t.routine in
    let is = all_of IsInstr t.code.instructions f.place at.0 lawful at.2.at in
    given_goes o at.0 (instr_at o f) _ at.1 (act_sound o v w f lower t t.code at.0 (shape_before o f.routine t.code f.place) is kinds at.2)

goes_own : (o : Object) (own : ℕ) (step : Step) → IsSound o step → Goes o own step
goes_own o own (Silent frames) h = h
goes_own o own (Offers action go) h = λ answer suits. h.1 answer own suits
goes_own o own Missing h = h

pub row_goes : (o : Object) → IsValid o → IsObject o → (frames : List Frame) → IsStack o frames → Goes o (task_of o frames) (row o frames)
row_goes o v w frames t = goes_own o (task_of o frames) (row o frames) (row_sound o v w frames t)

offers_there : (o : Object) (step : Step) → IsSound o step → (action : Action) (go : Answer → List Frame) → step ≡ Offers action go → IsOffered o action
offers_there o (Silent frames) h action go e = cc
offers_there o Missing h action go e = cc
offers_there o (Offers a g) h action go e = let same : a ≡ action = cc in subst (IsOffered o) same h.0

pub row_offers : (o : Object) → IsValid o → IsObject o → (frames : List Frame) → IsStack o frames →
    (action : Action) (go : Answer → List Frame) → row o frames ≡ Offers action go → IsOffered o action
row_offers o v w frames t = offers_there o (row o frames) (row_sound o v w frames t)
