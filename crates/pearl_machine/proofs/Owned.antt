-- What a task's own stack is like: the memory that it needs, what its code offers there, and what it may hear.
use Rattle.std.proofs.Common.{◌≡◌, ℕ, zero, suc, ◌+◌, ◌-◌, ◌<◌, ◌≤◌, ◌⊎◌, inl, inr, List, [], ◌∷◌, ◌++◌, Bool, true, false, Option, Some, None, length, map, slice_get, refl, sym, ap, subst, ◌∙◌, arith, eq-eqb, eqb-true, leb-true, nat_eq, slice_set, length-set, get_or}
use Rattle.std.specs.Prelude.{◌==◌, nat_lt, nat_le, if◌then◌else◌, option_map}
use Rattle.std.specs.List.{AllByRecursion, list_all}
use Rattle.std.proofs.lemmas.Bool.{eqb-false, cases_lt}
use Rattle.std.proofs.lemmas.Option.{none-some, same_Some, slice_get-map, slice_get_past, slice_get-get_or}
use Rattle.pearl_rules.specs.declared.action.Action.{Action}
use Rattle.pearl_rules.specs.declared.action.Action.TheVariants as action
use Rattle.pearl_rules.specs.declared.action.Answer.{Answer}
use Rattle.pearl_rules.specs.Runs.{Offers}
use Rattle.pearl_rules.specs.Slots.{Fits, Suits}
use Rattle.pearl_stack.specs.Frames.{Frame}
use Rattle.pearl_instructions.specs.declared.object.Code.{Code}
use Rattle.pearl_instructions.specs.declared.object.Procedure.{Procedure}
use Rattle.pearl_instructions.specs.declared.object.Task.{Task}
use Rattle.pearl_instructions.specs.declared.object.Parts.{Parts as Object}
use Rattle.pearl_instructions.specs.Lawful.{IsObject}
use Rattle.pearl_instructions.specs.Objects.{routine_at}
use Rattle.pearl_instructions.specs.Rows.{row, lowest}
use Rattle.pearl_instructions.specs.Stacks.{Below, routines_of, lowest_depth, depth_or_none, room}
use Rattle.pearl_instructions.specs.Steps as steps
use Rattle.pearl_instructions.specs.Valid.{keep, judged_at, judged_whole, is_closed, unsound_in, IsValid}
use Rattle.pearl_instructions.specs.Engines.{engine}
use Rattle.pearl_instructions.specs.Owners.{IsStackOf, StandsIn}
use Rattle.pearl_instructions.specs.Setups.{setup_of}
use Rattle.pearl_instructions.proofs.Offered.{offers_is}
use Rattle.pearl_solo.specs.Answered.{CanHear}
use Rattle.pearl_machine.specs.declared.part.Part.{Part}
use Rattle.pearl_machine.specs.Known.{Known}
use Rattle.pearl_machine.specs.Parts.{HasMemory, HasMemories, IsShallow, first_part, is_going, stack_in, start_of}
use Rattle.pearl_machine.proofs.Listed.{get_here, get_elsewhere}

-- MEMORY

-- the depth of a stack is that of the routine of its lowest frame
lowest_is : (o : Object) (f : Frame) (lower : List Frame) → lowest_depth o (routines_of (f ∷ lower)) ≡ depth_or_none (routine_at o (lowest f lower))
lowest_is o f [] = refl
lowest_is o f (g ∷ lower) = lowest_is o g lower

-- which is a task's
lowest_task : (o : Object) (f : Frame) (lower : List Frame) → Below o f.routine lower → length o.procedures ≤ lowest f lower
lowest_task o f [] below = below
lowest_task o f (g ∷ lower) below = lowest_task o g lower below.1

-- a task's stack needs no more memory than its beginning
pub room_own : (o : Object) (t : ℕ) (frames : List Frame) → IsStackOf o t frames → room o frames ≡ room o (start_of o t)
room_own o t [] own = absurd own.stack
room_own o t (f ∷ lower) own =
    let least = lowest_task o f lower own.stack.below in
    let task : lowest f lower - length o.procedures ≡ t = own.task in
    let e : lowest f lower ≡ length o.procedures + t = omega arith in
    lowest_is o f lower ∙ ap (λ r. depth_or_none (routine_at o r)) e

behind : {A B C : Type 0} (f : A → C) (g : B → C) (xs : List A) (ys : List B) (k t : ℕ) → k ≡ length xs + t →
    slice_get (map f xs ++ map g ys) k ≡ slice_get (map g ys) t
behind f g [] ys k t e = ap (slice_get (map g ys)) (omega (arith, e))
behind f g (x ∷ xs) ys zero t e = absurd (omega (arith, e))
behind f g (x ∷ xs) ys (suc k) t e = behind f g xs ys k t (omega (arith, e))

-- a task's routine comes behind those of the procedures
routine_is : (o : Object) (t : ℕ) → routine_at o (length o.procedures + t) ≡ option_map (λ task. task.code) (slice_get o.tasks t)
routine_is o t =
    behind (λ (p : Procedure). p.code) (λ (task : Task). task.code) o.procedures o.tasks (length o.procedures + t) t refl
    ∙ slice_get-map (λ (task : Task). task.code) o.tasks t

depth_is : (o : Object) (t : ℕ) (task : Task) → slice_get o.tasks t ≡ Some task → room o (start_of o t) ≡ task.code.depth
depth_is o t task e = ap depth_or_none (routine_is o t) ∙ ap (λ found. depth_or_none (option_map (λ (task : Task). task.code) found)) e

kept_rule : (b : Bool) (rule : ℕ) (more : Option ℕ) → keep b rule more ≡ None → (b ≡ true) × (more ≡ None)
kept_rule true rule more e = (refl, e)
kept_rule false rule more e = cc

-- the stated depth of a routine of a valid object is at most 4,096
shallow : (o : Object) (r : ℕ) (code : Code) → IsValid o → routine_at o r ≡ Some code → code.depth ≤ 4096
shallow o r code v e =
    let n = length code.instructions in
    let a : judged_at o r code n (slice_get code.instructions n) ≡ None = ap (λ x. unsound_in o r x n) (sym e) ∙ v.sound r n in
    let b : judged_at o r code n None ≡ None = ap (judged_at o r code n) (sym (slice_get_past code.instructions n (omega arith))) ∙ a in
    let same : (n == n) ≡ true = eq-eqb n n refl in
    let d : judged_whole code ≡ None = ap (λ t. if t then judged_whole code else None) (sym same) ∙ b in
    let g = kept_rule (list_all (λ s. nat_lt s.instruction n) code.shapes) 1 _ d in
    let h = kept_rule (is_closed code.instructions) 9 _ g.1 in
    let k = kept_rule (nat_le code.depth 4096) 11 _ h.1 in
    leb-true code.depth 4096 k.0

all_of : {X : Type 0} (P : X → Type 0) (xs : List X) → ((t : ℕ) (x : X) → slice_get xs t ≡ Some x → P x) → AllByRecursion P xs
all_of P [] each = tt
all_of P (x ∷ xs) each = (each 0 x refl, all_of P xs (λ t y e. each (suc t) y e))

pub all_shallow : (o : Object) → IsValid o → AllByRecursion IsShallow o.tasks
all_shallow o valid = all_of IsShallow o.tasks (λ t task e.
    shallow o (length o.procedures + t) task.code valid (routine_is o t ∙ ap (option_map (λ (task : Task). task.code)) e))

-- the first memory
pub first_memories : (o : Object) (parts : List Part) (most : ℕ) → most ≡ length o.procedures + 1 → parts ≡ map (first_part most) o.tasks → HasMemories o parts
first_memories o parts most same is t part e =
    by_task (slice_get o.tasks t) refl
  where
    at : option_map (first_part most) (slice_get o.tasks t) ≡ Some part
    at = sym (slice_get-map (first_part most) o.tasks t) ∙ (ap (λ ps. slice_get ps t) (sym is) ∙ e)

    by_task : (x : Option Task) → slice_get o.tasks t ≡ x → HasMemory o t part
    by_task None none = absurd (none-some part (ap (option_map (first_part most)) (sym none) ∙ at))
    by_task (Some task) some =
        let here : first_part most task ≡ part = same_Some (first_part most task) part (ap (option_map (first_part most)) (sym some) ∙ at) in
        let depth = depth_is o t task some in
        subst (λ p. HasMemory o t p) here (record { room_is = omega arith; most = omega arith })

pub first_still : (tasks : List Task) (parts : List Part) (most : ℕ) → parts ≡ map (first_part most) tasks → (t : ℕ) → is_going (slice_get parts t) ≡ false
first_still tasks parts most is t = ap (λ ps. is_going (slice_get ps t)) is ∙ (ap is_going (slice_get-map (first_part most) tasks t) ∙ by_task (slice_get tasks t))
  where
    by_task : (x : Option Task) → is_going (option_map (first_part most) x) ≡ false
    by_task None = refl
    by_task (Some task) = refl

pub first_empty : (tasks : List Task) (parts : List Part) (most : ℕ) → parts ≡ map (first_part most) tasks → (t : ℕ) → (stack_in (slice_get parts t)).frames ≡ []
first_empty tasks parts most is t =
    ap (λ ps. (stack_in (slice_get ps t)).frames) is ∙ (ap (λ part. (stack_in part).frames) (slice_get-map (first_part most) tasks t) ∙ by_task (slice_get tasks t))
  where
    by_task : (x : Option Task) → (stack_in (option_map (first_part most) x)).frames ≡ []
    by_task None = refl
    by_task (Some task) = refl

-- a part with its stack back in its place
pub memory_back : (o : Object) (parts : List Part) (t : ℕ) (part : Part) → HasMemories o parts → HasMemory o t part → HasMemories o (slice_set parts t part)
memory_back o parts t part all has i p e = by_place (nat_eq t i) refl
  where
    by_place : (b : Bool) → nat_eq t i ≡ b → HasMemory o i p
    by_place false differ = all i p (sym (get_elsewhere parts t i part (eqb-false t i differ)) ∙ e)
    by_place true is = by_length (cases_lt t (length parts))
      where
        here : slice_get (slice_set parts t part) t ≡ Some p
        here = ap (slice_get (slice_set parts t part)) (eqb-true t i is) ∙ e

        by_length : (t < length parts) ⊎ (length parts ≤ t) → HasMemory o i p
        by_length (inl there) =
            subst (λ n. HasMemory o n p) (eqb-true t i is)
            (subst (λ q. HasMemory o t q) (same_Some part p (sym (get_here parts t part there) ∙ here)) has)
        by_length (inr past) = absurd (none-some p (sym (slice_get_past (slice_set parts t part) t (omega (arith, length-set parts t part, past))) ∙ here))

-- WHAT IS OFFERED AND HEARD

-- a task that is there stands with a stack of its own
pub own_of : (o : Object) (t : ℕ) (frames : List Frame) → t < length o.tasks → StandsIn o t frames → IsStackOf o t frames
own_of o t frames there (inl own) = own
own_of o t frames there (inr none) = let past = none.past in let no : ⊥ = omega arith in absurd no

-- an action that is offered fits the tables
pub fits_here : (o : Object) (t : ℕ) (frames : List Frame) (a : Action) → Known → IsValid o → IsObject o → IsStackOf o t frames →
    (engine o).step t frames ≡ Offers a → Fits (setup_of o) a
fits_here o t frames a known valid object own e = known.fits o t frames a valid object (inl own) e

-- an answer that suits it can be heard
pub hears_here : (o : Object) (t : ℕ) (frames : List Frame) (a : Action) (answer : Answer) → Known → IsValid o → IsObject o → IsStackOf o t frames →
    (engine o).step t frames ≡ Offers a → Suits (setup_of o) t a answer → CanHear o t (row o frames) answer
hears_here o t frames a answer known valid object own e suits =
    let offers = offers_is (row o frames) a e in
    subst (λ s. CanHear o t s answer) (sym offers.1)
    (known.suits o t a answer object (known.there o t frames a valid object (inl own) e) suits)

-- THE STACK IN A PART

-- the part that lies at a place
pub part_is : (parts : List Part) (t : ℕ) (part : Part) → t < length parts → part ≡ get_or parts t part → slice_get parts t ≡ Some part
part_is parts t part there e = slice_get-get_or parts t part there ∙ ap Some (sym e)
