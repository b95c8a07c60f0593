-- Each stack is a task's, and stays it.
use Rattle.std.proofs.Common.{◌≡◌, ℕ, ◌+◌, List, [], ◌∷◌, Some, length, sym, ap, ◌∙◌, subst, arith}
use Rattle.std.proofs.lemmas.Option.{same_Some}
use Rattle.pearl_rules.specs.declared.action.Action.{Action}
use Rattle.pearl_rules.specs.declared.action.Action.TheVariants as action
use Rattle.pearl_rules.specs.declared.action.Answer.{Answer}
use Rattle.pearl_stack.specs.Frames.{Frame}
use Rattle.pearl_instructions.specs.declared.instr.Instr.{Instr}
use Rattle.pearl_instructions.specs.declared.instr.Instr.TheVariants.{Call, Return, SuspendOwn, TerminateOwn, PreventOwn}
use Rattle.pearl_instructions.specs.declared.object.Parts.{Parts as Object}
use Rattle.pearl_instructions.specs.Steps.{Step, Silent, Offers, Missing, given, next}
use Rattle.pearl_instructions.specs.Rows.{lowest, own_task, act, instr_at, row}
use Rattle.pearl_instructions.specs.Stacks.{IsStack, task_of}
use Rattle.pearl_instructions.specs.Actions.{IsTaskNumber}
use Rattle.pearl_instructions.specs.Owned.{IsOfTask, own_action, standing, Proceeds, Enters, GoesBack, Moves, Afterwards}
use Rattle.pearl_instructions.proofs.OfferedActions.{lowest_there, own_there}
use Rattle.pearl_instructions.proofs.Moved.{same_standing, act_leads}

of_lowest : (o : Object) (task : ℕ) (f : Frame) (lower : List Frame) → lowest f lower ≡ length o.procedures + task → IsOfTask o task (f ∷ lower)
of_lowest o task f [] e = e
of_lowest o task f (g ∷ lower) e = of_lowest o task g lower e

lowest_of : (o : Object) (task : ℕ) (f : Frame) (lower : List Frame) → IsOfTask o task (f ∷ lower) → lowest f lower ≡ length o.procedures + task
lowest_of o task f [] e = e
lowest_of o task f (g ∷ lower) e = lowest_of o task g lower e

pub has_task : (o : Object) (frames : List Frame) → IsStack o frames → IsTaskNumber o (task_of o frames) × IsOfTask o (task_of o frames) frames
has_task o [] never = absurd never
has_task o (f ∷ lower) t =
    let there = lowest_there o f lower t.code t.routine t.below in
    let least = there.0 in
    let same : lowest f lower ≡ length o.procedures + own_task o f lower = omega (arith, least) in
    (own_there o f lower t.code t.routine t.below, of_lowest o (own_task o f lower) f lower same)

-- the number that is reckoned from the lowest frame is the task's
own_is : (o : Object) (task : ℕ) (f : Frame) (lower : List Frame) → IsOfTask o task (f ∷ lower) → own_task o f lower ≡ task
own_is o task f lower of = let e = lowest_of o task f lower of in omega (arith, e)

row_is : (o : Object) (f : Frame) (lower : List Frame) (instr : Instr) → instr_at o f ≡ Some instr → row o (f ∷ lower) ≡ act o instr f lower
row_is o f lower instr e = ap (λ i. given i (λ instr. act o instr f lower)) e

pub names_own : (o : Object) (task : ℕ) (f : Frame) (lower : List Frame) (instr : Instr) (action : Action) →
    IsOfTask o task (f ∷ lower) → instr_at o f ≡ Some instr → own_action instr task ≡ Some action →
    (go : Answer → List Frame) × (row o (f ∷ lower) ≡ Offers action go)
names_own o task f lower SuspendOwn a of e is =
    let named : action.Suspend (own_task o f lower) ≡ a = ap action.Suspend (own_is o task f lower of) ∙ same_Some (action.Suspend task) a is in
    (λ answer. next f f.operands ∷ lower, row_is o f lower SuspendOwn e ∙ ap (λ a. Offers a (λ answer. next f f.operands ∷ lower)) named)
names_own o task f lower TerminateOwn a of e is =
    let named : action.Terminate (own_task o f lower) ≡ a = ap action.Terminate (own_is o task f lower of) ∙ same_Some (action.Terminate task) a is in
    (λ answer. f ∷ lower, row_is o f lower TerminateOwn e ∙ ap (λ a. Offers a (λ answer. f ∷ lower)) named)
names_own o task f lower PreventOwn a of e is =
    let named : action.Prevent (own_task o f lower) ≡ a = ap action.Prevent (own_is o task f lower of) ∙ same_Some (action.Prevent task) a is in
    (λ answer. next f f.operands ∷ lower, row_is o f lower PreventOwn e ∙ ap (λ a. Offers a (λ answer. next f f.operands ∷ lower)) named)
names_own o task f lower instr a of e is = cc

-- frames that stand like those of a task are that task's
stay_like : (o : Object) (task : ℕ) (xs ys : List Frame) → standing ys ≡ standing xs → IsOfTask o task xs → IsOfTask o task ys
stay_like o task [] ys e of = absurd of
stay_like o task (x ∷ xs) [] e of = cc
stay_like o task (x ∷ []) (y ∷ []) e of = (same_standing y x [] [] e).0 ∙ of
stay_like o task (x ∷ []) (y ∷ z ∷ ys) e of = cc
stay_like o task (x ∷ w ∷ xs) (y ∷ []) e of = cc
stay_like o task (x ∷ w ∷ xs) (y ∷ z ∷ ys) e of = stay_like o task (w ∷ xs) (z ∷ ys) (same_standing y x (z ∷ ys) (w ∷ xs) e).2 of

top_like : (o : Object) (task : ℕ) (f g : Frame) (lower left : List Frame) → g.routine ≡ f.routine → standing left ≡ standing lower →
    IsOfTask o task (f ∷ lower) → IsOfTask o task (g ∷ left)
top_like o task f g [] [] same e of = same ∙ of
top_like o task f g [] (h ∷ left) same e of = cc
top_like o task f g (k ∷ lower) [] same e of = cc
top_like o task f g (k ∷ lower) (h ∷ left) same e of = stay_like o task (k ∷ lower) (h ∷ left) e of

on_top : (o : Object) (task : ℕ) (g : Frame) (frames left : List Frame) → standing left ≡ standing frames → IsOfTask o task frames → IsOfTask o task (g ∷ left)
on_top o task g [] left e of = absurd of
on_top o task g (f ∷ lower) [] e of = cc
on_top o task g (f ∷ lower) (h ∷ left) e of = stay_like o task (f ∷ lower) (h ∷ left) e of

proceeds_stays : (o : Object) (task : ℕ) (instr : Instr) (f : Frame) (lower frames : List Frame) → IsOfTask o task (f ∷ lower) → Proceeds instr f lower frames → IsOfTask o task frames
proceeds_stays o task instr f lower [] of m = absurd m
proceeds_stays o task instr f lower (g ∷ left) of m = top_like o task f g lower left m.0 m.2 of

enters_stays : (o : Object) (task p : ℕ) (before frames : List Frame) → IsOfTask o task before → Enters p before frames → IsOfTask o task frames
enters_stays o task p before [] of m = absurd m
enters_stays o task p before (g ∷ left) of m = on_top o task g before left m.2 of

back_stays : (o : Object) (task : ℕ) (f : Frame) (lower frames : List Frame) → IsOfTask o task (f ∷ lower) → GoesBack lower frames → IsOfTask o task frames
back_stays o task f [] frames of m = absurd m
back_stays o task f (g ∷ lower) [] of m = absurd m
back_stays o task f (g ∷ lower) (h ∷ left) of m = top_like o task g h lower left m.0 m.2 of

moved_stays : (o : Object) (task : ℕ) (instr : Instr) (f : Frame) (lower frames : List Frame) → IsOfTask o task (f ∷ lower) → Moves instr f lower frames → IsOfTask o task frames
moved_stays o task (Call p) f lower frames of m = enters_stays o task p (f ∷ lower) frames of m
moved_stays o task Return f lower frames of m = back_stays o task f lower frames of m
moved_stays o task instr f lower frames of m = proceeds_stays o task instr f lower frames of m

both_after : (o : Object) (own : ℕ) (P Q : List Frame → Type 0) (step : Step) → ((frames : List Frame) → P frames → Q frames) →
    Afterwards o own P step → Afterwards o own (λ frames. P frames × Q frames) step
both_after o own P Q (Silent frames) h p = (p, h frames p)
both_after o own P Q (Offers a go) h p = λ answer suits. (p answer suits, h (go answer) (p answer suits))
both_after o own P Q Missing h p = tt

pub keeps_task : (o : Object) (task : ℕ) (f : Frame) (lower : List Frame) (instr : Instr) → IsOfTask o task (f ∷ lower) → instr_at o f ≡ Some instr →
    Afterwards o task (λ next. Moves instr f lower next × IsOfTask o task next) (row o (f ∷ lower))
keeps_task o task f lower instr of e =
    subst (Afterwards o task (λ next. Moves instr f lower next × IsOfTask o task next)) (sym (row_is o f lower instr e))
    (both_after o task (Moves instr f lower) (IsOfTask o task) (act o instr f lower) (λ frames m. moved_stays o task instr f lower frames of m)
    (act_leads o task f lower instr (own_is o task f lower of)).leads)
