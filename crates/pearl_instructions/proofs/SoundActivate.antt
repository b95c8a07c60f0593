-- The row of ACTIVATE leads from a stack of a valid object to such stacks only.
use Rattle.std.proofs.Common.{◌≡◌, ℕ, suc, ◌+◌, ◌≤◌, pos, List, [], ◌∷◌, ◌++◌, Option, Some, None, length, map, reverse, take, drop, refl, sym, ap, ◌∙◌, subst, arith, Bool, true, false, ltb-true}
use Rattle.std.specs.Prelude.{◌&&◌, nat_lt, int_le, IfSome, if◌then◌else◌, unsigned_abs}
use Rattle.std.specs.List.{AllZip}
use Rattle.std.proofs.lemmas.List.{append_assoc, map-append, reverse-append, length-append, append-nil}
use Rattle.pearl_value.specs.declared.kind.Kind.{Kind}
use Rattle.pearl_value.specs.declared.kind.CellKind.TheVariants.{Plain}
use Rattle.pearl_value.specs.declared.cell.Cell.{Cell}
use Rattle.pearl_value.specs.declared.cell.Cell.TheVariants as cell
use Rattle.pearl_value.specs.declared.trap.Trap.TheVariants.{Range}
use Rattle.pearl_value.specs.WellFormed.{IsValue}
use Rattle.pearl_rules.specs.declared.action.Action.TheVariants as action
use Rattle.pearl_rules.specs.declared.action.Repeat.{Repeat}
use Rattle.pearl_rules.specs.declared.action.Repeat.TheVariants as repeat
use Rattle.pearl_stack.specs.Frames.{Frame}
use Rattle.pearl_instructions.specs.declared.schedule.RepeatForm.{RepeatForm}
use Rattle.pearl_instructions.specs.declared.schedule.RepeatForm.TheVariants as again
use Rattle.pearl_instructions.specs.declared.instr.Activation.{Activation}
use Rattle.pearl_instructions.specs.declared.instr.Instr.TheVariants.{Activate}
use Rattle.pearl_instructions.specs.declared.object.Code.{Code}
use Rattle.pearl_instructions.specs.declared.object.Parts.{Parts as Object}
use Rattle.pearl_instructions.specs.Steps.{Step, acts}
use Rattle.pearl_instructions.specs.Offers.{start_kinds, repeat_kinds, activation_count, started, repeated, with_priority}
use Rattle.pearl_instructions.specs.Rows.{act}
use Rattle.pearl_instructions.specs.Opcodes.{scheduled, priority_asked}
use Rattle.pearl_instructions.specs.Operands.{Shape, is_fixed, v2}
use Rattle.pearl_instructions.specs.Named.{names_interrupt}
use Rattle.pearl_instructions.specs.Stacks.{routines_of, Suits}
use Rattle.pearl_rules.specs.Slots.{IsRepeat}
use Rattle.pearl_instructions.specs.Actions.{IsPriority}
use Rattle.pearl_instructions.proofs.Tests.{and_true}
use Rattle.pearl_instructions.proofs.Lists.{scheduled_ends, scheduled_long}
use Rattle.pearl_instructions.proofs.OfferedActions.{urgent_there}
use Rattle.pearl_instructions.proofs.Kept.{IsSound, Here, goes, taken_goes, traps_goes}
use Rattle.pearl_instructions.proofs.SoundCells.{if_goes}
use Rattle.pearl_instructions.proofs.SoundOperators.{fixed_is, fixed_kind}
use Rattle.pearl_instructions.proofs.SoundActions.{clock_is, span_is, lasting_goes, started_goes}

-- the values of a repetition lie there, and more may lie above them
repeated_goes : (o : Object) (rs : List ℕ) (how : RepeatForm) (more : Shape) (values : List Cell) (f : Frame) (lower : List Frame) (go : Repeat → List Cell → Step) →
    AllZip (Suits o rs) (map Plain (repeat_kinds how) ++ more) values → ((repeat : Repeat) (rest : List Cell) → IsRepeat repeat → AllZip (Suits o rs) more rest → IsSound o (go repeat rest)) →
    IsSound o (repeated how values f lower go)
repeated_goes o rs again.Once more values f lower go z h = h repeat.Once values tt z
repeated_goes o rs again.All more [] f lower go z h = absurd z
repeated_goes o rs again.All more (x ∷ values) f lower go z h =
    let p = span_is x z.0 in
    subst (λ x. IsSound o (repeated again.All (x ∷ values) f lower go)) (sym p.1)
    (lasting_goes o (pos 1) p.0 f lower (go (repeat.All p.0) values) (λ least. h (repeat.All p.0) values (least, subst (λ x. IsValue x) p.1 z.0.is_value) z.1))
repeated_goes o rs again.Until more [] f lower go z h = absurd z
repeated_goes o rs again.Until more (x ∷ []) f lower go z h = absurd z.1
repeated_goes o rs again.Until more (x ∷ y ∷ values) f lower go z h =
    let p = span_is x z.0 in
    let t = clock_is y z.1.0 in
    subst (λ x. IsSound o (repeated again.Until (x ∷ y ∷ values) f lower go)) (sym p.1)
    (subst (λ y. IsSound o (repeated again.Until (cell.Span p.0 ∷ y ∷ values) f lower go)) (sym t.1)
    (lasting_goes o (pos 1) p.0 f lower (go (repeat.Until p.0 t.0) values) (λ least.
    h (repeat.Until p.0 t.0) values ((least, subst (λ x. IsValue x) p.1 z.0.is_value), subst (λ x. IsValue x) t.1 z.1.0.is_value) z.1.1)))
repeated_goes o rs again.During more [] f lower go z h = absurd z
repeated_goes o rs again.During more (x ∷ []) f lower go z h = absurd z.1
repeated_goes o rs again.During more (x ∷ y ∷ values) f lower go z h =
    let p = span_is x z.0 in
    let t = span_is y z.1.0 in
    subst (λ x. IsSound o (repeated again.During (x ∷ y ∷ values) f lower go)) (sym p.1)
    (subst (λ y. IsSound o (repeated again.During (cell.Span p.0 ∷ y ∷ values) f lower go)) (sym t.1)
    (lasting_goes o (pos 1) p.0 f lower _ (λ least. lasting_goes o (pos 0) t.0 f lower (go (repeat.During p.0 t.0) values) (λ low.
    h (repeat.During p.0 t.0) values ((least, subst (λ x. IsValue x) p.1 z.0.is_value), (low, subst (λ x. IsValue x) t.1 z.1.0.is_value)) z.1.1))))

-- the operand that a priority takes, where one is given
abbrev HasPriority : Bool → Shape → Type 0
HasPriority false [] = Unit {0}
HasPriority true (k ∷ []) = is_fixed k ≡ true
HasPriority b s = ⊥

priority_goes : (o : Object) (rs : List ℕ) (b : Bool) (tail : Shape) (values : List Cell) (f : Frame) (lower : List Frame) (go : Option ℕ → Step) → HasPriority b tail →
    AllZip (Suits o rs) tail values → ((p : Option ℕ) → IfSome p IsPriority → IsSound o (go p)) → IsSound o (with_priority b values f lower go)
priority_goes o rs false tail values f lower go p z h = h None tt
priority_goes o rs true [] values f lower go p z h = absurd p
priority_goes o rs true (k ∷ l ∷ tail) values f lower go p z h = absurd p
priority_goes o rs true (k ∷ []) [] f lower go p z h = absurd z
priority_goes o rs true (k ∷ []) (x ∷ values) f lower go p z h =
    let fixed = fixed_kind k p in
    let n = fixed_is fixed.0 x (subst (λ k. Suits o rs k x) fixed.1 z.0) in
    subst (λ x. IsSound o (with_priority true (x ∷ values) f lower go)) (sym n.1)
    (if_goes o (int_le (pos 1) n.0 && int_le n.0 (pos 255)) _ _ (λ e. h (Some (unsigned_abs n.0)) (urgent_there n.0 e)) (λ e. traps_goes o Range f lower))

-- what ACTIVATE finds on the stack: n values, the last of them the priority where one is given
record Planned (kinds : List Kind) (b : Bool) (n : ℕ) (s : Shape) : Type 0 where
  pub few : n ≤ length s
  pub tail : Shape
  pub ends : reverse (take n s) ≡ map Plain kinds ++ tail
  pub priority : HasPriority b tail
  pub long : length (priority_asked b ++ scheduled kinds) ≡ n

planned : (kinds : List Kind) (b : Bool) (n : ℕ) (s : Shape) → n ≡ length kinds + (if b then 1 else 0) → v2 (priority_asked b ++ scheduled kinds) s ≡ true → Planned kinds b n s
planned kinds false n s e h =
    let same : n ≡ length kinds = omega (arith, e) in
    let ends = scheduled_ends kinds s h in
    record {
      few = subst (λ n. n ≤ length s) (sym same) ends.0;
      tail = [];
      ends = ap (λ n. reverse (take n s)) same ∙ (ends.1 ∙ sym (append-nil (map Plain kinds)));
      priority = tt;
      long = scheduled_long kinds ∙ sym same;
    }
planned kinds true n [] e h = cc
planned kinds true n (k ∷ s) e h =
    let same : n ≡ suc (length kinds) = omega (arith, e) in
    let both = and_true (is_fixed k) (v2 (scheduled kinds) s) h in
    let ends = scheduled_ends kinds s both.1 in
    let few = ends.0 in
    record {
      few = omega (arith, few, same);
      tail = k ∷ [];
      ends = ap (λ n. reverse (take n (k ∷ s))) same ∙ (reverse-append (k ∷ []) (take (length kinds) s) ∙ ap (λ t. t ++ k ∷ []) ends.1);
      priority = both.0;
      long = ap suc (scheduled_long kinds) ∙ sym same;
    }

pub activate_sound : (o : Object) (f : Frame) (lower : List Frame) (code : Code) (s : Shape) (a : Activation) → Here o f lower code (Activate a) s →
    IsSound o (act o (Activate a) f lower)
activate_sound o f lower code s a h =
    let rs = f.routine ∷ routines_of lower in
    let first = start_kinds a.start in
    let later = repeat_kinds a.repeat in
    let b = a.priority in
    let n = activation_count a in
    let named = and_true (nat_lt a.task (length o.tasks)) (names_interrupt o a.start) h.keeps.named in
    let long : n ≡ length (first ++ later) + (if b then 1 else 0) = ap (λ m. m + (if b then 1 else 0)) (sym (length-append first later)) in
    let p = planned (first ++ later) b n s long h.keeps.ends in
    let ends : reverse (take n s) ≡ map Plain first ++ (map Plain later ++ p.tail) =
    p.ends ∙ (ap (λ t. t ++ p.tail) (map-append Plain first later) ∙ append_assoc (map Plain first) (map Plain later) p.tail) in
    taken_goes o (Suits o rs) n s f.operands (λ values left.
    started a.start values f lower (λ when more.
    repeated a.repeat more f lower (λ how rest.
    with_priority a.priority rest f lower (λ priority.
    acts (action.Activate a.task when how priority) f lower left)))) p.few h.stands.operands (λ values left there under.
    started_goes o rs a.start (map Plain later ++ p.tail) values f lower (λ when more.
    repeated a.repeat more f lower (λ how rest.
    with_priority a.priority rest f lower (λ priority.
    acts (action.Activate a.task when how priority) f lower left))) named.1 (subst (λ ks. AllZip (Suits o rs) ks values) ends there) (λ when more starts same z.
    repeated_goes o rs a.repeat p.tail more f lower (λ how rest.
    with_priority a.priority rest f lower (λ priority.
    acts (action.Activate a.task when how priority) f lower left)) z (λ how rest repeats w.
    priority_goes o rs b p.tail rest f lower (λ priority. acts (action.Activate a.task when how priority) f lower left) p.priority w (λ priority urgent. (
      (ltb-true a.task (length o.tasks) named.0, starts, repeats, urgent),
      λ answer own e. goes o f lower code (Activate a) s h f.cells left (drop n s) refl (ap (λ n. drop n s) (sym p.long)) h.stands.cells under,
    )))))
