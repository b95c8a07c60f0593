-- What a millisecond leaves as it is, and the instructions behind a mark.
use Rattle.std.proofs.Common.{◌≡◌, ◌≢◌, ℕ, zero, suc, ◌<◌, if◌then◌else◌, List, [], ◌∷◌, ◌++◌, Option, Some, None, IfSome, refl, ap, ap₂, sym, ◌∙◌, arith}
use Rattle.pearl_rules.specs.declared.row.Plan.{Plan}
use Rattle.pearl_rules.specs.Core.{Core, value_at}
use Rattle.pearl_rules.specs.Plans.{millisecond}
use Rattle.pearl_rules.specs.Runs.{Coming, Engine, Machine, Passes, machine_next, machine_mark_by, machine_step, machine_step_by, machine_after, unsettled}
use Rattle.pearl_rules.proofs.Offered.{any_kept, Closed, Starts, millisecond-kept}
use Rattle.pearl_watch.specs.declared.watched.Watched.{Watched}
use Rattle.pearl_watch.specs.Changes.{is_same, slot_line, change_lines}
use Rattle.pearl_watch.proofs.SameValues.{same_refl}
use Rattle.pearl_watch.proofs.StepLines.{same_core, instruction}

-- A MILLISECOND

abbrev AnyPriority : ℕ → Type 0
AnyPriority priority = Unit {0}

abbrev AnyPlan : Plan → Type 0
AnyPlan plan = Unit {0}

if_any : {X : Type 0} (P : X → Type 0) → ((x : X) → P x) → (o : Option X) → IfSome o P
if_any P all None = tt
if_any P all (Some x) = all x

-- a core whose slots hold the same
abbrev HoldsAs : Core → Core → Type 0
HoldsAs first core = core.slots ≡ first.slots

holds_closed : (first : Core) → Closed AnyPriority AnyPlan (HoldsAs first)
holds_closed first = record {
  told = λ core e same. same;
  stands = λ core t row mode kept here stays keeps same. same;
  goes_on = λ core t row plan here lawful same. same;
  starts = λ core t row plan here lawful same. same;
  going = λ core t row here same. if_any AnyPlan (λ plan. tt) row.continuation;
  starting = λ core t row here same. if_any (Starts AnyPriority AnyPlan) (λ plan. (tt, tt)) row.activation;
  keeping = λ core t row here same. any_kept row.kept;
  begins = λ core plan lawful. tt;
}

millisecond_slots : (core : Core) → (millisecond core).slots ≡ core.slots
millisecond_slots core = millisecond-kept AnyPriority AnyPlan (HoldsAs core) (holds_closed core) core refl

module _ {S : Type 0} (engine : Engine S) where
  -- instructions behind a step leave the core as it is
  same_behind : (m : Machine S) (n : ℕ) → ((i : ℕ) → i < n → unsettled (machine_after engine m (suc i)) ≢ None) →
      (machine_after engine m (suc n)).core ≡ (machine_step engine m).core
  same_behind m zero each = refl
  same_behind m (suc n) each =
      same_core engine (machine_after engine m (suc n))
      (instruction engine (machine_after engine m (suc n)) (unsettled (machine_after engine m (suc n))) (each n (omega arith)))
      ∙ same_behind m n (λ i less. each i (omega (arith, less)))

  -- the step that lets a millisecond pass
  passing : (m : Machine S) (coming : Coming) → unsettled m ≡ None → machine_next m ≡ Some coming → coming.mark ≡ Passes →
      (machine_step engine m).core ≡ millisecond m.core
  unfolding machine_step
  passing m coming settled next passes =
      ap (λ (n : Machine S). n.core) (ap (machine_step_by engine m) settled ∙ ap (machine_mark_by engine m) next)
      ∙ ap (λ mark. (machine_mark_by engine m (Some (record { mark = mark; rest = coming.rest }))).core) passes

  -- neither it nor the instructions behind it change a slot
  pub passed_slots : (m : Machine S) (n : ℕ) (coming : Coming) → unsettled m ≡ None → machine_next m ≡ Some coming → coming.mark ≡ Passes →
      ((i : ℕ) → i < n → unsettled (machine_after engine m (suc i)) ≢ None) → (machine_after engine m (suc n)).core.slots ≡ m.core.slots
  passed_slots m n coming settled next passes each =
      ap (λ (core : Core). core.slots) (same_behind m n each ∙ passing m coming settled next passes) ∙ millisecond_slots m.core

-- NO SLOT CHANGES

-- slots that hold what they held have no lines
pub same_slots : (names : List (List ℕ)) (watched : List Watched) (marks : ℕ) (before core : Core) → core.slots ≡ before.slots →
    change_lines names watched marks (Some before) core ≡ []
same_slots names [] marks before core same = refl
same_slots names (s ∷ watched) marks before core same =
    ap₂ (λ a b. a ++ b)
    (ap (λ slots. if is_same (value_at slots s.slot) (value_at core.slots s.slot) then [] else slot_line names marks core s) (sym same) ∙
    ap (λ b. if b then [] else slot_line names marks core s) (same_refl (value_at core.slots s.slot)))
    (same_slots names watched marks before core same)
