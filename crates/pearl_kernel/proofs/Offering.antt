-- A task offers its next action.
use Rattle.std.proofs.Common.{◌≡◌, ◌≢◌, ℕ, ◌<◌, Bool, true, false, ◌&&◌, Option, Some, None, length, slice_get}
use Rattle.std.proofs.Common.{slice_set, refl, sym, ap, subst, ◌∙◌, length-set}
use Rattle.std.proofs.lemmas.Bool.{true≢false}
use Rattle.std.proofs.lemmas.Option.{slice_get_within}
use Rattle.pearl_rules.specs.declared.action.Action.{Action}
use Rattle.pearl_rules.specs.declared.row.TaskRow.{TaskRow}
use Rattle.pearl_rules.specs.declared.setup.Setup.{Setup}
use Rattle.pearl_rules.specs.Core.{row_of, is_active, is_active_row}
use Rattle.pearl_rules.specs.Slots.{Fits}
use Rattle.pearl_kernel.specs.Kept.{Kept, offered, is_silent, is_unsettled, IsLawful}
use Rattle.pearl_kernel.specs.Whole.{IsWhole}
use Rattle.pearl_kernel.specs.Eligible.{possible, entry, Stand, noted}
use Rattle.pearl_kernel.proofs.Places.{by_task, kept-other, kept-set, get-same, get-other}
use Rattle.pearl_kernel.proofs.Entries.{unchanged, possible-same, entry-same}
use Rattle.pearl_kernel.proofs.Renewing.{noted-size, noted-set-size}

abbrev offering : Kept → ℕ → Action → Kept
offering k task a = record k { offers = slice_set k.offers task (Some a) }

-- an offer is the new one, or stood before
offer-is : (k : Kept) (task : ℕ) (a : Action) (P : Action → Type 0) → P a →
    ((t : ℕ) (b : Action) → offered k t ≡ Some b → P b) →
    (t : ℕ) (b : Action) → offered (offering k task a) t ≡ Some b → P b
offer-is k task a P new old t b e =
    by_task t task (P b)
    (λ same. subst P (kept-set k.offers task a b (subst (λ u. offered (offering k task a) u ≡ Some b) same e)) new)
    (λ other. old t b (sym (kept-other k.offers task t (Some a) other) ∙ e))

-- a task that is unsettled is active, and so it is there
first_true : (x y : Bool) → (x && y) ≡ true → x ≡ true
first_true true y e = refl
first_true false y e = absurd (true≢false (sym e))

active : (k : Kept) (task : ℕ) → is_unsettled k task ≡ true → is_active k.core task ≡ true
active k task e = first_true (is_active k.core task) (is_silent (offered k task)) e

pub unsettled-there : (k : Kept) (task : ℕ) → is_unsettled k task ≡ true → task < length k.core.tasks
unsettled-there k task e = by_row (row_of k.core task) refl (active k task e)
  where
    by_row : (row : Option TaskRow) → row_of k.core task ≡ row → is_active_row row ≡ true → task < length k.core.tasks
    by_row None same is = absurd (true≢false (sym is))
    by_row (Some row) same is = slice_get_within k.core.tasks task row same

pub lawful-offering : (setup : Setup) (k : Kept) (task : ℕ) (a : Action) → is_unsettled k task ≡ true → Fits setup a →
    IsLawful setup k → IsLawful setup (offering k task a)
lawful-offering setup k task a unsettled fits lawful = record {
  tasks = lawful.tasks;
  counts = lawful.counts;
  counted = lawful.counted;
  kinds = lawful.kinds;
  urgent = lawful.urgent;
  plans = lawful.plans;
  moment = lawful.moment;
  timed = lawful.timed;
  declared = lawful.declared;
  last = lawful.last;
  same = length-set k.offers task (Some a) ∙ lawful.same;
  quiet = λ t e. by_task t task (offered (offering k task a) t ≡ None)
      (λ same. absurd (true≢false (sym (subst (λ u. is_active k.core u ≡ true) (sym same) (active k task unsettled))
      ∙ e)))
      (λ other. kept-other k.offers task t (Some a) other ∙ lawful.quiet t e);
  fits = λ t b e. offer-is k task a (Fits setup) fits lawful.fits t b e;
  told = lawful.told;
}

pub kept-offering : (setup : Setup) (k : Kept) (s : Stand) (task : ℕ) (a : Action) → task < length k.core.tasks →
    IsLawful setup (offering k task a) → IsWhole k s →
    IsWhole (offering k task a) (noted (offering k task a) task (possible (offering k task a) task) s)
kept-offering setup k s task a there lawful kept = record {
  few = kept.few;
  lawful = (setup, lawful);
  stand = record {
    size = noted-size new s task able ∙ kept.stand.size;
    able = λ t within. by_task t task (slice_get (noted new task able s).able t ≡ Some (possible new t))
        (λ same. subst (λ u. slice_get (noted new task able s).able u ≡ Some (possible new u)) (sym same)
        (get-same s.able task able (subst (λ n. task < n) (sym kept.stand.size) there)))
        (λ other. get-other s.able task t able other ∙ kept.stand.able t within
        ∙ ap (λ b. Some b) (sym (possible-same k new t (stays t other) (unchanged k.core))));
    ready = record {
      size = noted-set-size new s task able ∙ kept.stand.ready.size;
      each = λ t within. by_task t task (slice_get (noted new task able s).set t ≡ Some (entry new t))
          (λ same. subst (λ u. slice_get (noted new task able s).set u ≡ Some (entry new u)) (sym same)
          (get-same s.set task (entry new task) (subst (λ n. task < n) (sym kept.stand.ready.size) there)))
          (λ other. get-other s.set task t (entry new task) other ∙ kept.stand.ready.each t within
          ∙ ap (λ e. Some e) (sym (entry-same k new t refl (possible-same k new t (stays t other) (unchanged k.core)))));
    };
  };
}
  where
    new : Kept
    new = offering k task a

    able : Bool
    able = possible new task

    stays : (t : ℕ) → t ≢ task → offered new t ≡ offered k t
    stays t other = kept-other k.offers task t (Some a) other
