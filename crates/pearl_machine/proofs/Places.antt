-- What is kept of each task, by the core, what the tasks have offered, and the row of stacks.
use Rattle.std.proofs.Common.{◌≡◌, ℕ, ◌+◌, ◌<◌, ◌≤◌, List, Bool, true, false, ◌&&◌, Option, Some, None, length, slice_get, slice_set, refl, sym, ap, ap₂, subst, ◌∙◌}
use Rattle.std.proofs.lemmas.Bool.{true≢false}
use Rattle.std.proofs.lemmas.Option.{none-some, slice_get_past}
use Rattle.pearl_rules.specs.declared.action.Action.{Action}
use Rattle.pearl_rules.specs.Core.{Core, is_active, is_active_row}
use Rattle.pearl_rules.specs.Runs.{Running, kept, kept_at, refreshed, fresh, offer_of, unsettled_from}
use Rattle.pearl_stack.specs.Frames.{Frame, Stack}
use Rattle.pearl_instructions.specs.declared.object.Parts.{Parts as Object}
use Rattle.pearl_instructions.specs.Engines.{engine}
use Rattle.pearl_machine.specs.Parts.{shown, start_of, going_frames, running_of}
use Rattle.pearl_machine.specs.Seen.{IsUnsettled}
use Rattle.pearl_machine.specs.declared.part.Part.{Part}
use Rattle.pearl_machine.proofs.Listed.{get_here, get_elsewhere, kept_here, kept_elsewhere}
use Rattle.pearl_machine.proofs.Rows.{table_kept, table_written, table_alike, table_refreshed}
use Rattle.pearl_machine.proofs.Steps.{HasOffered, none_unsettled}

pub active_past : (core : Core) (i : ℕ) → length core.tasks ≤ i → is_active core i ≡ false
active_past core i past = ap is_active_row (slice_get_past core.tasks i past)

pub running_at : (o : Object) (core : Core) (offers : List (Option Action)) (parts : List Part) (i : ℕ) →
    kept_at (running_of o core offers parts) i ≡ shown (is_active core i) (start_of o i) (kept_at offers i) (slice_get parts i)
running_at o core offers parts i =
    table_kept (length core.tasks) (λ t. shown (is_active core t) (start_of o t) (kept_at offers t) (slice_get parts t)) i
    (λ past. ap (λ active. shown active (start_of o i) (kept_at offers i) (slice_get parts i)) (active_past core i past))

-- whether nothing is offered
abbrev pub is_silent : Option Action → Bool
is_silent None = true
is_silent (Some action) = false

-- WHO HAS OFFERED NOTHING

settled_shown : (active : Bool) (start : List Frame) (offer : Option Action) (part : Option Part) → (active && is_silent offer) ≡ false →
    HasOffered (shown active start offer part)
settled_shown false start offer part e = tt
settled_shown true start None part e = absurd (true≢false e)
settled_shown true start (Some action) part e = (action, refl)

unsettled_shown : (active : Bool) (start : List Frame) (offer : Option Action) (part : Option Part) → (active && is_silent offer) ≡ true →
    shown active start offer part ≡ Some (record { stack = going_frames start part; offer = None })
unsettled_shown false start offer part e = absurd (true≢false (sym e))
unsettled_shown true start None part e = refl
unsettled_shown true start (Some action) part e = absurd (true≢false (sym e))

by_offer : (x : Option (Running (List Frame))) → HasOffered x → (r : Running (List Frame)) → x ≡ Some r → (action : Action) × (r.offer ≡ Some action)
by_offer None h r e = absurd (none-some r e)
by_offer (Some running) h r e = subst (λ (y : Option (Running (List Frame))). HasOffered y) e h

pub offered_by : (x : Option (Running (List Frame))) → ((r : Running (List Frame)) → x ≡ Some r → (action : Action) × (r.offer ≡ Some action)) → HasOffered x
offered_by None all = tt
offered_by (Some running) all = all running refl

module _ (o : Object) (core : Core) (offers : List (Option Action)) (parts : List Part) where
  abbrev unsettled_at : ℕ → Bool
  unsettled_at t = is_active core t && is_silent (kept_at offers t)

  -- the first task that has offered nothing
  pub first_here : (t : ℕ) → unsettled_at t ≡ true → ((u : ℕ) → u < t → unsettled_at u ≡ false) →
      IsUnsettled (running_of o core offers parts) t (going_frames (start_of o t) (slice_get parts t))
  first_here t here before = record {
    before = λ u less r e. by_offer (kept_at (running_of o core offers parts) u)
        (subst (λ x. HasOffered x) (sym (running_at o core offers parts u))
        (settled_shown (is_active core u) (start_of o u) (kept_at offers u) (slice_get parts u) (before u less))) r e;
    here = running_at o core offers parts t ∙ unsettled_shown (is_active core t) (start_of o t) (kept_at offers t) (slice_get parts t) here;
  }

  -- there is none
  pub none_here : ((u : ℕ) → unsettled_at u ≡ false) → unsettled_from 0 (running_of o core offers parts) ≡ None
  none_here all =
      none_unsettled 0 (running_of o core offers parts) (λ u. subst (λ x. HasOffered x) (sym (running_at o core offers parts u))
      (settled_shown (is_active core u) (start_of o u) (kept_at offers u) (slice_get parts u) (all u)))

  -- ONE PLACE

  -- a task has offered its action
  pub offers_here : (t : ℕ) (after : Stack) (action : Action) → is_active core t ≡ true → t < length offers → t < length parts →
      running_of o core (slice_set offers t (Some action)) (slice_set parts t (record { stack = after; going = false }))
      ≡ slice_set (running_of o core offers parts) t (Some (record { stack = after.frames; offer = Some action }))
  offers_here t after action active within there =
      table_written (length core.tasks) (λ i. shown (is_active core i) (start_of o i) (kept_at offers i) (slice_get parts i))
      (λ i. shown (is_active core i) (start_of o i) (kept_at (slice_set offers t (Some action)) i)
      (slice_get (slice_set parts t (record { stack = after; going = false })) i))
      t (Some (record { stack = after.frames; offer = Some action }))
      (rw (active, kept_here offers t (Some action) within, get_here parts t (record { stack = after; going = false }) there) refl)
      (λ i other. ap₂ (λ x p. shown (is_active core i) (start_of o i) x p) (kept_elsewhere offers t i (Some action) other)
      (get_elsewhere parts t i (record { stack = after; going = false }) other))

  -- a task has made an instruction
  pub goes_here : (t : ℕ) (after : Stack) → is_active core t ≡ true → kept_at offers t ≡ None → t < length parts →
      running_of o core offers (slice_set parts t (record { stack = after; going = true }))
      ≡ slice_set (running_of o core offers parts) t (Some (record { stack = after.frames; offer = None }))
  goes_here t after active silent there =
      table_written (length core.tasks) (λ i. shown (is_active core i) (start_of o i) (kept_at offers i) (slice_get parts i))
      (λ i. shown (is_active core i) (start_of o i) (kept_at offers i) (slice_get (slice_set parts t (record { stack = after; going = true })) i))
      t (Some (record { stack = after.frames; offer = None }))
      (rw (active, silent, get_here parts t (record { stack = after; going = true }) there) refl)
      (λ i other. ap (λ p. shown (is_active core i) (start_of o i) (kept_at offers i) p)
      (get_elsewhere parts t i (record { stack = after; going = true }) other))

  -- where the tasks stand as before nothing begins afresh
  pub stays_here : (tasks : List _) → tasks ≡ core.tasks → refreshed (fresh (engine o)) 0 tasks (running_of o core offers parts) ≡ running_of o core offers parts
  stays_here tasks same =
      ap (λ rows. refreshed (fresh (engine o)) 0 rows (running_of o core offers parts)) same
      ∙ (table_refreshed (fresh (engine o)) 0 core.tasks (running_of o core offers parts)
      ∙ table_alike (length core.tasks) _ _ (λ i less.
      ap (λ x. kept (is_active core i) (fresh (engine o) (0 + i)) x) (running_at o core offers parts i)
      ∙ as_shown (is_active core i) (start_of o i) (kept_at offers i) (slice_get parts i) (fresh (engine o) (0 + i))))
    where
      as_shown : (active : Bool) (start : List Frame) (offer : Option Action) (part : Option Part) (new : Running (List Frame)) →
          kept active new (shown active start offer part) ≡ shown active start offer part
      as_shown false start offer part new = refl
      as_shown true start offer part new = refl

  -- what each task offers, where a task that isn't active has offered nothing
  pub offers_at : ((t : ℕ) → is_active core t ≡ false → kept_at offers t ≡ None) → (t : ℕ) →
      offer_of (kept_at (running_of o core offers parts) t) ≡ kept_at offers t
  offers_at quiet t = ap offer_of (running_at o core offers parts t) ∙ by_active (is_active core t) refl
    where
      by_kept : (offer : Option Action) → offer_of (shown true (start_of o t) offer (slice_get parts t)) ≡ offer
      by_kept None = refl
      by_kept (Some action) = refl

      by_active : (active : Bool) → is_active core t ≡ active → offer_of (shown active (start_of o t) (kept_at offers t) (slice_get parts t)) ≡ kept_at offers t
      by_active false e = sym (quiet t e)
      by_active true e = by_kept (kept_at offers t)
