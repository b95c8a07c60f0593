-- What a mark of a machine is, from what its kernel did.
use Rattle.std.proofs.Common.{◌≡◌, ℕ, ◌<◌, ◌≤◌, List, [], ◌++◌, Bool, true, false, Option, Some, None, length, slice_get, slice_set, refl, sym, ap, ap₂, subst, ◌∙◌, append-nil}
use Rattle.std.proofs.Math.Path.{fun_ext}
use Rattle.std.proofs.lemmas.Option.{none-some}
use Rattle.pearl_rules.specs.declared.action.Action.{Action}
use Rattle.pearl_rules.specs.Core.{Core, Report, is_active, told_before}
use Rattle.pearl_rules.specs.Pick.{pick, turned, states}
use Rattle.pearl_rules.specs.Effect.{Reply, Effect, effect}
use Rattle.pearl_rules.specs.Runs.{Running, Machine, Acts, Turns, Tells, kept_at, dropped, offer_of, machine_offers, machine_acts, machine_does, machine_settled, answered}
use Rattle.pearl_rules.proofs.Offered.{effect-length, pick-offers, states-offers, turned-is, effect-told_before}
use Rattle.pearl_rules.proofs.Offered.{turned-told_before}
use Rattle.pearl_stack.specs.Frames.{Frame}
use Rattle.pearl_instructions.specs.declared.object.Parts.{Parts as Object}
use Rattle.pearl_instructions.specs.Engines.{engine}
use Rattle.pearl_kernel.specs.Kept as kernel
use Rattle.pearl_kernel.specs.Kept.{Kept, IsLawful, AllSettled, offered, is_silent, is_unsettled}
use Rattle.pearl_machine.specs.Parts.{shown, start_of, stack_in, is_going, running_of}
use Rattle.pearl_machine.specs.Ready.{untold, seen_of}
use Rattle.pearl_machine.specs.Seen.{Seen, at, retold, Makes, ActsFirst}
use Rattle.pearl_machine.specs.declared.part.Part.{Part}
use Rattle.pearl_machine.proofs.Places.{running_at, stays_here, offers_at}
use Rattle.pearl_machine.proofs.Marking.{rows_after, parts_after}
use Rattle.pearl_machine.proofs.ReadyLaws.{told_past}

-- what is told doesn't tell who acts next, nor how the tasks stand
module _ (o : Object) (k : Kept) (parts : List Part) (quiet : (t : ℕ) → is_active k.core t ≡ false → offered k t ≡ None) where
  abbrev running : List (Option (Running (List Frame)))
  running = running_of o k.core k.offers parts

  pub picked_here : (told : List (ℕ × Report)) → pick (record k.core { told = told }) (λ t. offer_of (kept_at running t)) ≡ pick k.core (offered k)
  picked_here told =
      pick-offers (record k.core { told = told }) k.core (λ t. offer_of (kept_at running t)) (offered k) refl refl refl refl refl
      (offers_at o k.core k.offers parts quiet)

  pub states_here : (told : List (ℕ × Report)) → states (record k.core { told = told }) (λ t. offer_of (kept_at running t)) ≡ states k.core (offered k)
  states_here told =
      states-offers (record k.core { told = told }) k.core (λ t. offer_of (kept_at running t)) (offered k) refl refl refl refl refl refl
      (offers_at o k.core k.offers parts quiet)

  -- THE TASKS' STATES

  pub tells_here : (due : ℕ) → k.core.told ≡ [] → Makes (seen_of o k parts due) Tells (seen_of o k parts 0)
  tells_here due taken before entries rest =
      ap₂ (λ told xs. let m : Machine (List Frame) = record { core = record k.core { told = before ++ told }; running = xs; entries = rest } in m)
      (states_here before ∙ sym (ap (λ told. told ++ states k.core (offered k)) taken))
      (stays_here o k.core k.offers parts k.core.tasks refl)

  pub shows_here : (due : ℕ) → k.core.told ≡ [] →
      seen_of o k parts 0 ≡ retold (seen_of o k parts due) (states (seen_of o k parts due).state.core (machine_offers (seen_of o k parts due).state))
  shows_here due taken =
      ap (λ told. let s : Seen = record { object = o; state = record { core = record k.core { told = told }; running = running; entries = [] } } in s)
      (ap (λ told. told ++ states k.core (offered k)) taken ∙ sym (states_here (untold k due)))

  -- A TURN

  pub turns_here : (k2 : Kept) (due t : ℕ) → k.core.told ≡ [] → length k.core.tasks ≤ due → k2 ≡ record k { core = turned k.core (offered k) t } →
      Makes (seen_of o k parts due) (Turns t) (seen_of o k2 parts due)
  turns_here k2 due t taken past same =
      subst (λ n. Makes (seen_of o k parts due) (Turns t) (seen_of o n parts due)) (sym same)
      (subst (λ c. Makes (seen_of o k parts due) (Turns t) (seen_of o (record k { core = c }) parts due)) (sym turned_as) makes)
    where
      turned_as : turned k.core (offered k) t ≡ record k.core { last = (turned k.core (offered k) t).last }
      turned_as = turned-is k.core (offered k) t

      makes : Makes (seen_of o k parts due) (Turns t) (seen_of o (record k { core = record k.core { last = (turned k.core (offered k) t).last } }) parts due)
      makes before entries rest =
          let after : Kept = record k { core = record k.core { last = (turned k.core (offered k) t).last } } in
          let m : Machine (List Frame) = at (seen_of o k parts due) before entries in
          let offers : machine_offers m ≡ offered k = fun_ext (offers_at o k.core k.offers parts quiet) in
          let core : m.core ≡ told_before before k.core =
          ap (λ told. let c : Core = record k.core { told = told } in c) (sym (ap (λ x. before ++ x) taken ∙ append-nil before)) in
          let is : turned m.core (machine_offers m) t ≡ record k.core { last = (turned k.core (offered k) t).last; told = before ++ k.core.told } =
          ap₂ (λ c f. turned c f t) core offers ∙ (turned-told_before before k.core (offered k) t ∙ ap (told_before before) turned_as) in
          ap (λ c. machine_settled (engine o) c running rest) is
          ∙ ap₂ (λ told xs. let n : Machine (List Frame) =
          record { core = record k.core { last = (turned k.core (offered k) t).last; told = before ++ told }; running = xs; entries = rest } in n)
          (sym (told_past after due past)) (stays_here o k.core k.offers parts k.core.tasks refl)

-- AN ACTION

-- the kernel after a task's action
abbrev after : Kept → ℕ → Action → Kept
after k t a = record { core = (effect k.core t a).core; offers = dropped (effect k.core t a).ended (slice_set k.offers t None) }

-- a task that has offered an action is active
pub active_here : (k : Kept) (t : ℕ) (a : Action) → ((t : ℕ) → is_active k.core t ≡ false → offered k t ≡ None) → offered k t ≡ Some a → is_active k.core t ≡ true
active_here k t a quiet e = by_active (is_active k.core t) refl
  where
    by_active : (active : Bool) → is_active k.core t ≡ active → is_active k.core t ≡ true
    by_active true h = h
    by_active false h = absurd (none-some a (sym (quiet t h) ∙ e))

-- where it stands
pub stands_at : (o : Object) (k : Kept) (parts : List Part) (t : ℕ) (a : Action) → ((t : ℕ) → is_active k.core t ≡ false → offered k t ≡ None) →
    offered k t ≡ Some a → kept_at (running_of o k.core k.offers parts) t ≡ Some (record { stack = (stack_in (slice_get parts t)).frames; offer = Some a })
stands_at o k parts t a quiet e =
    running_at o k.core k.offers parts t
    ∙ (ap (λ active. shown active (start_of o t) (offered k t) (slice_get parts t)) (active_here k t a quiet e)
    ∙ ap (λ x. shown true (start_of o t) x (slice_get parts t)) e)

module _ (o : Object) (k : Kept) (parts : List Part) (due : ℕ) (quiet : (t : ℕ) → is_active k.core t ≡ false → offered k t ≡ None)
    (each : length parts ≡ length k.core.tasks) (still : (i : ℕ) → is_going (slice_get parts i) ≡ false) (taken : k.core.told ≡ [])
    (past : length k.core.tasks ≤ due) (t : ℕ) (a : Action) (e : offered k t ≡ Some a) (there : t < length parts) where
  abbrev frames : List Frame
  frames = (stack_in (slice_get parts t)).frames

  -- its mark
  pub acts_here : Makes (seen_of o k parts due) (Acts t) (seen_of o (after k t a) (parts_after o parts t (effect k.core t a).reply) due)
  acts_here before entries rest =
      let m : Machine (List Frame) = at (seen_of o k parts due) before entries in
      let does : (core : Core) → core ≡ told_before before k.core →
      machine_does (engine o) (record m { core = core }) t rest frames (Some a)
      ≡ machine_settled (engine o) (told_before before (effect k.core t a).core)
      (answered (engine o) (dropped (effect k.core t a).ended (running_of o k.core k.offers parts)) t frames (effect k.core t a).reply) rest =
      λ core same. ap (λ (d : Effect). machine_settled (engine o) d.core (answered (engine o) (dropped d.ended (running_of o k.core k.offers parts)) t frames d.reply) rest)
      (ap (λ c. effect c t a) same ∙ effect-told_before before k.core t a) in
      let told : m.core ≡ told_before before k.core =
      ap (λ x. let c : Core = record k.core { told = x } in c) (sym (ap (λ x. before ++ x) taken ∙ append-nil before)) in
      let later : length (after k t a).core.tasks ≤ due = subst (λ n. n ≤ due) (sym (effect-length k.core t a)) past in
      ap (λ x. machine_acts (engine o) m t rest x) (stands_at o k parts t a quiet e) ∙ (does m.core told
      ∙ ap₂ (λ told xs. let n : Machine (List Frame) =
      record { core = record (effect k.core t a).core { told = before ++ told }; running = xs; entries = rest } in n)
      (sym (told_past (after k t a) due later))
      (rows_after o k.core k.offers parts quiet each still (effect k.core t a).core (effect k.core t a).ended t (effect k.core t a).reply there))

-- the kernel's mark is the machine's
pub acts_first : (o : Object) (k k2 : Kept) (parts : List Part) (due t : ℕ) (reply : Reply) → ((t : ℕ) → is_active k.core t ≡ false → offered k t ≡ None) →
    length parts ≡ length k.core.tasks → ((i : ℕ) → is_going (slice_get parts i) ≡ false) → k.core.told ≡ [] → length k.core.tasks ≤ due →
    t < length parts → kernel.Acts k t reply k2 → ActsFirst (seen_of o k parts due) (seen_of o k2 (parts_after o parts t reply) due)
acts_first o k k2 parts due t reply quiet each still taken past there acts =
    subst (λ n. ActsFirst (seen_of o k parts due) (seen_of o n (parts_after o parts t reply) due)) (sym acts.same)
    (subst (λ r. ActsFirst (seen_of o k parts due) (seen_of o (after k t acts.action) (parts_after o parts t r) due)) acts.same_reply
    (record {
      task = t;
      picks = picked_here o k parts quiet (untold k due) ∙ acts.picked;
      makes = acts_here o k parts due quiet each still taken past t acts.action acts.offers there;
    }))
