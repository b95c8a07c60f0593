-- What a call does, from what is seen of the machine at the call.
use Rattle.std.specs.Prelude.{is_some, IfSome, IsSome, MatchOption}
use Rattle.std.proofs.Common.{◌≡◌, ℕ, ◌+◌, ◌<◌, ◌≤◌, List, [], ◌∷◌, ◌++◌, false, Option, Some, None, length, drop, slice_get, refl, sym, ap, subst, ◌∙◌}
use Rattle.pearl_rules.specs.declared.action.Action.{Action}
use Rattle.pearl_rules.specs.declared.event.Event.{Event}
use Rattle.pearl_rules.specs.declared.setup.Setup.{Setup}
use Rattle.pearl_rules.specs.declared.entry.Entry.{Entry}
use Rattle.pearl_rules.specs.Core.{Core, Report, Happened, Shows}
use Rattle.pearl_rules.specs.Devices.{arrived}
use Rattle.pearl_rules.specs.Entries.{EntryFits}
use Rattle.pearl_rules.specs.Plans.{millisecond}
use Rattle.pearl_rules.specs.Effect.{Reply}
use Rattle.pearl_rules.specs.Pick.{pick, turned, states, shown_of}
use Rattle.pearl_rules.specs.Runs.{Turns, Tells, Passes, Arrives, machine_offers, machine_step, unsettled}
use Rattle.pearl_rules.proofs.Offered.{states-offers, millisecond-length, arrived-length, millisecond-told_before}
use Rattle.pearl_rules.proofs.Offered.{arrived-told_before}
use Rattle.pearl_instructions.specs.declared.object.Parts.{Parts as Object}
use Rattle.pearl_instructions.specs.Actions.{IsSlotNumber}
use Rattle.pearl_instructions.specs.Engines.{engine}
use Rattle.pearl_instructions.specs.Setups.{setup_of}
use Rattle.pearl_script.specs.Lines.{event_line, state_line, report_line}
use Rattle.pearl_script.specs.Words.{task_name}
use Rattle.pearl_kernel.specs.Kept as kernel
use Rattle.pearl_rules.specs.Laws.{passed}
use Rattle.pearl_kernel.specs.Timing.{IsQuiet}
use Rattle.pearl_kernel.proofs.Offered.{passed-quiet, slots-length}
use Rattle.pearl_kernel.specs.Kept.{Kept, IsLawful, IsToldNext, AllSettled, IsFirst, offered, taken}
use Rattle.pearl_machine.specs.Parts.{going_frames, is_going, start_of, running_of, StepsPart, SettlesPart}
use Rattle.pearl_machine.specs.Ready.{IsReady, untold, seen_of}
use Rattle.pearl_machine.specs.Seen.{Seen, SettlesFirst, ActsFirst, Makes, Skips, retold, picked}
use Rattle.pearl_machine.specs.Known.{Known}
use Rattle.pearl_machine.specs.declared.part.Part.{Part}
use Rattle.pearl_machine.proofs.ReadyLaws.{all_still, first_seen, settles_first, with_offer, kernel_settled, taken_events, taken_states}
use Rattle.pearl_machine.proofs.Places.{none_here, offered_by}
use Rattle.pearl_machine.proofs.Steps.{first_unsettled}
use Rattle.pearl_machine.proofs.Taken.{state_next, no_state}
use Rattle.pearl_machine.proofs.Marking.{parts_after}
use Rattle.pearl_machine.proofs.Making.{picked_here, tells_here, shows_here, turns_here}
use Rattle.pearl_machine.proofs.Acting.{turned_taken, acts_seen}
use Rattle.pearl_machine.proofs.Entering.{steps_silent, steps_offers}
use Rattle.pearl_machine.proofs.Slots.{table_slots}
use Rattle.pearl_machine.proofs.Passing.{makes_of, skips_here, ready_changed}

-- where the next event was taken, what was told is that event and what is left
pub taken_same : (k k2 : Kept) → k2 ≡ record k { core = taken k.core } →
    k2 ≡ record k { core = record k.core { told = k2.core.told } }
taken_same k k2 e = e ∙ ap (λ told. let n : Kept = record k { core = record k.core { told = told } } in n)
    (sym (ap (λ (x : Kept). x.core.told) e))

pub taken_next : (k k2 : Kept) (event : Event) → IsToldNext k.core event → k2 ≡ record k { core = taken k.core } →
    k.core.told ≡ (k.core.moment, Happened event) ∷ k2.core.told
taken_next k k2 event next e = next.1 ∙ ap (λ told. (k.core.moment, Happened event) ∷ told)
    (sym (ap (λ (x : Kept). x.core.told) e ∙ ap (drop 1) next.1))

-- a task that was found
pub first_of : (k : Kept) (found : Option ℕ) (t : ℕ) → MatchOption found (AllSettled k) (IsFirst k) → found ≡ Some t → IsFirst k t
first_of k found t h e = subst (λ x. MatchOption x (AllSettled k) (IsFirst k)) e h

-- what is known of who acts next
pub known_as : (known : Option (Option ℕ)) (a b : Option ℕ) → a ≡ b → IfSome known (λ t. t ≡ a) → IfSome known (λ t. t ≡ b)
known_as None a b same is = tt
known_as (Some t) a b same is = is ∙ same

module _ (o : Object) (setup : Setup) (k : Kept) (parts : List Part) (due : ℕ) (r : IsReady o setup k parts due) (s : Seen) (is : seen_of o k parts due ≡ s) where
  -- WHAT IS KNOWN AT THE CALL

  pub all_settled : unsettled s.state ≡ None → AllSettled k
  all_settled e = kernel_settled o setup k parts due r (ap (λ (x : Seen). unsettled x.state) is ∙ e)

  pub none_unsettled : AllSettled k → unsettled s.state ≡ None
  none_unsettled all = ap (λ (x : Seen). unsettled x.state) (sym is) ∙ none_here o k.core k.offers parts all

  pub no_event : s.state.core.told ≡ [] → k.core.told ≡ []
  no_event e = taken_events k due (ap (λ (x : Seen). x.state.core.told) is ∙ e)

  pub none_due : s.state.core.told ≡ [] → length k.core.tasks ≤ due
  none_due e = taken_states k due (ap (λ (x : Seen). x.state.core.told) is ∙ e)

  object_is : s.object ≡ o
  object_is = ap (λ (x : Seen). x.object) (sym is)

  tables_are : setup ≡ setup_of s.object
  tables_are = r.tables ∙ ap setup_of (sym object_is)

  -- a slot of the object is one of the core
  pub slot_there : (slot : ℕ) → IsSlotNumber s.object slot → slot < length k.core.slots
  slot_there slot there =
      subst (λ n. slot < n) (sym (slots-length (setup_of o) k r.lawful ∙ table_slots o.leaves r.object.leaves))
      (subst (λ x. IsSlotNumber x slot) object_is there)

  -- whether something is unsettled
  pub is_first_seen : (found : Option ℕ) → MatchOption found (AllSettled k) (IsFirst k) → is_some found ≡ is_some (unsettled s.state)
  is_first_seen None all = sym (ap is_some (none_unsettled all))
  is_first_seen (Some t) first =
      let seen = first_seen o setup k parts due r t first in
      sym (ap is_some (ap (λ (x : Seen). unsettled x.state) (sym is)
      ∙ first_unsettled 0 (running_of o k.core k.offers parts) t (going_frames (start_of o t) (slice_get parts t)) (λ u less. offered_by _ (seen.before u less)) seen.here))

  pub some_first : (found : Option ℕ) → MatchOption found (AllSettled k) (IsFirst k) → (unsettled s.state ≡ None → ⊥) → IsSome found
  some_first None all some = absurd (some (none_unsettled all))
  some_first (Some t) first some = refl

  -- WHAT IT DOES

  pub settles_call : (t : ℕ) (first : IsFirst k t) (k2 : Kept) (parts2 : List Part) (a : Action) → SettlesPart o parts t parts2 a →
      k2 ≡ with_offer o setup k parts due r t first a → SettlesFirst s (seen_of o k2 parts2 due)
  settles_call t first k2 parts2 a settles same =
      subst (λ x. SettlesFirst x (seen_of o k2 parts2 due)) is (settles_first o setup k parts due r t first k2 parts2 a settles same)

  pub silent_call : (t : ℕ) → IsFirst k t → (parts2 : List Part) → StepsPart o parts t parts2 None →
      seen_of o k parts2 due ≡ record s { state = machine_step (engine s.object) s.state }
  silent_call t first parts2 steps =
      subst (λ (x : Seen). seen_of o k parts2 due ≡ record x { state = machine_step (engine x.object) x.state }) is
      (steps_silent o setup k parts due r t first parts2 steps)

  pub offers_call : (t : ℕ) (first : IsFirst k t) (k2 : Kept) (parts2 : List Part) (a : Action) → StepsPart o parts t parts2 (Some a) →
      k2 ≡ with_offer o setup k parts due r t first a → seen_of o k2 parts2 due ≡ record s { state = machine_step (engine s.object) s.state }
  offers_call t first k2 parts2 a steps same =
      subst (λ (x : Seen). seen_of o k2 parts2 due ≡ record x { state = machine_step (engine x.object) x.state }) is
      (steps_offers o setup k parts due r t first k2 parts2 a steps same)

  pub idle_call : (k2 : Kept) → pick k.core (offered k) ≡ None → k2 ≡ k → (picked s ≡ None) × (seen_of o k2 parts due ≡ s)
  idle_call k2 none same =
      (ap picked (sym is) ∙ (picked_here o k parts r.lawful.quiet (untold k due) ∙ none), ap (λ n. seen_of o n parts due) same ∙ is)

  pub acts_call : (k2 : Kept) (parts2 : List Part) (t : ℕ) (reply : Reply) → unsettled s.state ≡ None → s.state.core.told ≡ [] → Known → kernel.Acts k t reply k2 →
      parts2 ≡ parts_after o parts t reply → ActsFirst s (seen_of o k2 parts2 due)
  acts_call k2 parts2 t reply settled taken known acts same =
      subst (λ x. ActsFirst x (seen_of o k2 parts2 due)) is (subst (λ ps. ActsFirst (seen_of o k parts due) (seen_of o k2 ps due)) (sym same)
      (acts_seen o setup k k2 parts due r (all_settled settled) known (none_due taken) t reply acts (no_event taken)))

  pub turns_call : (k2 : Kept) (t : ℕ) → s.state.core.told ≡ [] → k2 ≡ record k { core = turned k.core (offered k) t } → Makes s (Turns t) (seen_of o k2 parts due)
  turns_call k2 t taken same =
      subst (λ x. Makes x (Turns t) (seen_of o k2 parts due)) is (turns_here o k parts r.lawful.quiet k2 due t (no_event taken) (none_due taken) same)

  pub turned_call : (k2 : Kept) (t : ℕ) → s.state.core.told ≡ [] → k2 ≡ record k { core = turned k.core (offered k) t } → untold k2 due ≡ []
  turned_call k2 t taken same = turned_taken k k2 due t same (no_event taken) (none_due taken)

  pub tells_call : s.state.core.told ≡ [] → Makes s Tells (seen_of o k parts 0)
  tells_call taken = subst (λ x. Makes x Tells (seen_of o k parts 0)) is (tells_here o k parts r.lawful.quiet due (no_event taken))

  pub shows_call : s.state.core.told ≡ [] → seen_of o k parts 0 ≡ retold s (states s.state.core (machine_offers s.state))
  shows_call taken =
      subst (λ (x : Seen). seen_of o k parts 0 ≡ retold x (states x.state.core (machine_offers x.state))) is
      (shows_here o k parts r.lawful.quiet due (no_event taken))

  -- MILLISECONDS, AND WHAT COMES FROM OUTSIDE

  still : AllSettled k → (i : ℕ) → is_going (slice_get parts i) ≡ false
  still all = all_still k parts r.going all

  pub moment_call : s.state.core.moment ≡ k.core.moment
  moment_call = ap (λ (x : Seen). x.state.core.moment) (sym is)

  pub picked_call : picked s ≡ pick k.core (offered k)
  picked_call = ap picked (sym is) ∙ picked_here o k parts r.lawful.quiet (untold k due)

  -- whatever is told and not written
  pub picked_at : (later : ℕ) → picked (seen_of o k parts later) ≡ picked s
  picked_at later = picked_here o k parts r.lawful.quiet (untold k later) ∙ sym picked_call

  pub picked_taken : (k2 : Kept) → k2 ≡ record k { core = record k.core { told = k2.core.told } } → picked (seen_of o k2 parts due) ≡ picked s
  picked_taken k2 same =
      ap (λ (n : Kept). picked (seen_of o n parts due)) same
      ∙ picked_here o k parts r.lawful.quiet (untold (record k { core = record k.core { told = k2.core.told } }) due) ∙ sym picked_call

  pub quiet_call : (n : ℕ) → IsQuiet k.core n → IsQuiet s.state.core n
  quiet_call n quiet = subst (λ (x : Seen). IsQuiet x.state.core n) is quiet

  pub quiet_back : (n : ℕ) → IsQuiet s.state.core n → IsQuiet k.core n
  quiet_back n quiet = subst (λ (x : Seen). IsQuiet x.state.core n) (sym is) quiet

  pub skips_call : (k2 : Kept) (n : ℕ) → unsettled s.state ≡ None → s.state.core.told ≡ [] → IsQuiet s.state.core n →
      k2 ≡ record k { core = passed n k.core } → Skips s n (seen_of o k2 parts due)
  skips_call k2 n settled taken quiet same =
      let silent = quiet_back n quiet in
      let moved : k2 ≡ record k { core = record k.core { moment = k.core.moment + n } } =
      same ∙ ap (λ c. let x : Kept = record k { core = c } in x) (passed-quiet n k.core silent) in
      subst (λ x. Skips x n (seen_of o k2 parts due)) is
      (subst (λ x. Skips (seen_of o k parts due) n (seen_of o x parts due)) (sym moved)
      (skips_here o k parts r.lawful.quiet (still (all_settled settled)) due (no_event taken) (none_due taken) n silent))

  pub passes_call : (k2 : Kept) → unsettled s.state ≡ None → s.state.core.told ≡ [] → k2 ≡ record k { core = millisecond k.core } →
      Makes s Passes (seen_of o k2 parts due)
  passes_call k2 settled taken same =
      subst (λ x. Makes x Passes (seen_of o k2 parts due)) is
      (subst (λ x. Makes (seen_of o k parts due) Passes (seen_of o x parts due)) (sym same)
      (makes_of o k parts r.lawful.quiet (still (all_settled settled)) millisecond Passes due (no_event taken) (none_due taken)
      (millisecond-length k.core) (λ before. millisecond-told_before before k.core) (λ m rest. refl)))

  pub arrives_call : (k2 : Kept) (entry : Entry) → unsettled s.state ≡ None → s.state.core.told ≡ [] → k2 ≡ record k { core = arrived k.core entry } →
      Makes s (Arrives entry) (seen_of o k2 parts due)
  arrives_call k2 entry settled taken same =
      subst (λ x. Makes x (Arrives entry) (seen_of o k2 parts due)) is
      (subst (λ x. Makes (seen_of o k parts due) (Arrives entry) (seen_of o x parts due)) (sym same)
      (makes_of o k parts r.lawful.quiet (still (all_settled settled)) (λ core. arrived core entry) (Arrives entry) due (no_event taken) (none_due taken)
      (arrived-length k.core entry) (λ before. arrived-told_before before k.core entry) (λ m rest. refl)))

  -- an entry that fits what is seen fits the object's tables
  pub fits_call : (entry : Entry) → EntryFits (setup_of s.object) s.state.core.moment entry →
      EntryFits (setup_of o) k.core.moment entry
  fits_call entry fits =
      subst (λ m. EntryFits (setup_of o) m entry) moment_call (subst (λ x. EntryFits (setup_of x) s.state.core.moment entry) object_is fits)

  -- the machine where the core alone changed
  pub changed_call : (k2 : Kept) (core : Core) → Known → unsettled s.state ≡ None → s.state.core.told ≡ [] → length core.tasks ≡ length k.core.tasks →
      k2 ≡ record k { core = core } → IsLawful (setup_of o) k2 → IsReady o setup k2 parts due
  changed_call k2 core known settled taken size same lawful =
      ready_changed o setup k k2 parts due core r (all_settled settled) known (none_due taken) size same lawful

  -- WHAT IS TOLD NEXT

  states_same : (k2 : Kept) → k2 ≡ record k { core = record k.core { told = k2.core.told } } → states k2.core (offered k2) ≡ states k.core (offered k)
  states_same k2 same =
      ap (λ (n : Kept). states n.core (offered n)) same
      ∙ states-offers (record k.core { told = k2.core.told }) k.core (offered k) (offered k) refl refl refl refl refl refl (λ t. refl)

  -- an event
  pub event_call : (k2 : Kept) (e : Event) (moment : ℕ) (line : List ℕ) → k.core.told ≡ (k.core.moment, Happened e) ∷ k2.core.told →
      k2 ≡ record k { core = record k.core { told = k2.core.told } } → moment ≡ k.core.moment → line ≡ event_line moment e setup →
      (report : ℕ × Report) × (s.state.core.told ≡ report ∷ untold k2 due) × (line ≡ report_line (setup_of s.object) report)
  event_call k2 e moment line told same now is_line = (
    (k.core.moment, Happened e),
    ap (λ (x : Seen). x.state.core.told) (sym is)
        ∙ (ap (λ t. t ++ drop due (states k.core (offered k))) told
        ∙ ap (λ xs. (k.core.moment, Happened e) ∷ (k2.core.told ++ drop due xs)) (sym (states_same k2 same))),
    is_line ∙ (ap (λ m. event_line m e setup) now ∙ ap (event_line k.core.moment e) tables_are),
  )

  -- how a task stands
  pub state_call : (k2 : Kept) (line : List ℕ) → k.core.told ≡ [] → k2 ≡ k → due < length k2.core.tasks →
      line ≡ state_line k2.core.moment (task_name setup due) (shown_of k2.core (offered k2) due) →
      (report : ℕ × Report) × (s.state.core.told ≡ report ∷ untold k2 (due + 1)) × (line ≡ report_line (setup_of s.object) report)
  state_call k2 line none same less is_line = (
    (k2.core.moment, Shows due (shown_of k2.core (offered k2) due)),
    ap (λ (x : Seen). x.state.core.told) (sym is)
        ∙ (ap (λ n. untold n due) (sym same)
        ∙ (ap (λ t. t ++ drop due (states k2.core (offered k2))) none2
        ∙ (state_next k2.core (offered k2) due less
        ∙ ap (λ t. (k2.core.moment, Shows due (shown_of k2.core (offered k2) due)) ∷ (t ++ drop (due + 1) (states k2.core (offered k2)))) (sym none2)))),
    is_line ∙ ap (λ tables. state_line k2.core.moment (task_name tables due) (shown_of k2.core (offered k2) due)) tables_are,
  )
    where
      none2 : k2.core.told ≡ []
      none2 = ap (λ (n : Kept). n.core.told) same ∙ none

  -- nothing
  pub nothing_call : (k2 : Kept) → k.core.told ≡ [] → k2 ≡ k → length k2.core.tasks ≤ due → (s.state.core.told ≡ []) × (seen_of o k2 parts due ≡ s)
  nothing_call k2 none same past = (
    ap (λ (x : Seen). x.state.core.told) (sym is)
        ∙ (ap (λ t. t ++ drop due (states k.core (offered k))) none
        ∙ no_state k.core (offered k) due (subst (λ (n : Kept). length n.core.tasks ≤ due) same past)),
    ap (λ n. seen_of o n parts due) same ∙ is,
  )
