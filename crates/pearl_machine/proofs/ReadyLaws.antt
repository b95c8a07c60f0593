-- What holds of a machine is kept, and what its parts do is what the run does.
use Rattle.std.proofs.Common.{◌≡◌, ◌≢◌, ℕ, zero, suc, ◌<◌, ◌≤◌, ◌⊎◌, inl, inr, List, [], ◌∷◌, ◌++◌, Bool, true, false, ◌&&◌, nat_eq, Option, Some, None, length, drop, slice_get, slice_set, refl, sym, ap, ap₂, subst, ◌∙◌, arith, length-set, eqb-true, append-nil}
use Rattle.std.proofs.lemmas.Bool.{true≢false, eqb-false, cases_lt}
use Rattle.std.proofs.lemmas.List.{length-map}
use Rattle.std.proofs.lemmas.Option.{none-some, same_Some}
use Rattle.pearl_rules.specs.declared.action.Action.{Action}
use Rattle.pearl_rules.specs.declared.setup.Setup.{Setup}
use Rattle.pearl_rules.specs.Core.{is_active}
use Rattle.pearl_rules.specs.Pick.{states}
use Rattle.pearl_rules.specs.Runs.{Running, Offers, kept_at, unsettled}
use Rattle.pearl_stack.specs.Frames.{Frame, Stack}
use Rattle.pearl_instructions.specs.declared.object.Parts.{Parts as Object}
use Rattle.pearl_instructions.specs.Engines.{engine}
use Rattle.pearl_instructions.specs.Owners.{IsStackOf}
use Rattle.pearl_instructions.specs.Setups.{setup_of, entry_of}
use Rattle.pearl_kernel.specs.Kept.{Kept, IsLawful, IsFirst, AllSettled, offered, is_silent, is_unsettled}
use Rattle.pearl_machine.specs.Parts.{HasMemories, shown, start_of, going_frames, is_going, running_of, SettlesPart}
use Rattle.pearl_machine.specs.Ready.{IsReady, IsDue, Stands, AllStand, untold, seen_of}
use Rattle.pearl_machine.specs.Seen.{Seen, IsUnsettled, SettlesFirst}
use Rattle.pearl_machine.specs.declared.part.Part.{Part}
use Rattle.pearl_machine.proofs.Listed.{get_elsewhere, kept_here, kept_elsewhere, kept_there}
use Rattle.pearl_machine.proofs.Places.{running_at, first_here, offers_here, goes_here}
use Rattle.pearl_machine.proofs.Steps.{HasOffered, all_offered}
use Rattle.pearl_machine.proofs.Taken.{no_state, none_left}

-- WHAT IS TOLD

-- where no state is due only events are told
pub told_past : (k : Kept) (due : ℕ) → length k.core.tasks ≤ due → untold k due ≡ k.core.told
told_past k due past = ap (λ states. k.core.told ++ states) (no_state k.core (offered k) due past) ∙ append-nil k.core.told

-- where nothing is told no event is, and no state is due
nil_first : {X : Type 0} (xs ys : List X) → xs ++ ys ≡ [] → xs ≡ []
nil_first [] ys e = refl
nil_first (x ∷ xs) ys e = cc

pub taken_events : (k : Kept) (due : ℕ) → untold k due ≡ [] → k.core.told ≡ []
taken_events k due e = nil_first k.core.told (drop due (states k.core (offered k))) e

pub taken_states : (k : Kept) (due : ℕ) → untold k due ≡ [] → length k.core.tasks ≤ due
taken_states k due e =
    none_left k.core (offered k) due
    (sym (ap (λ told. told ++ drop due (states k.core (offered k))) (taken_events k due e)) ∙ e)

-- STACKS

-- a place that is written with a stack of its task
pub stand_set : (o : Object) (xs : List (Option (Running (List Frame)))) (t : ℕ) (r : Running (List Frame)) → AllStand o xs → Stands o t r →
    AllStand o (slice_set xs t (Some r))
stand_set o xs t r all stands i running e = by_place (nat_eq t i) refl
  where
    by_place : (b : Bool) → nat_eq t i ≡ b → Stands o i running
    by_place false differ = all i running (sym (kept_elsewhere xs t i (Some r) (eqb-false t i differ)) ∙ e)
    by_place true is =
        let same = eqb-true t i is in
        let there = there_of (cases_lt t (length xs)) in
        subst (λ n. Stands o n running) same
        (subst (λ x. Stands o t x) (same_Some r running (sym (kept_here xs t (Some r) there) ∙ (ap (λ n. kept_at (slice_set xs t (Some r)) n) same ∙ e))) stands)
      where
        there_of : (t < length xs) ⊎ (length xs ≤ t) → t < length xs
        there_of (inl less) = less
        there_of (inr past) =
            let within = kept_there (slice_set xs t (Some r)) i running e in
            let size = length-set xs t (Some r) in
            let same = eqb-true t i is in
            let no : ⊥ = omega arith in absurd no

both_true : (a b : Bool) → (a && b) ≡ true → (a ≡ true) × (b ≡ true)
both_true true true e = (refl, refl)
both_true true false e = absurd (true≢false (sym e))
both_true false b e = absurd (true≢false (sym e))

none_silent : (offer : Option Action) → is_silent offer ≡ true → offer ≡ None
none_silent None e = refl
none_silent (Some action) e = absurd (true≢false (sym e))

pub first_active : (k : Kept) (t : ℕ) → IsFirst k t → is_active k.core t ≡ true
first_active k t first = (both_true (is_active k.core t) (is_silent (offered k t)) first.unsettled).0

pub first_silent : (k : Kept) (t : ℕ) → IsFirst k t → offered k t ≡ None
first_silent k t first = none_silent (offered k t) ((both_true (is_active k.core t) (is_silent (offered k t)) first.unsettled).1)

-- where all have offered none is under way
pub all_still : (k : Kept) (parts : List Part) → ((t : ℕ) → is_going (slice_get parts t) ≡ true → is_unsettled k t ≡ true) → AllSettled k → (i : ℕ) →
    is_going (slice_get parts i) ≡ false
all_still k parts going all i = by_going (is_going (slice_get parts i)) refl
  where
    by_going : (g : Bool) → is_going (slice_get parts i) ≡ g → is_going (slice_get parts i) ≡ false
    by_going false e = e
    by_going true e = absurd (true≢false (sym (going i e) ∙ all i))

-- a task whose part is written, not under way, isn't under way
put_back : (parts : List Part) (t : ℕ) (p : Part) → p.going ≡ false → (i : ℕ) → is_going (slice_get (slice_set parts t p) i) ≡ true →
    (t ≢ i) × (is_going (slice_get parts i) ≡ true)
put_back parts t p still i e = by_place (nat_eq t i) refl
  where
    still_here : (parts : List Part) (t : ℕ) (p : Part) → p.going ≡ false → is_going (slice_get (slice_set parts t p) t) ≡ false
    still_here [] t p still = refl
    still_here (q ∷ parts) zero p still = still
    still_here (q ∷ parts) (suc t) p still = still_here parts t p still

    by_place : (b : Bool) → nat_eq t i ≡ b → (t ≢ i) × (is_going (slice_get parts i) ≡ true)
    by_place false differ = let other = eqb-false t i differ in (other, ap is_going (sym (get_elsewhere parts t i p other)) ∙ e)
    by_place true is =
        absurd (true≢false (sym e ∙ (ap (λ n. is_going (slice_get (slice_set parts t p) n)) (sym (eqb-true t i is)) ∙ still_here parts t p still)))

module _ (o : Object) (setup : Setup) (k : Kept) (parts : List Part) (due : ℕ) (r : IsReady o setup k parts due) where
  -- the kernel has the object's tasks
  pub tasks_are : length k.core.tasks ≡ length o.tasks
  tasks_are = r.lawful.tasks ∙ length-map o.tasks entry_of

  -- where the machine's run is settled the kernel is
  pub kernel_settled : unsettled (seen_of o k parts due).state ≡ None → AllSettled k
  kernel_settled e u = by_unsettled (is_active k.core u) (offered k u)
      (subst (λ x. HasOffered x) (running_at o k.core k.offers parts u) (all_offered 0 (running_of o k.core k.offers parts) e u))
    where
      by_unsettled : (active : Bool) (x : Option Action) → HasOffered (shown active (start_of o u) x (slice_get parts u)) → (active && is_silent x) ≡ false
      by_unsettled false x h = refl
      by_unsettled true None h = absurd (none-some h.0 h.1)
      by_unsettled true (Some action) h = refl

  module _ (t : ℕ) (first : IsFirst k t) where
    -- the first task that has offered nothing
    pub first_there : t < length o.tasks
    first_there = subst (λ n. t < n) tasks_are first.there

    first_in_parts : t < length parts
    first_in_parts = subst (λ n. t < n) (sym r.each) first.there

    first_in_offers : t < length k.offers
    first_in_offers = subst (λ n. t < n) (sym r.lawful.same) first.there

    pub first_seen : IsUnsettled (running_of o k.core k.offers parts) t (going_frames (start_of o t) (slice_get parts t))
    first_seen = first_here o k.core k.offers parts t first.unsettled first.before

    -- stands with a stack of its own
    pub first_own : IsStackOf o t (going_frames (start_of o t) (slice_get parts t))
    first_own = (r.stand t _ first_seen.here).own

    -- no state is due there
    pub none_due : length k.core.tasks ≤ due
    none_due = by_due r.owes
      where
        by_due : IsDue k due → length k.core.tasks ≤ due
        by_due (inl all) = absurd (true≢false (sym first.unsettled ∙ all t))
        by_due (inr past) = past

    abbrev pub with_offer : Action → Kept
    with_offer a = record k { offers = slice_set k.offers t (Some a) }

    -- it went on to its next action
    pub settles_first : (k2 : Kept) (parts2 : List Part) (a : Action) → SettlesPart o parts t parts2 a → k2 ≡ with_offer a →
        SettlesFirst (seen_of o k parts due) (seen_of o k2 parts2 due)
    settles_first k2 parts2 a s same =
        subst (λ n. SettlesFirst (seen_of o k parts due) (seen_of o n parts2 due)) (sym same)
        (subst (λ ps. SettlesFirst (seen_of o k parts due) (seen_of o (with_offer a) ps due)) (sym s.same) (record {
          task = t;
          frames = going_frames (start_of o t) (slice_get parts t);
          after = s.after.frames;
          action = a;
          first = first_seen;
          settles = s.settles;
          same = ap₂ (λ told xs. let n : Seen = record { object = o; state = record { core = record k.core { told = told }; running = xs; entries = [] } } in n)
              (told_past (with_offer a) due none_due ∙ sym (told_past k due none_due))
              (offers_here o k.core k.offers parts t s.after a (first_active k t first) first_in_offers first_in_parts);
        }))

    -- and the machine is as it is to be
    pub ready_offers : (k2 : Kept) (parts2 : List Part) (a : Action) (after : Stack) → parts2 ≡ slice_set parts t (record { stack = after; going = false }) →
        IsStackOf o t after.frames → (engine o).step t after.frames ≡ Offers a → HasMemories o parts2 → k2 ≡ with_offer a → IsLawful (setup_of o) k2 →
        IsReady o setup k2 parts2 due
    ready_offers k2 parts2 a after same_parts own offers memory same lawful =
        subst (λ n. IsReady o setup n parts2 due) (sym same) (record {
          valid = r.valid;
          object = r.object;
          tables = r.tables;
          lawful = subst (λ n. IsLawful (setup_of o) n) same lawful;
          each = ap length same_parts ∙ (length-set parts t _ ∙ r.each);
          memory = memory;
          going = λ i e.
              let p = put_back parts t (record { stack = after; going = false }) refl i (ap (λ ps. is_going (slice_get ps i)) (sym same_parts) ∙ e) in
              ap (λ x. is_active k.core i && is_silent x) (kept_elsewhere k.offers t i (Some a) p.0) ∙ r.going i p.1;
          stand = subst (λ xs. AllStand o xs)
              (sym (ap (λ ps. running_of o k.core (slice_set k.offers t (Some a)) ps) same_parts
              ∙ offers_here o k.core k.offers parts t after a (first_active k t first) first_in_offers first_in_parts))
              (stand_set o (running_of o k.core k.offers parts) t (record { stack = after.frames; offer = Some a }) r.stand (record {
                own = own;
                offers = λ action e. offers ∙ ap Offers (same_Some a action e);
              }));
          owes = inr none_due;
        })

    -- it made an instruction
    pub ready_goes : (parts2 : List Part) (after : Stack) → parts2 ≡ slice_set parts t (record { stack = after; going = true }) →
        IsStackOf o t after.frames → HasMemories o parts2 → IsReady o setup k parts2 due
    ready_goes parts2 after same_parts own memory = record {
      valid = r.valid;
      object = r.object;
      tables = r.tables;
      lawful = r.lawful;
      each = ap length same_parts ∙ (length-set parts t _ ∙ r.each);
      memory = memory;
      going = λ i e. by_place i (ap (λ ps. is_going (slice_get ps i)) (sym same_parts) ∙ e) (nat_eq t i) refl;
      stand = subst (λ xs. AllStand o xs)
          (sym (ap (λ ps. running_of o k.core k.offers ps) same_parts
          ∙ goes_here o k.core k.offers parts t after (first_active k t first) (first_silent k t first) first_in_parts))
          (stand_set o (running_of o k.core k.offers parts) t (record { stack = after.frames; offer = None }) r.stand (record {
            own = own;
            offers = λ action e. absurd (none-some action e);
          }));
      owes = r.owes;
    }
      where
        by_place : (i : ℕ) → is_going (slice_get (slice_set parts t (record { stack = after; going = true })) i) ≡ true → (b : Bool) → nat_eq t i ≡ b →
            is_unsettled k i ≡ true
        by_place i e true is = ap (is_unsettled k) (sym (eqb-true t i is)) ∙ first.unsettled
        by_place i e false differ = r.going i (ap is_going (sym (get_elsewhere parts t i _ (eqb-false t i differ))) ∙ e)
