-- Parts of an entry, one after the other.
use Rattle.std.specs.Prelude.{Result, Ok, Err, OnOk, OnErr}
use Rattle.std.proofs.Common.{◌≡◌, ℕ, zero, suc, ◌+◌, ◌-◌, ◌<◌, ◌≤◌, ◌⊎◌, inl, inr, List, [], ◌∷◌, ◌++◌, Option, Some, None, slice_set, slice_get, refl, sym, ap, ap₂, subst, ◌∙◌, arith}
use Rattle.std.proofs.lemmas.Option.{none-some}
use Rattle.pearl_rules.specs.declared.action.Action.{Action}
use Rattle.pearl_rules.specs.declared.entry.Entry.{Entry}
use Rattle.pearl_rules.specs.declared.entry.Entry.TheVariants.{Run, Tick, Pass, Turn, State}
use Rattle.pearl_rules.specs.declared.setup.Setup.{Setup}
use Rattle.pearl_rules.specs.Core.{Report}
use Rattle.pearl_rules.specs.Pick.{states}
use Rattle.pearl_rules.proofs.Offered.{states-offers}
use Rattle.pearl_rules.specs.Runs.{Turns, Tells, Arrives, next_mark, machine_offers, Running, kept_at, stepped, unsettled, machine_step}
use Rattle.pearl_io.specs.Outside.{Takes, TakesFront}
use Rattle.pearl_io.proofs.Offered.{takes_more, takes_front_more}
use Rattle.pearl_stack.specs.Frames.{Frame}
use Rattle.pearl_instructions.specs.declared.object.Parts.{Parts as Object}
use Rattle.pearl_instructions.specs.Rows.{row}
use Rattle.pearl_instructions.specs.Engines.{engine, stepped_by}
use Rattle.pearl_instructions.specs.Setups.{setup_of}
use Rattle.pearl_script.specs.Lines.{lines_of, close_line}
use Rattle.pearl_kernel.specs.Kept.{Kept, IsLawful, IsFirst}
use Rattle.pearl_machine.specs.Parts.{start_of, going_frames, running_of, StepsPart, HasMemories}
use Rattle.pearl_machine.specs.Ready.{IsReady, untold, seen_of}
use Rattle.pearl_machine.specs.Seen.{Seen, retold, NobodyActs, Handles, SettlesFirst, ActsFirst, Makes, PassesSome}
use Rattle.pearl_machine.specs.Told.{IsCutOff, IsCutBehind}
use Rattle.pearl_machine.specs.declared.part.Part.{Part}
use Rattle.pearl_machine.proofs.Going.{handles_then, handles_retold, handles_pick, handles_turn, handles_state, handles_arrival, some_unsettled}
use Rattle.pearl_machine.proofs.Places.{offered_by, offers_here, goes_here}
use Rattle.pearl_machine.proofs.ReadyLaws.{first_seen, first_active, first_silent, none_due, told_past, with_offer, ready_offers, ready_goes}
use Rattle.pearl_machine.proofs.Steps.{first_step}
use Rattle.pearl_machine.proofs.Taken.{takes_nothing, cut_front}

-- ONE INSTRUCTION

module _ (o : Object) (setup : Setup) (k : Kept) (parts : List Part) (due : ℕ) (r : IsReady o setup k parts due) (t : ℕ) (first : IsFirst k t) where
  abbrev frames : List Frame
  frames = going_frames (start_of o t) (slice_get parts t)

  step_here : machine_step (engine o) (seen_of o k parts due).state
      ≡ record (seen_of o k parts due).state { running = slice_set (running_of o k.core k.offers parts) t (Some (stepped frames (stepped_by (row o frames)))) }
  step_here =
      let seen = first_seen o setup k parts due r t first in
      first_step o (seen_of o k parts due).state t frames (λ u less. offered_by _ (seen.before u less)) seen.here

  -- a silent one
  pub steps_silent : (parts2 : List Part) → StepsPart o parts t parts2 None →
      seen_of o k parts2 due ≡ record (seen_of o k parts due) { state = machine_step (engine o) (seen_of o k parts due).state }
  steps_silent parts2 s =
      ap (λ xs. let n : Seen = record { object = o; state = record { core = record k.core { told = untold k due }; running = xs; entries = [] } } in n)
      (ap (λ ps. running_of o k.core k.offers ps) s.same
      ∙ (goes_here o k.core k.offers parts t s.after (first_active k t first) (first_silent k t first) (subst (λ n. t < n) (sym r.each) first.there)
      ∙ ap (λ x. slice_set (running_of o k.core k.offers parts) t (Some (stepped frames x))) (sym s.does)))
      ∙ ap (λ m. let n : Seen = record { object = o; state = m } in n) (sym step_here)

  pub ready_silent : (parts2 : List Part) → StepsPart o parts t parts2 None → HasMemories o parts2 → IsReady o setup k parts2 due
  ready_silent parts2 s memory = ready_goes o setup k parts due r t first parts2 s.after s.same s.own memory

  -- one that offers an action
  pub steps_offers : (k2 : Kept) (parts2 : List Part) (a : Action) → StepsPart o parts t parts2 (Some a) → k2 ≡ with_offer o setup k parts due r t first a →
      seen_of o k2 parts2 due ≡ record (seen_of o k parts due) { state = machine_step (engine o) (seen_of o k parts due).state }
  steps_offers k2 parts2 a s same =
      let past = none_due o setup k parts due r t first in
      ap (λ n. seen_of o n parts2 due) same
      ∙ (ap₂ (λ told xs. let n : Seen = record { object = o; state = record { core = record k.core { told = told }; running = xs; entries = [] } } in n)
      (told_past (with_offer o setup k parts due r t first a) due past ∙ sym (told_past k due past))
      (ap (λ ps. running_of o k.core (slice_set k.offers t (Some a)) ps) s.same
      ∙ (offers_here o k.core k.offers parts t s.after a (first_active k t first) (subst (λ n. t < n) (sym r.lawful.same) first.there)
      (subst (λ n. t < n) (sym r.each) first.there)
      ∙ (ap (λ f. let q : Running (List Frame) = record { stack = f; offer = Some a } in slice_set (running_of o k.core k.offers parts) t (Some q)) s.does.1
      ∙ ap (λ x. slice_set (running_of o k.core k.offers parts) t (Some (stepped frames x))) (sym s.does.0))))
      ∙ ap (λ m. let n : Seen = record { object = o; state = m } in n) (sym step_here))

  pub ready_stepped : (k2 : Kept) (parts2 : List Part) (a : Action) → StepsPart o parts t parts2 (Some a) → HasMemories o parts2 →
      k2 ≡ with_offer o setup k parts due r t first a → IsLawful (setup_of o) k2 → IsReady o setup k2 parts2 due
  ready_stepped k2 parts2 a s memory same lawful =
      ready_offers o setup k parts due r t first k2 parts2 a s.after s.same s.own
      (ap (λ f. (engine o).step t f) s.does.1 ∙ s.does.0) memory same lawful

-- HOW MANY ARE UNSETTLED

abbrev pub owing_here : {S : Type 0} → Option (Running S) → ℕ
owing_here None = 0
owing_here (Some running) = owing_by running.offer
  where
    owing_by : Option Action → ℕ
    owing_by None = 1
    owing_by (Some action) = 0

abbrev pub owing : {S : Type 0} → List (Option (Running S)) → ℕ
owing [] = 0
owing (x ∷ xs) = owing_here x + owing xs

owing_falls : {S : Type 0} (xs : List (Option (Running S))) (t : ℕ) (s after : S) (a : Action) → kept_at xs t ≡ Some (record { stack = s; offer = None }) →
    owing (slice_set xs t (Some (record { stack = after; offer = Some a }))) < owing xs
owing_falls [] t s after a e = absurd (none-some _ e)
owing_falls (x ∷ xs) zero s after a e = let h = ap owing_here e in omega arith
owing_falls (x ∷ xs) (suc t) s after a e = let h = owing_falls xs t s after a e in omega arith

pub owing_less : (a b : Seen) → SettlesFirst a b → owing b.state.running < owing a.state.running
owing_less a b s =
    subst (λ (n : Seen). owing n.state.running < owing a.state.running) (sym s.same)
    (owing_falls a.state.running s.task s.frames s.after s.action s.first.here)

pub settled_object : (a b : Seen) → SettlesFirst a b → b.object ≡ a.object
settled_object a b s = ap (λ (n : Seen). n.object) s.same

pub settled_moment : (a b : Seen) → SettlesFirst a b → b.state.core.moment ≡ a.state.core.moment
settled_moment a b s = ap (λ (n : Seen). n.state.core.moment) s.same

pub settled_core : (a b : Seen) → SettlesFirst a b → b.state.core ≡ a.state.core
settled_core a b s = ap (λ (n : Seen). n.state.core) s.same

-- where each has offered its action none goes on
pub none_settles : (a b : Seen) → SettlesFirst a b → unsettled a.state ≡ None → ⊥
none_settles a b s none = some_unsettled a s.task s.frames s.first none

pub settled_told : (a b : Seen) → SettlesFirst a b → b.state.core.told ≡ a.state.core.told
settled_told a b s = ap (λ (n : Seen). n.state.core.told) s.same

-- MARKS AND THEIR LINES

-- a mark, and what is left to tell of it
pub one_more : (a l m w : Seen) (count left : ℕ) (told : List (ℕ × Report)) → l.object ≡ a.object → unsettled l.state ≡ None → 0 < left →
    Handles a (Run count ∷ []) (Run left ∷ []) l told → ActsFirst l m → w ≡ retold m w.state.core.told →
    Handles a (Run count ∷ []) (Run (left - 1) ∷ []) w (told ++ m.state.core.told)
one_more a l m w count left told object settled some goes acts same =
    subst (λ n. Handles a (Run count ∷ []) (Run (left - 1) ∷ []) n (told ++ m.state.core.told)) (sym same)
    (handles_retold a m (Run count ∷ []) (Run (left - 1) ∷ []) (told ++ m.state.core.told) w.state.core.told
    (handles_then a l m (Run count ∷ []) (Run left ∷ []) (Run (left - 1) ∷ []) told m.state.core.told object goes (handles_pick l m left settled some acts)))

pub told_object : (m w : Seen) → w ≡ retold m w.state.core.told → w.object ≡ m.object
told_object m w same = ap (λ (n : Seen). n.object) same

-- WHAT AN ENTRY ANSWERS

pub on_ok : {T E P Q : Type 0} (r : Result T E) → (P → Q) → OnOk r P → OnOk r Q
on_ok (Ok x) f p = f p
on_ok (Err e) f p = tt

pub on_err : {T E P Q : Type 0} (r : Result T E) → (P → Q) → OnErr r P → OnErr r Q
on_err (Ok x) f p = tt
on_err (Err e) f p = f p

pub on_err₂ : {T E P Q R : Type 0} (r : Result T E) → (P → Q → R) → OnErr r P → OnErr r Q → OnErr r R
on_err₂ (Ok x) f p q = tt
on_err₂ (Err e) f p q = f p q

-- what an entry told, from where the tasks had settled
abbrev pub Entered : Seen → Entry → Seen → Option (List ℕ) → Option (List ℕ) → Type 0
Entered a entry c old new = (told : List (ℕ × Report)) × Handles a (entry ∷ []) [] c told × Takes old new (lines_of (setup_of a.object) told)

pub entered_from : (a b c : Seen) (entry e : Entry) (old new : Option (List ℕ)) → b.object ≡ a.object → ((from : List Entry) → Handles a from from b []) → entry ≡ e →
    Entered b e c old new → Entered a entry c old new
entered_from a b c entry e old new object settles is h = (
  h.0,
  subst (λ x. Handles a (x ∷ []) [] c h.0) (sym is) (handles_then a b c (e ∷ []) (e ∷ []) [] [] h.0 object (settles (e ∷ [])) h.1),
  subst (λ o. Takes old new (lines_of (setup_of o) h.0)) object h.2,
)

-- a turn tells nothing
pub entered_turn : (b c : Seen) (t : ℕ) (old : Option (List ℕ)) → unsettled b.state ≡ None → Makes b (Turns t) c → c.state.core.told ≡ [] →
    Entered b (Turn t) c old old
entered_turn b c t old settled makes taken =
    ([], subst (λ told. Handles b (Turn t ∷ []) [] c told) taken (handles_turn b c t settled makes), takes_nothing old)

-- the tasks' states were told and written
handled_state : (b s w : Seen) → unsettled b.state ≡ None → Makes b Tells s → w ≡ retold s w.state.core.told → Handles b (State ∷ []) [] w s.state.core.told
handled_state b s w settled makes same =
    subst (λ n. Handles b (State ∷ []) [] n s.state.core.told) (sym same)
    (handles_retold b s (State ∷ []) [] s.state.core.told w.state.core.told (handles_state b s settled makes))

pub entered_state : (b s w : Seen) (old new : Option (List ℕ)) → unsettled b.state ≡ None → s.object ≡ b.object → Makes b Tells s →
    w ≡ retold s w.state.core.told → Takes old new (lines_of (setup_of s.object) s.state.core.told) → Entered b State w old new
entered_state b s w old new settled object makes same takes =
    (s.state.core.told, handled_state b s w settled makes same, subst (λ o. Takes old new (lines_of (setup_of o) s.state.core.told)) object takes)

-- what came from outside, and its lines were written
pub entered_arrival : (b m w : Seen) (entry : Entry) (old new : Option (List ℕ)) → unsettled b.state ≡ None → m.object ≡ b.object →
    ((p : Option ℕ) (rest : List Entry) → next_mark p (entry ∷ rest) ≡ Some (record { mark = Arrives entry; rest = rest })) → Makes b (Arrives entry) m →
    (Handles b (entry ∷ []) [] m m.state.core.told → Handles b (entry ∷ []) [] w m.state.core.told) →
    Takes old new (lines_of (setup_of m.object) m.state.core.told) → Entered b entry w old new
entered_arrival b m w entry old new settled object comes makes finish takes =
    (m.state.core.told, finish (handles_arrival b m entry comes settled makes), subst (λ o. Takes old new (lines_of (setup_of o) m.state.core.told)) object takes)

-- an entry that is none of these comes from outside
pub comes_alone : (entry : Entry) → ((n : ℕ) → entry ≡ Run n → ⊥) → ((n : ℕ) → entry ≡ Tick n → ⊥) → ((n picks : ℕ) → entry ≡ Pass n picks → ⊥) →
    ((t : ℕ) → entry ≡ Turn t → ⊥) → (entry ≡ State → ⊥) → (p : Option ℕ) (rest : List Entry) →
    next_mark p (entry ∷ rest) ≡ Some (record { mark = Arrives entry; rest = rest })
comes_alone (Run n) run tick pass turn state p rest = absurd (run n refl)
comes_alone (Tick n) run tick pass turn state p rest = absurd (tick n refl)
comes_alone (Pass n picks) run tick pass turn state p rest = absurd (pass n picks refl)
comes_alone (Turn t) run tick pass turn state p rest = absurd (turn t refl)
comes_alone State run tick pass turn state p rest = absurd (state refl)
comes_alone entry run tick pass turn state p rest = refl

-- WHILE MILLISECONDS PASS

-- lines that are written change nothing
pub handles_written : (a b w : Seen) (from left : List Entry) (told : List (ℕ × Report)) → w ≡ retold b w.state.core.told → Handles a from left b told →
    Handles a from left w told
handles_written a b w from left told same handles =
    subst (λ n. Handles a from left n told) (sym same) (handles_retold a b from left told w.state.core.told handles)

pub tick_on : (a l m : Seen) (count left n : ℕ) (told : List (ℕ × Report)) → l.object ≡ a.object → n ≤ left →
    Handles a (Tick count ∷ []) (Tick left ∷ []) l told → PassesSome l n m →
    Handles a (Tick count ∷ []) (Tick (left - n) ∷ []) m (told ++ m.state.core.told)
tick_on a l m count left n told object within goes passes =
    handles_then a l m (Tick count ∷ []) (Tick left ∷ []) (Tick (left - n) ∷ []) told m.state.core.told object goes (passes.ticks left within)

pub pass_on : (a l m : Seen) (times picks left n : ℕ) (told : List (ℕ × Report)) → l.object ≡ a.object → n ≤ left → (n ≡ 1) ⊎ NobodyActs l picks →
    Handles a (Pass times picks ∷ []) (Pass left picks ∷ []) l told → PassesSome l n m →
    Handles a (Pass times picks ∷ []) (Run picks ∷ Pass (left - n) picks ∷ []) m (told ++ m.state.core.told)
pass_on a l m times picks left n told object within free goes passes =
    handles_then a l m (Pass times picks ∷ []) (Pass left picks ∷ []) (Run picks ∷ Pass (left - n) picks ∷ []) told m.state.core.told object goes
    (passes.passes left picks within free)

-- as many as pass at once are one, or nobody acts
pub at_once_free : (l : Seen) (picks n most : ℕ) → 0 < n → n ≤ most → (most ≡ 1) ⊎ NobodyActs l picks → (n ≡ 1) ⊎ NobodyActs l picks
at_once_free l picks n most some few (inl one) = inl (omega arith)
at_once_free l picks n most some few (inr idle) = inr idle

-- WHAT CLOSES A RUN

pub closes_from : (a b s w : Seen) → b.object ≡ a.object → ((from : List Entry) → Handles a from from b []) →
    s ≡ retold b (states b.state.core (machine_offers b.state)) → w ≡ retold s w.state.core.told → (from : List Entry) → Handles a from from w []
closes_from a b s w object settles shown written from =
    subst (λ n. Handles a from from n []) (sym (written ∙ ap (λ (x : Seen). retold x w.state.core.told) shown))
    (handles_retold a b from from [] w.state.core.told (settles from))

module _ (a b s w : Seen) (object : b.object ≡ a.object) (shown : s ≡ retold b (states b.state.core (machine_offers b.state)))
    (written : w ≡ retold s w.state.core.told) where
  -- the last lines
  abbrev pub closing : List ℕ
  closing = lines_of (setup_of a.object) (states w.state.core (machine_offers w.state)) ++ close_line w.state.core.moment

  -- the states that were shown are those of the machine
  shown_states : s.state.core.told ≡ states w.state.core (machine_offers w.state)
  shown_states =
      ap (λ (x : Seen). x.state.core.told) shown
      ∙ sym (ap (λ (x : Seen). states x.state.core (machine_offers x.state)) (written ∙ ap (λ (x : Seen). retold x w.state.core.told) shown)
      ∙ states-offers (retold b w.state.core.told).state.core b.state.core (machine_offers b.state) (machine_offers b.state) refl refl refl refl refl refl (λ t. refl))

  lines_are : lines_of (setup_of s.object) s.state.core.told ++ close_line w.state.core.moment ≡ closing
  lines_are =
      ap₂ (λ o told. lines_of (setup_of o) told ++ close_line w.state.core.moment) (ap (λ (x : Seen). x.object) shown ∙ object) shown_states

  -- the states' lines were taken, and then this last one
  pub closed : (old mid new : Option (List ℕ)) (line : List ℕ) → Takes old mid (lines_of (setup_of s.object) s.state.core.told) →
      line ≡ close_line w.state.core.moment → Takes mid new line → Takes old new closing
  closed old mid new line lines is last =
      subst (λ bytes. Takes old new bytes) lines_are (takes_more old mid new _ _ lines (subst (λ bytes. Takes mid new bytes) is last))

  pub closed_front : (old mid new : Option (List ℕ)) (line : List ℕ) → Takes old mid (lines_of (setup_of s.object) s.state.core.told) →
      line ≡ close_line w.state.core.moment → TakesFront mid new line → TakesFront old new closing
  closed_front old mid new line lines is last =
      subst (λ bytes. TakesFront old new bytes) lines_are (takes_front_more old mid new _ _ lines (subst (λ bytes. TakesFront mid new bytes) is last))

  -- the states' lines were cut off
  pub closed_cut : (old new : Option (List ℕ)) → IsCutOff (setup_of s.object) old new s.state.core.told w.state.core.told → TakesFront old new closing
  closed_cut old new cut =
      subst (λ bytes. TakesFront old new bytes) lines_are
      (cut_front (setup_of s.object) old new s.state.core.told w.state.core.told (close_line w.state.core.moment) cut)

  -- and the later ones are left
  pub closed_left : (old new : Option (List ℕ)) → IsCutOff (setup_of s.object) old new s.state.core.told w.state.core.told →
      IsCutOff (setup_of a.object) old new (states w.state.core (machine_offers w.state)) w.state.core.told
  closed_left old new cut =
      subst (λ told. IsCutOff (setup_of a.object) old new told w.state.core.told) shown_states
      (subst (λ o. IsCutOff (setup_of o) old new s.state.core.told w.state.core.told) (ap (λ (x : Seen). x.object) shown ∙ object) cut)

  -- the last one was cut off
  pub closed_last : (old mid new : Option (List ℕ)) (line : List ℕ) → Takes old mid (lines_of (setup_of s.object) s.state.core.told) →
      line ≡ close_line w.state.core.moment → TakesFront mid new line → w.state.core.told ≡ [] →
      IsCutBehind (setup_of a.object) old new (states w.state.core (machine_offers w.state)) w.state.core.told (close_line w.state.core.moment)
  closed_last old mid new line lines is front none = record {
    between = mid;
    whole = subst (λ told. Takes old mid (lines_of (setup_of a.object) told)) shown_states
        (subst (λ o. Takes old mid (lines_of (setup_of o) s.state.core.told)) (ap (λ (x : Seen). x.object) shown ∙ object) lines);
    front = subst (λ bytes. TakesFront mid new bytes) is front;
    none = none;
  }
