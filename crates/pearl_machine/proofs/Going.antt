-- Where a run goes from where a machine stands.
use Rattle.std.proofs.Common.{◌≡◌, ℕ, zero, suc, ◌+◌, ◌-◌, ◌<◌, ◌≤◌, ◌⊎◌, inl, inr, List, [], ◌∷◌, ◌++◌, Option, Some, None, refl, sym, ap, subst, ◌∙◌, append-nil, append_assoc, arith}
use Rattle.std.proofs.lemmas.Option.{none-some}
use Rattle.pearl_rules.specs.declared.entry.Entry.{Entry}
use Rattle.pearl_rules.specs.declared.entry.Entry.TheVariants.{Run, Tick, Pass, Turn, State}
use Rattle.pearl_rules.specs.Core.{Report}
use Rattle.pearl_rules.specs.Runs.{Mark, Acts, Turns, Tells, Passes, Arrives, Coming, next_mark, machine_offers, machine_next, machine_after, unsettled}
use Rattle.pearl_rules.proofs.Offered.{pick-offers}
use Rattle.pearl_stack.specs.Frames.{Frame}
use Rattle.pearl_instructions.specs.Engines.{engine}
use Rattle.pearl_machine.specs.Seen.{Seen, at, retold, later, picked, SameNext, Goes, Handles, IsUnsettled, SettlesFirst, Makes, ActsFirst, NobodyActs, Skips, PassesSome}
use Rattle.pearl_machine.proofs.Steps.{after-add, step_of_mark, first_unsettled, settle_steps}
use Rattle.pearl_machine.proofs.Places.{offered_by}

-- what was told doesn't tell who acts next
pub picked_told : (seen : Seen) (told : List (ℕ × Report)) → picked (retold seen told) ≡ picked seen
picked_told seen told =
    pick-offers (retold seen told).state.core seen.state.core (machine_offers seen.state) (machine_offers seen.state) refl refl refl refl refl (λ t. refl)

-- nothing yet
pub handles_none : (s : Seen) (from : List Entry) → Handles s from from s []
handles_none s from before entries rest same = record {
  steps = 0;
  left = entries;
  is = ap (λ told. at s told entries) (sym (append-nil before));
  same = same;
}

-- one part after the other
pub handles_then : (a b c : Seen) (from mid left : List Entry) (told more : List (ℕ × Report)) → b.object ≡ a.object →
    Handles a from mid b told → Handles b mid left c more → Handles a from left c (told ++ more)
handles_then a b c from mid left told more object first second before entries rest same =
    let g = first before entries rest same in
    let h = second (before ++ told) g.left rest g.same in
    record {
      steps = g.steps + h.steps;
      left = h.left;
      is = sym (after-add (engine a.object) (at a before entries) g.steps h.steps)
          ∙ (ap (λ m. machine_after (engine a.object) m h.steps) g.is
          ∙ (ap (λ o. machine_after (engine o) (at b (before ++ told) g.left) h.steps) (sym object)
          ∙ (h.is ∙ ap (λ all. at c all h.left) (append_assoc before told more))));
      same = h.same;
    }

-- likewise where the second part tells nothing
pub handles_on : (a b c : Seen) (from mid left : List Entry) (told : List (ℕ × Report)) → b.object ≡ a.object →
    Handles a from mid b told → Handles b mid left c [] → Handles a from left c told
handles_on a b c from mid left told object first second =
    subst (λ all. Handles a from left c all) (append-nil told) (handles_then a b c from mid left told [] object first second)

-- lines that are written change nothing
pub handles_retold : (a b : Seen) (from left : List Entry) (told now : List (ℕ × Report)) → Handles a from left b told → Handles a from left (retold b now) told
handles_retold a b from left told now handles before entries rest same =
    let g = handles before entries rest same in
    record { steps = g.steps; left = g.left; is = g.is; same = λ p known. g.same p (λ settled. known settled ∙ picked_told b now) }

-- where a task is unsettled
pub some_unsettled : (s : Seen) (t : ℕ) (frames : List Frame) → IsUnsettled s.state.running t frames → unsettled s.state ≡ None → ⊥
some_unsettled s t frames first none =
    none-some _ (sym none ∙ first_unsettled 0 s.state.running t frames (λ u less. offered_by _ (first.before u less)) first.here)

-- the first unsettled task goes on
pub handles_settle : (a b : Seen) (from : List Entry) → SettlesFirst a b → Handles a from from b []
handles_settle a b from s before entries rest same =
    subst (λ n. Goes a before entries (from ++ rest) n []) (sym s.same)
    (record {
      steps = suc s.settles.rows;
      left = entries;
      is = settle_steps a.object (at a before entries) s.task s.frames (λ u less. offered_by _ (s.first.before u less)) s.first.here s.after s.action s.settles
          ∙ ap (λ told. at (record a { state = record a.state { running = _ } }) told entries) (sym (append-nil before));
      same = λ p known. same p (λ none. absurd (some_unsettled a s.task s.frames s.first none));
    })

-- one mark, which comes next of these entries and leaves those
pub handles_mark : (a b : Seen) (from left : List Entry) (mark : Mark) → unsettled a.state ≡ None → Makes a mark b →
    ((rest : List Entry) → next_mark (picked a) (from ++ rest) ≡ Some (record { mark = mark; rest = left ++ rest })) →
    Handles a from left b b.state.core.told
handles_mark a b from left mark settled makes comes before entries rest same =
    let coming : Coming = record { mark = mark; rest = left ++ rest } in
    let next : machine_next (at a before entries) ≡ Some coming =
    ap (λ p. next_mark p entries) (picked_told a before) ∙ (same (picked a) (λ e. refl) ∙ comes rest) in
    record {
      steps = 1;
      left = left ++ rest;
      is = step_of_mark (engine a.object) (at a before entries) (Some coming) settled next ∙ makes before entries (left ++ rest);
      same = λ p known. refl;
    }

-- a pick
pub handles_pick : (a b : Seen) (n : ℕ) → unsettled a.state ≡ None → 0 < n → ActsFirst a b → Handles a (Run n ∷ []) (Run (n - 1) ∷ []) b b.state.core.told
handles_pick a b n settled some acts =
    handles_mark a b (Run n ∷ []) (Run (n - 1) ∷ []) (Acts acts.task) settled acts.makes
    (λ rest. let e : n ≡ suc (n - 1) = omega arith in
    ap (λ p. next_mark p (Run n ∷ rest)) acts.picks ∙ ap (λ k. next_mark (Some acts.task) (Run k ∷ rest)) e)

-- a turn
pub handles_turn : (a b : Seen) (t : ℕ) → unsettled a.state ≡ None → Makes a (Turns t) b → Handles a (Turn t ∷ []) [] b b.state.core.told
handles_turn a b t settled makes = handles_mark a b (Turn t ∷ []) [] (Turns t) settled makes (λ rest. refl)

-- what comes from outside
pub handles_arrival : (a b : Seen) (entry : Entry) → ((p : Option ℕ) (rest : List Entry) → next_mark p (entry ∷ rest) ≡ Some (record { mark = Arrives entry; rest = rest })) →
    unsettled a.state ≡ None → Makes a (Arrives entry) b → Handles a (entry ∷ []) [] b b.state.core.told
handles_arrival a b entry comes settled makes = handles_mark a b (entry ∷ []) [] (Arrives entry) settled makes (λ rest. comes (picked a) rest)

-- the tasks' states
pub handles_state : (a b : Seen) → unsettled a.state ≡ None → Makes a Tells b → Handles a (State ∷ []) [] b b.state.core.told
handles_state a b settled makes = handles_mark a b (State ∷ []) [] Tells settled makes (λ rest. refl)

-- what is left of an entry makes no mark any more
pub handles_over : (a b : Seen) (from left : List Entry) (told : List (ℕ × Report)) → Handles a from left b told →
    ((rest : List Entry) → SameNext b (left ++ rest) rest) → Handles a from [] b told
handles_over a b from left told handles over before entries rest same =
    let g = handles before entries rest same in
    record { steps = g.steps; left = g.left; is = g.is; same = λ p known. g.same p known ∙ over rest p known }

-- nobody can act
pub handles_idle : (a b : Seen) (from : List Entry) (n : ℕ) (told : List (ℕ × Report)) → unsettled b.state ≡ None → picked b ≡ None →
    Handles a from (Run n ∷ []) b told → Handles a from [] b told
handles_idle a b from n told settled none handles =
    handles_over a b from (Run n ∷ []) told handles (λ rest p known.
    ap (λ q. next_mark q (Run n ∷ rest)) (known settled ∙ none) ∙ sym (ap (λ q. next_mark q rest) (known settled ∙ none)))

-- a run of no picks makes no mark
run_over : (p : Option ℕ) (rest : List Entry) → next_mark p (Run 0 ∷ rest) ≡ next_mark p rest
run_over None rest = refl
run_over (Some t) rest = refl

-- no pick is left
pub handles_done : (a b : Seen) (from : List Entry) (n : ℕ) (told : List (ℕ × Report)) → n ≡ 0 → Handles a from (Run n ∷ []) b told → Handles a from [] b told
handles_done a b from n told none handles =
    handles_over a b from (Run n ∷ []) told handles (λ rest p known. ap (λ k. next_mark p (Run k ∷ rest)) none ∙ run_over p rest)

-- MILLISECONDS

-- a millisecond of a tick
handles_tick : (a b : Seen) (left : ℕ) → unsettled a.state ≡ None → 0 < left → Makes a Passes b →
    Handles a (Tick left ∷ []) (Tick (left - 1) ∷ []) b b.state.core.told
handles_tick a b left settled some makes =
    handles_mark a b (Tick left ∷ []) (Tick (left - 1) ∷ []) Passes settled makes
    (λ rest. let e : left ≡ suc (left - 1) = omega arith in ap (λ n. next_mark (picked a) (Tick n ∷ rest)) e)

-- a millisecond of a pass
handles_pass : (a b : Seen) (left picks : ℕ) → unsettled a.state ≡ None → 0 < left → Makes a Passes b →
    Handles a (Pass left picks ∷ []) (Run picks ∷ Pass (left - 1) picks ∷ []) b b.state.core.told
handles_pass a b left picks settled some makes =
    handles_mark a b (Pass left picks ∷ []) (Run picks ∷ Pass (left - 1) picks ∷ []) Passes settled makes
    (λ rest. let e : left ≡ suc (left - 1) = omega arith in ap (λ n. next_mark (picked a) (Pass n picks ∷ rest)) e)

-- no millisecond is left
pub handles_ticked : (a b : Seen) (from : List Entry) (n : ℕ) (told : List (ℕ × Report)) → n ≡ 0 → Handles a from (Tick n ∷ []) b told →
    Handles a from [] b told
handles_ticked a b from n told none handles =
    handles_over a b from (Tick n ∷ []) told handles (λ rest p known. ap (λ k. next_mark p (Tick k ∷ rest)) none)

pub handles_passed : (a b : Seen) (from : List Entry) (n picks : ℕ) (told : List (ℕ × Report)) → n ≡ 0 → Handles a from (Pass n picks ∷ []) b told →
    Handles a from [] b told
handles_passed a b from n picks told none handles =
    handles_over a b from (Pass n picks ∷ []) told handles (λ rest p known. ap (λ k. next_mark p (Pass k picks ∷ rest)) none)

-- where nobody acts a run is dropped
handles_drop : (a b : Seen) (from left : List Entry) (n : ℕ) (told : List (ℕ × Report)) → unsettled b.state ≡ None → NobodyActs b n →
    Handles a from (Run n ∷ left) b told → Handles a from left b told
handles_drop a b from left n told settled nobody handles before entries rest same =
    let g = handles before entries rest same in
    record { steps = g.steps; left = g.left; is = g.is; same = λ p known. g.same p known ∙ drops p known nobody }
  where
    drops : (p : Option ℕ) → (unsettled b.state ≡ None → p ≡ picked b) → NobodyActs b n → next_mark p (Run n ∷ (left ++ rest)) ≡ next_mark p (left ++ rest)
    drops p known (inl none) =
        ap (λ q. next_mark q (Run n ∷ (left ++ rest))) (known settled ∙ none) ∙ sym (ap (λ q. next_mark q (left ++ rest)) (known settled ∙ none))
    drops p known (inr nought) = ap (λ k. next_mark p (Run k ∷ (left ++ rest))) nought ∙ run_over p (left ++ rest)

-- entries that come behind stay behind
pub handles_front : (a b : Seen) (from left more : List Entry) (told : List (ℕ × Report)) → Handles a from left b told →
    Handles a (from ++ more) (left ++ more) b told
handles_front a b from left more told handles before entries rest same =
    let g = handles before entries (more ++ rest)
    (λ p known. same p known ∙ ap (next_mark p) (append_assoc from more rest)) in
    record {
      steps = g.steps;
      left = g.left;
      is = g.is;
      same = λ p known. g.same p known ∙ ap (next_mark p) (sym (append_assoc left more rest));
    }

-- the moment doesn't tell who acts next
picked_later : (seen : Seen) (n : ℕ) → picked (later n seen) ≡ picked seen
picked_later seen n =
    pick-offers (later n seen).state.core seen.state.core (machine_offers seen.state) (machine_offers seen.state) refl refl refl refl refl (λ t. refl)

nobody_later : (seen : Seen) (n picks : ℕ) → NobodyActs seen picks → NobodyActs (later n seen) picks
nobody_later seen n picks (inl none) = inl (picked_later seen n ∙ none)
nobody_later seen n picks (inr nought) = inr nought

later_none : (seen : Seen) → seen ≡ later 0 seen
later_none seen =
    ap (λ m. let s : Seen = record seen { state = record seen.state { core = record seen.state.core { moment = m } } } in s) (omega arith)

-- milliseconds in which nothing happens
module _ (a b : Seen) (n : ℕ) (skips : Skips a n b) (settled : unsettled a.state ≡ None) (taken : a.state.core.told ≡ []) (left : ℕ) (within : n ≤ left) where
  ticked : (j : ℕ) → j ≤ n → Handles a (Tick left ∷ []) (Tick (left - j) ∷ []) (later j a) []
  ticked zero less =
      subst (λ k. Handles a (Tick left ∷ []) (Tick k ∷ []) (later 0 a) []) (omega arith)
      (subst (λ s. Handles a (Tick left ∷ []) (Tick left ∷ []) s []) (later_none a) (handles_none a (Tick left ∷ [])))
  ticked (suc j) less =
      let e : left - j - 1 ≡ left - suc j = omega arith in
      handles_on a (later j a) (later (suc j) a) (Tick left ∷ []) (Tick (left - j) ∷ []) (Tick (left - suc j) ∷ []) [] refl (ticked j (omega arith))
      (subst (λ told. Handles (later j a) (Tick (left - j) ∷ []) (Tick (left - suc j) ∷ []) (later (suc j) a) told) taken
      (subst (λ k. Handles (later j a) (Tick (left - j) ∷ []) (Tick k ∷ []) (later (suc j) a) a.state.core.told) e
      (handles_tick (later j a) (later (suc j) a) (left - j) settled (omega arith) (skips.makes j (omega arith)))))

  module _ (picks : ℕ) where
    one_passed : (j : ℕ) → j < n → Handles a (Pass left picks ∷ []) (Pass (left - j) picks ∷ []) (later j a) [] →
        Handles a (Pass left picks ∷ []) (Run picks ∷ Pass (left - suc j) picks ∷ []) (later (suc j) a) []
    one_passed j less before =
        let e : left - j - 1 ≡ left - suc j = omega arith in
        handles_on a (later j a) (later (suc j) a) (Pass left picks ∷ []) (Pass (left - j) picks ∷ []) (Run picks ∷ Pass (left - suc j) picks ∷ []) [] refl before
        (subst (λ told. Handles (later j a) (Pass (left - j) picks ∷ []) (Run picks ∷ Pass (left - suc j) picks ∷ []) (later (suc j) a) told) taken
        (subst (λ k. Handles (later j a) (Pass (left - j) picks ∷ []) (Run picks ∷ Pass k picks ∷ []) (later (suc j) a) a.state.core.told) e
        (handles_pass (later j a) (later (suc j) a) (left - j) picks settled (omega arith) (skips.makes j less))))

    none_passed : Handles a (Pass left picks ∷ []) (Pass (left - 0) picks ∷ []) (later 0 a) []
    none_passed =
        subst (λ k. Handles a (Pass left picks ∷ []) (Pass k picks ∷ []) (later 0 a) []) (omega arith)
        (subst (λ s. Handles a (Pass left picks ∷ []) (Pass left picks ∷ []) s []) (later_none a) (handles_none a (Pass left picks ∷ [])))

    passed : (j : ℕ) → j ≤ n → NobodyActs a picks → Handles a (Pass left picks ∷ []) (Pass (left - j) picks ∷ []) (later j a) []
    passed zero less idle = none_passed
    passed (suc j) less idle =
        handles_drop a (later (suc j) a) (Pass left picks ∷ []) (Pass (left - suc j) picks ∷ []) picks [] settled (nobody_later a (suc j) picks idle)
        (one_passed j (omega arith) (passed j (omega arith) idle))

    all_passed : (m : ℕ) → n ≡ suc m → (n ≡ 1) ⊎ NobodyActs a picks →
        Handles a (Pass left picks ∷ []) (Run picks ∷ Pass (left - suc m) picks ∷ []) (later (suc m) a) []
    all_passed m is (inr idle) = one_passed m (omega arith) (passed m (omega arith) idle)
    all_passed zero is (inl one) = one_passed 0 (omega arith) none_passed
    all_passed (suc m) is (inl one) = absurd (omega (arith, is, one))

pub some_skipped : (a b : Seen) (n : ℕ) → 0 < n → Skips a n b → unsettled a.state ≡ None → a.state.core.told ≡ [] → PassesSome a n b
some_skipped a b n some skips settled taken = record {
  some = some;
  object = ap (λ (s : Seen). s.object) skips.same;
  moment = ap (λ (s : Seen). s.state.core.moment) skips.same;
  ticks = λ left within.
      subst (λ told. Handles a (Tick left ∷ []) (Tick (left - n) ∷ []) b told) (sym none)
      (subst (λ s. Handles a (Tick left ∷ []) (Tick (left - n) ∷ []) s []) (sym skips.same)
      (ticked a b n skips settled taken left within n (omega arith)));
  passes = λ left picks within free.
      let e : n ≡ suc (n - 1) = omega arith in
      subst (λ told. Handles a (Pass left picks ∷ []) (Run picks ∷ Pass (left - n) picks ∷ []) b told) (sym none)
      (subst (λ s. Handles a (Pass left picks ∷ []) (Run picks ∷ Pass (left - n) picks ∷ []) s []) (sym skips.same)
      (subst (λ k. Handles a (Pass left picks ∷ []) (Run picks ∷ Pass (left - k) picks ∷ []) (later k a) []) (sym e)
      (all_passed a b n skips settled taken left within picks (n - 1) e free)));
  tells = inl none;
}
  where
    none : b.state.core.told ≡ []
    none = ap (λ (s : Seen). s.state.core.told) skips.same ∙ taken

pub one_millisecond : (a b : Seen) → b.object ≡ a.object → b.state.core.moment ≡ a.state.core.moment + 1 → unsettled a.state ≡ None → Makes a Passes b →
    PassesSome a 1 b
one_millisecond a b object moment settled makes = record {
  some = omega arith;
  object = object;
  moment = moment;
  ticks = λ left within. handles_tick a b left settled (omega arith) makes;
  passes = λ left picks within free. handles_pass a b left picks settled (omega arith) makes;
  tells = inr (refl, makes);
}
