-- A machine's run from any state: what was told stays told, and where no mark comes any more nothing more is told.
use Rattle.std.proofs.Common.{◌≡◌, ◌<◌, ◌≤◌, ◌⊎◌, ℕ, zero, suc, ◌+◌, ◌-◌, List, [], ◌++◌, Option, Some, None, refl, ap}
use Rattle.std.proofs.Common.{sym, ◌∙◌, subst, inl, inr, append-nil, append_assoc, add-zero, add-suc, arith}
use Rattle.std.proofs.lemmas.Bool.{cases_lt}
use Rattle.std.proofs.lemmas.Option.{none-some}
use Rattle.pearl_rules.specs.declared.action.Action.{Action}
use Rattle.pearl_rules.specs.declared.entry.Entry.{Entry}
use Rattle.pearl_rules.specs.Core.{Core, Report, told_before}
use Rattle.pearl_rules.specs.Pick.{pick, states}
use Rattle.pearl_rules.specs.Plans.{millisecond}
use Rattle.pearl_rules.specs.Runs.{Acts, Arrives, Coming, Engine, Machine, Mark, Passes, Running, Tells, Turns, kept_at}
use Rattle.pearl_rules.specs.Runs.{machine_acts, machine_after, machine_does, machine_mark, machine_mark_by}
use Rattle.pearl_rules.specs.Runs.{machine_next, machine_offers, machine_step, machine_step_by, unsettled}
use Rattle.pearl_rules.proofs.Offered.{arrived-told, effect-told, millisecond-told_before, turned-is}
use Rattle.pearl_instructions.specs.declared.object.Parts.{Parts as Object}
use Rattle.pearl_instructions.specs.Engines.{engine}
use Rattle.pearl_records.specs.Records.{untold}
use Rattle.pearl_stack.specs.Frames.{Frame}
use Rattle.pearl_watch.proofs.Offered.{steps_add}
use Rattle.pearl_top.specs.Runners.{EndsByCode}
use Rattle.pearl_top.specs.Transcript.{Ended, ended_of}
use Rattle.pearl_top.proofs.RunEnds.{IsDone}
use Rattle.pearl_top.proofs.WatchEnds.{IsOver, one_machine, same_later}

-- WHAT WAS TOLD STAYS TOLD

-- what `after` has told begins with what `before` has told
abbrev pub TellsOn : {S : Type 0} → (before after : Machine S) → Type 0
TellsOn before after = (more : List (ℕ × Report)) × (after.core.told ≡ before.core.told ++ more)

tells_same : {S : Type 0} (m : Machine S) → TellsOn m m
tells_same m = ([], sym (append-nil m.core.told))

tells_both : {S : Type 0} (a b c : Machine S) → TellsOn a b → TellsOn b c → TellsOn a c
tells_both a b c first second =
    (first.0 ++ second.0, second.1 ∙ ap (λ told. told ++ second.0) first.1 ∙ append_assoc a.core.told first.0 second.0)

millisecond_tells : (core : Core) → (more : List (ℕ × Report)) × ((millisecond core).told ≡ core.told ++ more)
millisecond_tells core =
    let behind : core ≡ told_before core.told (untold core) =
    ap (λ told. let c : Core = record core { told = told } in c) (sym (append-nil core.told)) in (
      (millisecond (untold core)).told,
      ap (λ c. (millisecond c).told) behind
          ∙ ap (λ (c : Core). c.told) (millisecond-told_before core.told (untold core)),
    )

module _ {S : Type 0} (e : Engine S) where
  does_tell : (m : Machine S) (t : ℕ) (rest : List Entry) (stack : S) (offer : Option Action) →
      TellsOn m (machine_does e m t rest stack offer)
  does_tell m t rest stack None = tells_same m
  does_tell m t rest stack (Some action) = effect-told m.core t action

  acts_tell : (m : Machine S) (t : ℕ) (rest : List Entry) (running : Option (Running S)) →
      TellsOn m (machine_acts e m t rest running)
  acts_tell m t rest None = tells_same m
  acts_tell m t rest (Some running) = does_tell m t rest running.stack running.offer

  mark_tells : (m : Machine S) (mark : Mark) (rest : List Entry) → TellsOn m (machine_mark e m mark rest)
  mark_tells m (Acts t) rest = acts_tell m t rest (kept_at m.running t)
  mark_tells m (Turns t) rest =
      ([], ap (λ (core : Core). core.told) (turned-is m.core (machine_offers m) t) ∙ sym (append-nil m.core.told))
  mark_tells m Tells rest = (states m.core (machine_offers m), refl)
  mark_tells m Passes rest = millisecond_tells m.core
  mark_tells m (Arrives entry) rest = arrived-told m.core entry

  step_tells : (m : Machine S) → TellsOn m (machine_step e m)
  unfolding machine_step
  step_tells m = by_unsettled (unsettled m)
    where
      by_next : (coming : Option Coming) → TellsOn m (machine_mark_by e m coming)
      by_next None = tells_same m
      by_next (Some coming) = mark_tells m coming.mark coming.rest

      by_unsettled : (first : Option (ℕ × S)) → TellsOn m (machine_step_by e m first)
      by_unsettled None = by_next (machine_next m)
      by_unsettled (Some (t, stack)) = tells_same m

  after_tells : (start : Machine S) (n k : ℕ) → TellsOn (machine_after e start n) (machine_after e start (n + k))
  after_tells start n zero = rw add-zero (tells_same (machine_after e start n))
  after_tells start n (suc k) =
      rw add-suc (tells_both (machine_after e start n) (machine_after e start (n + k))
      (machine_step e (machine_after e start (n + k)))
      (after_tells start n k) (step_tells (machine_after e start (n + k))))

-- WHERE NO MARK COMES ANY MORE

done_step : (o : Object) (m : Machine (List Frame)) → IsDone m →
    IsDone (machine_step (engine o) m) × ((machine_step (engine o) m).core ≡ m.core)
unfolding machine_step
done_step o m done = by_unsettled (unsettled m) refl
  where
    by_unsettled : (first : Option (ℕ × List Frame)) → unsettled m ≡ first →
        IsDone (machine_step_by (engine o) m first) × ((machine_step_by (engine o) m first).core ≡ m.core)
    by_unsettled None is =
        subst (λ next. IsDone (machine_mark_by (engine o) m next) × ((machine_mark_by (engine o) m next).core ≡ m.core))
        (sym (done (pick m.core (machine_offers m)) (λ settled. refl))) (done, refl)
    by_unsettled (Some (t, stack)) is =
        (λ q chosen. done q (λ settled. absurd (none-some (t, stack) (sym settled ∙ is))), refl)

done_after : (o : Object) (m : Machine (List Frame)) (k : ℕ) → IsDone m →
    IsDone (machine_after (engine o) m k) × ((machine_after (engine o) m k).core ≡ m.core)
done_after o m zero done = (done, refl)
done_after o m (suc k) done =
    let before = done_after o m k done in
    let next = done_step o (machine_after (engine o) m k) before.0 in (next.0, next.1 ∙ before.1)

-- THE END

-- a run from here comes to its end
pub record HasEnd (o : Object) (start : Machine (List Frame)) : Type 0 where
  pub steps : ℕ
  pub over : IsOver (machine_after (engine o) start steps)

-- and has told just this there
pub record TellsAtEnd (o : Object) (start : Machine (List Frame)) (told : List (ℕ × Report)) : Type 0 where
  pub end : Ended
  pub ends : EndsByCode (engine o) start end
  pub told_is : end.told ≡ told

module _ (o : Object) (start : Machine (List Frame)) (end : HasEnd o start) where
  abbrev after : ℕ → Machine (List Frame)
  after n = machine_after (engine o) start n

  at_end : (told : List (ℕ × Report)) → (after end.steps).core.told ≡ told → TellsAtEnd o start told
  at_end told is = record {
    end = ended_of (after end.steps).core (machine_offers (after end.steps));
    ends = record { steps = end.steps; settled = end.over.settled; no_mark = end.over.no_mark; is = refl };
    told_is = is;
  }

  stays_there : (n : ℕ) → end.steps ≤ n → after n ≡ after end.steps
  stays_there n up =
      let e : n ≡ end.steps + (n - end.steps) = omega arith in
      ap after e ∙ same_later (engine o) start end.steps (n - end.steps) end.over

  -- what was told on the way was told first
  pub tells_first : (n : ℕ) →
      (more : List (ℕ × Report)) × TellsAtEnd o start ((machine_after (engine o) start n).core.told ++ more)
  tells_first n = by_order (cases_lt end.steps n)
    where
      by_order : (end.steps < n) ⊎ (n ≤ end.steps) →
          (more : List (ℕ × Report)) × TellsAtEnd o start ((after n).core.told ++ more)
      by_order (inl before) = (
        [],
        at_end ((after n).core.told ++ [])
            (ap (λ (m : Machine (List Frame)). m.core.told) (sym (stays_there n (omega arith)))
            ∙ sym (append-nil (after n).core.told)),
      )
      by_order (inr up) =
          let e : end.steps ≡ n + (end.steps - n) = omega arith in
          let more = after_tells (engine o) start n (end.steps - n) in
          (more.0, at_end ((after n).core.told ++ more.0) (ap (λ k. (after k).core.told) e ∙ more.1))

  -- and all of it, where no mark came any more
  pub tells_when_done : (n : ℕ) → IsDone (machine_after (engine o) start n) →
      TellsAtEnd o start (machine_after (engine o) start n).core.told
  tells_when_done n done = by_order (cases_lt end.steps n)
    where
      by_order : (end.steps < n) ⊎ (n ≤ end.steps) → TellsAtEnd o start (after n).core.told
      by_order (inl before) =
          at_end (after n).core.told
          (ap (λ (m : Machine (List Frame)). m.core.told) (sym (stays_there n (omega arith))))
      by_order (inr up) =
          let e : end.steps ≡ n + (end.steps - n) = omega arith in
          at_end (after n).core.told
          (ap (λ k. (after k).core.told) e
          ∙ ap (λ (m : Machine (List Frame)). m.core.told) (steps_add (engine o) start n (end.steps - n))
          ∙ ap (λ (core : Core). core.told) (done_after o (after n) (end.steps - n) done).1)

-- a run ends in one way, wherever it begins
pub end_once : {S : Type 0} (e : Engine S) (start : Machine S) (end other : Ended) → EndsByCode e start end →
    EndsByCode e start other → end ≡ other
end_once e start end other one two =
    one.is
    ∙ ap (λ m. ended_of m.core (machine_offers m)) (one_machine e start one.steps two.steps
    (record { settled = one.settled; no_mark = one.no_mark }) (record { settled = two.settled; no_mark = two.no_mark }))
    ∙ sym two.is
