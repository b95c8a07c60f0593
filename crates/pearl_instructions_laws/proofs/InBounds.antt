-- Each state of a valid object's run is in bounds.
use Rattle.std.proofs.Common.{◌≡◌, inl, inr, ℕ, suc, ◌+◌, ◌<◌, ◌≤◌, List, [], ◌∷◌, ◌++◌, true, false, Option, Some, None, length, map, slice_get, refl, sym, ap, subst, ◌∙◌, zero-add, arith}
use Rattle.std.specs.Prelude.{is_some, option_map}
use Rattle.std.proofs.lemmas.List.{length-map}
use Rattle.std.proofs.lemmas.Option.{slice_get-map}
use Rattle.pearl_rules.specs.declared.entry.Entry.{Entry}
use Rattle.pearl_rules.specs.Core.{is_active}
use Rattle.pearl_rules.specs.Entries.{AreFitting}
use Rattle.pearl_rules.specs.Runs.{Running, kept_at}
use Rattle.pearl_rules.proofs.Offered.{there_at, stands_at, has_kinds}
use Rattle.pearl_stack.specs.Frames.{Frame, used}
use Rattle.pearl_instructions.specs.declared.object.Task.{Task}
use Rattle.pearl_instructions.specs.declared.object.Parts.{Parts as Object}
use Rattle.pearl_instructions.specs.Engines.{engine, machine_run}
use Rattle.pearl_instructions.specs.Laws.{HasTask, Leads, KeepsDepth, CountsFrames, OffersWhatIsThere}
use Rattle.pearl_instructions.specs.Lawful.{IsObject}
use Rattle.pearl_instructions.specs.Objects.{routine_at}
use Rattle.pearl_instructions.specs.Owned.{IsOfTask}
use Rattle.pearl_instructions.specs.Owners.{IsStackOf, StandsIn}
use Rattle.pearl_instructions.specs.OwnOffers.{CodeStands, StandsAfter, own_offer}
use Rattle.pearl_instructions.specs.RunLaws.{AreTables}
use Rattle.pearl_instructions.specs.Rows.{row}
use Rattle.pearl_instructions.specs.Setups.{entry_of, setup_of}
use Rattle.pearl_instructions.specs.Stacks.{task_of, depth_or_none, room, Goes}
use Rattle.pearl_instructions.specs.Valid.{IsValid}
use Rattle.pearl_instructions.proofs.Offered.{offers_is}
use Rattle.pearl_instructions_laws.specs.Bounds.{IsInBounds}
use Rattle.pearl_instructions_laws.specs.Laws.{TasksHaveStacks, OffersAreNext, RunsStayInBounds, RunsKeepKinds}
use Rattle.pearl_instructions_laws.proofs.Stepping.{next_is, run_keeps}

-- WHO HAS A STACK

pub tasks_have_stacks : TasksHaveStacks
tasks_have_stacks o es n = record {
  active = λ t is. something (kept_at (machine_run o es n).running t) (filled t ∙ is);
  dormant = λ t not. nothing (kept_at (machine_run o es n).running t) (filled t ∙ not);
}
  where
    filled : (t : ℕ) → is_some (kept_at (machine_run o es n).running t) ≡ is_active (machine_run o es n).core t
    filled = (run_keeps (engine o) (setup_of o) es n).filled

    something : (x : Option (Running (List Frame))) → is_some x ≡ true →
        (running : Running (List Frame)) × (x ≡ Some running)
    something None e = cc
    something (Some running) e = (running, refl)

    nothing : (x : Option (Running (List Frame))) → is_some x ≡ false → x ≡ None
    nothing None e = refl
    nothing (Some running) e = cc

pub offers_are_next : OffersAreNext
offers_are_next o es n t running action e offered =
    offers_is (row o running.stack) action ((run_keeps (engine o) (setup_of o) es n).honest t running action e offered)

-- ONE TASK'S STACK

-- the routine of a task comes behind those of the procedures
behind : {A : Type 0} (xs ys : List A) (t : ℕ) → slice_get (xs ++ ys) (length xs + t) ≡ slice_get ys t
behind [] ys t = ap (slice_get ys) (zero-add t)
behind (x ∷ xs) ys t =
    let e : length (x ∷ xs) + t ≡ suc (length xs + t) = omega arith in
    ap (slice_get (x ∷ (xs ++ ys))) e ∙ behind xs ys t

task_routine : (o : Object) (t : ℕ) (task : Task) → slice_get o.tasks t ≡ Some task →
    routine_at o (length o.procedures + t) ≡ Some task.code
task_routine o t task e =
    let codes = map (λ p. p.code) o.procedures in
    ap (λ n. routine_at o (n + t)) (sym (length-map o.procedures (λ p. p.code)))
    ∙ (behind codes (map (λ (t : Task). t.code) o.tasks) t
    ∙ (slice_get-map (λ (t : Task). t.code) o.tasks t ∙ ap (option_map (λ (t : Task). t.code)) e))

-- so much is stated by the task whose stack it is
room_is : (o : Object) (t : ℕ) (frames : List Frame) → IsOfTask o t frames →
    room o frames ≡ depth_or_none (routine_at o (length o.procedures + t))
room_is o t [] own = absurd own
room_is o t (f ∷ []) own = ap (λ r. depth_or_none (routine_at o r)) own
room_is o t (f ∷ g ∷ lower) own = room_is o t (g ∷ lower) own

in_bounds : HasTask → Leads → KeepsDepth → CountsFrames → (o : Object) → IsValid o → IsObject o → (t : ℕ)
    (frames : List Frame) → t < length o.tasks → IsStackOf o t frames → IsInBounds o t frames
in_bounds has leads keeps counts o valid lawful t frames less is =
    let found = there_at o.tasks t less in
    let own = subst (λ n. IsOfTask o n frames) is.task (has o frames is.stack).1 in
    let states : room o frames ≡ found.0.code.depth =
    room_is o t frames own ∙ ap depth_or_none (task_routine o t found.0 found.1) in
    record {
      task = found.0;
      there = found.1;
      stack = is.stack;
      own = own;
      row = λ missing. absurd (subst (Goes o (task_of o frames)) missing (leads o valid lawful frames is.stack));
      depth = subst (λ most. used frames ≤ most) states (keeps o valid frames is.stack);
      few = counts o valid frames is.stack;
    }

-- WHOLE RUNS

module _ (stand : CodeStands) (tables : AreTables) (o : Object) (valid : IsValid o) (lawful : IsObject o)
    (es : List Entry) (fit : AreFitting (setup_of o) es) where
  -- the stack of each task that has one is the task's own
  own_stack : (n t : ℕ) (running : Running (List Frame)) → kept_at (machine_run o es n).running t ≡ Some running →
      (t < length o.tasks) × IsStackOf o t running.stack
  own_stack n t running e =
      let at = stands_at (own_offer o) (engine o) (StandsAfter o) (setup_of o) (tables o lawful).slots
      (tables o lawful).devices (stand o valid lawful) es fit n t running e in
      let count = length-map o.tasks entry_of in
      let less : t < length o.tasks = subst (λ k. t < k) count at.1 in
      (less, by less at.2.own)
    where
      by : t < length o.tasks → StandsIn o t running.stack → IsStackOf o t running.stack
      by less (inl is) = is
      by less (inr none) = let past = none.past in absurd (omega (arith, less, past))

pub runs_stay_in_bounds : TasksHaveStacks → OffersAreNext → CodeStands → AreTables → HasTask → Leads → KeepsDepth →
    CountsFrames → OffersWhatIsThere → RunsStayInBounds
runs_stay_in_bounds stacks nexts stand tables has leads keeps counts names o valid lawful es fit n = record {
  stacks = stacks o es n;
  each = each;
  next = λ t frames e. each t (record { stack = frames; offer = None }) (next_is (machine_run o es n) t frames e);
  offers = λ t running action e offered.
      let next = nexts o es n t running action e offered in
      (next, names o valid lawful running.stack (own t running e).1.stack action next.0 next.1);
}
  where
    own : (t : ℕ) (running : Running (List Frame)) → kept_at (machine_run o es n).running t ≡ Some running →
        (t < length o.tasks) × IsStackOf o t running.stack
    own = own_stack stand tables o valid lawful es fit n

    each : (t : ℕ) (running : Running (List Frame)) → kept_at (machine_run o es n).running t ≡ Some running →
        IsInBounds o t running.stack
    each t running e =
        let is = own t running e in in_bounds has leads keeps counts o valid lawful t running.stack is.0 is.1

pub runs_keep_kinds : CodeStands → AreTables → RunsKeepKinds
runs_keep_kinds stand tables o valid lawful es fit n =
    has_kinds (own_offer o) (engine o) (StandsAfter o) (setup_of o) (tables o lawful).slots (tables o lawful).devices
    (stand o valid lawful) es fit n
