-- The moment of a run and the time in the entries left come to the same at each step.
use Rattle.std.proofs.Common.{◌≡◌, ℕ, zero, suc, ◌+◌, List, [], ◌∷◌, Option, Some, None, refl, sym, ap, subst, ◌∙◌}
use Rattle.std.proofs.Common.{zero-add, arith}
use Rattle.pearl_rules.specs.declared.action.Action.{Action}
use Rattle.pearl_rules.specs.declared.entry.Entry.{Entry}
use Rattle.pearl_rules.specs.declared.entry.Entry.TheVariants.{Run, Tick, Pass}
use Rattle.pearl_rules.specs.Core.{Core}
use Rattle.pearl_rules.specs.Devices.{arrived}
use Rattle.pearl_rules.specs.Effect.{effect}
use Rattle.pearl_rules.specs.Entries.{time_in}
use Rattle.pearl_rules.specs.Pick.{pick}
use Rattle.pearl_rules.specs.Plans.{millisecond}
use Rattle.pearl_rules.specs.Runs.{Mark, Acts, Turns, Tells, Passes, Arrives, Coming, next_mark, kept_at, Engine}
use Rattle.pearl_rules.specs.Runs.{Running, Machine, machine_offers, machine_next, machine_does, machine_acts}
use Rattle.pearl_rules.specs.Runs.{machine_mark, machine_step, machine_after, unsettled}
use Rattle.pearl_rules.proofs.Offered.{turned-is}
use Rattle.pearl_run_laws.specs.GoingOn.{over}
use Rattle.pearl_run_laws.specs.Laws.{MomentsCome}
use Rattle.pearl_run_laws.proofs.Steps.{step_by, step_mark}

-- how many milliseconds pass by a mark
abbrev passing : Mark → ℕ
passing Passes = 1
passing mark = 0

-- the time in entries is that which passes by the next mark and that in the others; where none comes none is left
abbrev SplitsTime : List Entry → Option Coming → Type 0
SplitsTime es None = time_in es ≡ 0
SplitsTime es (Some coming) = time_in es ≡ passing coming.mark + time_in coming.rest

-- of entries with as much time as those behind them
as_behind : (es behind : List Entry) (coming : Option Coming) → time_in es ≡ time_in behind →
    SplitsTime behind coming → SplitsTime es coming
as_behind es behind None same splits = same ∙ splits
as_behind es behind (Some coming) same splits = same ∙ splits

next_time : (picked : Option ℕ) (es : List Entry) → SplitsTime es (next_mark picked es)
next_time picked [] = refl
next_time None (Run n ∷ es) = as_behind (Run n ∷ es) es (next_mark None es) refl (next_time None es)
next_time (Some t) (Run zero ∷ es) = as_behind (Run zero ∷ es) es (next_mark (Some t) es) refl (next_time (Some t) es)
next_time (Some t) (Run (suc n) ∷ es) = sym (zero-add (time_in es))
next_time picked (Tick zero ∷ es) =
    as_behind (Tick zero ∷ es) es (next_mark picked es) (zero-add (time_in es)) (next_time picked es)
next_time picked (Tick (suc n) ∷ es) = let one : suc n + time_in es ≡ 1 + (n + time_in es) = omega arith in one
next_time picked (Pass zero picks ∷ es) =
    as_behind (Pass zero picks ∷ es) es (next_mark picked es) (zero-add (time_in es)) (next_time picked es)
next_time picked (Pass (suc n) picks ∷ es) = let one : suc n + time_in es ≡ 1 + (n + time_in es) = omega arith in one
next_time picked (other ∷ es) = sym (zero-add (time_in es))

-- time passes by milliseconds alone
abbrev pub ActsLeave : Type 0
ActsLeave = (core : Core) (own : ℕ) (action : Action) → (effect core own action).core.moment ≡ core.moment

abbrev pub MillisecondsPass : Type 0
MillisecondsPass = (core : Core) → (millisecond core).moment ≡ core.moment + 1

abbrev pub ArrivalsLeave : Type 0
ArrivalsLeave = (core : Core) (entry : Entry) → (arrived core entry).moment ≡ core.moment

-- the moment, and the time that is left
abbrev due : {S : Type 0} → Machine S → ℕ
due m = m.core.moment + time_in m.entries

module _ (acts : ActsLeave) (passes : MillisecondsPass) (arrives : ArrivalsLeave) {S : Type 0} (engine : Engine S) where
  acts_due : (m : Machine S) (t : ℕ) (rest : List Entry) (x : Option (Running S)) →
      time_in m.entries ≡ 0 + time_in rest →
      due (machine_acts engine m t rest x) ≡ due m
  acts_due m t rest None left = refl
  acts_due m t rest (Some running) left = by_offer running.offer
    where
      by_offer : (offered : Option Action) → due (machine_does engine m t rest running.stack offered) ≡ due m
      by_offer None = refl
      by_offer (Some action) = let same = acts m.core t action in omega (arith, same, left)

  mark_due : (m : Machine S) (mark : Mark) (rest : List Entry) → time_in m.entries ≡ passing mark + time_in rest →
      due (machine_mark engine m mark rest) ≡ due m
  mark_due m (Acts t) rest left = acts_due m t rest (kept_at m.running t) left
  mark_due m (Turns t) rest left =
      let same = ap (λ c. c.moment) (turned-is m.core (machine_offers m) t) in omega (arith, same, left)
  mark_due m Tells rest left = omega (arith, left)
  mark_due m Passes rest left = let one = passes m.core in omega (arith, one, left)
  mark_due m (Arrives entry) rest left = let same = arrives m.core entry in omega (arith, same, left)

  step_due : (m : Machine S) → due (machine_step engine m) ≡ due m
  step_due m = by_unsettled (unsettled m) refl
    where
      by_next : unsettled m ≡ None → (x : Option Coming) → machine_next m ≡ x → SplitsTime m.entries x →
          due (machine_step engine m) ≡ due m
      by_next settled None next splits = ap due (step_mark engine m None settled next)
      by_next settled (Some coming) next splits =
          ap due (step_mark engine m (Some coming) settled next) ∙ mark_due m coming.mark coming.rest splits

      by_unsettled : (x : Option (ℕ × S)) → unsettled m ≡ x → due (machine_step engine m) ≡ due m
      by_unsettled None settled =
          by_next settled (machine_next m) refl (next_time (pick m.core (machine_offers m)) m.entries)
      by_unsettled (Some x) is = ap due (step_by engine m (Some x) is)

  after_due : (m : Machine S) (n : ℕ) → due (machine_after engine m n) ≡ due m
  after_due m zero = refl
  after_due m (suc n) = step_due (machine_after engine m n) ∙ after_due m n

pub moments_come : ActsLeave → MillisecondsPass → ArrivalsLeave → {S : Type 0} → MomentsCome S
moments_come acts passes arrives engine m es n ends =
    let last = machine_after engine (over m es) n in
    let all = after_due acts passes arrives engine (over m es) n in
    let none : time_in last.entries ≡ 0 =
    subst (λ x. SplitsTime last.entries x) ends.no_mark
    (next_time (pick last.core (machine_offers last)) last.entries) in
    omega (arith, all, none)
