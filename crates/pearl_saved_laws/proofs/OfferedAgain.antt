-- A machine of which no task has offered anything offers again what was offered, task after task, before any mark.
use Rattle.std.proofs.Common.{◌≡◌, ◌≢◌, ℕ, zero, suc, ◌+◌, ◌<◌, List, [], ◌∷◌, ◌++◌, Option, Some, None, length}
use Rattle.std.proofs.Common.{slice_set, refl, sym, ap, subst, ◌∙◌, add-zero, zero-add, append_assoc, arith}
use Rattle.std.specs.Prelude.{map, option_map}
use Rattle.std.proofs.lemmas.Option.{none-some}
use Rattle.pearl_rules.specs.declared.action.Action.{Action}
use Rattle.pearl_rules.specs.declared.entry.Entry.{Entry}
use Rattle.pearl_rules.specs.Core.{Core}
use Rattle.pearl_rules.specs.Runs.{Offers, Engine, Running, Machine, kept_at, unsettled_here, unsettled_from, unsettled}
use Rattle.pearl_rules.specs.Runs.{stepped, machine_step, machine_after}
use Rattle.pearl_stack.specs.Frames.{Frame}
use Rattle.pearl_machine.specs.Resumed.{unoffered}
use Rattle.pearl_saved_laws.proofs.Steps.{step_silent, after_first}

abbrev Row : Type 0
Row = List (Option (Running (List Frame)))

-- a task with this stack, and what it has offered
abbrev standing : List Frame → Option Action → Option (Running (List Frame))
standing stack offer = Some (record { stack = stack; offer = offer })

-- the unsettled task
abbrev task : List Frame → ℕ → Option (ℕ × List Frame)
task stack t = Some (t, stack)

-- ---- who has offered

-- a task that has offered isn't the unsettled one
passed_over : (t : ℕ) (stack : List Frame) (offer : Option Action) (action : Action)
    (later : Option (ℕ × List Frame)) → offer ≡ Some action → unsettled_here t (standing stack offer) later ≡ later
passed_over t stack offer action later e =
    ap (λ x. unsettled_here t (standing stack x) later) e

-- each of these has offered
abbrev HaveOffered : Row → Type 0
HaveOffered [] = Unit {0}
HaveOffered (None ∷ xs) = HaveOffered xs
HaveOffered (Some running ∷ xs) = ((action : Action) × (running.offer ≡ Some action)) × HaveOffered xs

one_more : (xs : Row) (x : Option (Running (List Frame))) → HaveOffered xs → HaveOffered (x ∷ []) →
    HaveOffered (xs ++ x ∷ [])
one_more [] x all new = new
one_more (None ∷ xs) x all new = one_more xs x all new
one_more (Some running ∷ xs) x all new = (all.0, one_more xs x all.1 new)

-- the first that hasn't
first_is : (t : ℕ) (before : Row) (stack : List Frame) (after : Row) → HaveOffered before →
    unsettled_from t (before ++ standing stack None ∷ after) ≡ Some (t + length before, stack)
first_is t [] stack after all = ap (task stack) (sym (add-zero t))
first_is t (None ∷ before) stack after all =
    let e : (t + 1) + length before ≡ t + suc (length before) = omega arith in
    first_is (t + 1) before stack after all ∙ ap (task stack) e
first_is t (Some running ∷ before) stack after all =
    let e : (t + 1) + length before ≡ t + suc (length before) = omega arith in
    passed_over t running.stack running.offer all.0.0
    (unsettled_from (t + 1) (before ++ standing stack None ∷ after)) all.0.1
    ∙ first_is (t + 1) before stack after all.1 ∙ ap (task stack) e

set_first : (before : Row) (x y : Option (Running (List Frame))) (after : Row) →
    slice_set (before ++ x ∷ after) (length before) y ≡ before ++ y ∷ after
set_first [] x y after = refl
set_first (z ∷ before) x y after = ap (λ xs. let r : Row = z ∷ xs in r) (set_first before x y after)

one_longer : (before : Row) (x : Option (Running (List Frame))) → length (before ++ x ∷ []) ≡ length before + 1
one_longer [] x = refl
one_longer (y ∷ before) x = let e = one_longer before x in omega (arith, e)

module _ (engine : Engine (List Frame)) where
  -- each of these offers at once what it has offered; the first has the number t
  abbrev pub OfferAtOnce : ℕ → List (Option (Running (List Frame))) → Type 0
  OfferAtOnce t [] = Unit {0}
  OfferAtOnce t (None ∷ xs) = OfferAtOnce (t + 1) xs
  OfferAtOnce t (Some running ∷ xs) =
      ((action : Action) × (running.offer ≡ Some action) × (engine.step t running.stack ≡ Offers action))
      × OfferAtOnce (t + 1) xs

  -- so it is where nothing is unsettled
  pub offer_at_once : (t : ℕ) (xs : List (Option (Running (List Frame)))) → unsettled_from t xs ≡ None →
      ((i : ℕ) (running : Running (List Frame)) (action : Action) → kept_at xs i ≡ Some running →
      running.offer ≡ Some action → engine.step (t + i) running.stack ≡ Offers action) → OfferAtOnce t xs
  offer_at_once t [] e honest = tt
  offer_at_once t (None ∷ xs) e honest = offer_at_once (t + 1) xs e (λ i running action here offered.
      let same : t + suc i ≡ (t + 1) + i = omega arith in
      subst (λ n. engine.step n running.stack ≡ Offers action) same (honest (suc i) running action here offered))
  offer_at_once t (Some running ∷ xs) e honest = by (offer_at_once (t + 1) xs) running.offer refl
    where
      Honest : Type 0
      Honest = (i : ℕ) (other : Running (List Frame)) (action : Action) → kept_at xs i ≡ Some other →
          other.offer ≡ Some action → engine.step ((t + 1) + i) other.stack ≡ Offers action

      later : Honest
      later i other action here offered =
          let same : t + suc i ≡ (t + 1) + i = omega arith in
          subst (λ n. engine.step n other.stack ≡ Offers action) same (honest (suc i) other action here offered)

      by : (unsettled_from (t + 1) xs ≡ None → Honest → OfferAtOnce (t + 1) xs) → (offer : Option Action) →
          running.offer ≡ offer → OfferAtOnce t (Some running ∷ xs)
      by rest None none =
          let unsettled : unsettled_from t (Some running ∷ xs) ≡ Some (t, running.stack) =
          ap (λ x. unsettled_here t (standing running.stack x) (unsettled_from (t + 1) xs)) none in
          absurd (none-some (t, running.stack) (sym e ∙ unsettled))
      by rest (Some action) offered = (
        (
          action,
          offered,
          subst (λ n. engine.step n running.stack ≡ Offers action) (add-zero t)
              (honest 0 running action refl offered),
        ),
        rest (sym (passed_over t running.stack running.offer action (unsettled_from (t + 1) xs) offered) ∙ e) later,
      )

  module _ (core : Core) (es : List Entry) where
    abbrev at : Row → Machine (List Frame)
    at xs = record { core = core; running = xs; entries = es }

    -- from one row the machine comes to another, and before each step something is unsettled
    pub record Comes (from to : List (Option (Running (List Frame)))) : Type 0 where
      pub steps : ℕ
      pub is : machine_after engine (record { core = core; running = from; entries = es }) steps
          ≡ record { core = core; running = to; entries = es }
      pub each : (i : ℕ) → i < steps →
          unsettled (machine_after engine (record { core = core; running = from; entries = es }) i) ≢ None

    stays : (xs : Row) → Comes xs xs
    stays xs = record { steps = 0; is = refl; each = λ i less. let no : ⊥ = omega (arith, less) in absurd no }

    one_step : (xs ys zs : Row) (u : ℕ) (stack : List Frame) → unsettled (at xs) ≡ Some (u, stack) →
        machine_step engine (at xs) ≡ at ys → Comes ys zs → Comes xs zs
    one_step xs ys zs u stack e step comes = record {
      steps = suc comes.steps;
      is = sym (after_first engine (at xs) comes.steps) ∙ ap (λ m. machine_after engine m comes.steps) step ∙ comes.is;
      each = each;
    }
      where
        each : (i : ℕ) → i < suc comes.steps → unsettled (machine_after engine (at xs) i) ≢ None
        each zero less none = none-some (u, stack) (sym none ∙ e)
        each (suc i) less none =
            comes.each i (omega (arith, less))
            (ap (λ m. unsettled (machine_after engine m i)) (sym step)
            ∙ ap (λ m. unsettled m) (after_first engine (at xs) i) ∙ none)

    offers_next : (before after : Row) (running : Running (List Frame)) (action : Action) → HaveOffered before →
        running.offer ≡ Some action → engine.step (length before) running.stack ≡ Offers action →
        machine_step engine (at (before ++ Some (unoffered running) ∷ after)) ≡ at (before ++ Some running ∷ after)
    offers_next before after running action all offered step =
        step_silent engine (at (before ++ Some (unoffered running) ∷ after)) (length before) running.stack
        (first_is 0 before running.stack after all ∙ ap (task running.stack) (zero-add (length before)))
        ∙ ap at (set_first before (Some (unoffered running))
        (Some (stepped running.stack (engine.step (length before) running.stack))) after)
        ∙ ap (λ done. at (before ++ Some (stepped running.stack done) ∷ after)) step
        ∙ ap (λ offer. at (before ++ standing running.stack offer ∷ after)) (sym offered)

    pub come_again : (before after : List (Option (Running (List Frame)))) → HaveOffered before →
        OfferAtOnce (length before) after → Comes (before ++ map (option_map unoffered) after) (before ++ after)
    come_again before [] all once = stays (before ++ [])
    come_again before (None ∷ after) all once =
        let next = come_again (before ++ None ∷ []) after (one_more before None all tt)
        (subst (λ n. OfferAtOnce n after) (sym (one_longer before None)) once) in
        subst (λ xs. Comes xs (before ++ None ∷ after))
        (append_assoc before (None ∷ []) (map (option_map unoffered) after))
        (subst (λ ys. Comes ((before ++ None ∷ []) ++ map (option_map unoffered) after) ys)
        (append_assoc before (None ∷ []) after) next)
    come_again before (Some running ∷ after) all once =
        let offer = once.0 in
        let later = map (option_map unoffered) after in
        let next = come_again (before ++ Some running ∷ []) after
        (one_more before (Some running) all ((offer.0, offer.1), tt))
        (subst (λ n. OfferAtOnce n after) (sym (one_longer before (Some running))) once.1) in
        one_step (before ++ Some (unoffered running) ∷ later) (before ++ Some running ∷ later)
        (before ++ Some running ∷ after)
        (length before) running.stack
        (first_is 0 before running.stack later all ∙ ap (task running.stack) (zero-add (length before)))
        (offers_next before later running offer.0 all offer.1 offer.2)
        (subst (λ xs. Comes xs (before ++ Some running ∷ after)) (append_assoc before (Some running ∷ []) later)
        (subst (λ ys. Comes ((before ++ Some running ∷ []) ++ later) ys)
        (append_assoc before (Some running ∷ []) after) next))
