-- What one action of a task makes of a run, and that `run` comes to so many of them.
use Rattle.std.proofs.Common.{◌≡◌, ◌≢◌, ℕ, zero, suc, ◌+◌, ◌<◌, List, [], ◌∷◌, ◌++◌, Bool, true, false, nat_eq, IsTrue, Option, Some, None, refl, sym, ap, subst, ◌∙◌, zero-add, eqb-true, ◌-◌, arith}
use Rattle.std.specs.List.{Contains}
use Rattle.std.proofs.lemmas.Bool.{eqb-false}
use Rattle.pearl_rules.specs.declared.action.Action.{Action}
use Rattle.pearl_rules.specs.declared.action.Answer.{Answer}
use Rattle.pearl_rules.specs.declared.entry.Entry.{Entry}
use Rattle.pearl_rules.specs.declared.entry.Entry.TheVariants.{Run, Turn, State}
use Rattle.pearl_rules.specs.declared.row.Mode.TheVariants.{Active}
use Rattle.pearl_rules.specs.declared.row.TaskRow.{TaskRow}
use Rattle.pearl_rules.specs.Core.{Core, row_of, mode_of_row, mode_of, is_active_mode, is_active_row, is_active}
use Rattle.pearl_rules.specs.Effect.{Reply, Hears, Ends, Effect, effect}
use Rattle.pearl_rules.specs.Pick.{pick, turned, states}
use Rattle.pearl_rules.specs.Runs.{Acts, Turns, Tells, dropped, kept_at, mapped, Supplier, Source, source_offers, heard_more, source_settled, source_acts, source_step, source_after}
use Rattle.pearl_rules.proofs.Offered.{picked, effect-ends, emptied, dropped_inside, dropped_outside, step-entries, step_source}
use Rattle.pearl_rules_laws.specs.Runs.{DoesOneAction}
use Rattle.pearl_rules_laws.proofs.Standing.{can_act}
use Rattle.pearl_rules_laws.proofs.Marks.{run_acts, turn_marks, state_marks}
use Rattle.pearl_rules_laws.proofs.Hearing.{kept_none, kept_stays, kept_anew, kept_set, heard_other, heard_none}

-- a task that stands so is active
stands_active : (core : Core) (t priority : ℕ) → mode_of core t ≡ Active priority false → IsTrue (is_active core t)
stands_active core t priority is = by_row (row_of core t) is
  where
    by_row : (o : Option TaskRow) → mode_of_row o ≡ Active priority false → IsTrue (is_active_row o)
    by_row None e = let no : ⊥ = cc in absurd no
    by_row (Some row) e = ap is_active_mode e

-- ONE ACTION

module _ (offer : Supplier) (s : Source) (t n : ℕ) (rest : List Entry) (here : s.entries ≡ Run (n + 1) ∷ rest)
    (chosen : pick s.core (source_offers offer s) ≡ Some t) where
  -- the task that acts is active
  active : IsTrue (is_active s.core t)
  active =
      let acts = can_act s.core (source_offers offer s) t (picked s.core (source_offers offer s) t chosen).eligible in
      stands_active s.core t acts.priority acts.stands

  offers_some : (action : Action) (heard : Option (List Answer)) → mapped (offer t) heard ≡ Some action →
      (before : List Answer) × (heard ≡ Some before)
  offers_some action None e = let no : ⊥ = cc in absurd no
  offers_some action (Some before) e = (before, refl)

  has_heard : (before : List Answer) × (kept_at s.heard t ≡ Some before)
  has_heard =
      let acts = can_act s.core (source_offers offer s) t (picked s.core (source_offers offer s) t chosen).eligible in
      offers_some acts.action (kept_at s.heard t) acts.offered

  module _ (before : List Answer) (heard : kept_at s.heard t ≡ Some before) where
    abbrev done : Effect
    done = effect s.core t (offer t before)

    abbrev left : List (Option (List Answer))
    left = dropped done.ended s.heard

    step_is : source_step offer s ≡ source_settled done.core (heard_more left t before done.reply) (Run n ∷ rest)
    step_is =
        step_source offer s (Some (record {
          mark =
              Acts t;
          rest = Run n ∷ rest;
        })) (run_acts offer s n t rest here chosen)
        ∙ ap (source_acts offer s t (Run n ∷ rest)) heard

    -- of the task that acts
    hears_more : (answer : Answer) → done.reply ≡ Hears answer →
        kept_at (source_step offer s).heard t ≡ Some (before ++ answer ∷ [])
    hears_more answer reply =
        let ends = effect-ends s.core t (offer t before) in
        let after = ends.hears answer reply active in
        let outside : Contains done.ended t → ⊥ = ends.goes_on answer reply in
        ap (λ x. kept_at x.heard t) step_is
        ∙ kept_stays done.core.tasks (heard_more left t before done.reply) t (before ++ answer ∷ []) after
        (ap (λ r. kept_at (heard_more left t before r) t) reply
        ∙ kept_set left t before (before ++ answer ∷ []) (dropped_outside done.ended s.heard t outside ∙ heard))

    -- and of another one
    active_then : (u : ℕ) → IsTrue (is_active (source_step offer s).core u) → IsTrue (is_active done.core u)
    active_then u is = sym (ap (λ x. is_active x.core u) step_is) ∙ is

    others_stay : (u : ℕ) (answers : List Answer) → u ≢ t → (Contains done.ended u → ⊥) →
        kept_at s.heard u ≡ Some answers →
        IsTrue (is_active (source_step offer s).core u) → kept_at (source_step offer s).heard u ≡ Some answers
    others_stay u answers differ outside is after =
        ap (λ x. kept_at x.heard u) step_is
        ∙ kept_stays done.core.tasks (heard_more left t before done.reply) u answers (active_then u after)
        (heard_other left t u before done.reply differ ∙ dropped_outside done.ended s.heard u outside ∙ is)

    -- one that ended has heard nothing, also where it is active again
    anew_then : (u : ℕ) → Contains done.ended u → IsTrue (is_active (source_step offer s).core u) →
        kept_at (source_step offer s).heard u ≡ Some []
    anew_then u inside after =
        ap (λ x. kept_at x.heard u) step_is
        ∙ kept_anew done.core.tasks (heard_more left t before done.reply) u (active_then u after)
        (by_task (nat_eq u t) refl)
      where
        by_reply : (reply : Reply) → done.reply ≡ reply → Contains done.ended t →
            kept_at (heard_more left t before reply) t ≡ None
        by_reply (Hears answer) is within = absurd ((effect-ends s.core t (offer t before)).goes_on answer is within)
        by_reply Ends is within = emptied left t

        by_task : (b : Bool) → nat_eq u t ≡ b → kept_at (heard_more left t before done.reply) u ≡ None
        by_task false differ =
            heard_other left t u before done.reply (eqb-false u t differ) ∙ dropped_inside done.ended s.heard u inside
        by_task true same =
            subst (λ v. kept_at (heard_more left t before done.reply) v ≡ None) (sym (eqb-true u t same))
            (by_reply done.reply refl (subst (λ v. Contains done.ended v) (eqb-true u t same) inside))

    started_anew : (u : ℕ) → kept_at s.heard u ≡ None → IsTrue (is_active (source_step offer s).core u) →
        kept_at (source_step offer s).heard u ≡ Some []
    started_anew u is after =
        ap (λ x. kept_at x.heard u) step_is
        ∙ kept_anew done.core.tasks (heard_more left t before done.reply) u (active_then u after)
        (heard_none s.heard done.ended t u before done.reply heard is)

    gone_then : (u : ℕ) → is_active (source_step offer s).core u ≡ false → kept_at (source_step offer s).heard u ≡ None
    gone_then u is =
        ap (λ x. kept_at x.heard u) step_is
        ∙ kept_none 0 done.core.tasks (heard_more left t before done.reply) u
        (sym (ap (λ x. is_active x.core u) step_is) ∙ is)

    does_with : DoesOneAction offer s t
    does_with = record {
      before = before;
      heard = heard;
      changes = ap (λ x. x.core) step_is;
      hears = hears_more;
      others = others_stay;
      anew = anew_then;
      started = started_anew;
      dormant = gone_then;
    }

  one_action : DoesOneAction offer s t
  one_action = does_with has_heard.0 has_heard.1

  one_less : (source_step offer s).entries ≡ Run n ∷ rest
  one_less =
      step-entries offer s (record { mark = Acts t; rest = Run n ∷ rest }) (run_acts offer s n t rest here chosen)

-- SO MANY OF THEM

-- somebody can act after each of the first n marks
abbrev CanGoOn : Supplier → Source → ℕ → Type 0
CanGoOn offer s n =
    (k : ℕ) → k < n → pick (source_after offer s k).core (source_offers offer (source_after offer s k)) ≢ None

pub run_leaves : (offer : Supplier) (s : Source) (n more : ℕ) (rest : List Entry) → s.entries ≡ Run (n + more) ∷ rest →
    CanGoOn offer s n →
    (source_after offer s n).entries ≡ Run more ∷ rest
run_leaves offer s zero more rest e goes = e ∙ ap (λ k. Run k ∷ rest) (zero-add more)
run_leaves offer s (suc n) more rest e goes =
    let same : suc n + more ≡ n + (more + 1) = omega arith in
    let before = run_leaves offer s n (more + 1) rest (e ∙ ap (λ k. Run k ∷ rest) same)
    (λ k less. goes k (omega (arith, less))) in
    by_pick (pick (source_after offer s n).core (source_offers offer (source_after offer s n))) refl before
  where
    by_pick : (o : Option ℕ) → pick (source_after offer s n).core (source_offers offer (source_after offer s n)) ≡ o →
        (source_after offer s n).entries ≡ Run (more + 1) ∷ rest →
        (source_step offer (source_after offer s n)).entries ≡ Run more ∷ rest
    by_pick None nobody before = absurd (goes n (omega arith) nobody)
    by_pick (Some t) chosen before = one_less offer (source_after offer s n) t more rest before chosen

pub run_acts_on : (offer : Supplier) (s : Source) (n more : ℕ) (rest : List Entry) →
    s.entries ≡ Run (n + more) ∷ rest → CanGoOn offer s n →
    (k t : ℕ) → k < n → pick (source_after offer s k).core (source_offers offer (source_after offer s k)) ≡ Some t →
    DoesOneAction offer (source_after offer s k) t
run_acts_on offer s n more rest e goes k t less chosen =
    let later : ℕ = n - suc k + more in
    let same : n + more ≡ k + (later + 1) = omega (arith, less) in
    one_action offer (source_after offer s k) t later rest
    (run_leaves offer s k (later + 1) rest (e ∙ ap (λ j. Run j ∷ rest) same)
    (λ j before. goes j (omega (arith, before, less)))) chosen

-- TURNS AND STATES

pub turn_core : (offer : Supplier) (s : Source) (t : ℕ) (rest : List Entry) → s.entries ≡ Turn t ∷ rest →
    (source_step offer s).core ≡ turned s.core (source_offers offer s) t
turn_core offer s t rest here =
    ap (λ x. x.core) (step_source offer s (Some (record {
      mark =
          Turns t;
      rest = rest;
    })) (turn_marks offer s t rest here))

pub state_core : (offer : Supplier) (s : Source) (rest : List Entry) → s.entries ≡ State ∷ rest →
    (source_step offer s).core ≡ record s.core { told = s.core.told ++ states s.core (source_offers offer s) }
state_core offer s rest here =
    ap (λ x. x.core) (step_source offer s (Some (record { mark = Tells; rest = rest })) (state_marks offer s rest here))
