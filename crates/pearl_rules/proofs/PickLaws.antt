-- Which task is picked: the rule of `pick`, task by task, is the rule in the subject's words.
use Rattle.std.proofs.Common.{◌≡◌, ◌≢◌, ℕ, zero, suc, ◌<◌, ◌≤◌, ◌⊎◌, inl, inr, Bool, true, false, ◌&&◌, nat_eq, nat_lt, IsTrue, ◌↔◌, Option, Some, None, length, slice_get, refl, sym, ap, ap₂, subst, ◌∙◌, eq-eqb, eqb-true, ltb-true, ltb-false, arith}
use Rattle.std.proofs.lemmas.Bool.{true≢false, eqb-false, or_cases, or_parts, and_parts, and_cases, cases_lt}
use Rattle.std.proofs.lemmas.Option.{same_Some, slice_get_within}
use Rattle.pearl_rules.specs.declared.action.Action.{Action}
use Rattle.pearl_rules.specs.declared.action.Action.TheVariants.{Request, Get, Take}
use Rattle.pearl_rules.specs.declared.row.TaskRow.{TaskRow}
use Rattle.pearl_rules.specs.Core.{Core, row_of}
use Rattle.pearl_rules.specs.Counts.{all_free}
use Rattle.pearl_rules.specs.Devices.{bytes_in, values_in}
use Rattle.pearl_rules.specs.Scan.{scan}
use Rattle.pearl_rules.specs.Tables.{items_or_none}
use Rattle.pearl_rules.specs.Pick.{Offered, is_complete, is_some_value, guard, is_possible, possible_of, is_ready_row, is_eligible_by, is_eligible, priority_of, priority_of_row, is_last_of, is_last, goes_before, better_if, better, pick_first_by, pick_by, pick, IsPickedBy, IsPicked, shown_by, states_first_by, states_by, states, last_if, is_as_urgent, can_turn_by, can_turn, turned_by, turned}
use Rattle.pearl_rules.specs.Laws.{IsFirstInRankBy, IsFirstInRank}

-- who acted last, as a test
last_true : (o : Option ℕ) (t : ℕ) → is_last_of o t ≡ true → o ≡ Some t
last_true None t e = absurd (true≢false (sym e))
last_true (Some u) t e = ap Some (eqb-true u t e)

-- and that another did
last_false : (o : Option ℕ) (t : ℕ) → is_last_of o t ≡ false → o ≢ Some t
last_false o t e is = true≢false (sym (eq-eqb t t refl) ∙ subst (λ x. is_last_of x t ≡ false) is e)

-- what holds of the first n numbers and of n holds of the first n + 1
one_more : (P : ℕ → Type 0) (n : ℕ) → ((u : ℕ) → u < n → P u) → P n → (u : ℕ) → u < suc n → P u
one_more P n before here u h = by_order (cases_lt u n)
  where
    by_order : (u < n) ⊎ (n ≤ u) → P u
    by_order (inl less) = before u less
    by_order (inr up) = let e : n ≡ u = omega arith in subst P e here

-- an eligible task has a row
ready_row : (row : Option TaskRow) (possible : Bool) → is_ready_row row possible ≡ true → (r : TaskRow) × (row ≡ Some r)
ready_row None possible e = absurd (true≢false (sym e))
ready_row (Some row) possible e = (row, refl)

module _ (core : Core) (possible : ℕ → Bool) where
  -- an eligible task is one of the tasks
  pub eligible_within_by : (t : ℕ) → IsTrue (is_eligible_by core possible t) → t < length core.tasks
  eligible_within_by t e = let r = ready_row (row_of core t) (possible t) e in slice_get_within core.tasks t r.0 r.1

  -- what it is to go before another task
  before_true : (n u : ℕ) → goes_before core n u ≡ true → (priority_of core n < priority_of core u) ⊎ ((priority_of core n ≡ priority_of core u) × (core.last ≡ Some n))
  before_true n u e = go (or_cases (nat_lt (priority_of core n) (priority_of core u)) (nat_eq (priority_of core n) (priority_of core u) && is_last core n) e)
    where
      go : (nat_lt (priority_of core n) (priority_of core u) ≡ true) ⊎ ((nat_eq (priority_of core n) (priority_of core u) && is_last core n) ≡ true) →
          (priority_of core n < priority_of core u) ⊎ ((priority_of core n ≡ priority_of core u) × (core.last ≡ Some n))
      go (inl less) = inl (ltb-true (priority_of core n) (priority_of core u) less)
      go (inr both) =
          let h = and_parts (nat_eq (priority_of core n) (priority_of core u)) (is_last core n) both in
          inr (eqb-true (priority_of core n) (priority_of core u) h.0, last_true core.last n h.1)

  -- and what it is not to
  before_false : (n u : ℕ) → goes_before core n u ≡ false → (priority_of core u ≤ priority_of core n) × (priority_of core n ≡ priority_of core u → core.last ≢ Some n)
  before_false n u e =
      let h = or_parts (nat_lt (priority_of core n) (priority_of core u)) (nat_eq (priority_of core n) (priority_of core u) && is_last core n) e in
      (ltb-false (priority_of core n) (priority_of core u) h.0, go (and_cases (nat_eq (priority_of core n) (priority_of core u)) (is_last core n) h.1))
    where
      go : (nat_eq (priority_of core n) (priority_of core u) ≡ false) ⊎ (is_last core n ≡ false) → priority_of core n ≡ priority_of core u → core.last ≢ Some n
      go (inl differ) same = absurd (eqb-false (priority_of core n) (priority_of core u) differ same)
      go (inr not_last) same = last_false core.last n not_last

  -- t goes before each of the first n tasks that has the same priority and is eligible
  abbrev First : ℕ → ℕ → Type 0
  First n t = (u : ℕ) → u < n → IsTrue (is_eligible_by core possible u) → priority_of core u ≡ priority_of core t → (core.last ≢ Some u) × (t ≤ u)

  -- t is picked among the first n tasks
  record Best (n t : ℕ) : Type 0 where
    within : t < n
    eligible : IsTrue (is_eligible_by core possible t)
    urgent : (u : ℕ) → u < n → IsTrue (is_eligible_by core possible u) → priority_of core t ≤ priority_of core u
    first : (core.last ≡ Some t) ⊎ First n t

  -- what is picked among the first n tasks, or that none of them is eligible
  abbrev BestOf : ℕ → Option ℕ → Type 0
  BestOf n None = (u : ℕ) → u < n → is_eligible_by core possible u ≡ false
  BestOf n (Some t) = Best n t

  -- the new task alone is of its priority, or it acted last
  newest : (n : ℕ) → ((u : ℕ) → u < n → IsTrue (is_eligible_by core possible u) → priority_of core u ≢ priority_of core n) →
      (core.last ≡ Some n) ⊎ First (suc n) n
  newest n others = by_last (is_last core n) refl
    where
      by_last : (b : Bool) → is_last core n ≡ b → (core.last ≡ Some n) ⊎ First (suc n) n
      by_last true e = inl (last_true core.last n e)
      by_last false e = inr (one_more (λ u. IsTrue (is_eligible_by core possible u) → priority_of core u ≡ priority_of core n → (core.last ≢ Some u) × (n ≤ u)) n
          (λ u h able same. absurd (others u h able same)) (λ able same. (last_false core.last n e, omega arith)))

  -- a task that isn't eligible changes nothing
  skip : (n : ℕ) (o : Option ℕ) → is_eligible_by core possible n ≡ false → BestOf n o → BestOf (suc n) o
  skip n None not best = one_more (λ u. is_eligible_by core possible u ≡ false) n best not
  skip n (Some t) not best =
      let h = best.within in
      record {
        within = omega arith;
        eligible = best.eligible;
        urgent = one_more (λ u. IsTrue (is_eligible_by core possible u) → priority_of core t ≤ priority_of core u) n best.urgent (λ able. absurd (no able));
        first = more best.first;
      }
    where
      no : IsTrue (is_eligible_by core possible n) → ⊥
      no able = true≢false (sym able ∙ not)

      more : (core.last ≡ Some t) ⊎ First n t → (core.last ≡ Some t) ⊎ First (suc n) t
      more (inl last) = inl last
      more (inr first) = inr (one_more (λ u. IsTrue (is_eligible_by core possible u) → priority_of core u ≡ priority_of core t → (core.last ≢ Some u) × (t ≤ u)) n first
          (λ able same. absurd (no able)))

  -- the first eligible task
  only : (n : ℕ) → IsTrue (is_eligible_by core possible n) → BestOf n None → Best (suc n) n
  only n able none = record {
    within = omega arith;
    eligible = able;
    urgent = one_more (λ u. IsTrue (is_eligible_by core possible u) → priority_of core n ≤ priority_of core u) n (λ u h e. absurd (no u h e)) (λ e. omega arith);
    first = newest n (λ u h e same. no u h e);
  }
    where
      no : (u : ℕ) → u < n → IsTrue (is_eligible_by core possible u) → ⊥
      no u h e = true≢false (sym e ∙ none u h)

  -- a task that goes before the best so far
  wins : (n t : ℕ) → IsTrue (is_eligible_by core possible n) → Best n t →
      (priority_of core n < priority_of core t) ⊎ ((priority_of core n ≡ priority_of core t) × (core.last ≡ Some n)) → Best (suc n) n
  wins n t able best (inl less) = record {
    within = omega arith;
    eligible = able;
    urgent = one_more (λ u. IsTrue (is_eligible_by core possible u) → priority_of core n ≤ priority_of core u) n
        (λ u h e. let k = best.urgent u h e in omega arith) (λ e. omega arith);
    first = newest n (λ u h e same. let k = best.urgent u h e in let no : ⊥ = omega arith in no);
  }
  wins n t able best (inr (same, last)) = record {
    within = omega arith;
    eligible = able;
    urgent = one_more (λ u. IsTrue (is_eligible_by core possible u) → priority_of core n ≤ priority_of core u) n
        (λ u h e. let k = best.urgent u h e in omega arith) (λ e. omega arith);
    first = inl last;
  }

  -- a task that doesn't
  loses : (n t : ℕ) → Best n t → (priority_of core t ≤ priority_of core n) × (priority_of core n ≡ priority_of core t → core.last ≢ Some n) → Best (suc n) t
  loses n t best (above, not_last) =
      let h = best.within in
      record {
        within = omega arith;
        eligible = best.eligible;
        urgent = one_more (λ u. IsTrue (is_eligible_by core possible u) → priority_of core t ≤ priority_of core u) n best.urgent (λ e. above);
        first = more best.first;
      }
    where
      more : (core.last ≡ Some t) ⊎ First n t → (core.last ≡ Some t) ⊎ First (suc n) t
      more (inl last) = inl last
      more (inr first) = inr (one_more (λ u. IsTrue (is_eligible_by core possible u) → priority_of core u ≡ priority_of core t → (core.last ≢ Some u) × (t ≤ u)) n first
          (λ able same. let h = best.within in (not_last same, omega arith)))

  -- an eligible task against the best so far
  compared : (n t : ℕ) → IsTrue (is_eligible_by core possible n) → Best n t → (b : Bool) → goes_before core n t ≡ b → BestOf (suc n) (better_if b n t)
  compared n t able best true e = wins n t able best (before_true n t e)
  compared n t able best false e = loses n t best (before_false n t e)

  -- one more task
  step : (n : ℕ) (o : Option ℕ) → BestOf n o → (b : Bool) → is_eligible_by core possible n ≡ b → BestOf (suc n) (better core o n b)
  step n o best false e = skip n o e best
  step n None best true e = only n e best
  step n (Some t) best true e = compared n t e best (goes_before core n t) refl

  -- the first n tasks
  best : (n : ℕ) → BestOf n (pick_first_by core possible n)
  best zero = λ u h. let no : ⊥ = omega arith in absurd no
  best (suc n) = step n (pick_first_by core possible n) (best n) (is_eligible_by core possible n) refl

  -- the task that is picked is the one that the rule names
  pub picked_by : (t : ℕ) → pick_by core possible ≡ Some t → IsPickedBy core possible t
  picked_by t e =
      let b = subst (λ o. BestOf (length core.tasks) o) e (best (length core.tasks)) in
      record {
        eligible = b.eligible;
        urgent = λ u able. b.urgent u (eligible_within_by u able) able;
        first = all b.first;
      }
    where
      all : (core.last ≡ Some t) ⊎ First (length core.tasks) t →
          (core.last ≡ Some t) ⊎ ((u : ℕ) → IsTrue (is_eligible_by core possible u) → priority_of core u ≡ priority_of core t → (core.last ≢ Some u) × (t ≤ u))
      all (inl last) = inl last
      all (inr first) = inr (λ u able same. first u (eligible_within_by u able) able same)

  -- nobody is picked only where nobody is eligible
  pub picked_none_by : pick_by core possible ≡ None → (t : ℕ) → is_eligible_by core possible t ≡ false
  picked_none_by e t = by_test (is_eligible_by core possible t) refl
    where
      by_test : (b : Bool) → is_eligible_by core possible t ≡ b → is_eligible_by core possible t ≡ false
      by_test false is = is
      by_test true is = subst (λ o. BestOf (length core.tasks) o) e (best (length core.tasks)) t (eligible_within_by t is)

  -- the rule names at most one task
  picked_same : (t u : ℕ) → IsPickedBy core possible t → IsPickedBy core possible u → t ≡ u
  picked_same t u a b = go a.first b.first
    where
      same : priority_of core t ≡ priority_of core u
      same = let h = a.urgent u b.eligible in let k = b.urgent t a.eligible in omega arith

      go : (core.last ≡ Some t) ⊎ ((v : ℕ) → IsTrue (is_eligible_by core possible v) → priority_of core v ≡ priority_of core t → (core.last ≢ Some v) × (t ≤ v)) →
          (core.last ≡ Some u) ⊎ ((v : ℕ) → IsTrue (is_eligible_by core possible v) → priority_of core v ≡ priority_of core u → (core.last ≢ Some v) × (u ≤ v)) → t ≡ u
      go (inl x) (inl y) = same_Some t u (sym x ∙ y)
      go (inl x) (inr g) = absurd ((g t a.eligible same).0 x)
      go (inr f) (inl y) = absurd ((f u b.eligible (sym same)).0 y)
      go (inr f) (inr g) = let h = (f u b.eligible (sym same)).1 in let k = (g t a.eligible same).1 in omega arith

  -- the task that the rule names is picked
  pub is_picked_by : (t : ℕ) → IsPickedBy core possible t → pick_by core possible ≡ Some t
  is_picked_by t p = go (pick_by core possible) refl
    where
      go : (o : Option ℕ) → pick_by core possible ≡ o → pick_by core possible ≡ Some t
      go None e = absurd (true≢false (sym p.eligible ∙ picked_none_by e t))
      go (Some u) e = e ∙ ap Some (picked_same u t (picked_by u e) p)

-- the same of what the tasks offer
pub eligible_within : (core : Core) (offers : Offered) (t : ℕ) → IsTrue (is_eligible core offers t) → t < length core.tasks
eligible_within core offers t e = eligible_within_by core (possible_of core offers) t e

pub picked : (core : Core) (offers : Offered) (t : ℕ) → pick core offers ≡ Some t → IsPicked core offers t
picked core offers t e = picked_by core (possible_of core offers) t e

pub picked_none : (core : Core) (offers : Offered) → pick core offers ≡ None → (t : ℕ) → is_eligible core offers t ≡ false
picked_none core offers e t = picked_none_by core (possible_of core offers) e t

pub is_picked : (core : Core) (offers : Offered) (t : ℕ) → IsPicked core offers t → pick core offers ≡ Some t
is_picked core offers t p = is_picked_by core (possible_of core offers) t p

-- who is picked depends on the tasks' rows, on who acted last, and on which tasks' actions are possible
pub pick-same_by : (core other : Core) (possible others : ℕ → Bool) → core.tasks ≡ other.tasks → core.last ≡ other.last →
    ((t : ℕ) → possible t ≡ others t) → pick_by core possible ≡ pick_by other others
pick-same_by core other possible others rows last able = go (length core.tasks) ∙ ap (λ n. pick_first_by other others n) (ap length rows)
  where
    priority : (t : ℕ) → priority_of core t ≡ priority_of other t
    priority t = ap (λ r. priority_of_row (slice_get r t)) rows

    eligible : (t : ℕ) → is_eligible_by core possible t ≡ is_eligible_by other others t
    eligible t = ap₂ (λ r b. is_ready_row (slice_get r t) b) rows (able t)

    before : (t u : ℕ) → goes_before core t u ≡ goes_before other t u
    before t u = cc (priority t, priority u, last)

    better-same : (o : Option ℕ) (t : ℕ) (b : Bool) → better core o t b ≡ better other o t b
    better-same o t false = refl
    better-same None t true = refl
    better-same (Some u) t true = ap (λ b. better_if b t u) (before t u)

    go : (n : ℕ) → pick_first_by core possible n ≡ pick_first_by other others n
    go zero = refl
    go (suc n) = better-same (pick_first_by core possible n) n (is_eligible_by core possible n) ∙ ap₂ (λ o b. better other o n b) (go n) (eligible n)

-- and so does how the tasks stand, with the moment
pub states-same_by : (core other : Core) (possible others : ℕ → Bool) → core.moment ≡ other.moment → core.tasks ≡ other.tasks → core.last ≡ other.last →
    ((t : ℕ) → possible t ≡ others t) → states_by core possible ≡ states_by other others
states-same_by core other possible others moment rows last able = go (length core.tasks) ∙ ap (λ n. states_first_by other others n) (ap length rows)
  where
    chosen : pick_by core possible ≡ pick_by other others
    chosen = pick-same_by core other possible others rows last able

    shown : (t : ℕ) → shown_by core possible t ≡ shown_by other others t
    shown t = cc (rows, able t, chosen)

    go : (n : ℕ) → states_first_by core possible n ≡ states_first_by other others n
    go zero = refl
    go (suc n) = cc (go n, moment, shown n)

-- the same of what the tasks offer
pub pick-same : (core other : Core) (offers others : Offered) → core.tasks ≡ other.tasks → core.last ≡ other.last →
    ((t : ℕ) → is_possible core (offers t) ≡ is_possible other (others t)) → pick core offers ≡ pick other others
pick-same core other offers others rows last able =
    pick-same_by core other (possible_of core offers) (possible_of other others) rows last able

pub states-same : (core other : Core) (offers others : Offered) → core.moment ≡ other.moment → core.tasks ≡ other.tasks → core.last ≡ other.last →
    ((t : ℕ) → is_possible core (offers t) ≡ is_possible other (others t)) → states core offers ≡ states other others
states-same core other offers others moment rows last able =
    states-same_by core other (possible_of core offers) (possible_of other others) moment rows last able

-- whether an action can be done now, where counts, channels and formats are the same
guard-same : (core other : Core) (action : Action) → core.counts ≡ other.counts → core.channels ≡ other.channels → core.formats ≡ other.formats →
    guard core action ≡ guard other action
guard-same core other (Request list) counts channels formats = ap (λ cs. all_free cs list.items) counts
guard-same core other (Get device format kinds) counts channels formats =
    λ i. is_complete (scan (items_or_none (slice_get (formats i) format)) kinds.items (bytes_in (slice_get (channels i) device)))
guard-same core other (Take device) counts channels formats = ap (λ cs. is_some_value (values_in (slice_get cs device))) channels
guard-same core other action counts channels formats = refl

-- the same of an offer
pub possible-same : (core other : Core) (offer : Option Action) → core.counts ≡ other.counts → core.channels ≡ other.channels →
    core.formats ≡ other.formats → is_possible core offer ≡ is_possible other offer
possible-same core other None counts channels formats = refl
possible-same core other (Some action) counts channels formats = guard-same core other action counts channels formats

-- the same offers at each task
pub pick-offers : (core other : Core) (offers others : Offered) → core.tasks ≡ other.tasks → core.last ≡ other.last → core.counts ≡ other.counts →
    core.channels ≡ other.channels → core.formats ≡ other.formats → ((t : ℕ) → offers t ≡ others t) → pick core offers ≡ pick other others
pick-offers core other offers others rows last counts channels formats same =
    pick-same core other offers others rows last
    (λ t. possible-same core other (offers t) counts channels formats ∙ ap (λ o. is_possible other o) (same t))

-- the same for how the tasks stand
pub states-offers : (core other : Core) (offers others : Offered) → core.moment ≡ other.moment → core.tasks ≡ other.tasks → core.last ≡ other.last →
    core.counts ≡ other.counts → core.channels ≡ other.channels → core.formats ≡ other.formats → ((t : ℕ) → offers t ≡ others t) →
    states core offers ≡ states other others
states-offers core other offers others moment rows last counts channels formats same =
    states-same core other offers others moment rows last
    (λ t. possible-same core other (offers t) counts channels formats ∙ ap (λ o. is_possible other o) (same t))

-- TURNS

-- what becomes a task's turn changes nothing but who acted last
pub turned-is_by : (core : Core) (possible : ℕ → Bool) (t : ℕ) → turned_by core possible t ≡ record core { last = (turned_by core possible t).last }
turned-is_by core possible t = by_test (can_turn_by core possible t)
  where
    by_test : (b : Bool) → last_if b core t ≡ record core { last = (last_if b core t).last }
    by_test true = refl
    by_test false = refl

pub turned-is : (core : Core) (offers : Offered) (t : ℕ) → turned core offers t ≡ record core { last = (turned core offers t).last }
turned-is core offers t = turned-is_by core (possible_of core offers) t

module _ (core : Core) (possible : ℕ → Bool) (t : ℕ) where
  -- where it can be a task's turn, no eligible task has a smaller priority number
  turn_first : can_turn_by core possible t ≡ true → IsFirstInRankBy core possible t
  turn_first able = by_pick (pick_by core possible) refl
    where
      parts : (is_eligible_by core possible t ≡ true) × (is_as_urgent core (pick_by core possible) t ≡ true)
      parts = and_parts (is_eligible_by core possible t) (is_as_urgent core (pick_by core possible) t) able

      by_pick : (o : Option ℕ) → pick_by core possible ≡ o → IsFirstInRankBy core possible t
      by_pick None e = absurd (true≢false (sym parts.0 ∙ picked_none_by core possible e t))
      by_pick (Some u) e =
          let same = eqb-true (priority_of core t) (priority_of core u) (sym (ap (λ o. is_as_urgent core o t) e) ∙ parts.1) in
          record {
            eligible = parts.0;
            urgent = λ v is. let above = (picked_by core possible u e).urgent v is in omega (arith, same, above);
          }

  -- and where none has, it can be the task's turn
  first_turn : IsFirstInRankBy core possible t → can_turn_by core possible t ≡ true
  first_turn first = by_pick (pick_by core possible) refl
    where
      both : (b : Bool) → is_as_urgent core (pick_by core possible) t ≡ b → b ≡ true → can_turn_by core possible t ≡ true
      both b e passed = let is = first.eligible in cc

      by_pick : (o : Option ℕ) → pick_by core possible ≡ o → can_turn_by core possible t ≡ true
      by_pick None e = absurd (true≢false (sym first.eligible ∙ picked_none_by core possible e t))
      by_pick (Some u) e =
          let rule = picked_by core possible u e in
          let above = first.urgent u rule.eligible in
          let below = rule.urgent t first.eligible in
          let same : priority_of core t ≡ priority_of core u = omega (arith, above, below) in
          both (is_as_urgent core (Some u) t) (ap (λ o. is_as_urgent core o t) e) (eq-eqb (priority_of core t) (priority_of core u) same)

  -- a turn is the named task's exactly there
  pub turn_exactly_by : IsTrue (can_turn_by core possible t) ↔ IsFirstInRankBy core possible t
  turn_exactly_by = (turn_first, first_turn)

  -- there it counts as the one that acted last
  pub turn_taken_by : IsFirstInRankBy core possible t → turned_by core possible t ≡ record core { last = Some t }
  turn_taken_by first = ap (λ b. last_if b core t) (first_turn first)

  -- else nothing changes
  pub turn_refused_by : (IsFirstInRankBy core possible t → ⊥) → turned_by core possible t ≡ core
  turn_refused_by not = by_test (can_turn_by core possible t) refl
    where
      by_test : (b : Bool) → can_turn_by core possible t ≡ b → last_if b core t ≡ core
      by_test true e = absurd (not (turn_first e))
      by_test false e = refl

  -- after a turn the named task acts next: which tasks are eligible doesn't depend on who acted last
  pub turn_next_by : IsFirstInRankBy core possible t → pick_by (turned_by core possible t) possible ≡ Some t
  turn_next_by first =
      ap (λ c. pick_by c possible) (turn_taken_by first)
      ∙ is_picked_by (record core { last = Some t }) possible t (record {
        eligible = first.eligible;
        urgent = λ u is. first.urgent u is;
        first = inl refl;
      })

module _ (core : Core) (offers : Offered) (t : ℕ) where
  -- the same of what the tasks offer
  pub turn_exactly : IsTrue (can_turn core offers t) ↔ IsFirstInRank core offers t
  turn_exactly = turn_exactly_by core (possible_of core offers) t

  pub turn_taken : IsFirstInRank core offers t → turned core offers t ≡ record core { last = Some t }
  turn_taken first = turn_taken_by core (possible_of core offers) t first

  pub turn_refused : (IsFirstInRank core offers t → ⊥) → turned core offers t ≡ core
  turn_refused not = turn_refused_by core (possible_of core offers) t not

  -- whether a task's action is possible doesn't depend on who acted last
  possible-last : (u : ℕ) → possible_of (turned core offers t) offers u ≡ possible_of core offers u
  possible-last u =
      possible-same (turned core offers t) core (offers u) (ap (λ c. c.counts) (turned-is core offers t))
      (ap (λ c. c.channels) (turned-is core offers t)) (ap (λ c. c.formats) (turned-is core offers t))

  pub turn_next : IsFirstInRank core offers t → pick (turned core offers t) offers ≡ Some t
  turn_next first =
      pick-same_by (turned core offers t) (turned core offers t) (possible_of (turned core offers t) offers) (possible_of core offers) refl refl
      possible-last
      ∙ turn_next_by core (possible_of core offers) t first
