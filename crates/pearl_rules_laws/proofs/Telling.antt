-- What is told of one task among all that is told.
use Rattle.std.proofs.Common.{◌≡◌, ◌≢◌, ℕ, zero, suc, ◌+◌, ◌<◌, List, [], ◌∷◌, ◌++◌, Bool, true, false, nat_eq, if◌then◌else◌, Option, Some, None, slice_get, refl, sym, ap, ap₂, subst, ◌∙◌, append-nil, add-zero, zero-add, arith}
use Rattle.std.proofs.lemmas.Bool.{eqb-false, ne_eqb}
use Rattle.std.proofs.lemmas.Option.{none-some, same_Some}
use Rattle.pearl_rules.specs.declared.event.Event.{Event}
use Rattle.pearl_rules.specs.declared.event.Event.TheVariants as event
use Rattle.pearl_rules.specs.declared.row.Kept.{Kept}
use Rattle.pearl_rules.specs.declared.row.Mode.{Mode}
use Rattle.pearl_rules.specs.declared.row.Mode.TheVariants.{Dormant, Active}
use Rattle.pearl_rules.specs.declared.row.TaskRow.{TaskRow}
use Rattle.pearl_rules.specs.Core.{Core, Report, Happened, Shows}
use Rattle.pearl_rules.specs.Plans.{and_one}
use Rattle.pearl_rules.specs.Laws.{happened_at}
use Rattle.pearl_rules.specs.Pick.{shown_by, states_first_by}
use Rattle.pearl_rules_laws.specs.Plans.{late_event, start_events, all_start_events}
use Rattle.pearl_rules_laws.specs.Queue.{is_of, of_task}

-- the task's own among events
abbrev pub own_of : ℕ → List Event → List Event
own_of t [] = []
own_of t (e ∷ later) = if is_of t e then e ∷ own_of t later else own_of t later

pub of_happened : (t moment : ℕ) (events : List Event) → of_task t (happened_at moment events) ≡ own_of t events
of_happened t moment [] = refl
of_happened t moment (e ∷ later) = ap (λ es. if is_of t e then e ∷ es else es) (of_happened t moment later)

-- one before others
joined : (b : Bool) (e : Event) (front behind : List Event) →
    (if b then e ∷ (front ++ behind) else front ++ behind) ≡ (if b then e ∷ front else front) ++ behind
joined true e front behind = refl
joined false e front behind = refl

own_append : (t : ℕ) (front behind : List Event) → own_of t (front ++ behind) ≡ own_of t front ++ own_of t behind
own_append t [] behind = refl
own_append t (e ∷ front) behind =
    ap (λ es. if is_of t e then e ∷ es else es) (own_append t front behind) ∙ joined (is_of t e) e (own_of t front) (own_of t behind)

of_append : (t : ℕ) (front behind : List (ℕ × Report)) → of_task t (front ++ behind) ≡ of_task t front ++ of_task t behind
of_append t [] behind = refl
of_append t ((moment, Happened e) ∷ front) behind =
    ap (λ es. if is_of t e then e ∷ es else es) (of_append t front behind) ∙ joined (is_of t e) e (of_task t front) (of_task t behind)
of_append t ((moment, Shows u shown) ∷ front) behind = of_append t front behind

-- how tasks stand is told of no start and of no end
pub of_states : (t : ℕ) (core : Core) (possible : ℕ → Bool) (n : ℕ) → of_task t (states_first_by core possible n) ≡ []
of_states t core possible zero = refl
of_states t core possible (suc n) =
    of_append t (states_first_by core possible n) ((core.moment, Shows n (shown_by core possible n)) ∷ [])
    ∙ ap (λ es. es ++ []) (of_states t core possible n)

-- ONE EVENT

pub same_number : (t : ℕ) → nat_eq t t ≡ true
same_number t = by_test (nat_eq t t) refl
  where
    by_test : (b : Bool) → nat_eq t t ≡ b → b ≡ true
    by_test true is = refl
    by_test false is = absurd (eqb-false t t is refl)

pub own_first : (t : ℕ) (e : Event) (later : List Event) → is_of t e ≡ true → own_of t (e ∷ later) ≡ e ∷ own_of t later
own_first t e later is = ap (λ b. if b then e ∷ own_of t later else own_of t later) is

pub other_first : (t : ℕ) (e : Event) (later : List Event) → is_of t e ≡ false → own_of t (e ∷ later) ≡ own_of t later
other_first t e later is = ap (λ b. if b then e ∷ own_of t later else own_of t later) is

-- STARTS

late_is : (t u : ℕ) (more : Option Kept) → is_of t (late_event u more) ≡ nat_eq t u
late_is t u None = refl
late_is t u (Some more) = refl

-- what is told of a start of the task
pub start_own : (t : ℕ) (starts : Option ℕ) (mode : Mode) (held : Kept) → own_of t (start_events t starts mode held) ≡ start_events t starts mode held
start_own t None mode held = refl
start_own t (Some priority) Dormant held = own_first t (event.Start t priority) [] (same_number t)
start_own t (Some priority) (Active before suspended) held =
    own_first t (late_event t (and_one held priority)) [] (late_is t t (and_one held priority) ∙ same_number t)

-- and of one of another
pub start_other : (t u : ℕ) (starts : Option ℕ) (mode : Mode) (held : Kept) → t ≢ u → own_of t (start_events u starts mode held) ≡ []
start_other t u None mode held differ = refl
start_other t u (Some priority) Dormant held differ = other_first t (event.Start u priority) [] (ne_eqb t u differ)
start_other t u (Some priority) (Active before suspended) held differ =
    other_first t (late_event u (and_one held priority)) [] (late_is t u (and_one held priority) ∙ ne_eqb t u differ)

module _ (starts : TaskRow → Option ℕ) where
  -- what is told of a row
  abbrev pub of_row : ℕ → TaskRow → List Event
  of_row t row = start_events t (starts row) row.mode row.kept

  -- the tasks of later numbers
  all_later : (t k : ℕ) (rows : List TaskRow) → t < k → own_of t (all_start_events starts k rows) ≡ []
  all_later t k [] less = refl
  all_later t k (row ∷ rows) less =
      own_append t (of_row k row) (all_start_events starts (k + 1) rows)
      ∙ ap₂ (λ a b. a ++ b) (start_other t k (starts row) row.mode row.kept (λ same. let no : ⊥ = omega (arith, less, same) in no))
      (all_later t (k + 1) rows (omega (arith, less)))

  -- the task at place i, the first having the number k
  pub all_own : (k i : ℕ) (rows : List TaskRow) (row : TaskRow) → slice_get rows i ≡ Some row →
      own_of (k + i) (all_start_events starts k rows) ≡ of_row (k + i) row
  all_own k i [] row at = absurd (none-some row at)
  all_own k zero (first ∷ rows) row at =
      own_append (k + zero) (of_row k first) (all_start_events starts (k + 1) rows)
      ∙ ap₂ (λ a b. a ++ b) (ap (λ u. own_of u (of_row k first)) (add-zero k) ∙ start_own k (starts first) first.mode first.kept)
      (all_later (k + zero) (k + 1) rows (omega arith))
      ∙ append-nil (of_row k first)
      ∙ ap₂ of_row (sym (add-zero k)) (same_Some first row at)
  all_own k (suc i) (first ∷ rows) row at =
      let place : (k + 1) + i ≡ k + suc i = omega arith in
      own_append (k + suc i) (of_row k first) (all_start_events starts (k + 1) rows)
      ∙ ap₂ (λ a b. a ++ b)
      (start_other (k + suc i) k (starts first) first.mode first.kept (λ same. let no : ⊥ = omega (arith, same) in no))
      (subst (λ u. own_of u (all_start_events starts (k + 1) rows) ≡ of_row u row) place (all_own (k + 1) i rows row at))

  -- among all tasks
  pub all_told : (t : ℕ) (rows : List TaskRow) (row : TaskRow) → slice_get rows t ≡ Some row →
      own_of t (all_start_events starts 0 rows) ≡ of_row t row
  all_told t rows row at =
      subst (λ u. own_of u (all_start_events starts 0 rows) ≡ of_row u row) (zero-add t) (all_own 0 t rows row at)
