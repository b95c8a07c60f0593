-- The lines of machine steps: which of them say something, and those of steps after steps.
use Rattle.std.proofs.Common.{◌≡◌, ◌≢◌, ℕ, zero, suc, ◌+◌, ◌<◌, ◌≤◌, if◌then◌else◌, List, [], ◌∷◌, ◌++◌, Option, Some, None, refl, ap, ap₂, sym, ◌∙◌, append-nil, append_assoc, add-zero, add-suc, arith}
use Rattle.pearl_rules.specs.Core.{Core, value_at}
use Rattle.pearl_rules.specs.Runs.{Coming, Engine, Machine, machine_next, machine_mark_by, machine_step, machine_step_by, machine_after, marks_by, marks_in_step, marked_after, count_if, unsettled}
use Rattle.pearl_watch.specs.declared.watched.Watched.{Watched}
use Rattle.pearl_watch.specs.Lines.{value_line}
use Rattle.pearl_watch.specs.Watched.{name_at}
use Rattle.pearl_watch.specs.Changes.{shown, unless_same, held, slot_line, change_line, change_lines, step_lines}
use Rattle.pearl_watch.proofs.SameValues.{same_refl}

-- a slot that holds what it held has no line
none_here : (names : List (List ℕ)) (marks : ℕ) (core : Core) (s : Watched) → change_line names marks (Some core) core s ≡ []
none_here names marks core s =
    ap (λ b. if b then [] else slot_line names marks core s) (same_refl (value_at core.slots s.slot))

pub no_change : (names : List (List ℕ)) (watched : List Watched) (marks : ℕ) (core : Core) → change_lines names watched marks (Some core) core ≡ []
no_change names [] marks core = refl
no_change names (s ∷ watched) marks core = ap₂ (λ a b. a ++ b) (none_here names marks core s) (no_change names watched marks core)

-- lines are the same after as many marks, as they are written
pub shown_lines : (names : List (List ℕ)) (watched : List Watched) (a b : ℕ) (before : Option Core) (core : Core) → shown a ≡ shown b →
    change_lines names watched a before core ≡ change_lines names watched b before core
shown_lines names [] a b before core e = refl
shown_lines names (s ∷ watched) a b before core e =
    ap₂ (λ x y. x ++ y)
    (ap (λ n. unless_same (held before s.slot) (value_at core.slots s.slot) (value_line n core.moment (name_at names s.name) s.number (value_at core.slots s.slot))) e)
    (shown_lines names watched a b before core e)

-- marks behind so many, as they are written
pub shown_more : (marks more : ℕ) → shown (shown marks + more) ≡ shown (marks + more)
shown_more marks more = omega arith

module _ {S : Type 0} (engine : Engine S) where
  -- a step that is no mark changes no core
  by_next : (m : Machine S) (coming : Option Coming) → count_if coming ≡ 0 → (machine_mark_by engine m coming).core ≡ m.core
  by_next m None e = refl
  by_next m (Some coming) e = absurd (omega (arith, e))

  by_task : (m : Machine S) (task : Option (ℕ × S)) → marks_by m task ≡ 0 → (machine_step_by engine m task).core ≡ m.core
  by_task m (Some task) e = refl
  by_task m None e = by_next m (machine_next m) e

  pub same_core : (m : Machine S) → marks_in_step m ≡ 0 → (machine_step engine m).core ≡ m.core
  unfolding machine_step
  same_core m e = by_task m (unsettled m) e

  -- nor does an instruction make a mark
  pub instruction : (m : Machine S) (task : Option (ℕ × S)) → (task ≡ None → ⊥) → marks_by m task ≡ 0
  instruction m None some = absurd (some refl)
  instruction m (Some task) some = refl

  pub no_marks : (m : Machine S) (n : ℕ) → ((i : ℕ) → i < n → unsettled (machine_after engine m i) ≢ None) → marked_after engine m n ≡ 0
  no_marks m zero each = refl
  no_marks m (suc n) each =
      let before = no_marks m n (λ i less. each i (omega (arith, less))) in
      let last : marks_in_step (machine_after engine m n) ≡ 0 =
      instruction (machine_after engine m n) (unsettled (machine_after engine m n)) (each n (omega arith)) in
      omega (arith, before, last)

  pub one_mark : (m : Machine S) (n : ℕ) → marks_in_step m ≡ 1 → ((i : ℕ) → i < n → unsettled (machine_after engine m (suc i)) ≢ None) →
      marked_after engine m (suc n) ≡ 1
  one_mark m zero first each = omega (arith, first)
  one_mark m (suc n) first each =
      let before = one_mark m n first (λ i less. each i (omega (arith, less))) in
      let last : marks_in_step (machine_after engine m (suc n)) ≡ 0 =
      instruction (machine_after engine m (suc n)) (unsettled (machine_after engine m (suc n))) (each n (omega arith)) in
      omega (arith, before, last)

  -- steps after steps
  pub steps_add : (m : Machine S) (a b : ℕ) → machine_after engine m (a + b) ≡ machine_after engine (machine_after engine m a) b
  steps_add m a zero = rw add-zero refl
  steps_add m a (suc b) = rw add-suc (ap (machine_step engine) (steps_add m a b))

  pub marked_add : (m : Machine S) (a b : ℕ) → marked_after engine m (a + b) ≡ marked_after engine m a + marked_after engine (machine_after engine m a) b
  marked_add m a zero = rw add-zero (omega arith)
  marked_add m a (suc b) =
      let before = marked_add m a b in
      let last : marks_in_step (machine_after engine m (a + b)) ≡ marks_in_step (machine_after engine (machine_after engine m a) b) =
      ap marks_in_step (steps_add m a b) in
      rw add-suc (omega (arith, before, last))

  module _ (names : List (List ℕ)) (watched : List Watched) where
    -- the lines of one more step
    abbrev last_lines : ℕ → Machine S → ℕ → List ℕ
    last_lines marks m n =
        change_lines names watched (marks + marked_after engine m (suc n)) (Some (machine_after engine m n).core) (machine_after engine m (suc n)).core

    -- a step that is no mark has no lines
    pub no_lines : (marks : ℕ) (m : Machine S) (n : ℕ) → marks_in_step (machine_after engine m n) ≡ 0 → last_lines marks m n ≡ []
    no_lines marks m n e =
        ap (λ core. change_lines names watched (marks + marked_after engine m (suc n)) (Some (machine_after engine m n).core) core)
        (same_core (machine_after engine m n) e)
        ∙ no_change names watched (marks + marked_after engine m (suc n)) (machine_after engine m n).core

    pub lines_add : (marks : ℕ) (m : Machine S) (a b : ℕ) → step_lines names watched marks engine m (a + b)
        ≡ step_lines names watched marks engine m a
        ++ step_lines names watched (marks + marked_after engine m a) engine (machine_after engine m a) b
    lines_add marks m a zero = rw add-zero (sym (append-nil (step_lines names watched marks engine m a)))
    lines_add marks m a (suc b) =
        let here : List ℕ = step_lines names watched marks engine m a in
        let there : Machine S = machine_after engine m a in
        let counted : marks + marked_after engine m (suc (a + b)) ≡ (marks + marked_after engine m a) + marked_after engine there (suc b) =
        let whole = marked_add m a b in
        let last : marks_in_step (machine_after engine m (a + b)) ≡ marks_in_step (machine_after engine there b) = ap marks_in_step (steps_add m a b) in
        omega (arith, whole, last) in
        rw add-suc (
        ap₂ (λ x y. x ++ y) (lines_add marks m a b)
        (ap₂ (λ (n : ℕ) (mid : Machine S). change_lines names watched n (Some mid.core) (machine_step engine mid).core) counted (steps_add m a b))
        ∙ append_assoc here (step_lines names watched (marks + marked_after engine m a) engine there b)
        (last_lines (marks + marked_after engine m a) there b)
        )

    -- behind as many marks, as they are written, the lines are the same
    pub lines_shown : (marks : ℕ) (m : Machine S) (n : ℕ) → step_lines names watched (shown marks) engine m n ≡ step_lines names watched marks engine m n
    lines_shown marks m zero = refl
    lines_shown marks m (suc n) =
        ap₂ (λ x y. x ++ y) (lines_shown marks m n)
        (shown_lines names watched (shown marks + marked_after engine m (suc n)) (marks + marked_after engine m (suc n))
        (Some (machine_after engine m n).core) (machine_after engine m (suc n)).core (shown_more marks (marked_after engine m (suc n))))

    -- without a mark there are none
    pub quiet_lines : (marks : ℕ) (m : Machine S) (n : ℕ) → marked_after engine m n ≡ 0 → step_lines names watched marks engine m n ≡ []
    quiet_lines marks m zero none = refl
    quiet_lines marks m (suc n) none =
        let before : marked_after engine m n ≡ 0 = omega (arith, none) in
        let last : marks_in_step (machine_after engine m n) ≡ 0 = omega (arith, none) in
        ap₂ (λ x y. x ++ y) (quiet_lines marks m n before) (no_lines marks m n last)

    -- where the first step is a mark, at least one of some steps is
    some_marks : (m : Machine S) → marks_in_step m ≡ 1 → (n : ℕ) → 1 ≤ marked_after engine m (suc n)
    some_marks m first zero = omega (arith, first)
    some_marks m first (suc n) = let before = some_marks m first n in omega (arith, before)

    -- where it is the only one, its lines are all
    pub one_mark_lines : (marks : ℕ) (m : Machine S) → marks_in_step m ≡ 1 → (n : ℕ) → marked_after engine m (suc n) ≡ 1 →
        step_lines names watched marks engine m (suc n) ≡ change_lines names watched (marks + 1) (Some m.core) (machine_after engine m (suc n)).core
    one_mark_lines marks m first zero one =
        ap (λ k. change_lines names watched (marks + k) (Some m.core) (machine_step engine m).core) one
    one_mark_lines marks m first (suc n) one =
        let some = some_marks m first n in
        let before : marked_after engine m (suc n) ≡ 1 = omega (arith, some, one) in
        let quiet : marks_in_step (machine_after engine m (suc n)) ≡ 0 = omega (arith, some, one) in
        ap₂ (λ x y. x ++ y) (one_mark_lines marks m first n before) (no_lines marks m (suc n) quiet)
        ∙ append-nil (change_lines names watched (marks + 1) (Some m.core) (machine_after engine m (suc n)).core)
        ∙ ap (λ core. change_lines names watched (marks + 1) (Some m.core) core) (sym (same_core (machine_after engine m (suc n)) quiet))
