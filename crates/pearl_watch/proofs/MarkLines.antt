-- The lines of machine steps are those of the cores after each mark.
use Rattle.std.proofs.Common.{◌≡◌, ℕ, zero, suc, ◌+◌, ◌⊎◌, inl, inr, List, [], ◌∷◌, ◌++◌, Option, Some, None, length, replicate, refl, ap, ap₂, sym, ◌∙◌, append-nil, append_assoc, length-append, arith}
use Rattle.pearl_rules.specs.Core.{Core}
use Rattle.pearl_rules.specs.Runs.{Coming, Engine, Machine, machine_next, machine_after, marks_by, marks_in_step, marked_after, count_if, unsettled}
use Rattle.pearl_watch.specs.declared.watched.Watched.{Watched}
use Rattle.pearl_watch.specs.Changes.{change_lines, core_lines, mark_cores, step_lines, watch_lines}
use Rattle.pearl_watch.proofs.StepLines.{same_core, no_lines}

-- the last of some cores, or the one before them
last_core : Option Core → List Core → Option Core
last_core before [] = before
last_core before (core ∷ cores) = last_core (Some core) cores

last_behind : (before : Option Core) (cores : List Core) (core : Core) → last_core before (cores ++ core ∷ []) ≡ Some core
unfolding last_core
last_behind before [] core = refl
last_behind before (x ∷ cores) core = last_behind (Some x) cores core

-- the lines of cores behind others
lines_behind : (names : List (List ℕ)) (watched : List Watched) (marks : ℕ) (before : Option Core) (cores : List Core) (core : Core) →
    core_lines names watched marks before (cores ++ core ∷ [])
    ≡ core_lines names watched marks before cores ++ change_lines names watched (marks + length cores) (last_core before cores) core
unfolding last_core
lines_behind names watched marks before [] core =
    append-nil (change_lines names watched marks before core) ∙ ap (λ n. change_lines names watched n before core) (omega arith)
lines_behind names watched marks before (x ∷ cores) core =
    let counted : (marks + 1) + length cores ≡ marks + length (x ∷ cores) = omega arith in
    ap (λ text. change_lines names watched marks before x ++ text)
    (lines_behind names watched (marks + 1) (Some x) cores core
    ∙ ap (λ n. core_lines names watched (marks + 1) (Some x) cores ++ change_lines names watched n (last_core (Some x) cores) core) counted)
    ∙ sym (append_assoc (change_lines names watched marks before x) (core_lines names watched (marks + 1) (Some x) cores)
    (change_lines names watched (marks + length (x ∷ cores)) (last_core (Some x) cores) core))

module _ {S : Type 0} (engine : Engine S) where
  -- a step is one mark or none
  of_next : (coming : Option Coming) → (count_if coming ≡ 0) ⊎ (count_if coming ≡ 1)
  of_next None = inl refl
  of_next (Some coming) = inr refl

  of_task : (m : Machine S) (task : Option (ℕ × S)) → (marks_by m task ≡ 0) ⊎ (marks_by m task ≡ 1)
  of_task m (Some task) = inl refl
  of_task m None = of_next (machine_next m)

  -- how the cores stand after so many steps
  record Stand (start : Machine S) (n : ℕ) : Type 0 where
    long : length (mark_cores engine start n) ≡ marked_after engine start n + 1
    last : last_core None (mark_cores engine start n) ≡ Some (machine_after engine start n).core

  stand_still : (start : Machine S) (n : ℕ) → marks_in_step (machine_after engine start n) ≡ 0 → Stand start n → Stand start (suc n)
  stand_still start n none before =
      let cores : List Core = mark_cores engine start n in
      let after : Core = (machine_after engine start (suc n)).core in
      let same : cores ++ replicate (marks_in_step (machine_after engine start n)) after ≡ cores =
      ap (λ k. cores ++ replicate k after) none ∙ append-nil cores in
      let long = before.long in
      record {
        long = ap length same ∙ omega (arith, long, none);
        last = ap (last_core None) same ∙ before.last ∙ ap Some (sym (same_core engine (machine_after engine start n) none));
      }

  stand_on : (start : Machine S) (n : ℕ) → marks_in_step (machine_after engine start n) ≡ 1 → Stand start n → Stand start (suc n)
  stand_on start n one before =
      let cores : List Core = mark_cores engine start n in
      let after : Core = (machine_after engine start (suc n)).core in
      let same : cores ++ replicate (marks_in_step (machine_after engine start n)) after ≡ cores ++ after ∷ [] =
      ap (λ k. cores ++ replicate k after) one in
      let long = before.long in
      let more : length (cores ++ after ∷ []) ≡ length cores + 1 = length-append cores (after ∷ []) in
      record {
        long = ap length same ∙ omega (arith, long, one, more);
        last = ap (last_core None) same ∙ last_behind None cores after;
      }

  stand_next : (start : Machine S) (n : ℕ) → (marks_in_step (machine_after engine start n) ≡ 0) ⊎ (marks_in_step (machine_after engine start n) ≡ 1) →
      Stand start n → Stand start (suc n)
  stand_next start n (inl none) before = stand_still start n none before
  stand_next start n (inr one) before = stand_on start n one before

  stand : (start : Machine S) (n : ℕ) → Stand start n
  unfolding last_core
  stand start zero = record { long = refl; last = refl }
  stand start (suc n) = stand_next start n (of_task (machine_after engine start n) (unsettled (machine_after engine start n))) (stand start n)

  module _ (names : List (List ℕ)) (watched : List Watched) where
    -- the lines of so many steps are those of the cores within them
    abbrev AreLines : Machine S → ℕ → Type 0
    AreLines start n = watch_lines names watched engine start n ≡ core_lines names watched 0 None (mark_cores engine start n)

    lines_still : (start : Machine S) (n : ℕ) → marks_in_step (machine_after engine start n) ≡ 0 → AreLines start n → AreLines start (suc n)
    lines_still start n none before =
        let first : List ℕ = change_lines names watched 0 None start.core in
        let cores : List Core = mark_cores engine start n in
        let after : Core = (machine_after engine start (suc n)).core in
        ap (λ last. first ++ (step_lines names watched 0 engine start n ++ last)) (no_lines engine names watched 0 start n none)
        ∙ ap (λ text. first ++ text) (append-nil (step_lines names watched 0 engine start n))
        ∙ before
        ∙ ap (core_lines names watched 0 None) (sym (ap (λ k. cores ++ replicate k after) none ∙ append-nil cores))

    lines_on : (start : Machine S) (n : ℕ) → marks_in_step (machine_after engine start n) ≡ 1 → AreLines start n → AreLines start (suc n)
    lines_on start n one before =
        let first : List ℕ = change_lines names watched 0 None start.core in
        let cores : List Core = mark_cores engine start n in
        let after : Core = (machine_after engine start (suc n)).core in
        let now : List ℕ = change_lines names watched (0 + marked_after engine start (suc n)) (Some (machine_after engine start n).core) after in
        let s : Stand start n = stand start n in
        let long = s.long in
        let counted : 0 + marked_after engine start (suc n) ≡ 0 + length cores = omega (arith, one, long) in
        sym (append_assoc first (step_lines names watched 0 engine start n) now)
        ∙ ap₂ (λ x y. x ++ y) before (ap₂ (λ k had. change_lines names watched k had after) counted (sym s.last))
        ∙ sym (lines_behind names watched 0 None cores after)
        ∙ ap (core_lines names watched 0 None) (sym (ap (λ k. cores ++ replicate k after) one))

    lines_next : (start : Machine S) (n : ℕ) → (marks_in_step (machine_after engine start n) ≡ 0) ⊎ (marks_in_step (machine_after engine start n) ≡ 1) →
        AreLines start n → AreLines start (suc n)
    lines_next start n (inl none) before = lines_still start n none before
    lines_next start n (inr one) before = lines_on start n one before

    pub by_marks : (start : Machine S) (n : ℕ) → AreLines start n
    by_marks start zero = refl
    by_marks start (suc n) =
        lines_next start n (of_task (machine_after engine start n) (unsettled (machine_after engine start n))) (by_marks start n)
