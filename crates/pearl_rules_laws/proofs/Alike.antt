-- Which lists of entries make the same run: those that give the same marks, whoever acts next, and leave such lists.
use Rattle.std.proofs.Common.{◌≡◌, ◌↔◌, ℕ, zero, suc, ◌+◌, List, [], ◌∷◌, ◌++◌, Option, Some, None, refl, sym, ap, subst, ◌∙◌, zero-add, arith}
use Rattle.pearl_rules.specs.declared.action.Answer.{Answer}
use Rattle.pearl_rules.specs.declared.entry.Entry.{Entry}
use Rattle.pearl_rules.specs.declared.entry.Entry.TheVariants.{Run, Tick, Pass, Turn, State}
use Rattle.pearl_rules.specs.Pick.{pick}
use Rattle.pearl_rules.specs.Runs.{Mark, Acts, Turns, Tells, Passes, Arrives, Coming, next_mark, kept_at, Supplier, Source, source_offers, source_next, source_acts, source_mark, source_step_by, source_step, source_after}
use Rattle.pearl_rules.proofs.Offered.{step_source}
use Rattle.pearl_rules_laws.specs.Runs.{RunAlike, turns_of}

-- no mark comes of either, or the same of both, and what they leave is so related
abbrev SameNext : (List Entry → List Entry → Type 0) → Option Coming → Option Coming → Type 0
SameNext Leaves None None = Unit {0}
SameNext Leaves None (Some other) = ⊥
SameNext Leaves (Some coming) None = ⊥
SameNext Leaves (Some coming) (Some other) = (coming.mark ≡ other.mark) × Leaves coming.rest other.rest

-- the same for so many marks
abbrev Same : ℕ → List Entry → List Entry → Type 0
Same zero es others = Unit {0}
Same (suc k) es others = (picked : Option ℕ) → SameNext (Same k) (next_mark picked es) (next_mark picked others)

-- for any number of marks
abbrev AreSame : List Entry → List Entry → Type 0
AreSame es others = (k : ℕ) → Same k es others

same_next : (k : ℕ) → ((es : List Entry) → Same k es es) → (coming : Option Coming) → SameNext (Same k) coming coming
same_next k before None = tt
same_next k before (Some coming) = (refl, before coming.rest)

same_refl : (k : ℕ) (es : List Entry) → Same k es es
same_refl zero es = tt
same_refl (suc k) es = λ picked. same_next k (same_refl k) (next_mark picked es)

-- where the next marks are equal
same_by : (k : ℕ) (a b : Option Coming) → a ≡ b → SameNext (Same k) a b
same_by k a b is = subst (λ c. SameNext (Same k) a c) is (same_next k (same_refl k) a)

next_trans : (k : ℕ) → ((a b c : List Entry) → Same k a b → Same k b c → Same k a c) → (a b c : Option Coming) →
    SameNext (Same k) a b → SameNext (Same k) b c → SameNext (Same k) a c
next_trans k before None None None first second = tt
next_trans k before None None (Some c) first second = absurd second
next_trans k before None (Some b) c first second = absurd first
next_trans k before (Some a) None c first second = absurd first
next_trans k before (Some a) (Some b) None first second = absurd second
next_trans k before (Some a) (Some b) (Some c) first second =
    (first.0 ∙ second.0, before a.rest b.rest c.rest first.1 second.1)

same_trans : (k : ℕ) (a b c : List Entry) → Same k a b → Same k b c → Same k a c
same_trans zero a b c first second = tt
same_trans (suc k) a b c first second = λ picked.
    next_trans k (same_trans k) (next_mark picked a) (next_mark picked b) (next_mark picked c) (first picked)
    (second picked)

-- for fewer marks
fewer_next : (k : ℕ) → ((es others : List Entry) → Same (suc k) es others → Same k es others) → (a b : Option Coming) →
    SameNext (Same (suc k)) a b → SameNext (Same k) a b
fewer_next k fewer None None next = tt
fewer_next k fewer None (Some b) next = absurd next
fewer_next k fewer (Some a) None next = absurd next
fewer_next k fewer (Some a) (Some b) next = (next.0, fewer a.rest b.rest next.1)

same_fewer : (k : ℕ) (es others : List Entry) → Same (suc k) es others → Same k es others
same_fewer zero es others same = tt
same_fewer (suc k) es others same = λ picked.
    fewer_next k (same_fewer k) (next_mark picked es) (next_mark picked others) (same picked)

-- the same entry in front
same_behind : (k : ℕ) (entry : Entry) (es others : List Entry) → Same k es others → Same k (entry ∷ es) (entry ∷ others)
same_behind zero entry es others same = tt
same_behind (suc k) entry es others same = λ picked. by_entry picked entry (same_fewer k es others same) (same_behind k)
  where
    by_entry : (picked : Option ℕ) (entry : Entry) → Same k es others →
        ((e : Entry) (xs ys : List Entry) → Same k xs ys → Same k (e ∷ xs) (e ∷ ys)) →
        SameNext (Same k) (next_mark picked (entry ∷ es)) (next_mark picked (entry ∷ others))
    by_entry None (Run n) less before = same None
    by_entry (Some t) (Run zero) less before = same (Some t)
    by_entry (Some t) (Run (suc n)) less before = (refl, before (Run n) es others less)
    by_entry picked (Tick zero) less before = same picked
    by_entry picked (Tick (suc n)) less before = (refl, before (Tick n) es others less)
    by_entry picked (Pass zero picks) less before = same picked
    by_entry picked (Pass (suc times) picks) less before = (
      refl,
      before (Run picks) (Pass times picks ∷ es) (Pass times picks ∷ others)
          (before (Pass times picks) es others less),
    )
    by_entry picked (Turn t) less before = (refl, less)
    by_entry picked State less before = (refl, less)
    by_entry picked entry less before = (refl, less)

same_front : (front es others : List Entry) → AreSame es others → AreSame (front ++ es) (front ++ others)
same_front [] es others same = same
same_front (entry ∷ front) es others same =
    λ k. same_behind k entry (front ++ es) (front ++ others) (same_front front es others same k)

-- WHICH LISTS THESE ARE

-- `run` of both counts
run_splits : (k n more : ℕ) (rest : List Entry) → Same k (Run (n + more) ∷ rest) (Run n ∷ Run more ∷ rest)
run_splits zero n more rest = tt
run_splits (suc k) zero more rest = λ picked. by_pick picked
  where
    by_pick : (picked : Option ℕ) →
        SameNext (Same k) (next_mark picked (Run (0 + more) ∷ rest)) (next_mark picked (Run 0 ∷ Run more ∷ rest))
    by_pick None = same_by k (next_mark None rest) (next_mark None rest) refl
    by_pick (Some t) =
        same_by k (next_mark (Some t) (Run (0 + more) ∷ rest)) (next_mark (Some t) (Run more ∷ rest))
        (ap (λ n. next_mark (Some t) (Run n ∷ rest)) (zero-add more))
run_splits (suc k) (suc n) more rest = λ picked. by_pick picked (run_splits k n more rest)
  where
    by_pick : (picked : Option ℕ) → Same k (Run (n + more) ∷ rest) (Run n ∷ Run more ∷ rest) →
        SameNext (Same k) (next_mark picked (Run (suc n + more) ∷ rest))
        (next_mark picked (Run (suc n) ∷ Run more ∷ rest))
    by_pick None before = same_by k (next_mark None rest) (next_mark None rest) refl
    by_pick (Some t) before =
        let e : suc (n + more) ≡ suc n + more = omega arith in
        subst
        (λ j. SameNext (Same k) (next_mark (Some t) (Run j ∷ rest))
        (next_mark (Some t) (Run (suc n) ∷ Run more ∷ rest))) e (refl, before)

-- `tick` of both counts
tick_splits : (k n more : ℕ) (rest : List Entry) → Same k (Tick (n + more) ∷ rest) (Tick n ∷ Tick more ∷ rest)
tick_splits zero n more rest = tt
tick_splits (suc k) zero more rest = λ picked.
    same_by k (next_mark picked (Tick (0 + more) ∷ rest)) (next_mark picked (Tick more ∷ rest))
    (ap (λ n. next_mark picked (Tick n ∷ rest)) (zero-add more))
tick_splits (suc k) (suc n) more rest = λ picked.
    let e : suc (n + more) ≡ suc n + more = omega arith in
    subst
    (λ j. SameNext (Same k) (next_mark picked (Tick j ∷ rest)) (next_mark picked (Tick (suc n) ∷ Tick more ∷ rest))) e
    (refl, tick_splits k n more rest)

-- entries that do nothing
run_drops : (k : ℕ) (rest : List Entry) → Same k (Run 0 ∷ rest) rest
run_drops zero rest = tt
run_drops (suc k) rest = λ picked. by_pick picked
  where
    by_pick : (picked : Option ℕ) → SameNext (Same k) (next_mark picked (Run 0 ∷ rest)) (next_mark picked rest)
    by_pick None = same_by k (next_mark None rest) (next_mark None rest) refl
    by_pick (Some t) = same_by k (next_mark (Some t) rest) (next_mark (Some t) rest) refl

tick_drops : (k : ℕ) (rest : List Entry) → Same k (Tick 0 ∷ rest) rest
tick_drops zero rest = tt
tick_drops (suc k) rest = λ picked. same_by k (next_mark picked rest) (next_mark picked rest) refl

tick_comes : (k : ℕ) (rest : List Entry) → Same k rest (Tick 0 ∷ rest)
tick_comes zero rest = tt
tick_comes (suc k) rest = λ picked. same_by k (next_mark picked rest) (next_mark picked rest) refl

-- `pass` as so many times `tick 1` and `run`
pass_turns : (times picks : ℕ) (rest : List Entry) (k : ℕ) →
    Same k (Pass times picks ∷ rest) (turns_of times picks ++ rest)
pass_turns times picks rest zero = tt
pass_turns zero picks rest (suc k) = λ picked. same_by k (next_mark picked rest) (next_mark picked rest) refl
pass_turns (suc times) picks rest (suc k) = λ picked. (
  refl,
  same_trans k (Run picks ∷ Pass times picks ∷ rest) (Run picks ∷ turns_of times picks ++ rest)
      (Tick 0 ∷ Run picks ∷ turns_of times picks ++ rest)
      (same_behind k (Run picks) (Pass times picks ∷ rest) (turns_of times picks ++ rest)
      (pass_turns times picks rest k))
      (tick_comes k (Run picks ∷ turns_of times picks ++ rest)),
)

-- THEIR RUNS

-- the same state but for the entries, which are the same for any number of marks
abbrev Beside : Source → Source → Type 0
Beside s other = (other ≡ record s { entries = other.entries }) × AreSame s.entries other.entries

module _ (offer : Supplier) (s : Source) (others : List Entry) (same : AreSame s.entries others) where
  -- the state with the other entries
  abbrev Other : Source
  Other = record s { entries = others }

  mark_beside : (mark : Mark) (rest left : List Entry) → AreSame rest left →
      Beside (source_mark offer s mark rest) (source_mark offer Other mark left)
  mark_beside (Acts t) rest left leaves = by_heard (kept_at s.heard t)
    where
      by_heard : (heard : Option (List Answer)) →
          Beside (source_acts offer s t rest heard) (source_acts offer Other t left heard)
      by_heard None = (refl, same)
      by_heard (Some so_far) = (refl, leaves)
  mark_beside (Turns t) rest left leaves = (refl, leaves)
  mark_beside Tells rest left leaves = (refl, leaves)
  mark_beside Passes rest left leaves = (refl, leaves)
  mark_beside (Arrives entry) rest left leaves = (refl, leaves)

  by_next : (a b : Option Coming) → ((k : ℕ) → SameNext (Same k) a b) →
      Beside (source_step_by offer s a) (source_step_by offer Other b)
  by_next None None next = (refl, same)
  by_next None (Some b) next = absurd (next 0)
  by_next (Some a) None next = absurd (next 0)
  by_next (Some a) (Some b) next =
      subst (λ mark. Beside (source_mark offer s a.mark a.rest) (source_mark offer Other mark b.rest)) (next 0).0
      (mark_beside a.mark a.rest b.rest (λ k. (next k).1))

  step_beside : Beside (source_step offer s) (source_step offer Other)
  step_beside =
      subst (λ x. Beside x (source_step offer Other)) (sym (step_source offer s (source_next offer s) refl))
      (subst (λ x. Beside (source_step_by offer s (source_next offer s)) x)
      (sym (step_source offer Other (source_next offer Other) refl))
      (by_next (source_next offer s) (source_next offer Other)
      (λ k. same (suc k) (pick s.core (source_offers offer s)))))

  next_beside : SameNext (Same 0) (source_next offer s) (source_next offer Other)
  next_beside = same 1 (pick s.core (source_offers offer s))

-- after any number of marks
follow : (offer : Supplier) (s other : Source) → Beside s other → (k : ℕ) →
    Beside (source_after offer s k) (source_after offer other k)
follow offer s other beside zero = beside
follow offer s other beside (suc k) =
    let before = follow offer s other beside k in
    subst (λ x. Beside (source_step offer (source_after offer s k)) (source_step offer x)) (sym before.0)
    (step_beside offer (source_after offer s k) (source_after offer other k).entries before.1)

-- no mark comes of the one exactly where none comes of the other
none_both : (a b : Option Coming) → SameNext (Same 0) a b → (a ≡ None) ↔ (b ≡ None)
none_both None None next = (λ e. refl, λ e. refl)
none_both None (Some b) next = absurd next
none_both (Some a) None next = absurd next
none_both (Some a) (Some b) next = (λ e. let no : ⊥ = cc in absurd no, λ e. let no : ⊥ = cc in absurd no)

alike : (es others : List Entry) → AreSame es others → RunAlike es others
alike es others same = record {
  core = λ offer s k. ap (λ x. x.core) (sym (both offer s k).0);
  heard = λ offer s k. ap (λ x. x.heard) (sym (both offer s k).0);
  ends = λ offer s k.
      let now = both offer s k in
      let here = source_after offer (record s { entries = es }) k in
      let there = source_after offer (record s { entries = others }) k in
      subst (λ x. (source_next offer here ≡ None) ↔ (source_next offer x ≡ None)) (sym now.0)
      (none_both (source_next offer here) (source_next offer (record here { entries = there.entries }))
      (next_beside offer here there.entries now.1));
}
  where
    both : (offer : Supplier) (s : Source) (k : ℕ) →
        Beside (source_after offer (record s { entries = es }) k) (source_after offer (record s { entries = others }) k)
    both offer s k = follow offer (record s { entries = es }) (record s { entries = others }) (refl, same) k

pub runs_add : (front rest : List Entry) (n more : ℕ) →
    RunAlike (front ++ Run (n + more) ∷ rest) (front ++ Run n ∷ Run more ∷ rest)
runs_add front rest n more =
    alike (front ++ Run (n + more) ∷ rest) (front ++ Run n ∷ Run more ∷ rest)
    (same_front front (Run (n + more) ∷ rest) (Run n ∷ Run more ∷ rest) (λ k. run_splits k n more rest))

pub ticks_add : (front rest : List Entry) (n more : ℕ) →
    RunAlike (front ++ Tick (n + more) ∷ rest) (front ++ Tick n ∷ Tick more ∷ rest)
ticks_add front rest n more =
    alike (front ++ Tick (n + more) ∷ rest) (front ++ Tick n ∷ Tick more ∷ rest)
    (same_front front (Tick (n + more) ∷ rest) (Tick n ∷ Tick more ∷ rest) (λ k. tick_splits k n more rest))

pub no_run_does : (front rest : List Entry) → RunAlike (front ++ Run 0 ∷ rest) (front ++ rest)
no_run_does front rest =
    alike (front ++ Run 0 ∷ rest) (front ++ rest) (same_front front (Run 0 ∷ rest) rest (λ k. run_drops k rest))

pub no_tick_does : (front rest : List Entry) → RunAlike (front ++ Tick 0 ∷ rest) (front ++ rest)
no_tick_does front rest =
    alike (front ++ Tick 0 ∷ rest) (front ++ rest) (same_front front (Tick 0 ∷ rest) rest (λ k. tick_drops k rest))

pub passes_turn : (front rest : List Entry) (times picks : ℕ) →
    RunAlike (front ++ Pass times picks ∷ rest) (front ++ (turns_of times picks ++ rest))
passes_turn front rest times picks =
    alike (front ++ Pass times picks ∷ rest) (front ++ (turns_of times picks ++ rest))
    (same_front front (Pass times picks ∷ rest) (turns_of times picks ++ rest) (pass_turns times picks rest))
