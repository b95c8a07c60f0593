-- What is kept of the tasks after it was renewed.
use Rattle.std.proofs.Common.{◌≡◌, ◌≢◌, ℕ, suc, ◌<◌, ◌≤◌, ◌+◌, ◌-◌, ◌⊎◌, inl, inr, Bool, List, Option, Some, None}
use Rattle.std.proofs.Common.{length, slice_get, slice_index, refl, sym, ap, subst, ◌∙◌, length-set, arith}
use Rattle.pearl_kernel.specs.declared.changes.Changed.{Changed}
use Rattle.pearl_kernel.specs.declared.changes.Changed.TheVariants.{Nothing, Counts}
use Rattle.pearl_sema.specs.Waiting.{Waits, IsBehind}
use Rattle.pearl_sema.proofs.Offered.{place_of_named}
use Rattle.pearl_kernel.specs.Kept.{Kept}
use Rattle.pearl_kernel.specs.Eligible.{entry_if, Stand, is_told, able_at, noted, IsSameAt}
use Rattle.pearl_kernel.specs.Changes.{renewed, IsRenewedAt, Renews, AreRenewedBut}
use Rattle.pearl_kernel.specs.Requests.{requests, WaitsForOne}
use Rattle.pearl_kernel.specs.Touched.{Reach, Own, Other, IsUntouched, changed_by, IsRenewed}
use Rattle.pearl_kernel.proofs.Places.{by_task, get-same, get-other}
use Rattle.pearl_kernel.proofs.Entries.{renewed-twice}

-- ONE TASK

pub noted-size : (k : Kept) (s : Stand) (u : ℕ) (able : Bool) → length (noted k u able s).able ≡ length s.able
noted-size k s u able = length-set s.able u able

pub noted-set-size : (k : Kept) (s : Stand) (u : ℕ) (able : Bool) → length (noted k u able s).set ≡ length s.set
noted-set-size k s u able = length-set s.set u (entry_if k u able)

-- the two lists are alike in length
pub noted-renews : (k : Kept) (changed : Changed) (s new : Stand) (u : ℕ) → u < length s.able →
    new ≡ noted k u (renewed changed k u (able_at s u)) s → length new.set ≡ length new.able →
    Renews k changed u s new
noted-renews k changed s new u there is alike = subst (λ (x : Stand). Renews k changed u s x) (sym is) (record {
  size = noted-size k s u able;
  set_size = noted-set-size k s u able;
  here = record {
    able = get-same s.able u able there;
    set = get-same s.set u (entry_if k u able) (subst (λ n. u < n) (sym same) there);
  };
  others = λ t other. record {
    able = get-other s.able u t able other;
    set = get-other s.set u t (entry_if k u able) other;
  };
})
  where
    able : Bool
    able = renewed changed k u (able_at s u)

    same : length s.set ≡ length s.able
    same = sym (noted-set-size k s u able) ∙ subst (λ (x : Stand). length x.set ≡ length x.able) is alike
        ∙ noted-size k s u able

-- what was renewed, and didn't change after that
renewed_still : (k : Kept) (changed : Changed) (first s new : Stand) (t : ℕ) → IsRenewedAt k changed first s t →
    IsSameAt s new t → IsRenewedAt k changed first new t
renewed_still k changed first s new t is same = record { able = same.able ∙ is.able; set = same.set ∙ is.set }

-- the same of what was kept at first and later
renewed_of : (k : Kept) (changed : Changed) (first s new : Stand) (t : ℕ) →
    renewed changed k t (able_at s t) ≡ renewed changed k t (able_at first t) → IsRenewedAt k changed s new t →
    IsRenewedAt k changed first new t
renewed_of k changed first s new t e is = record {
  able = is.able ∙ ap (λ b. Some b) e;
  set = is.set ∙ ap (λ b. Some (entry_if k t b)) e;
}

-- WHERE SOME MAY BE LEFT

-- what was renewed, or is as before, and is renewed then
renewed_then : (k : Kept) (changed : Changed) (MayBeLeft : ℕ → Type 0) (first s new : Stand) (t : ℕ) →
    IsRenewedAt k changed first s t ⊎ (MayBeLeft t × IsSameAt first s t) → IsRenewedAt k changed s new t →
    IsRenewedAt k changed first new t
renewed_then k changed MayBeLeft first s new t (inl was) is = renewed_of k changed first s new t
    (ap (λ o. renewed changed k t (is_told o)) was.able ∙ renewed-twice changed k t (able_at first t)) is
renewed_then k changed MayBeLeft first s new t (inr same) is = renewed_of k changed first s new t
    (ap (λ o. renewed changed k t (is_told o)) same.1.able) is

-- what two steps leave
pub renewed-both : (k : Kept) (changed : Changed) (First Next : ℕ → Type 0) (first s new : Stand) →
    AreRenewedBut k changed First first s → AreRenewedBut k changed Next s new →
    AreRenewedBut k changed (λ t. First t × Next t) first new
renewed-both k changed First Next first s new before after = record {
  size = after.size ∙ before.size;
  set_size = after.set_size ∙ before.set_size;
  each = λ t there. by_each t (before.each t there) (after.each t there);
}
  where
    by_each : (t : ℕ) → IsRenewedAt k changed first s t ⊎ (First t × IsSameAt first s t) →
        IsRenewedAt k changed s new t ⊎ (Next t × IsSameAt s new t) →
        IsRenewedAt k changed first new t ⊎ ((First t × Next t) × IsSameAt first new t)
    by_each t was (inl is) = inl (renewed_then k changed First first s new t was is)
    by_each t (inl was) (inr same) = inl (renewed_still k changed first s new t was same.1)
    by_each t (inr left) (inr same) = inr (
      (left.0, same.0),
      record {
        able = same.1.able ∙ left.1.able;
        set = same.1.set ∙ left.1.set;
      },
    )

-- one step leaves all but its task
pub renewed-but : (k : Kept) (changed : Changed) (u : ℕ) (s new : Stand) → Renews k changed u s new →
    AreRenewedBut k changed (λ t. t ≢ u) s new
renewed-but k changed u s new renews = record {
  size = renews.size;
  set_size = renews.set_size;
  each = λ t there. by_task t u _
      (λ same. inl (subst (λ v. IsRenewedAt k changed s new v) (sym same) renews.here))
      (λ other. inr (other, renews.others t other));
}

pub renewed-less : (k : Kept) (changed : Changed) (MayBeLeft Less : ℕ → Type 0) (s new : Stand) →
    ((t : ℕ) → MayBeLeft t → Less t) → AreRenewedBut k changed MayBeLeft s new → AreRenewedBut k changed Less s new
renewed-less k changed MayBeLeft Less s new less are = record {
  size = are.size;
  set_size = are.set_size;
  each = λ t there. by_each t (are.each t there);
}
  where
    by_each : (t : ℕ) → IsRenewedAt k changed s new t ⊎ (MayBeLeft t × IsSameAt s new t) →
        IsRenewedAt k changed s new t ⊎ (Less t × IsSameAt s new t)
    by_each t (inl is) = inl is
    by_each t (inr left) = inr (less t left.0, left.1)

pub none-renewed : (k : Kept) (changed : Changed) (MayBeLeft : ℕ → Type 0) (s : Stand) → ((t : ℕ) → MayBeLeft t) →
    AreRenewedBut k changed MayBeLeft s s
none-renewed k changed MayBeLeft s all = record {
  size = refl;
  set_size = refl;
  each = λ t there. inr (all t, record { able = refl; set = refl });
}

-- WAITERS

-- a task that waits comes behind this one
abbrev pub IsBehindIf : (Waiting : ℕ → Type 0) → Option ℕ → ℕ → Type 0
IsBehindIf Waiting after t = Waiting t → IsBehind after t

-- how many tasks come behind
abbrev pub left_behind : ℕ → Option ℕ → ℕ
left_behind tasks None = suc tasks
left_behind tasks (Some t) = tasks - t

pub fewer-left : (tasks : ℕ) (after : Option ℕ) (t : ℕ) → IsBehind after t → t < tasks →
    left_behind tasks (Some t) < left_behind tasks after
fewer-left tasks None t behind there = omega arith
fewer-left tasks (Some u) t behind there = omega arith

-- one more of those who wait is renewed
pub waiter-renewed : (k : Kept) (changed : Changed) (Waiting : ℕ → Type 0) (after : Option ℕ) (t : ℕ)
    (first s new : Stand) → ((u : ℕ) → IsBehind after u → Waiting u → t ≤ u) →
    AreRenewedBut k changed (IsBehindIf Waiting after) first s → Renews k changed t s new →
    AreRenewedBut k changed (IsBehindIf Waiting (Some t)) first new
waiter-renewed k changed Waiting after t first s new next before renews =
    renewed-less k changed _ (IsBehindIf Waiting (Some t)) first new
    (λ u left waits. let up = next u (left.0 waits) waits in let other = left.1 in omega (arith, up, other))
    (renewed-both k changed (IsBehindIf Waiting after) (λ u. u ≢ t) first s new before
    (renewed-but k changed t s new renews))

-- those who wait for one of the first n semaphores of a list are renewed
abbrev pub WaitsForNone : Kept → List ℕ → ℕ → ℕ → Type 0
WaitsForNone k list n t = (i : ℕ) → i < n → Waits (requests k.offers) (slice_index list i) t → ⊥

pub semaphore-renewed : (k : Kept) (list : List ℕ) (n : ℕ) (first s new : Stand) →
    AreRenewedBut k Counts (WaitsForNone k list n) first s →
    AreRenewedBut k Counts (λ t. Waits (requests k.offers) (slice_index list n) t → ⊥) s new →
    AreRenewedBut k Counts (WaitsForNone k list (n + 1)) first new
semaphore-renewed k list n first s new before after =
    renewed-less k Counts _ (WaitsForNone k list (n + 1)) first new
    (λ t left i less. by_task i n _
    (λ same. subst (λ i. Waits (requests k.offers) (slice_index list i) t → ⊥) (sym same) left.1)
    (λ other. left.0 i (omega (arith, less, other))))
    (renewed-both k Counts (WaitsForNone k list n) (λ t. Waits (requests k.offers) (slice_index list n) t → ⊥)
    first s new before after)

pub all-renewed : (k : Kept) (list : List ℕ) (s new : Stand) →
    AreRenewedBut k Counts (WaitsForNone k list (length list)) s new →
    AreRenewedBut k Counts (λ t. WaitsForOne k.offers list t → ⊥) s new
all-renewed k list s new are = renewed-less k Counts (WaitsForNone k list (length list)) _ s new
    (λ t left one. let found = place_of_named list one.semaphore one.named in
    left found.0 found.1 (subst (λ u. Waits (requests k.offers) u t) (sym found.2) one.waits)) are

-- TASK BY TASK

-- the first n tasks are renewed, and of the others it is as it was whether their offers can be done
pub record IsRenewedTo (k : Kept) (changed : Changed) (first s : Stand) (n : ℕ) : Type 0 where
  pub size : length s.able ≡ length first.able
  pub set_size : length s.set ≡ length first.set
  pub done : (t : ℕ) → t < n → IsRenewedAt k changed first s t
  pub rest : (t : ℕ) → n ≤ t → slice_get s.able t ≡ slice_get first.able t

pub renewed-next : (k : Kept) (changed : Changed) (first s new : Stand) (u : ℕ) → Renews k changed u s new →
    IsRenewedTo k changed first s u → IsRenewedTo k changed first new (u + 1)
renewed-next k changed first s new u renews before = record {
  size = renews.size ∙ before.size;
  set_size = renews.set_size ∙ before.set_size;
  done = λ t within. by_task t u (IsRenewedAt k changed first new t)
      (λ same. subst (λ v. IsRenewedAt k changed first new v) (sym same) (renewed_of k changed first s new u
      (ap (λ o. renewed changed k u (is_told o)) (before.rest u (omega arith))) renews.here))
      (λ other. renewed_still k changed first s new t (before.done t (omega (arith, within, other)))
      (renews.others t other));
  rest = λ t after. (renews.others t (λ same. absurd (omega (arith, after, same)))).able
      ∙ before.rest t (omega (arith, after));
}

pub renewed-all : (k : Kept) (changed : Changed) (first s : Stand) (n : ℕ) → length k.core.tasks ≤ n →
    IsRenewedTo k changed first s n → AreRenewedBut k changed (λ t. ⊥) first s
renewed-all k changed first s n all to = record {
  size = to.size;
  set_size = to.set_size;
  each = λ t there. inl (to.done t (omega (arith, there, all)));
}

-- AFTER AN ACTION

pub touched-own : (k : Kept) (own : ℕ) (s new : Stand) → Renews k Nothing own s new → IsRenewed k own Own s new
touched-own k own s new renews = record {
  size = renews.size;
  set_size = renews.set_size;
  each = λ t within. by_task t own _
      (λ same. inl (subst (λ u. IsRenewedAt k Nothing s new u) (sym same) renews.here))
      (λ other. inr (other, tt, renews.others t other));
}

pub touched-other : (k : Kept) (own u : ℕ) (s mid new : Stand) → Renews k Nothing u s mid →
    Renews k Nothing own mid new → IsRenewed k own (Other u) s new
touched-other k own u s mid new first last = record {
  size = last.size ∙ first.size;
  set_size = last.set_size ∙ first.set_size;
  each = λ t within. by_task t own _
      (λ same. inl (subst (λ v. IsRenewedAt k Nothing s new v) (sym same)
      (renewed_of k Nothing s mid new own known last.here)))
      (λ other. by_task t u _
      (λ same. inl (renewed_still k Nothing s mid new t
      (subst (λ v. IsRenewedAt k Nothing s mid v) (sym same) first.here) (last.others t other)))
      (λ far. inr (other, far, both (last.others t other) (first.others t far))));
}
  where
    known : renewed Nothing k own (able_at mid own) ≡ renewed Nothing k own (able_at s own)
    known = by_task own u _
        (λ same. ap (λ o. renewed Nothing k own (is_told o))
        (subst (λ v. IsRenewedAt k Nothing s mid v) (sym same) first.here).able
        ∙ renewed-twice Nothing k own (able_at s own))
        (λ other. ap (λ o. renewed Nothing k own (is_told o)) (first.others own other).able)

    both : {t : ℕ} → IsSameAt mid new t → IsSameAt s mid t → IsSameAt s new t
    both a b = record { able = a.able ∙ b.able; set = a.set ∙ b.set }

-- all that are touched are renewed, and then its own task
pub touched-many : (k : Kept) (own : ℕ) (touched : Reach) (s mid new : Stand) →
    AreRenewedBut k (changed_by touched) (λ t. IsUntouched k touched t) s mid →
    Renews k (changed_by touched) own mid new → IsRenewed k own touched s new
touched-many k own touched s mid new each last = record {
  size = are.size;
  set_size = are.set_size;
  each = λ t within. by_each t (are.each t within);
}
  where
    changed : Changed
    changed = changed_by touched

    are : AreRenewedBut k changed (λ t. IsUntouched k touched t × (t ≢ own)) s new
    are = renewed-both k changed (λ t. IsUntouched k touched t) (λ t. t ≢ own) s mid new each
        (renewed-but k changed own mid new last)

    by_each : (t : ℕ) → IsRenewedAt k changed s new t ⊎ ((IsUntouched k touched t × (t ≢ own)) × IsSameAt s new t) →
        IsRenewedAt k changed s new t ⊎ ((t ≢ own) × IsUntouched k touched t × IsSameAt s new t)
    by_each t (inl is) = inl is
    by_each t (inr left) = inr (left.0.1, left.0.0, left.1)
