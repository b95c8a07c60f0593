-- What becomes of the bits that tell who is active and has offered nothing.
use Rattle.std.proofs.Common.{◌≡◌, ℕ, zero, suc, ◌+◌, ◌/◌, ◌%◌, ◌<◌, ◌≤◌, ◌⊎◌, inl, inr, List, Bool, true, false, ◌&&◌}
use Rattle.std.proofs.Common.{Option, Some, None, length, replicate, slice_get, slice_set, refl, sym, ap, subst, ◌∙◌, arith, length-set}
use Rattle.std.specs.Int.{bit_at}
use Rattle.std.proofs.lemmas.Bool.{cases_lt}
use Rattle.std.proofs.lemmas.List.{get_or_past, get_or-replicate, length-replicate}
use Rattle.std.proofs.lemmas.Nat.Bits.{bit_at-zero}
use Rattle.std.proofs.lemmas.Option.{slice_get_past}
use Rattle.pearl_bits.specs.Bits.{bit, Changes}
use Rattle.pearl_rules.specs.declared.action.Action.{Action}
use Rattle.pearl_rules.specs.declared.row.TaskRow.{TaskRow}
use Rattle.pearl_rules.specs.Core.{is_active_mode, is_active_row}
use Rattle.pearl_rules.specs.Runs.{flattened, kept_at}
use Rattle.pearl_kernel.specs.Kept.{is_silent}
use Rattle.pearl_kernel.specs.Unsettled.{bit_if, AreActive, AreUnsettled}
use Rattle.pearl_kernel.proofs.Places.{by_task, kept-other, get-same, get-other}

-- THE START

pub no-bit : (n i : ℕ) → bit (replicate n 0) i ≡ 0
unfolding bit
no-bit n i = elim (cases_lt (i / 64) n) [
  | inl less ↦ ap (λ word. bit_at word (i % 64)) (get_or-replicate n (i / 64) 0 0 less) ∙ bit_at-zero (i % 64)
  | inr past ↦ ap (λ word. bit_at word (i % 64)) (get_or_past (replicate n 0) (i / 64) 0 (omega (arith, past, length-replicate {A = ℕ} n 0))) ∙ bit_at-zero (i % 64)
]

and_true : (b : Bool) → (b && true) ≡ b
and_true true = refl
and_true false = refl

and_false : (b : Bool) → (b && false) ≡ false
and_false true = refl
and_false false = refl

-- the bits of the first n tasks are set where these are active, and no other ones
pub record AreFirst (rows : List TaskRow) (words : List ℕ) (n : ℕ) : Type 0 where
  pub four : length words ≡ 4
  pub below : (t : ℕ) → t < n → bit words t ≡ bit_if (is_active_row (slice_get rows t))
  pub above : (t : ℕ) → n ≤ t → bit words t ≡ 0

pub none-first : (rows : List TaskRow) (words : List ℕ) → words ≡ replicate 4 0 → AreFirst rows words 0
none-first rows words is = subst (λ ws. AreFirst rows ws 0) (sym is) (record {
  four = refl;
  below = λ t within. absurd (omega (arith, within));
  above = λ t past. no-bit 4 t;
})

pub one-more : (rows : List TaskRow) (words new : List ℕ) (n : ℕ) (active : Bool) → AreFirst rows words n →
    Changes words new n (bit_if (active && true)) → length new ≡ length words →
    active ≡ is_active_row (slice_get rows n) → AreFirst rows new (n + 1)
one-more rows words new n active are changes same is = record {
  four = same ∙ are.four;
  below = λ t within. by_task t n (bit new t ≡ bit_if (is_active_row (slice_get rows t)))
      (λ e. subst (λ u. bit new u ≡ bit_if (is_active_row (slice_get rows u))) (sym e)
      (changes.this ∙ ap bit_if (and_true active ∙ is)))
      (λ other. changes.others t other ∙ are.below t (omega (arith, within, other)));
  above = λ t past. changes.others t (λ e. absurd (omega (arith, past, e))) ∙ are.above t (omega (arith, past));
}

pub all-first : (rows : List TaskRow) (words : List ℕ) → AreFirst rows words (length rows) → AreActive rows words
all-first rows words are = record {
  four = are.four;
  each = λ t near. by_place t (cases_lt t (length rows));
}
  where
    by_place : (t : ℕ) → (t < length rows) ⊎ (length rows ≤ t) → bit words t ≡ bit_if (is_active_row (slice_get rows t))
    by_place t (inl within) = are.below t within
    by_place t (inr past) = are.above t past ∙ ap (λ row. bit_if (is_active_row row)) (sym (slice_get_past rows t past))

pub none_offered : (n t : ℕ) → kept_at (replicate {A = Option Action} n None) t ≡ None
none_offered zero t = refl
none_offered (suc n) zero = refl
none_offered (suc n) (suc t) = none_offered n t

-- nothing is offered yet
pub unsettled-opening : (rows : List TaskRow) (offers : List (Option Action)) (words : List ℕ) (n : ℕ) →
    AreActive rows words → length rows ≤ 200 → n ≤ 200 → offers ≡ replicate n None → AreUnsettled rows offers words
unsettled-opening rows offers words n are few small is = record {
  few = few;
  few_offers = omega (arith, small, ap length is, length-replicate {A = Option Action} n None);
  four = are.four;
  each = λ t near. are.each t near ∙ ap bit_if (sym (and_true (is_active_row (slice_get rows t))))
      ∙ ap (λ offer. bit_if (is_active_row (slice_get rows t) && is_silent offer))
      (sym (ap (λ xs. kept_at xs t) is ∙ none_offered n t));
}

-- A CHANGE

module _ (rows : List TaskRow) (offers : List (Option Action)) (words : List ℕ) (are : AreUnsettled rows offers words) where
  -- a task has another row
  pub unsettled-row : (task : ℕ) (row : TaskRow) (new : List ℕ) (active silent : Bool) → task < length rows →
      Changes words new task (bit_if (active && silent)) → length new ≡ length words →
      active ≡ is_active_mode row.mode → silent ≡ is_silent (kept_at offers task) →
      AreUnsettled (slice_set rows task row) offers new
  unsettled-row task row new active silent there changes same is quiet = record {
    few = omega (arith, are.few, length-set rows task row);
    few_offers = are.few_offers;
    four = same ∙ are.four;
    each = λ t near. by_task t task (Tells t)
        (λ e. subst Tells (sym e) (changes.this ∙ ap (λ b. bit_if (b && silent)) is
        ∙ ap (λ b. bit_if (is_active_mode row.mode && b)) quiet
        ∙ ap (λ r. bit_if (is_active_row r && is_silent (kept_at offers task))) (sym (get-same rows task row there))))
        (λ other. changes.others t other ∙ are.each t near
        ∙ ap (λ r. bit_if (is_active_row r && is_silent (kept_at offers t))) (sym (get-other rows task t row other)));
  }
    where
      Tells : ℕ → Type 0
      Tells t = bit new t ≡ bit_if (is_active_row (slice_get (slice_set rows task row) t) && is_silent (kept_at offers t))

  -- a task offers something else
  offer_is : (task b : ℕ) (offer : Option Action) (new : List ℕ) → task < length offers →
      Changes words new task b → length new ≡ length words →
      b ≡ bit_if (is_active_row (slice_get rows task) && is_silent offer) →
      AreUnsettled rows (slice_set offers task offer) new
  offer_is task b offer new there changes same is = record {
    few = are.few;
    few_offers = omega (arith, are.few_offers, length-set offers task offer);
    four = same ∙ are.four;
    each = λ t near. by_task t task (Tells t)
        (λ e. subst Tells (sym e) (changes.this ∙ is
        ∙ ap (λ o. bit_if (is_active_row (slice_get rows task) && is_silent (flattened o))) (sym (get-same offers task offer there))))
        (λ other. changes.others t other ∙ are.each t near
        ∙ ap (λ o. bit_if (is_active_row (slice_get rows t) && is_silent o)) (sym (kept-other offers task t offer other)));
  }
    where
      Tells : ℕ → Type 0
      Tells t = bit new t ≡ bit_if (is_active_row (slice_get rows t) && is_silent (kept_at (slice_set offers task offer) t))

  -- it offers an action
  pub unsettled-offer : (task : ℕ) (offer : Option Action) (action : Action) (new : List ℕ) → task < length offers →
      Changes words new task 0 → length new ≡ length words → offer ≡ Some action →
      AreUnsettled rows (slice_set offers task offer) new
  unsettled-offer task offer action new there changes same is = offer_is task 0 offer new there changes same
      (ap bit_if (sym (and_false (is_active_row (slice_get rows task)))
      ∙ ap (λ o. is_active_row (slice_get rows task) && is_silent o) (sym is)))

  -- what it offered is gone
  pub unsettled-gone : (task : ℕ) (offer : Option Action) (new : List ℕ) (active : Bool) → task < length offers →
      Changes words new task (bit_if (active && true)) → length new ≡ length words →
      active ≡ is_active_row (slice_get rows task) → offer ≡ None →
      AreUnsettled rows (slice_set offers task offer) new
  unsettled-gone task offer new active there changes same is gone =
      offer_is task (bit_if (active && true)) offer new there changes same
      (ap (λ b. bit_if (b && true)) is ∙ ap (λ o. bit_if (is_active_row (slice_get rows task) && is_silent o)) (sym gone))
