-- Whether an offer can be done, and who can act, doesn't change by what touches neither a task's row, its offer nor what the
-- guards look at.
use Rattle.std.proofs.Common.{◌≡◌, ◌⊎◌, inl, inr, ℕ, ◌<◌, ◌≤◌, List, Bool, true, false, Option, Some, None, if◌then◌else◌}
use Rattle.std.proofs.Common.{length, slice_get, refl, sym, ap, ◌∙◌, arith, ne_eqb}
use Rattle.std.proofs.lemmas.Bool.{cases_lt}
use Rattle.std.proofs.lemmas.Option.{slice_get_past}
use Rattle.pearl_rules.specs.declared.action.Action.{Action}
use Rattle.pearl_rules.specs.declared.action.Action.TheVariants as action
use Rattle.pearl_rules.specs.declared.setup.Setup.{Setup}
use Rattle.pearl_rules.specs.Core.{Core, row_of}
use Rattle.pearl_rules.specs.Counts.{all_free, count_at}
use Rattle.pearl_rules.specs.Devices.{bytes_at, items_of}
use Rattle.pearl_rules.specs.Pick.{guard, is_complete, is_some_value, is_ready_row, is_possible, priority_of_row}
use Rattle.pearl_rules.specs.Runs.{flattened, kept_at}
use Rattle.pearl_rules.specs.Scan.{scan}
use Rattle.pearl_rules.specs.Tables.{items_or_none}
use Rattle.pearl_kernel.specs.declared.changes.Changed.{Changed}
use Rattle.pearl_kernel.specs.declared.changes.Changed.TheVariants.{Nothing, Counts, Device}
use Rattle.pearl_kernel.specs.Kept.{Kept, offered, IsLawful}
use Rattle.pearl_kernel.specs.Eligible.{possible, number_if, entry, Stand, is_told, able_at, IsStandOf}
use Rattle.pearl_kernel.specs.Changes.{ChangesOnly, IsUnmoved, KeepsTasks, looks_at, renewed_offer, renewed}
use Rattle.pearl_kernel.specs.Listening.{awaited}
use Rattle.pearl_kernel.specs.Requests.{requested, WaitsForOne}
use Rattle.pearl_kernel.proofs.Requesting.{free-same, requests-named}
use Rattle.pearl_sema.specs.Waiting.{names}

-- WHAT OFFERS WAIT FOR

pub unchanged : (core : Core) → ChangesOnly Nothing core core
unchanged core = record { counts = λ e. refl; bytes = λ d e. refl; values = λ d e. refl; formats = refl }

-- an action that doesn't wait for what changed
guard_same : (changed : Changed) (old core : Core) (a : Action) → ChangesOnly changed old core →
    looks_at changed a ≡ false → guard core a ≡ guard old a
guard_same changed old core (action.Request list) only e = ap (λ cs. all_free cs list.items) (only.counts e)
guard_same changed old core (action.Get d format kinds) only e =
    ap (λ fs. is_complete (scan (items_or_none (slice_get fs format)) kinds.items (bytes_at core d))) only.formats
    ∙ ap (λ bs. is_complete (scan (items_of old format) kinds.items bs)) (only.bytes d e)
guard_same changed old core (action.Take d) only e = ap is_some_value (only.values d e)
guard_same changed old core other only e = refl

nothing_looked : (a : Action) → looks_at Nothing a ≡ false
nothing_looked (action.Request list) = refl
nothing_looked (action.Get d format kinds) = refl
nothing_looked (action.Take d) = refl
nothing_looked other = refl

offer_same : (old core : Core) (offer : Option Action) → ChangesOnly Nothing old core →
    is_possible core offer ≡ is_possible old offer
offer_same old core None only = refl
offer_same old core (Some a) only = guard_same Nothing old core a only (nothing_looked a)

pub possible-same : (k new : Kept) (t : ℕ) → offered new t ≡ offered k t → ChangesOnly Nothing k.core new.core →
    possible new t ≡ possible k t
possible-same k new t offer only = offer_same k.core new.core (offered new t) only ∙ ap (λ o. is_possible k.core o) offer

-- counts that change, where the offer waits for none of these semaphores
pub possible-unless : (k new : Kept) (list : List ℕ) (t : ℕ) → (WaitsForOne new.offers list t → ⊥) →
    ChangesOnly Counts k.core new.core →
    ((semaphore : ℕ) → names list semaphore ≡ false → count_at new.core.counts semaphore ≡ count_at k.core.counts semaphore) →
    offered new t ≡ offered k t → possible new t ≡ possible k t
possible-unless k new list t far only kept offer =
    by_offer (offered new t) refl ∙ ap (λ o. is_possible k.core o) offer
  where
    by_name : (semaphore : ℕ) → names (requested (offered new t)) semaphore ≡ true → (named : Bool) →
        names list semaphore ≡ named → count_at new.core.counts semaphore ≡ count_at k.core.counts semaphore
    by_name semaphore waits true is = absurd (far (record {
      semaphore = semaphore;
      named = is;
      waits = requests-named new.offers semaphore t waits;
    }))
    by_name semaphore waits false is = kept semaphore is

    by_offer : (offer : Option Action) → offered new t ≡ offer → is_possible new.core offer ≡ is_possible k.core offer
    by_offer None e = refl
    by_offer (Some (action.Request asked)) e = free-same k.core.counts new.core.counts asked.items
        (λ semaphore named. by_name semaphore (ap (λ o. names (requested o) semaphore) e ∙ named)
        (names list semaphore) refl)
    by_offer (Some (action.Get d format kinds)) e =
        guard_same Counts k.core new.core (action.Get d format kinds) only refl
    by_offer (Some (action.Take d)) e = guard_same Counts k.core new.core (action.Take d) only refl
    by_offer (Some other) e = refl

-- what waits at a device changes, and the offer waits at another one, or at none
pub possible-unmoved : (k new : Kept) (changed : Changed) (t : ℕ) → IsUnmoved new changed t →
    ChangesOnly changed k.core new.core → offered new t ≡ offered k t → possible new t ≡ possible k t
possible-unmoved k new (Device d) t away only offer =
    by_offer (offered new t) away ∙ ap (λ o. is_possible k.core o) offer
  where
    by_offer : (offer : Option Action) → (awaited offer ≡ Some d → ⊥) →
        is_possible new.core offer ≡ is_possible k.core offer
    by_offer None away = refl
    by_offer (Some (action.Get e format kinds)) away =
        guard_same (Device d) k.core new.core (action.Get e format kinds) only
        (ne_eqb d e (λ same. away (ap (λ x. Some x) (sym same))))
    by_offer (Some (action.Take e)) away = guard_same (Device d) k.core new.core (action.Take e) only
        (ne_eqb d e (λ same. away (ap (λ x. Some x) (sym same))))
    by_offer (Some (action.Request list)) away = guard_same (Device d) k.core new.core (action.Request list) only refl
    by_offer (Some other) away = refl
possible-unmoved k new changed t away only offer = absurd away

pub unmoved-row : (old core : Core) (k : Kept) (changed : Changed) (t : ℕ) → KeepsTasks changed old core →
    IsUnmoved k changed t → row_of core t ≡ row_of old t
unmoved-row old core k (Device d) t same away = ap (λ rows. slice_get rows t) same
unmoved-row old core k changed t same away = absurd away

-- the same row, and whether the offer can be done is the same
pub entry-same : (k new : Kept) (t : ℕ) → row_of new.core t ≡ row_of k.core t → possible new t ≡ possible k t →
    entry new t ≡ entry k t
entry-same k new t row able =
    ap (λ r. number_if (is_ready_row r (possible new t)) (priority_of_row r)) row
    ∙ ap (λ b. number_if (is_ready_row (row_of k.core t) b) (priority_of_row (row_of k.core t))) able

-- WHAT IS RENEWED

renewed_action : (changed : Changed) (old core : Core) (a : Action) (looks : Bool) → looks_at changed a ≡ looks →
    ChangesOnly changed old core → (if looks then guard core a else guard old a) ≡ guard core a
renewed_action changed old core a true e only = refl
renewed_action changed old core a false e only = sym (guard_same changed old core a only e)

-- where no offer is new, what is renewed is so
pub renewed-is : (changed : Changed) (k new : Kept) (t : ℕ) → ChangesOnly changed k.core new.core →
    ((a : Action) → offered new t ≡ Some a → offered k t ≡ Some a) →
    renewed changed new t (possible k t) ≡ possible new t
renewed-is changed k new t only offers = by_offer (offered new t) offers
  where
    by_offer : (offer : Option Action) → ((a : Action) → offer ≡ Some a → offered k t ≡ Some a) →
        renewed_offer changed new.core offer (possible k t) ≡ is_possible new.core offer
    by_offer None offers = refl
    by_offer (Some a) offers =
        ap (λ b. if looks_at changed a then guard new.core a else b) (ap (λ o. is_possible k.core o) (offers a refl))
        ∙ renewed_action changed k.core new.core a (looks_at changed a) refl only

offer_twice : (changed : Changed) (core : Core) (offer : Option Action) (before : Bool) →
    renewed_offer changed core offer (renewed_offer changed core offer before) ≡ renewed_offer changed core offer before
offer_twice changed core None before = refl
offer_twice changed core (Some a) before = by_look (looks_at changed a)
  where
    by_look : (looks : Bool) → (if looks then guard core a else (if looks then guard core a else before))
        ≡ (if looks then guard core a else before)
    by_look true = refl
    by_look false = refl

pub renewed-twice : (changed : Changed) (k : Kept) (t : ℕ) (before : Bool) →
    renewed changed k t (renewed changed k t before) ≡ renewed changed k t before
renewed-twice changed k t before = offer_twice changed k.core (offered k t) before

-- WHAT IS KEPT

pub none_past : {X : Type 0} (xs : List (Option X)) (t : ℕ) → length xs ≤ t → kept_at xs t ≡ None
none_past xs t past = ap flattened (slice_get_past xs t past)

-- it tells of each number whether what this task has offered can be done
pub able-is : (setup : Setup) (k : Kept) (s : Stand) (t : ℕ) → IsLawful setup k → IsStandOf k s → able_at s t ≡ possible k t
able-is setup k s t lawful is = by_place (cases_lt t (length k.core.tasks))
  where
    by_place : (t < length k.core.tasks) ⊎ (length k.core.tasks ≤ t) → able_at s t ≡ possible k t
    by_place (inl within) = ap is_told (is.able t within)
    by_place (inr past) = ap is_told (slice_get_past s.able t (omega (arith, past, is.size)))
        ∙ sym (ap (is_possible k.core) (none_past k.offers t (omega (arith, past, lawful.same, is.size))))
