-- The picked task acts.
use Rattle.std.proofs.Common.{◌≡◌, ◌≢◌, ℕ, ◌<◌, ◌≤◌, ◌⊎◌, inl, inr, List, Bool, true, false}
use Rattle.std.proofs.Common.{Option, Some, None, length, slice_get, slice_set, refl, sym, ap, subst, ◌∙◌}
use Rattle.std.proofs.lemmas.Bool.{true≢false}
use Rattle.std.proofs.lemmas.Option.{none-some, same_Some}
use Rattle.pearl_rules.specs.declared.action.Action.{Action}
use Rattle.pearl_rules.specs.declared.row.Mode.{Mode}
use Rattle.pearl_rules.specs.declared.row.Mode.TheVariants.{Dormant, Active}
use Rattle.pearl_rules.specs.declared.row.TaskRow.{TaskRow}
use Rattle.pearl_rules.specs.declared.setup.Setup.{Setup}
use Rattle.pearl_rules.specs.Core.{Core, Report, row_of}
use Rattle.pearl_rules.specs.Devices.{bytes_in, values_in}
use Rattle.pearl_rules.specs.Effect.{effect}
use Rattle.pearl_rules.specs.Pick.{guard, is_possible, is_ready, is_ready_row, pick}
use Rattle.pearl_rules.specs.Runs.{dropped, kept_at}
use Rattle.pearl_rules.proofs.Offered.{picked}
use Rattle.pearl_kernel.specs.Kept.{Kept, offered, done, IsLawful}
use Rattle.pearl_kernel.specs.Whole.{IsWhole, IsOfTasks}
use Rattle.pearl_kernel.specs.Eligible.{possible, entry, entry_if, Stand, is_told, able_at, IsSameAt, IsStandOf}
use Rattle.pearl_kernel.specs.declared.changes.Changed.{Changed}
use Rattle.pearl_kernel.specs.declared.changes.Changed.TheVariants.{Nothing}
use Rattle.pearl_kernel.specs.Changes.{ChangesOnly, Stirs, renewed, IsRenewedAt, AreRenewedBut, AreRenewedIf}
use Rattle.pearl_kernel.specs.Changes.{IsUnmoved, KeepsTasks}
use Rattle.pearl_kernel.specs.Touched.{Reach, Own, Other, Waiters, After, IsUntouched, KeepsOthers, changed_by, Leaves, IsThere, IsRenewed}
use Rattle.pearl_kernel.proofs.Lawful.{ActsKeep, lawful-after}
use Rattle.pearl_kernel.proofs.Naming.{names-all}
use Rattle.pearl_kernel.proofs.Places.{kept-other, some-before, some-dropped}
use Rattle.pearl_kernel.proofs.Entries.{possible-same, possible-unless, possible-unmoved, unmoved-row, entry-same, renewed-is}

-- WHAT IS PICKED CAN BE DONE

-- an action that was offered, and can be done now
record Able (core : Core) (offer : Option Action) : Type 0 where
  action : Action
  is : offer ≡ Some action
  able : guard core action ≡ true

able_offer : (core : Core) (offer : Option Action) → is_possible core offer ≡ true → Able core offer
able_offer core None e = absurd (true≢false (sym e))
able_offer core (Some a) e = record { action = a; is = refl; able = e }

able_mode : (mode : Mode) (possible : Bool) → is_ready mode possible ≡ true → possible ≡ true
able_mode Dormant possible e = absurd (true≢false (sym e))
able_mode (Active priority true) possible e = absurd (true≢false (sym e))
able_mode (Active priority false) possible e = e

able_row : (row : Option TaskRow) (possible : Bool) → is_ready_row row possible ≡ true → possible ≡ true
able_row None possible e = absurd (true≢false (sym e))
able_row (Some row) possible e = able_mode row.mode possible e

able : (k : Kept) (t : ℕ) → pick k.core (offered k) ≡ Some t → Able k.core (offered k t)
able k t e = able_offer k.core (offered k t)
    (able_row (row_of k.core t) (is_possible k.core (offered k t)) ((picked k.core (offered k) t e).eligible))

pub picked-offers : (k : Kept) (t : ℕ) → pick k.core (offered k) ≡ Some t → offered k t ≡ None → ⊥
picked-offers k t e none = let a = able k t e in none-some a.action (sym none ∙ a.is)

pub picked-able : (k : Kept) (t : ℕ) (a : Action) → pick k.core (offered k) ≡ Some t → offered k t ≡ Some a →
    guard k.core a ≡ true
picked-able k t a e is = let b = able k t e in ap (guard k.core) (same_Some a b.action (sym is ∙ b.is)) ∙ b.able

-- WHAT IS KEPT OF THE TASKS

-- a task stands as it is kept
abbrev StandsSo : Kept → Stand → ℕ → Type 0
StandsSo k s t = (slice_get s.able t ≡ Some (possible k t)) × (slice_get s.set t ≡ Some (entry k t))

stand_of : (k : Kept) (s : Stand) → length s.able ≡ length k.core.tasks → length s.set ≡ length k.core.tasks →
    ((t : ℕ) → t < length k.core.tasks → StandsSo k s t) → IsStandOf k s
stand_of k s size set_size each = record {
  size = size;
  able = λ t there. (each t there).0;
  ready = record { size = set_size; each = λ t there. (each t there).1 };
}

-- neither its row nor its offer changes, nor whether that can be done
stays : (k new : Kept) (s after : Stand) (t : ℕ) → row_of new.core t ≡ row_of k.core t → offered new t ≡ offered k t →
    possible new t ≡ possible k t → IsSameAt s after t → StandsSo k s t → StandsSo new after t
stays k new s after t row offer able same so = (
  same.able ∙ so.0 ∙ ap (λ b. Some b) (sym able),
  same.set ∙ so.1 ∙ ap (λ e. Some e) (sym (entry-same k new t row able)),
)

-- it is renewed
renews : (changed : Changed) (k new : Kept) (s after : Stand) (t : ℕ) → ChangesOnly changed k.core new.core →
    ((a : Action) → offered new t ≡ Some a → offered k t ≡ Some a) → StandsSo k s t →
    IsRenewedAt new changed s after t → StandsSo new after t
renews changed k new s after t only offers so is =
    let e : renewed changed new t (able_at s t) ≡ possible new t =
    ap (λ o. renewed changed new t (is_told o)) so.0 ∙ renewed-is changed k new t only offers in
    (is.able ∙ ap (λ b. Some b) e, is.set ∙ ap (λ b. Some (entry_if new t b)) e)

stood : (k : Kept) (s : Stand) (t : ℕ) → IsWhole k s → t < length k.core.tasks → StandsSo k s t
stood k s t kept there = (kept.stand.able t there, kept.stand.ready.each t there)

-- after a step it is still kept of each task
pub still-of : (setup : Setup) (k new : Kept) (s : Stand) → IsLawful setup k → IsLawful setup new → IsWhole k s →
    IsOfTasks new s
still-of setup k new s before lawful kept =
    let size : length k.core.tasks ≡ length new.core.tasks = before.tasks ∙ sym lawful.tasks in
    record {
      few = subst (λ n. n ≤ 200) size kept.few;
      size = kept.stand.size ∙ size;
      same = lawful.same;
      names = names-all setup new lawful;
    }

-- AFTER AN ACTION

pub there-after : (k new : Kept) (touched : Reach) → length new.core.tasks ≡ length k.core.tasks →
    IsThere k.core touched → IsThere new.core touched
there-after k new Own same there = tt
there-after k new (Other u) same there = subst (λ n. u < n) (sym same) there
there-after k new (Waiters list) same there = tt
there-after k new (After changed) same there = tt

-- a task that isn't touched stands as before
left_so : (k new : Kept) (s after : Stand) (touched : Reach) (t : ℕ) → IsUntouched new touched t →
    ChangesOnly (changed_by touched) k.core new.core → KeepsOthers touched k.core new.core →
    row_of new.core t ≡ row_of k.core t → offered new t ≡ offered k t → IsSameAt s after t → StandsSo k s t →
    StandsSo new after t
left_so k new s after Own t far only kept row offer same so = stays k new s after t row offer (possible-same k new t offer only) same so
left_so k new s after (Other u) t far only kept row offer same so = stays k new s after t row offer (possible-same k new t offer only) same so
left_so k new s after (Waiters list) t far only kept row offer same so = stays k new s after t row offer (possible-unless k new list t far only kept offer) same so
left_so k new s after (After changed) t far only kept row offer same so = stays k new s after t row offer (possible-unmoved k new changed t far only offer) same so

pub kept-after : (setup : Setup) (k : Kept) (s after : Stand) (own : ℕ) (a : Action) (touched : Reach) →
    IsLawful setup k → IsLawful setup (done k own a) → IsWhole k s →
    Leaves own (record k { offers = slice_set k.offers own None }) (done k own a) touched →
    IsRenewed (done k own a) own touched s after → IsWhole (done k own a) after
kept-after setup k s after own a touched before lawful kept leaving renewed =
    let size : length (done k own a).core.tasks ≡ length k.core.tasks = lawful.tasks ∙ sym before.tasks in
    record {
      few = subst (λ n. n ≤ 200) (sym size) kept.few;
      lawful = (setup, lawful);
      stand = stand_of (done k own a) after (renewed.size ∙ kept.stand.size ∙ sym size)
          (renewed.set_size ∙ kept.stand.ready.size ∙ sym size)
          (λ t there. by_each t (subst (λ n. t < n) size there) (renewed.each t there));
    }
  where
    new : Kept
    new = done k own a

    only : ChangesOnly (changed_by touched) k.core new.core
    only = leaving.only

    by_each : (t : ℕ) → t < length k.core.tasks →
        IsRenewedAt new (changed_by touched) s after t ⊎ ((t ≢ own) × IsUntouched new touched t × IsSameAt s after t) →
        StandsSo new after t
    by_each t there (inl is) =
        renews (changed_by touched) k new s after t only
        (λ b e. some-before k.offers own t b
        (some-dropped (effect k.core own a).ended (slice_set k.offers own None) t b e))
        (stood k s t kept there) is
    by_each t there (inr same) =
        let left = leaving.others t same.0 same.1 in
        left_so k new s after touched t same.1 only leaving.kept left.0 (left.1 ∙ kept-other k.offers own t None same.0) same.2
        (stood k s t kept there)

-- what became of the offers and then of the core
done-is : (k mid new : Kept) (own : ℕ) (a : Action) →
    mid ≡ record { core = k.core; offers = slice_set k.offers own None } →
    new ≡ record { core = (effect mid.core own a).core; offers = dropped (effect mid.core own a).ended mid.offers } →
    new ≡ done k own a
done-is k mid new own a m n = n ∙ ap then m
  where
    then : Kept → Kept
    then x = record { core = (effect x.core own a).core; offers = dropped (effect x.core own a).ended x.offers }

-- what a lawful kernel becomes
pub record IsActed (setup : Setup) (k new : Kept) (own : ℕ) (a : Action) : Type 0 where
  pub is : new ≡ done k own a
  pub before : IsLawful setup k
  pub lawful : IsLawful setup (done k own a)

pub acted : ActsKeep → (setup : Setup) (k mid new : Kept) (own : ℕ) (a : Action) → IsLawful setup k → own < length k.core.tasks →
    offered k own ≡ Some a → mid ≡ record { core = k.core; offers = slice_set k.offers own None } →
    new ≡ record { core = (effect mid.core own a).core; offers = dropped (effect mid.core own a).ended mid.offers } →
    IsActed setup k new own a
acted keeps setup k mid new own a before there offer m n = record {
  is = done-is k mid new own a m n;
  before = before;
  lawful = lawful-after keeps setup k own a there offer before;
}

-- WHAT CHANGES NO OFFER

-- nor a row, nor what offers wait for
pub kept-same : (setup : Setup) (k new : Kept) (s : Stand) → IsLawful setup new → new.core.tasks ≡ k.core.tasks →
    new.offers ≡ k.offers → ChangesOnly Nothing k.core new.core → IsWhole k s → IsWhole new s
kept-same setup k new s lawful tasks offers only kept =
    let size : length new.core.tasks ≡ length k.core.tasks = ap (λ rows. length rows) tasks in
    record {
      few = subst (λ n. n ≤ 200) (sym size) kept.few;
      lawful = (setup, lawful);
      stand = stand_of new s (kept.stand.size ∙ sym size) (kept.stand.ready.size ∙ sym size)
          (λ t there. stays k new s s t (ap (λ rows. slice_get rows t) tasks) (ap (λ xs. kept_at xs t) offers)
          (possible-same k new t (ap (λ xs. kept_at xs t) offers) only)
          (record { able = refl; set = refl }) (stood k s t kept (subst (λ n. t < n) size there)));
    }

-- rows may change, and at most this of what offers wait for
kept_changed : (setup : Setup) (k new : Kept) (s after : Stand) (changed : Changed) → IsLawful setup k →
    IsLawful setup new → new.offers ≡ k.offers → KeepsTasks changed k.core new.core →
    ChangesOnly changed k.core new.core → IsWhole k s → AreRenewedBut new changed (IsUnmoved new changed) s after →
    IsWhole new after
kept_changed setup k new s after changed before lawful offers tasks only kept renewed =
    let size : length new.core.tasks ≡ length k.core.tasks = lawful.tasks ∙ sym before.tasks in
    record {
      few = subst (λ n. n ≤ 200) (sym size) kept.few;
      lawful = (setup, lawful);
      stand = stand_of new after (renewed.size ∙ kept.stand.size ∙ sym size)
          (renewed.set_size ∙ kept.stand.ready.size ∙ sym size)
          (λ t there. by_each t (stood k s t kept (subst (λ n. t < n) size there)) (renewed.each t there));
    }
  where
    by_each : (t : ℕ) → StandsSo k s t →
        IsRenewedAt new changed s after t ⊎ (IsUnmoved new changed t × IsSameAt s after t) → StandsSo new after t
    by_each t so (inl is) =
        renews changed k new s after t only (λ a e. ap (λ xs. kept_at xs t) (sym offers) ∙ e) so is
    by_each t so (inr left) =
        let offer = ap (λ xs. kept_at xs t) offers in
        stays k new s after t (unmoved-row k.core new.core new changed t tasks left.0) offer
        (possible-unmoved k new changed t left.0 only offer) left.1 so

pub kept-stirred : (setup : Setup) (k new : Kept) (s after : Stand) (changed : Option Changed) → IsLawful setup k →
    IsLawful setup new → new.offers ≡ k.offers → Stirs k.core new.core changed → IsWhole k s →
    AreRenewedIf new changed s after → IsWhole new after
kept-stirred setup k new s after None before lawful offers stirs kept same =
    subst (λ (x : Stand). IsWhole new x) (sym same) (kept-same setup k new s lawful stirs.0 offers stirs.1 kept)
kept-stirred setup k new s after (Some changed) before lawful offers stirs kept renewed =
    kept_changed setup k new s after changed before lawful offers stirs.0 stirs.1 kept renewed

-- the same counts, channels and formats
alike : (core new : Core) → new.counts ≡ core.counts → new.channels ≡ core.channels → new.formats ≡ core.formats →
    ChangesOnly Nothing core new
alike core new counts channels formats = record {
  counts = λ e. counts;
  bytes = λ d e. ap (λ xs. bytes_in (slice_get xs d)) channels;
  values = λ d e. ap (λ xs. values_in (slice_get xs d)) channels;
  formats = formats;
}

pub kept-last : (setup : Setup) (k : Kept) (s : Stand) (last : Option ℕ) →
    IsLawful setup (record k { core = record k.core { last = last } }) → IsWhole k s →
    IsWhole (record k { core = record k.core { last = last } }) s
kept-last setup k s last lawful kept =
    let new : Core = record k.core { last = last } in
    kept-same setup k (record k { core = new }) s lawful refl refl (alike k.core new refl refl refl) kept

pub kept-told : (setup : Setup) (k : Kept) (s : Stand) (told : List (ℕ × Report)) →
    IsLawful setup (record k { core = record k.core { told = told } }) → IsWhole k s →
    IsWhole (record k { core = record k.core { told = told } }) s
kept-told setup k s told lawful kept =
    let new : Core = record k.core { told = told } in
    kept-same setup k (record k { core = new }) s lawful refl refl (alike k.core new refl refl refl) kept

pub kept-moment : (setup : Setup) (k : Kept) (s : Stand) (moment : ℕ) →
    IsLawful setup (record k { core = record k.core { moment = moment } }) → IsWhole k s →
    IsWhole (record k { core = record k.core { moment = moment } }) s
kept-moment setup k s moment lawful kept =
    let new : Core = record k.core { moment = moment } in
    kept-same setup k (record k { core = new }) s lawful refl refl (alike k.core new refl refl refl) kept

pub kept-clock : (setup : Setup) (k : Kept) (s : Stand) (time : ℕ) →
    IsLawful setup (record k { core = record k.core { clock = time } }) → IsWhole k s →
    IsWhole (record k { core = record k.core { clock = time } }) s
kept-clock setup k s time lawful kept =
    let new : Core = record k.core { clock = time } in
    kept-same setup k (record k { core = new }) s lawful refl refl (alike k.core new refl refl refl) kept
