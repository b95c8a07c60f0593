-- Two states of which the second has told something before, and has its entries in parts: they stay so, step by step.
use Rattle.std.proofs.Common.{◌≡◌, ℕ, zero, suc, List, ◌++◌, Option, Some, None, refl, sym, ap, subst, ◌∙◌}
use Rattle.std.proofs.Common.{append_assoc}
use Rattle.std.proofs.lemmas.Option.{none-some}
use Rattle.pearl_rules.specs.declared.action.Action.{Action}
use Rattle.pearl_rules.specs.declared.entry.Entry.{Entry}
use Rattle.pearl_rules.specs.Core.{Core, Report, told_before}
use Rattle.pearl_rules.specs.Pick.{Offered, pick, states, showing}
use Rattle.pearl_rules.specs.Runs.{Mark, Acts, Turns, Tells, Passes, Arrives, Coming, next_mark, mapped, dropped}
use Rattle.pearl_rules.specs.Runs.{kept_at, Engine, Running, Machine, machine_offers, machine_next, machine_settled}
use Rattle.pearl_rules.specs.Runs.{machine_does, machine_acts, machine_mark, machine_mark_by, machine_step_by}
use Rattle.pearl_rules.specs.Runs.{machine_step, machine_after, answered, unsettled}
use Rattle.pearl_rules.proofs.Offered.{pick-offers, states-offers, effect-told_before, millisecond-told_before}
use Rattle.pearl_rules.proofs.Offered.{arrived-told_before, turned-told_before}
use Rattle.pearl_run_laws.specs.GoingOn.{StandAlike, next_of}
use Rattle.pearl_run_laws.proofs.Steps.{step_by}
use Rattle.pearl_run_laws.proofs.Coming.{AreParts, ComeAlike, parts_next}

-- the same state, with this told before and these entries to come
abbrev pub earlier : {S : Type 0} → List (ℕ × Report) → Machine S → List Entry → Machine S
earlier before m es = record { core = told_before before m.core; running = m.running; entries = es }

-- what was told before doesn't matter for who acts next
pub same_pick : (before : List (ℕ × Report)) (core : Core) (offers : Offered) →
    pick (told_before before core) offers ≡ pick core offers
same_pick before core offers =
    pick-offers (told_before before core) core offers offers refl refl refl refl refl (λ t. refl)

-- nor for how the tasks stand
showing_told : (before : List (ℕ × Report)) (core : Core) (offers : Offered) →
    showing (told_before before core) offers ≡ told_before before (showing core offers)
showing_told before core offers =
    ap (λ shown. let c : Core = record core { told = (before ++ core.told) ++ shown } in c)
    (states-offers (told_before before core) core offers offers refl refl refl refl refl refl (λ t. refl))
    ∙ ap (λ told. let c : Core = record core { told = told } in c) (append_assoc before core.told (states core offers))

-- what both made by a mark: each leaves the entries behind it, or the task that is to act isn't there and both stay
-- as they are
pub data BothMake {S : Type 0} (before : List (ℕ × Report)) (a : Machine S) (es rest others : List Entry)
    (after later : Machine S) : Type 0 where
  Moves : later ≡ earlier before after others → after.entries ≡ rest → BothMake before a es rest others after later
  Stays : later ≡ earlier before a es → after ≡ a → BothMake before a es rest others after later

module _ {S : Type 0} (engine : Engine S) (before : List (ℕ × Report)) (a : Machine S) (es rest others : List Entry)
  where
    does_both : (t : ℕ) (stack : S) (offered : Option Action) →
        BothMake before a es rest others (machine_does engine a t rest stack offered)
        (machine_does engine (earlier before a es) t others stack offered)
    does_both t stack None = Stays refl refl
    does_both t stack (Some action) =
        Moves
        (ap
        (λ done. machine_settled engine done.core
        (answered engine (dropped done.ended a.running) t stack done.reply) others)
        (effect-told_before before a.core t action)) refl

    acts_both : (t : ℕ) (x : Option (Running S)) → BothMake before a es rest others (machine_acts engine a t rest x)
        (machine_acts engine (earlier before a es) t others x)
    acts_both t None = Stays refl refl
    acts_both t (Some running) = does_both t running.stack running.offer

    -- where the core is the same but for what was told before
    settled_both : (core later : Core) → later ≡ told_before before core →
        BothMake before a es rest others (machine_settled engine core a.running rest)
        (machine_settled engine later a.running others)
    settled_both core later is = Moves (ap (λ c. machine_settled engine c a.running others) is) refl

    pub mark_both : (mark : Mark) → BothMake before a es rest others (machine_mark engine a mark rest)
        (machine_mark engine (earlier before a es) mark others)
    mark_both (Acts t) = acts_both t (kept_at a.running t)
    mark_both (Turns t) = settled_both _ _ (turned-told_before before a.core (machine_offers a) t)
    mark_both Tells = settled_both _ _ (showing_told before a.core (machine_offers a))
    mark_both Passes = settled_both _ _ (millisecond-told_before before a.core)
    mark_both (Arrives entry) = settled_both _ _ (arrived-told_before before a.core entry)

-- the entries of two states: in parts, or of no account before the next mark, behind which they are in parts
pub data EntriesAlike {S : Type 0} (before : List (ℕ × Report)) (a : Machine S) (es : List Entry) : Type 0 where
  InParts : AreParts a.entries es → EntriesAlike before a es
  Before : unsettled a ≡ None → ComeAlike (machine_next a) (machine_next (earlier before a es)) →
      EntriesAlike before a es

-- two states that are alike but for what was told before
pub record AreAlike {S : Type 0} (before : List (ℕ × Report)) (a b : Machine S) : Type 0 where
  pub entries : List Entry
  pub is : b ≡ earlier before a entries
  pub alike : EntriesAlike before a entries

-- which mark comes
same_marks : (x y : Option Coming) → ComeAlike x y → mapped (λ c. c.mark) y ≡ mapped (λ c. c.mark) x
same_marks None None come = refl
same_marks (Some x) (Some y) come = ap Some come.0
same_marks None (Some y) come = absurd come
same_marks (Some x) None come = absurd come

module _ {S : Type 0} (before : List (ℕ × Report)) where
  -- the same mark comes of both
  come_alike : (a : Machine S) (es : List Entry) → EntriesAlike before a es →
      ComeAlike (machine_next a) (machine_next (earlier before a es))
  come_alike a es (InParts parts) =
      subst (λ picked. ComeAlike (machine_next a) (next_mark picked es))
      (sym (same_pick before a.core (machine_offers a)))
      (parts_next (pick a.core (machine_offers a)) a.entries es parts)
  come_alike a es (Before settled alike) = alike

  -- by which both stay alike
  made_alike : (a : Machine S) (es rest others : List Entry) (after later : Machine S) → EntriesAlike before a es →
      AreParts rest others → BothMake before a es rest others after later → AreAlike before after later
  made_alike a es rest others after later alike parts (Moves is left) = record {
    entries = others;
    is = is;
    alike = InParts (subst (λ xs. AreParts xs others) (sym left) parts);
  }
  made_alike a es rest others after later alike parts (Stays is same) =
      subst (λ x. AreAlike before x later) (sym same) (record { entries = es; is = is; alike = alike })

  module _ (engine : Engine S) where
    -- a mark of both, or none
    next_alike : (a : Machine S) (es : List Entry) → EntriesAlike before a es → (x y : Option Coming) → ComeAlike x y →
        AreAlike before (machine_mark_by engine a x) (machine_mark_by engine (earlier before a es) y)
    next_alike a es alike None None come = record { entries = es; is = refl; alike = alike }
    next_alike a es alike (Some x) (Some y) come =
        let after = machine_mark engine a x.mark x.rest in
        subst (λ mark. AreAlike before after (machine_mark engine (earlier before a es) mark y.rest)) (sym come.0)
        (made_alike a es x.rest y.rest _ _ alike come.1 (mark_both engine before a es x.rest y.rest x.mark))
    next_alike a es alike None (Some y) come = absurd come
    next_alike a es alike (Some x) None come = absurd come

    -- a task's instruction changes its stack alone
    silent_alike : (a : Machine S) (es : List Entry) (x : ℕ × S) → unsettled a ≡ Some x → EntriesAlike before a es →
        AreAlike before (machine_step_by engine a (Some x)) (machine_step_by engine (earlier before a es) (Some x))
    silent_alike a es x is (InParts parts) = record { entries = es; is = refl; alike = InParts parts }
    silent_alike a es x is (Before settled come) = absurd (none-some x (sym settled ∙ is))

    step_alike : (a : Machine S) (es : List Entry) → EntriesAlike before a es →
        AreAlike before (machine_step engine a) (machine_step engine (earlier before a es))
    step_alike a es alike = by_unsettled (unsettled a) refl
      where
        by_unsettled : (x : Option (ℕ × S)) → unsettled a ≡ x →
            AreAlike before (machine_step engine a) (machine_step engine (earlier before a es))
        by_unsettled None is =
            rw (step_by engine a None is, step_by engine (earlier before a es) None is)
            (next_alike a es alike (machine_next a) (machine_next (earlier before a es)) (come_alike a es alike))
        by_unsettled (Some x) is =
            rw (step_by engine a (Some x) is, step_by engine (earlier before a es) (Some x) is)
            (silent_alike a es x is alike)

    pub after_alike : (a b : Machine S) → AreAlike before a b → (n : ℕ) →
        AreAlike before (machine_after engine a n) (machine_after engine b n)
    after_alike a b alike zero = alike
    after_alike a b alike (suc n) =
        let now = after_alike a b alike n in
        subst (λ x. AreAlike before (machine_step engine (machine_after engine a n)) (machine_step engine x))
        (sym now.is)
        (step_alike (machine_after engine a n) now.entries now.alike)

  pub stand_alike : (a b : Machine S) → AreAlike before a b → StandAlike before a b
  stand_alike a b alike = record {
    core = ap (λ m. m.core) alike.is;
    running = ap (λ m. m.running) alike.is;
    next = ap (λ m. next_of m) alike.is
        ∙ same_marks (machine_next a) (machine_next (earlier before a alike.entries))
        (come_alike a alike.entries alike.alike);
  }
