-- A machine is as it is to be after each mark.
use Rattle.std.proofs.Common.{◌≡◌, ℕ, ◌+◌, ◌<◌, ◌≤◌, ◌⊎◌, inl, inr, List, [], ◌∷◌, Bool, true, false, ◌&&◌, nat_eq, Option, Some, None, length, slice_get, slice_set, refl, sym, ap, ap₂, subst, ◌∙◌, arith, length-set, eqb-true, zero-add}
use Rattle.std.proofs.lemmas.Bool.{true≢false, eqb-false, cases_lt}
use Rattle.std.proofs.lemmas.Option.{none-some, same_Some, slice_get_past}
use Rattle.pearl_rules.specs.declared.action.Answer.{Answer}
use Rattle.pearl_rules.specs.declared.setup.Setup.{Setup}
use Rattle.pearl_rules.specs.declared.row.TaskRow.{TaskRow}
use Rattle.pearl_rules.specs.Core.{is_active, is_active_row}
use Rattle.pearl_rules.specs.Pick.{turned}
use Rattle.pearl_rules.specs.Effect.{Reply, Hears, Ends, effect}
use Rattle.pearl_rules.specs.Runs.{Running, kept, kept_at, refreshed, dropped, answered, fresh}
use Rattle.pearl_rules.proofs.Offered.{effect-length, effect-answers, effect-ends, picked, eligible_within, turned-is}
use Rattle.pearl_stack.specs.Frames.{Frame}
use Rattle.pearl_instructions.specs.declared.object.Parts.{Parts as Object}
use Rattle.pearl_instructions.specs.Lawful.{IsObject}
use Rattle.pearl_instructions.specs.Valid.{IsValid}
use Rattle.pearl_instructions.specs.Rows.{row}
use Rattle.pearl_instructions.specs.Engines.{engine}
use Rattle.pearl_instructions.specs.Owners.{IsStackOf}
use Rattle.pearl_instructions.specs.Setups.{setup_of}
use Rattle.pearl_kernel.specs.Kept as kernel
use Rattle.pearl_kernel.specs.Kept.{Kept, IsLawful, AllSettled, offered, is_silent, is_unsettled}
use Rattle.pearl_solo.specs.Answered.{CanHear}
use Rattle.pearl_machine.specs.Known.{Known}
use Rattle.pearl_machine.specs.Parts.{HasMemories, stack_in, is_going, running_of}
use Rattle.pearl_machine.specs.Ready.{IsReady, IsDue, Stands, AllStand, untold, seen_of}
use Rattle.pearl_machine.specs.Seen.{ActsFirst}
use Rattle.pearl_machine.specs.declared.part.Part.{Part}
use Rattle.pearl_machine.proofs.Listed.{get_elsewhere, kept_gone, kept_elsewhere}
use Rattle.pearl_machine.proofs.Rows.{table_refreshed, table_kept}
use Rattle.pearl_machine.proofs.Marking.{rows_after, parts_after, dropped_none}
use Rattle.pearl_machine.proofs.Owned.{own_of, hears_here}
use Rattle.pearl_machine.proofs.ReadyLaws.{all_still, tasks_are, stand_set, told_past}
use Rattle.pearl_machine.proofs.Making.{active_here, stands_at, acts_first}

-- STACKS

-- a place at which nothing is kept any more
stand_gone : (o : Object) (xs : List (Option (Running (List Frame)))) (t : ℕ) → AllStand o xs → AllStand o (slice_set xs t None)
stand_gone o xs t all i running e = by_place (nat_eq t i) refl
  where
    by_place : (b : Bool) → nat_eq t i ≡ b → Stands o i running
    by_place false differ = all i running (sym (kept_elsewhere xs t i None (eqb-false t i differ)) ∙ e)
    by_place true is = absurd (none-some running (sym (ap (λ n. kept_at (slice_set xs n None) i) (eqb-true t i is) ∙ kept_gone xs i) ∙ e))

stand_dropped : (o : Object) (ended : List ℕ) (xs : List (Option (Running (List Frame)))) → AllStand o xs → AllStand o (dropped ended xs)
stand_dropped o [] xs all = all
stand_dropped o (u ∷ ended) xs all = stand_dropped o ended (slice_set xs u None) (stand_gone o xs u all)

stand_answered : (o : Object) (xs : List (Option (Running (List Frame)))) (t : ℕ) (frames : List Frame) (reply : Reply) → AllStand o xs →
    ((answer : Answer) → reply ≡ Hears answer → IsStackOf o t ((engine o).answer t frames answer)) → AllStand o (answered (engine o) xs t frames reply)
stand_answered o xs t frames (Hears answer) all own =
    stand_set o xs t _ all (record { own = own answer refl; offers = λ action e. absurd (none-some action e) })
stand_answered o xs t frames Ends all own = stand_gone o xs t all

active_there : (rows : List TaskRow) (i : ℕ) → is_active_row (slice_get rows i) ≡ true → i < length rows
active_there rows i e = by_order (cases_lt i (length rows))
  where
    by_order : (i < length rows) ⊎ (length rows ≤ i) → i < length rows
    by_order (inl less) = less
    by_order (inr past) = absurd (true≢false (sym e ∙ ap is_active_row (slice_get_past rows i past)))

-- tasks that begin afresh stand at their beginnings
pub stand_refreshed : (o : Object) (rows : List TaskRow) (xs : List (Option (Running (List Frame)))) → Known → IsValid o → IsObject o →
    length rows ≡ length o.tasks → AllStand o xs → AllStand o (refreshed (fresh (engine o)) 0 rows xs)
stand_refreshed o rows xs known valid object size all i running e =
    by_kept (is_active_row (slice_get rows i)) (kept_at xs i) refl refl (sym at ∙ e)
  where
    at : kept_at (refreshed (fresh (engine o)) 0 rows xs) i ≡ kept (is_active_row (slice_get rows i)) (fresh (engine o) i) (kept_at xs i)
    at = ap (λ ys. kept_at ys i) (table_refreshed (fresh (engine o)) 0 rows xs)
        ∙ (table_kept (length rows) (λ j. kept (is_active_row (slice_get rows j)) (fresh (engine o) (0 + j)) (kept_at xs j)) i
        (λ past. ap (λ active. kept (is_active_row active) (fresh (engine o) (0 + i)) (kept_at xs i)) (slice_get_past rows i past))
        ∙ ap (λ n. kept (is_active_row (slice_get rows i)) (fresh (engine o) n) (kept_at xs i)) (zero-add i))

    by_kept : (active : Bool) (x : Option (Running (List Frame))) → is_active_row (slice_get rows i) ≡ active → kept_at xs i ≡ x →
        kept active (fresh (engine o) i) x ≡ Some running → Stands o i running
    by_kept false x is found h = absurd (none-some running h)
    by_kept true None is found h =
        let there = active_there rows i is in
        subst (λ r. Stands o i r) (same_Some _ running h) (record {
          own = own_of o i ((engine o).begin i) (omega arith) (known.begins o i valid object);
          offers = λ action e. absurd (none-some action e);
        })
    by_kept true (Some r) is found h = all i running (found ∙ h)

-- A MARK

answer_in : Reply → Option Answer
answer_in (Hears answer) = Some answer
answer_in Ends = None

pub same_answer : (a b : Answer) → Hears a ≡ Hears b → a ≡ b
unfolding answer_in
same_answer a b e = same_Some a b (ap answer_in e)

pub ends_unheard : (answer : Answer) → Ends ≡ Hears answer → ⊥
ends_unheard answer e = cc

module _ (o : Object) (setup : Setup) (k k2 : Kept) (parts : List Part) (due : ℕ) (r : IsReady o setup k parts due) (all : AllSettled k) (known : Known)
    (past : length k.core.tasks ≤ due) (t : ℕ) (reply : Reply) (acts : kernel.Acts k t reply k2) where
  abbrev frames : List Frame
  frames = (stack_in (slice_get parts t)).frames

  still : (i : ℕ) → is_going (slice_get parts i) ≡ false
  still = all_still k parts r.going all

  pub acts_there : t < length parts
  acts_there = subst (λ n. t < n) (sym r.each) (eligible_within k.core (offered k) t ((picked k.core (offered k) t acts.picked).eligible))

  -- the task stands with a stack of its own
  acts_stands : Stands o t (record { stack = frames; offer = Some acts.action })
  acts_stands = r.stand t _ (stands_at o k parts t acts.action r.lawful.quiet acts.offers)

  pub acts_own : IsStackOf o t frames
  acts_own = acts_stands.own

  -- where it can hear its answer
  pub acts_hears : (answer : Answer) → reply ≡ Hears answer → CanHear o t (row o frames) answer
  acts_hears answer e =
      hears_here o t frames acts.action answer known r.valid r.object acts_own (acts_stands.offers acts.action refl)
      (effect-answers (setup_of o) k.core t acts.action answer r.lawful.kinds (r.lawful.fits t acts.action acts.offers) (acts.same_reply ∙ e))

  size : length k2.core.tasks ≡ length k.core.tasks
  size = ap (λ (x : Kept). length x.core.tasks) acts.same ∙ effect-length k.core t acts.action

  each_after : (x : Reply) → length (parts_after o parts t x) ≡ length parts
  each_after (Hears answer) = length-set parts t _
  each_after Ends = refl

  -- what it has offered is gone
  none_offered : offered k2 t ≡ None
  none_offered = ap (λ (x : Kept). offered x t) acts.same ∙ dropped_none (effect k.core t acts.action).ended (slice_set k.offers t None) t (kept_gone k.offers t)

  -- who hears an answer is active
  still_active : (answer : Answer) → reply ≡ Hears answer → is_active k2.core t ≡ true
  still_active answer e =
      ap (λ (x : Kept). is_active x.core t) acts.same
      ∙ (effect-ends k.core t acts.action).hears answer (acts.same_reply ∙ e) (active_here k t acts.action r.lawful.quiet acts.offers)

  going_after : (x : Reply) → reply ≡ x → (i : ℕ) → is_going (slice_get (parts_after o parts t x) i) ≡ true → is_unsettled k2 i ≡ true
  going_after Ends same i e = absurd (true≢false (sym e ∙ still i))
  going_after (Hears answer) same i e = by_place (nat_eq t i) refl
    where
      by_place : (b : Bool) → nat_eq t i ≡ b → is_unsettled k2 i ≡ true
      by_place false differ = absurd (true≢false (sym e ∙ (ap is_going (get_elsewhere parts t i _ (eqb-false t i differ)) ∙ still i)))
      by_place true is =
          ap (is_unsettled k2) (sym (eqb-true t i is)) ∙ ap₂ (λ active offer. active && is_silent offer) (still_active answer same) none_offered

  -- the machine is as it is to be
  pub ready_acts : IsLawful (setup_of o) k2 → HasMemories o (parts_after o parts t reply) →
      ((answer : Answer) → reply ≡ Hears answer → IsStackOf o t ((engine o).answer t frames answer)) →
      IsReady o setup k2 (parts_after o parts t reply) due
  ready_acts lawful memory own = record {
    valid = r.valid;
    object = r.object;
    tables = r.tables;
    lawful = lawful;
    each = each_after reply ∙ (r.each ∙ sym size);
    memory = memory;
    going = λ i e. going_after reply refl i e;
    stand = subst (λ (x : Kept). AllStand o (running_of o x.core x.offers (parts_after o parts t reply))) (sym acts.same)
        (subst (λ xs. AllStand o xs)
        (rows_after o k.core k.offers parts r.lawful.quiet r.each still (effect k.core t acts.action).core (effect k.core t acts.action).ended t reply acts_there)
        (stand_refreshed o (effect k.core t acts.action).core.tasks _ known r.valid r.object
        (effect-length k.core t acts.action ∙ tasks_are o setup k parts due r)
        (stand_answered o (dropped (effect k.core t acts.action).ended (running_of o k.core k.offers parts)) t frames reply
        (stand_dropped o (effect k.core t acts.action).ended (running_of o k.core k.offers parts) r.stand) own)));
    owes = inr (subst (λ n. n ≤ due) (sym size) past);
  }

  -- and its run made a mark
  pub acts_seen : k.core.told ≡ [] → ActsFirst (seen_of o k parts due) (seen_of o k2 (parts_after o parts t reply) due)
  acts_seen taken = acts_first o k k2 parts due t reply r.lawful.quiet r.each still taken past acts_there acts

-- NO ACTION

-- a state is due, or none
pub ready_due : (o : Object) (setup : Setup) (k : Kept) (parts : List Part) (due other : ℕ) → IsReady o setup k parts due → IsDue k other →
    IsReady o setup k parts other
ready_due o setup k parts due other r owes = record {
  valid = r.valid;
  object = r.object;
  tables = r.tables;
  lawful = r.lawful;
  each = r.each;
  memory = r.memory;
  going = r.going;
  stand = r.stand;
  owes = owes;
}

-- one state fewer is due
pub due_next : (k : Kept) (due : ℕ) → IsDue k due → IsDue k (due + 1)
due_next k due (inl all) = inl all
due_next k due (inr past) = inr (omega arith)

-- an event was taken
pub ready_taken : (o : Object) (setup : Setup) (k k2 : Kept) (parts : List Part) (due : ℕ) → IsReady o setup k parts due →
    k2 ≡ record k { core = record k.core { told = k2.core.told } } → IsLawful (setup_of o) k2 → IsReady o setup k2 parts due
ready_taken o setup k k2 parts due r same lawful =
    subst (λ n. IsReady o setup n parts due) (sym same) (record {
      valid = r.valid;
      object = r.object;
      tables = r.tables;
      lawful = subst (λ n. IsLawful (setup_of o) n) same lawful;
      each = r.each;
      memory = r.memory;
      going = r.going;
      stand = r.stand;
      owes = r.owes;
    })

-- it became a task's turn
pub ready_turned : (o : Object) (setup : Setup) (k k2 : Kept) (parts : List Part) (due t : ℕ) → IsReady o setup k parts due →
    k2 ≡ record k { core = turned k.core (offered k) t } → IsLawful (setup_of o) k2 → IsReady o setup k2 parts due
ready_turned o setup k k2 parts due t r same lawful =
    subst (λ n. IsReady o setup n parts due) (sym is) (record {
      valid = r.valid;
      object = r.object;
      tables = r.tables;
      lawful = subst (λ n. IsLawful (setup_of o) n) is lawful;
      each = r.each;
      memory = r.memory;
      going = r.going;
      stand = r.stand;
      owes = r.owes;
    })
  where
    is : k2 ≡ record k { core = record k.core { last = (turned k.core (offered k) t).last } }
    is = same ∙ ap (λ c. let n : Kept = record k { core = c } in n) (turned-is k.core (offered k) t)

pub turned_taken : (k k2 : Kept) (due t : ℕ) → k2 ≡ record k { core = turned k.core (offered k) t } → k.core.told ≡ [] → length k.core.tasks ≤ due →
    untold k2 due ≡ []
turned_taken k k2 due t same taken past =
    ap (λ n. untold n due) (same ∙ ap (λ c. let n : Kept = record k { core = c } in n) (turned-is k.core (offered k) t))
    ∙ (told_past (record k { core = record k.core { last = (turned k.core (offered k) t).last } }) due past ∙ taken)
