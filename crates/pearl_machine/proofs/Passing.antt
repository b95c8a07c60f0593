-- A machine after a mark that no task makes: milliseconds that pass, and what comes from outside.
use Rattle.std.proofs.Common.{◌≡◌, ℕ, suc, ◌+◌, ◌≤◌, inr, List, [], ◌++◌, true, false, Option, None, length, slice_get, refl, sym, ap, ap₂, subst, ◌∙◌, arith, append-nil, zero-add}
use Rattle.std.proofs.lemmas.Bool.{true≢false}
use Rattle.pearl_rules.specs.declared.entry.Entry.{Entry}
use Rattle.pearl_rules.specs.declared.setup.Setup.{Setup}
use Rattle.pearl_rules.specs.Core.{Core, Report, is_active, told_before}
use Rattle.pearl_rules.specs.Plans.{millisecond}
use Rattle.pearl_rules.specs.Runs.{Running, Machine, Mark, Passes, kept, kept_at, refreshed, fresh, machine_mark, machine_settled}
use Rattle.pearl_rules.proofs.Offered.{millisecond-told_before}
use Rattle.pearl_stack.specs.Frames.{Frame}
use Rattle.pearl_instructions.specs.declared.object.Parts.{Parts as Object}
use Rattle.pearl_instructions.specs.Engines.{engine}
use Rattle.pearl_instructions.specs.Setups.{setup_of}
use Rattle.pearl_kernel.specs.Kept.{Kept, IsLawful, AllSettled, offered}
use Rattle.pearl_kernel.specs.Timing.{IsQuiet}
use Rattle.pearl_kernel.proofs.Offered.{millisecond-silent}
use Rattle.pearl_machine.specs.Known.{Known}
use Rattle.pearl_machine.specs.Parts.{start_of, is_going, running_of}
use Rattle.pearl_machine.specs.Ready.{IsReady, AllStand, seen_of}
use Rattle.pearl_machine.specs.Seen.{Seen, at, later, Makes, Skips}
use Rattle.pearl_machine.specs.declared.part.Part.{Part}
use Rattle.pearl_machine.proofs.Rows.{table_alike, table_refreshed}
use Rattle.pearl_machine.proofs.Places.{running_at}
use Rattle.pearl_machine.proofs.Marking.{starting, fits_now, fits_active}
use Rattle.pearl_machine.proofs.ReadyLaws.{all_still, tasks_are, told_past}
use Rattle.pearl_machine.proofs.Acting.{stand_refreshed}

module _ (o : Object) (k : Kept) (parts : List Part) (quiet : (t : ℕ) → is_active k.core t ≡ false → offered k t ≡ None)
    (still : (i : ℕ) → is_going (slice_get parts i) ≡ false) where
  abbrev running : List (Option (Running (List Frame)))
  running = running_of o k.core k.offers parts

  -- tasks that become active begin afresh, and the others stand as before
  pub rows_now : (after : Core) → refreshed (fresh (engine o)) 0 after.tasks running ≡ running_of o after k.offers parts
  rows_now after =
      table_refreshed (fresh (engine o)) 0 after.tasks running ∙ table_alike (length after.tasks) _ _ (λ i less.
      ap (λ n. kept (is_active after i) (fresh (engine o) n) (kept_at running i)) (zero-add i)
      ∙ fits_active (is_active after i) (start_of o i) (kept_at running i) (kept_at k.offers i) (slice_get parts i)
      (ap (kept true (starting (start_of o i))) (running_at o k.core k.offers parts i)
      ∙ fits_now (is_active k.core i) (start_of o i) (kept_at k.offers i) (slice_get parts i) (λ e. quiet i e) (still i)))

  -- a mark that changes the core alone
  pub makes_of : (change : Core → Core) (mark : Mark) (due : ℕ) → k.core.told ≡ [] → length k.core.tasks ≤ due →
      length (change k.core).tasks ≡ length k.core.tasks →
      ((before : List (ℕ × Report)) → change (told_before before k.core) ≡ told_before before (change k.core)) →
      ((m : Machine (List Frame)) (rest : List Entry) → machine_mark (engine o) m mark rest ≡ machine_settled (engine o) (change m.core) m.running rest) →
      Makes (seen_of o k parts due) mark (seen_of o (record k { core = change k.core }) parts due)
  makes_of change mark due taken past size law is before entries rest =
      let after : Kept = record k { core = change k.core } in
      let m : Machine (List Frame) = at (seen_of o k parts due) before entries in
      let core : m.core ≡ told_before before k.core =
      ap (λ told. let c : Core = record k.core { told = told } in c) (sym (ap (λ x. before ++ x) taken ∙ append-nil before)) in
      is m rest ∙ (ap (λ c. machine_settled (engine o) c running rest) (ap change core ∙ law before)
      ∙ ap₂ (λ told xs. let n : Machine (List Frame) =
      record { core = record (change k.core) { told = before ++ told }; running = xs; entries = rest } in n)
      (sym (told_past after due (subst (λ n. n ≤ due) (sym size) past))) (rows_now (change k.core)))

-- MILLISECONDS IN WHICH NO PLAN FIRES

module _ (o : Object) (k : Kept) (parts : List Part) (quiet : (t : ℕ) → is_active k.core t ≡ false → offered k t ≡ None)
    (still : (i : ℕ) → is_going (slice_get parts i) ≡ false) (due : ℕ) (taken : k.core.told ≡ []) (past : length k.core.tasks ≤ due) where
  abbrev pub moved : ℕ → Kept
  moved n = record k { core = record k.core { moment = k.core.moment + n } }

  seen_moved : (n : ℕ) → seen_of o (moved n) parts due ≡ later n (seen_of o k parts due)
  seen_moved n =
      ap (λ told. let s : Seen = record {
        object = o;
        state = record {
          core = record k.core { moment = k.core.moment + n; told = told };
          running = running_of o k.core k.offers parts;
          entries = [];
        };
      } in s)
      (told_past (moved n) due past ∙ sym (told_past k due past))

  one_silent : (n : ℕ) → IsQuiet k.core (suc n) → Makes (seen_of o (moved n) parts due) Passes (seen_of o (moved (suc n)) parts due)
  one_silent n silent =
      let here : Core = (moved n).core in
      let is : millisecond here ≡ record here { moment = here.moment + 1 } =
      millisecond-silent here (silent (here.moment + 1) (omega arith) (omega arith)) in
      let next : millisecond here ≡ (moved (suc n)).core = is ∙ ap (λ m. let c : Core = record k.core { moment = m } in c) (omega arith) in
      subst (λ c. Makes (seen_of o (moved n) parts due) Passes (seen_of o (record k { core = c }) parts due)) next
      (makes_of o (moved n) parts quiet still millisecond Passes due taken past (ap (λ (c : Core). length c.tasks) is)
      (λ before. millisecond-told_before before here) (λ m rest. refl))

  pub skips_here : (n : ℕ) → IsQuiet k.core n → Skips (seen_of o k parts due) n (seen_of o (moved n) parts due)
  skips_here n silent = record {
    same = seen_moved n;
    makes = λ j less.
        subst (λ s. Makes s Passes (later (suc j) (seen_of o k parts due))) (seen_moved j)
        (subst (λ s. Makes (seen_of o (moved j) parts due) Passes s) (seen_moved (suc j))
        (one_silent j (λ u after within fires. silent u after (omega arith) fires)));
  }

-- WHAT HOLDS OF THE MACHINE

-- where the core alone changed
pub ready_changed : (o : Object) (setup : Setup) (k k2 : Kept) (parts : List Part) (due : ℕ) (core : Core) → IsReady o setup k parts due →
    AllSettled k → Known → length k.core.tasks ≤ due → length core.tasks ≡ length k.core.tasks → k2 ≡ record k { core = core } →
    IsLawful (setup_of o) k2 → IsReady o setup k2 parts due
ready_changed o setup k k2 parts due core r all known past size same lawful =
    subst (λ n. IsReady o setup n parts due) (sym same) (record {
      valid = r.valid;
      object = r.object;
      tables = r.tables;
      lawful = subst (λ n. IsLawful (setup_of o) n) same lawful;
      each = r.each ∙ sym size;
      memory = r.memory;
      going = λ i e. absurd (true≢false (sym e ∙ all_still k parts r.going all i));
      stand = subst (λ xs. AllStand o xs) (rows_now o k parts r.lawful.quiet (all_still k parts r.going all) core)
          (stand_refreshed o core.tasks _ known r.valid r.object (size ∙ tasks_are o setup k parts due r) r.stand);
      owes = inr (subst (λ n. n ≤ due) (sym size) past);
    })
