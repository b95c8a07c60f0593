-- A machine at the start of a run.
use Rattle.std.proofs.Common.{◌≡◌, ℕ, zero, suc, inr, List, [], Bool, true, false, replicate, Option, Some, None, length, slice_get, refl, sym, ap, ap₂, subst, ◌∙◌, arith, zero-add}
use Rattle.std.proofs.lemmas.List.{length-map}
use Rattle.std.proofs.lemmas.Bool.{true≢false}
use Rattle.std.proofs.lemmas.Option.{none-some}
use Rattle.pearl_rules.specs.declared.setup.Setup.{Setup}
use Rattle.pearl_rules.specs.Core.{opening, first_row, is_active}
use Rattle.pearl_rules.specs.Runs.{Machine, Running, kept, kept_at, refreshed, fresh, machine_start}
use Rattle.pearl_stack.specs.Frames.{Frame}
use Rattle.pearl_instructions.specs.declared.object.Parts.{Parts as Object}
use Rattle.pearl_instructions.specs.Lawful.{IsObject}
use Rattle.pearl_instructions.specs.Valid.{IsValid}
use Rattle.pearl_instructions.specs.Engines.{engine}
use Rattle.pearl_instructions.specs.Setups.{setup_of, entry_of}
use Rattle.pearl_kernel.specs.Kept.{Kept, IsLawful}
use Rattle.pearl_machine.specs.Known.{Known}
use Rattle.pearl_machine.specs.Parts.{HasMemories, shown, start_of, frames_if, stack_in, is_going, running_of}
use Rattle.pearl_machine.specs.Ready.{IsReady, AllStand, seen_of}
use Rattle.pearl_machine.specs.declared.part.Part.{Part}
use Rattle.pearl_machine.proofs.Rows.{table_alike, table_refreshed}
use Rattle.pearl_machine.proofs.ReadyLaws.{told_past}
use Rattle.pearl_machine.proofs.Acting.{stand_refreshed}

-- the kernel at the start
abbrev pub first_kept : Setup → Kept
first_kept setup = record { core = opening setup; offers = replicate (length setup.tasks) None }

pub none_at : {X : Type 0} (n i : ℕ) → kept_at {X = X} (replicate n None) i ≡ None
none_at zero i = refl
none_at (suc n) zero = refl
none_at (suc n) (suc i) = none_at n i

starts_at : (active : Bool) (start : List Frame) (part : Option Part) → is_going part ≡ false →
    kept active (record { stack = start; offer = None }) None ≡ shown active start None part
starts_at false start part still = refl
starts_at true start part still =
    ap (λ going. let r : Running (List Frame) = record { stack = frames_if going start (stack_in part).frames; offer = None } in Some r) (sym still)

module _ (o : Object) (setup : Setup) (parts : List Part) (due : ℕ) (same : setup ≡ setup_of o) (still : (t : ℕ) → is_going (slice_get parts t) ≡ false)
    (past : due ≡ length (first_kept setup).core.tasks) where
  -- every task begins afresh
  running_is : (s : Setup) → running_of o (opening s) (replicate (length s.tasks) None) parts ≡ refreshed (fresh (engine o)) 0 (opening s).tasks []
  running_is s =
      table_alike (length (opening s).tasks) _ _ (λ i less.
      ap (λ x. shown (is_active (opening s) i) (start_of o i) x (slice_get parts i)) (none_at (length s.tasks) i)
      ∙ (sym (starts_at (is_active (opening s) i) (start_of o i) (slice_get parts i) (still i))
      ∙ ap (λ n. kept (is_active (opening s) i) (fresh (engine o) n) None) (sym (zero-add i))))
      ∙ sym (table_refreshed (fresh (engine o)) 0 (opening s).tasks [])

  -- the machine stands at the start of a run
  pub starts : (k : Kept) → k ≡ first_kept setup → (seen_of o k parts due).state ≡ machine_start (engine o) (setup_of o) []
  starts k is =
      subst (λ n. (seen_of o n parts due).state ≡ machine_start (engine o) (setup_of o) []) (sym is)
      (subst (λ s. (seen_of o (first_kept setup) parts due).state ≡ machine_start (engine o) s []) same
      (ap₂ (λ told xs. let m : Machine (List Frame) = record { core = record (opening setup) { told = told }; running = xs; entries = [] } in m)
      (told_past (first_kept setup) due (omega (arith, past))) (running_is setup)))

  -- and is as it is to be
  pub ready : (k : Kept) → k ≡ first_kept setup → Known → IsValid o → IsObject o → IsLawful setup k → length parts ≡ length o.tasks →
      HasMemories o parts → IsReady o setup k parts due
  ready k is known valid object lawful each memory =
      subst (λ n. IsReady o setup n parts due) (sym is) (record {
        valid = valid;
        object = object;
        tables = same;
        lawful = subst (λ s. IsLawful s (first_kept setup)) same (subst (λ n. IsLawful setup n) is lawful);
        each = each ∙ sym size;
        memory = memory;
        going = λ t e. absurd (true≢false (sym e ∙ still t));
        stand = subst (λ xs. AllStand o xs) (sym (running_is setup))
            (stand_refreshed o (opening setup).tasks [] known valid object size (λ t r e. absurd (none-some r e)));
        owes = inr (omega (arith, past));
      })
    where
      size : length (opening setup).tasks ≡ length o.tasks
      size = length-map setup.tasks first_row ∙ (ap (λ (s : Setup). length s.tasks) same ∙ length-map o.tasks entry_of)
