-- One mark of a machine, from the core's mark and the row of stacks.
use Rattle.std.proofs.Common.{◌≡◌, ◌≢◌, ℕ, ◌<◌, List, [], ◌∷◌, Bool, true, false, nat_eq, Option, Some, None, length, slice_get, slice_set, refl, sym, ap, ap₂, subst, ◌∙◌, arith, length-set, eqb-true, zero-add}
use Rattle.std.proofs.lemmas.Bool.{eqb-false}
use Rattle.std.proofs.lemmas.Option.{none-some}
use Rattle.pearl_rules.specs.declared.action.Action.{Action}
use Rattle.pearl_rules.specs.Core.{Core, is_active}
use Rattle.pearl_rules.specs.Effect.{Reply, Hears, Ends}
use Rattle.pearl_rules.specs.Runs.{Running, kept, kept_at, refreshed, dropped, answered, fresh}
use Rattle.pearl_stack.specs.Frames.{Frame}
use Rattle.pearl_instructions.specs.declared.object.Parts.{Parts as Object}
use Rattle.pearl_instructions.specs.Engines.{engine}
use Rattle.pearl_machine.specs.Parts.{shown, start_of, frames_if, going_frames, stack_in, is_going, running_of, heard_part}
use Rattle.pearl_machine.specs.declared.part.Part.{Part}
use Rattle.pearl_machine.proofs.Listed.{get_here, get_elsewhere, kept_here, kept_gone, kept_elsewhere}
use Rattle.pearl_machine.proofs.Rows.{table_alike, table-length, table_refreshed}
use Rattle.pearl_machine.proofs.Places.{running_at}

abbrev pub starting : List Frame → Running (List Frame)
starting start = record { stack = start; offer = None }

-- a task that isn't under way stands at its beginning, where it has offered nothing
still_starts : (start : List Frame) (p : Option Part) → is_going p ≡ false → going_frames start p ≡ start
still_starts start p still = ap (λ going. frames_if going start (stack_in p).frames) still

-- where it becomes active it begins afresh, and where it is active it stands as before
pub fits_now : (active : Bool) (start : List Frame) (offer : Option Action) (p : Option Part) → (active ≡ false → offer ≡ None) → is_going p ≡ false →
    kept true (starting start) (shown active start offer p) ≡ shown true start offer p
fits_now true start None p quiet still = refl
fits_now true start (Some action) p quiet still = refl
fits_now false start None p quiet still = ap (λ frames. Some (starting frames)) (sym (still_starts start p still))
fits_now false start (Some action) p quiet still = absurd (none-some action (sym (quiet refl)))

-- as many places are left where tasks ended
pub dropped-length : {X : Type 0} (ended : List ℕ) (xs : List (Option X)) → length (dropped ended xs) ≡ length xs
dropped-length [] xs = refl
dropped-length (u ∷ ended) xs = dropped-length ended (slice_set xs u None) ∙ length-set xs u None

-- also where tasks ended
fits_dropped : (ended : List ℕ) (xs : List (Option (Running (List Frame)))) (offers : List (Option Action)) (i : ℕ) (start : List Frame) (p : Option Part) →
    is_going p ≡ false → kept true (starting start) (kept_at xs i) ≡ shown true start (kept_at offers i) p →
    kept true (starting start) (kept_at (dropped ended xs) i) ≡ shown true start (kept_at (dropped ended offers) i) p
fits_dropped [] xs offers i start p still e = e
fits_dropped (u ∷ ended) xs offers i start p still e =
    fits_dropped ended (slice_set xs u None) (slice_set offers u None) i start p still (by_place (nat_eq u i) refl)
  where
    by_place : (b : Bool) → nat_eq u i ≡ b →
        kept true (starting start) (kept_at (slice_set xs u None) i) ≡ shown true start (kept_at (slice_set offers u None) i) p
    by_place false differ =
        let other = eqb-false u i differ in
        ap (kept true (starting start)) (kept_elsewhere xs u i None other)
        ∙ (e ∙ ap (λ x. shown true start x p) (sym (kept_elsewhere offers u i None other)))
    by_place true is =
        let same = eqb-true u i is in
        ap (λ n. kept true (starting start) (kept_at (slice_set xs n None) i)) same
        ∙ (ap (kept true (starting start)) (kept_gone xs i) ∙ (fits_now false start None p (λ e. refl) still
        ∙ (ap (λ x. shown true start x p) (sym (kept_gone offers i)) ∙ ap (λ n. shown true start (kept_at (slice_set offers n None) i) p) (sym same))))

-- what isn't kept isn't where tasks ended
pub dropped_none : {X : Type 0} (ended : List ℕ) (xs : List (Option X)) (i : ℕ) → kept_at xs i ≡ None → kept_at (dropped ended xs) i ≡ None
dropped_none [] xs i e = e
dropped_none (u ∷ ended) xs i e = dropped_none ended (slice_set xs u None) i (by_place (nat_eq u i) refl)
  where
    by_place : (b : Bool) → nat_eq u i ≡ b → kept_at (slice_set xs u None) i ≡ None
    by_place false differ = kept_elsewhere xs u i None (eqb-false u i differ) ∙ e
    by_place true is = ap (λ n. kept_at (slice_set xs n None) i) (eqb-true u i is) ∙ kept_gone xs i

pub fits_active : (active : Bool) (start : List Frame) (x : Option (Running (List Frame))) (offer : Option Action) (p : Option Part) →
    kept true (starting start) x ≡ shown true start offer p → kept active (starting start) x ≡ shown active start offer p
fits_active false start x offer p e = refl
fits_active true start x offer p e = e

-- the row of stacks after a reply
abbrev pub parts_after : Object → List Part → ℕ → Reply → List Part
parts_after o parts t (Hears answer) = slice_set parts t (heard_part o parts t answer)
parts_after o parts t Ends = parts

module _ (o : Object) (core : Core) (offers : List (Option Action)) (parts : List Part)
    (quiet : (t : ℕ) → is_active core t ≡ false → kept_at offers t ≡ None) (each : length parts ≡ length core.tasks)
    (still : (i : ℕ) → is_going (slice_get parts i) ≡ false) where
  abbrev before : List (Option (Running (List Frame)))
  before = running_of o core offers parts

  abbrev frames_at : ℕ → List Frame
  frames_at t = (stack_in (slice_get parts t)).frames

  -- what is kept after a mark, however the tasks stand then
  pub rows_after : (after : Core) (ended : List ℕ) (t : ℕ) (reply : Reply) → t < length parts →
      refreshed (fresh (engine o)) 0 after.tasks (answered (engine o) (dropped ended before) t (frames_at t) reply)
      ≡ running_of o after (dropped ended (slice_set offers t None)) (parts_after o parts t reply)
  rows_after after ended t reply there =
      table_refreshed (fresh (engine o)) 0 after.tasks _ ∙ table_alike (length after.tasks) _ _ (λ i less.
      ap (λ n. kept (is_active after i) (fresh (engine o) n) (kept_at (answered (engine o) (dropped ended before) t (frames_at t) reply) i)) (zero-add i)
      ∙ fits_active (is_active after i) (start_of o i) (kept_at (answered (engine o) (dropped ended before) t (frames_at t) reply) i)
      (kept_at (dropped ended (slice_set offers t None)) i) (slice_get (parts_after o parts t reply) i) (by_place i (nat_eq t i) refl reply))
    where
      within : t < length (dropped ended before)
      within =
          let a = dropped-length ended before in
          let b = table-length (length core.tasks) (λ i. shown (is_active core i) (start_of o i) (kept_at offers i) (slice_get parts i)) in
          omega arith

      none : kept_at (dropped ended (slice_set offers t None)) t ≡ None
      none = dropped_none ended (slice_set offers t None) t (kept_gone offers t)

      at_task : (reply : Reply) → kept true (starting (start_of o t)) (kept_at (answered (engine o) (dropped ended before) t (frames_at t) reply) t)
          ≡ shown true (start_of o t) (kept_at (dropped ended (slice_set offers t None)) t) (slice_get (parts_after o parts t reply) t)
      at_task (Hears answer) =
          ap (kept true (starting (start_of o t))) (kept_here (dropped ended before) t _ within)
          ∙ ap₂ (λ x p. shown true (start_of o t) x p) (sym none) (sym (get_here parts t (heard_part o parts t answer) there))
      at_task Ends =
          ap (kept true (starting (start_of o t))) (kept_gone (dropped ended before) t)
          ∙ (fits_now false (start_of o t) None (slice_get parts t) (λ e. refl) (still t)
          ∙ ap (λ x. shown true (start_of o t) x (slice_get parts t)) (sym none))

      by_place : (i : ℕ) (b : Bool) → nat_eq t i ≡ b → (reply : Reply) →
          kept true (starting (start_of o i)) (kept_at (answered (engine o) (dropped ended before) t (frames_at t) reply) i)
          ≡ shown true (start_of o i) (kept_at (dropped ended (slice_set offers t None)) i) (slice_get (parts_after o parts t reply) i)
      by_place i true is reply =
          subst (λ n. kept true (starting (start_of o n)) (kept_at (answered (engine o) (dropped ended before) t (frames_at t) reply) n)
          ≡ shown true (start_of o n) (kept_at (dropped ended (slice_set offers t None)) n) (slice_get (parts_after o parts t reply) n)) (eqb-true t i is)
          (at_task reply)
      by_place i false differ reply =
          other_kept reply ∙ (fits_dropped ended before (slice_set offers t None) i (start_of o i) (slice_get parts i) (still i)
          (ap (kept true (starting (start_of o i))) (running_at o core offers parts i)
          ∙ (fits_now (is_active core i) (start_of o i) (kept_at offers i) (slice_get parts i) (λ e. quiet i e) (still i)
          ∙ ap (λ x. shown true (start_of o i) x (slice_get parts i)) (sym (kept_elsewhere offers t i None other)))) ∙ other_part reply)
        where
          other : t ≢ i
          other = eqb-false t i differ

          other_kept : (reply : Reply) → kept true (starting (start_of o i)) (kept_at (answered (engine o) (dropped ended before) t (frames_at t) reply) i)
              ≡ kept true (starting (start_of o i)) (kept_at (dropped ended before) i)
          other_kept (Hears answer) = ap (kept true (starting (start_of o i))) (kept_elsewhere (dropped ended before) t i _ other)
          other_kept Ends = ap (kept true (starting (start_of o i))) (kept_elsewhere (dropped ended before) t i None other)

          other_part : (reply : Reply) → shown true (start_of o i) (kept_at (dropped ended (slice_set offers t None)) i) (slice_get parts i)
              ≡ shown true (start_of o i) (kept_at (dropped ended (slice_set offers t None)) i) (slice_get (parts_after o parts t reply) i)
          other_part (Hears answer) =
              ap (λ p. shown true (start_of o i) (kept_at (dropped ended (slice_set offers t None)) i) p) (sym (get_elsewhere parts t i _ other))
          other_part Ends = refl
