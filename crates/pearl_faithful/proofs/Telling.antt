-- An object that does what a program means tells what the program does.
use Rattle.std.proofs.Common.{◌≡◌, ℕ, List, ◌++◌, Bool, false, Option, Some, None, option_map, refl, sym, ap, ap₂, ◌∙◌}
use Rattle.pearl_rules.specs.declared.action.Action.{Action}
use Rattle.pearl_rules.specs.declared.action.Action.TheVariants.{Get}
use Rattle.pearl_rules.specs.declared.entry.Entry.{Entry}
use Rattle.pearl_rules.specs.Core.{Core, Report}
use Rattle.pearl_rules.specs.Devices.{bytes_at}
use Rattle.pearl_rules.specs.Pick.{Offered, is_complete, guard, is_possible, pick, states}
use Rattle.pearl_rules.specs.Runs.{next_mark, machine_next, machine_offers, source_next, source_offers, unsettled}
use Rattle.pearl_rules.specs.Scan.{scan}
use Rattle.pearl_rules.proofs.Offered.{pick-same, states-same}
use Rattle.pearl_program.specs.PlainPrograms.{PlainProg}
use Rattle.pearl_instructions.specs.declared.object.Parts.{Parts as Object}
use Rattle.pearl_instructions.specs.Engines.{machine_run, marked}
use Rattle.pearl_meaning.specs.Programs.{offer}
use Rattle.pearl_meaning.specs.ProgramRuns.{source_run}
use Rattle.pearl_faithful.specs.Said.{Said, Gets, Does, said, all_said, without_formats}
use Rattle.pearl_faithful.specs.Faithful.{RunsAlike}
use Rattle.pearl_faithful.specs.Laws.{ObjectsTell, ObjectsEndAlike}

-- whether what is said can be done now
abbrev can_be_done : Core → Option Said → Bool
can_be_done core None = false
can_be_done core (Some (Gets device items kinds)) = is_complete (scan items kinds (bytes_at core device))
can_be_done core (Some (Does action)) = guard core action

-- that is told by what is said, whichever formats there are
as_said : (core : Core) (offer : Option Action) → is_possible core offer ≡ can_be_done (without_formats core) (option_map (said core) offer)
as_said core None = refl
as_said core (Some (Get device format kinds)) = refl
as_said core (Some action) = refl

-- two cores that are the same apart from formats, with the same said at each task
module _ (core other : Core) (offers others : Offered) (same : without_formats core ≡ without_formats other)
    (says : (t : ℕ) → all_said core offers t ≡ all_said other others t) where
  possible : (t : ℕ) → is_possible core (offers t) ≡ is_possible other (others t)
  possible t = as_said core (offers t) ∙ (ap₂ can_be_done same (says t) ∙ sym (as_said other (others t)))

  same_pick : pick core offers ≡ pick other others
  same_pick = pick-same core other offers others (ap (λ c. c.tasks) same) (ap (λ c. c.last) same) possible

  same_states : states core offers ≡ states other others
  same_states = states-same core other offers others (ap (λ c. c.moment) same) (ap (λ c. c.tasks) same) (ap (λ c. c.last) same) possible

module _ (p : PlainProg) (o : Object) (es : List Entry) (n : ℕ) (alike : RunsAlike p o es n) where
  next_same : unsettled (machine_run o es n) ≡ None → machine_next (machine_run o es n) ≡ source_next (offer p) (source_run p es (marked o es n))
  next_same settled =
      ap₂ next_mark (same_pick (machine_run o es n).core (source_run p es (marked o es n)).core (machine_offers (machine_run o es n))
      (source_offers (offer p) (source_run p es (marked o es n))) alike.same_core (alike.all_offers settled)) alike.same_entries

  states_same : unsettled (machine_run o es n) ≡ None →
      states (machine_run o es n).core (machine_offers (machine_run o es n))
      ≡ states (source_run p es (marked o es n)).core (source_offers (offer p) (source_run p es (marked o es n)))
  states_same settled =
      same_states (machine_run o es n).core (source_run p es (marked o es n)).core (machine_offers (machine_run o es n))
      (source_offers (offer p) (source_run p es (marked o es n))) alike.same_core (alike.all_offers settled)

pub tell_alike : ObjectsTell
tell_alike p o is es fit n =
    let alike = is.runs es fit n in record {
      same_told = ap (λ c. c.told) alike.same_core;
      same_moment = ap (λ c. c.moment) alike.same_core;
      same_next = next_same p o es n alike;
      same_states = states_same p o es n alike;
    }

pub end_alike : ObjectsEndAlike
end_alike p o is es fit n has_ended =
    let told = tell_alike p o is es fit n in record {
      ended = sym (told.same_next has_ended.settled) ∙ has_ended.no_mark;
      same_told = ap₂ (λ (before later : List (ℕ × Report)). before ++ later) told.same_told (told.same_states has_ended.settled);
      same_moment = told.same_moment;
    }
