-- An object runs as its program means.
use Rattle.std.proofs.Common.{◌≡◌, ℕ, List, Some, option_map, length, map, sym, ap, ap₂, ◌∙◌, subst}
use Rattle.std.proofs.lemmas.List.{length-map}
use Rattle.pearl_rules.specs.declared.entry.Entry.{Entry}
use Rattle.pearl_rules.specs.Runs as runs
use Rattle.pearl_rules.specs.Runs.{source_offers}
use Rattle.pearl_rules.specs.Entries.{AreFitting}
use Rattle.pearl_rules.specs.Faithful.{Alone, Soon, IsFaithful}
use Rattle.pearl_rules.specs.Laws.{Comes}
use Rattle.pearl_rules.proofs.Offered.{faithful}
use Rattle.pearl_program.specs.PlainPrograms.{PlainProg}
use Rattle.pearl_program.specs.Sound.{IsSound}
use Rattle.pearl_instructions.specs.declared.object.Parts.{Parts as Object}
use Rattle.pearl_instructions.specs.Lawful.{IsObject}
use Rattle.pearl_instructions.specs.Valid.{IsValid}
use Rattle.pearl_meaning.specs.Programs.{offer}
use Rattle.pearl_meaning.specs.ProgramRuns as program
use Rattle.pearl_meaning.specs.ProgramRuns.{source_run}
use Rattle.pearl_instructions.specs.Setups.{entry_of, setup_of}
use Rattle.pearl_instructions.specs.Engines.{engine, total_rows, machine_run, marked}
use Rattle.pearl_instructions.specs.Owners.{rows_left}
use Rattle.pearl_instructions.specs.RunLaws.{AreTables}
use Rattle.pearl_instructions_laws.specs.Laws.{RunsEnd}
use Rattle.pearl_gen_stmt.specs.Generated.{IsGenerated}
use Rattle.pearl_faithful.specs.Said.{said, without_formats}
use Rattle.pearl_faithful.specs.Faithful.{RunsAlike, Makes}
use Rattle.pearl_faithful.specs.Laws.{SameRuns, TasksStand, TasksOfferSoon, FaithfulPrograms, SameActions, ObjectsFinish}
use Rattle.pearl_faithful.specs.Standing.{Stands}
use Rattle.pearl_faithful.proofs.Setups.{same_setups}
use Rattle.pearl_faithful.proofs.Telling.{end_alike}

pub same_runs : SameRuns
same_runs p o tables es m = ap (λ setup. runs.source_run (offer p) setup es m) (same_setups p o tables)

-- code that offers the program's very actions runs as it does
module _ (p : PlainProg) (o : Object) (same : setup_of o ≡ program.setup_of p)
    (is : IsFaithful (offer p) (engine o) (setup_of o) (length o.tasks) (total_rows o)) (es : List Entry) (fit : AreFitting (setup_of o) es) where
  source_same : (m : ℕ) → runs.source_run (offer p) (setup_of o) es m ≡ source_run p es m
  source_same m = ap (λ setup. runs.source_run (offer p) setup es m) same

  runs_alike : (n : ℕ) → RunsAlike p o es n
  runs_alike n =
      let source = source_same (marked o es n) in
      let core : (machine_run o es n).core ≡ (source_run p es (marked o es n)).core = is.same_core es fit n ∙ ap (λ s. s.core) source in record {
        same_core = ap without_formats core;
        same_entries = is.same_entries es fit n ∙ ap (λ s. s.entries) source;
        same_offers = λ t action offered.
            ap (option_map (said (source_run p es (marked o es n)).core)) (sym (ap (λ s. source_offers (offer p) s t) source) ∙ is.same_offers es fit n t action offered)
            ∙ ap (λ c. Some (said c action)) (sym core);
        all_offers = λ settled t.
            ap₂ (λ c o. option_map (said c) o) core (is.all_offers es fit n settled t ∙ ap (λ s. source_offers (offer p) s t) source);
      }

  makes : (m : ℕ) → Comes (offer p) (program.setup_of p) es m → Makes o es m
  makes m comes =
      let made = is.goes_on es fit m (subst (λ setup. Comes (offer p) setup es m) (sym same) comes) in
      record { steps = made.0; within = made.1; made = made.2 }

module _ (tables : AreTables) (stand : TasksStand) (offer_soon : TasksOfferSoon)
    (p : PlainProg) (o : Object) (sound : IsSound p) (generated : IsGenerated p o) (lawful : IsObject o) (valid : IsValid o) where
  count : length (map entry_of o.tasks) ≡ length o.tasks
  count = length-map o.tasks entry_of

  alone : Alone (setup_of o) (offer p) (engine o) (Stands p o)
  alone = stand p o sound generated lawful valid

  soon : Soon (length (map entry_of o.tasks)) (engine o) (Stands p o) (λ t frames. rows_left o frames) (total_rows o)
  soon = subst (λ count. Soon count (engine o) (Stands p o) (λ t frames. rows_left o frames) (total_rows o)) (sym count)
      (offer_soon p o sound generated lawful valid)

  runs_faithfully : IsFaithful (offer p) (engine o) (setup_of o) (length o.tasks) (total_rows o)
  runs_faithfully = subst (λ count. IsFaithful (offer p) (engine o) (setup_of o) count (total_rows o)) count
      (faithful (offer p) (engine o) (Stands p o) (λ t frames. rows_left o frames) (setup_of o) (total_rows o) (tables o lawful).slots (tables o lawful).devices alone soon)

pub same_actions : AreTables → TasksStand → TasksOfferSoon → SameActions
same_actions = runs_faithfully

pub faithful_programs : AreTables → TasksStand → TasksOfferSoon → FaithfulPrograms
faithful_programs tables stand soon p o sound generated lawful valid =
    let same = same_setups p o generated.tables in
    let is = runs_faithfully tables stand soon p o sound generated lawful valid in record {
      lawful = lawful;
      valid = valid;
      tables = record {
        tasks = generated.tables.tasks;
        leaves = generated.tables.leaves;
        semaphores = generated.tables.semaphores;
        devices = generated.tables.devices;
      };
      runs = runs_alike p o same is;
      goes_on = makes p o same is;
    }

pub objects_finish : AreTables → TasksStand → TasksOfferSoon → RunsEnd → ObjectsFinish
objects_finish tables stand soon ends p o sound generated lawful valid es fit =
    let end = ends o valid lawful es fit in
    record {
      at = end.at;
      within = end.within;
      has_ended = end.has_ended;
      alike = end_alike p o (faithful_programs tables stand soon p o sound generated lawful valid) es fit end.at end.has_ended;
    }
