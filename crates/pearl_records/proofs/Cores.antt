-- Cores: what is recorded of a core makes the same core again, and the other way round.
use Rattle.std.proofs.Common.{◌≡◌, ℕ, ◌<◌, List, [], ◌∷◌, Option, IfSome, length, map, refl, sym, ap, subst, ◌∙◌}
use Rattle.std.proofs.lemmas.List.{length-map}
use Rattle.std.specs.List.{AllByRecursion}
use Rattle.pearl_rules.specs.declared.setup.Setup.{Setup}
use Rattle.pearl_rules.specs.declared.setup.TaskEntry.{TaskEntry}
use Rattle.pearl_rules.specs.Core.{Core, declared_of}
use Rattle.pearl_rules.specs.Slots.{IsUrgency, HasKinds}
use Rattle.pearl_rules.specs.Tables.{IsTaskEntry, IsSetup}
use Rattle.pearl_records.specs.declared.record.CoreRecord.{CoreRecord}
use Rattle.pearl_records.specs.States.{HasParts, HasNumbers, AllEnd, IsRecord}
use Rattle.pearl_records.specs.Records.{row_record, rows_made, terminals_in, inputs_in, record_of, core_made, untold, IsRecordable}
use Rattle.pearl_records.proofs.Channels.{again, recorded, read, made}
use Rattle.pearl_records.proofs.RowLaws.{rows_again, rows_urgent, rows_planned, rows_read, rows_declared, rows_made-urgent, rows_made-planned, rows_made-timed}

-- there are as many tasks as declared
as_many : (setup : Setup) (core : Core) → map declared_of core.tasks ≡ map (λ task. task.priority) setup.tasks →
    length core.tasks ≡ length setup.tasks
as_many setup core e =
    sym (length-map core.tasks declared_of) ∙ ap length e ∙ length-map setup.tasks (λ task. task.priority)

-- whoever acts last, values stay of their kinds
pub kinds_last : (setup : Setup) (core : Core) (last : Option ℕ) → HasKinds setup core → HasKinds setup (record core { last = last })
kinds_last setup core last is = record { slots = is.slots; channels = is.channels; formats = is.formats }

module _ (setup : Setup) (core : Core) (is : IsRecordable setup core) where
  tasks_again : rows_made (map (λ task. task.priority) setup.tasks) (map row_record core.tasks) ≡ core.tasks
  tasks_again =
      ap (λ declared. rows_made declared (map row_record core.tasks)) (sym is.declared) ∙ rows_again core.tasks is.times.rows

  pub core-again : core_made setup (record_of core) ≡ untold core
  core-again =
      ap (λ rows. record (core_made setup (record_of core)) { tasks = rows }) tasks_again
      ∙ ap (λ channels. record (untold core) { channels = channels; formats = setup.formats }) (again setup.devices core.channels is.kinds.channels)
      ∙ ap (λ formats. record (untold core) { formats = formats }) (sym is.kinds.formats)

  parts : HasParts setup (record_of core)
  parts =
      let r = recorded setup.devices core.channels is.kinds.channels in
      record {
        slots = is.kinds.slots;
        as_many_counts = is.counts.as_many;
        counts = is.counts.small;
        switches = r.switches;
        as_many_terminals = r.as_many;
        terminals = r.terminals;
        inputs = r.inputs;
        tasks = length-map core.tasks row_record ∙ as_many setup core is.declared;
      }

  numbers : HasNumbers setup (record_of core)
  numbers = record {
    moment = is.times.moment;
    clock = is.times.lawful.clock;
    last = subst (λ n. IfSome core.last (λ t. t < n)) (as_many setup core is.declared) is.last;
    priorities = rows_urgent core.tasks is.urgent;
  }

  pub core-recorded : AllEnd (record_of core) → IsRecord setup (record_of core)
  core-recorded ends = record {
    parts = parts;
    numbers = numbers;
    spans = rows_planned setup core.tasks is.times.lawful.plans is.times.rows;
    ends = ends;
  }

-- ---- the other way

urgencies : (tasks : List TaskEntry) → AllByRecursion IsTaskEntry tasks → AllByRecursion IsUrgency (map (λ task. task.priority) tasks)
urgencies [] all = tt
urgencies (task ∷ tasks) all = (all.0.urgent, urgencies tasks all.1)

module _ (setup : Setup) (core : CoreRecord) (is : IsRecord setup core) where
  long : length core.tasks ≡ length (map (λ task. task.priority) setup.tasks)
  long = is.parts.tasks ∙ sym (length-map setup.tasks (λ task. task.priority))

  pub core-read : record_of (core_made setup core) ≡ core
  core-read =
      let r = read setup.devices core.switches core.terminals core.inputs is.parts.switches is.parts.as_many_terminals is.parts.inputs in
      ap (λ rows. record (record_of (core_made setup core)) { tasks = rows })
      (rows_read (map (λ task. task.priority) setup.tasks) core.tasks long is.numbers.priorities is.ends)
      ∙ ap (λ switches. record core { switches = switches; terminals = terminals_in (core_made setup core).channels; inputs = inputs_in (core_made setup core).channels }) r.same_switches
      ∙ ap (λ terminals. record core { terminals = terminals; inputs = inputs_in (core_made setup core).channels }) r.same_terminals
      ∙ ap (λ inputs. record core { inputs = inputs }) r.same_inputs

  declared_made : map declared_of (core_made setup core).tasks ≡ map (λ task. task.priority) setup.tasks
  declared_made = rows_declared (map (λ task. task.priority) setup.tasks) core.tasks long

  pub core-recordable : IsSetup setup → IsRecordable setup (core_made setup core)
  core-recordable lawful = record {
    kinds = record {
      slots = is.parts.slots;
      channels = made setup.devices core.switches core.terminals core.inputs lawful.devices is.parts.switches is.parts.as_many_terminals
          is.parts.terminals is.parts.inputs;
      formats = refl;
    };
    counts = record { as_many = is.parts.as_many_counts; small = is.parts.counts };
    declared = declared_made;
    urgent = rows_made-urgent (map (λ task. task.priority) setup.tasks) core.tasks (urgencies setup.tasks lawful.tasks) is.numbers.priorities;
    times = record {
      moment = is.numbers.moment;
      lawful = record {
        plans = rows_made-planned setup (map (λ task. task.priority) setup.tasks) core.tasks is.spans;
        clock = is.numbers.clock;
      };
      rows = rows_made-timed setup (map (λ task. task.priority) setup.tasks) core.tasks is.spans;
    };
    last = subst (λ n. IfSome core.last (λ t. t < n)) (sym (as_many setup (core_made setup core) declared_made)) is.numbers.last;
  }
