-- What a monitor writes of a whole run.
use Rattle.std.proofs.Common.{◌≡◌, ℕ, List, [], ◌++◌, None, length, refl, ap, sym, ◌∙◌, append-nil, arith}
use Rattle.pearl_rules.specs.Core.{Report}
use Rattle.pearl_rules.specs.Runs.{Engine, Machine, next_mark, machine_after, machine_next, machine_start, unsettled}
use Rattle.pearl_stack.specs.Frames.{Frame}
use Rattle.pearl_instructions.specs.declared.object.Parts.{Parts as Object}
use Rattle.pearl_instructions.specs.Engines.{engine}
use Rattle.pearl_instructions.specs.Setups.{setup_of}
use Rattle.pearl_machine.specs.Seen.{at, picked}
use Rattle.pearl_watch.specs.declared.watched.Watched.{Watched}
use Rattle.pearl_watch.specs.Changes.{shown}
use Rattle.pearl_watch.specs.Monitored.{Shows, ShowsTheRun, first_lines, started}
use Rattle.pearl_watch.specs.Watched.{watched_by}
use Rattle.pearl_watch.proofs.MarkLines.{by_marks}
use Rattle.pearl_watch.proofs.Showing.{picked_at}

-- what opens the run is told before it
abbrev opened : Object → List (ℕ × Report)
opened o = (machine_start (engine o) (setup_of o) []).core.told

pub whole : ShowsTheRun
whole o names es after text watches settled =
    let e : Engine (List Frame) = engine o in
    let start : Machine (List Frame) = machine_start e (setup_of o) es in
    let watched : List Watched = watched_by o.leaves names (length names) in
    let here : Shows (started o names) (opened o) es [] after.machine watches.told watches.made text =
    watches.shows (opened o) es [] (λ p known. ap (next_mark p) (sym (append-nil es))) in
    let there : machine_after e start here.steps ≡ at after.machine (opened o ++ watches.told) here.left = here.is in
    let none : machine_next (at after.machine (opened o ++ watches.told) here.left) ≡ None =
    ap (λ p. next_mark p here.left) (picked_at after.machine (opened o ++ watches.told) here.left) ∙ here.same (picked after.machine) (λ known. refl) in (
      watches.made,
      record {
        steps = here.steps;
        settled = ap unsettled there ∙ settled;
        no_mark = ap machine_next there ∙ none;
        lines = ap (λ lines. first_lines o names ++ lines) here.lines ∙ by_marks e names watched start here.steps;
        counted = sym here.marks;
        now = ap (λ (m : Machine (List Frame)). m.core.moment) (sym there);
      },
      watches.counted ∙ ap shown (omega arith),
    )
