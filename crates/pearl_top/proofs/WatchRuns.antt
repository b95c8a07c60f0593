-- What a monitor writes on its way over the entries of a journal.
use Rattle.std.proofs.Common.{◌≡◌, ℕ, ◌+◌, List, [], ◌++◌, None, codes, length, refl, ap, ap₂, sym, ◌∙◌, subst, append_assoc, append-nil, arith}
use Rattle.std.specs.Fmt.{decimal}
use Rattle.pearl_rules.specs.declared.entry.Entry.{Entry}
use Rattle.pearl_rules.specs.Core.{Report}
use Rattle.pearl_rules.specs.Entries.{AreFitting}
use Rattle.pearl_rules.specs.Laws.{HasEnded}
use Rattle.pearl_rules.specs.Runs.{Engine, Machine, machine_after, machine_run, machine_start, marked, marked_after, next_mark, unsettled, machine_next}
use Rattle.pearl_stack.specs.Frames.{Frame}
use Rattle.pearl_instructions.specs.declared.object.Parts.{Parts as Object}
use Rattle.pearl_instructions.specs.Engines.{engine}
use Rattle.pearl_instructions.specs.Setups.{setup_of}
use Rattle.pearl_script.specs.declared.refusal.Refusal.{Refusal}
use Rattle.pearl_script.specs.Lines.{close_line}
use Rattle.pearl_script.specs.Refusals.{refusal_line}
use Rattle.pearl_watch.specs.declared.watched.Watched.{Watched}
use Rattle.pearl_watch.specs.Changes.{change_lines, last_line, shown, step_lines}
use Rattle.pearl_watch.specs.Lines.{Watching}
use Rattle.pearl_watch.specs.Monitored.{IsTold, IsWatchText, Monitored, Shows, Watches, first_lines}
use Rattle.pearl_watch.specs.Monitored as monitored
use Rattle.pearl_watch.specs.Watched.{watched_by}
use Rattle.pearl_watch.proofs.Offered.{by_marks, lines_add, nothing_told, watches_behind, watches_none, watches_on, watches_then, whole}
use Rattle.pearl_top.specs.Followers.{IsStill, IsWatching, monitor_going}
use Rattle.pearl_top.specs.Going.{GoesInTurn, WritesItsRun}
use Rattle.pearl_top.specs.Transcript.{Close, Closed, Cut}
use Rattle.pearl_top.specs.WatchDue.{IsWatched, watch_closing}
use Rattle.pearl_top.proofs.WatchEnds.{IsOver, same_later}

pub monitor_in_turn : GoesInTurn monitor_going
monitor_in_turn = record {
  nothing = watches_none;
  behind = watches_behind;
  in_turn = watches_then;
  same_tables = λ a b from left text watches. ap setup_of watches.stays.object;
}

-- WHAT IS TOLD FIRST

-- nothing was told of what is watched
pub none_told : (m : Monitored) → IsWatching m → IsTold m.watch None
none_told m ready =
    subst (λ w. IsTold w None) (sym ready.watch)
    (λ place s there. nothing_told (watched_by m.machine.object.leaves m.watch.names (length m.watch.names)) place s there)

-- telling is no mark
pub watches_told : (old new : Monitored) → new.machine ≡ old.machine → new.marks ≡ old.marks → new.watch.names ≡ old.watch.names →
    new.watch.watched ≡ old.watch.watched → (from : List Entry) → Watches old from from new []
watches_told old new machine marks names watched from = watches_on old old new from from [] (watches_none old from) machine marks names watched

-- THE WHOLE RUN

-- what it shows from a start, it shows from the start of its object's run
from_start : (m now : Monitored) (es left : List Entry) (text : List ℕ) → IsWatching m → Watches m es left now text →
    Watches (monitored.started m.machine.object m.watch.names) es left now text
from_start m now es left text ready watches =
    watches_then (monitored.started m.machine.object m.watch.names) m now es es left [] text (ready.starts es) watches

-- what it tells first is what the slots hold at the start
opening_is : (m : Monitored) → IsWatching m →
    change_lines m.watch.names m.watch.watched m.marks None m.machine.state.core ≡ first_lines m.machine.object m.watch.names
opening_is m ready =
    ap (λ (w : Watching). change_lines m.watch.names w.watched m.marks None m.machine.state.core) ready.watch
    ∙ ap₂ (λ marks core. change_lines m.watch.names (watched_by m.machine.object.leaves m.watch.names (length m.watch.names)) marks None core) ready.marks ready.core

last_is : (a b moment : ℕ) → shown a ≡ shown b → last_line a moment ≡ last_line b moment
last_is a b moment e = ap (λ n. decimal n ++ codes " " ++ close_line moment) e

-- first lines, others and what closes them
in_three : (first opening text last : List ℕ) → opening ≡ first → opening ++ (text ++ last) ≡ (first ++ text) ++ last
in_three first opening text last e = ap (λ x. x ++ (text ++ last)) e ∙ sym (append_assoc first text last)

module _ (m now : Monitored) (es : List Entry) (text : List ℕ) (ready : IsWatching m) (watches : Watches m es [] now text) (still : IsStill now) where
  shows_all : (marks : ℕ) × IsWatchText m.machine.object m.watch.names es (first_lines m.machine.object m.watch.names ++ text) marks now.machine.state.core.moment
      × (shown now.marks ≡ shown marks)
  shows_all = whole m.machine.object m.watch.names es now text (from_start m now es [] text ready watches) still.settled

  monitor_cut : (why : Refusal) → IsWatched m.watch.names m.machine.object es (Cut why)
      (change_lines m.watch.names m.watch.watched m.marks None m.machine.state.core ++ (text ++ refusal_line why))
  monitor_cut why = record {
    changes = first_lines m.machine.object m.watch.names ++ text;
    marks = shows_all.0;
    moment = now.machine.state.core.moment;
    is = shows_all.1;
    text = in_three (first_lines m.machine.object m.watch.names) _ text (refusal_line why) (opening_is m ready);
  }

  monitor_closed : (last : List ℕ) → last ≡ last_line now.marks now.machine.state.core.moment → IsWatched m.watch.names m.machine.object es Closed
      (change_lines m.watch.names m.watch.watched m.marks None m.machine.state.core ++ (text ++ last))
  monitor_closed last is = record {
    changes = first_lines m.machine.object m.watch.names ++ text;
    marks = shows_all.0;
    moment = now.machine.state.core.moment;
    is = shows_all.1;
    text = ap (λ x. change_lines m.watch.names m.watch.watched m.marks None m.machine.state.core ++ (text ++ x))
        (is ∙ last_is now.marks shows_all.0 now.machine.state.core.moment shows_all.2)
        ∙ in_three (first_lines m.machine.object m.watch.names) _ text (last_line shows_all.0 now.machine.state.core.moment) (opening_is m ready);
  }

-- what opens the run is told before it
abbrev opened : Object → List (ℕ × Report)
opened o = (machine_start (engine o) (setup_of o) []).core.told

-- what was shown so far is a front of what the run shows up to its end
record HasMore (o : Object) (names : List (List ℕ)) (es : List Entry) (text : List ℕ) : Type 0 where
  more : List ℕ
  marks : ℕ
  moment : ℕ
  is : IsWatchText o names es (first_lines o names ++ (text ++ more)) marks moment

shows_more : (o : Object) (names : List (List ℕ)) (now : Monitored) (es left : List Entry) (text : List ℕ) (n : ℕ) → HasEnded (engine o) (setup_of o) es n →
    Watches (monitored.started o names) es left now text → HasMore o names es text
shows_more o names now es left text n ended watches =
    let e : Engine (List Frame) = engine o in
    let start : Machine (List Frame) = machine_start e (setup_of o) es in
    let watched : List Watched = watched_by o.leaves names (length names) in
    let here : Shows (monitored.started o names) (opened o) es (left ++ []) now.machine watches.told watches.made text =
    watches.shows (opened o) es [] (λ p known. ap (next_mark p) (sym (append-nil es))) in
    let over : IsOver (machine_after e start n) = record { settled = ended.settled; no_mark = ended.no_mark } in
    let swapped : here.steps + n ≡ n + here.steps = omega arith in
    let there : machine_after e start (here.steps + n) ≡ machine_after e start n = ap (machine_after e start) swapped ∙ same_later e start n here.steps over in
    let more : List ℕ = step_lines names watched (0 + marked_after e start here.steps) e (machine_after e start here.steps) n in record {
      more = more;
      marks = marked e (setup_of o) es (here.steps + n);
      moment = (machine_run e (setup_of o) es (here.steps + n)).core.moment;
      is = record {
        steps = here.steps + n;
        settled = ap unsettled there ∙ ended.settled;
        no_mark = ap machine_next there ∙ ended.no_mark;
        lines = ap (λ lines. first_lines o names ++ lines) (ap (λ lines. lines ++ more) here.lines ∙ sym (lines_add e names watched 0 start here.steps n))
            ∙ by_marks e names watched start (here.steps + n);
        counted = refl;
        now = refl;
      };
    }

monitor_front : (m now : Monitored) (es left : List Entry) (text : List ℕ) (close : Close) → IsWatching m → AreFitting (setup_of m.machine.object) es →
    Watches m es left now text → (rest : List ℕ) × IsWatched m.watch.names m.machine.object es close
    (change_lines m.watch.names m.watch.watched m.marks None m.machine.state.core ++ (text ++ rest))
monitor_front m now es left text close ready fit watches =
    let end = ready.rules.finishes es fit in
    let found : HasMore m.machine.object m.watch.names es text =
    shows_more m.machine.object m.watch.names now es left text end.0 end.1 (from_start m now es left text ready watches) in
    let last : List ℕ = watch_closing found.marks found.moment close in (
      found.more ++ last,
      record {
        changes = first_lines m.machine.object m.watch.names ++ (text ++ found.more);
        marks = found.marks;
        moment = found.moment;
        is = found.is;
        text = ap (λ x. change_lines m.watch.names m.watch.watched m.marks None m.machine.state.core ++ x) (sym (append_assoc text found.more last))
            ∙ in_three (first_lines m.machine.object m.watch.names) _ (text ++ found.more) last (opening_is m ready);
      },
    )

pub monitor_run : WritesItsRun monitor_going
monitor_run = record {
  cut = λ a b es text why ready fit watches still. monitor_cut a b es text ready watches still why;
  closed = λ a b es text last ready fit watches still is. monitor_closed a b es text ready watches still last is;
  front = λ a b es left text close ready fit watches. monitor_front a b es left text close ready fit watches;
  by_tables = λ a ready. refl;
}
