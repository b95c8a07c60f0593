-- What a machine writes that goes on from a saved state, over the entries of a journal.
use Rattle.std.proofs.Common.{◌≡◌, ℕ, List, [], ◌++◌, refl, ap, ap₂, sym, ◌∙◌, subst, append-nil, append_assoc}
use Rattle.pearl_rules.specs.declared.entry.Entry.{Entry}
use Rattle.pearl_rules.specs.Core.{Report}
use Rattle.pearl_rules.specs.Entries.{AreFitting}
use Rattle.pearl_rules.specs.Pick.{pick}
use Rattle.pearl_rules.specs.Runs.{Machine, machine_after, machine_next, machine_offers, next_mark, unsettled}
use Rattle.pearl_instructions.specs.Engines.{engine}
use Rattle.pearl_instructions.specs.Setups.{setup_of}
use Rattle.pearl_machine.specs.Seen.{Goes, Handles, SameNext, Seen, at}
use Rattle.pearl_machine.proofs.Offered.{handles_on}
use Rattle.pearl_script.specs.declared.refusal.Refusal.{Refusal}
use Rattle.pearl_script.specs.Lines.{close_line, lines_of}
use Rattle.pearl_script.specs.Refusals.{refusal_line}
use Rattle.pearl_saved_laws.specs.Going.{ComesToItsEnd}
use Rattle.pearl_saved_laws.specs.Laws.{RestoredRunsEnd}
use Rattle.pearl_stack.specs.Frames.{Frame}
use Rattle.pearl_top.specs.Followers.{Tells, TellsLast}
use Rattle.pearl_top.specs.Going.{GoesInTurn, WritesItsRun}
use Rattle.pearl_top.specs.Resumed.{IsResumed, by_seen, resumed_going}
use Rattle.pearl_top.specs.Transcript.{Close, Closed, Cut, closing, ended_of}
use Rattle.pearl_top.proofs.Endings.{is_done, states_at}
use Rattle.pearl_top.proofs.MachineRuns.{machine_in_turn}
use Rattle.pearl_top.proofs.RunEnds.{IsDone}
use Rattle.pearl_top.proofs.RunsOn.{HasEnd, TellsAtEnd, tells_first, tells_when_done}
use Rattle.pearl_top.proofs.TranscriptLaws.{lines_of-append, machine_closing}

-- WHERE IT STANDS

-- the state from which its run over these entries goes on
abbrev from : Seen → List Entry → Machine (List Frame)
from seen es = record seen.state { entries = es }

-- the run from a over just these entries comes to where b stands, having told this, and the same mark comes next as of
-- those left
record Stands (a b : Seen) (es left : List Entry) (told : List (ℕ × Report)) : Type 0 where
  steps : ℕ
  rest : List Entry
  is : machine_after (engine a.object) (from a es) steps ≡ at b told rest
  same : SameNext b rest left

stands : (a b : Seen) (es left : List Entry) (told : List (ℕ × Report)) → a.state.core.told ≡ [] →
    Handles a es left b told → Stands a b es left told
stands a b es left told none handles =
    let goes : Goes a [] es (left ++ []) b told =
    handles [] es [] (λ p known. ap (next_mark p) (sym (append-nil es))) in record {
      steps = goes.steps;
      rest = goes.left;
      is = ap (λ before. machine_after (engine a.object) (at a before es) goes.steps) none ∙ goes.is;
      same = λ p known. goes.same p known ∙ ap (next_mark p) (append-nil left);
    }

-- WHAT IS WRITTEN

cut : (a b : Seen) (es : List Entry) (text : List ℕ) (why : Refusal) → a.state.core.told ≡ [] →
    HasEnd a.object (from a es) → Tells a es [] b text →
    (by_seen a).writes es (Cut why) (text ++ refusal_line why)
cut a b es text why none end tells =
    let here = stands a b es [] tells.told none tells.handles in
    let last : TellsAtEnd a.object (from a es) (machine_after (engine a.object) (from a es) here.steps).core.told =
    tells_when_done a.object (from a es) end here.steps
    (subst IsDone (sym here.is) (is_done b tells.told here.rest here.same)) in
    let told : last.end.told ≡ tells.told = last.told_is ∙ ap (λ (m : Machine (List Frame)). m.core.told) here.is in
    record {
      end = last.end;
      ends = last.ends;
      text = ap (λ lines. lines ++ refusal_line why) (tells.lines ∙ ap (lines_of (setup_of a.object)) (sym told));
    }

closed : (a b : Seen) (es : List Entry) (text last : List ℕ) → a.state.core.told ≡ [] → Tells a es [] b text →
    TellsLast b last →
    (by_seen a).writes es Closed (text ++ last)
closed a b es text last none tells ends =
    let handles : Handles a es [] ends.last tells.told =
    handles_on a b ends.last es [] [] tells.told tells.object tells.handles (ends.handles []) in
    let here = stands a ends.last es [] tells.told none handles in
    let there : Machine (List Frame) = at ends.last tells.told here.rest in record {
      end = ended_of there.core (machine_offers there);
      ends = record {
        steps = here.steps;
        settled = ap unsettled here.is ∙ ends.settled;
        no_mark = ap machine_next here.is
            ∙ is_done ends.last tells.told here.rest here.same (pick there.core (machine_offers there)) (λ known. refl);
        is = ap (λ (m : Machine (List Frame)). ended_of m.core (machine_offers m)) (sym here.is);
      };
      text = ap₂ (λ x y. x ++ y) tells.lines
          (ends.lines ∙ ap (λ o. machine_closing (setup_of o) ends.last.state) tells.object
          ∙ ap (λ x. lines_of (setup_of a.object) x ++ close_line ends.last.state.core.moment)
          (sym (states_at ends.last tells.told here.rest)));
    }

front : (a b : Seen) (es left : List Entry) (text : List ℕ) (close : Close) → a.state.core.told ≡ [] →
    HasEnd a.object (from a es) → Tells a es left b text →
    (rest : List ℕ) × (by_seen a).writes es close (text ++ rest)
front a b es left text close none end tells =
    let here = stands a b es left tells.told none tells.handles in
    let first = tells_first a.object (from a es) end here.steps in
    let last : TellsAtEnd a.object (from a es)
    ((machine_after (engine a.object) (from a es) here.steps).core.told ++ first.0) = first.1 in
    let told : last.end.told ≡ tells.told ++ first.0 =
    last.told_is ∙ ap (λ (m : Machine (List Frame)). m.core.told ++ first.0) here.is in
    let setup = setup_of a.object in
    let end_text : List ℕ = closing setup last.end close in (
      lines_of setup first.0 ++ end_text,
      record {
        end = last.end;
        ends = last.ends;
        text = ap (λ lines. lines ++ (lines_of setup first.0 ++ end_text)) tells.lines
            ∙ sym (append_assoc (lines_of setup tells.told) (lines_of setup first.0) end_text)
            ∙ ap (λ lines. lines ++ end_text)
            (sym (lines_of-append setup tells.told first.0) ∙ ap (lines_of setup) (sym told));
      },
    )

-- FROM A SAVED STATE

pub nothing_told : (seen : Seen) → IsResumed seen → seen.state.core.told ≡ []
nothing_told seen is = ap (λ (s : Seen). s.state.core.told) is.starts

has_end : RestoredRunsEnd → (seen : Seen) → IsResumed seen → (es : List Entry) → AreFitting (setup_of seen.object) es →
    HasEnd seen.object (from seen es)
has_end runs_end seen is es fit =
    let end : ComesToItsEnd seen.object is.saved es = runs_end seen.object is.saved is.lawful is.state es fit in
    subst (λ (s : Seen). HasEnd seen.object (from s es)) (sym is.starts)
    (record { steps = end.steps; over = record { settled = end.settled; no_mark = end.no_mark } })

pub resumed_in_turn : GoesInTurn resumed_going
resumed_in_turn = record {
  nothing = machine_in_turn.nothing;
  behind = machine_in_turn.behind;
  in_turn = machine_in_turn.in_turn;
  same_tables = machine_in_turn.same_tables;
}

pub resumed_run : RestoredRunsEnd → WritesItsRun resumed_going
resumed_run runs_end = record {
  cut = λ a b es text why is fit tells rests.
      cut a b es text why (nothing_told a is) (has_end runs_end a is es fit) tells;
  closed = λ a b es text last is fit tells rests ends. closed a b es text last (nothing_told a is) tells ends;
  front = λ a b es left text close is fit tells.
      front a b es left text close (nothing_told a is) (has_end runs_end a is es fit) tells;
  by_tables = λ a is. refl;
}
