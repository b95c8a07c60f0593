-- What a machine has told makes the transcript of its run.
use Rattle.std.proofs.Common.{◌≡◌, ℕ, List, [], ◌∷◌, ◌++◌, None, refl, ap, sym, ◌∙◌, append_assoc}
use Rattle.pearl_rules.specs.declared.entry.Entry.{Entry}
use Rattle.pearl_rules.specs.Entries.{AreFitting}
use Rattle.pearl_rules.specs.declared.setup.Setup.{Setup}
use Rattle.pearl_rules.specs.Core.{Report}
use Rattle.pearl_rules.specs.Pick.{states}
use Rattle.pearl_rules.specs.Runs.{Machine, machine_offers, machine_next, unsettled}
use Rattle.pearl_instructions.specs.declared.object.Parts.{Parts as Object}
use Rattle.pearl_stack.specs.Frames.{Frame}
use Rattle.pearl_instructions.specs.Setups.{setup_of}
use Rattle.pearl_script.specs.declared.refusal.Refusal.{Refusal}
use Rattle.pearl_script.specs.Lines.{lines_of, report_line, close_line}
use Rattle.pearl_script.specs.Refusals.{refusal_line}
use Rattle.pearl_machine.specs.Seen.{Seen, Handles}
use Rattle.pearl_top.specs.Ready.{RunsByRules, started}
use Rattle.pearl_top.specs.Runners.{by_code}
use Rattle.pearl_top.specs.Transcript.{Close, Closed, Cut, closing, ended_of}
use Rattle.pearl_top.proofs.RunEnds.{after, opening, ends_here, ends_when_done, ends_behind, EndsTelling, IsDone}

-- the lines of two lists, one after the other
pub lines_of-append : (setup : Setup) (a b : List (ℕ × Report)) → lines_of setup (a ++ b) ≡ lines_of setup a ++ lines_of setup b
lines_of-append setup [] b = refl
lines_of-append setup (x ∷ a) b = ap (λ rest. report_line setup x ++ rest) (lines_of-append setup a b) ∙ sym (append_assoc (report_line setup x) (lines_of setup a) (lines_of setup b))

-- what the machine writes at its end: the tasks' states and the closing line
abbrev pub machine_closing : Setup → Machine (List Frame) → List ℕ
machine_closing setup m = lines_of setup (states m.core (machine_offers m)) ++ close_line m.core.moment

front_same : (setup : Setup) (told more all : List (ℕ × Report)) (end : List ℕ) → all ≡ told ++ more →
    lines_of setup told ++ (lines_of setup more ++ end) ≡ lines_of setup all ++ end
front_same setup told more all end e = rw (e, lines_of-append setup told more) (sym (append_assoc (lines_of setup told) (lines_of setup more) end))

-- the whole of a run
pub closed_text : (o : Object) (es : List Entry) (n : ℕ) → unsettled (after o es n) ≡ None → machine_next (after o es n) ≡ None →
    (by_code o).writes es Closed (lines_of (setup_of o) (after o es n).core.told ++ machine_closing (setup_of o) (after o es n))
closed_text o es n settled no_mark = record {
  end = ended_of (after o es n).core (machine_offers (after o es n));
  ends = ends_here o es n settled no_mark;
  text = refl;
}

-- a run that a refusal cuts short
pub cut_text : (o : Object) (rules : RunsByRules o) (es : List Entry) (n : ℕ) (refusal : Refusal) → AreFitting (setup_of o) es → IsDone (after o es n) →
    (by_code o).writes es (Cut refusal) (lines_of (setup_of o) (after o es n).core.told ++ refusal_line refusal)
cut_text o rules es n refusal fit done =
    let last : EndsTelling o es (after o es n).core.told = ends_when_done o rules es n fit done in record {
      end = last.end;
      ends = last.ends;
      text = ap (λ told. lines_of (setup_of o) told ++ refusal_line refusal) (sym last.told_is);
    }

-- what was told so far, and what follows it in the transcript
pub record HasRest (o : Object) (es : List Entry) (close : Close) (bytes : List ℕ) : Type 0 where
  pub rest : List ℕ
  pub whole : (by_code o).writes es close (bytes ++ rest)

-- the lines of what was told are a front of the transcript
pub front_text : (o : Object) (rules : RunsByRules o) (es left : List Entry) (seen : Seen) (told : List (ℕ × Report)) (close : Close) → AreFitting (setup_of o) es →
    Handles (started o) es left seen told → HasRest o es close (lines_of (setup_of o) (opening o ++ told))
front_text o rules es left seen told close fit handles =
    let behind = ends_behind o rules es left seen told fit handles in
    let last : EndsTelling o es ((opening o ++ told) ++ behind.0) = behind.1 in record {
      rest = lines_of (setup_of o) behind.0 ++ closing (setup_of o) last.end close;
      whole = record {
        end = last.end;
        ends = last.ends;
        text = front_same (setup_of o) (opening o ++ told) behind.0 last.end.told (closing (setup_of o) last.end close) last.told_is;
      };
    }
