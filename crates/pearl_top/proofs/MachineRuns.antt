-- What a machine writes on its way over the entries of a journal.
use Rattle.std.proofs.Common.{◌≡◌, ℕ, List, [], ◌++◌, Option, refl, ap, ap₂, sym, ◌∙◌, subst, append_assoc}
use Rattle.pearl_io.specs.Outside.{TakesFront}
use Rattle.pearl_rules.specs.declared.entry.Entry.{Entry}
use Rattle.pearl_rules.specs.declared.setup.Setup.{Setup}
use Rattle.pearl_rules.specs.Core.{Report}
use Rattle.pearl_rules.specs.Entries.{AreFitting}
use Rattle.pearl_rules.specs.Runs.{next_mark}
use Rattle.pearl_instructions.specs.declared.object.Parts.{Parts as Object}
use Rattle.pearl_instructions.specs.Setups.{setup_of}
use Rattle.pearl_machine.specs.Seen.{Seen, retold, Goes, Handles}
use Rattle.pearl_machine.specs.Told.{IsCutOff}
use Rattle.pearl_machine.proofs.Offered.{cut_front, handles_none, handles_then, handles_on, handles_retold}
use Rattle.pearl_script.specs.declared.refusal.Refusal.{Refusal}
use Rattle.pearl_script.specs.Lines.{lines_of}
use Rattle.pearl_script.specs.Refusals.{refusal_line}
use Rattle.pearl_top.specs.Followers.{Tells, TellsLast, machine_going}
use Rattle.pearl_top.specs.Going.{GoesInTurn, WritesItsRun}
use Rattle.pearl_top.specs.Ready.{IsReady, started}
use Rattle.pearl_top.specs.Runners.{by_code}
use Rattle.pearl_top.specs.Transcript.{Close, Closed, Cut}
use Rattle.pearl_top.proofs.Endings.{breaks_off, closes, cuts, opening_lines}
use Rattle.pearl_top.proofs.TakenLaws.{append_nil}
use Rattle.pearl_top.proofs.TranscriptLaws.{lines_of-append, machine_closing}

-- lines that were cut off are lines of which a front was taken
pub cut_off : (setup : Setup) (old new : Option (List ℕ)) (told later : List (ℕ × Report)) → IsCutOff setup old new told later → TakesFront old new (lines_of setup told)
cut_off setup old new told later cut = subst (TakesFront old new) (append_nil (lines_of setup told)) (cut_front setup old new told later [] cut)

-- once what opens the run is written
pub tells_opened : (old new : Seen) → new ≡ retold old new.state.core.told → new.state.core.told ≡ [] → (from : List Entry) → Tells old from from new []
tells_opened old new same none from =
    let is : new ≡ retold old [] = same ∙ ap (retold old) none in record {
      told = [];
      object = ap (λ (s : Seen). s.object) is;
      handles = subst (λ s. Handles old from from s []) (sym is) (handles_retold old old from from [] [] (handles_none old from));
      lines = refl;
    }

-- ONE PART AFTER ANOTHER

-- with more entries behind
behind : (seen after : Seen) (from left more : List Entry) (told : List (ℕ × Report)) → Handles seen from left after told →
    Handles seen (from ++ more) (left ++ more) after told
behind seen after from left more told handles before entries rest same =
    subst (λ all. Goes seen before entries all after told) (sym (append_assoc left more rest))
    (handles before entries (more ++ rest) (λ p known. same p known ∙ ap (next_mark p) (append_assoc from more rest)))

lines_then : (o : Object) (mid : Seen) (told said : List (ℕ × Report)) (text more : List ℕ) → mid.object ≡ o → text ≡ lines_of (setup_of o) told →
    more ≡ lines_of (setup_of mid.object) said → text ++ more ≡ lines_of (setup_of o) (told ++ said)
lines_then o mid told said text more object first second =
    ap₂ (λ a b. a ++ b) first (second ∙ ap (λ held. lines_of (setup_of held) said) object) ∙ sym (lines_of-append (setup_of o) told said)

pub machine_in_turn : GoesInTurn machine_going
machine_in_turn = record {
  nothing = λ a from. record { told = []; object = refl; handles = handles_none a from; lines = refl };
  behind = λ a b from left more text tells. record {
    told = tells.told;
    object = tells.object;
    handles = behind a b from left more tells.told tells.handles;
    lines = tells.lines;
  };
  in_turn = λ a b c from mid left text more first second. record {
    told = first.told ++ second.told;
    object = second.object ∙ first.object;
    handles = handles_then a b c from mid left first.told second.told first.object first.handles second.handles;
    lines = lines_then a.object b first.told second.told text more first.object first.lines second.lines;
  };
  same_tables = λ a b from left text tells. ap setup_of tells.object;
}

-- THE WHOLE RUN

-- what it tells from a start, it tells from the start of its object's run
from_start : (seen now : Seen) (es left : List Entry) (told : List (ℕ × Report)) → IsReady seen → Handles seen es left now told →
    Handles (started seen.object) es left now told
from_start seen now es left told ready handles = subst (λ s. Handles s es left now told) ready.starts handles

-- what opens the run is told at its start
opened_as : (seen : Seen) → IsReady seen → opening_lines seen.object ≡ lines_of (setup_of seen.object) seen.state.core.told
opened_as seen ready = sym (ap (λ s. lines_of (setup_of seen.object) s.state.core.told) ready.starts)

-- the bytes of a transcript, told as they are written
as_written : (o : Object) (es : List Entry) (close : Close) (opening others lines text end : List ℕ) → opening ≡ others → text ≡ lines →
    (by_code o).writes es close (opening ++ (lines ++ end)) → (by_code o).writes es close (others ++ (text ++ end))
as_written o es close opening others lines text end first same writes =
    subst ((by_code o).writes es close) (ap₂ (λ a b. a ++ (b ++ end)) first (sym same)) writes

machine_cut : (a b : Seen) (es : List Entry) (text : List ℕ) (why : Refusal) → IsReady a → AreFitting (setup_of a.object) es → Tells a es [] b text →
    (by_code a.object).writes es (Cut why) (lines_of (setup_of a.object) a.state.core.told ++ (text ++ refusal_line why))
machine_cut a b es text why ready fit tells =
    as_written a.object es (Cut why) (opening_lines a.object) _ (lines_of (setup_of a.object) tells.told) text (refusal_line why) (opened_as a ready) tells.lines
    (cuts a.object ready.rules es b tells.told why fit (from_start a b es [] tells.told ready tells.handles))

machine_closed : (a b : Seen) (es : List Entry) (text last : List ℕ) → IsReady a → Tells a es [] b text → TellsLast b last →
    (by_code a.object).writes es Closed (lines_of (setup_of a.object) a.state.core.told ++ (text ++ last))
machine_closed a b es text last ready tells ends =
    let there : Handles a es [] ends.last tells.told = handles_on a b ends.last es [] [] tells.told tells.object tells.handles (ends.handles []) in
    let closing : last ≡ machine_closing (setup_of a.object) ends.last.state = ends.lines ∙ ap (λ o. machine_closing (setup_of o) ends.last.state) tells.object in
    subst (λ end. (by_code a.object).writes es Closed (lines_of (setup_of a.object) a.state.core.told ++ (text ++ end))) (sym closing)
    (as_written a.object es Closed (opening_lines a.object) _ (lines_of (setup_of a.object) tells.told) text (machine_closing (setup_of a.object) ends.last.state)
    (opened_as a ready) tells.lines (closes a.object es ends.last tells.told (from_start a ends.last es [] tells.told ready there) ends.settled))

machine_front : (a b : Seen) (es left : List Entry) (text : List ℕ) (close : Close) → IsReady a → AreFitting (setup_of a.object) es → Tells a es left b text →
    (rest : List ℕ) × (by_code a.object).writes es close (lines_of (setup_of a.object) a.state.core.told ++ (text ++ rest))
machine_front a b es left text close ready fit tells =
    let front = breaks_off a.object ready.rules es left b tells.told close fit (from_start a b es left tells.told ready tells.handles) in (
      front.0,
      as_written a.object es close (opening_lines a.object) _ (lines_of (setup_of a.object) tells.told) text front.0 (opened_as a ready) tells.lines front.1,
    )

pub machine_run : WritesItsRun machine_going
machine_run = record {
  cut = λ a b es text why ready fit tells rests. machine_cut a b es text why ready fit tells;
  closed = λ a b es text last ready fit tells rests ends. machine_closed a b es text last ready tells ends;
  front = λ a b es left text close ready fit tells. machine_front a b es left text close ready fit tells;
  by_tables = λ a ready. refl;
}
