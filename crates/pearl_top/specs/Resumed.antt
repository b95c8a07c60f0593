-- What goes over a journal from a saved state of a run: its object's machine, which goes on from there.
use Rattle.std.specs.Prelude.{◌≡◌, ℕ, List, []}
use Rattle.pearl_instructions.specs.Engines.{engine}
use Rattle.pearl_instructions.specs.Lawful.{IsObject}
use Rattle.pearl_instructions.specs.Setups.{setup_of}
use Rattle.pearl_journal.specs.Pieces.{begin_later, reading_at}
use Rattle.pearl_machine.specs.Resumed.{resumed}
use Rattle.pearl_machine.specs.Seen.{Seen}
use Rattle.pearl_saved.specs.declared.saved.Saved.{Saved}
use Rattle.pearl_saved.specs.Rules.{IsMachineState}
use Rattle.pearl_top.specs.Followers.{machine_going}
use Rattle.pearl_top.specs.Going.{Going}
use Rattle.pearl_top.specs.ResumeDue.{IsStateOf}
use Rattle.pearl_top.specs.Runners.{EndsByCode, Runner}
use Rattle.pearl_top.specs.Transcript.{IsTranscript}

-- an object's own machine from where it stands: of `resumed o s` it is `by_state o s`
abbrev pub by_seen : Seen → Runner
by_seen seen = record {
  setup = setup_of seen.object;
  first = reading_at begin_later seen.state.core.moment;
  writes = λ es. IsTranscript (setup_of seen.object)
      (EndsByCode (engine seen.object) (record seen.state { entries = es }));
}

-- it stands at a saved state of its object, and goes on from there; nothing was written yet
pub record IsResumed (seen : Seen) : Type 0 where
  pub saved : Saved
  pub lawful : IsObject seen.object
  pub state : IsMachineState seen.object saved
  pub starts : seen ≡ resumed seen.object saved

-- and a file has this object and this state
pub record IsResumedOf (file : List ℕ) (seen : Seen) : Type 0 where
  pub saved : Saved
  pub is : IsStateOf file (seen.object, saved)
  pub starts : seen ≡ resumed seen.object saved

-- it writes what any machine does, but no lines that open a run
abbrev pub resumed_going : Going Seen
resumed_going = record machine_going { starts = IsResumed; opening = λ seen. []; runner = by_seen }
