-- What holds of the runs of valid objects that are saved, and of those that go on from what was saved.
use Rattle.std.specs.Prelude.{◌≡◌, ℕ, ◌≤◌, List, None}
use Rattle.pearl_rules.specs.declared.entry.Entry.{Entry}
use Rattle.pearl_rules.specs.Entries.{last_moment_of_all, AreFitting, FitInTurn}
use Rattle.pearl_rules.specs.Runs.{Machine, unsettled}
use Rattle.pearl_stack.specs.Frames.{Frame}
use Rattle.pearl_instructions.specs.declared.object.Parts.{Parts as Object}
use Rattle.pearl_instructions.specs.Engines.{machine_run}
use Rattle.pearl_instructions.specs.Lawful.{IsObject}
use Rattle.pearl_instructions.specs.Setups.{setup_of}
use Rattle.pearl_instructions.specs.Valid.{IsValid}
use Rattle.pearl_records.specs.States.{AllEnd}
use Rattle.pearl_saved.specs.declared.saved.Saved.{Saved}
use Rattle.pearl_saved.specs.Rules.{IsMachineState}
use Rattle.pearl_machine.specs.Resumed.{saved_of, resumed}
use Rattle.pearl_saved_laws.specs.Going.{come_back, ComesBack, ComesToItsEnd}

-- this holds of each state of a valid object's run over any entries that fit, up to the last moment that there is
abbrev pub OfStates : (Object → Machine (List Frame) → Type 0) → Type 0
OfStates Holds = (o : Object) → IsValid o → IsObject o → (es : List Entry) → AreFitting (setup_of o) es → (n : ℕ) →
    (machine_run o es n).core.moment ≤ last_moment_of_all → Holds o (machine_run o es n)

-- over entries that fit one after the other it doesn't come to a later moment
abbrev pub MomentsStay : Type 0
MomentsStay = (o : Object) → IsValid o → IsObject o → (es : List Entry) → FitInTurn (setup_of o) es → (n : ℕ) →
    (machine_run o es n).core.moment ≤ last_moment_of_all

-- what is saved of it is a state of the object, and no series in it lasts up to 2^64 - 1
abbrev pub StatesAreSaved : Type 0
StatesAreSaved = OfStates (λ o m. IsMachineState o (saved_of m) × AllEnd (saved_of m).core)

-- what is saved of it makes the same core, which has told nothing, and the same stacks
abbrev pub StatesComeBack : Type 0
StatesComeBack = OfStates (λ o m. (resumed o (saved_of m)).state ≡ come_back m)

-- where each active task had offered its action, a run that goes on comes to this state again before any mark
abbrev pub OffersComeAgain : Type 0
OffersComeAgain = OfStates (λ o m. unsettled m ≡ None → (more : List Entry) → ComesBack o m more)

-- a run that goes on from any lawful state comes to its end
abbrev pub RestoredRunsEnd : Type 0
RestoredRunsEnd = (o : Object) (s : Saved) → IsObject o → IsMachineState o s → (es : List Entry) →
    AreFitting (setup_of o) es → ComesToItsEnd o s es
