-- What holds of the runs of a program's object.
use Rattle.std.specs.Prelude.{◌≡◌, ℕ, List, length}
use Rattle.pearl_rules.specs.declared.entry.Entry.{Entry}
use Rattle.pearl_rules.specs.Entries.{AreFitting}
use Rattle.pearl_rules.specs.Faithful.{IsFaithful, Alone, Soon}
use Rattle.pearl_rules.specs.Laws.{HasEnded}
use Rattle.pearl_rules.specs.Runs as runs
use Rattle.pearl_rules.specs.Slots.{HasKinds}
use Rattle.pearl_program.specs.PlainPrograms.{PlainProg}
use Rattle.pearl_program.specs.Sound.{IsSound}
use Rattle.pearl_instructions.specs.declared.object.Parts.{Parts as Object}
use Rattle.pearl_instructions.specs.Lawful.{IsObject}
use Rattle.pearl_instructions.specs.Valid.{IsValid}
use Rattle.pearl_meaning.specs.Programs.{offer}
use Rattle.pearl_meaning.specs.ProgramRuns as program
use Rattle.pearl_meaning.specs.ProgramRuns.{source_run}
use Rattle.pearl_instructions.specs.Setups.{setup_of}
use Rattle.pearl_instructions.specs.Engines.{engine, total_rows, machine_run}
use Rattle.pearl_instructions.specs.Owners.{rows_left}
use Rattle.pearl_gen_expr.specs.Tables.{HasTables}
use Rattle.pearl_gen_stmt.specs.Generated.{IsGenerated}
use Rattle.pearl_faithful.specs.Faithful.{IsFaithfulTo, TellsAlike, EndsAlike, Finishes}
use Rattle.pearl_faithful.specs.Standing.{Stands}

-- the tables from which the object's run starts are those from which the program's does
abbrev pub SameTables : Type 0
SameTables = (p : PlainProg) (o : Object) → HasTables p o → setup_of o ≡ program.setup_of p

-- so the tasks' rules run from the object's tables as the program runs
abbrev pub SameRuns : Type 0
SameRuns = (p : PlainProg) (o : Object) → HasTables p o → (es : List Entry) (m : ℕ) →
    runs.source_run (offer p) (setup_of o) es m ≡ source_run p es m

-- what holds of every object that a sound program becomes, if it is valid
abbrev pub OfObjects : (PlainProg → Object → Type 0) → Type 0
OfObjects Holds =
    (p : PlainProg) (o : Object) → IsSound p → IsGenerated p o → IsObject o → IsValid o → Holds p o

-- the code of each task stands where its answers lead, and offers there what the task does next
abbrev pub TasksStand : Type 0
TasksStand = OfObjects (λ p o. Alone (setup_of o) (offer p) (engine o) (Stands p o))

-- and does so within as many steps as the object has instructions
abbrev pub TasksOfferSoon : Type 0
TasksOfferSoon = OfObjects (λ p o.
    Soon (length o.tasks) (engine o) (Stands p o) (λ t frames. rows_left o frames) (total_rows o))

-- the object does what the program means
abbrev pub FaithfulPrograms : Type 0
FaithfulPrograms = OfObjects IsFaithfulTo

-- and has the very actions and the very formats of the program
abbrev pub SameActions : Type 0
SameActions = OfObjects (λ p o. IsFaithful (offer p) (engine o) (setup_of o) (length o.tasks) (total_rows o))

-- its run over any entries that fit comes to its end
abbrev pub ObjectsFinish : Type 0
ObjectsFinish = OfObjects (λ p o. (es : List Entry) → AreFitting (setup_of o) es → Finishes p o es)

-- every variable of the module holds a value of its kind, and so does every input, after any number of steps
abbrev pub ObjectsKeepKinds : Type 0
ObjectsKeepKinds = OfObjects (λ p o. (es : List Entry) → AreFitting (setup_of o) es → (n : ℕ) → HasKinds (setup_of o) (machine_run o es n).core)

-- an object that does what a program means tells what the program does, over any entries that fit and for any number of steps
abbrev pub ObjectsTell : Type 0
ObjectsTell = (p : PlainProg) (o : Object) → IsFaithfulTo p o → (es : List Entry) → AreFitting (setup_of o) es → (n : ℕ) →
    TellsAlike p o es n

-- and ends as it does
abbrev pub ObjectsEndAlike : Type 0
ObjectsEndAlike = (p : PlainProg) (o : Object) → IsFaithfulTo p o → (es : List Entry) → AreFitting (setup_of o) es → (n : ℕ) →
    HasEnded (engine o) (setup_of o) es n → EndsAlike p o es n
