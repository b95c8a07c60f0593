-- Which status and which bytes belong to some words and files.
use Rattle.std.specs.Prelude.{◌≢◌, ℕ, List, [], ◌∷◌, map}
use Rattle.pearl_script.specs.declared.refusal.Refusal.TheVariants as refusal
use Rattle.pearl_script.specs.Refusals.{refusal_line}
use Rattle.pearl_top.specs.declared.status.Status.{Status}
use Rattle.pearl_top.specs.declared.status.Status.TheVariants.{Usage, NoMemory}
use Rattle.pearl_top.specs.BenchDue.{BenchDue}
use Rattle.pearl_top.specs.CheckDue.{CheckDue}
use Rattle.pearl_top.specs.Commands.{Command, Run, Check, Print, Compile, Exec, Listed, Bench, Watch, Save, Resume, NoCommand, names_of}
use Rattle.pearl_top.specs.CompileDue.{CompileDue}
use Rattle.pearl_top.specs.ObjectDue.{ExecDue, ListDue}
use Rattle.pearl_top.specs.PrintDue.{PrintDue}
use Rattle.pearl_top.specs.ResumeDue.{ResumeDue}
use Rattle.pearl_top.specs.RunDue.{RunDue}
use Rattle.pearl_top.specs.SaveDue.{SaveDue}
use Rattle.pearl_top.specs.Taken.{OnlyDue}
use Rattle.pearl_top.specs.WatchDue.{WatchDue}

-- What is due for a command, where these are the bytes of the files that it names, in order. `rose` tells of each name whether its
-- count of faults rose.
abbrev pub DueFor : Command → List (List ℕ) → (List ℕ → Type 0) → Status → List ℕ → Type 0
DueFor NoCommand [] rose = OnlyDue Usage (refusal_line refusal.Usage)
DueFor (Run source_name journal_name) (source ∷ journal ∷ []) rose = RunDue source journal (rose source_name) (rose journal_name)
DueFor (Check source_name) (source ∷ []) rose = CheckDue source (rose source_name)
DueFor (Print source_name) (source ∷ []) rose = PrintDue source (rose source_name)
DueFor (Compile source_name) (source ∷ []) rose = CompileDue source (rose source_name)
DueFor (Exec object_name journal_name) (object ∷ journal ∷ []) rose = ExecDue object journal (rose object_name) (rose journal_name)
DueFor (Listed object_name) (object ∷ []) rose = ListDue object (rose object_name)
DueFor (Bench n) [] rose = BenchDue n
DueFor (Watch object_name journal_name names) (object ∷ journal ∷ []) rose = WatchDue object names journal (rose object_name) (rose journal_name)
DueFor (Save object_name journal_name) (object ∷ journal ∷ []) rose = SaveDue object journal (rose object_name) (rose journal_name)
DueFor (Resume snapshot_name journal_name) (snapshot ∷ journal ∷ []) rose =
    ResumeDue snapshot journal (rose snapshot_name) (rose journal_name)
DueFor _ contents rose = λ status bytes. ⊥

-- the same where `files` tells the bytes of each name
abbrev pub Due : Command → (List ℕ → List ℕ) → (List ℕ → Type 0) → Status → List ℕ → Type 0
Due command files = DueFor command (map files (names_of command))

-- the status and all bytes where nothing outside fails and memory is there
pub record IsOutcome (command : Command) (files : List ℕ → List ℕ) (status : Status) (bytes : List ℕ) : Type 0 where
  pub memory : status ≢ NoMemory
  pub due : Due command files (λ name. ⊥) status bytes
