-- Which words are a command, and which files a command reads.
use Rattle.std.specs.Prelude.{◌≡◌, ℕ, zero, suc, ◌≤◌, if◌then◌else◌, List, [], ◌∷◌, codes, bytes_eq, length, map, nat_le, string_bytes}
use Rattle.std.specs.Fmt.{decimal}
use Rattle.pearl_top.specs.declared.limits.TheConstants.{NAME_LIMIT}
use Rattle.pearl_top.specs.declared.command.Command as code
use Rattle.pearl_top.specs.declared.command.Command.TheVariants as borrowed

-- what is done; the names are those of files, and n is the number of a workload
pub data Command : Type 0 where
  Run : (source journal : List ℕ) → Command
  Check : (source : List ℕ) → Command
  Print : (source : List ℕ) → Command
  Compile : (source : List ℕ) → Command
  Exec : (object journal : List ℕ) → Command
  Listed : (object : List ℕ) → Command
  Bench : (n : ℕ) → Command
  Watch : (object journal : List ℕ) → (names : List (List ℕ)) → Command
  Save : (object journal : List ℕ) → Command
  Resume : (snapshot journal : List ℕ) → Command
  NoCommand : Command

-- the workload of the number that these digits spell, if it is one from 1 to n
abbrev pub bench_upto : ℕ → List ℕ → Command
bench_upto zero digits = NoCommand
bench_upto (suc n) digits = if bytes_eq (decimal (suc n)) digits then Bench (suc n) else bench_upto n digits

abbrev pub bench_of : List ℕ → Command
bench_of digits = bench_upto 100 digits

-- the words that stand before one more, each with what they ask for
abbrev pub of_one : List (List ℕ × (List ℕ → Command))
of_one =
    (codes "check", Check) ∷ (codes "print", Print) ∷ (codes "compile", Compile) ∷ (codes "list", Listed) ∷ (codes "bench", bench_of) ∷ []

-- those that stand before two more
abbrev pub of_two : List (List ℕ × (List ℕ → List ℕ → Command))
of_two = (codes "run", Run) ∷ (codes "exec", Exec) ∷ (codes "save", Save) ∷ (codes "resume", Resume) ∷ []

-- those that stand before two more and names behind these
abbrev pub of_names : List (List ℕ × (List ℕ → List ℕ → List (List ℕ) → Command))
of_names = (codes "watch", Watch) ∷ []

-- what a word asks for, or else nothing
abbrev pub asked : {A : Type 0} → A → List (List ℕ × A) → List ℕ → A
asked nothing [] word = nothing
asked nothing (row ∷ rows) word = if bytes_eq word row.0 then row.1 else asked nothing rows word

-- there are at most 64 names
abbrev pub unless_many : List (List ℕ) → Command → Command
unless_many names command = if nat_le (length names) NAME_LIMIT then command else NoCommand

-- the command of the words after the program's name; any others are no command
abbrev pub command_of : List (List ℕ) → Command
command_of (word ∷ name ∷ []) = asked (λ name. NoCommand) of_one word name
command_of (word ∷ name ∷ second ∷ []) = asked (λ name second. NoCommand) of_two word name second
command_of (word ∷ name ∷ second ∷ third ∷ more) =
    unless_many (third ∷ more) (asked (λ name second names. NoCommand) of_names word name second (third ∷ more))
command_of words = NoCommand

-- the names of the files that a command reads, in order
abbrev pub names_of : Command → List (List ℕ)
names_of (Run source journal) = source ∷ journal ∷ []
names_of (Check source) = source ∷ []
names_of (Print source) = source ∷ []
names_of (Compile source) = source ∷ []
names_of (Exec object journal) = object ∷ journal ∷ []
names_of (Listed object) = object ∷ []
names_of (Bench n) = []
names_of (Watch object journal names) = object ∷ journal ∷ []
names_of (Save object journal) = object ∷ journal ∷ []
names_of (Resume snapshot journal) = snapshot ∷ journal ∷ []
names_of NoCommand = []

-- the command reads an object, by itself or in a snapshot
abbrev pub ReadsObject : Command → Type 0
ReadsObject (Run source journal) = ⊥
ReadsObject (Check source) = ⊥
ReadsObject (Print source) = ⊥
ReadsObject (Compile source) = ⊥
ReadsObject (Exec object journal) = Unit {0}
ReadsObject (Listed object) = Unit {0}
ReadsObject (Bench n) = ⊥
ReadsObject (Watch object journal names) = Unit {0}
ReadsObject (Save object journal) = Unit {0}
ReadsObject (Resume snapshot journal) = Unit {0}
ReadsObject NoCommand = ⊥

-- the code's command, which borrows the names, is this one
abbrev pub IsCommand : code.Command → Command → Type 0
IsCommand (borrowed.Run source journal) command = command ≡ Run source.now journal.now
IsCommand (borrowed.Check source) command = command ≡ Check source.now
IsCommand (borrowed.Print source) command = command ≡ Print source.now
IsCommand (borrowed.Compile source) command = command ≡ Compile source.now
IsCommand (borrowed.Exec object journal) command = command ≡ Exec object.now journal.now
IsCommand (borrowed.List object) command = command ≡ Listed object.now
IsCommand (borrowed.Bench n) command = (command ≡ Bench n) × (1 ≤ n) × (n ≤ 100)
IsCommand (borrowed.Watch object journal names) command = command ≡ Watch object.now journal.now (map string_bytes names.now)
IsCommand (borrowed.Save object journal) command = command ≡ Save object.now journal.now
IsCommand (borrowed.Resume snapshot journal) command = command ≡ Resume snapshot.now journal.now
IsCommand borrowed.None command = command ≡ NoCommand
