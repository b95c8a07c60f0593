-- What is due for the words, from what is due for the files that they name.
use Rattle.std.proofs.Common.{◌≡◌, ◌≢◌, ◌⊎◌, ℕ, List, [], ◌∷◌, Option, Some, refl, ap, ap₂, sym, subst, ◌∙◌, inl, inr, map, arith}
use Rattle.std.specs.List.{AllZip, Any}
use Rattle.pearl_io.specs.Outside.{Files, content}
use Rattle.pearl_program.specs.PlainPrograms.{PlainProg}
use Rattle.pearl_instructions.specs.declared.object.Parts.{Parts as Object}
use Rattle.pearl_instructions.specs.Valid.{IsValid}
use Rattle.pearl_faithful.specs.Faithful.{IsFaithfulTo}
use Rattle.pearl_machine.specs.Seen.{Seen}
use Rattle.pearl_script.specs.declared.refusal.Refusal.TheVariants as refusal
use Rattle.pearl_script.specs.Refusals.{refusal_line}
use Rattle.pearl_top.specs.declared.limits.TheConstants.{SOURCE_LIMIT, OBJECT_LIMIT}
use Rattle.pearl_top.specs.declared.status.Status.{Status}
use Rattle.pearl_top.specs.declared.status.Status.TheVariants.{Done, Usage, Refused, BadObject, BadJournal, ReadFault, WriteFault, NoMemory, TooLong, BadName}
use Rattle.pearl_top.specs.BenchDue.{BenchDue}
use Rattle.pearl_top.specs.CheckDue.{CheckDue, IsAccepted, IsUnaccepted}
use Rattle.pearl_top.specs.Commands.{Command, Run, Check, Print, Compile, Exec, Listed, Bench, Watch, Save, Resume, NoCommand, ReadsObject, names_of}
use Rattle.pearl_top.specs.CompileDue.{CompileDue, IsCompiled}
use Rattle.pearl_top.specs.ObjectDue.{ExecDue, IsCodeOf, IsListed, IsNoObject, IsRefused, ListDue, ObjectDue}
use Rattle.pearl_top.specs.JournalDue.{JournalDue}
use Rattle.pearl_top.specs.Outcome.{Due, DueFor, IsOutcome}
use Rattle.pearl_top.specs.ResumeDue.{ResumeDue}
use Rattle.pearl_top.specs.RunDue.{IsSource, RunDue, SourceDue}
use Rattle.pearl_top.specs.SaveDue.{SaveDue}
use Rattle.pearl_top.specs.PrintDue.{IsPrinted, PrintDue}
use Rattle.pearl_top.specs.Sources.{IsUnspelled}
use Rattle.pearl_top.specs.Reading.{ASource, AnObject, MayHave, UnreadDue}
use Rattle.pearl_top.specs.Ready.{IsReadyWith, RunsByRules, start_of, started}
use Rattle.pearl_top.specs.Runners.{by_code, by_rules}
use Rattle.pearl_top.specs.Taken.{Ends, Finishes, OnlyDue}
use Rattle.pearl_top.specs.WatchDue.{WatchDue}
use Rattle.pearl_top.proofs.FileLaws.{at_file_unrisen}
use Rattle.pearl_top.proofs.FromLaws.{from_held, from_read, from_refused, from_unread, from_unrisen, from_usage}
use Rattle.pearl_top.proofs.FaithfulRuns.{journals_alike}
use Rattle.pearl_top.proofs.ResumeLaws.{resume_read, resume_unrisen, resume_usage}
use Rattle.pearl_top.proofs.SaveLaws.{save_read, save_unrisen, save_usage}
use Rattle.pearl_top.proofs.TakenLaws.{ends_as, finishes_of}
use Rattle.pearl_top.proofs.WatchLaws.{watch_read, watch_unrisen, watch_usage}

-- AT THE SOURCE

-- a machine that was loaded with an object stands at the start
pub loaded : (o code : Object) (seen : Seen) → code ≡ o → seen.object ≡ code → seen.state ≡ start_of code [] → seen ≡ started o
loaded o code seen same object state = rw (sym same) (ap₂ (λ held at. record { object = held; state = at }) object state)

-- a machine that was loaded with a valid object is ready
pub ready_with : (o : Object) (seen : Seen) → IsValid o → RunsByRules o → seen ≡ started o → IsReadyWith o seen
ready_with o seen valid rules at_start =
    let same : o ≡ seen.object = ap (λ s. s.object) (sym at_start) in record {
      valid = valid;
      is = sym same;
      ready = record { rules = subst RunsByRules same rules; starts = at_start ∙ ap started same };
    }

-- what is due where the source is not read whole
pub run_unread : (source journal : List ℕ) (rose also : Type 0) (status : Status) (bytes : List ℕ) → UnreadDue source SOURCE_LIMIT rose status bytes →
    RunDue source journal rose also status bytes
run_unread source journal = from_unread ASource source (IsUnaccepted source) (IsSource source) by_rules journal

-- what is due where it was read
pub run_refused : (read source journal : List ℕ) (rose also : Type 0) (status : Status) (bytes : List ℕ) → read ≡ source → SourceDue read ⊥ status bytes →
    RunDue source journal rose also status bytes
run_refused read source journal rose also status bytes same due =
    from_refused ASource source (IsUnaccepted source) (IsSource source) by_rules journal rose also status bytes (subst (λ file. SourceDue file ⊥ status bytes) same due)

-- what is due where it is accepted, of a machine with an object that does what it means
pub run_accepted : (read source journal : List ℕ) (rose also later : Type 0) (p : PlainProg) (o : Object) (status : Status) (bytes : List ℕ) → read ≡ source →
    (also → later) → IsSource read p → IsFaithfulTo p o → JournalDue (by_code o) journal also status bytes → RunDue source journal rose later status bytes
run_accepted read source journal rose also later p o status bytes same on is_source faithful due =
    from_held ASource source (IsUnaccepted source) (IsSource source) by_rules journal p rose also later status bytes on (subst (λ file. IsSource file p) same is_source)
    (journals_alike p o faithful journal also status bytes due)

-- AT THE OBJECT

pub exec_unread : (file journal : List ℕ) (rose also : Type 0) (status : Status) (bytes : List ℕ) → UnreadDue file OBJECT_LIMIT rose status bytes →
    ExecDue file journal rose also status bytes
exec_unread file journal = from_unread AnObject file (IsRefused file) (IsCodeOf file) by_code journal

pub exec_refused : (read file journal : List ℕ) (rose also : Type 0) (status : Status) (bytes : List ℕ) → read ≡ file → ObjectDue read ⊥ status bytes →
    ExecDue file journal rose also status bytes
exec_refused read file journal rose also status bytes same due =
    from_refused AnObject file (IsRefused file) (IsCodeOf file) by_code journal rose also status bytes (subst (λ f. ObjectDue f ⊥ status bytes) same due)

pub exec_accepted : (read file journal : List ℕ) (rose also later : Type 0) (o : Object) (status : Status) (bytes : List ℕ) → read ≡ file → (also → later) →
    IsCodeOf read o → JournalDue (by_code o) journal also status bytes → ExecDue file journal rose later status bytes
exec_accepted read file journal rose also later o status bytes same on code due =
    from_held AnObject file (IsRefused file) (IsCodeOf file) by_code journal o rose also later status bytes on (subst (λ f. IsCodeOf f o) same code) due

-- FOR ALL WORDS

-- what holds of a shelf that tells nothing new
pub may_have_before : (held later : Option Files) (name bytes : List ℕ) → later ≡ held → MayHave later name bytes → MayHave held name bytes
may_have_before held later name bytes same has = subst (λ h. MayHave h name bytes) same has

-- the words are those of this command
pub due_as : (words other : Command) (held : Option Files) (contents : List (List ℕ)) (rose : List ℕ → Type 0)
    (what : (Status → List ℕ → Type 0) → Type 0) → words ≡ other → AllZip (MayHave held) (names_of other) contents → what (DueFor other contents rose) →
    (contents : List (List ℕ)) × AllZip (MayHave held) (names_of words) contents × what (DueFor words contents rose)
due_as words other held contents rose what same has is = (
  contents,
  subst (λ said. AllZip (MayHave held) (names_of said) contents) (sym same) has,
  subst (λ said. what (DueFor said contents rose)) (sym same) is,
)

-- where the shelf tells what it holds, the files have just those bytes
told : (files : Files) (names contents : List (List ℕ)) → AllZip (MayHave (Some files)) names contents → contents ≡ map (content files) names
told files [] [] has = refl
told files [] (bytes ∷ contents) has = absurd has
told files (name ∷ names) [] has = absurd has
told files (name ∷ names) (bytes ∷ contents) has = ap₂ (λ x xs. x ∷ xs) has.0 (told files names contents has.1)

pub due_told : (command : Command) (held : Option Files) (files : Files) (contents : List (List ℕ)) (rose : List ℕ → Type 0) (old new : Option (List ℕ))
    (status : Status) → held ≡ Some files → AllZip (MayHave held) (names_of command) contents → Ends old new (DueFor command contents rose) status →
    Ends old new (Due command (content files) rose) status
due_told command held files contents rose old new status tells has ends =
    subst (λ all. Ends old new (DueFor command all rose) status)
    (told files (names_of command) contents (subst (λ h. AllZip (MayHave h) (names_of command) contents) tells has)) ends

-- what comes without a fault of reading comes where no count rose
unrisen : (command : Command) (files : List ℕ → List ℕ) (rose : List ℕ → Type 0) (status : Status) (bytes : List ℕ) → status ≢ ReadFault →
    Due command files rose status bytes → Due command files (λ name. ⊥) status bytes
unrisen NoCommand files rose status bytes free due = due
unrisen (Run source journal) files rose status bytes free due =
    from_unrisen ASource (files source) (IsUnaccepted (files source)) (IsSource (files source)) by_rules (files journal) (rose source) (rose journal) status bytes free due
unrisen (Exec object journal) files rose status bytes free due =
    from_unrisen AnObject (files object) (IsRefused (files object)) (IsCodeOf (files object)) by_code (files journal) (rose object) (rose journal) status bytes free due
unrisen (Check source) files rose status bytes free due =
    at_file_unrisen ASource (files source) (IsAccepted (files source)) (IsUnaccepted (files source)) (rose source) status bytes free due
unrisen (Print source) files rose status bytes free due =
    at_file_unrisen ASource (files source) (IsPrinted (files source)) (IsUnspelled (files source)) (rose source) status bytes free due
unrisen (Compile source) files rose status bytes free due =
    at_file_unrisen ASource (files source) (IsCompiled (files source)) (IsUnaccepted (files source)) (rose source) status bytes free due
unrisen (Listed object) files rose status bytes free due =
    at_file_unrisen AnObject (files object) (IsListed (files object)) (IsNoObject (files object)) (rose object) status bytes free due
unrisen (Bench n) files rose status bytes free due = due
unrisen (Watch object journal names) files rose status bytes free due =
    watch_unrisen (files object) names (files journal) (rose object) (rose journal) status bytes free due
unrisen (Save object journal) files rose status bytes free due =
    save_unrisen (files object) (files journal) (rose object) (rose journal) status bytes free due
unrisen (Resume snapshot journal) files rose status bytes free due =
    resume_unrisen (files snapshot) (files journal) (rose snapshot) (rose journal) status bytes free due

-- where the status is none of want of memory, a read fault and a write fault, it is an outcome
pub settles : (command : Command) (files : List ℕ → List ℕ) (rose : List ℕ → Type 0) (old new : Option (List ℕ)) (status : Status) →
    Ends old new (Due command files rose) status → status ≢ NoMemory → status ≢ ReadFault → status ≢ WriteFault →
    Finishes old new (IsOutcome command files status)
settles command files rose old new status ends no_memory no_read no_write =
    let done = finishes_of old new (Due command files rose) status no_write ends in record {
      bytes = done.bytes;
      is_due = record { memory = no_memory; due = unrisen command files rose status done.bytes no_read done.is_due };
      taken = done.taken;
    }

-- WHICH STATUS COMES WHEN

-- what is due for each command is due for the bytes of its files
run_files : (source journal : List ℕ) (contents : List (List ℕ)) (rose : List ℕ → Type 0) (status : Status) (bytes : List ℕ) →
    DueFor (Run source journal) contents rose status bytes → (first second : List ℕ) × RunDue first second (rose source) (rose journal) status bytes
run_files source journal [] rose status bytes due = absurd due
run_files source journal (first ∷ []) rose status bytes due = absurd due
run_files source journal (first ∷ second ∷ []) rose status bytes due = (first, second, due)
run_files source journal (first ∷ second ∷ third ∷ more) rose status bytes due = absurd due

check_file : (source : List ℕ) (contents : List (List ℕ)) (rose : List ℕ → Type 0) (status : Status) (bytes : List ℕ) →
    DueFor (Check source) contents rose status bytes → (file : List ℕ) × CheckDue file (rose source) status bytes
check_file source [] rose status bytes due = absurd due
check_file source (file ∷ []) rose status bytes due = (file, due)
check_file source (file ∷ other ∷ more) rose status bytes due = absurd due

print_file : (source : List ℕ) (contents : List (List ℕ)) (rose : List ℕ → Type 0) (status : Status) (bytes : List ℕ) →
    DueFor (Print source) contents rose status bytes → (file : List ℕ) × PrintDue file (rose source) status bytes
print_file source [] rose status bytes due = absurd due
print_file source (file ∷ []) rose status bytes due = (file, due)
print_file source (file ∷ other ∷ more) rose status bytes due = absurd due

compile_file : (source : List ℕ) (contents : List (List ℕ)) (rose : List ℕ → Type 0) (status : Status) (bytes : List ℕ) →
    DueFor (Compile source) contents rose status bytes → (file : List ℕ) × CompileDue file (rose source) status bytes
compile_file source [] rose status bytes due = absurd due
compile_file source (file ∷ []) rose status bytes due = (file, due)
compile_file source (file ∷ other ∷ more) rose status bytes due = absurd due

list_file : (object : List ℕ) (contents : List (List ℕ)) (rose : List ℕ → Type 0) (status : Status) (bytes : List ℕ) →
    DueFor (Listed object) contents rose status bytes → (file : List ℕ) × ListDue file (rose object) status bytes
list_file object [] rose status bytes due = absurd due
list_file object (file ∷ []) rose status bytes due = (file, due)
list_file object (file ∷ other ∷ more) rose status bytes due = absurd due

exec_files : (object journal : List ℕ) (contents : List (List ℕ)) (rose : List ℕ → Type 0) (status : Status) (bytes : List ℕ) →
    DueFor (Exec object journal) contents rose status bytes → (first second : List ℕ) × ExecDue first second (rose object) (rose journal) status bytes
exec_files object journal [] rose status bytes due = absurd due
exec_files object journal (first ∷ []) rose status bytes due = absurd due
exec_files object journal (first ∷ second ∷ []) rose status bytes due = (first, second, due)
exec_files object journal (first ∷ second ∷ third ∷ more) rose status bytes due = absurd due

watch_files : (object journal : List ℕ) (names contents : List (List ℕ)) (rose : List ℕ → Type 0) (status : Status) (bytes : List ℕ) →
    DueFor (Watch object journal names) contents rose status bytes → (first second : List ℕ) × WatchDue first names second (rose object) (rose journal) status bytes
watch_files object journal names [] rose status bytes due = absurd due
watch_files object journal names (first ∷ []) rose status bytes due = absurd due
watch_files object journal names (first ∷ second ∷ []) rose status bytes due = (first, second, due)
watch_files object journal names (first ∷ second ∷ third ∷ more) rose status bytes due = absurd due

save_files : (object journal : List ℕ) (contents : List (List ℕ)) (rose : List ℕ → Type 0) (status : Status) (bytes : List ℕ) →
    DueFor (Save object journal) contents rose status bytes → (first second : List ℕ) × SaveDue first second (rose object) (rose journal) status bytes
save_files object journal [] rose status bytes due = absurd due
save_files object journal (first ∷ []) rose status bytes due = absurd due
save_files object journal (first ∷ second ∷ []) rose status bytes due = (first, second, due)
save_files object journal (first ∷ second ∷ third ∷ more) rose status bytes due = absurd due

resume_files : (snapshot journal : List ℕ) (contents : List (List ℕ)) (rose : List ℕ → Type 0) (status : Status) (bytes : List ℕ) →
    DueFor (Resume snapshot journal) contents rose status bytes →
    (first second : List ℕ) × ResumeDue first second (rose snapshot) (rose journal) status bytes
resume_files snapshot journal [] rose status bytes due = absurd due
resume_files snapshot journal (first ∷ []) rose status bytes due = absurd due
resume_files snapshot journal (first ∷ second ∷ []) rose status bytes due = (first, second, due)
resume_files snapshot journal (first ∷ second ∷ third ∷ more) rose status bytes due = absurd due

bench_due : (n : ℕ) (contents : List (List ℕ)) (rose : List ℕ → Type 0) (status : Status) (bytes : List ℕ) → DueFor (Bench n) contents rose status bytes →
    BenchDue n status bytes
bench_due n [] rose status bytes due = due
bench_due n (file ∷ more) rose status bytes due = absurd due

run_usage : (source journal : List ℕ) (a b : Type 0) (bytes : List ℕ) → RunDue source journal a b Usage bytes → ⊥
run_usage source journal = from_usage ASource source (IsUnaccepted source) (IsSource source) by_rules journal

exec_usage : (file journal : List ℕ) (a b : Type 0) (bytes : List ℕ) → ExecDue file journal a b Usage bytes → ⊥
exec_usage file journal = from_usage AnObject file (IsRefused file) (IsCodeOf file) by_code journal

run_object : (source journal : List ℕ) (a b : Type 0) (bytes : List ℕ) → RunDue source journal a b BadObject bytes → ⊥
run_object source journal a b bytes (inl due) = due
run_object source journal a b bytes (inr (p, is_source, due)) = due

run_read : (source journal : List ℕ) (a b : Type 0) (bytes : List ℕ) → RunDue source journal a b ReadFault bytes → a ⊎ b
run_read source journal = from_read ASource source (IsUnaccepted source) (IsSource source) by_rules journal

exec_read : (file journal : List ℕ) (a b : Type 0) (bytes : List ℕ) → ExecDue file journal a b ReadFault bytes → a ⊎ b
exec_read file journal = from_read AnObject file (IsRefused file) (IsCodeOf file) by_code journal

usage_due : (command : Command) (contents : List (List ℕ)) (rose : List ℕ → Type 0) (bytes : List ℕ) → DueFor command contents rose Usage bytes →
    command ≡ NoCommand
usage_due NoCommand contents rose bytes due = refl
usage_due (Run source journal) contents rose bytes due =
    let is = run_files source journal contents rose Usage bytes due in absurd (run_usage is.0 is.1 (rose source) (rose journal) bytes is.2)
usage_due (Exec object journal) contents rose bytes due =
    let is = exec_files object journal contents rose Usage bytes due in absurd (exec_usage is.0 is.1 (rose object) (rose journal) bytes is.2)
usage_due (Check source) contents rose bytes due = absurd (let is = check_file source contents rose Usage bytes due in is.1)
usage_due (Print source) contents rose bytes due = absurd (let is = print_file source contents rose Usage bytes due in is.1)
usage_due (Compile source) contents rose bytes due = absurd (let is = compile_file source contents rose Usage bytes due in is.1)
usage_due (Listed object) contents rose bytes due = absurd (let is = list_file object contents rose Usage bytes due in is.1)
usage_due (Bench n) contents rose bytes due = absurd (bench_due n contents rose Usage bytes due)
usage_due (Watch object journal names) contents rose bytes due =
    let is = watch_files object journal names contents rose Usage bytes due in absurd (watch_usage is.0 names is.1 (rose object) (rose journal) bytes is.2)
usage_due (Save object journal) contents rose bytes due =
    let is = save_files object journal contents rose Usage bytes due in absurd (save_usage is.0 is.1 (rose object) (rose journal) bytes is.2)
usage_due (Resume snapshot journal) contents rose bytes due =
    let is = resume_files snapshot journal contents rose Usage bytes due in
    absurd (resume_usage is.0 is.1 (rose snapshot) (rose journal) bytes is.2)

none_due : (contents : List (List ℕ)) (rose : List ℕ → Type 0) (status : Status) (bytes : List ℕ) → DueFor NoCommand contents rose status bytes →
    OnlyDue Usage (refusal_line refusal.Usage) status bytes
none_due [] rose status bytes due = due
none_due (file ∷ more) rose status bytes due = absurd due

object_due : (command : Command) (contents : List (List ℕ)) (rose : List ℕ → Type 0) (bytes : List ℕ) → DueFor command contents rose BadObject bytes →
    ReadsObject command
object_due NoCommand contents rose bytes due = let is = none_due contents rose BadObject bytes due in (let e = is.0 in cc)
object_due (Run source journal) contents rose bytes due =
    let is = run_files source journal contents rose BadObject bytes due in run_object is.0 is.1 (rose source) (rose journal) bytes is.2
object_due (Exec object journal) contents rose bytes due = tt
object_due (Listed object) contents rose bytes due = tt
object_due (Watch object journal names) contents rose bytes due = tt
object_due (Save object journal) contents rose bytes due = tt
object_due (Resume snapshot journal) contents rose bytes due = tt
object_due (Compile source) contents rose bytes due = let is = compile_file source contents rose BadObject bytes due in is.1
object_due (Check source) contents rose bytes due = let is = check_file source contents rose BadObject bytes due in is.1
object_due (Print source) contents rose bytes due = let is = print_file source contents rose BadObject bytes due in is.1
object_due (Bench n) contents rose bytes due = bench_due n contents rose BadObject bytes due

some_rose : (source journal : List ℕ) (rose : List ℕ → Type 0) → rose source ⊎ rose journal → Any rose (source ∷ journal ∷ [])
some_rose source journal rose (inl first) = (0, source, omega arith, refl, first)
some_rose source journal rose (inr second) = (1, journal, omega arith, refl, second)

read_due : (command : Command) (contents : List (List ℕ)) (rose : List ℕ → Type 0) (bytes : List ℕ) → DueFor command contents rose ReadFault bytes →
    Any rose (names_of command)
read_due NoCommand contents rose bytes due = absurd (let is = none_due contents rose ReadFault bytes due in (let e = is.0 in cc))
read_due (Run source journal) contents rose bytes due =
    let is = run_files source journal contents rose ReadFault bytes due in
    some_rose source journal rose (run_read is.0 is.1 (rose source) (rose journal) bytes is.2)
read_due (Exec object journal) contents rose bytes due =
    let is = exec_files object journal contents rose ReadFault bytes due in
    some_rose object journal rose (exec_read is.0 is.1 (rose object) (rose journal) bytes is.2)
read_due (Watch object journal names) contents rose bytes due =
    let is = watch_files object journal names contents rose ReadFault bytes due in
    some_rose object journal rose (watch_read is.0 names is.1 (rose object) (rose journal) bytes is.2)
read_due (Save object journal) contents rose bytes due =
    let is = save_files object journal contents rose ReadFault bytes due in
    some_rose object journal rose (save_read is.0 is.1 (rose object) (rose journal) bytes is.2)
read_due (Resume snapshot journal) contents rose bytes due =
    let is = resume_files snapshot journal contents rose ReadFault bytes due in
    some_rose snapshot journal rose (resume_read is.0 is.1 (rose snapshot) (rose journal) bytes is.2)
read_due (Compile source) contents rose bytes due =
    let is = compile_file source contents rose ReadFault bytes due in (0, source, omega arith, refl, is.1.0)
read_due (Listed object) contents rose bytes due =
    let is = list_file object contents rose ReadFault bytes due in (0, object, omega arith, refl, is.1.0)
read_due (Check source) contents rose bytes due =
    let is = check_file source contents rose ReadFault bytes due in (0, source, omega arith, refl, is.1.0)
read_due (Print source) contents rose bytes due =
    let is = print_file source contents rose ReadFault bytes due in (0, source, omega arith, refl, is.1.0)
read_due (Bench n) contents rose bytes due = absurd (let is = bench_due n contents rose ReadFault bytes due in is.0)

-- `error usage` is due just where the words are no command
pub usage_only : (command : Command) (contents : List (List ℕ)) (rose : List ℕ → Type 0) (old new : Option (List ℕ)) (status : Status) → status ≡ Usage →
    Ends old new (DueFor command contents rose) status → command ≡ NoCommand
usage_only command contents rose old new status is ends =
    let done : Finishes old new (DueFor command contents rose Usage) = subst (λ s. Ends old new (DueFor command contents rose) s) is ends in
    usage_due command contents rose done.bytes done.is_due

pub only_usage : (command : Command) (contents : List (List ℕ)) (rose : List ℕ → Type 0) (old new : Option (List ℕ)) (status : Status) → command ≡ NoCommand →
    Ends old new (DueFor command contents rose) status → Ends old new (OnlyDue Usage (refusal_line refusal.Usage)) status
only_usage words contents rose old new status none ends =
    ends_as old new (DueFor NoCommand contents rose) (OnlyDue Usage (refusal_line refusal.Usage)) status (none_due contents rose)
    (subst (λ said. Ends old new (DueFor said contents rose) status) none ends)

pub just_usage : (old new : Option (List ℕ)) (line : List ℕ) (status : Status) → Ends old new (OnlyDue Usage line) status →
    (status ≡ Usage) ⊎ (status ≡ WriteFault)
just_usage old new line Done ends = inl ends.is_due.0
just_usage old new line Usage ends = inl refl
just_usage old new line Refused ends = inl ends.is_due.0
just_usage old new line BadObject ends = inl ends.is_due.0
just_usage old new line BadJournal ends = inl ends.is_due.0
just_usage old new line ReadFault ends = inl ends.is_due.0
just_usage old new line WriteFault ends = inr refl
just_usage old new line NoMemory ends = inl ends.is_due.0
just_usage old new line TooLong ends = inl ends.is_due.0
just_usage old new line BadName ends = inl ends.is_due.0

-- an object is refused only where one is read
pub bad_object : (command : Command) (contents : List (List ℕ)) (rose : List ℕ → Type 0) (old new : Option (List ℕ)) (status : Status) → status ≡ BadObject →
    Ends old new (DueFor command contents rose) status → ReadsObject command
bad_object command contents rose old new status is ends =
    let done : Finishes old new (DueFor command contents rose BadObject) = subst (λ s. Ends old new (DueFor command contents rose) s) is ends in
    object_due command contents rose done.bytes done.is_due

-- a fault of reading has its cause
pub read_rose : (command : Command) (contents : List (List ℕ)) (rose : List ℕ → Type 0) (old new : Option (List ℕ)) (status : Status) →
    Ends old new (DueFor command contents rose) status → status ≡ ReadFault → Any rose (names_of command)
read_rose command contents rose old new status ends is =
    let done : Finishes old new (DueFor command contents rose ReadFault) = subst (λ s. Ends old new (DueFor command contents rose) s) is ends in
    read_due command contents rose done.bytes done.is_due
