-- What the names of tasks, semaphores, interrupts and dations must stand for, how many of them one statement may have,
-- and which dations suit a transfer: S16, S31 and S32. Places are counted from the statement's first byte.
use Rattle.std.specs.Prelude.{◌≡◌, ℕ, zero, suc, ◌+◌, Bool, true, false, List, [], ◌∷◌, ◌++◌, map, Option, Some, None}
use Rattle.std.proofs.Common.{refl}
use Rattle.pearl_value.specs.declared.kind.Kind.TheVariants as kind
use Rattle.pearl_value.specs.declared.device.Direction.TheVariants.{In, Out, InOut}
use Rattle.pearl_tree.specs.declared.fault.RuleFault.{RuleFault}
use Rattle.pearl_tree.specs.declared.format.Fmt.TheVariants.{Wide}
use Rattle.pearl_tree.specs.declared.format.WideCode.TheVariants.{F}
use Rattle.pearl_tree.specs.declared.name.Name.{Name}
use Rattle.pearl_tree.specs.declared.statement.InterruptWord.TheVariants.{Trigger}
use Rattle.pearl_tree.specs.declared.statement.SemaWord.TheVariants.{Request}
use Rattle.pearl_tree.specs.declared.statement.TaskWord.TheVariants.{Suspend}
use Rattle.pearl_tree.specs.ShownDeclarations.{OfSeveral, OfSema}
use Rattle.pearl_tree.specs.ShownStatements.{OfWhen, OnceWhen, OfActivate, OfContinue, OfResume, OfOnTask, OfOnSemas, OfOnInterrupt, OfPut, OfGet, OfSend, OfTake}
use Rattle.pearl_tree.specs.ShownModules.{OfDeclare}
use Rattle.pearl_names.specs.Sorts.{sorted_names, names_of_scopes}
use Rattle.pearl_names.specs.Tables.{Sense, Variable, Control, OwnParameter, NewType, Semaphore, Interrupt, AlphicDation, BasicDation, Task, Procedure}
use Rattle.pearl_check.proofs.EachSort.{name, number, fault, reference, variable, source, task, doing, with_each_name, parts_with_each_name, told}
use Rattle.pearl_check.specs.declared.asked.NameRole.TheVariants as name_role
use Rattle.pearl_check.specs.Dations.{takes_no_put, gives_no_get, takes_no_send, gives_no_take}
use Rattle.pearl_check.specs.Roles.{role_of, is_role}
use Rattle.pearl_check.proofs.Broken.{broken}

-- a sense of each sort
abbrev senses : List Sense
senses =
    Variable None false ∷ Control (kind.Fixed 31) ∷ OwnParameter (record { kind = None; ident = false }) ∷ NewType ∷ Semaphore ∷
    Interrupt ∷ AlphicDation InOut ∷ BasicDation InOut None ∷ Task ∷ Procedure [] None ∷ []

-- of a variable, a control variable, a parameter, a type, a semaphore, an interrupt, dations of both classes, a task and
-- a procedure
abbrev only_task : List Bool
only_task = false ∷ false ∷ false ∷ false ∷ false ∷ false ∷ false ∷ false ∷ true ∷ false ∷ []

abbrev only_semaphore : List Bool
only_semaphore = false ∷ false ∷ false ∷ false ∷ true ∷ false ∷ false ∷ false ∷ false ∷ false ∷ []

abbrev only_interrupt : List Bool
only_interrupt = false ∷ false ∷ false ∷ false ∷ false ∷ true ∷ false ∷ false ∷ false ∷ false ∷ []

abbrev only_dation : List Bool
only_dation = false ∷ false ∷ false ∷ false ∷ false ∷ false ∷ true ∷ true ∷ false ∷ false ∷ []

task_names : map (λ sense. is_role name_role.Task (role_of sense)) senses ≡ only_task
task_names = refl

semaphore_names : map (λ sense. is_role name_role.Semaphore (role_of sense)) senses ≡ only_semaphore
semaphore_names = refl

interrupt_names : map (λ sense. is_role name_role.Interrupt (role_of sense)) senses ≡ only_interrupt
interrupt_names = refl

dation_names : map (λ sense. is_role name_role.Dation (role_of sense)) senses ≡ only_dation
dation_names = refl

-- A name that isn't declared, the last, breaks S2 alone.
abbrev sort_told : ℕ → List Bool → List (List RuleFault)
sort_told place well = told (fault place 16) (well ++ true ∷ [])

-- In what follows v is a name of each sort.
-- ACTIVATE v;
activated : parts_with_each_name (λ v. OfActivate None (name v 9) None 0) ≡ sort_told 9 only_task
unfolding names_of_scopes sorted_names
activated = refl

-- CONTINUE v;
continued : parts_with_each_name (λ v. OfContinue None (name v 9) 0) ≡ sort_told 9 only_task
unfolding names_of_scopes sorted_names
continued = refl

-- SUSPEND v;
suspended : parts_with_each_name (λ v. OfOnTask Suspend (Some (name v 8)) 0) ≡ sort_told 8 only_task
unfolding names_of_scopes sorted_names
suspended = refl

-- REQUEST v;
requested : parts_with_each_name (λ v. OfOnSemas Request (name v 8 ∷ []) 0) ≡ sort_told 8 only_semaphore
unfolding names_of_scopes sorted_names
requested = refl

-- TRIGGER v;
triggered : parts_with_each_name (λ v. OfOnInterrupt Trigger (name v 8) 0) ≡ sort_told 8 only_interrupt
unfolding names_of_scopes sorted_names
triggered = refl

-- WHEN v ACTIVATE t;
activated_when : parts_with_each_name (λ v. OfActivate (Some (OfWhen (name v 5) None None 0)) (name "t" 16) None 0) ≡ sort_told 5 only_interrupt
unfolding names_of_scopes sorted_names
activated_when = refl

-- WHEN v RESUME;
resumed_when : parts_with_each_name (λ v. OfResume (OnceWhen (name v 5) 0) 0) ≡ sort_told 5 only_interrupt
unfolding names_of_scopes sorted_names
resumed_when = refl

-- PUT f TO v BY F(3);
put_in_parts : parts_with_each_name (λ v. OfPut (variable "f" 4 ∷ []) (name v 9) (Wide F (number 3 16) 14 ∷ []) 0) ≡ sort_told 9 only_dation
unfolding names_of_scopes sorted_names
put_in_parts = refl

-- GET f FROM v BY F(3);
got_in_parts : parts_with_each_name (λ v. OfGet (reference "f" 4 ∷ []) (name v 11) (Wide F (number 3 18) 16 ∷ []) 0) ≡ sort_told 11 only_dation
unfolding names_of_scopes sorted_names
got_in_parts = refl

-- SEND f TO v;
sent_in_parts : parts_with_each_name (λ v. OfSend (variable "f" 5) (name v 10) 0) ≡ sort_told 10 only_dation
unfolding names_of_scopes sorted_names
sent_in_parts = refl

-- TAKE f FROM v;
taken_in_parts : parts_with_each_name (λ v. OfTake (reference "f" 5) (name v 12) 0) ≡ sort_told 12 only_dation
unfolding names_of_scopes sorted_names
taken_in_parts = refl

-- what is no dation breaks S16 alone
abbrev all_but_alphic : List Bool
all_but_alphic = true ∷ true ∷ true ∷ true ∷ true ∷ true ∷ false ∷ true ∷ true ∷ true ∷ true ∷ []

abbrev all_but_basic : List Bool
all_but_basic = true ∷ true ∷ true ∷ true ∷ true ∷ true ∷ true ∷ false ∷ true ∷ true ∷ true ∷ []

-- PUT f TO v BY F(3);
put : with_each_name (λ v. OfPut (variable "f" 4 ∷ []) (name v 9) (Wide F (number 3 16) 14 ∷ []) 0) ≡ told (fault 9 32) all_but_basic
unfolding names_of_scopes sorted_names
put = refl

-- GET f FROM v BY F(3);
got : with_each_name (λ v. OfGet (reference "f" 4 ∷ []) (name v 11) (Wide F (number 3 18) 16 ∷ []) 0) ≡ told (fault 11 32) all_but_basic
unfolding names_of_scopes sorted_names
got = refl

-- SEND f TO v;
sent : with_each_name (λ v. OfSend (variable "f" 5) (name v 10) 0) ≡ told (fault 10 32) all_but_alphic
unfolding names_of_scopes sorted_names
sent = refl

-- TAKE f FROM v;
taken : with_each_name (λ v. OfTake (reference "f" 5) (name v 12) 0) ≡ told (fault 12 32) all_but_alphic
unfolding names_of_scopes sorted_names
taken = refl

-- SEND x TO e; where x is CHAR and e for FIXED
sent_text : broken (doing (OfSend (variable "x" 5) (name "e" 10) 0)) ≡ fault 10 32 ∷ []
unfolding names_of_scopes sorted_names
sent_text = refl

-- TAKE x FROM e;
taken_text : broken (doing (OfTake (reference "x" 5) (name "e" 12) 0)) ≡ fault 12 32 ∷ []
unfolding names_of_scopes sorted_names
taken_text = refl

-- ALPHIC, and BASIC CHAR(3)
abbrev dations : List (Option Sense)
dations =
    map Some (AlphicDation In ∷ AlphicDation Out ∷ AlphicDation InOut ∷ BasicDation In (Some (kind.Chars 3)) ∷
    BasicDation Out (Some (kind.Chars 3)) ∷ BasicDation InOut (Some (kind.Chars 3)) ∷ [])

no_put : map takes_no_put dations ≡ true ∷ false ∷ false ∷ true ∷ true ∷ true ∷ []
no_put = refl

no_get : map gives_no_get dations ≡ false ∷ true ∷ false ∷ true ∷ true ∷ true ∷ []
no_get = refl

-- a shorter text, and one of the same length
no_send : map (takes_no_send (Some (kind.Chars 2))) dations ≡ true ∷ true ∷ true ∷ true ∷ false ∷ false ∷ []
no_send = refl

no_send_alike : map (takes_no_send (Some (kind.Chars 3))) dations ≡ true ∷ true ∷ true ∷ true ∷ false ∷ false ∷ []
no_send_alike = refl

-- a longer text
no_long_send : map (takes_no_send (Some (kind.Chars 4))) dations ≡ true ∷ true ∷ true ∷ true ∷ true ∷ true ∷ []
no_long_send = refl

-- into a longer text, and one of the same length
no_take : map (gives_no_take (Some (kind.Chars 4))) dations ≡ true ∷ true ∷ true ∷ false ∷ true ∷ false ∷ []
no_take = refl

no_take_alike : map (gives_no_take (Some (kind.Chars 3))) dations ≡ true ∷ true ∷ true ∷ false ∷ true ∷ false ∷ []
no_take_alike = refl

-- into a shorter text
no_short_take : map (gives_no_take (Some (kind.Chars 2))) dations ≡ true ∷ true ∷ true ∷ true ∷ true ∷ true ∷ []
no_short_take = refl

-- what has no kind
no_unknown_send : map (takes_no_send None) dations ≡ true ∷ true ∷ true ∷ true ∷ false ∷ false ∷ []
no_unknown_send = refl

no_unknown_take : map (gives_no_take None) dations ≡ true ∷ true ∷ true ∷ false ∷ true ∷ false ∷ []
no_unknown_take = refl

-- so many names a,b,c,.. with a comma between
abbrev letters : (letter place : ℕ) → ℕ → List Name
letters letter place zero = []
letters letter place (suc n) = record { text = record { items = letter ∷ [] }; place = place } ∷ letters (letter + 1) (place + 2) n

-- DCL (a,b,..,q) SEMA;z:TASK;REQUEST names;END;
abbrev requesting : List Name → List RuleFault
requesting names = broken (source
    (OfDeclare (OfSema (record { names = OfSeveral (letters 97 0 17) 0; preset = []; place = 0 }) ∷ []) 0 ∷
    task (name "z" 0) [] (OfOnSemas Request names 0 ∷ []) ∷ []))

-- REQUEST a,b,..,p;
sixteen : requesting (letters 97 8 16) ≡ []
unfolding names_of_scopes sorted_names
sixteen = refl

-- REQUEST a,b,..,q;
seventeen : requesting (letters 97 8 17) ≡ fault 40 31 ∷ []
unfolding names_of_scopes sorted_names
seventeen = refl

-- REQUEST z,a,b,..,p; where the task counts
seventeen_with_a_task : requesting (name "z" 8 ∷ letters 97 10 16) ≡ fault 40 31 ∷ []
unfolding names_of_scopes sorted_names
seventeen_with_a_task = refl

-- REQUEST a,b,a;
again : requesting (name "a" 8 ∷ name "b" 10 ∷ name "a" 12 ∷ []) ≡ fault 12 31 ∷ []
unfolding names_of_scopes sorted_names
again = refl

-- REQUEST a,b; and REQUEST z,z; where a task breaks S16 alone
two : requesting (name "a" 8 ∷ name "b" 10 ∷ []) ++ requesting (name "z" 8 ∷ name "z" 10 ∷ []) ≡ []
unfolding names_of_scopes sorted_names
two = refl
