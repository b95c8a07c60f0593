-- Laws of what a sink took, for calls that write one part after another.
use Rattle.std.proofs.Common.{◌≡◌, ◌≢◌, ◌⊎◌, ℕ, List, [], ◌∷◌, ◌++◌, Option, Some, None, Result, Ok, Err, length, take, drop, refl, ap, sym, inl, inr, ◌∙◌, subst, arith, append_assoc, length-append, length-drop}
use Rattle.std.proofs.lemmas.List.{take-append-drop}
use Rattle.std.specs.Prelude.{OnErr, OnOk}
use Rattle.pearl_io.specs.Outside.{Takes, TakesFront}
use Rattle.pearl_io.proofs.Offered.{takes_more}
use Rattle.pearl_script.specs.Refusals.{refusal_line}
use Rattle.pearl_top.specs.declared.failure.Failure.{Failure}
use Rattle.pearl_top.specs.declared.failure.Failure.TheVariants as failure
use Rattle.pearl_top.specs.declared.status.Status.{Status}
use Rattle.pearl_top.specs.declared.status.Status.TheVariants.{Done, Usage, Refused, BadObject, BadJournal, ReadFault, WriteFault, NoMemory, TooLong, BadName}
use Rattle.pearl_top.specs.Failures.{IsDue}
use Rattle.pearl_top.specs.Status.{status_of}
use Rattle.pearl_top.specs.Taken.{Finishes, Stops, Ends, OnlyDue, Leaves, Concludes}

pub append_nil : {A : Type 0} (xs : List A) → xs ++ [] ≡ xs
append_nil [] = refl
append_nil (x ∷ xs) = ap (λ ys. x ∷ ys) (append_nil xs)

-- nothing was taken
pub takes_none : (old : Option (List ℕ)) → Takes old old []
takes_none None = refl
takes_none (Some bytes) = ap Some (sym (append_nil bytes))

-- AN ANSWER

-- what is said of an answer, said otherwise
pub on_ok : {A E : Type 0} (r : Result A E) (P Q : Type 0) → (P → Q) → OnOk r P → OnOk r Q
on_ok (Ok x) P Q otherwise is = otherwise is
on_ok (Err e) P Q otherwise is = tt

pub on_err : {A E : Type 0} (r : Result A E) (P Q : Type 0) → (P → Q) → OnErr r P → OnErr r Q
on_err (Ok x) P Q otherwise is = tt
on_err (Err e) P Q otherwise is = otherwise is

pub on_any : {A E : Type 0} (r : Result A E) (P : Type 0) → P → OnOk r P
on_any (Ok x) P is = is
on_any (Err e) P is = tt

-- A FRONT

-- some bytes were taken, then a front of some more, and not all that is due
pub stops_in : (old mid new : Option (List ℕ)) (due : Status → List ℕ → Type 0) (status : Status) (first piece rest : List ℕ) →
    due status (first ++ (piece ++ rest)) → Takes old mid first → TakesFront mid new piece → Stops old new due
stops_in old mid new due status first piece rest is_due before after =
    let joined : take after.0 piece ++ (drop after.0 piece ++ rest) ≡ piece ++ rest = rw (← append_assoc) (rw take-append-drop refl) in record {
      status = status;
      front = first ++ take after.0 piece;
      rest = drop after.0 piece ++ rest;
      is_due = subst (due status) (ap (λ bytes. first ++ bytes) (sym joined) ∙ sym (append_assoc first (take after.0 piece) (drop after.0 piece ++ rest))) is_due;
      more = λ none. absurd (omega (arith, after.1, length-drop after.0 piece, simp length-append at (ap length none)));
      taken = takes_more old mid new first (take after.0 piece) before after.2;
    }

-- a front was taken of some bytes that are due, perhaps with more behind them
pub stops_short : (old new : Option (List ℕ)) (due : Status → List ℕ → Type 0) (status : Status) (piece rest : List ℕ) → due status (piece ++ rest) →
    TakesFront old new piece → Stops old new due
stops_short old new due status piece rest is_due front = stops_in old old new due status [] piece rest is_due (takes_none old) front

-- WHAT IS DUE TOLD OTHERWISE

finishes_as : (old new : Option (List ℕ)) (due told : List ℕ → Type 0) → ((bytes : List ℕ) → due bytes → told bytes) → Finishes old new due →
    Finishes old new told
finishes_as old new due told otherwise ends = record { bytes = ends.bytes; is_due = otherwise ends.bytes ends.is_due; taken = ends.taken }

stops_as : (old new : Option (List ℕ)) (due told : Status → List ℕ → Type 0) → ((s : Status) (bytes : List ℕ) → due s bytes → told s bytes) →
    Stops old new due → Stops old new told
stops_as old new due told otherwise ends = record {
  status = ends.status;
  front = ends.front;
  rest = ends.rest;
  is_due = otherwise ends.status (ends.front ++ ends.rest) ends.is_due;
  more = ends.more;
  taken = ends.taken;
}

pub leaves_as : (old new : Option (List ℕ)) (failed : Type 0) (due told : Status → List ℕ → Type 0) (ended : Result (Unit {0}) Failure) →
    ((s : Status) (bytes : List ℕ) → due s bytes → told s bytes) → Leaves old new failed due ended → Leaves old new failed told ended
leaves_as old new failed due told (Ok done) otherwise leaves = finishes_as old new (due Done) (told Done) (otherwise Done) leaves
leaves_as old new failed due told (Err (failure.Refused refusal)) otherwise leaves =
    finishes_as old new (λ bytes. due (status_of refusal) (bytes ++ refusal_line refusal)) (λ bytes. told (status_of refusal) (bytes ++ refusal_line refusal))
    (λ bytes. otherwise (status_of refusal) (bytes ++ refusal_line refusal)) leaves
leaves_as old new failed due told (Err failure.WriteFault) otherwise leaves = (leaves.0, stops_as old new due told otherwise leaves.1)

pub is_due_as : (due told : Status → List ℕ → Type 0) (why : Failure) → ((s : Status) (bytes : List ℕ) → due s bytes → told s bytes) → IsDue due why →
    IsDue told why
is_due_as due told (failure.Refused refusal) otherwise is_due = otherwise (status_of refusal) (refusal_line refusal) is_due
is_due_as due told failure.WriteFault otherwise is_due = is_due

-- a failure before anything was written
pub leaves_due : (old : Option (List ℕ)) (failed : Type 0) (due : Status → List ℕ → Type 0) (why : Failure) → IsDue due why → Leaves old old failed due (Err why)
leaves_due old failed due (failure.Refused refusal) is_due = record { bytes = []; is_due = is_due; taken = takes_none old }
leaves_due old failed due failure.WriteFault is_due = absurd is_due

-- THE END OF A CALL

-- a status with which all that is due is taken
finishes_with : (old new : Option (List ℕ)) (due : Status → List ℕ → Type 0) (status : Status) → status ≢ WriteFault → Finishes old new (due status) →
    Ends old new due status
finishes_with old new due Done free done = done
finishes_with old new due Usage free done = done
finishes_with old new due Refused free done = done
finishes_with old new due BadObject free done = done
finishes_with old new due BadJournal free done = done
finishes_with old new due ReadFault free done = done
finishes_with old new due WriteFault free done = absurd (free refl)
finishes_with old new due NoMemory free done = done
finishes_with old new due TooLong free done = done
finishes_with old new due BadName free done = done

-- and the other way round
pub finishes_of : (old new : Option (List ℕ)) (due : Status → List ℕ → Type 0) (status : Status) → status ≢ WriteFault → Ends old new due status →
    Finishes old new (due status)
finishes_of old new due Done free ends = ends
finishes_of old new due Usage free ends = ends
finishes_of old new due Refused free ends = ends
finishes_of old new due BadObject free ends = ends
finishes_of old new due BadJournal free ends = ends
finishes_of old new due ReadFault free ends = ends
finishes_of old new due WriteFault free ends = absurd (free refl)
finishes_of old new due NoMemory free ends = ends
finishes_of old new due TooLong free ends = ends
finishes_of old new due BadName free ends = ends

is_write_fault : (status : Status) → (status ≡ WriteFault) ⊎ (status ≢ WriteFault)
is_write_fault Done = inr (λ e. cc)
is_write_fault Usage = inr (λ e. cc)
is_write_fault Refused = inr (λ e. cc)
is_write_fault BadObject = inr (λ e. cc)
is_write_fault BadJournal = inr (λ e. cc)
is_write_fault ReadFault = inr (λ e. cc)
is_write_fault WriteFault = inl refl
is_write_fault NoMemory = inr (λ e. cc)
is_write_fault TooLong = inr (λ e. cc)
is_write_fault BadName = inr (λ e. cc)

pub ends_as : (old new : Option (List ℕ)) (due told : Status → List ℕ → Type 0) (status : Status) → ((s : Status) (bytes : List ℕ) → due s bytes → told s bytes) →
    Ends old new due status → Ends old new told status
ends_as old new due told status otherwise ends = by (is_write_fault status)
  where
    by : (status ≡ WriteFault) ⊎ (status ≢ WriteFault) → Ends old new told status
    by (inl e) = subst (λ s. Ends old new told s) (sym e) (stops_as old new due told otherwise (subst (λ s. Ends old new due s) e ends))
    by (inr free) = finishes_with old new told status free
        (finishes_as old new (due status) (told status) (otherwise status) (finishes_of old new due status free ends))

-- a front was taken of the one line that is due
pub just_short : (old new : Option (List ℕ)) (status : Status) (line piece : List ℕ) → piece ≡ line → TakesFront old new piece →
    Ends old new (OnlyDue status line) WriteFault
just_short old new status line piece same taken = stops_short old new (OnlyDue status line) status piece [] (refl, append_nil piece ∙ same) taken

stops_after : (old mid new : Option (List ℕ)) (due : Status → List ℕ → Type 0) (first line : List ℕ) (at : Status) → Takes old mid first →
    due at (first ++ line) → Stops mid new (OnlyDue at line) → Stops old new due
stops_after old mid new due first line at before is_due ends = record {
  status = at;
  front = first ++ ends.front;
  rest = ends.rest;
  is_due = subst (due at) (ap (λ bytes. first ++ bytes) (sym ends.is_due.1) ∙ sym (append_assoc first ends.front ends.rest)) is_due;
  more = ends.more;
  taken = takes_more old mid new first ends.front before ends.taken;
}

finishes_after : (old mid new : Option (List ℕ)) (due : Status → List ℕ → Type 0) (first line : List ℕ) (at status : Status) → Takes old mid first →
    due at (first ++ line) → Finishes mid new (OnlyDue at line status) → Finishes old new (due status)
finishes_after old mid new due first line at status before is_due done = record {
  bytes = first ++ done.bytes;
  is_due = subst (λ s. due s (first ++ done.bytes)) (sym done.is_due.0) (subst (λ bytes. due at (first ++ bytes)) (sym done.is_due.1) is_due);
  taken = takes_more old mid new first done.bytes before done.taken;
}

-- the one line was taken, or a front of it, after bytes with which it is due
ends_after : (old mid new : Option (List ℕ)) (due : Status → List ℕ → Type 0) (first line : List ℕ) (at status : Status) → Takes old mid first →
    due at (first ++ line) → Ends mid new (OnlyDue at line) status → Ends old new due status
ends_after old mid new due first line at status before is_due ends = by (is_write_fault status)
  where
    by : (status ≡ WriteFault) ⊎ (status ≢ WriteFault) → Ends old new due status
    by (inl e) = subst (λ s. Ends old new due s) (sym e)
        (stops_after old mid new due first line at before is_due (subst (λ s. Ends mid new (OnlyDue at line) s) e ends))
    by (inr free) = finishes_with old new due status free
        (finishes_after old mid new due first line at status before is_due (finishes_of mid new (OnlyDue at line) status free ends))

-- what the call took is due with its status, since what its command left was due
pub concluded : (old mid new : Option (List ℕ)) (failed : Type 0) (due : Status → List ℕ → Type 0) (ended : Result (Unit {0}) Failure) (status : Status) →
    Leaves old mid failed due ended → Concludes mid new ended status → Ends old new due status
concluded old mid new failed due (Ok done) status leaves ends =
    subst (λ s. Ends old new due s) (sym ends.0) (subst (λ n. Finishes old n (due Done)) (sym ends.1) leaves)
concluded old mid new failed due (Err (failure.Refused refusal)) status leaves ends =
    ends_after old mid new due leaves.bytes (refusal_line refusal) (status_of refusal) status leaves.taken leaves.is_due ends
concluded old mid new failed due (Err failure.WriteFault) status leaves ends =
    subst (λ s. Ends old new due s) (sym ends.0) (subst (λ n. Stops old n due) (sym ends.1) leaves.1)
