-- What is due at an object, from how it was read and validated.
use Rattle.std.proofs.Common.{◌≡◌, ◌≤◌, ℕ, List, Err, length, refl, sym, ◌∙◌, inl, inr}
use Rattle.std.proofs.lemmas.Option.{none-some}
use Rattle.pearl_instructions.specs.declared.object.Parts.{Parts as Object}
use Rattle.pearl_instructions.specs.Lawful.{IsObject}
use Rattle.pearl_instructions.specs.Valid.{IsValid}
use Rattle.pearl_object.specs.declared.fault.ReadFail.{ReadFail}
use Rattle.pearl_object.specs.declared.fault.ReadFail.TheVariants as read
use Rattle.pearl_object.specs.Objects.{IsBad, IsThis, object_bytes}
use Rattle.pearl_verify.specs.declared.verify.VerifyFault.{VerifyFault}
use Rattle.pearl_verify.specs.declared.verify.VerifyFault.TheVariants as verify
use Rattle.pearl_verify.specs.Verdicts.{IsLeast}
use Rattle.pearl_top.specs.declared.failure.Failure.{Failure}
use Rattle.pearl_top.specs.declared.failure.Failure.TheVariants as failure
use Rattle.pearl_top.specs.declared.limits.TheConstants.{OBJECT_LIMIT}
use Rattle.pearl_top.specs.Failures.{IsDue, read_refusal, verify_refusal}
use Rattle.pearl_top.specs.ObjectDue.{IsFileOf, IsListed, IsNoObject, IsRefused, ListDue, ObjectDue}
use Rattle.pearl_top.specs.Reading.{AnObject, DueAt}
use Rattle.pearl_top.specs.RunDue.{SourceDue}
use Rattle.pearl_top.proofs.FileLaws.{at_file_as}
use Rattle.pearl_top.proofs.TakenLaws.{is_due_as}

-- the bytes are no object's
pub unreadable : (file : List ℕ) (fault : ReadFail) → length file ≤ OBJECT_LIMIT → ((o : Object) → IsObject o → file ≡ object_bytes o → IsThis o (Err fault)) →
    IsBad file (Err fault) → IsDue (DueAt AnObject file (λ bytes. ⊥) (IsNoObject file) ⊥) (failure.Refused (read_refusal fault))
unreadable file (read.BadObject place) within only bad = record { within = within; none = only; place = place; bad = bad; text = refl }
unreadable file read.NoMemory within only bad = refl

-- so it is also where the object is to be executed, and where it is to be listed
pub unexecuted : (file : List ℕ) (why : Failure) → IsDue (DueAt AnObject file (λ bytes. ⊥) (IsNoObject file) ⊥) why → IsDue (ObjectDue file ⊥) why
unexecuted file why =
    is_due_as (DueAt AnObject file (λ bytes. ⊥) (IsNoObject file) ⊥) (ObjectDue file ⊥) why
    (λ s bytes. at_file_as AnObject file (λ b. ⊥) (IsNoObject file) (λ b. ⊥) (IsRefused file) ⊥ ⊥ s bytes (λ b h. h) (λ b lacks. inl lacks) (λ h. h))

pub unlisted : (file : List ℕ) (why : Failure) → IsDue (DueAt AnObject file (λ bytes. ⊥) (IsNoObject file) ⊥) why → IsDue (ListDue file ⊥) why
unlisted file why =
    is_due_as (DueAt AnObject file (λ bytes. ⊥) (IsNoObject file) ⊥) (ListDue file ⊥) why
    (λ s bytes. at_file_as AnObject file (λ b. ⊥) (IsNoObject file) (IsListed file) (IsNoObject file) ⊥ ⊥ s bytes (λ b h. absurd h) (λ b lacks. lacks) (λ h. h))

-- a rule fails in it
pub invalid : (file : List ℕ) (o : Object) (fault : VerifyFault) → IsFileOf file o → IsLeast o fault → IsDue (ObjectDue file ⊥) (failure.Refused (verify_refusal fault))
invalid file o (verify.Unsound routine instruction rule) is least =
    inr (record { o = o; is = is; routine = routine; instruction = instruction; rule = rule; least = least; text = refl })
invalid file o verify.NoMemory is least = refl

-- no rule fails in a valid object, so memory is out
pub only_memory : (source : List ℕ) (o : Object) (fault : VerifyFault) → IsValid o → IsLeast o fault → IsDue (SourceDue source ⊥) (failure.Refused (verify_refusal fault))
only_memory source o (verify.Unsound routine instruction rule) valid least = absurd (none-some rule (sym (valid.sound routine instruction) ∙ least.0))
only_memory source o verify.NoMemory valid least = refl
