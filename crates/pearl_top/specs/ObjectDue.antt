-- What is due at an object's file: for an object that is executed, and for one that is listed.
use Rattle.std.specs.Prelude.{◌≡◌, ℕ, ◌≤◌, ◌⊎◌, List, length, Err}
use Rattle.pearl_instructions.specs.declared.object.Parts.{Parts as Object}
use Rattle.pearl_instructions.specs.Lawful.{IsObject}
use Rattle.pearl_instructions.specs.Valid.{IsValid}
use Rattle.pearl_fields.specs.Codec.{IsBytes}
use Rattle.pearl_object.specs.declared.fault.ReadFail.TheVariants as read
use Rattle.pearl_object.specs.Listing.{listing_of}
use Rattle.pearl_object.specs.Objects.{IsBad, object_bytes}
use Rattle.pearl_script.specs.declared.refusal.Refusal.TheVariants as refusal
use Rattle.pearl_script.specs.Refusals.{refusal_line}
use Rattle.pearl_verify.specs.declared.verify.VerifyFault.TheVariants as fault
use Rattle.pearl_verify.specs.Verdicts.{IsLeast}
use Rattle.pearl_top.specs.declared.limits.TheConstants.{OBJECT_LIMIT}
use Rattle.pearl_top.specs.declared.status.Status.{Status}
use Rattle.pearl_top.specs.JournalDue.{DueFrom}
use Rattle.pearl_top.specs.Reading.{AnObject, DueAt}
use Rattle.pearl_top.specs.Runners.{by_code}

-- a file has these bytes, within the limit, and they are those of this object
pub record IsFileOf (file : List ℕ) (o : Object) : Type 0 where
  pub within : length file ≤ OBJECT_LIMIT
  pub in_bytes : IsBytes file
  pub lawful : IsObject o
  pub spelled : file ≡ object_bytes o

-- and no rule of the validator fails in it
pub record IsCodeOf (file : List ℕ) (o : Object) : Type 0 where
  pub is : IsFileOf file o
  pub valid : IsValid o

-- no object has the bytes of a file, within the limit, and this is the line of the place of the first bad field
pub record IsNoObject (file bytes : List ℕ) : Type 0 where
  pub within : length file ≤ OBJECT_LIMIT
  pub none : (o : Object) → IsObject o → file ≡ object_bytes o → ⊥
  pub place : ℕ
  pub bad : IsBad file (Err (read.BadObject place))
  pub text : bytes ≡ refusal_line (refusal.Object place)

-- they are those of an object in which a rule of the validator fails, and this is the line of the first one: of the least routine,
-- there of the least instruction, and there of the least rule
pub record IsUnsound (file bytes : List ℕ) : Type 0 where
  pub o : Object
  pub is : IsFileOf file o
  pub routine : ℕ
  pub instruction : ℕ
  pub rule : ℕ
  pub least : IsLeast o (fault.Unsound routine instruction rule)
  pub text : bytes ≡ refusal_line (refusal.Unsound routine instruction rule)

-- they are no object's, or a rule fails in it
abbrev pub IsRefused : List ℕ → List ℕ → Type 0
IsRefused file bytes = IsNoObject file bytes ⊎ IsUnsound file bytes

-- what is due at an object that is executed, with which no command is done: the line of what is wrong with it
abbrev pub ObjectDue : List ℕ → Type 0 → Status → List ℕ → Type 0
ObjectDue file = DueAt AnObject file (λ bytes. ⊥) (IsRefused file)

-- what is due at the object, or where it is valid at the journal, of its own machine
abbrev pub ExecDue : List ℕ → List ℕ → (object_rose journal_rose : Type 0) → Status → List ℕ → Type 0
ExecDue file = DueFrom AnObject file (IsRefused file) (IsCodeOf file) by_code

-- this is the listing of an object, whatever rules fail in it
pub record IsListed (file bytes : List ℕ) : Type 0 where
  pub o : Object
  pub is : IsFileOf file o
  pub text : bytes ≡ listing_of o

-- what is due at an object that is listed: its listing, or a refusal
abbrev pub ListDue : List ℕ → Type 0 → Status → List ℕ → Type 0
ListDue file = DueAt AnObject file (IsListed file) (IsNoObject file)
