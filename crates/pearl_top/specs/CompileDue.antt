-- What is due for a source that is compiled: the bytes of any object that does what it means.
use Rattle.std.specs.Prelude.{◌≡◌, ℕ, List}
use Rattle.pearl_program.specs.PlainPrograms.{PlainProg}
use Rattle.pearl_instructions.specs.declared.object.Parts.{Parts as Object}
use Rattle.pearl_faithful.specs.Faithful.{IsFaithfulTo}
use Rattle.pearl_object.specs.Objects.{object_bytes}
use Rattle.pearl_top.specs.declared.status.Status.{Status}
use Rattle.pearl_top.specs.CheckDue.{IsUnaccepted}
use Rattle.pearl_top.specs.Reading.{DueAtSource}
use Rattle.pearl_top.specs.RunDue.{IsSource}

-- the object is valid and does what the source means
pub record IsObjectOf (source : List ℕ) (o : Object) : Type 0 where
  pub p : PlainProg
  pub is_source : IsSource source p
  pub faithful : IsFaithfulTo p o

-- these are the bytes of such an object
pub record IsCompiled (source bytes : List ℕ) : Type 0 where
  pub o : Object
  pub is : IsObjectOf source o
  pub text : bytes ≡ object_bytes o

-- what is due at a source that is compiled: such bytes, or a refusal
abbrev pub CompileDue : List ℕ → Type 0 → Status → List ℕ → Type 0
CompileDue source = DueAtSource source (IsCompiled source) (IsUnaccepted source)
