-- How an object is spelled, and what bytes are read as.
use Rattle.std.specs.Prelude.{◌≡◌, ◌⊎◌, ℕ, ◌+◌, ◌-◌, ◌<◌, ◌++◌, take, Bool, not, ◌&&◌, ◌||◌, ◌==◌, nat_lt, if◌then◌else◌, List, [], ◌∷◌, length, Option, Some, None, Result, Ok, Err}
use Rattle.std.specs.Char.{is_ascii_alphabetic}
use Rattle.std.specs.List.{list_all}
use Rattle.std.specs.Str.{bytes_eq}
use Rattle.arrayvec.specs.ArrayVec.{ArrayVec}
use Rattle.pearl_value.specs.declared.kind.Kind.{Kind}
use Rattle.pearl_value.specs.declared.kind.Kind.TheVariants as kinds
use Rattle.pearl_value.specs.declared.device.Device.{Device}
use Rattle.pearl_value.specs.Names.{is_name_byte}
use Rattle.pearl_format.specs.declared.item.Item.{Item}
use Rattle.pearl_tree.specs.Words.{words}
use Rattle.pearl_instructions.specs.declared.object.Leaf.{Leaf}
use Rattle.pearl_instructions.specs.declared.object.Code.{Code}
use Rattle.pearl_instructions.specs.declared.object.Procedure.{Procedure}
use Rattle.pearl_instructions.specs.declared.object.Task.{Task}
use Rattle.pearl_instructions.specs.declared.object.Parts.{Parts}
use Rattle.pearl_instructions.specs.Lawful.{IsObject}
use Rattle.pearl_fields.specs.declared.fault.ReadFault.{ReadFault}
use Rattle.pearl_fields.specs.declared.fault.ReadFault.TheVariants as fault
use Rattle.pearl_fields.specs.Reads.{Fails}
use Rattle.pearl_fields.specs.Codec.{Seen, Codec, number, number_in, byte, nothing, shaped, pair, tagged, rolled, exactly, whole_read, IsBytes}
use Rattle.pearl_object.specs.declared.fault.ReadFail.{ReadFail}
use Rattle.pearl_object.specs.declared.fault.ReadFail.TheVariants.{BadObject, NoMemory}
use Rattle.pearl_object.specs.Lists.{each_in}
use Rattle.pearl_object.specs.Kinds.{kind}
use Rattle.pearl_object.specs.Operands.{flag}
use Rattle.pearl_object.specs.Codes.{code}
use Rattle.pearl_object.specs.Tables.{devices, semaphores, leaves, formats}

-- ---- procedures

abbrev pub result_tag : Option Kind → ℕ
result_tag None = 0
result_tag (Some of) = 1

abbrev pub result_kind : Option Kind → Kind
result_kind None = kinds.Clock
result_kind (Some of) = of

abbrev pub result_arms : List (Codec (Option Kind))
result_arms = nothing None ∷ shaped result_kind Some (kind None) ∷ []

unfoldable pub result_of : Codec (Option Kind)
result_of = tagged 0 result_tag result_arms

abbrev pub procedure_fields : Procedure → ℕ × (Option Kind × Code)
procedure_fields p = (p.params, (p.result, p.code))

abbrev pub made_procedure : ℕ × (Option Kind × Code) → Procedure
made_procedure p = record { params = p.0; result = p.1.0; code = p.1.1 }

unfoldable pub procedure : Codec Procedure
procedure =
    shaped procedure_fields made_procedure (pair number (λ params. pair result_of (λ of. code params)))

-- ---- tasks

-- none of the language's words
unfoldable pub is_no_word : List ℕ → Bool
is_no_word text = list_all (λ row. not (bytes_eq row.0 text)) words

-- what is known at a letter of a name: those before it, and how many the name has
pub record Letter : Type 0 where
  pub before : List ℕ
  pub count : ℕ

-- a name begins with a letter, and goes on with letters, digits and `_`
abbrev pub is_next_letter : Bool → ℕ → Bool
is_next_letter first b = if first then is_ascii_alphabetic b else is_name_byte b

-- the last letter is refused where it makes a word of the name
abbrev pub may_follow : Letter → ℕ → Bool
may_follow state b =
    is_next_letter (length state.before == 0) b && (nat_lt (length state.before + 1) state.count || is_no_word (state.before ++ b ∷ []))

abbrev pub letter : Letter → Codec ℕ
letter state = byte (may_follow state)

abbrev pub first_letter : ℕ → Letter
first_letter count = record { before = []; count = count }

abbrev pub after_letter : Letter → ℕ → Letter
after_letter state b = record { before = state.before ++ b ∷ []; count = state.count }

abbrev pub name_letters : ℕ → Codec (List ℕ)
name_letters n = rolled (λ b. b ∷ []) letter after_letter (first_letter n) n

-- how many letters it has, and they
unfoldable pub name : Codec (List ℕ)
name = shaped (λ text. (length text, text)) (λ p. p.1) (pair (number_in 1 63) name_letters)

abbrev pub task_fields : Task → List ℕ × (ℕ × (Bool × Code))
task_fields t = (t.name.items, (t.priority, (t.main, t.code)))

abbrev pub made_task : List ℕ × (ℕ × (Bool × Code)) → Task
made_task p = record { name = record { items = p.0 }; priority = p.1.0; main = p.1.1.0; code = p.1.1.1 }

unfoldable pub task : Codec Task
task =
    shaped task_fields made_task
    (pair name (λ text. pair (number_in 1 255) (λ priority. pair flag (λ main. code 0))))

-- what the reading of a name gives
abbrev pub ReadsName : Seen (List ℕ) → List ℕ → Result (ArrayVec ℕ) ReadFault → Type 0
ReadsName seen new (Ok text) = seen ≡ Ok (text.items, new)
ReadsName seen new (Err fault) = Fails seen fault

-- ---- objects

-- `PRL1`
abbrev pub front : List ℕ
front = 80 ∷ 82 ∷ 76 ∷ 49 ∷ []

abbrev pub Tables : Type 0
Tables = List Device × (List ℕ × (List Leaf × (List (List Item) × (List Procedure × List Task))))

abbrev pub object_fields : Parts → Tables
object_fields o = (o.devices, (o.semaphores, (o.leaves, (o.formats, (o.procedures, o.tasks)))))

abbrev pub made_object : Tables → Parts
made_object p = record {
  devices = p.0;
  semaphores = p.1.0;
  leaves = p.1.1.0;
  formats = p.1.1.1.0;
  procedures = p.1.1.1.1.0;
  tasks = p.1.1.1.1.1;
}

unfoldable pub parts : Codec Parts
parts =
    shaped object_fields made_object
    (pair devices (λ ds. pair semaphores (λ ss. pair leaves (λ vs. pair formats (λ fs. pair (each_in 0 200 procedure) (λ ps. each_in 0 200 task))))))

unfoldable pub object : Codec Parts
object = shaped (λ o. (tt, o)) (λ p. p.1) (pair (exactly front) (λ x. parts))

abbrev pub object_bytes : Parts → List ℕ
object_bytes o = object.bytes o

-- ---- answers

-- what all of the bytes were read as, or how many there are from the first bad field on
abbrev pub GivesWhole : Result Parts ℕ → Result Parts ReadFault → Type 0
GivesWhole seen (Ok o) = seen ≡ Ok o
GivesWhole seen (Err (fault.Bad left)) = seen ≡ Err left
GivesWhole seen (Err fault.NoMemory) = Unit {0}

-- the answer is this object, unless memory ran out
abbrev pub IsThis : Parts → Result Parts ReadFail → Type 0
IsThis o (Ok p) = p ≡ o
IsThis o (Err (BadObject place)) = ⊥
IsThis o (Err NoMemory) = Unit {0}

-- what these bytes are read as is an object, or they end before a field or within one
abbrev pub IsFaultless : Result Parts ℕ → Type 0
IsFaultless seen = (seen ≡ Err 0) ⊎ ((o : Parts) × (seen ≡ Ok o))

-- the answer is the place of the first bad field, or how many bytes there are where they end before a field or within one:
-- no field before the place is bad, and where one is bad, no object's bytes begin with these
abbrev pub IsBad : List ℕ → Result Parts ReadFail → Type 0
IsBad bytes (Ok o) = Unit {0}
IsBad bytes (Err NoMemory) = Unit {0}
IsBad bytes (Err (BadObject place)) =
    (left : ℕ) × (whole_read object bytes ≡ Err left) × (place ≡ length bytes - left)
    × IsFaultless (whole_read object (take place bytes))
    × (0 < left → (o : Parts) (more : List ℕ) → IsObject o → IsBytes more → object_bytes o ≡ bytes ++ more → ⊥)
