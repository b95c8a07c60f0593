-- How a snapshot is spelled, and what bytes are read as.
use Rattle.std.specs.Prelude.{◌≡◌, ◌⊎◌, ℕ, ◌-◌, ◌<◌, ◌^◌, ◌++◌, nat_lt, take, drop, if◌then◌else◌, List, [], ◌∷◌, length, Result, Ok, Err}
use Rattle.pearl_instructions.specs.declared.object.Parts.{Parts as Object}
use Rattle.pearl_instructions.specs.Lawful.{IsObject}
use Rattle.pearl_fields.specs.declared.fault.ReadFault.{ReadFault}
use Rattle.pearl_fields.specs.declared.fault.ReadFault.TheVariants as fault
use Rattle.pearl_fields.specs.Codec.{◌>>=◌, Seen, Codec, number_bytes, number_read, shaped, pair, exactly, whole_read, IsBytes}
use Rattle.pearl_object.specs.Objects.{object}
use Rattle.pearl_snap.specs.declared.fault.ReadFail.{ReadFail}
use Rattle.pearl_snap.specs.declared.fault.ReadFail.TheVariants.{BadBytes, NoMemory}
use Rattle.pearl_saved.specs.declared.saved.Saved.{Saved}
use Rattle.pearl_snap.specs.declared.snapshot.Snapshot.{Snapshot}
use Rattle.pearl_snap.specs.States.{saved}

-- what all of its bytes were read as, and the bytes behind it; or the field that is blamed
abbrev pub blamed : {X : Type 0} → ℕ → Result X ℕ → List ℕ → Seen X
blamed field (Ok x) rest = Ok (x, rest)
blamed field (Err left) rest = Err field

-- so many bytes of which all are a part
abbrev pub held_in : {X : Type 0} → Codec X → ℕ → ℕ → List ℕ → Seen X
held_in c field count bytes = if nat_lt (length bytes) count then Err 0 else blamed field (whole_read c (take count bytes)) (drop count bytes)

unfoldable pub embedded_read : {X : Type 0} → Codec X → List ℕ → Seen X
embedded_read c bytes = number_read bytes >>= λ n. held_in c (length bytes) n.0 n.1

-- a part behind the number of its bytes; where those aren't a part's, that number is blamed
abbrev pub embedded : {X : Type 0} → Codec X → Codec X
embedded c = record {
  bytes = λ x. number_bytes (length (c.bytes x)) ++ c.bytes x;
  fits = λ x. (length (c.bytes x) < 2 ^ 64) × c.fits x;
  read = embedded_read c;
}

-- `PRS1`
abbrev pub front : List ℕ
front = 80 ∷ 82 ∷ 83 ∷ 49 ∷ []

unfoldable pub snapshot : Codec Snapshot
snapshot =
    shaped (λ s. (tt, (s.object, s.saved))) (λ p. record { object = p.1.0; saved = p.1.1 })
    (pair (exactly front) (λ x. pair (embedded object) (λ o. saved)))

-- the one spelling of an object and a state
abbrev pub snapshot_bytes : Object → Saved → List ℕ
snapshot_bytes o s = snapshot.bytes (record { object = o; saved = s })

-- ---- answers

-- what all of the bytes were read as, or how many there are from the first bad field on
abbrev pub GivesWhole : Result Snapshot ℕ → Result Snapshot ReadFault → Type 0
GivesWhole seen (Ok s) = seen ≡ Ok s
GivesWhole seen (Err (fault.Bad left)) = seen ≡ Err left
GivesWhole seen (Err fault.NoMemory) = Unit {0}

-- the answer is this, unless memory ran out
abbrev pub IsThis : Snapshot → Result Snapshot ReadFail → Type 0
IsThis s (Ok t) = t ≡ s
IsThis s (Err (BadBytes place)) = ⊥
IsThis s (Err NoMemory) = Unit {0}

-- what these bytes are read as is a snapshot, or they end before a field or within one
abbrev pub IsFaultless : Result Snapshot ℕ → Type 0
IsFaultless seen = (seen ≡ Err 0) ⊎ ((s : Snapshot) × (seen ≡ Ok s))

-- the place is that of the first bad field, or how many bytes there are where they end before a field or within one: no field
-- before the place is bad, and where one is bad, no snapshot's bytes begin with these
abbrev pub IsBadAt : List ℕ → ℕ → Type 0
IsBadAt bytes place =
    (left : ℕ) × (whole_read snapshot bytes ≡ Err left) × (place ≡ length bytes - left)
    × IsFaultless (whole_read snapshot (take place bytes))
    × (0 < left → (s : Snapshot) (more : List ℕ) → IsObject s.object → saved.fits s.saved → IsBytes more → snapshot_bytes s.object s.saved ≡ bytes ++ more → ⊥)

abbrev pub IsBad : List ℕ → Result Snapshot ReadFail → Type 0
IsBad bytes (Ok s) = Unit {0}
IsBad bytes (Err NoMemory) = Unit {0}
IsBad bytes (Err (BadBytes place)) = IsBadAt bytes place
