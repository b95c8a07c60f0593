-- What a reader answers: what a part gives of the bytes, unless memory ran out.
use Rattle.std.specs.Prelude.{◌≡◌, ℕ, List, Result, Ok, Err}
use Rattle.pearl_fields.specs.declared.fault.ReadFault.{ReadFault}
use Rattle.pearl_fields.specs.declared.fault.ReadFault.TheVariants.{Bad, NoMemory}
use Rattle.std.specs.Global.{Vec}
use Rattle.pearl_fields.specs.Codec.{Seen, Codec}

abbrev pub Fails : {X : Type 0} → Seen X → ReadFault → Type 0
Fails seen (Bad left) = seen ≡ Err left
Fails seen NoMemory = Unit {0}

-- what was read from `old`, leaving `new`, is what the part gives, unless memory ran out
abbrev pub Gives : {X : Type 0} → Seen X → List ℕ → Result X ReadFault → Type 0
Gives seen new (Ok x) = seen ≡ Ok (x, new)
Gives seen new (Err fault) = Fails seen fault

abbrev pub Reads : {X : Type 0} → Codec X → List ℕ → List ℕ → Result X ReadFault → Type 0
Reads part old new result = Gives (part.read old) new result

-- the same, where a list is read
abbrev pub GivesList : {X : Type 0} → Seen (List X) → List ℕ → Result (Vec X) ReadFault → Type 0
GivesList seen new (Ok xs) = seen ≡ Ok (xs.items, new)
GivesList seen new (Err fault) = Fails seen fault

abbrev pub ReadsList : {X : Type 0} → Codec (List X) → List ℕ → List ℕ → Result (Vec X) ReadFault → Type 0
ReadsList part old new result = GivesList (part.read old) new result
