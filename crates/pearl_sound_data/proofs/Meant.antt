-- What names mean has what all that is in the table has.
use Rattle.std.specs.Prelude.{ℕ, zero, suc, List, [], ◌∷◌, Option, Some, None, option_map, slice_get}
use Rattle.std.specs.Option.{option_and_then}
use Rattle.std.specs.List.{AllByRecursion}
use Rattle.pearl_tree.specs.declared.name.Name.{Name}
use Rattle.pearl_tree.specs.Names.{name_text}
use Rattle.pearl_names.specs.declared.meaning.Found.{Found}
use Rattle.pearl_names.specs.declared.scope.View.{View}
use Rattle.pearl_names.specs.Found.{found_from}
use Rattle.pearl_names.specs.Tables.{Sense, sense_at}
use Rattle.pearl_resolve.specs.Expressions.{Numbered, Meant, number_at, meant_at, meant}
use Rattle.pearl_sound_data.proofs.Shapes.{IfThere}

pub there_at : {X : Type 0} (P : X → Type 0) (xs : List X) (n : ℕ) → AllByRecursion P xs → IfThere P (slice_get xs n)
there_at P [] n all = tt
there_at P (x ∷ xs) zero all = all.0
there_at P (x ∷ xs) (suc n) all = there_at P xs n all.1

-- what a name means
abbrev pub ThingIs : (Sense → Type 0) → Meant → Type 0
ThingIs P thing = P thing.sense

module _ (P : Sense → Type 0) (numbered : Numbered) (all : AllByRecursion (AllByRecursion P) numbered.table.senses) where
  in_scope : (entry : ℕ) (senses : Option (List Sense)) → IfThere (AllByRecursion P) senses →
      IfThere P (option_and_then (λ names. slice_get names entry) senses)
  in_scope entry None all = tt
  in_scope entry (Some senses) all = there_at P senses entry all

  numbered_so : (found : Found) (sense : Option Sense) → IfThere P sense →
      IfThere (ThingIs P) (option_map (λ (sense : Sense). record { sense = sense; scope = found.scope; number = number_at numbered.numbers found }) sense)
  numbered_so found None has = tt
  numbered_so found (Some sense) has = has

  found_so : (found : Option Found) → IfThere (ThingIs P) (option_and_then (meant_at numbered) found)
  found_so None = tt
  found_so (Some found) =
      numbered_so found (sense_at numbered.table.senses found)
      (in_scope found.entry (slice_get numbered.table.senses found.scope) (there_at (AllByRecursion P) numbered.table.senses found.scope all))

  pub meant_so : (view : View) (name : Name) → IfThere (ThingIs P) (meant numbered view name)
  meant_so view name = found_so (found_from numbered.table.names view (name_text name))
