-- What is found in numbers and senses that are held in memory.
use Rattle.std.proofs.Common.{◌≡◌, List, Option, Some, None, option_map, refl, ap}
use Rattle.pearl_names.specs.declared.meaning.Found.{Found}
use Rattle.pearl_names.specs.declared.sense.Sense.{Sense as HeldSense}
use Rattle.pearl_names.specs.declared.types.StructForm.{StructForm}
use Rattle.pearl_names.specs.Holding.{HoldsFound, HoldsSense}
use Rattle.pearl_names.specs.Tables.{Sense, sense_at}
use Rattle.pearl_resolve.specs.Expressions.{Numbered, meant_at, number_at}

-- what a name means whose sense is held in memory
pub record MeantSo (forms : List StructForm) (of : Numbered) (found : Found) (sense : HeldSense) : Type 0 where
  pub meant : Sense
  pub holds : HoldsSense forms sense meant
  pub is : meant_at of found ≡ Some (record { sense = meant; scope = found.scope; number = number_at of.numbers found })

pub meant_so : (forms : List StructForm) (of : Numbered) (found : Found) (sense : HeldSense) →
    HoldsFound forms (Some sense) (sense_at of.table.senses found) → MeantSo forms of found sense
meant_so forms of found sense h = by (sense_at of.table.senses found) refl h
  where
    by : (o : Option Sense) → sense_at of.table.senses found ≡ o → HoldsFound forms (Some sense) o → MeantSo forms of found sense
    by None e h = absurd h
    by (Some meant) e h = record {
      meant = meant;
      holds = h;
      is = ap (option_map (λ (sense : Sense). record { sense = sense; scope = found.scope; number = number_at of.numbers found })) e;
    }

pub meant_nothing : (forms : List StructForm) (of : Numbered) (found : Found) →
    HoldsFound forms None (sense_at of.table.senses found) → meant_at of found ≡ None
meant_nothing forms of found h = by (sense_at of.table.senses found) refl h
  where
    by : (o : Option Sense) → sense_at of.table.senses found ≡ o → HoldsFound forms None o → meant_at of found ≡ None
    by None e h = ap (option_map (λ (sense : Sense). record { sense = sense; scope = found.scope; number = number_at of.numbers found })) e
    by (Some meant) e h = absurd h
