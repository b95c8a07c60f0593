-- What is known of every valid object, and on which laws a task's steps rest.
use Rattle.pearl_instructions.specs.RunLaws.{AreTables, Begins, HearsWhatSuits, OffersWhatIsThere, FitsTables}

pub record Known : Type 0 where
  pub begins : Begins
  pub suits : HearsWhatSuits
  pub there : OffersWhatIsThere
  pub fits : FitsTables
  pub tables : AreTables
