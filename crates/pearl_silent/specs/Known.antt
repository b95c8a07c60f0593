-- What is known of every valid object, and whose laws a step rests on.
use Rattle.pearl_instructions.specs.Laws.{Leads, OffersWhatIsThere, HasTask, KeepsTask, KeepsDepth, CountsFrames, OffersSoon}

pub record Known : Type 0 where
  pub leads : Leads
  pub offers : OffersWhatIsThere
  pub task : HasTask
  pub stays : KeepsTask
  pub depth : KeepsDepth
  pub frames : CountsFrames
  pub soon : OffersSoon
