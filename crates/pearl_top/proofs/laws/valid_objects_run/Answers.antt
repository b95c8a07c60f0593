use Rattle.pearl_instructions.specs.OwnOffers.{own_offer}
use Rattle.pearl_top.proofs.laws.valid_objects_run.Goals as goal

pub returns : goal.returns
returns c = λ o valid lawful. record {
  offer = own_offer o;
  runs = c.objects_run_as_they_offer.ensures o valid lawful;
  finishes = λ es fit. let end = c.runs_end.ensures o valid lawful es fit in (end.at, end.has_ended);
}
