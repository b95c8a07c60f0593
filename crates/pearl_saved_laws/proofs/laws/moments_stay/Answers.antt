use Rattle.pearl_saved_laws.proofs.Moments.{moments_stay}
use Rattle.pearl_saved_laws.proofs.laws.moments_stay.Goals as goal

pub returns : goal.returns
returns c =
    moments_stay c.objects_run_as_they_offer.ensures c.entries_fit_one_after_the_other.ensures.each
    c.entries_fit_one_after_the_other.ensures.moments
