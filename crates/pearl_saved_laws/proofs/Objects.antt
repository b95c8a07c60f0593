-- A valid object's code is sound: each task begins with a stack of its own, goes on so, and offers soon what fits.
use Rattle.std.proofs.Common.{inl, inr, ℕ, ◌<◌, List, [], length, subst, arith}
use Rattle.std.proofs.lemmas.List.{length-map}
use Rattle.pearl_stack.specs.Frames.{Frame}
use Rattle.pearl_instructions.specs.declared.object.Parts.{Parts as Object}
use Rattle.pearl_instructions.specs.Engines.{engine}
use Rattle.pearl_instructions.specs.Lawful.{IsObject}
use Rattle.pearl_instructions.specs.Owners.{IsStackOf, StandsIn, rows_left}
use Rattle.pearl_instructions.specs.RunLaws.{Begins, GoesOn, GoesOnAfter, HearsWhatSuits, OffersWhatIsThere, FitsTables}
use Rattle.pearl_instructions.specs.RunLaws.{OffersSoon}
use Rattle.pearl_instructions.specs.Setups.{entry_of, setup_of}
use Rattle.pearl_instructions.specs.Valid.{IsValid}
use Rattle.pearl_saved_laws.proofs.Sound.{Sound}

-- a task is there, and this is a stack of it
pub record Here (o : Object) (t : ℕ) (frames : List Frame) : Type 0 where
  pub there : t < length o.tasks
  pub own : IsStackOf o t frames

abbrev pub SoundCode : Object → Type 0
SoundCode o = Sound (setup_of o) (engine o) (Here o) (λ t frames. rows_left o frames)

here_is : (o : Object) (t : ℕ) (frames : List Frame) → t < length o.tasks → StandsIn o t frames → Here o t frames
here_is o t frames there (inl own) = record { there = there; own = own }
here_is o t frames there (inr none) = let past = none.past in absurd (omega (arith, there, past))

pub sound : Begins → GoesOn → GoesOnAfter → HearsWhatSuits → OffersWhatIsThere → FitsTables → OffersSoon →
    (o : Object) → IsValid o → IsObject o → SoundCode o
sound begins goes after suits names fits soon o valid lawful = record {
  begins = λ t there. here_is o t ((engine o).begin t) (subst (λ n. t < n) (length-map o.tasks entry_of) there)
      (begins o t valid lawful);
  goes = λ t frames next here e. here_is o t next here.there (goes o t frames next valid lawful (inl here.own) e);
  fits = λ t frames action here e. fits o t frames action valid lawful (inl here.own) e;
  answered = λ t frames action answer here e suit. here_is o t ((engine o).answer t frames answer) here.there
      (after o t frames action answer valid lawful (inl here.own) e
      (suits o t action answer lawful (names o t frames action valid lawful (inl here.own) e) suit));
  falls = λ t frames next here e. (soon o valid lawful).falls t [] frames next here.there (inl here.own) e;
}
