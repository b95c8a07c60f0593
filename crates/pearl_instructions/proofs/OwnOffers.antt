-- A valid object's code stands where its own offers and their answers lead.
use Rattle.std.proofs.Common.{◌≡◌, ◌⊎◌, inl, inr, ℕ, zero, suc, List, [], ◌∷◌, ◌++◌, length, map, refl, sym, ap, ◌∙◌, subst}
use Rattle.std.proofs.lemmas.List.{length-map}
use Rattle.pearl_rules.specs.declared.action.Action.{Action}
use Rattle.pearl_rules.specs.declared.action.Answer.{Answer}
use Rattle.pearl_rules.specs.Faithful.{Soon, IsFaithful}
use Rattle.pearl_rules.proofs.Offered.{faithful}
use Rattle.pearl_stack.specs.Frames.{Frame}
use Rattle.pearl_instructions.specs.declared.object.Parts.{Parts as Object}
use Rattle.pearl_instructions.specs.Engines.{engine, total_rows}
use Rattle.pearl_instructions.specs.Laws as instructions
use Rattle.pearl_instructions.specs.Lawful.{IsObject}
use Rattle.pearl_instructions.specs.Owners.{StandsIn, rows_left}
use Rattle.pearl_instructions.specs.OwnOffers.{onward, settled, offering, answered_by, action_in, own_offer, StandsAfter, CodeStands, RunsAsOffered}
use Rattle.pearl_instructions.specs.Rows.{row, after}
use Rattle.pearl_instructions.specs.RunLaws.{AreTables, Begins, GoesOn, GoesOnAfter, HearsWhatSuits, OffersWhatIsThere, FitsTables, OffersSoon}
use Rattle.pearl_instructions.specs.Setups.{entry_of, setup_of}
use Rattle.pearl_instructions.specs.Stacks.{Then, OffersWithin}
use Rattle.pearl_instructions.specs.Steps.{Step, Silent, Offers, Missing}
use Rattle.pearl_instructions.specs.Valid.{IsValid}
use Rattle.pearl_instructions.proofs.Stands.{silent_is, offers_is}

-- looking further finds the same row
stable : (o : Object) (n : ℕ) (frames : List Frame) → OffersWithin o n frames → settled o (suc n) frames ≡ settled o n frames
stable o zero frames h = absurd h
stable o (suc n) frames h = by (row o frames) h (stable o n)
  where
    by : (step : Step) → Then (OffersWithin o n) step → ((frames : List Frame) → OffersWithin o n frames → settled o (suc n) frames ≡ settled o n frames) →
        onward (settled o (suc n)) step ≡ onward (settled o n) step
    by (Silent next) h go = go next h
    by (Offers action go') h go = refl
    by Missing h go = refl

-- a silent row leads to the same
settles_on : (o : Object) (n : ℕ) (frames next : List Frame) → OffersWithin o n frames → row o frames ≡ Silent next → settled o n next ≡ settled o n frames
settles_on o zero frames next h e = absurd h
settles_on o (suc n) frames next h e =
    stable o n next (subst (Then (OffersWithin o n)) e h) ∙ sym (ap (onward (settled o n)) e)

settles_here : (o : Object) (n : ℕ) (frames : List Frame) (action : Action) (go : Answer → List Frame) → OffersWithin o n frames → row o frames ≡ Offers action go →
    settled o n frames ≡ Offers action go
settles_here o zero frames action go h e = absurd h
settles_here o (suc n) frames action go h e = ap (onward (settled o n)) e

settles_nowhere : (o : Object) (n : ℕ) (frames : List Frame) → row o frames ≡ Missing → settled o n frames ≡ Missing
settles_nowhere o zero frames e = refl
settles_nowhere o (suc n) frames e = ap (onward (settled o n)) e

answered_more : (o : Object) (frames : List Frame) (heard : List Answer) (answer : Answer) →
    answered_by o frames (heard ++ answer ∷ []) ≡ after (offering o (answered_by o frames heard)) answer
answered_more o frames [] answer = refl
answered_more o frames (x ∷ heard) answer = answered_more o (after (offering o frames) x) heard answer

module _ (soon : instructions.OffersSoon) (o : Object) (valid : IsValid o) (lawful : IsObject o) where
  -- a silent row offers next what it leads to
  same_ahead : (t : ℕ) (frames next : List Frame) → StandsIn o t frames → (row o frames ≡ Silent next) ⊎ ((row o frames ≡ Missing) × (next ≡ [])) →
      offering o next ≡ offering o frames
  same_ahead t frames next (inl s) (inl e) = settles_on o (total_rows o) frames next (soon o valid lawful frames s.stack) e
  same_ahead t frames next (inr none) (inl e) = let no : Missing ≡ Silent next = sym none.missing ∙ e in cc
  same_ahead t frames next own (inr none) =
      settles_nowhere o (total_rows o) next (subst (λ left. row o left ≡ Missing) (sym none.1) refl) ∙ sym (settles_nowhere o (total_rows o) frames none.0)

  -- a row that offers is the next one that does
  same_here : (t : ℕ) (frames : List Frame) (action : Action) (go : Answer → List Frame) → StandsIn o t frames → row o frames ≡ Offers action go →
      offering o frames ≡ Offers action go
  same_here t frames action go (inl s) e = settles_here o (total_rows o) frames action go (soon o valid lawful frames s.stack) e
  same_here t frames action go (inr none) e = let no : Missing ≡ Offers action go = sym none.missing ∙ e in cc

pub code_stands : instructions.OffersSoon → Begins → GoesOn → GoesOnAfter → HearsWhatSuits → OffersWhatIsThere → FitsTables → CodeStands
code_stands soon begin goes_on goes_on_after hears names fit o valid lawful = record {
  begins = λ t less. record { own = begin o t valid lawful; same = refl };
  goes = λ t heard frames next stands e. record {
    own = goes_on o t frames next valid lawful stands.own e;
    same = same_ahead soon o valid lawful t frames next stands.own (silent_is (row o frames) next e) ∙ stands.same;
  };
  offers = λ t heard frames action stands e.
      let found = offers_is (row o frames) action e in
      ap action_in (sym (same_here soon o valid lawful t frames action found.0 stands.own found.1) ∙ stands.same);
  fits = λ t heard frames action stands e. fit o t frames action valid lawful stands.own e;
  answered = λ t heard frames action answer stands e suits.
      let found = offers_is (row o frames) action e in
      let here : row o frames ≡ offering o (answered_by o ((engine o).begin t) heard) =
      found.1 ∙ (sym (same_here soon o valid lawful t frames action found.0 stands.own found.1) ∙ stands.same) in
      record {
        own = goes_on_after o t frames action answer valid lawful stands.own e (hears o t action answer lawful (names o t frames action valid lawful stands.own e) suits);
        same = ap (λ step. offering o (after step answer)) here ∙ ap (offering o) (sym (answered_more o ((engine o).begin t) heard answer));
      };
}

pub run_as_offered : AreTables → CodeStands → OffersSoon → RunsAsOffered
run_as_offered tables stand soon o valid lawful =
    let count : length (map entry_of o.tasks) ≡ length o.tasks = length-map o.tasks entry_of in
    let near = soon o valid lawful in
    let after_answers : Soon (length o.tasks) (engine o) (StandsAfter o) (λ t frames. rows_left o frames) (total_rows o) = record {
      bounded = λ t heard frames less stands. near.bounded t heard frames less stands.own;
      falls = λ t heard frames next less stands e. near.falls t heard frames next less stands.own e;
    } in
    subst (λ count. IsFaithful (own_offer o) (engine o) (setup_of o) count (total_rows o)) count
    (faithful (own_offer o) (engine o) (StandsAfter o) (λ t frames. rows_left o frames) (setup_of o) (total_rows o) (tables o lawful).slots (tables o lawful).devices
    (stand o valid lawful) (subst (λ count. Soon count (engine o) (StandsAfter o) (λ t frames. rows_left o frames) (total_rows o)) (sym count) after_answers))
