-- An action is offered soon.
use Rattle.std.proofs.Common.{◌≡◌, ◌⊎◌, inl, inr, ℕ, zero, suc, ◌<◌, List, [], refl, ap, subst, arith}
use Rattle.pearl_stack.specs.Frames.{Frame}
use Rattle.pearl_instructions.specs.declared.object.Parts.{Parts as Object}
use Rattle.pearl_instructions.specs.Laws as instructions
use Rattle.pearl_instructions.specs.Rows.{row}
use Rattle.pearl_instructions.specs.Stacks.{Then, OffersWithin}
use Rattle.pearl_instructions.specs.Steps.{Step, Silent, Offers, Missing}
use Rattle.pearl_instructions.specs.Engines.{total_rows}
use Rattle.pearl_instructions.specs.Owners.{one_more, silent_rows}
use Rattle.pearl_instructions.specs.RunLaws.{OffersSoon}
use Rattle.pearl_instructions.proofs.Stands.{silent_is}

-- fewer rows are silent than come up to the one that offers
few : (o : Object) (n : ℕ) (frames : List Frame) → OffersWithin o n frames → silent_rows o n frames < n
few o zero frames h = absurd h
few o (suc n) frames h = by (row o frames) h (few o n)
  where
    by : (step : Step) → Then (OffersWithin o n) step → ((frames : List Frame) → OffersWithin o n frames → silent_rows o n frames < n) → one_more (silent_rows o n) step < suc n
    by (Silent next) h go = let less = go next h in omega (arith, less)
    by (Offers action go') h go = omega arith
    by Missing h go = absurd h

-- and looking further finds no more
stable : (o : Object) (n : ℕ) (frames : List Frame) → OffersWithin o n frames → silent_rows o (suc n) frames ≡ silent_rows o n frames
stable o zero frames h = absurd h
stable o (suc n) frames h = by (row o frames) h (stable o n)
  where
    by : (step : Step) → Then (OffersWithin o n) step → ((frames : List Frame) → OffersWithin o n frames → silent_rows o (suc n) frames ≡ silent_rows o n frames) →
        one_more (silent_rows o (suc n)) step ≡ one_more (silent_rows o n) step
    by (Silent next) h go = ap suc (go next h)
    by (Offers action go') h go = refl
    by Missing h go = refl

fall : (o : Object) (n : ℕ) (frames next : List Frame) → OffersWithin o n frames → row o frames ≡ Silent next → silent_rows o n next < silent_rows o n frames
fall o zero frames next h e = absurd h
fall o (suc n) frames next h e =
    let within : OffersWithin o n next = subst (Then (OffersWithin o n)) e h in
    let here : silent_rows o (suc n) frames ≡ suc (silent_rows o n next) = ap (one_more (silent_rows o n)) e in
    let there = stable o n next within in
    omega (arith, here, there)

-- so the row is there
there_is : (o : Object) (n : ℕ) (frames : List Frame) → OffersWithin o n frames → row o frames ≡ Missing → ⊥
there_is o zero frames h e = h
there_is o (suc n) frames h e = subst (Then (OffersWithin o n)) e h

falling : (o : Object) (n : ℕ) (frames next : List Frame) → OffersWithin o n frames → (row o frames ≡ Silent next) ⊎ ((row o frames ≡ Missing) × (next ≡ [])) →
    silent_rows o n next < silent_rows o n frames
falling o n frames next h (inl e) = fall o n frames next h e
falling o n frames next h (inr none) = absurd (there_is o n frames h none.0)

pub soon : instructions.OffersSoon → OffersSoon
soon law o valid lawful = record {
  bounded = λ t heard frames there stands. elim stands [
    | inl s ↦ few o (total_rows o) frames (law o valid lawful frames s.stack)
    | inr none ↦ absurd (omega (arith, there, none.past))
  ];
  falls = λ t heard frames next there stands e. elim stands [
    | inl s ↦ falling o (total_rows o) frames next (law o valid lawful frames s.stack) (silent_is (row o frames) next e)
    | inr none ↦ absurd (omega (arith, there, none.past))
  ];
}
