-- A valid object's run comes to its end.
use Rattle.std.proofs.Common.{◌≡◌, ℕ, ◌+◌, ◌*◌, ◌≤◌, None, length, map, sym, subst}
use Rattle.std.proofs.lemmas.List.{length-map}
use Rattle.pearl_rules.specs.Faithful.{Soon}
use Rattle.pearl_rules.specs.Runs.{source_next}
use Rattle.pearl_rules.proofs.Offered.{ends_soon, first_end, source_ends}
use Rattle.pearl_instructions.specs.declared.object.Parts.{Parts as Object}
use Rattle.pearl_instructions.specs.Engines.{engine, total_rows}
use Rattle.pearl_instructions.specs.Lawful.{IsObject}
use Rattle.pearl_instructions.specs.Owners.{rows_left}
use Rattle.pearl_instructions.specs.OwnOffers.{CodeStands, StandsAfter, own_offer}
use Rattle.pearl_instructions.specs.RunLaws.{AreTables, OffersSoon}
use Rattle.pearl_instructions.specs.Setups.{entry_of, setup_of}
use Rattle.pearl_instructions.specs.Valid.{IsValid}
use Rattle.pearl_instructions_laws.specs.Laws.{RunsEnd}

module _ (o : Object) where
  -- a bound on the instructions from one action to the next, for so many tasks, as far as the object's own offers lead
  abbrev OwnSoon : ℕ → Type 0
  OwnSoon count = Soon count (engine o) (StandsAfter o) (λ t frames. rows_left o frames) (total_rows o)

  own_soon : OffersSoon → IsValid o → IsObject o → OwnSoon (length (map entry_of o.tasks))
  own_soon soon valid lawful = subst OwnSoon (sym (length-map o.tasks entry_of)) (record {
    bounded = λ t heard frames less stands. (soon o valid lawful).bounded t heard frames less stands.own;
    falls = λ t heard frames next less stands e. (soon o valid lawful).falls t heard frames next less stands.own e;
  })

pub runs_end : CodeStands → AreTables → OffersSoon → RunsEnd
runs_end stand tables soon o valid lawful es fit =
    let whole = source_ends (own_offer o) (setup_of o) es in
    let first = first_end (own_offer o) (setup_of o) es whole.0 in
    let end = ends_soon (own_offer o) (engine o) (StandsAfter o) (λ t frames. rows_left o frames) (setup_of o)
    (total_rows o) (tables o lawful).slots (tables o lawful).devices (stand o valid lawful)
    (own_soon o soon valid lawful) es fit first.at first.comes
    (subst (λ s. source_next (own_offer o) s ≡ None) (sym first.same) whole.1) in
    let count : length (map entry_of o.tasks) ≡ length o.tasks = length-map o.tasks entry_of in
    record {
      at = end.at;
      within = subst (λ m. end.at ≤ (m + 1) * (length o.tasks * total_rows o + 1)) (sym end.made)
          (subst (λ count. end.at ≤ (first.at + 1) * (count * total_rows o + 1)) count end.within);
      has_ended = end.has_ended;
    }
