-- A reading by its part, its end and its stop.
use Rattle.std.proofs.Common.{◌≡◌, ℕ}
use Rattle.pearl_parse_expr.specs.declared.reading.Reading.{Reading}

pub reading_is : {X : Type 0} (reading : Reading X) (x : X) (to last : ℕ) → reading.part ≡ x → reading.end ≡ to →
    reading.stop ≡ last → reading ≡ record { part = x; end = to; stop = last }
reading_is reading x to last part end stop = λ j. record { part = part j; end = end j; stop = stop j }
