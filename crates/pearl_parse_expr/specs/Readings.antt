-- What becomes of a reading: with tokens more behind its part, with a later stop, and of a list as its parts are read.
use Rattle.std.specs.Prelude.{◌≡◌, ℕ, ◌+◌, max, List, Vec, Result, Ok, Err}
use Rattle.pearl_parse_expr.specs.declared.reading.Halt.{Halt}
use Rattle.pearl_parse_expr.specs.declared.reading.Halt.TheVariants.{Refused, NoMemory}
use Rattle.pearl_parse_expr.specs.declared.reading.Reading.{Reading}

-- the same part, and this many more tokens behind it
abbrev pub past : {X : Type 0} → Reading X → ℕ → Reading X
past reading tokens = record {
  part = reading.part;
  end = reading.end + tokens;
  stop = max reading.stop (reading.end + tokens);
}

-- the same part, stopped no earlier than there
abbrev pub no_earlier : {X : Type 0} → Reading X → ℕ → Reading X
no_earlier reading least_stop = record {
  part = reading.part;
  end = reading.end;
  stop = max reading.stop least_stop;
}

-- a further part is not read: this one is what is read, stopped no earlier than the further one is refused; where
-- memory is wanting, none is
abbrev pub ended : {X : Type 0} → Reading X → Halt → Result (Reading X) Halt
ended reading NoMemory = Err NoMemory
ended reading (Refused at) = Ok (record { part = reading.part; end = reading.end; stop = max reading.stop at })

-- a list of these parts, that ends at `to` and was stopped at `last`
pub record IsList {X A : Type 0} (xs : List X) (to last : ℕ) (list : Reading (Vec X A)) : Type 0 where
  pub parts : list.part.items ≡ xs
  pub end : list.end ≡ to
  pub stop : list.stop ≡ last
