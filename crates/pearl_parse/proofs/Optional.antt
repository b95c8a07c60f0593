-- A part that may be missing, whatever token stands in its place.
use Rattle.std.proofs.Common.{ℕ, Bool, List, Option, Some, None}
use Rattle.pearl_tree.specs.declared.token.What.{What}
use Rattle.pearl_tree.specs.declared.token.Token.{Token}
use Rattle.pearl_tree.specs.Standing.{Spelling, SpellsMaybe}
use Rattle.pearl_parse.specs.Stops.{SpellsOptional}

pub maybe_of : {Y : Type 0} (begins : Option What → Bool) (spells : List Token → Spelling Y) (tokens : List Token)
    (from : ℕ) (x : Option Y) (to : ℕ) → SpellsOptional begins spells tokens from x to →
    SpellsMaybe (spells tokens) from x to
maybe_of begins spells tokens from None to h = h.0
maybe_of begins spells tokens from (Some x) to h = h
