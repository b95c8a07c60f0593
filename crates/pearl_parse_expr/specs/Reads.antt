-- What is known where a part is read from the tokens that begin at a number, or isn't. In each word `room` is how many
-- tokens, at most, complete a part that goes on as far as the stop that is told, besides eight for each token from its
-- first one up to there (`ReachesIn`): what opens something pays for what closes it, so a completed part stays within a
-- bound and its lists have room in a tree. It is 16 for an expression and 24 for a statement.
use Rattle.std.specs.Prelude.{ℕ, Bool, List, Option, Vec, IfOk, IfErr, Result}
use Rattle.pearl_tree.specs.declared.token.What.{What}
use Rattle.pearl_tree.specs.declared.token.Token.{Token}
use Rattle.pearl_tree.specs.Standing.{Spelling}
use Rattle.pearl_parse_expr.specs.declared.reading.Halt.{Halt}
use Rattle.pearl_parse_expr.specs.declared.reading.Reading.{Reading}
use Rattle.pearl_parse_expr.specs.Stops.{IsLongest, IsOnly, IsAhead, IsHalted, StopsWithin}
use Rattle.pearl_parse_expr.specs.Least.{IsLeastIn}

-- of a part that has one end: the tokens up to this end spell what is read, as `told` says it; where none is read, no
-- `part` begins; and some part goes on as far as the stop that is told
pub record ReadsOnlyAs {X Y : Type 0} (room : ℕ) (told : List Token → Spelling Y) (part : List Token → Spelling X)
    (tokens : List Token) (from : ℕ) (result : Result (Reading Y) Halt) : Type 0 where
  pub spells : IfOk result (λ reading. told tokens from reading.part reading.end)
  pub only : IfOk result (λ reading. IsOnly part tokens from reading.end reading.stop)
  pub ahead : IfOk result (λ reading. IsAhead tokens from reading.end reading.stop)
  pub refused : IfErr result (λ halt. IsHalted part tokens from halt)
  pub least : IsLeastIn room part tokens from result

abbrev pub ReadsOnly : {X : Type 0} → ℕ → (List Token → Spelling X) → List Token → ℕ → Result (Reading X) Halt → Type 0
ReadsOnly room part tokens from result = ReadsOnlyAs room part part tokens from result

-- a list is read
abbrev pub ReadsOnlyList : {X A : Type 0} → ℕ → (List Token → Spelling (List X)) → List Token → ℕ →
    Result (Reading (Vec X A)) Halt → Type 0
ReadsOnlyList room part tokens from result =
    ReadsOnlyAs room (λ tokens from list to. part tokens from list.items to) part tokens from result

-- the same of the longest end of a part that a token of `extends` may go on with
pub record ReadsAs {X Y : Type 0} (room : ℕ) (told : List Token → Spelling Y) (part : List Token → Spelling X)
    (extends : Option What → Bool) (tokens : List Token) (from : ℕ) (result : Result (Reading Y) Halt) : Type 0 where
  pub spells : IfOk result (λ reading. told tokens from reading.part reading.end)
  pub longest : IfOk result (λ reading. IsLongest part extends tokens from reading.end reading.stop)
  pub ahead : IfOk result (λ reading. IsAhead tokens from reading.end reading.stop)
  pub refused : IfErr result (λ halt. IsHalted part tokens from halt)
  pub least : IsLeastIn room part tokens from result

-- the longest part is read
abbrev pub Reads : {X : Type 0} → ℕ → (List Token → Spelling X) → (Option What → Bool) → List Token → ℕ →
    Result (Reading X) Halt → Type 0
Reads room part extends tokens from result = ReadsAs room part part extends tokens from result

-- the longest list is read
abbrev pub ReadsList : {X A : Type 0} → ℕ → (List Token → Spelling (List X)) → (Option What → Bool) → List Token → ℕ →
    Result (Reading (Vec X A)) Halt → Type 0
ReadsList room part extends tokens from result =
    ReadsAs room (λ tokens from list to. part tokens from list.items to) part extends tokens from result

-- of a part that has one end and may be empty: `told` is what the tokens up to there spell of what is read, `part` all
-- that begins where it does, and `some` what goes on as far as the stop
pub record ReadsOnlyMaybe {X Y Z : Type 0} (room : ℕ) (told : List Token → Spelling Y) (part : List Token → Spelling X)
    (some : List Token → Spelling Z) (tokens : List Token) (from : ℕ) (result : Result (Reading Y) Halt) : Type 0 where
  pub spells : IfOk result (λ reading. told tokens from reading.part reading.end)
  pub only : IfOk result (λ reading. IsOnly part tokens from reading.end reading.stop)
  pub bounds : IfOk result (λ reading. StopsWithin tokens from from reading.end reading.stop)
  pub refused : IfErr result (λ halt. IsHalted part tokens from halt)
  pub least : IsLeastIn room some tokens from result

-- the same of a part that a token of `extends` may go on with
pub record ReadsMaybe {X Y Z : Type 0} (room : ℕ) (told : List Token → Spelling Y) (part : List Token → Spelling X)
    (some : List Token → Spelling Z) (extends : Option What → Bool) (tokens : List Token) (from : ℕ)
    (result : Result (Reading Y) Halt) : Type 0 where
  pub spells : IfOk result (λ reading. told tokens from reading.part reading.end)
  pub longest : IfOk result (λ reading. IsLongest part extends tokens from reading.end reading.stop)
  pub bounds : IfOk result (λ reading. StopsWithin tokens from from reading.end reading.stop)
  pub refused : IfErr result (λ halt. IsHalted part tokens from halt)
  pub least : IsLeastIn room some tokens from result

-- a list is read that may be empty
abbrev pub ReadsMaybeList : {X A : Type 0} → ℕ → (List Token → Spelling (List X)) → (Option What → Bool) →
    List Token → ℕ → Result (Reading (Vec X A)) Halt → Type 0
ReadsMaybeList room part extends tokens from result =
    ReadsMaybe room (λ tokens from list to. part tokens from list.items to) part part extends tokens from result
