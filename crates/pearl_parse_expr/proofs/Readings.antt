-- What is known of a part that is read, or isn't, from what is known of the parts that it is made of.
use Rattle.std.proofs.Common.{◌≡◌, ℕ, ◌+◌, ◌<◌, ◌≤◌, Bool, true, false, List, [], ◌∷◌, length, Option, Some, Result, Ok}
use Rattle.std.proofs.Common.{Err, inl, refl, sym, ap, subst, ◌∙◌, arith}
use Rattle.pearl_tree.specs.declared.token.What.{What}
use Rattle.pearl_tree.specs.declared.token.Token.{Token}
use Rattle.pearl_tree.specs.Standing.{Spelling, what_at, IsAt, IsName}
use Rattle.pearl_tree.specs.Stops.{BeginAlike}
use Rattle.pearl_parse_expr.specs.declared.reading.Halt.{Halt}
use Rattle.pearl_parse_expr.specs.declared.reading.Halt.TheVariants.{Refused}
use Rattle.pearl_parse_expr.specs.declared.reading.Reading.{Reading}
use Rattle.pearl_parse_expr.specs.Stops.{IsLongest, IsAhead, IsHalted, is_name}
use Rattle.pearl_parse_expr.specs.Least.{ReachesIn, GoesIn, HaltsIn}
use Rattle.pearl_parse_expr.specs.Reads.{ReadsOnlyAs, ReadsOnly, ReadsAs}
use Rattle.pearl_parse_expr.proofs.Halts.{halted, ok_map}
use Rattle.pearl_parse_expr.proofs.Ids.{x_name, x_token, x_lawful}
use Rattle.pearl_parse_expr.proofs.Local as local
use Rattle.pearl_parse_expr.proofs.Primaries.{clash, token_within}
use Rattle.pearl_parse_expr.proofs.Reaching.{begun, completed, goes_as, halts_as, placed, what_stands, place_stands}

-- the only end is the longest one
pub longest_read : {X Y : Type 0} {room : ℕ} {told : List Token → Spelling Y} {part : List Token → Spelling X}
    {extends : Option What → Bool} {tokens : List Token} {from : ℕ} (result : Result (Reading Y) Halt) →
    ReadsOnlyAs room told part tokens from result → ReadsAs room told part extends tokens from result
longest_read result read = record {
  spells = read.spells;
  longest = ok_map _ _ result (λ reading only others agree x to h. inl (only others agree x to h)) read.only;
  ahead = read.ahead;
  refused = read.refused;
  least = read.least;
}

-- ---- a whole with a part at `at`

module _ {X Y : Type 0} (inner : List Token → Spelling X) (whole : List Token → Spelling Y) (tokens : List Token)
    (from at : ℕ) where
  -- however the tokens behind `stop` are replaced, a whole from `from` has such a part
  abbrev pub Begins : Type 0
  Begins =
      (others : List Token) (stop : ℕ) → at ≤ stop → BeginAlike tokens others stop → (y : Y) (to : ℕ) →
      whole others from y to → (x : X) × (k : ℕ) × inner others at x k

  -- and it ends with it
  abbrev pub Ends : Type 0
  Ends =
      (others : List Token) (stop : ℕ) → at ≤ stop → BeginAlike tokens others stop → (y : Y) (to : ℕ) →
      whole others from y to → (x : X) × inner others at x to

  -- where the part goes on, the whole does
  abbrev pub Carries : ℕ → ℕ → Type 0
  Carries small room =
      (stop : ℕ) → at ≤ stop → stop ≤ length tokens → ReachesIn small inner tokens at stop →
      ReachesIn room whole tokens from stop

  -- the part is not read
  pub unread : {Z : Type 0} {told : List Token → Spelling Z} {small room : ℕ} (halt : Halt) → from ≤ at → Begins →
      Carries small room → IsHalted inner tokens at halt → HaltsIn small inner tokens at halt →
      ReadsOnlyAs room told whole tokens from (Err halt)
  unread halt before begins carries refused least = record {
    spells = tt;
    only = tt;
    ahead = tt;
    refused = halted inner whole tokens from at halt before begins refused;
    least = halts_as inner whole tokens from at halt carries refused least;
  }

  -- the part is read, and ends the whole
  pub read_to : {Z : Type 0} {told : List Token → Spelling Z} {extends : Option What → Bool} {small room : ℕ}
      (reading : Reading Z) → from ≤ at → Ends → Carries small room → told tokens from reading.part reading.end →
      IsLongest inner extends tokens at reading.end reading.stop → IsAhead tokens at reading.end reading.stop →
      GoesIn small inner tokens at reading.end reading.stop → ReadsAs room told whole extends tokens from (Ok reading)
  read_to reading before ends carries spells longest ahead least = record {
    spells = spells;
    longest = λ others agree y to h.
        let part = ends others reading.stop (omega (arith, ahead)) agree y to h in
        longest others agree part.0 to part.1;
    ahead = (omega (arith, ahead), ahead.1, ahead.2);
    refused = tt;
    least = goes_as inner whole tokens from at reading.end reading.stop
        (λ r. carries reading.stop (omega (arith, ahead)) ahead.2 r) least;
  }

-- ---- a token with a name behind it

module _ {X : Type 0} (part : List Token → Spelling X) (tokens : List Token) (from : ℕ) (first : What)
    (stands : what_at tokens from ≡ Some first)
    (only : (others : List Token) → what_at others from ≡ Some first → (x : X) (to : ℕ) → part others from x to →
    (is_name (what_at others (from + 1)) ≡ true) × (to ≡ from + 2)) where
  pub name_read : (x : X) → part tokens from x (from + 2) → from + 1 < length tokens →
      ReadsOnly 16 part tokens from (Ok (record { part = x; end = from + 2; stop = from + 2 }))
  name_read x h within = record {
    spells = h;
    only = λ others agree y to g. (only others (sym (agree from (omega arith)) ∙ stands) y to g).1;
    ahead = (omega arith, omega arith, omega arith);
    refused = tt;
    least = record { goes = inl refl };
  }

  pub name_missing : is_name (what_at tokens (from + 1)) ≡ false → (made : ℕ → X) →
      ((others : List Token) (place : ℕ) → IsAt others from place → what_at others from ≡ Some first →
      IsName others (from + 1) x_name → part others from (made place) (from + 2)) →
      ReadsOnly 16 part tokens from (Err (Refused (from + 1)))
  name_missing none made spelled =
      let within : from + 1 ≤ length tokens = omega (arith, token_within tokens from first stands) in
      let others = begun tokens (from + 1) (x_token ∷ []) in
      let at = placed tokens from first stands in
      let size : from + 2 ≡ from + 1 + 1 = omega arith in
      record {
        spells = tt;
        only = tt;
        ahead = tt;
        refused = (
          λ others agree x to h. clash _ (only others (sym (agree from (omega arith)) ∙ stands) x to h).0
              (ap is_name (sym (agree (from + 1) (omega arith))) ∙ none),
          omega arith,
          within,
        );
        least = completed part tokens from (from + 1) (x_token ∷ []) (made at.0) within (omega arith) x_lawful
            (λ alike. subst (λ k. part others from (made at.0) k) size (spelled others at.0
            (local.place tokens others (from + 1) alike from (omega arith) ∙ at.1)
            (local.what tokens others (from + 1) alike from (omega arith) ∙ stands) (
              what_stands tokens (from + 1) (x_token ∷ []) within 0 (from + 1) (omega arith),
              place_stands tokens (from + 1) (x_token ∷ []) within 0 (from + 1) (omega arith),
            )));
      }
