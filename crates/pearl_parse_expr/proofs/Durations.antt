-- Durations and literals that go on as far as a stop, made of the seconds that do.
use Rattle.std.proofs.Common.{◌≡◌, ℕ, ◌+◌, ◌≤◌, List, [], ◌∷◌, length, Option, Some, None, Ok, ◌⊎◌, inl, inr, refl}
use Rattle.std.proofs.Common.{subst, ◌∙◌, arith}
use Rattle.pearl_tree.specs.declared.name.Number.{Number}
use Rattle.pearl_tree.specs.declared.literal.Secs.{Secs}
use Rattle.pearl_tree.specs.declared.literal.Secs.TheVariants as secs
use Rattle.pearl_tree.specs.declared.literal.Duration.TheVariants.{Hours, Minutes, Seconds}
use Rattle.pearl_tree.specs.declared.literal.Literal.TheVariants as literal
use Rattle.pearl_tree.specs.declared.expression.Primary as primary
use Rattle.pearl_tree.specs.declared.token.What.TheVariants as what
use Rattle.pearl_tree.specs.declared.token.Token.{Token}
use Rattle.pearl_tree.specs.Standing.{IsAt, IsNumber, HasWord, SpellsMaybe}
use Rattle.pearl_tree.specs.Expressions.{SpellsPrimary, SpellsSecs, SpellsSeconds, SpellsMinutes, SpellsDuration}
use Rattle.pearl_tree.specs.Expressions.{SpellsLiteral}
use Rattle.pearl_tree.specs.declared.word_code.TheConstants as w
use Rattle.pearl_parse_expr.specs.declared.reading.Halt.TheVariants.{Refused}
use Rattle.pearl_parse_expr.specs.declared.reading.Reading.{Reading}
use Rattle.pearl_parse_expr.specs.Stops.{EndsEarly, IsHalted, SpellsMaybeSeconds, extends_operand}
use Rattle.pearl_parse_expr.specs.Least.{Reaches}
use Rattle.pearl_parse_expr.specs.Reads.{ReadsMaybe}
use Rattle.pearl_parse_expr.proofs.Literals.{seconds_end}
use Rattle.pearl_parse_expr.proofs.Local as local
use Rattle.pearl_parse_expr.proofs.Reaching.{begun, completed, reaches_as, one_lawful, none_lawful, token_of}
use Rattle.pearl_parse_expr.proofs.Reaching.{what_stands, place_stands}
use Rattle.pearl_parse_expr.proofs.Trees.{boxed}

pub seconds_begin : (tokens : List Token) (from : ℕ) → from ≤ length tokens → Reaches SpellsSeconds tokens from from
seconds_begin tokens from within =
    let one = token_of (what.Number 1) in
    let unit = token_of (what.Word w.SEC) in
    let what_is = what_stands tokens from (one ∷ unit ∷ []) within in
    let place_is = place_stands tokens from (one ∷ unit ∷ []) within in
    completed SpellsSeconds tokens from from (one ∷ unit ∷ []) (secs.Number (record { value = 1; place = 0 })) within
    (omega arith)
    (one_lawful one (unit ∷ []) (omega arith) (one_lawful unit [] (omega arith) none_lawful))
    (λ alike. (
      from + 1,
      ((what_is 0 from (omega arith), place_is 0 from (omega arith)), refl),
      what_is 1 (from + 1) refl,
      omega arith,
    ))

-- a number or decimal with no SEC behind it
pub seconds_reach : (tokens : List Token) (from : ℕ) (part : Secs) → SpellsSecs tokens from part (from + 1) →
    from + 1 ≤ length tokens → Reaches SpellsSeconds tokens from (from + 1)
seconds_reach tokens from part h within =
    completed SpellsSeconds tokens from (from + 1) (token_of (what.Word w.SEC) ∷ []) part within (omega arith)
    (one_lawful (token_of (what.Word w.SEC)) [] (omega arith) none_lawful)
    (λ alike. (
      from + 1,
      local.secs_local tokens (begun tokens (from + 1) (token_of (what.Word w.SEC) ∷ [])) (from + 1) alike from part
          (from + 1) h (omega arith),
      what_stands tokens (from + 1) (token_of (what.Word w.SEC) ∷ []) within 0 (from + 1) (omega arith),
      refl,
    ))

secs_placed : (tokens : List Token) (from : ℕ) (part : Secs) (to : ℕ) → SpellsSecs tokens from part to →
    (place : ℕ) × IsAt tokens from place
secs_placed tokens from (secs.Number x) to h = (x.place, h.0.1)
secs_placed tokens from (secs.Decimal whole thousandths place) to h = (place, h.1)

pub from_seconds_reaches : (tokens : List Token) (from stop : ℕ) → Reaches SpellsSeconds tokens from stop →
    Reaches SpellsDuration tokens from stop
from_seconds_reaches tokens from stop r =
    reaches_as SpellsSeconds SpellsDuration tokens from from stop (omega arith)
    (λ others alike long short x h. let at = secs_placed others from x h.0 h.1 in (Seconds x at.0, (at.1, h))) r

pub from_minutes_reaches : (tokens : List Token) (from stop : ℕ) (minutes : Number) → IsNumber tokens from minutes →
    HasWord tokens (from + 1) w.MIN → from + 2 ≤ stop →
    Reaches SpellsSeconds tokens (from + 2) stop → Reaches SpellsDuration tokens from stop
from_minutes_reaches tokens from stop minutes number word near r =
    reaches_as SpellsSeconds SpellsDuration tokens from (from + 2) stop (omega arith)
    (λ others alike long short x h. (
      Minutes minutes (Some x) minutes.place,
      (
        local.place tokens others stop alike from (omega arith) ∙ number.1,
        local.number tokens others stop alike from minutes (omega arith) number,
        local.what tokens others stop alike (from + 1) (omega arith) ∙ word,
        h,
      ),
    )) r

pub from_hours_reaches : (tokens : List Token) (from m stop : ℕ) (hours : Number) (minutes : Option Number) →
    IsNumber tokens from hours → HasWord tokens (from + 1) w.HRS →
    SpellsMaybe (SpellsMinutes tokens) (from + 2) minutes m → from + 2 ≤ m → m ≤ stop →
    Reaches SpellsSeconds tokens m stop → Reaches SpellsDuration tokens from stop
from_hours_reaches tokens from m stop hours minutes number word between ahead near r =
    reaches_as SpellsSeconds SpellsDuration tokens from m stop (omega arith)
    (λ others alike long short x h. (
      Hours hours minutes (Some x) hours.place,
      (
        m,
        local.place tokens others stop alike from (omega arith) ∙ number.1,
        local.number tokens others stop alike from hours (omega arith) number,
        local.what tokens others stop alike (from + 1) (omega arith) ∙ word,
        local.maybe_minutes_local tokens others stop alike (from + 2) minutes m between near,
        h,
      ),
    )) r

pub literal_reaches : (tokens : List Token) (from stop : ℕ) → Reaches SpellsDuration tokens from stop →
    Reaches SpellsLiteral tokens from stop
literal_reaches tokens from stop r = reaches_as SpellsDuration SpellsLiteral tokens from from stop (omega arith)
    (λ others alike long short x h. (literal.Duration (boxed x), h)) r

pub literal_primary_reaches : (tokens : List Token) (depth from stop : ℕ) → Reaches SpellsLiteral tokens from stop →
    Reaches (λ tokens. SpellsPrimary tokens depth) tokens from stop
literal_primary_reaches tokens depth from stop r =
    reaches_as SpellsLiteral (λ tokens. SpellsPrimary tokens depth) tokens from from stop (omega arith)
    (λ others alike long short x h. (primary.Literal x, h)) r

-- ---- what was read where seconds may stand

module _ (tokens : List Token) (at : ℕ) (reading : Reading (Option Secs))
    (read : ReadsMaybe 16 SpellsMaybeSeconds SpellsMaybeSeconds SpellsSeconds extends_operand tokens at (Ok reading))
  where
    pub seconds_read : (part : Secs) → reading.part ≡ Some part → SpellsSeconds tokens at part (at + 2)
    seconds_read part is =
        let h = subst (λ part. SpellsMaybeSeconds tokens at part reading.end) is read.spells in
        let far = seconds_end tokens at part reading.end h in
        subst (λ k. SpellsSeconds tokens at part k) far h

    pub seconds_within : (part : Secs) → reading.part ≡ Some part → at + 2 ≤ length tokens
    seconds_within part is =
        let h = subst (λ part. SpellsMaybeSeconds tokens at part reading.end) is read.spells in
        omega (arith, read.bounds, seconds_end tokens at part reading.end h)

    empty : reading.part ≡ None → reading.end ≡ at
    empty none = subst (λ part. SpellsMaybeSeconds tokens at part reading.end) none read.spells

    pub seconds_halted : reading.part ≡ None → IsHalted SpellsSeconds tokens at (Refused reading.stop)
    seconds_halted none = (
      λ others agree x to h. by others x to h (read.longest others agree (Some x) to h),
      read.bounds.2,
      read.bounds.3,
    )
      where
        by : (others : List Token) (x : Secs) (to : ℕ) → SpellsSeconds others at x to →
            (to ≡ reading.end) ⊎ EndsEarly extends_operand others reading.end to → ⊥
        by others x to h (inl same) = omega (arith, seconds_end others at x to h, same, empty none)
        by others x to h (inr early) = omega (arith, seconds_end others at x to h, early.0, empty none)

    pub seconds_reaches : reading.part ≡ None → Reaches SpellsSeconds tokens at reading.stop
    seconds_reaches none = by read.least.goes
      where
        by : (reading.stop ≡ reading.end) ⊎ Reaches SpellsSeconds tokens at reading.stop →
            Reaches SpellsSeconds tokens at reading.stop
        by (inl same) =
            let here : at ≡ reading.stop = omega (arith, same, empty none) in
            subst (λ k. Reaches SpellsSeconds tokens at k) here (seconds_begin tokens at (omega (arith, read.bounds)))
        by (inr r) = r
