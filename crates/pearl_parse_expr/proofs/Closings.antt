-- Groups and bracketed subscripts: the bracket that closes them stands at one place.
use Rattle.std.proofs.Common.{◌≡◌, ℕ, ◌+◌, ◌-◌, ◌<◌, ◌≤◌, ◌^◌, max, Bool, false, List, length, Option, Some, Ok, Err}
use Rattle.std.proofs.Common.{Vec, ◌⊎◌, inl, inr, refl, sym, ap, subst, ◌∙◌, arith}
use Rattle.pearl_tree.specs.declared.expression.Expr.{Expr}
use Rattle.pearl_tree.specs.declared.expression.Primary.{Primary}
use Rattle.pearl_tree.specs.declared.expression.Selector.{Selector}
use Rattle.pearl_tree.specs.declared.token.What.{What}
use Rattle.pearl_tree.specs.declared.token.What.TheVariants as what
use Rattle.pearl_tree.specs.declared.token.Token.{Token}
use Rattle.pearl_tree.specs.Standing.{Spelling, what_at, HasSymbol}
use Rattle.pearl_tree.specs.Expressions.{SpellsPrimary, SpellsSelector, SpellsExpr}
use Rattle.pearl_tree.specs.declared.symbol.TheConstants as s
use Rattle.pearl_tree.specs.Stops.{BeginAlike}
use Rattle.pearl_parse_expr.specs.declared.reading.Halt.{Halt}
use Rattle.pearl_parse_expr.specs.declared.reading.Halt.TheVariants.{Refused}
use Rattle.pearl_parse_expr.specs.declared.reading.Reading.{Reading}
use Rattle.pearl_parse_expr.specs.Stops.{IsLongest, IsAhead, IsHalted, EndsEarly, extends_operand, extends_expression}
use Rattle.pearl_parse_expr.specs.Stops.{extends_list, is_symbol, SpellsSubscriptsList}
use Rattle.pearl_parse_expr.specs.Least.{Reaches, HaltsIn}
use Rattle.pearl_parse_expr.specs.Reads.{Reads, ReadsOnly, ReadsOnlyAs, ReadsList}
use Rattle.pearl_parse_expr.proofs.Joining.{expr_reach, subscripts_reach, group_reaches, bracketed_reaches}
use Rattle.pearl_parse_expr.proofs.Parts.{shorter}
use Rattle.pearl_parse_expr.proofs.Primaries.{clash, symbol_within, only_group, only_bracketed}
use Rattle.pearl_parse_expr.proofs.Reaching.{goes_max}
use Rattle.pearl_parse_expr.proofs.Readings.{Carries, longest_read, unread}

-- a whole is a part between a bracket at `from` and the one that closes it, which goes on with no part
module _ {X Y : Type 0} (inner : List Token → Spelling X) (whole : List Token → Spelling Y)
    (extends : Option What → Bool) (tokens : List Token) (from : ℕ)
    (never : extends (Some (what.Symbol s.RIGHT_ROUND)) ≡ false) (bracket : HasSymbol tokens from s.LEFT_ROUND)
    (opened : (others : List Token) → HasSymbol others from s.LEFT_ROUND → (y : Y) (to : ℕ) → whole others from y to →
    (x : X) × (m : ℕ) × inner others (from + 1) x m × HasSymbol others m s.RIGHT_ROUND × (to ≡ m + 1))
    (carries : Carries inner whole tokens from (from + 1) 16 16) where
  unread_inside : {Z : Type 0} {told : List Token → Spelling Z} (halt : Halt) → IsHalted inner tokens (from + 1) halt →
      HaltsIn 16 inner tokens (from + 1) halt → ReadsOnlyAs 16 told whole tokens from (Err halt)
  unread_inside halt refused least =
      unread inner whole tokens from (from + 1) halt (omega arith)
      (λ others stop near agree y to h.
      let read = opened others (sym (agree from (omega arith)) ∙ bracket) y to h in (read.0, read.1, read.2))
      carries refused least

  -- what ends before the closing bracket ends where it was read to
  closes : (others : List Token) (end m : ℕ) → HasSymbol others m s.RIGHT_ROUND →
      (m ≡ end) ⊎ EndsEarly extends others end m → m ≡ end
  closes others end m stands (inl same) = same
  closes others end m stands (inr early) = absurd (clash _ early.1 (ap extends stands ∙ never))

  module _ (end stop : ℕ) (ahead : IsAhead tokens (from + 1) end stop)
      (longest : IsLongest inner extends tokens (from + 1) end stop) (reach : Reaches inner tokens (from + 1) stop)
    where
      ends : (others : List Token) (new : ℕ) → stop ≤ new → BeginAlike tokens others new → (y : Y) (to : ℕ) →
          whole others from y to → HasSymbol others end s.RIGHT_ROUND × (to ≡ end + 1)
      ends others new below agree y to h =
          let read = opened others (sym (agree from (omega (arith, ahead, below))) ∙ bracket) y to h in
          let same = closes others end read.1 read.3
          (longest others (shorter tokens others stop new below agree) read.0 read.1 read.2) in
          (subst (λ k. HasSymbol others k s.RIGHT_ROUND) same read.3, omega (arith, same, read.4))

      carried : Reaches whole tokens from stop
      carried = carries stop (omega (arith, ahead)) ahead.2 reach

      unclosed : {Z : Type 0} {told : List Token → Spelling Z} → is_symbol s.RIGHT_ROUND (what_at tokens end) ≡ false →
          ReadsOnlyAs 16 told whole tokens from (Err (Refused stop))
      unclosed none = record {
        spells = tt;
        only = tt;
        ahead = tt;
        refused = (
          λ others agree y to h.
              clash _ (ap (is_symbol s.RIGHT_ROUND) (ends others stop (omega arith) agree y to h).0)
              (ap (is_symbol s.RIGHT_ROUND) (sym (agree end ahead.1)) ∙ none),
          omega (arith, ahead),
          ahead.2,
        );
        least = carried;
      }

      closed : {Z : Type 0} {told : List Token → Spelling Z} (part : Z) (new : ℕ) → HasSymbol tokens end s.RIGHT_ROUND →
          new ≡ max stop (end + 1) → told tokens from part (end + 1) →
          ReadsOnlyAs 16 told whole tokens from (Ok (record { part = part; end = end + 1; stop = new }))
      closed part new stands is spells = record {
        spells = spells;
        only = λ others agree y to h. (ends others new (omega (arith, is)) agree y to h).1;
        ahead = (
          omega (arith, ahead),
          omega (arith, is),
          omega (arith, is, ahead, symbol_within tokens end s.RIGHT_ROUND stands),
        );
        refused = tt;
        least = goes_max whole tokens from stop (end + 1) new is carried;
      }

module _ (tokens : List Token) (depth from : ℕ) (few : length tokens < 2 ^ 55) (deep : 0 < depth)
    (bracket : HasSymbol tokens from s.LEFT_ROUND) where
  -- ---- a group

  group_opened : (others : List Token) → HasSymbol others from s.LEFT_ROUND → (y : Primary) (to : ℕ) →
      SpellsPrimary others depth from y to →
      (x : Expr) × (m : ℕ) × SpellsExpr others (depth - 1) (from + 1) x m × HasSymbol others m s.RIGHT_ROUND ×
      (to ≡ m + 1)
  group_opened others stands y to h = (only_group others depth from stands y to h).1

  group_carries : Carries (λ tokens. SpellsExpr tokens (depth - 1)) (λ tokens. SpellsPrimary tokens depth)
      tokens from (from + 1) 16 16
  group_carries stop near within r = group_reaches tokens depth from stop few deep bracket (omega arith) within r

  pub group_unread : (halt : Halt) →
      Reads 16 (λ tokens. SpellsExpr tokens (depth - 1)) extends_expression tokens (from + 1) (Err halt) →
      Reads 16 (λ tokens. SpellsPrimary tokens depth) extends_operand tokens from (Err halt)
  group_unread halt read =
      longest_read _
      (unread_inside (λ tokens. SpellsExpr tokens (depth - 1)) (λ tokens. SpellsPrimary tokens depth) extends_expression
      tokens from refl bracket group_opened group_carries halt read.refused read.least)

  module _ (reading : Reading Expr)
      (read : Reads 16 (λ tokens. SpellsExpr tokens (depth - 1)) extends_expression tokens (from + 1) (Ok reading))
    where
      group_reach : Reaches (λ tokens. SpellsExpr tokens (depth - 1)) tokens (from + 1) reading.stop
      group_reach = expr_reach tokens (depth - 1) (from + 1) reading read

      pub group_unclosed : is_symbol s.RIGHT_ROUND (what_at tokens reading.end) ≡ false →
          Reads 16 (λ tokens. SpellsPrimary tokens depth) extends_operand tokens from (Err (Refused reading.stop))
      group_unclosed none =
          longest_read _
          (unclosed (λ tokens. SpellsExpr tokens (depth - 1)) (λ tokens. SpellsPrimary tokens depth) extends_expression
          tokens from refl bracket group_opened group_carries reading.end reading.stop read.ahead read.longest
          group_reach none)

      pub group_closed : (part : Primary) (new : ℕ) → HasSymbol tokens reading.end s.RIGHT_ROUND →
          new ≡ max reading.stop (reading.end + 1) → SpellsPrimary tokens depth from part (reading.end + 1) →
          Reads 16 (λ tokens. SpellsPrimary tokens depth) extends_operand tokens from
          (Ok (record { part = part; end = reading.end + 1; stop = new }))
      group_closed part new stands is spells =
          longest_read _
          (closed (λ tokens. SpellsExpr tokens (depth - 1)) (λ tokens. SpellsPrimary tokens depth) extends_expression
          tokens from refl bracket group_opened group_carries reading.end reading.stop read.ahead read.longest
          group_reach part new stands is spells)

  -- ---- subscripts in brackets

  list_carries : Carries (λ tokens. SpellsSubscriptsList tokens (depth - 1)) (λ tokens. SpellsSelector tokens depth)
      tokens from (from + 1) 16 16
  list_carries stop near within r = bracketed_reaches tokens depth from stop few deep bracket (omega arith) within r

  pub bracketed_unread : {A : Type 0} (halt : Halt) →
      ReadsList {X = Expr} {A = A} 16 (λ tokens. SpellsSubscriptsList tokens (depth - 1)) extends_list
      tokens (from + 1) (Err halt) →
      ReadsOnly 16 (λ tokens. SpellsSelector tokens depth) tokens from (Err halt)
  bracketed_unread halt read =
      unread_inside (λ tokens. SpellsSubscriptsList tokens (depth - 1)) (λ tokens. SpellsSelector tokens depth)
      extends_list tokens from refl bracket (λ others. only_bracketed others depth from) list_carries halt
      read.refused read.least

  module _ {A : Type 0} (reading : Reading (Vec Expr A))
      (read : ReadsList 16 (λ tokens. SpellsSubscriptsList tokens (depth - 1)) extends_list tokens
      (from + 1) (Ok reading)) where
    list_reach : Reaches (λ tokens. SpellsSubscriptsList tokens (depth - 1)) tokens (from + 1) reading.stop
    list_reach = subscripts_reach tokens (depth - 1) (from + 1) reading read

    pub bracketed_unclosed : is_symbol s.RIGHT_ROUND (what_at tokens reading.end) ≡ false →
        ReadsOnly 16 (λ tokens. SpellsSelector tokens depth) tokens from (Err (Refused reading.stop))
    bracketed_unclosed none =
        unclosed (λ tokens. SpellsSubscriptsList tokens (depth - 1)) (λ tokens. SpellsSelector tokens depth)
        extends_list tokens from refl bracket (λ others. only_bracketed others depth from) list_carries
        reading.end reading.stop read.ahead read.longest list_reach none

    pub bracketed_closed : (part : Selector) (new : ℕ) → HasSymbol tokens reading.end s.RIGHT_ROUND →
        new ≡ max reading.stop (reading.end + 1) → SpellsSelector tokens depth from part (reading.end + 1) →
        ReadsOnly 16 (λ tokens. SpellsSelector tokens depth) tokens from
        (Ok (record { part = part; end = reading.end + 1; stop = new }))
    bracketed_closed part new stands is spells =
        closed (λ tokens. SpellsSubscriptsList tokens (depth - 1)) (λ tokens. SpellsSelector tokens depth)
        extends_list tokens from refl bracket (λ others. only_bracketed others depth from) list_carries
        reading.end reading.stop read.ahead read.longest list_reach part new stands is spells
