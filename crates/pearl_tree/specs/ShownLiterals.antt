-- What a literal says, apart from where its parts lie in memory.
use Rattle.std.specs.Prelude.{ℕ, List, Option}
use Rattle.pearl_tree.specs.declared.name.Number.{Number}
use Rattle.pearl_tree.specs.declared.literal.Duration.{Duration}
use Rattle.pearl_tree.specs.declared.literal.Literal.{Literal}
use Rattle.pearl_tree.specs.declared.literal.Literal.TheVariants as literal
use Rattle.pearl_tree.specs.declared.literal.Sign.{Sign}
use Rattle.pearl_tree.specs.declared.literal.Const.{Const}

pub data ShownLiteral : Type 0 where
  OfNumber : (number : Number) → ShownLiteral
  OfBits : (len value place : ℕ) → ShownLiteral
  OfText : (text : List ℕ) (place : ℕ) → ShownLiteral
  OfClock : (milliseconds place : ℕ) → ShownLiteral
  OfDuration : (duration : Duration) → ShownLiteral

abbrev pub shown_literal : Literal → ShownLiteral
shown_literal (literal.Number number) = OfNumber number
shown_literal (literal.Bits len value place) = OfBits len value place
shown_literal (literal.Text text place) = OfText text.value.items place
shown_literal (literal.Clock milliseconds place) = OfClock milliseconds place
shown_literal (literal.Duration duration) = OfDuration duration.value

pub record ShownConst : Type 0 where
  pub sign : Option Sign
  pub literal : ShownLiteral
  pub place : ℕ

abbrev pub shown_const : Const → ShownConst
shown_const constant =
    record { sign = constant.sign; literal = shown_literal constant.literal; place = constant.place }
