-- A literal begins with no sign.
use Rattle.std.proofs.Common.{◌≡◌, true, false, Option, Some, None, refl, sym, true≢false}
use Rattle.pearl_tree.specs.declared.token.What.{What}
use Rattle.pearl_tree.specs.declared.token.What.TheVariants as what
use Rattle.pearl_parse_expr.specs.Stops.{is_literal}
use Rattle.pearl_parse_decl.specs.Readings.{is_sign}

pub literal_is_no_sign : (token : Option What) → is_literal token ≡ true → is_sign token ≡ false
literal_is_no_sign (Some (what.Word code)) h = absurd (true≢false (sym h))
literal_is_no_sign (Some (what.Id text)) h = refl
literal_is_no_sign (Some (what.Number value)) h = refl
literal_is_no_sign (Some (what.Decimal whole thousandths)) h = refl
literal_is_no_sign (Some (what.Clock milliseconds)) h = refl
literal_is_no_sign (Some (what.Bits len value)) h = refl
literal_is_no_sign (Some (what.Text text)) h = refl
literal_is_no_sign (Some (what.Symbol symbol)) h = absurd (true≢false (sym h))
literal_is_no_sign None h = refl
