-- Literals, constants, names, types and the items of formats stand at the tokens that printing gives them.
use Rattle.std.proofs.Common.{◌≡◌, ℕ, ◌+◌, ◌-◌, ◌*◌, ◌/◌, ◌%◌, List, map, Bool, true, false, Option, Some, None, option_map, refl, ap, arith}
use Rattle.std.proofs.Math.Nat.{div-div-eq-div-mul}
use Rattle.pearl_tree.specs.declared.parts.Parts.{Parts}
use Rattle.pearl_tree.specs.declared.name.Number.{Number}
use Rattle.pearl_tree.specs.declared.name.Names.{Names}
use Rattle.pearl_tree.specs.declared.name.Names.TheVariants.{One, Several}
use Rattle.pearl_tree.specs.declared.literal.Secs.TheVariants as secs
use Rattle.pearl_tree.specs.declared.literal.Duration.{Duration}
use Rattle.pearl_tree.specs.declared.literal.Duration.TheVariants.{Hours}
use Rattle.pearl_tree.specs.declared.literal.Literal.{Literal}
use Rattle.pearl_tree.specs.declared.literal.Literal.TheVariants as literal
use Rattle.pearl_tree.specs.declared.literal.Sign.{Sign}
use Rattle.pearl_tree.specs.declared.literal.Sign.TheVariants as sign
use Rattle.pearl_tree.specs.declared.format.Fmt.{Fmt}
use Rattle.pearl_tree.specs.declared.format.Fmt.TheVariants.{Free, Wide}
use Rattle.pearl_tree.specs.declared.typing.Bound.{Bound}
use Rattle.pearl_tree.specs.declared.typing.Basic.{Basic}
use Rattle.pearl_tree.specs.declared.typing.Basic.TheVariants as basic
use Rattle.pearl_tree.specs.declared.typing.Typing.{Typing, Row_of-Field, end_of-Field, more_of-Field}
use Rattle.pearl_tree.specs.declared.typing.Typing as typing
use Rattle.pearl_tree.specs.declared.token.Token.{Token}
use Rattle.pearl_tree.specs.Durations.{milliseconds_of}
use Rattle.pearl_tree.specs.Standing.{SpellsSymbolFlag, SpellsMaybe, SpellsBracketedNumber}
use Rattle.pearl_tree.specs.Expressions.{SpellsMinutes, SpellsSeconds, SpellsDuration, SpellsLiteral, SpellsSign, SpellsConst}
use Rattle.pearl_tree.specs.Types.{SpellsNames, SpellsInt, SpellsUpper, SpellsBound, SpellsBounds, SpellsBasic, SpellsTyping, SpellsFields, SpellsMoreFields}
use Rattle.pearl_tree.specs.Formats.{SpellsFmt}
use Rattle.pearl_tree.specs.declared.symbol.TheConstants as s
use Rattle.pearl_tree.specs.ShownLiterals.{OfNumber, OfDuration, shown_literal, shown_const}
use Rattle.pearl_tree.specs.ShownDeclarations.{shown_names, OfOne, OfSeveral, shown_typing, shown_fields, OfBasic, OfStruct, OfNamed, MoreFields}
use Rattle.pearl_print.specs.Lists.{symbol, number_tokens, maybe, bracketed_number}
use Rattle.pearl_print.specs.Expressions.{carried, literal_tokens, sign_tokens, const_tokens}
use Rattle.pearl_print.specs.Types.{names_tokens, minus_tokens, int_tokens, upper_tokens, bound_tokens, bounds_tokens, basic_tokens, typing_tokens, fields_tokens, more_fields_tokens}
use Rattle.pearl_print.specs.Formats.{fmt_tokens}
use Rattle.pearl_print.specs.Plain.{plain_number, plain_duration, plain_literal, plain_const, plain_names, plain_int, plain_bound, plain_basic, plain_typing, plain_fields, plain_fmt}
use Rattle.pearl_print.proofs.TokenRanges.{place_of, here, starts, HasTokens, cut, cut4, plus_two}
use Rattle.pearl_print.proofs.PlainLists.{Placed, Places, in_parts, bracketed_at, maybe_bracketed_at, maybe_at, name_places, number_places, bracketed_number_places}

pub carried_back : (ms : ℕ) → 3600000 * (ms / 3600000) + 60000 * (ms / 60000 % 60) + (1000 * (ms / 1000 % 60) + ms % 1000) ≡ ms
carried_back ms =
    let minutes : ms / 1000 / 60 ≡ ms / 60000 = div-div-eq-div-mul ms 1000 60 in
    let hours : ms / 60000 / 60 ≡ ms / 3600000 = div-div-eq-div-mul ms 60000 60 in
    omega arith

module _ (before tokens : List Token) where
  -- hours, minutes and seconds, which make so many milliseconds
  duration_at : (ms from to : ℕ) → HasTokens tokens from (carried ms) to →
      (duration : Duration) × SpellsDuration tokens from duration to × (milliseconds_of duration ≡ ms)
  duration_at ms from to g =
      let k = from + 1 + 1 in
      let m = k + 1 + 1 in
      let minutes : Number = record { value = ms / 60000 % 60; place = place_of tokens k } in
      let is_minutes : SpellsMinutes tokens k minutes m = ((g.1.1.0, here tokens k _ g.1.1.0), g.1.1.1.0, plus_two (λ n. m ≡ n) k refl) in
      let seconds = secs.Decimal (ms / 1000 % 60) (ms % 1000) (place_of tokens m) in
      let is_seconds : SpellsSeconds tokens m seconds to =
      (m + 1, (g.1.1.1.1.0, here tokens m _ g.1.1.1.1.0, refl), g.1.1.1.1.1.0, g.1.1.1.1.1.1.0) in (
        Hours (record { value = ms / 3600000; place = place_of tokens from }) (Some minutes) (Some seconds) (place_of tokens from),
        (m, here tokens from _ g.0, (g.0, here tokens from _ g.0), g.1.0, plus_two (λ n. SpellsMinutes tokens n minutes m) from is_minutes, is_seconds),
        carried_back ms,
      )

  literal_at : (a : ℕ) (part : Literal) (b : ℕ) → SpellsLiteral before a part b → (from to : ℕ) → HasTokens tokens from (literal_tokens (shown_literal part)) to →
      Placed (SpellsLiteral tokens) (λ part. plain_literal (shown_literal part)) from part to
  literal_at a (literal.Number number) b h from to g =
      let p = (number_places before tokens).at a number b h from to g in
      record { copy = literal.Number p.copy; spelled = p.spelled; same = ap OfNumber p.same }
  literal_at a (literal.Bits len value place) b h from to g =
      record { copy = literal.Bits len value (place_of tokens from); spelled = (g.0, here tokens from _ g.0, g.1.0); same = refl }
  literal_at a (literal.Text text place) b h from to g =
      record { copy = literal.Text text (place_of tokens from); spelled = (g.0, here tokens from _ g.0, g.1.0); same = refl }
  literal_at a (literal.Clock milliseconds place) b h from to g =
      record { copy = literal.Clock milliseconds (place_of tokens from); spelled = (g.0, here tokens from _ g.0, g.1.0); same = refl }
  literal_at a (literal.Duration duration) b h from to g =
      let p = duration_at (milliseconds_of duration.value) from to g in
      record { copy = literal.Duration (record duration { value = p.0 }); spelled = p.1; same = ap (λ ms. OfDuration (plain_duration ms)) p.2 }

  pub literal_places : Places tokens (SpellsLiteral before) (SpellsLiteral tokens) (λ part. literal_tokens (shown_literal part))
      (λ part. plain_literal (shown_literal part))
  literal_places = record { at = literal_at }

  sign_at : (part : Sign) (from to : ℕ) → HasTokens tokens from (sign_tokens part) to → SpellsSign tokens from part to
  sign_at sign.Plus from to g = (g.0, g.1.0)
  sign_at sign.Minus from to g = (g.0, g.1.0)

  maybe_sign : (part : Option Sign) (from to : ℕ) → HasTokens tokens from (maybe sign_tokens part) to → SpellsMaybe (SpellsSign tokens) from part to
  maybe_sign None from to g = g.0
  maybe_sign (Some part) from to g = sign_at part from to g

  pub const_places : Places tokens (SpellsConst before) (SpellsConst tokens) const_tokens (λ constant. plain_const (shown_const constant))
  const_places = record {
    at = λ a constant b h from to g.
        let p = cut tokens from (maybe sign_tokens constant.sign) (literal_tokens (shown_literal constant.literal)) to g in
        let part = literal_at h.0 constant.literal b h.3 p.0 to p.2 in
        record {
          copy = record { sign = constant.sign; literal = part.copy; place = place_of tokens from };
          spelled = (p.0, starts tokens from _ to g, maybe_sign constant.sign from p.0 p.1, part.spelled);
          same = λ i. record { sign = constant.sign; literal = part.same i; place = 0 };
        };
  }

  pub names_places : Places tokens (SpellsNames before) (SpellsNames tokens) names_tokens (λ names. plain_names (shown_names names))
  names_places = record { at = names_at } where
    names_at : (a : ℕ) (part : Names) (b : ℕ) → SpellsNames before a part b → (from to : ℕ) → HasTokens tokens from (names_tokens part) to →
        Placed (SpellsNames tokens) (λ names. plain_names (shown_names names)) from part to
    names_at a (One name) b h from to g =
        let p = (name_places before tokens).at a name b h from to g in
        record { copy = One p.copy; spelled = p.spelled; same = ap OfOne p.same }
    names_at a (Several names place) b h from to g =
        let p = in_parts from names to
        (bracketed_at before tokens (name_places before tokens) names.items.items a b h.1 from to g) in
        record { copy = Several p.copy (place_of tokens from); spelled = (here tokens from _ g.0, p.spelled); same = ap (λ names. OfSeveral names 0) p.same }

  minus_at : (told : Bool) (from to : ℕ) → HasTokens tokens from (minus_tokens told) to → SpellsSymbolFlag tokens s.MINUS from told to
  minus_at false from to g = g.0
  minus_at true from to g = (g.0, g.1.0)

  int_places : Places tokens (SpellsInt before) (SpellsInt tokens) int_tokens plain_int
  int_places = record {
    at = λ a int b h from to g.
        let p = cut tokens from (minus_tokens int.minus) (number_tokens int.number) to g in
        record {
          copy = record { minus = int.minus; number = record { value = int.number.value; place = place_of tokens p.0 }; place = place_of tokens from };
          spelled = (p.0, starts tokens from _ to g, minus_at int.minus from p.0 p.1, (p.2.0, here tokens p.0 _ p.2.0), p.2.1.0);
          same = refl;
        };
  }

  upper_places : Places tokens (SpellsUpper before) (SpellsUpper tokens) upper_tokens plain_int
  upper_places = record {
    at = λ a int b h from to g.
        let p = int_places.at (a + 1) int b h.1 (from + 1) to g.1 in
        record { copy = p.copy; spelled = (g.0, p.spelled); same = p.same };
  }

  bound_places : Places tokens (SpellsBound before) (SpellsBound tokens) bound_tokens plain_bound
  bound_places = record {
    at = λ a bound b h from to g.
        let p = cut tokens from (int_tokens bound.first) (maybe upper_tokens bound.second) to g in
        let first = int_places.at a bound.first h.0 h.2 from p.0 p.1 in
        let second = maybe_at before tokens upper_places bound.second h.0 b h.3 p.0 to p.2 in
        record {
          copy = record { first = first.copy; second = second.copy; place = place_of tokens from };
          spelled = (p.0, starts tokens from _ to g, first.spelled, second.spelled);
          same = λ i. record { first = first.same i; second = second.same i; place = 0 };
        };
  }

  pub bounds_places : Places tokens (SpellsBounds before) (SpellsBounds tokens) (λ (bounds : Parts Bound). bounds_tokens bounds.items.items)
      (λ (bounds : Parts Bound). map plain_bound bounds.items.items)
  bounds_places = record {
    at = λ a bounds b h from to g. in_parts from bounds to
        (maybe_bracketed_at before tokens bound_places bounds.items.items a b h from to g);
  }

  maybe_number : (o : Option Number) (a b : ℕ) → SpellsMaybe (SpellsBracketedNumber before) a o b → (from to : ℕ) → HasTokens tokens from (maybe bracketed_number o) to →
      Placed (SpellsMaybe (SpellsBracketedNumber tokens)) (option_map plain_number) from o to
  maybe_number o a b h from to g =
      maybe_at before tokens (bracketed_number_places before tokens) o a b h from to g

  basic_at : (a : ℕ) (part : Basic) (b : ℕ) → SpellsBasic before a part b → (from to : ℕ) → HasTokens tokens from (basic_tokens part) to →
      Placed (SpellsBasic tokens) plain_basic from part to
  basic_at a (basic.Sized sort number place) b h from to g =
      let p = maybe_number number (a + 1) b h.2 (from + 1) to g.1 in
      record {
        copy = basic.Sized sort p.copy (place_of tokens from);
        spelled = (here tokens from _ g.0, g.0, p.spelled);
        same = ap (λ number. basic.Sized sort number 0) p.same;
      }
  basic_at a (basic.Clock place) b h from to g =
      record { copy = basic.Clock (place_of tokens from); spelled = (here tokens from _ g.0, g.0, g.1.0); same = refl }
  basic_at a (basic.Duration place) b h from to g =
      record { copy = basic.Duration (place_of tokens from); spelled = (here tokens from _ g.0, g.0, g.1.0); same = refl }

  pub basic_places : Places tokens (SpellsBasic before) (SpellsBasic tokens) basic_tokens plain_basic
  basic_places = record { at = basic_at }

  fmt_at : (a : ℕ) (part : Fmt) (b : ℕ) → SpellsFmt before a part b → (from to : ℕ) → HasTokens tokens from (fmt_tokens part) to →
      Placed (SpellsFmt tokens) plain_fmt from part to
  fmt_at a (Free code width place) b h from to g =
      let p = maybe_number width (a + 1) b h.2 (from + 1) to g.1 in
      record {
        copy = Free code p.copy (place_of tokens from);
        spelled = (here tokens from _ g.0, g.0, p.spelled);
        same = ap (λ width. Free code width 0) p.same;
      }
  fmt_at a (Wide code width place) b h from to g =
      let p = (bracketed_number_places before tokens).at (a + 1) width b h.2 (from + 1) to g.1 in
      record {
        copy = Wide code p.copy (place_of tokens from);
        spelled = (here tokens from _ g.0, g.0, p.spelled);
        same = ap (λ width. Wide code width 0) p.same;
      }

  pub fmt_places : Places tokens (SpellsFmt before) (SpellsFmt tokens) fmt_tokens plain_fmt
  fmt_places = record { at = fmt_at }

  mutual
    typing_at : (depth a : ℕ) (part : Typing) (b : ℕ) → SpellsTyping before depth a part b → (from to : ℕ) → HasTokens tokens from (typing_tokens part) to →
        Placed (SpellsTyping tokens depth) (λ part. plain_typing (shown_typing part)) from part to
    typing_at depth a (typing.Basic part) b h from to g =
        let p = basic_at a part b h from to g in
        record { copy = typing.Basic p.copy; spelled = p.spelled; same = ap OfBasic p.same }
    typing_at depth a (typing.Struct' shape fields place) b h from to g =
        let p = cut tokens (from + 1 + 1) (fields_tokens fields) (symbol s.RIGHT_SQUARE) to g.1.1 in
        let inner = fields_at (depth - 1) (a + 2) _ fields h.0 h.5 (from + 1 + 1) p.0 p.1 in
        record {
          copy = typing.Struct' shape inner.copy (place_of tokens from);
          spelled = (p.0, here tokens from _ g.0, g.0, h.3, g.1.0, plus_two (λ k. SpellsFields tokens (depth - 1) k inner.copy p.0) from inner.spelled, p.2.0, p.2.1.0);
          same = ap (λ fields. OfStruct fields 0) inner.same;
        }
    typing_at depth a (typing.Named name) b h from to g =
        let p = (name_places before tokens).at a name b h from to g in
        record { copy = typing.Named p.copy; spelled = p.spelled; same = ap OfNamed p.same }

    fields_at : (depth a : ℕ) (n : _) (row : Row_of-Field n) (b : ℕ) → SpellsFields before depth a row b → (from to : ℕ) → HasTokens tokens from (fields_tokens row) to →
        Placed (λ from (row : Row_of-Field n) to. SpellsFields tokens depth from row to) (λ (row : Row_of-Field n). plain_fields (shown_fields row)) from row to
    fields_at depth a _ end_of-Field b h from to g = absurd h
    fields_at depth a _ (more_of-Field names bounds part place rest) b h from to g =
        let p = cut4 tokens from (names_tokens names) (bounds_tokens bounds.items.items) (typing_tokens part) (more_fields_tokens rest) to g in
        let first = names_places.at a names h.1.0 h.1.3 from p.0 p.3 in
        let second = bounds_places.at h.1.0 bounds h.1.1 h.1.4 p.0 p.1 p.4 in
        let third = typing_at depth h.1.1 part h.0 h.1.5 p.1 p.2 p.5 in
        let others = more_fields_at depth h.0 _ rest b h.2 p.2 to p.6 in
        record {
          copy = more_of-Field first.copy second.copy third.copy (place_of tokens from) others.copy;
          spelled = (p.2, (p.0, p.1, starts tokens from _ to g, first.spelled, second.spelled, third.spelled), others.spelled);
          same = λ i. MoreFields (first.same i) (second.same i) (third.same i) 0 (others.same i);
        }

    more_fields_at : (depth a : ℕ) (n : _) (row : Row_of-Field n) (b : ℕ) → SpellsMoreFields before depth a row b → (from to : ℕ) → HasTokens tokens from (more_fields_tokens row) to →
        Placed (λ from (row : Row_of-Field n) to. SpellsMoreFields tokens depth from row to) (λ (row : Row_of-Field n). plain_fields (shown_fields row)) from row to
    more_fields_at depth a _ end_of-Field b h from to g = record { copy = end_of-Field; spelled = g.0; same = refl }
    more_fields_at depth a _ (more_of-Field names bounds part place rest) b h from to g =
        let p = cut4 tokens (from + 1) (names_tokens names) (bounds_tokens bounds.items.items) (typing_tokens part) (more_fields_tokens rest) to g.1 in
        let first = names_places.at (a + 1) names h.2.0 h.2.3 (from + 1) p.0 p.3 in
        let second = bounds_places.at h.2.0 bounds h.2.1 h.2.4 p.0 p.1 p.4 in
        let third = typing_at depth h.2.1 part h.0 h.2.5 p.1 p.2 p.5 in
        let others = more_fields_at depth h.0 _ rest b h.3 p.2 to p.6 in
        record {
          copy = more_of-Field first.copy second.copy third.copy (place_of tokens (from + 1)) others.copy;
          spelled = (p.2, g.0, (p.0, p.1, starts tokens (from + 1) _ to g.1, first.spelled, second.spelled, third.spelled), others.spelled);
          same = λ i. MoreFields (first.same i) (second.same i) (third.same i) 0 (others.same i);
        }

  pub typing_places : Places tokens (SpellsTyping before 8) (SpellsTyping tokens 8) typing_tokens (λ part. plain_typing (shown_typing part))
  typing_places = record { at = typing_at 8 }
