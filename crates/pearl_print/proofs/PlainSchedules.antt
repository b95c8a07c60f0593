-- Schedules, and declarations in a body, stand at the tokens that printing gives them.
use Rattle.std.proofs.Common.{◌≡◌, ℕ, ◌+◌, List, map, Option, option_map, refl, ap}
use Rattle.std.specs.List.{flat_map}
use Rattle.pearl_tree.specs.declared.parts.Parts.{Parts}
use Rattle.pearl_tree.specs.declared.name.Name.{Name}
use Rattle.pearl_tree.specs.declared.expression.Expr.{Expr}
use Rattle.pearl_tree.specs.declared.format.Fmt.{Fmt}
use Rattle.pearl_tree.specs.declared.statement.PeriodEnd.{PeriodEnd}
use Rattle.pearl_tree.specs.declared.statement.PeriodEnd.TheVariants.{Until, During}
use Rattle.pearl_tree.specs.declared.statement.Period.{Period}
use Rattle.pearl_tree.specs.declared.statement.Start.{Start}
use Rattle.pearl_tree.specs.declared.statement.Start.TheVariants as start
use Rattle.pearl_tree.specs.declared.statement.Once.{Once}
use Rattle.pearl_tree.specs.declared.statement.Once.TheVariants as once
use Rattle.pearl_tree.specs.declared.statement.BodyDecl.{BodyDecl}
use Rattle.pearl_tree.specs.declared.token.Token.{Token}
use Rattle.pearl_tree.specs.Standing.{IsName, HasWord, HasSymbol, SpellsMaybe, SpellsEach, SpellsList}
use Rattle.pearl_tree.specs.Formats.{SpellsFmt}
use Rattle.pearl_tree.specs.Statements.{SpellsAfter, SpellsFor, SpellsValue, SpellsPeriodEnd, SpellsPeriod, SpellsStart, SpellsOnce, SpellsBodyDecl}
use Rattle.pearl_tree.specs.ShownExpressions.{ShownExpr, shown_expr}
use Rattle.pearl_tree.specs.ShownDeclarations.{shown_item}
use Rattle.pearl_tree.specs.ShownStatements.{OfUntil, OfDuring, OfAt, OfAfter, OfWhen, OfAll, OnceAt, OnceAfter, shown_period_end, shown_period, shown_start, shown_once, shown_body_decl}
use Rattle.pearl_tree.specs.declared.symbol.TheConstants as s
use Rattle.pearl_tree.specs.declared.word_code.TheConstants as w
use Rattle.pearl_print.specs.Lists.{symbol, listed, maybe}
use Rattle.pearl_print.specs.Expressions.{expr_tokens}
use Rattle.pearl_print.specs.Formats.{fmt_tokens, by_tokens}
use Rattle.pearl_print.specs.Declarations.{item_tokens}
use Rattle.pearl_print.specs.Schedules.{after_tokens, period_end_tokens, period_tokens, start_tokens, once_tokens}
use Rattle.pearl_print.specs.Statements.{for_tokens, value_tokens, body_decl_tokens}
use Rattle.pearl_print.specs.Plain.{plain_name, plain_expr, plain_fmt, plain_item, plain_period_end, plain_period, plain_start, plain_once, plain_body_decl}
use Rattle.pearl_print.proofs.TokenRanges.{place_of, here, HasTokens, cut, plus_two, plus_three}
use Rattle.pearl_print.proofs.PlainLists.{Placed, Places, in_parts, each_at, list_at, maybe_at, seen, seen_option}
use Rattle.pearl_print.proofs.PlainLiterals.{fmt_places}
use Rattle.pearl_print.proofs.PlainExpressions.{expr_places}
use Rattle.pearl_print.proofs.PlainDeclarations.{item_places}

abbrev pub expr_view : Expr → ShownExpr
expr_view expr = plain_expr (shown_expr expr)

module _ (before tokens : List Token) where
  pub after_places : (code : ℕ) → Places tokens (SpellsAfter before code) (SpellsAfter tokens code) (after_tokens code) expr_view
  after_places code = record {
    at = λ a expr b h from to g.
        let p = (expr_places before tokens).at (a + 1) expr b h.1 (from + 1) to g.1 in
        record { copy = p.copy; spelled = (g.0, p.spelled); same = p.same };
  }

  pub maybe_after : (code : ℕ) (o : Option Expr) (a b : ℕ) → SpellsMaybe (SpellsAfter before code) a o b → (from to : ℕ) → HasTokens tokens from (maybe (after_tokens code) o) to →
      Placed (SpellsMaybe (SpellsAfter tokens code)) (option_map expr_view) from o to
  maybe_after code o a b h from to g =
      maybe_at before tokens (after_places code) o a b h from to g

  pub for_places : Places tokens (SpellsFor before) (SpellsFor tokens) for_tokens plain_name
  for_places = record {
    at = λ a name b h from to g. record {
      copy = record { text = name.text; place = place_of tokens (from + 1) };
      spelled = (g.0, (g.1.0, here tokens (from + 1) _ g.1.0), plus_two (λ k. to ≡ k) from g.1.1.0);
      same = refl;
    };
  }

  pub value_places : Places tokens (SpellsValue before) (SpellsValue tokens) value_tokens expr_view
  value_places = record {
    at = λ a expr b h from to g.
        let p = cut tokens (from + 1) (expr_tokens expr) (symbol s.RIGHT_ROUND) to g.1 in
        let part = (expr_places before tokens).at (a + 1) expr h.0 h.2 (from + 1) p.0 p.1 in
        record { copy = part.copy; spelled = (p.0, g.0, part.spelled, p.2.0, p.2.1.0); same = part.same };
  }

  period_end_at : (a : ℕ) (part : PeriodEnd) (b : ℕ) → SpellsPeriodEnd before a part b → (from to : ℕ) → HasTokens tokens from (period_end_tokens part) to →
      Placed (SpellsPeriodEnd tokens) (λ part. plain_period_end (shown_period_end part)) from part to
  period_end_at a (Until time place) b h from to g =
      let p = (after_places w.UNTIL).at a time b h.1 from to g in
      record { copy = Until p.copy (place_of tokens from); spelled = (here tokens from _ g.0, p.spelled); same = ap (λ time. OfUntil time 0) p.same }
  period_end_at a (During duration place) b h from to g =
      let p = (after_places w.DURING).at a duration b h.1 from to g in
      record { copy = During p.copy (place_of tokens from); spelled = (here tokens from _ g.0, p.spelled); same = ap (λ duration. OfDuring duration 0) p.same }

  period_end_places : Places tokens (SpellsPeriodEnd before) (SpellsPeriodEnd tokens) period_end_tokens (λ part. plain_period_end (shown_period_end part))
  period_end_places = record { at = period_end_at }

  period_places : Places tokens (SpellsPeriod before) (SpellsPeriod tokens) period_tokens (λ part. plain_period (shown_period part))
  period_places = record {
    at = λ a part b h from to g.
        let p = cut tokens from (after_tokens w.ALL part.duration) (maybe period_end_tokens part.end) to g in
        let first = (after_places w.ALL).at a part.duration h.0 h.2 from p.0 p.1 in
        let second = maybe_at before tokens period_end_places part.end h.0 b h.3 p.0 to p.2 in
        record {
          copy = record { duration = first.copy; end = second.copy; place = place_of tokens from };
          spelled = (p.0, here tokens from _ g.0, first.spelled, second.spelled);
          same = λ i. record { duration = first.same i; end = seen_option shown_period_end plain_period_end second.copy part.end second.same i; place = 0 };
        };
  }

  maybe_period : (o : Option Period) (a b : ℕ) → SpellsMaybe (SpellsPeriod before) a o b → (from to : ℕ) → HasTokens tokens from (maybe period_tokens o) to →
      Placed (SpellsMaybe (SpellsPeriod tokens)) (λ o. option_map plain_period (option_map shown_period o)) from o to
  maybe_period o a b h from to g =
      let p = maybe_at before tokens period_places o a b h from to g in
      record { copy = p.copy; spelled = p.spelled; same = seen_option shown_period plain_period p.copy o p.same }

  start_at : (a : ℕ) (part : Start) (b : ℕ) → SpellsStart before a part b → (from to : ℕ) → HasTokens tokens from (start_tokens part) to →
      Placed (SpellsStart tokens) (λ part. plain_start (shown_start part)) from part to
  start_at a (start.At time period place) b h from to g =
      let p = cut tokens from (after_tokens w.AT time) (maybe period_tokens period) to g in
      let first = (after_places w.AT).at a time h.0 h.2 from p.0 p.1 in
      let second = maybe_period period h.0 b h.3 p.0 to p.2 in
      record {
        copy = start.At first.copy second.copy (place_of tokens from);
        spelled = (p.0, here tokens from _ g.0, first.spelled, second.spelled);
        same = λ i. OfAt (first.same i) (second.same i) 0;
      }
  start_at a (start.After duration period place) b h from to g =
      let p = cut tokens from (after_tokens w.AFTER duration) (maybe period_tokens period) to g in
      let first = (after_places w.AFTER).at a duration h.0 h.2 from p.0 p.1 in
      let second = maybe_period period h.0 b h.3 p.0 to p.2 in
      record {
        copy = start.After first.copy second.copy (place_of tokens from);
        spelled = (p.0, here tokens from _ g.0, first.spelled, second.spelled);
        same = λ i. OfAfter (first.same i) (second.same i) 0;
      }
  start_at a (start.When interrupt after period place) b h from to g =
      let k = from + 1 + 1 in
      let p = cut tokens k (maybe (after_tokens w.AFTER) after) (maybe period_tokens period) to g.1.1 in
      let first = maybe_after w.AFTER after (a + 2) h.0 h.4 k p.0 p.1 in
      let second = maybe_period period h.0 b h.5 p.0 to p.2 in
      record {
        copy = start.When (record { text = interrupt.text; place = place_of tokens (from + 1) }) first.copy second.copy (place_of tokens from);
        spelled = (
          p.0,
          here tokens from _ g.0,
          g.0,
          (g.1.0, here tokens (from + 1) _ g.1.0),
          plus_two (λ k. SpellsMaybe (SpellsAfter tokens w.AFTER) k first.copy p.0) from first.spelled,
          second.spelled,
        );
        same = λ i. OfWhen (plain_name interrupt) (seen_option shown_expr plain_expr first.copy after first.same i) (second.same i) 0;
      }
  start_at a (start.All period) b h from to g =
      let p = period_places.at a period b h from to g in
      record { copy = start.All p.copy; spelled = p.spelled; same = ap OfAll p.same }

  pub start_places : Places tokens (SpellsStart before) (SpellsStart tokens) start_tokens (λ part. plain_start (shown_start part))
  start_places = record { at = start_at }

  once_at : (a : ℕ) (part : Once) (b : ℕ) → SpellsOnce before a part b → (from to : ℕ) → HasTokens tokens from (once_tokens part) to →
      Placed (SpellsOnce tokens) (λ part. plain_once (shown_once part)) from part to
  once_at a (once.At time place) b h from to g =
      let p = (after_places w.AT).at a time b h.1 from to g in
      record { copy = once.At p.copy (place_of tokens from); spelled = (here tokens from _ g.0, p.spelled); same = ap (λ time. OnceAt time 0) p.same }
  once_at a (once.After duration place) b h from to g =
      let p = (after_places w.AFTER).at a duration b h.1 from to g in
      record { copy = once.After p.copy (place_of tokens from); spelled = (here tokens from _ g.0, p.spelled); same = ap (λ duration. OnceAfter duration 0) p.same }
  once_at a (once.When interrupt place) b h from to g = record {
    copy = once.When (record { text = interrupt.text; place = place_of tokens (from + 1) }) (place_of tokens from);
    spelled = (here tokens from _ g.0, g.0, (g.1.0, here tokens (from + 1) _ g.1.0), plus_two (λ k. to ≡ k) from g.1.1.0);
    same = refl;
  }

  pub once_places : Places tokens (SpellsOnce before) (SpellsOnce tokens) once_tokens (λ part. plain_once (shown_once part))
  once_places = record { at = once_at }

  body_decl_places : Places tokens (SpellsBodyDecl before) (SpellsBodyDecl tokens) body_decl_tokens (λ part. plain_body_decl (shown_body_decl part))
  body_decl_places = record {
    at = λ a part b h from to g.
        let items = part.items in
        let p = cut tokens (from + 1) (listed item_tokens items.items.items) (symbol s.SEMICOLON) to g.1 in
        let list = in_parts (from + 1) items p.0
        (list_at before tokens (item_places before tokens) items.items.items (a + 1) h.0 h.3 (from + 1) p.0 p.1) in
        record {
          copy = record { items = list.copy; place = place_of tokens from };
          spelled = (p.0, here tokens from _ g.0, g.0, list.spelled, p.2.0, p.2.1.0);
          same = λ i. record { items = seen shown_item plain_item list.copy.items.items items.items.items list.same i; place = 0 };
        };
  }

  -- { DCL item { "," item } ";" }
  pub decls_at : (a : ℕ) (parts : Parts BodyDecl) (b : ℕ) → SpellsEach (SpellsBodyDecl before) a parts.items.items b → (from to : ℕ) →
      HasTokens tokens from (flat_map body_decl_tokens parts.items.items) to →
      Placed (λ from (parts : Parts BodyDecl) to. SpellsEach (SpellsBodyDecl tokens) from parts.items.items to)
      (λ (parts : Parts BodyDecl). map plain_body_decl (map shown_body_decl parts.items.items)) from parts to
  decls_at a parts b h from to g =
      let p = in_parts from parts to
      (each_at before tokens body_decl_places parts.items.items a b h from to g) in
      record { copy = p.copy; spelled = p.spelled; same = seen shown_body_decl plain_body_decl p.copy.items.items parts.items.items p.same }

  -- id BY fmt { "," fmt } ";" behind a token
  pub by_at : (dation : Name) (formats : Parts Fmt) (a b : ℕ) → SpellsList before (SpellsFmt before) a formats.items.items b → (k to : ℕ) →
      HasTokens tokens (k + 1) (by_tokens dation formats) to →
      (copy : Parts Fmt) × (m : ℕ) × IsName tokens (k + 1) (record { text = dation.text; place = place_of tokens (k + 1) }) × HasWord tokens (k + 2) w.BY ×
      SpellsList tokens (SpellsFmt tokens) (k + 3) copy.items.items m × HasSymbol tokens m s.SEMICOLON × (to ≡ m + 1) ×
      (map plain_fmt copy.items.items ≡ map plain_fmt formats.items.items)
  by_at dation formats a b h k to g =
      let j = k + 1 + 1 + 1 in
      let p = cut tokens j (listed fmt_tokens formats.items.items) (symbol s.SEMICOLON) to g.1.1 in
      let list = in_parts j formats p.0
      (list_at before tokens (fmt_places before tokens) formats.items.items a b h j p.0 p.1) in (
        list.copy,
        p.0,
        (g.0, here tokens (k + 1) _ g.0),
        plus_two (λ n. HasWord tokens n w.BY) k g.1.0,
        plus_three (λ n. SpellsList tokens (SpellsFmt tokens) n list.copy.items.items p.0) k list.spelled,
        p.2.0,
        p.2.1.0,
        list.same,
      )
