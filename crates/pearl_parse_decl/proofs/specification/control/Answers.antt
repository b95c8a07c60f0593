-- What `control` answers where CONTROL stands and no bracket behind it, no ALL in it, or no bracket that closes it.
use Rattle.std.proofs.Common.{rules, ◌≡◌, ℕ, ◌+◌, ◌≤◌, ◌<◌, ◌^◌, ◌⊎◌, inl, inr, max, Bool, true, false, List, length, Option}
use Rattle.std.proofs.Common.{Ok, codes, refl, sym, subst, ap, ◌∙◌, arith}
use Rattle.pearl_tree.specs.declared.token.What.{What}
use Rattle.pearl_tree.specs.declared.token.Token.{Token}
use Rattle.pearl_tree.specs.declared.symbol.TheConstants as s
use Rattle.pearl_tree.specs.declared.word_code.TheConstants as w
use Rattle.pearl_tree.specs.Standing.{what_at, HasId}
use Rattle.pearl_tree.specs.Declarations.{SpellsControl}
use Rattle.pearl_parse_expr.specs.declared.reading.Halt.TheVariants.{Refused}
use Rattle.pearl_parse_expr.specs.Stops.{IsLongest, EndsEarly, StopsWithin, is_name}
use Rattle.pearl_parse_expr.proofs.Offered as local
use Rattle.pearl_grammar.specs.Rules.{Rule, End, word, symbol}
use Rattle.pearl_grammar.proofs.Offered as states
use Rattle.pearl_grammar.proofs.Offered.{Left, Facts, fill_of, rule_fills, control_said, Walk, token_read}
use Rattle.pearl_parse_decl.specs.Readings.{ReadsMaybePart}
use Rattle.pearl_parse_decl.proofs.specification.control.Goals as goal

-- "(" ALL ")"
abbrev called_rule : Rule
called_rule = symbol s.LEFT_ROUND (word w.ALL (symbol s.RIGHT_ROUND End))

abbrev called_facts : Facts called_rule
called_facts = (omega arith, (omega arith, (omega arith, tt)))

module _ (tokens : List Token) (from : ℕ) (stands : HasId tokens from (codes "CONTROL")) (there : from < length tokens)
    (few : length tokens < 2 ^ 55) where
  -- behind CONTROL, before which a whole may end
  called : Walk 16 SpellsControl tokens from 0 called_rule called_facts is_name (from + 1) from
  called = record {
    goes = λ others agree x to h. by others (sym (agree from (omega arith)) ∙ stands) x to h;
    level = record {
      own = from;
      told = inl (omega arith);
      is = omega arith;
      comes = λ others alike to small h. (
        true,
        (control_said others from true to).1 (local.what tokens others (from + 1) alike from (omega arith) ∙ stands, h.1),
      );
      near = omega arith;
      inside = omega (arith, there);
      reach = omega (arith, there);
      few = few;
      small = omega arith;
    };
    firm = tt;
    near = omega arith;
    inside = omega (arith, there);
  }
    where
      by : (others : List Token) → HasId others from (codes "CONTROL") → (x : Bool) (to : ℕ) → SpellsControl others from x to →
          Left called_rule others (from + 1) to ⊎ EndsEarly is_name others (from + 1) to
      by others here true to h = inl (tt, ((control_said others from true to).0 h).1)
      by others here false to h =
          inr (omega (arith, h), subst (λ k. is_name (what_at others k) ≡ true) (sym h) (ap is_name here))

-- CONTROL is missing, as far as some goes on
missing : {tokens : List Token} {from at k : ℕ} {rule : Rule} {facts : Facts rule} {early : Option What → Bool} →
    IsLongest SpellsControl is_name tokens from from k → StopsWithin tokens from from from k →
    Walk 16 SpellsControl tokens from 0 rule facts early at from → fill_of rule facts ≤ 16 → k ≡ max from at →
    ReadsMaybePart 16 SpellsControl is_name tokens from (Ok (record { part = false; end = from; stop = k }))
missing {tokens} {from} {at} {k} {rule} {facts} longest bounds a few is = record {
  spells = refl;
  longest = longest;
  bounds = bounds;
  refused = tt;
  least = record {
    goes = inr (states.halts_in 16 SpellsControl tokens from 0 (omega arith) (Refused k)
        (states.halt_token 16 SpellsControl tokens from 0 (fill_of rule facts) (Left rule) (rule_fills rule facts a.firm) few
        at from k a.level is));
  };
}

pub returns-then-not-is_symbol : goal.returns-then-not-is_symbol
returns-then-not-is_symbol c =
    missing (search rules) (search rules)
    (called c.args.tokens.now c.args.from (c.if-not-is_control.ensures.stands refl) (c.if-not-is_control.ensures.within refl)
    (search rules)) (omega arith) (omega arith)

pub returns-then-not-is_word : goal.returns-then-not-is_word
returns-then-not-is_word c =
    missing (search rules) (search rules)
    (token_read {next = c.args.from + 2} (called c.args.tokens.now c.args.from (c.if-not-is_control.ensures.stands refl)
    (c.if-not-is_control.ensures.within refl) (search rules)) (omega arith) (c.if-not-is_symbol.ensures.stands refl)
    (c.if-not-is_symbol.ensures.within refl)) (omega arith) (omega arith)

pub returns-then-not-is_symbol-2 : goal.returns-then-not-is_symbol-2
returns-then-not-is_symbol-2 c =
    missing (search rules) (search rules)
    (token_read {next = c.args.from + 3} (token_read {next = c.args.from + 2}
    (called c.args.tokens.now c.args.from (c.if-not-is_control.ensures.stands refl) (c.if-not-is_control.ensures.within refl)
    (search rules)) (omega arith) (c.if-not-is_symbol.ensures.stands refl) (c.if-not-is_symbol.ensures.within refl))
    (omega arith) (c.if-not-is_word.ensures.stands refl) (c.if-not-is_word.ensures.within refl)) (omega arith) (omega arith)
