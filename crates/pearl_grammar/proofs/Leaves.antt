-- Parts of one token, and those that expressions are made of: the facts that productions take of them.
use Rattle.std.proofs.Common.{ℕ, ◌+◌, ◌<◌, inl, inr, List, [], ◌∷◌, Some, ap, ◌∙◌, arith}
use Rattle.std.specs.Option.{option_map}
use Rattle.pearl_tree.specs.declared.token.What.TheVariants as what
use Rattle.pearl_tree.specs.declared.literal.Sign.TheVariants as sign
use Rattle.pearl_tree.specs.declared.literal.Literal.TheVariants as literal
use Rattle.pearl_tree.specs.Standing.{what_at, SpellsName, SpellsNumber}
use Rattle.pearl_tree.specs.Expressions.{SpellsSign, SpellsLiteral, SpellsExpr, SpellsOwnRef, SpellsSelector}
use Rattle.pearl_tree.specs.Tokens.{IsLawfulWhat}
use Rattle.pearl_tree.specs.declared.limit.TheConstants as limit
use Rattle.pearl_tree.specs.declared.symbol.TheConstants as s
use Rattle.pearl_tree.proofs.Offered.{literal_after, terms_after, selector_after}
use Rattle.pearl_parse_expr.proofs.Offered as local
use Rattle.pearl_parse_expr.proofs.Offered.{Keeps, Kept, each_keeps, token_of, x_name, x_token, letter_lawful, parts_of}
use Rattle.pearl_parse_expr.proofs.Offered.{literal_head}
use Rattle.pearl_grammar.specs.Rules.{SpellsOneWord}
use Rattle.pearl_grammar.proofs.Rests.{Ends, ends_fill, fills_as, fills_token}
use Rattle.pearl_grammar.proofs.Tokens.{Kind, ASymbol, AnId, ANumber, ALiteral, Among, Leads, some_kind}
use Rattle.pearl_grammar.proofs.RuleFacts.{Leaf}

-- ---- names and numbers

pub name_keeps : Kept 1 SpellsName
name_keeps tokens others k alike from x to h near =
    (omega (arith, h.1), (local.name tokens others k alike from x (omega (arith, h.1)) h.0, h.1))

abbrev pub id : Leaf SpellsName
id = record {
  least = 1;
  kept = name_keeps;
  fill = 1;
  fills = fills_token 0 Ends ends_fill x_token (λ others at to. (x : _) × SpellsName others at x to)
      (letter_lawful 120 (inr (omega arith, omega arith)))
      (λ others k to here h. (
        x_name,
        ((ap (option_map (λ token. token.what)) here, ap (option_map (λ token. token.place)) here), h),
      ));
  firsts = AnId ∷ [];
  leads = λ others from x to h. inr (inl (x, h.0.0));
}

pub number_keeps : Kept 1 SpellsNumber
number_keeps tokens others k alike from x to h near =
    (omega (arith, h.1), (local.number tokens others k alike from x (omega (arith, h.1)) h.0, h.1))

abbrev pub number : Leaf SpellsNumber
number = record {
  least = 1;
  kept = number_keeps;
  fill = 1;
  fills = fills_token 0 Ends ends_fill (token_of (what.Number 0)) (λ others at to. (x : _) × SpellsNumber others at x to)
      (omega arith)
      (λ others k to here h. (
        record { value = 0; place = 0 },
        ((ap (option_map (λ token. token.what)) here, ap (option_map (λ token. token.place)) here), h),
      ));
  firsts = ANumber ∷ [];
  leads = λ others from x to h. inr (inl (x.value, h.0.0));
}

-- ---- one of several words

module _ {X : Type 0} (code : X → ℕ) (x : X) (known : IsLawfulWhat (what.Word (code x))) (kinds : List Kind)
    (among : (y : X) → Among kinds (Some (what.Word (code y)))) where
  pub word_keeps : Kept 1 (SpellsOneWord code)
  word_keeps tokens others k alike from y to h near =
      (omega (arith, h.1), (local.what tokens others k alike from (omega (arith, h.1)) ∙ h.0, h.1))

  abbrev pub one_word : Leaf (SpellsOneWord code)
  one_word = record {
    least = 1;
    kept = word_keeps;
    fill = 1;
    fills = fills_token 0 Ends ends_fill (token_of (what.Word (code x)))
        (λ others at to. (y : X) × SpellsOneWord code others at y to) known
        (λ others k to here h. (x, (ap (option_map (λ token. token.what)) here, h)));
    firsts = kinds;
    leads = λ others from y to h. inr (some_kind kinds (what_at others from) (Some (what.Word (code y))) h.0 (among y));
  }

-- ---- constants

pub sign_keeps : Kept 1 SpellsSign
sign_keeps tokens others k alike from sign.Plus to h near =
    (omega (arith, h.1), (local.what tokens others k alike from (omega (arith, h.1)) ∙ h.0, h.1))
sign_keeps tokens others k alike from sign.Minus to h near =
    (omega (arith, h.1), (local.what tokens others k alike from (omega (arith, h.1)) ∙ h.0, h.1))

pub sign_leads : Leads SpellsSign (ASymbol s.PLUS ∷ ASymbol s.MINUS ∷ [])
sign_leads others from sign.Plus to h = inr (inl h.0)
sign_leads others from sign.Minus to h = inr (inr (inl h.0))

abbrev pub plus_or_minus : Leaf SpellsSign
plus_or_minus = record {
  least = 1;
  kept = sign_keeps;
  fill = 1;
  fills = fills_token 0 Ends ends_fill (token_of (what.Symbol s.PLUS)) (λ others at to. (x : _) × SpellsSign others at x to)
      (omega arith) (λ others k to here h. (sign.Plus, (ap (option_map (λ token. token.what)) here, h)));
  firsts = ASymbol s.PLUS ∷ ASymbol s.MINUS ∷ [];
  leads = sign_leads;
}

pub literal_keeps : Kept 1 SpellsLiteral
literal_keeps tokens others k alike from x to h near =
    (omega (arith, literal_after tokens from x to h), local.literal_local tokens others k alike from x to h near)

abbrev pub a_literal : Leaf SpellsLiteral
a_literal = record {
  least = 1;
  kept = literal_keeps;
  fill = 1;
  fills = fills_as 1 (λ others at to. (x : _) × SpellsNumber others at x to) number.fills
      (λ others at to. (x : _) × SpellsLiteral others at x to) (λ others k to h. (literal.Number h.0, h.1));
  firsts = ALiteral ∷ [];
  leads = λ others from x to h. inr (inl (literal_head others from x to h));
}

-- ---- expressions and references of statements

pub expr_keeps : (depth : ℕ) → Kept 1 (λ tokens. SpellsExpr tokens depth)
expr_keeps depth tokens others k alike from x to h near = (
  omega (arith, terms_after tokens depth from x to h.0),
  (local.terms_local tokens others k alike depth from x to h.0 near, h.1),
)

selector_keeps : (depth : ℕ) → Kept 1 (λ tokens. SpellsSelector tokens depth)
selector_keeps depth tokens others k alike from x to h near = (
  omega (arith, selector_after tokens depth from x to h),
  local.selector_local tokens others k alike depth from x to h near,
)

pub own_ref_keeps : Kept 1 SpellsOwnRef
own_ref_keeps tokens others k alike from x to h near =
    let rest = each_keeps tokens others k alike 1 (λ tokens. SpellsSelector tokens limit.OWN_BRACKETS_MAX)
    (selector_keeps limit.OWN_BRACKETS_MAX tokens others k alike) (from + 1) x.selectors.items.items to h.2 near in
    let below : from < k = omega (arith, rest.0) in (
      omega (arith, rest.0),
      (
        local.place tokens others k alike from below ∙ h.0,
        local.name tokens others k alike from x.name below h.1,
        rest.1,
      ),
    )

abbrev pub own_reference : Leaf SpellsOwnRef
own_reference = record {
  least = 1;
  kept = own_ref_keeps;
  fill = 1;
  fills = fills_token 0 Ends ends_fill x_token (λ others at to. (x : _) × SpellsOwnRef others at x to)
      (letter_lawful 120 (inr (omega arith, omega arith)))
      (λ others k to here h.
      let what = ap (option_map (λ token. token.what)) here in
      let place = ap (option_map (λ token. token.place)) here in
      (record { name = x_name; selectors = parts_of [] (omega arith); place = 0 }, (place, (what, place), h)));
  firsts = AnId ∷ [];
  leads = λ others from x to h. inr (inl (x.name, h.1.0));
}
