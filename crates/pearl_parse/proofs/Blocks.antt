-- Declarations, and statements behind them.
use Rattle.std.specs.Option.{option_map}
use Rattle.std.proofs.Common.{◌≡◌, ℕ, ◌<◌, ◌≤◌, ◌⊎◌, inl, inr, true, false, List, [], ◌∷◌, Option, Some, None, length}
use Rattle.std.proofs.Common.{slice_get, refl, sym, ap, subst, ◌∙◌, arith}
use Rattle.std.proofs.lemmas.Option.{slice_get_past}
use Rattle.pearl_tree.specs.declared.statement.Stmt.{Stmt}
use Rattle.pearl_tree.specs.declared.token.What.{What}
use Rattle.pearl_tree.specs.declared.token.Token.{Token}
use Rattle.pearl_tree.specs.Standing.{what_at, SpellsEach}
use Rattle.pearl_tree.specs.Statements.{SpellsBodyDecl, SpellsWholeBody}
use Rattle.pearl_tree.specs.declared.word_code.TheConstants as w
use Rattle.pearl_parse_expr.specs.declared.reading.Halt.{Halt}
use Rattle.pearl_parse_expr.specs.declared.reading.Halt.TheVariants.{Refused, NoMemory}
use Rattle.pearl_parse_expr.specs.Stops.{IsLongest, EndsEarly, IsHalted, is_word}
use Rattle.pearl_parse_expr.proofs.Offered.{clash, shorter, or_first, or_second}
use Rattle.pearl_grammar.specs.Reached.{IsStopped}
use Rattle.pearl_parse.specs.Stops.{begins_statement}
use Rattle.pearl_parse.specs.Bodies.{extends_body, SpellsStatements, SpellsBlock}
use Rattle.pearl_parse.proofs.ByFirst.{stmt_begins}
use Rattle.pearl_parse.proofs.Words.{word_holds}

-- no statement begins with DCL
declares : (token : Option What) → is_word w.DCL token ≡ true → begins_statement token ≡ false
declares token h = word_holds (λ token. begins_statement token ≡ false) w.DCL token refl h

module _ (others : List Token) (depth end : ℕ) where
  -- behind declarations that could go on
  early : (xs : List Stmt) (m to : ℕ) → m < end → is_word w.DCL (what_at others m) ≡ true →
      SpellsStatements depth others m xs to → EndsEarly extends_body others end to
  early [] m to ahead dcl h = (
    omega (arith, h, ahead),
    subst (λ k. extends_body (what_at others k) ≡ true) (sym h) (or_first (is_word w.DCL (what_at others m))
        (begins_statement (what_at others m)) dcl),
  )
  early (x ∷ xs) m to ahead dcl h = absurd (clash _ (stmt_begins others depth m x h.0 h.1)
      (declares (what_at others m) dcl))

  by_parts : (middle : ℕ) (xs : List Stmt) (m to : ℕ) → middle ≤ end → (m ≡ middle) ⊎
      EndsEarly (is_word w.DCL) others middle m → SpellsStatements depth others m xs to →
      ((xs : List Stmt) (to : ℕ) → SpellsStatements depth others middle xs to → (to ≡ end) ⊎
      EndsEarly begins_statement others end to) →
      (to ≡ end) ⊎ EndsEarly extends_body others end to
  by_parts middle xs m to near (inl same) h longest = on
      (longest xs to (subst (λ k. SpellsStatements depth others k xs to) same h))
    where
      on : (to ≡ end) ⊎ EndsEarly begins_statement others end to → (to ≡ end) ⊎ EndsEarly extends_body others end to
      on (inl same) = inl same
      on (inr early) = inr (
        early.0,
        or_second (is_word w.DCL (what_at others to))
            (begins_statement (what_at others to)) early.1,
      )
  by_parts middle xs m to near (inr stops) h longest = inr (early xs m to (omega (arith, stops.0, near)) stops.1 h)

pub block_is_longest : (tokens : List Token) (depth from middle first end stop : ℕ) → first ≤ stop → middle ≤ end →
    IsLongest (λ tokens. SpellsEach (SpellsBodyDecl tokens)) (is_word w.DCL) tokens from middle first →
    IsLongest (SpellsStatements depth) begins_statement tokens middle end stop →
    IsLongest (SpellsBlock depth) extends_body tokens from end stop
block_is_longest tokens depth from middle first end stop below near declared stated = λ others agree x to h.
    by_parts others depth end middle x.1.1 h.0 to near (declared others (shorter tokens others first stop below agree)
    x.1.0 h.0 h.2) h.3 (λ xs to h. stated others agree xs to h)

-- a body has a token
token_of : (found : Option Token) (place : ℕ) → option_map (λ token. token.place) found ≡ Some place →
    option_map (λ token. token.what) found ≡ None → ⊥
token_of None place at none = let e = at in cc e
token_of (Some token) place at none = let e = none in cc e

pub no_block : (tokens : List Token) (depth from least_stop : ℕ) → length tokens ≤ from → from ≤ least_stop →
    least_stop ≤ length tokens → IsStopped (SpellsBlock depth) tokens from least_stop (Refused least_stop)
no_block tokens depth from least_stop last near within = (
  λ others agree x to h.
      let none : what_at tokens from ≡ None = ap (option_map (λ (t : Token). t.what))
      (slice_get_past tokens from last) in
      token_of (slice_get others from) x.0 h.1 (sym (agree from near) ∙ none),
  near,
  omega arith,
  within,
)

-- a whole body
pub whole_is_longest : (tokens : List Token) (from end stop : ℕ) →
    IsLongest (SpellsBlock 32) extends_body tokens from end stop →
    IsLongest SpellsWholeBody extends_body tokens from end stop
whole_is_longest tokens from end stop longest = λ others agree body to h.
    longest others agree (body.place, (body.declarations.items.items, body.statements.items.items)) to h

pub no_whole : (tokens : List Token) (from : ℕ) (halt : Halt) → IsStopped (SpellsBlock 32) tokens from from halt →
    IsHalted SpellsWholeBody tokens from halt
no_whole tokens from NoMemory h = tt
no_whole tokens from (Refused stop) h = (
  λ others agree body to whole. h.0 others agree
      (body.place, (body.declarations.items.items, body.statements.items.items)) to whole,
  h.1,
  h.3,
)
