-- Alternatives of CASE: what other tokens can spell that begin as these do, read up to some alternative.
use Rattle.std.proofs.Common.{◌≡◌, ℕ, ◌<◌, ◌≤◌, ◌⊎◌, inl, inr, true, false, List, [], ◌∷◌, length, sym, ap, subst, ◌∙◌}
use Rattle.std.proofs.Common.{arith}
use Rattle.pearl_tree.specs.declared.statement.Stmt.{Stmt}
use Rattle.pearl_tree.specs.declared.statement.Branch.{Branch}
use Rattle.pearl_tree.specs.declared.token.Token.{Token}
use Rattle.pearl_tree.specs.Standing.{what_at, HasWord, SpellsEach, SpellsSome}
use Rattle.pearl_tree.specs.Statements.{SpellsBranch}
use Rattle.pearl_tree.specs.declared.word_code.TheConstants as w
use Rattle.pearl_tree.specs.Stops.{BeginAlike}
use Rattle.pearl_parse_expr.specs.declared.reading.Halt.TheVariants.{Refused}
use Rattle.pearl_parse_expr.specs.Stops.{IsLongest, EndsEarly, is_word}
use Rattle.pearl_parse_expr.proofs.Offered.{clash, shorter, or_second}
use Rattle.pearl_grammar.specs.Reached.{IsStopped}
use Rattle.pearl_parse.specs.Stops.{begins_statement}
use Rattle.pearl_parse.specs.Bodies.{extends_alternatives, SpellsHeaded, SpellsChoices}

abbrev Each : ℕ → List Token → ℕ → List (List Stmt) → ℕ → Type 0
Each depth tokens = SpellsEach (SpellsHeaded depth w.ALT tokens)

-- alternatives from `from` end early, or go through `end`
abbrev pub ChoicesGo : List Token → ℕ → ℕ → ℕ → ℕ → Type 0
ChoicesGo tokens depth from end stop =
    (others : List Token) → BeginAlike tokens others stop → (xs : List (List Stmt)) (to : ℕ) →
    Each depth others from xs to →
    EndsEarly extends_alternatives others end to ⊎ ((ys : List (List Stmt)) × Each depth others end ys to)

module _ (others : List Token) (depth : ℕ) where
  behind : (next m to : ℕ) (ys : List (List Stmt)) → Each depth others m ys to → (m ≡ next) ⊎
      EndsEarly begins_statement others next m →
      EndsEarly extends_alternatives others next to ⊎ ((ys : List (List Stmt)) × Each depth others next ys to)
  behind next m to ys h (inl same) = inr (ys, subst (λ k. Each depth others k ys to) same h)
  behind next m to [] h (inr early) = inl (
    omega (arith, h, early.0),
    subst (λ k. extends_alternatives (what_at others k) ≡ true) (sym h)
        (or_second (is_word w.ALT (what_at others m)) (begins_statement (what_at others m)) early.1),
  )
  behind next m to (y ∷ ys) h (inr early) = absurd (clash _ early.1 (ap begins_statement h.1.0))

  step : (end next to : ℕ) → end < next → HasWord others end w.ALT →
      ((x : List Stmt) (to : ℕ) → SpellsHeaded depth w.ALT others end x to → (to ≡ next) ⊎
      EndsEarly begins_statement others next to) →
      EndsEarly extends_alternatives others end to ⊎ ((ys : List (List Stmt)) × Each depth others end ys to) →
      EndsEarly extends_alternatives others next to ⊎ ((ys : List (List Stmt)) × Each depth others next ys to)
  step end next to ahead here longest (inl early) = inl (omega (arith, early.0), early.1)
  step end next to ahead here longest (inr ([], h)) = inl (
    omega (arith, h),
    subst (λ k. extends_alternatives (what_at others k) ≡ true) (sym h) (ap extends_alternatives here),
  )
  step end next to ahead here longest (inr (y ∷ ys, h)) = behind next h.0 to ys h.2 (longest y h.0 h.1)

  last : (end to : ℕ) → is_word w.ALT (what_at others end) ≡ false →
      EndsEarly extends_alternatives others end to ⊎ ((ys : List (List Stmt)) × Each depth others end ys to) →
      (to ≡ end) ⊎ EndsEarly extends_alternatives others end to
  last end to none (inl early) = inr early
  last end to none (inr ([], h)) = inl h
  last end to none (inr (y ∷ ys, h)) = absurd (clash _ (ap (is_word w.ALT) h.1.0) none)

  each_of : (from : ℕ) (xs : List (List Stmt)) (to : ℕ) → SpellsChoices depth others from xs to →
      Each depth others from xs to
  each_of from [] to h = absurd h
  each_of from (x ∷ xs) to h = h

  pub some_of : (from : ℕ) (xs : List Branch) (to : ℕ) → HasWord others from w.ALT →
      is_word w.ALT (what_at others to) ≡ false →
      SpellsEach (SpellsBranch others depth w.ALT) from xs to → SpellsSome (SpellsBranch others depth w.ALT) from xs to
  some_of from [] to here none h = absurd (clash _
      (ap (is_word w.ALT) (subst (λ k. HasWord others k w.ALT) (sym h) here)) none)
  some_of from (x ∷ xs) to here none h = h

module _ (tokens : List Token) (depth from : ℕ) where
  pub choices_begin : (stop : ℕ) → ChoicesGo tokens depth from from stop
  choices_begin stop = λ others agree xs to h. inr (xs, h)

  pub choices_next : (end stop next new : ℕ) → ChoicesGo tokens depth from end stop → end ≤ stop → end < next →
      stop ≤ new → HasWord tokens end w.ALT →
      IsLongest (SpellsHeaded depth w.ALT) begins_statement tokens end next new → ChoicesGo tokens depth from next new
  choices_next end stop next new go near ahead below here longest = λ others agree xs to h.
      step others depth end next to ahead (sym (agree end (omega arith)) ∙ here)
      (λ x to h. longest others agree x to h)
      (go others (shorter tokens others stop new below agree) xs to h)

  pub choices_end : (end stop : ℕ) → ChoicesGo tokens depth from end stop → end ≤ stop →
      is_word w.ALT (what_at tokens end) ≡ false →
      IsLongest (SpellsChoices depth) extends_alternatives tokens from end stop
  choices_end end stop go near none = λ others agree xs to h.
      last others depth end to (ap (is_word w.ALT) (sym (agree end near)) ∙ none)
      (go others agree xs to (each_of others depth from xs to h))

  -- no alternative stands
  pub no_choice : (least_stop : ℕ) → from ≤ least_stop → least_stop ≤ length tokens →
      is_word w.ALT (what_at tokens from) ≡ false →
      IsStopped (SpellsChoices depth) tokens from least_stop (Refused least_stop)
  no_choice least_stop near within none = (λ others agree xs to h. by others agree xs to h, near, omega arith, within)
    where
      by : (others : List Token) → BeginAlike tokens others least_stop → (xs : List (List Stmt)) (to : ℕ) →
          SpellsChoices depth others from xs to → ⊥
      by others agree [] to h = h
      by others agree (x ∷ xs) to h = clash _ (ap (is_word w.ALT) h.1.0)
          (ap (is_word w.ALT) (sym (agree from near)) ∙ none)
