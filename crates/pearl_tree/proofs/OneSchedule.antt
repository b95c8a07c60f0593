-- What tokens spell is one item of a format, one time of a statement: the same, and up to the same token.
use Rattle.std.proofs.Common.{◌≡◌, ◌≢◌, ◌⊎◌, inl, inr, ℕ, ◌+◌, ◌*◌, false, List, [], ◌∷◌, Option, Some, None, option_map, T, eqb, refl, sym, ap, subst, ◌∙◌, arith}
use Rattle.std.proofs.Math.Facts.{yes_eqb}
use Rattle.pearl_tree.specs.declared.expression.Expr.{Expr}
use Rattle.pearl_tree.specs.declared.expression.Ref.{Ref}
use Rattle.pearl_tree.specs.declared.expression.Side.TheVariants.{Lower, Upper}
use Rattle.pearl_tree.specs.declared.format.FreeCode.{FreeCode}
use Rattle.pearl_tree.specs.declared.format.FreeCode.TheVariants.{A, B, B1, B2, B3, B4, X, Skip}
use Rattle.pearl_tree.specs.declared.format.WideCode.{WideCode}
use Rattle.pearl_tree.specs.declared.format.WideCode.TheVariants as wide
use Rattle.pearl_tree.specs.declared.format.Fmt.{Fmt}
use Rattle.pearl_tree.specs.declared.format.Fmt.TheVariants.{Free, Wide}
use Rattle.pearl_tree.specs.declared.statement.PeriodEnd.{PeriodEnd}
use Rattle.pearl_tree.specs.declared.statement.PeriodEnd.TheVariants.{Until, During}
use Rattle.pearl_tree.specs.declared.statement.Period.{Period}
use Rattle.pearl_tree.specs.declared.statement.Start.{Start}
use Rattle.pearl_tree.specs.declared.statement.Start.TheVariants as start
use Rattle.pearl_tree.specs.declared.statement.Once.{Once}
use Rattle.pearl_tree.specs.declared.statement.Once.TheVariants as once
use Rattle.pearl_tree.specs.declared.token.What.{What}
use Rattle.pearl_tree.specs.declared.token.What.TheVariants as what
use Rattle.pearl_tree.specs.declared.token.Token.{Token}
use Rattle.pearl_tree.specs.Standing.{HasWord, HasSymbol, HasId, SpellsMaybe}
use Rattle.pearl_tree.specs.Expressions.{SpellsWhole, SpellsOwnRef, side_word}
use Rattle.pearl_tree.specs.Formats.{SpellsFmt, free_text, wide_text}
use Rattle.pearl_tree.specs.Statements.{SpellsAfter, SpellsPeriodEnd, SpellsPeriod, SpellsStart, SpellsOnce}
use Rattle.pearl_tree.specs.Following.{is_monadic, lengthens_ref, lengthens_expr, HasOneOf}
use Rattle.pearl_tree.specs.ShownExpressions.{shown_expr, shown_ref}
use Rattle.pearl_tree.specs.ShownStatements.{OfUntil, OfDuring, shown_period_end, shown_period, OfAt, OfAfter, OfWhen, OfAll, shown_start, OnceAt, OnceAfter, OnceWhen, shown_once}
use Rattle.pearl_tree.specs.declared.word_code.TheConstants as w
use Rattle.pearl_tree.proofs.Meeting.{same_word, has_none, meets_once}
use Rattle.pearl_tree.proofs.Chains.{exprs_meet, refs_meet, no_terms}
use Rattle.pearl_tree.proofs.Operands.{Reads, no_primary, no_operand}
use Rattle.pearl_tree.proofs.OneLiteral.{same_place, same_name}
use Rattle.pearl_tree.proofs.OneExpression.{same_expr, same_ref}
use Rattle.pearl_tree.proofs.OneType.{NoBracket, maybe_number, one_bracketed_number}
use Rattle.pearl_tree.proofs.OneList.{maybe_one}

module _ (tokens : List Token) where
  -- ---- expressions and references before a token that doesn't lengthen them

  abbrev pub ExprStops : ℕ → Type 0
  ExprStops k = HasOneOf lengthens_expr tokens k → ⊥

  abbrev pub RefStops : ℕ → Type 0
  RefStops k = HasOneOf lengthens_ref tokens k → ⊥

  pub one_whole : (from : ℕ) (a b : Expr) (to end : ℕ) → SpellsWhole tokens from a to → ExprStops to → SpellsWhole tokens from b end → ExprStops end →
      (shown_expr a ≡ shown_expr b) × (to ≡ end)
  one_whole from a b to end h i g j =
      let at = meets_once (HasOneOf lengthens_expr tokens) i j (exprs_meet tokens 32 from a b to end h.0 g.0) in
      (same_expr tokens 32 from a b end (subst (λ k. SpellsWhole tokens from a k) at h).0 g.0, at)

  pub one_own_ref : (from : ℕ) (a b : Ref) (to end : ℕ) → SpellsOwnRef tokens from a to → RefStops to → SpellsOwnRef tokens from b end → RefStops end →
      (shown_ref a ≡ shown_ref b) × (to ≡ end)
  one_own_ref from a b to end h i g j =
      let at = meets_once (HasOneOf lengthens_ref tokens) i j (refs_meet tokens 33 from a b to end h g) in
      (same_ref tokens 33 from a b end (subst (λ k. SpellsOwnRef tokens from a k) at h) g, at)

  pub one_after : (word from : ℕ) (a b : Expr) (to end : ℕ) → SpellsAfter tokens word from a to → ExprStops to → SpellsAfter tokens word from b end →
      ExprStops end → (shown_expr a ≡ shown_expr b) × (to ≡ end)
  one_after word from a b to end h i g j = one_whole (from + 1) a b to end h.1 i g.1 j

  pub word_stops : (k code : ℕ) → HasWord tokens k code → lengthens_expr (what.Word code) ≡ false → ExprStops k
  word_stops k code h e g = has_none tokens lengthens_expr k (what.Word code) h e g

  pub symbol_stops : (k symbol : ℕ) → HasSymbol tokens k symbol → lengthens_expr (what.Symbol symbol) ≡ false → ExprStops k
  symbol_stops k symbol h e g = has_none tokens lengthens_expr k (what.Symbol symbol) h e g

  -- [ word expr ]
  pub maybe_after : (word from : ℕ) (a b : Option Expr) (to end : ℕ) → SpellsMaybe (SpellsAfter tokens word) from a to → (HasWord tokens to word → ⊥) → ExprStops to →
      SpellsMaybe (SpellsAfter tokens word) from b end → (HasWord tokens end word → ⊥) → ExprStops end →
      (option_map shown_expr a ≡ option_map shown_expr b) × (to ≡ end)
  maybe_after word from a b to end h i p g j q =
      maybe_one (SpellsAfter tokens word) shown_expr (λ k. HasWord tokens k word) ExprStops (λ k x m h. h.0) (one_after word) a b from to end h i p g j q

  -- what stands before such a part, or before what follows where it is missing
  pub before_after : (word from : ℕ) (a : Option Expr) (to : ℕ) → SpellsMaybe (SpellsAfter tokens word) from a to → lengthens_expr (what.Word word) ≡ false →
      ExprStops to → ExprStops from
  before_after word from None to h e i g = i (subst (HasOneOf lengthens_expr tokens) (sym h) g)
  before_after word from (Some a) to h e i g = word_stops from word h.0 e g

  -- no expression begins with a word that is neither an operator nor NOW, TRY, LWB or UPB
  pub no_expr_at : (from code : ℕ) → HasWord tokens from code → is_monadic (what.Word code) ≡ false → code ≢ w.NOW → code ≢ w.TRY → code ≢ w.LWB → code ≢ w.UPB →
      (a : Expr) (to : ℕ) → SpellsWhole tokens from a to → ⊥
  no_expr_at from code here no_monadic now try lwb upb a to h =
      no_terms tokens 32 from (no_operand tokens 32 from [] from refl (has_none tokens is_monadic from (what.Word code) here no_monadic)
      (no_primary tokens 32 from (what.Word code) here (λ to r. by to r))) a to h.0
    where
      side : (x : _) → HasWord tokens from (side_word x) → ⊥
      side Lower g = lwb (same_word tokens from code w.LWB here g)
      side Upper g = upb (same_word tokens from code w.UPB here g)

      by : (to : ℕ) → Reads tokens 32 (what.Word code) from to → ⊥
      by to (inl r) = now r.0
      by to (inr (inl r)) = try r.0
      by to (inr (inr r)) = side r.0 r.1

  -- ---- formats

  -- a number for each text of one, two or four characters
  abbrev text_number : List ℕ → ℕ
  text_number [] = 0
  text_number (a ∷ []) = a
  text_number (a ∷ b ∷ _) = a + 256 * b

  abbrev number_of : What → ℕ
  number_of (what.Id text) = text_number text.items
  number_of _ = 0

  same_text : (k : ℕ) (x y : List ℕ) → HasId tokens k x → HasId tokens k y → T (eqb (text_number x) (text_number y))
  same_text k x y h g =
      let same : what.Id (record { items = x }) ≡ what.Id (record { items = y }) = let e = sym h ∙ g in cc e in yes_eqb (ap number_of same)

  same_free : (a b : FreeCode) → T (eqb (text_number (free_text a)) (text_number (free_text b))) → a ≡ b
  same_free A A e = refl
  same_free B B e = refl
  same_free B1 B1 e = refl
  same_free B2 B2 e = refl
  same_free B3 B3 e = refl
  same_free B4 B4 e = refl
  same_free X X e = refl
  same_free Skip Skip e = refl
  same_free a b e = absurd e

  same_wide : (a b : WideCode) → T (eqb (text_number (wide_text a)) (text_number (wide_text b))) → a ≡ b
  same_wide wide.F wide.F e = refl
  same_wide wide.T wide.T e = refl
  same_wide wide.D wide.D e = refl
  same_wide a b e = absurd e

  free_no_wide : (a : FreeCode) (b : WideCode) → T (eqb (text_number (free_text a)) (text_number (wide_text b))) → ⊥
  free_no_wide A wide.F e = absurd e
  free_no_wide B wide.F e = absurd e
  free_no_wide B1 wide.F e = absurd e
  free_no_wide B2 wide.F e = absurd e
  free_no_wide B3 wide.F e = absurd e
  free_no_wide B4 wide.F e = absurd e
  free_no_wide X wide.F e = absurd e
  free_no_wide Skip wide.F e = absurd e
  free_no_wide a b e = absurd e

  pub one_fmt : (from : ℕ) (a b : Fmt) (to end : ℕ) → SpellsFmt tokens from a to → NoBracket tokens to → SpellsFmt tokens from b end → NoBracket tokens end →
      (a ≡ b) × (to ≡ end)
  one_fmt from (Free c x p) (Free d y q) to end h i g j =
      let code = same_free c d (same_text from (free_text c) (free_text d) h.1 g.1) in
      let width = maybe_number tokens (from + 1) x y to end h.2 i g.2 j in
      let place = same_place tokens from p q h.0 g.0 in
      ((λ i. Free (code i) (width.0 i) (place i)), width.1)
  one_fmt from (Wide c x p) (Wide d y q) to end h i g j =
      let code = same_wide c d (same_text from (wide_text c) (wide_text d) h.1 g.1) in
      let width = one_bracketed_number tokens (from + 1) x y to end h.2 g.2 in
      let place = same_place tokens from p q h.0 g.0 in
      ((λ i. Wide (code i) (width.0 i) (place i)), width.1)
  one_fmt from (Free c x p) (Wide d y q) to end h i g j = absurd (free_no_wide c d (same_text from (free_text c) (wide_text d) h.1 g.1))
  one_fmt from (Wide c x p) (Free d y q) to end h i g j = absurd (free_no_wide d c (same_text from (free_text d) (wide_text c) g.1 h.1))

  -- ---- times

  one_period_end : (from : ℕ) (a b : PeriodEnd) (to end : ℕ) → SpellsPeriodEnd tokens from a to → ExprStops to → SpellsPeriodEnd tokens from b end → ExprStops end →
      (shown_period_end a ≡ shown_period_end b) × (to ≡ end)
  one_period_end from (Until x p) (Until y q) to end h i g j =
      let same = one_after w.UNTIL from x y to end h.1 i g.1 j in
      let place = same_place tokens from p q h.0 g.0 in
      ((λ i. OfUntil (same.0 i) (place i)), same.1)
  one_period_end from (During x p) (During y q) to end h i g j =
      let same = one_after w.DURING from x y to end h.1 i g.1 j in
      let place = same_place tokens from p q h.0 g.0 in
      ((λ i. OfDuring (same.0 i) (place i)), same.1)
  one_period_end from (Until x p) (During y q) to end h i g j = absurd (omega (arith, same_word tokens from w.UNTIL w.DURING h.1.0 g.1.0))
  one_period_end from (During x p) (Until y q) to end h i g j = absurd (omega (arith, same_word tokens from w.DURING w.UNTIL h.1.0 g.1.0))

  abbrev EndBegins : ℕ → Type 0
  EndBegins k = HasWord tokens k w.UNTIL ⊎ HasWord tokens k w.DURING

  end_begins : (from : ℕ) (a : PeriodEnd) (to : ℕ) → SpellsPeriodEnd tokens from a to → EndBegins from
  end_begins from (Until x p) to h = inl h.1.0
  end_begins from (During x p) to h = inr h.1.0

  -- what follows a start of an activation: ACTIVATE
  abbrev pub Activates : ℕ → Type 0
  Activates k = HasWord tokens k w.ACTIVATE

  activates_stops : (k : ℕ) → Activates k → ExprStops k
  activates_stops k h = word_stops k w.ACTIVATE h refl

  no_end : (k : ℕ) → Activates k → EndBegins k → ⊥
  no_end k h (inl g) = absurd (omega (arith, same_word tokens k w.ACTIVATE w.UNTIL h g))
  no_end k h (inr g) = absurd (omega (arith, same_word tokens k w.ACTIVATE w.DURING h g))

  before_end : (m : ℕ) (a : Option PeriodEnd) (to : ℕ) → SpellsMaybe (SpellsPeriodEnd tokens) m a to → Activates to → ExprStops m
  before_end m None to h i g = activates_stops to i (subst (HasOneOf lengthens_expr tokens) (sym h) g)
  before_end m (Some (Until x p)) to h i g = word_stops m w.UNTIL h.1.0 refl g
  before_end m (Some (During x p)) to h i g = word_stops m w.DURING h.1.0 refl g

  one_period : (from : ℕ) (a b : Period) (to end : ℕ) → SpellsPeriod tokens from a to → Activates to → SpellsPeriod tokens from b end → Activates end →
      (shown_period a ≡ shown_period b) × (to ≡ end)
  one_period from a b to end h i g j =
      let first = one_after w.ALL from a.duration b.duration h.0 g.0 h.2 (before_end h.0 a.end to h.3 i) g.2 (before_end g.0 b.end end g.3 j) in
      let second = maybe_one (SpellsPeriodEnd tokens) shown_period_end EndBegins ExprStops end_begins one_period_end a.end b.end g.0 to end
      (subst (λ k. SpellsMaybe (SpellsPeriodEnd tokens) k a.end to) first.1 h.3) (no_end to i) (activates_stops to i) g.3 (no_end end j) (activates_stops end j) in
      let place = same_place tokens from a.place b.place h.1 g.1 in
      ((λ i. record { duration = first.0 i; end = second.0 i; place = place i }), second.1)

  maybe_period : (from : ℕ) (a b : Option Period) (to end : ℕ) → SpellsMaybe (SpellsPeriod tokens) from a to → Activates to → SpellsMaybe (SpellsPeriod tokens) from b end →
      Activates end → (option_map shown_period a ≡ option_map shown_period b) × (to ≡ end)
  maybe_period from a b to end h i g j =
      maybe_one (SpellsPeriod tokens) shown_period (λ k. HasWord tokens k w.ALL) Activates (λ k x m h. h.2.0) one_period a b from to end h
      (λ e. absurd (omega (arith, same_word tokens to w.ACTIVATE w.ALL i e))) i g (λ e. absurd (omega (arith, same_word tokens end w.ACTIVATE w.ALL j e))) j

  -- the word before a period, or ACTIVATE
  abbrev Before : ℕ → Type 0
  Before k = HasWord tokens k w.ALL ⊎ Activates k

  before_period : (m : ℕ) (a : Option Period) (to : ℕ) → SpellsMaybe (SpellsPeriod tokens) m a to → Activates to → Before m
  before_period m None to h i = inr (subst Activates h i)
  before_period m (Some a) to h i = inl h.2.0

  before_stops : (k : ℕ) → Before k → ExprStops k
  before_stops k (inl h) = word_stops k w.ALL h refl
  before_stops k (inr h) = activates_stops k h

  before_no : (k code : ℕ) → Before k → HasWord tokens k code → code ≢ w.ALL → code ≢ w.ACTIVATE → ⊥
  before_no k code (inl h) g all act = all (same_word tokens k code w.ALL g h)
  before_no k code (inr h) g all act = act (same_word tokens k code w.ACTIVATE g h)

  abbrev pub start_word : Start → ℕ
  start_word (start.At _ _ _) = w.AT
  start_word (start.After _ _ _) = w.AFTER
  start_word (start.When _ _ _ _) = w.WHEN
  start_word (start.All _) = w.ALL

  pub start_begins : (from : ℕ) (a : Start) (to : ℕ) → SpellsStart tokens from a to → HasWord tokens from (start_word a)
  start_begins from (start.At x y p) to h = h.2.0
  start_begins from (start.After x y p) to h = h.2.0
  start_begins from (start.When n x y p) to h = h.2
  start_begins from (start.All x) to h = h.2.0

  abbrev pub once_word : Once → ℕ
  once_word (once.At _ _) = w.AT
  once_word (once.After _ _) = w.AFTER
  once_word (once.When _ _) = w.WHEN

  pub once_begins : (from : ℕ) (a : Once) (to : ℕ) → SpellsOnce tokens from a to → HasWord tokens from (once_word a)
  once_begins from (once.At x p) to h = h.1.0
  once_begins from (once.After x p) to h = h.1.0
  once_begins from (once.When n p) to h = h.1

  one_word : (k a b : ℕ) → HasWord tokens k a → HasWord tokens k b → T (eqb a b)
  one_word k a b h g = yes_eqb (same_word tokens k a b h g)

  pub one_start : (from : ℕ) (a b : Start) (to end : ℕ) → SpellsStart tokens from a to → Activates to → SpellsStart tokens from b end → Activates end →
      (shown_start a ≡ shown_start b) × (to ≡ end)
  one_start from a b to end h i g j = by a b (one_word from (start_word a) (start_word b) (start_begins from a to h) (start_begins from b end g)) h g
    where
      by : (a b : Start) → T (eqb (start_word a) (start_word b)) → SpellsStart tokens from a to → SpellsStart tokens from b end →
          (shown_start a ≡ shown_start b) × (to ≡ end)
      by (start.At x u p) (start.At y v q) e h g =
          let first = one_after w.AT from x y h.0 g.0 h.2 (before_stops h.0 (before_period h.0 u to h.3 i)) g.2 (before_stops g.0 (before_period g.0 v end g.3 j)) in
          let second = maybe_period g.0 u v to end (subst (λ k. SpellsMaybe (SpellsPeriod tokens) k u to) first.1 h.3) i g.3 j in
          let place = same_place tokens from p q h.1 g.1 in
          ((λ i. OfAt (first.0 i) (second.0 i) (place i)), second.1)
      by (start.After x u p) (start.After y v q) e h g =
          let first = one_after w.AFTER from x y h.0 g.0 h.2 (before_stops h.0 (before_period h.0 u to h.3 i)) g.2 (before_stops g.0 (before_period g.0 v end g.3 j)) in
          let second = maybe_period g.0 u v to end (subst (λ k. SpellsMaybe (SpellsPeriod tokens) k u to) first.1 h.3) i g.3 j in
          let place = same_place tokens from p q h.1 g.1 in
          ((λ i. OfAfter (first.0 i) (second.0 i) (place i)), second.1)
      by (start.When n x u p) (start.When m y v q) e h g =
          let name = same_name tokens (from + 1) n m h.3 g.3 in
          let this = before_period h.0 u to h.5 i in
          let that = before_period g.0 v end g.5 j in
          let first = maybe_after w.AFTER (from + 2) x y h.0 g.0 h.4 (λ d. before_no h.0 w.AFTER this d (λ e. absurd (omega (arith, e))) (λ e. absurd (omega (arith, e)))) (before_stops h.0 this)
          g.4 (λ d. before_no g.0 w.AFTER that d (λ e. absurd (omega (arith, e))) (λ e. absurd (omega (arith, e)))) (before_stops g.0 that) in
          let second = maybe_period g.0 u v to end (subst (λ k. SpellsMaybe (SpellsPeriod tokens) k u to) first.1 h.5) i g.5 j in
          let place = same_place tokens from p q h.1 g.1 in
          ((λ i. OfWhen (name i) (first.0 i) (second.0 i) (place i)), second.1)
      by (start.All x) (start.All y) e h g = let same = one_period from x y to end h i g j in (ap OfAll same.0, same.1)
      by a b e h g = absurd e

  pub one_once : (from : ℕ) (a b : Once) (to end : ℕ) → SpellsOnce tokens from a to → ExprStops to → SpellsOnce tokens from b end → ExprStops end →
      (shown_once a ≡ shown_once b) × (to ≡ end)
  one_once from a b to end h i g j = by a b (one_word from (once_word a) (once_word b) (once_begins from a to h) (once_begins from b end g)) h g
    where
      by : (a b : Once) → T (eqb (once_word a) (once_word b)) → SpellsOnce tokens from a to → SpellsOnce tokens from b end →
          (shown_once a ≡ shown_once b) × (to ≡ end)
      by (once.At x p) (once.At y q) e h g =
          let same = one_after w.AT from x y to end h.1 i g.1 j in
          let place = same_place tokens from p q h.0 g.0 in
          ((λ i. OnceAt (same.0 i) (place i)), same.1)
      by (once.After x p) (once.After y q) e h g =
          let same = one_after w.AFTER from x y to end h.1 i g.1 j in
          let place = same_place tokens from p q h.0 g.0 in
          ((λ i. OnceAfter (same.0 i) (place i)), same.1)
      by (once.When n p) (once.When m q) e h g =
          let name = same_name tokens (from + 1) n m h.2 g.2 in
          let place = same_place tokens from p q h.0 g.0 in
          ((λ i. OnceWhen (name i) (place i)), h.3 ∙ sym g.3)
      by a b e h g = absurd e

  -- an activation is no continuation
  pub start_no_once : (from : ℕ) (a : Start) (b : Once) (to end code : ℕ) → SpellsStart tokens from a to → Activates to → SpellsOnce tokens from b end →
      HasWord tokens end code → ExprStops end → code ≢ w.ALL → code ≢ w.ACTIVATE → code ≢ w.AFTER → ⊥
  start_no_once from a b to end code h i g c j all act aft = by a b (one_word from (start_word a) (once_word b) (start_begins from a to h) (once_begins from b end g)) h g
    where
      before : (m : ℕ) (u : Option Period) → SpellsMaybe (SpellsPeriod tokens) m u to → m ≡ end → ⊥
      before m u h e = before_no end code (subst Before e (before_period m u to h i)) c all act

      maybe : (m : ℕ) (x : Option Expr) (n : ℕ) (u : Option Period) → SpellsMaybe (SpellsAfter tokens w.AFTER) m x n → SpellsMaybe (SpellsPeriod tokens) n u to → end ≡ m → ⊥
      maybe m None n u h k e = before n u k (h ∙ sym e)
      maybe m (Some x) n u h k e = aft (same_word tokens m code w.AFTER (subst (λ k. HasWord tokens k code) e c) h.0)

      by : (a : Start) (b : Once) → T (eqb (start_word a) (once_word b)) → SpellsStart tokens from a to → SpellsOnce tokens from b end → ⊥
      by (start.At x u p) (once.At y q) e h g =
          before h.0 u h.3 (one_after w.AT from x y h.0 end h.2 (before_stops h.0 (before_period h.0 u to h.3 i)) g.1 j).1
      by (start.After x u p) (once.After y q) e h g =
          before h.0 u h.3 (one_after w.AFTER from x y h.0 end h.2 (before_stops h.0 (before_period h.0 u to h.3 i)) g.1 j).1
      by (start.When n x u p) (once.When m q) e h g = maybe (from + 2) x h.0 u h.4 h.5 g.3
      by (start.All x) (once.At y q) e h g = absurd e
      by (start.All x) (once.After y q) e h g = absurd e
      by (start.All x) (once.When m q) e h g = absurd e
      by a b e h g = absurd e
