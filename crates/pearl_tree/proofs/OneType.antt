-- What tokens spell is one name list, bound, type or item: the same, and up to the same token, wherever the parts lie in memory.
use Rattle.std.proofs.Common.{◌≡◌, ◌⊎◌, inl, inr, ℕ, zero, suc, ◌+◌, ◌-◌, ◌<◌, Bool, true, false, List, [], ◌∷◌, Option, refl, sym, ap, subst, ◌∙◌, arith}
use Rattle.pearl_tree.specs.declared.parts.Parts.{Parts}
use Rattle.pearl_tree.specs.declared.name.Name.{Name}
use Rattle.pearl_tree.specs.declared.name.Number.{Number}
use Rattle.pearl_tree.specs.declared.name.Names.{Names}
use Rattle.pearl_tree.specs.declared.name.Names.TheVariants.{One, Several}
use Rattle.pearl_tree.specs.declared.literal.Const.{Const}
use Rattle.pearl_tree.specs.declared.typing.Int.{Int}
use Rattle.pearl_tree.specs.declared.typing.Bound.{Bound}
use Rattle.pearl_tree.specs.declared.typing.Sort.{Sort}
use Rattle.pearl_tree.specs.declared.typing.Sort.TheVariants.{Fixed, Bit, Char}
use Rattle.pearl_tree.specs.declared.typing.Basic.{Basic}
use Rattle.pearl_tree.specs.declared.typing.Basic.TheVariants as basic
use Rattle.pearl_tree.specs.declared.typing.Typing.{Typing, Row_of-Field, end_of-Field, more_of-Field}
use Rattle.pearl_tree.specs.declared.typing.Typing as typing
use Rattle.pearl_tree.specs.declared.declaration.Item.{Item}
use Rattle.pearl_tree.specs.declared.token.What.TheVariants as what
use Rattle.pearl_tree.specs.declared.token.Token.{Token}
use Rattle.pearl_tree.specs.Standing.{IsAt, HasWord, HasSymbol, IsName, IsNumber, SpellsName, SpellsNumber, SpellsMaybe, SpellsFlag, SpellsSymbolFlag, SpellsMaybeHeaded, SpellsBracketedNumber}
use Rattle.pearl_tree.specs.Expressions.{SpellsConst}
use Rattle.pearl_tree.specs.Types.{SpellsNames, SpellsInt, SpellsUpper, SpellsBound, SpellsBounds, sort_word, SpellsBasic, SpellsTyping, SpellsFields, SpellsMoreFields}
use Rattle.pearl_tree.specs.Declarations.{SpellsItem}
use Rattle.pearl_tree.specs.Following.{lengthens_literal, HasOneOf}
use Rattle.pearl_tree.specs.ShownLiterals.{shown_const}
use Rattle.pearl_tree.specs.ShownDeclarations.{OfOne, OfSeveral, shown_names, OfBasic, OfStruct, OfNamed, MoreFields, shown_typing, shown_fields, shown_item}
use Rattle.pearl_tree.specs.declared.symbol.TheConstants as s
use Rattle.pearl_tree.specs.declared.word_code.TheConstants as w
use Rattle.pearl_tree.proofs.Meeting.{same_word, same_symbol, has_none, meets_once}
use Rattle.pearl_tree.proofs.LiteralEnds.{const_ends}
use Rattle.pearl_tree.proofs.OneLiteral.{same_place, same_name, same_number, same_const}
use Rattle.pearl_tree.proofs.OneList.{symbol_no_word, bracketed_one, maybe_bracketed_one, maybe_headed_one, maybe_one, flag_one, as_they_are, option_as_it_is}

module _ (tokens : List Token) where
  -- what the token is not
  abbrev pub NoBracket : ℕ → Type 0
  NoBracket k = HasSymbol tokens k s.LEFT_ROUND → ⊥

  pub one_name : (from : ℕ) (a b : Name) (to end : ℕ) → SpellsName tokens from a to → SpellsName tokens from b end → (a ≡ b) × (to ≡ end)
  one_name from a b to end h g = (same_name tokens from a b h.0 g.0, h.1 ∙ sym g.1)

  pub one_number : (from : ℕ) (a b : Number) (to end : ℕ) → SpellsNumber tokens from a to → SpellsNumber tokens from b end → (a ≡ b) × (to ≡ end)
  one_number from a b to end h g = (same_number tokens from a b h.0 g.0, h.1 ∙ sym g.1)

  pub one_bracketed_number : (from : ℕ) (a b : Number) (to end : ℕ) → SpellsBracketedNumber tokens from a to → SpellsBracketedNumber tokens from b end →
      (a ≡ b) × (to ≡ end)
  one_bracketed_number from a b to end h g = (same_number tokens (from + 1) a b h.1 g.1, h.3 ∙ sym g.3)

  -- [ "(" number ")" ]
  pub maybe_number : (from : ℕ) (a b : Option Number) (to end : ℕ) → SpellsMaybe (SpellsBracketedNumber tokens) from a to → NoBracket to →
      SpellsMaybe (SpellsBracketedNumber tokens) from b end → NoBracket end → (a ≡ b) × (to ≡ end)
  maybe_number from a b to end h i g j =
      let same = maybe_one (SpellsBracketedNumber tokens) (λ x. x) (λ k. HasSymbol tokens k s.LEFT_ROUND) (λ k. Unit {0}) (λ k x m h. h.0)
      (λ k x y m n h _ g _. one_bracketed_number k x y m n h g) a b from to end h i tt g j tt in
      (option_as_it_is a b same.0, same.1)

  pub one_names : (from : ℕ) (a b : Names) (to end : ℕ) → SpellsNames tokens from a to → SpellsNames tokens from b end →
      (shown_names a ≡ shown_names b) × (to ≡ end)
  one_names from (One a) (One b) to end h g = let same = one_name from a b to end h g in (ap OfOne same.0, same.1)
  one_names from (Several a p) (Several b q) to end h g =
      let all = bracketed_one tokens (SpellsName tokens) (λ x. x) (λ k. Unit {0}) (λ k _. tt) (λ k _. tt) (λ k x y m n h _ g _. one_name k x y m n h g)
      a.items.items b.items.items from to end h.1 g.1 in
      let names = as_they_are a.items.items b.items.items all.0 in
      let place = same_place tokens from p q h.0 g.0 in
      ((λ i. OfSeveral (names i) (place i)), all.1)
  one_names from (One a) (Several b q) to end h g = absurd (let e = sym h.0.0 ∙ g.1.1 in cc e)
  one_names from (Several a p) (One b) to end h g = absurd (let e = sym h.1.1 ∙ g.0.0 in cc e)

  -- ---- bounds

  one_minus : (from : ℕ) (a b : Bool) (to end : ℕ) (x y : Number) → SpellsSymbolFlag tokens s.MINUS from a to → IsNumber tokens to x →
      SpellsSymbolFlag tokens s.MINUS from b end → IsNumber tokens end y → (a ≡ b) × (to ≡ end)
  one_minus from false false to end x y h i g j = (refl, h ∙ sym g)
  one_minus from true true to end x y h i g j = (refl, h.1 ∙ sym g.1)
  one_minus from false true to end x y h i g j = absurd (let e = sym (subst (λ k. IsNumber tokens k x) h i).0 ∙ g.0 in cc e)
  one_minus from true false to end x y h i g j = absurd (let e = sym (subst (λ k. IsNumber tokens k y) g j).0 ∙ h.0 in cc e)

  pub one_int : (from : ℕ) (a b : Int) (to end : ℕ) → SpellsInt tokens from a to → SpellsInt tokens from b end → (a ≡ b) × (to ≡ end)
  one_int from a b to end h g =
      let minus = one_minus from a.minus b.minus h.0 g.0 a.number b.number h.2 h.3 g.2 g.3 in
      let number = same_number tokens g.0 a.number b.number (subst (λ k. IsNumber tokens k a.number) minus.1 h.3) g.3 in
      let place = same_place tokens from a.place b.place h.1 g.1 in
      ((λ i. record { minus = minus.0 i; number = number i; place = place i }), omega (arith, h.4, g.4, minus.1))

  abbrev NoColon : ℕ → Type 0
  NoColon k = HasSymbol tokens k s.COLON → ⊥

  one_bound : (from : ℕ) (a b : Bound) (to end : ℕ) → SpellsBound tokens from a to → NoColon to → SpellsBound tokens from b end → NoColon end →
      (a ≡ b) × (to ≡ end)
  one_bound from a b to end h i g j =
      let first = one_int from a.first b.first h.0 g.0 h.2 g.2 in
      let second = maybe_one (SpellsUpper tokens) (λ x. x) (λ k. HasSymbol tokens k s.COLON) (λ k. Unit {0}) (λ k x m h. h.0)
      (λ k x y m n h _ g _. one_int (k + 1) x y m n h.1 g.1) a.second b.second g.0 to end
      (subst (λ k. SpellsMaybe (SpellsUpper tokens) k a.second to) first.1 h.3) i tt g.3 j tt in
      let upper = option_as_it_is a.second b.second second.0 in
      let place = same_place tokens from a.place b.place h.1 g.1 in
      ((λ i. record { first = first.0 i; second = upper i; place = place i }), second.1)

  pub one_bounds : (from : ℕ) (a b : Parts Bound) (to end : ℕ) → SpellsBounds tokens from a to → NoBracket to → SpellsBounds tokens from b end →
      NoBracket end → (a.items.items ≡ b.items.items) × (to ≡ end)
  one_bounds from a b to end h i g j =
      let all = maybe_bracketed_one tokens (SpellsBound tokens) (λ x. x) NoColon (λ k e f. absurd (omega (arith, same_symbol tokens k s.COMMA s.COLON e f)))
      (λ k e f. absurd (omega (arith, same_symbol tokens k s.RIGHT_ROUND s.COLON e f))) one_bound a.items.items b.items.items from to end h i g j in
      (as_they_are a.items.items b.items.items all.0, all.1)

  -- ---- types

  pub same_sort : (k : ℕ) (a b : Sort) → HasWord tokens k (sort_word a) → HasWord tokens k (sort_word b) → a ≡ b
  same_sort k Fixed Fixed h g = refl
  same_sort k Fixed Bit h g = absurd (omega (arith, same_word tokens k w.FIXED w.BIT h g))
  same_sort k Fixed Char h g = absurd (omega (arith, same_word tokens k w.FIXED w.CHAR h g))
  same_sort k Bit Fixed h g = absurd (omega (arith, same_word tokens k w.BIT w.FIXED h g))
  same_sort k Bit Bit h g = refl
  same_sort k Bit Char h g = absurd (omega (arith, same_word tokens k w.BIT w.CHAR h g))
  same_sort k Char Fixed h g = absurd (omega (arith, same_word tokens k w.CHAR w.FIXED h g))
  same_sort k Char Bit h g = absurd (omega (arith, same_word tokens k w.CHAR w.BIT h g))
  same_sort k Char Char h g = refl

  no_sort : (k : ℕ) (a : Sort) (code : ℕ) → HasWord tokens k (sort_word a) → HasWord tokens k code → w.CHAR < code → ⊥
  no_sort k Fixed code h g low = absurd (omega (arith, low, same_word tokens k w.FIXED code h g))
  no_sort k Bit code h g low = absurd (omega (arith, low, same_word tokens k w.BIT code h g))
  no_sort k Char code h g low = absurd (omega (arith, low, same_word tokens k w.CHAR code h g))

  pub one_basic : (from : ℕ) (a b : Basic) (to end : ℕ) → SpellsBasic tokens from a to → NoBracket to → SpellsBasic tokens from b end → NoBracket end →
      (a ≡ b) × (to ≡ end)
  one_basic from (basic.Sized x m p) (basic.Sized y n q) to end h i g j =
      let sort = same_sort from x y h.1 g.1 in
      let number = maybe_number (from + 1) m n to end h.2 i g.2 j in
      let place = same_place tokens from p q h.0 g.0 in
      ((λ i. basic.Sized (sort i) (number.0 i) (place i)), number.1)
  one_basic from (basic.Clock p) (basic.Clock q) to end h i g j = (ap basic.Clock (same_place tokens from p q h.0 g.0), h.2 ∙ sym g.2)
  one_basic from (basic.Duration p) (basic.Duration q) to end h i g j = (ap basic.Duration (same_place tokens from p q h.0 g.0), h.2 ∙ sym g.2)
  one_basic from (basic.Clock p) (basic.Duration q) to end h i g j = absurd (omega (arith, same_word tokens from w.CLOCK w.DURATION h.1 g.1))
  one_basic from (basic.Duration p) (basic.Clock q) to end h i g j = absurd (omega (arith, same_word tokens from w.DURATION w.CLOCK h.1 g.1))
  one_basic from (basic.Sized x m p) (basic.Clock q) to end h i g j = absurd (no_sort from x w.CLOCK h.1 g.1 (omega arith))
  one_basic from (basic.Sized x m p) (basic.Duration q) to end h i g j = absurd (no_sort from x w.DURATION h.1 g.1 (omega arith))
  one_basic from (basic.Clock q) (basic.Sized x m p) to end h i g j = absurd (no_sort from x w.CLOCK g.1 h.1 (omega arith))
  one_basic from (basic.Duration q) (basic.Sized x m p) to end h i g j = absurd (no_sort from x w.DURATION g.1 h.1 (omega arith))

  pub basic_word : (from : ℕ) (a : Basic) (to : ℕ) → SpellsBasic tokens from a to → (code : ℕ) × HasWord tokens from code × ((w.STRUCT < code) × (code < w.SEMA))
  basic_word from (basic.Sized Fixed m p) to h = (w.FIXED, h.1, (omega arith, omega arith))
  basic_word from (basic.Sized Bit m p) to h = (w.BIT, h.1, (omega arith, omega arith))
  basic_word from (basic.Sized Char m p) to h = (w.CHAR, h.1, (omega arith, omega arith))
  basic_word from (basic.Clock p) to h = (w.CLOCK, h.1, (omega arith, omega arith))
  basic_word from (basic.Duration p) to h = (w.DURATION, h.1, (omega arith, omega arith))

  no_struct : (from : ℕ) (a : Basic) (to : ℕ) → SpellsBasic tokens from a to → HasWord tokens from w.STRUCT → ⊥
  no_struct from a to h g = by (basic_word from a to h)
    where
      by : (code : ℕ) × HasWord tokens from code × ((w.STRUCT < code) × (code < w.SEMA)) → ⊥
      by (code, i, low) = absurd (omega (arith, low.0, same_word tokens from code w.STRUCT i g))

  no_basic : (from : ℕ) (a : Basic) (to : ℕ) (b : Name) → SpellsBasic tokens from a to → IsName tokens from b → ⊥
  no_basic from a to b h g = let word = basic_word from a to h in absurd (let e = sym word.1 ∙ g.0 in cc e)

  -- a type begins with a word or an id
  typing_begins : (depth from : ℕ) (a : Typing) (to : ℕ) → SpellsTyping tokens depth from a to → ((code : ℕ) × HasWord tokens from code) ⊎ ((name : Name) × IsName tokens from name)
  typing_begins depth from (typing.Basic a) to h = let word = basic_word from a to h in inl (word.0, word.1)
  typing_begins depth from (typing.Struct' _ fields place) to h = inl (w.STRUCT, h.2)
  typing_begins depth from (typing.Named name) to h = inr (name, h.0)

  pub typing_no_bracket : (depth from : ℕ) (a : Typing) (to : ℕ) → SpellsTyping tokens depth from a to → NoBracket from
  typing_no_bracket depth from a to h e = by (typing_begins depth from a to h)
    where
      by : ((code : ℕ) × HasWord tokens from code) ⊎ ((name : Name) × IsName tokens from name) → ⊥
      by (inl g) = symbol_no_word tokens from s.LEFT_ROUND g.0 e g.1
      by (inr g) = absurd (let e = sym e ∙ g.1.0 in cc e)

  abbrev pub TypingOne : ℕ → Type 0
  TypingOne depth = (from : ℕ) (a b : Typing) (to end : ℕ) → SpellsTyping tokens depth from a to → NoBracket to → SpellsTyping tokens depth from b end →
      NoBracket end → (shown_typing a ≡ shown_typing b) × (to ≡ end)

  comma_no_bracket : (k : ℕ) → HasSymbol tokens k s.COMMA → NoBracket k
  comma_no_bracket k h g = absurd (omega (arith, same_symbol tokens k s.COMMA s.LEFT_ROUND h g))

  square_no_bracket : (k : ℕ) → HasSymbol tokens k s.RIGHT_SQUARE → NoBracket k
  square_no_bracket k h g = absurd (omega (arith, same_symbol tokens k s.RIGHT_SQUARE s.LEFT_ROUND h g))

  field_stops : (depth from : ℕ) (n : _) (row : Row_of-Field n) (to : ℕ) → SpellsMoreFields tokens depth from row to → HasSymbol tokens to s.RIGHT_SQUARE → NoBracket from
  field_stops depth from _ end_of-Field to h c = square_no_bracket from (subst (λ k. HasSymbol tokens k s.RIGHT_SQUARE) h c)
  field_stops depth from _ (more_of-Field names bounds part place rest) to h c = comma_no_bracket from h.1

  -- names [ bounds ] type
  abbrev Field : ℕ → ℕ → Names → Parts Bound → Typing → ℕ → ℕ → Type 0
  Field depth from names bounds part place to =
      (a : ℕ) × (b : ℕ) × IsAt tokens from place × SpellsNames tokens from names a × SpellsBounds tokens a bounds b × SpellsTyping tokens depth b part to

  one_field : (depth : ℕ) → TypingOne depth → (from : ℕ) (names also : Names) (bounds other : Parts Bound) (part its : Typing) (place at to end : ℕ) →
      Field depth from names bounds part place to → NoBracket to → Field depth from also other its at end → NoBracket end →
      (shown_names names ≡ shown_names also) × (bounds.items.items ≡ other.items.items) × (shown_typing part ≡ shown_typing its) × (place ≡ at) × (to ≡ end)
  one_field depth one from names also bounds other part its place at to end h i g j =
      let first = one_names from names also h.0 g.0 h.3 g.3 in
      let second = one_bounds g.0 bounds other h.1 g.1 (subst (λ k. SpellsBounds tokens k bounds h.1) first.1 h.4) (typing_no_bracket depth h.1 part to h.5)
      g.4 (typing_no_bracket depth g.1 its end g.5) in
      let third = one g.1 part its to end (subst (λ k. SpellsTyping tokens depth k part to) second.1 h.5) i g.5 j in
      (first.0, second.0, third.0, same_place tokens from place at h.2 g.2, third.1)

  one_more_fields : (depth : ℕ) → TypingOne depth → (from : ℕ) (n m : _) (row : Row_of-Field n) (other : Row_of-Field m) (to end : ℕ) →
      SpellsMoreFields tokens depth from row to → HasSymbol tokens to s.RIGHT_SQUARE → SpellsMoreFields tokens depth from other end →
      HasSymbol tokens end s.RIGHT_SQUARE → (shown_fields row ≡ shown_fields other) × (to ≡ end)
  one_more_fields depth one from _ _ end_of-Field end_of-Field to end h c g d = (refl, h ∙ sym g)
  one_more_fields depth one from _ _ end_of-Field (more_of-Field a b x p rest) to end h c g d =
      absurd (omega (arith, same_symbol tokens from s.COMMA s.RIGHT_SQUARE g.1 (subst (λ k. HasSymbol tokens k s.RIGHT_SQUARE) h c)))
  one_more_fields depth one from _ _ (more_of-Field a b x p rest) end_of-Field to end h c g d =
      absurd (omega (arith, same_symbol tokens from s.COMMA s.RIGHT_SQUARE h.1 (subst (λ k. HasSymbol tokens k s.RIGHT_SQUARE) g d)))
  one_more_fields depth one from _ _ (more_of-Field a b x p xs) (more_of-Field a' b' y q ys) to end h c g d =
      let first = one_field depth one (from + 1) a a' b b' x y p q h.0 g.0 h.2 (field_stops depth h.0 _ xs to h.3 c) g.2 (field_stops depth g.0 _ ys end g.3 d) in
      let rest = one_more_fields depth one g.0 _ _ xs ys to end (subst (λ k. SpellsMoreFields tokens depth k xs to) first.4 h.3) c g.3 d in
      ((λ i. MoreFields (first.0 i) (first.1 i) (first.2 i) (first.3 i) (rest.0 i)), rest.1)

  one_fields : (depth : ℕ) → TypingOne depth → (from : ℕ) (n m : _) (row : Row_of-Field n) (other : Row_of-Field m) (to end : ℕ) →
      SpellsFields tokens depth from row to → HasSymbol tokens to s.RIGHT_SQUARE → SpellsFields tokens depth from other end →
      HasSymbol tokens end s.RIGHT_SQUARE → (shown_fields row ≡ shown_fields other) × (to ≡ end)
  one_fields depth one from _ _ end_of-Field other to end h c g d = absurd h
  one_fields depth one from _ _ (more_of-Field a b x p xs) end_of-Field to end h c g d = absurd g
  one_fields depth one from _ _ (more_of-Field a b x p xs) (more_of-Field a' b' y q ys) to end h c g d =
      let first = one_field depth one from a a' b b' x y p q h.0 g.0 h.1 (field_stops depth h.0 _ xs to h.2 c) g.1 (field_stops depth g.0 _ ys end g.2 d) in
      let rest = one_more_fields depth one g.0 _ _ xs ys to end (subst (λ k. SpellsMoreFields tokens depth k xs to) first.4 h.2) c g.2 d in
      ((λ i. MoreFields (first.0 i) (first.1 i) (first.2 i) (first.3 i) (rest.0 i)), rest.1)

  step : (depth : ℕ) → (0 < depth → TypingOne (depth - 1)) → TypingOne depth
  step depth inner from (typing.Basic a) (typing.Basic b) to end h i g j = let same = one_basic from a b to end h i g j in (ap OfBasic same.0, same.1)
  step depth inner from (typing.Struct' _ xs p) (typing.Struct' _ ys q) to end h i g j =
      let all = one_fields (depth - 1) (inner h.3) (from + 2) _ _ xs ys h.0 g.0 h.5 h.6 g.5 g.6 in
      let place = same_place tokens from p q h.1 g.1 in
      ((λ i. OfStruct (all.0 i) (place i)), omega (arith, h.7, g.7, all.1))
  step depth inner from (typing.Named a) (typing.Named b) to end h i g j = let same = one_name from a b to end h g in (ap OfNamed same.0, same.1)
  step depth inner from (typing.Basic a) (typing.Struct' _ ys q) to end h i g j = absurd (no_struct from a to h g.2)
  step depth inner from (typing.Struct' _ ys q) (typing.Basic a) to end h i g j = absurd (no_struct from a end g h.2)
  step depth inner from (typing.Basic a) (typing.Named b) to end h i g j = absurd (no_basic from a to b h g.0)
  step depth inner from (typing.Named b) (typing.Basic a) to end h i g j = absurd (no_basic from a end b g h.0)
  step depth inner from (typing.Struct' _ ys q) (typing.Named b) to end h i g j = absurd (let e = sym h.2 ∙ g.0.0 in cc e)
  step depth inner from (typing.Named b) (typing.Struct' _ ys q) to end h i g j = absurd (let e = sym h.0.0 ∙ g.2 in cc e)

  pub one_typing : (depth : ℕ) → TypingOne depth
  one_typing zero = step zero (λ h. absurd (omega (arith, h)))
  one_typing (suc depth) =
      let less : depth ≡ suc depth - 1 = omega arith in
      step (suc depth) (λ h. subst TypingOne less (one_typing depth))

  -- ---- items

  -- where an item ends there is no bracket and no INIT
  abbrev pub ItemStops : ℕ → Type 0
  ItemStops k = NoBracket k × (HasWord tokens k w.INIT → ⊥)

  const_stops : (k : ℕ) (symbol : ℕ) → HasSymbol tokens k symbol → HasOneOf lengthens_literal tokens k → ⊥
  const_stops k symbol h g = has_none tokens lengthens_literal k (what.Symbol symbol) h refl g

  one_const : (from : ℕ) (a b : Const) (to end : ℕ) → SpellsConst tokens from a to → (HasOneOf lengthens_literal tokens to → ⊥) → SpellsConst tokens from b end →
      (HasOneOf lengthens_literal tokens end → ⊥) → (shown_const a ≡ shown_const b) × (to ≡ end)
  one_const from a b to end h i g j =
      let at = meets_once (HasOneOf lengthens_literal tokens) i j (const_ends tokens from a b to end h g) in
      (same_const tokens from a b end (subst (λ k. SpellsConst tokens from a k) at h) g, at)

  abbrev Maybe : ℕ → List Const → ℕ → Type 0
  Maybe d xs to = SpellsMaybeHeaded tokens w.INIT (SpellsConst tokens) d xs to

  abbrev Flag : ℕ → Bool → ℕ → Type 0
  Flag b inv c = SpellsFlag tokens w.INV b inv c

  init_stops : (d to : ℕ) (xs : List Const) → Maybe d xs to → ItemStops to → NoBracket d
  init_stops d to [] h i e = subst NoBracket h i.0 e
  init_stops d to (x ∷ xs) h i e = symbol_no_word tokens d s.LEFT_ROUND w.INIT e h.0

  inv_no_bracket : (b c : ℕ) (inv : Bool) (part : Typing) (to : ℕ) → Flag b inv c → SpellsTyping tokens 8 c part to → NoBracket b
  inv_no_bracket b c false part to h g e = subst NoBracket h (typing_no_bracket 8 c part to g) e
  inv_no_bracket b c true part to h g e = symbol_no_word tokens b s.LEFT_ROUND w.INV e h.0

  typing_no_inv : (c : ℕ) (part : Typing) (to : ℕ) → SpellsTyping tokens 8 c part to → HasWord tokens c w.INV → ⊥
  typing_no_inv c (typing.Basic a) to h e = by (basic_word c a to h)
    where
      by : (code : ℕ) × HasWord tokens c code × ((w.STRUCT < code) × (code < w.SEMA)) → ⊥
      by (code, i, less) = absurd (omega (arith, less.0, same_word tokens c code w.INV i e))
  typing_no_inv c (typing.Struct' _ fields place) to h e = absurd (omega (arith, same_word tokens c w.STRUCT w.INV h.2 e))
  typing_no_inv c (typing.Named name) to h e = absurd (let e = sym h.0.0 ∙ e in cc e)

  pub one_item : (from : ℕ) (a b : Item) (to end : ℕ) → SpellsItem tokens from a to → ItemStops to → SpellsItem tokens from b end → ItemStops end →
      (shown_item a ≡ shown_item b) × (to ≡ end)
  one_item from a b to end h i g j =
      let names = one_names from a.names b.names h.0 g.0 h.5 g.5 in
      let bounds = one_bounds g.0 a.bounds b.bounds h.1 g.1 (subst (λ k. SpellsBounds tokens k a.bounds h.1) names.1 h.6)
      (inv_no_bracket h.1 h.2 a.inv a.typing h.3 h.7 h.8) g.6 (inv_no_bracket g.1 g.2 b.inv b.typing g.3 g.7 g.8) in
      let inv = flag_one tokens w.INV g.1 a.inv b.inv h.2 g.2 (subst (λ k. Flag k a.inv h.2) bounds.1 h.7) (typing_no_inv h.2 a.typing h.3 h.8)
      g.7 (typing_no_inv g.2 b.typing g.3 g.8) in
      let part = one_typing 8 g.2 a.typing b.typing h.3 g.3 (subst (λ k. SpellsTyping tokens 8 k a.typing h.3) inv.1 h.8)
      (init_stops h.3 to a.init.items.items h.9 i) g.8 (init_stops g.3 end b.init.items.items g.9 j) in
      let all = maybe_headed_one tokens (SpellsConst tokens) shown_const (λ k. HasOneOf lengthens_literal tokens k → ⊥) (λ k. const_stops k s.COMMA)
      (λ k. const_stops k s.RIGHT_ROUND) one_const w.INIT a.init.items.items b.init.items.items g.3 to end
      (subst (λ k. Maybe k a.init.items.items to) part.1 h.9) i.1 g.9 j.1 in
      let place = same_place tokens from a.place b.place h.4 g.4 in
      ((λ i. record { names = names.0 i; bounds = bounds.0 i; inv = inv.0 i; part = part.0 i; init = all.0 i; place = place i }), all.1)
