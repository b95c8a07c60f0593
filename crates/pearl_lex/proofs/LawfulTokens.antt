-- What a source lexes to is lawful.
use Rattle.std.proofs.Common.{◌≡◌, ◌<◌, ◌≤◌, ◌+◌, ◌-◌, ◌^◌, ℕ, Bool, true, false, ◌||◌, eqb, nat_le, List, [], ◌∷◌, length, take, drop, get_or, Option, Some, None, IfSome, All, if◌then◌else◌, refl, sym, subst, ap, ◌∙◌, arith}
use Rattle.std.specs.Char.{is_ascii_alphabetic, is_ascii_digit}
use Rattle.std.specs.List.{prefix_len}
use Rattle.std.proofs.Math.ListN.{drop_of_length-le}
use Rattle.std.proofs.lemmas.Bool.{false≢true}
use Rattle.std.proofs.lemmas.Bool.Decides.{nat_tests}
use Rattle.std.proofs.lemmas.List.Elements.{All-nil, All-cons}
use Rattle.pearl_tree.specs.declared.token.What.{What}
use Rattle.pearl_tree.specs.declared.token.Token.{Token}
use Rattle.pearl_tree.specs.Tokens.{IsLawfulWhat, PlacesRise}
use Rattle.pearl_lex.specs.declared.front.Front.{Front}
use Rattle.pearl_lex.specs.Spelling.{is_id_byte, sized, longer_symbol, symbol_front, double_symbol, single_symbol}
use Rattle.pearl_lex.specs.Literals.{digit_count, begins_clock, begins_part, after_digits, clock_front, decimal_front, number_front, numeral}
use Rattle.pearl_lex.specs.Quoted.{chars_len, chars_of, quoted_text, digit_width, closed, quoted}
use Rattle.pearl_lex.specs.Front.{word_front, front}
use Rattle.pearl_lex.specs.Lexes.{AreSpaces, AreTokens}
use Rattle.pearl_lex.specs.Laws.{HasLawfulTokens}
use Rattle.pearl_lex.proofs.Passes.{choose, at_most}
use Rattle.pearl_lex.proofs.Lawful.{lawful_front}

-- a token takes bytes
abbrev IsSome-size : Front → Type 0
IsSome-size f = 0 < f.size

some_sized : (w : Option What) (size : ℕ) → 0 < size → IfSome (sized w size) IsSome-size
some_sized None size h = tt
some_sized (Some w) size h = h

-- a run that begins with a byte that passes is not empty
some_run : (p : ℕ → Bool) (bytes : List ℕ) → p 0 ≡ false → p (get_or bytes 0 0) ≡ true → 0 < prefix_len p bytes
some_run p [] none h = absurd (false≢true (sym none ∙ h))
some_run p (b ∷ bytes) none h = by (p b) refl
  where
    by : (is : Bool) → p b ≡ is → 0 < (if is then 1 + prefix_len p bytes else 0)
    by true e = omega arith
    by false e = absurd (false≢true (sym e ∙ h))

letter_passes : (b : ℕ) → is_ascii_alphabetic b ≡ true → is_id_byte b ≡ true
letter_passes b h = ap (λ x. x || is_ascii_digit b || eqb b 95) h

some_longer : (double single : Option ℕ) → IfSome (longer_symbol double single) IsSome-size
some_longer (Some double) single = omega arith
some_longer None (Some single) = omega arith
some_longer None None = tt

some_numeral : (bytes : List ℕ) → 0 < digit_count bytes → IfSome (numeral bytes) IsSome-size
some_numeral bytes some =
    choose IsSome-size (begins_clock bytes) (clock_front bytes) (if begins_part 46 (after_digits bytes) then decimal_front bytes else number_front bytes)
    (λ _. some_sized _ _ (omega (arith, some)))
    (λ _. choose IsSome-size (begins_part 46 (after_digits bytes)) (decimal_front bytes) (number_front bytes)
    (λ _. some_sized _ _ (omega (arith, some)))
    (λ _. some_sized _ _ some))

some_quoted : (bytes : List ℕ) → IfSome (quoted bytes) IsSome-size
some_quoted bytes =
    let size = chars_len bytes in
    let after = drop (size + 1) bytes in
    choose IsSome-size (eqb (get_or bytes size 0) 39) (closed bytes size after) None
    (λ _. choose IsSome-size (eqb (digit_width after) 0) (sized (quoted_text (chars_of (take size bytes))) (size + 2)) _
    (λ _. some_sized _ _ (omega arith))
    (λ _. some_sized _ _ (omega arith)))
    (λ _. tt)

pub some_front : (bytes : List ℕ) → IfSome (front bytes) IsSome-size
unfolding front
some_front bytes =
    let a = get_or bytes 0 0 in
    let b = get_or bytes 1 0 in
    choose IsSome-size (is_ascii_alphabetic a) (word_front bytes (prefix_len is_id_byte bytes)) (if is_ascii_digit a then numeral bytes else (if eqb a 39 then quoted (drop 1 bytes) else symbol_front a b))
    (λ h. some_sized _ _ (some_run is_id_byte bytes refl (letter_passes a h)))
    (λ _. choose IsSome-size (is_ascii_digit a) (numeral bytes) (if eqb a 39 then quoted (drop 1 bytes) else symbol_front a b)
    (λ h. some_numeral bytes (some_run is_ascii_digit bytes refl h))
    (λ _. choose IsSome-size (eqb a 39) (quoted (drop 1 bytes)) (symbol_front a b)
    (λ _. some_quoted (drop 1 bytes))
    (λ _. some_longer (double_symbol a b) (single_symbol a))))

-- spaces go on, and a token stands inside the bytes
spaces_on : (bytes : List ℕ) (from : ℕ) (sizes : List ℕ) (to : ℕ) → AreSpaces bytes from sizes to → from ≤ to
spaces_on bytes from [] to are = omega (arith, are)
spaces_on bytes from (size ∷ sizes) to are = omega (arith, spaces_on bytes (from + size) sizes to are.2)

none_at_end : front [] ≡ None
unfolding front
none_at_end = refl

inside : (bytes : List ℕ) (at : ℕ) (f : Front) → front (drop at bytes) ≡ Some f → at < length bytes
inside bytes at f begins = by (nat_le (length bytes) at) refl
  where
    by : (b : Bool) → nat_le (length bytes) at ≡ b → at < length bytes
    by true e =
        let none : front (drop at bytes) ≡ None = ap front (drop_of_length-le bytes (at_most (length bytes) at e)) ∙ none_at_end in
        absurd (let both = sym none ∙ begins in cc both)
    by false e = grind (arith, nat_tests)

tokens_lawful : (bytes : List ℕ) (from : ℕ) (tokens : List Token) (to : ℕ) → AreTokens bytes from tokens to → All (λ token. IsLawfulWhat token.what) tokens
tokens_lawful bytes from [] to are = All-nil (λ (token : Token). IsLawfulWhat token.what)
tokens_lawful bytes from (token ∷ tokens) to are =
    let f : Front = record { what = token.what; size = are.1.size } in
    All-cons (λ (token : Token). IsLawfulWhat token.what) token tokens
    (subst (λ o. IfSome o (λ (f : Front). IsLawfulWhat f.what)) are.1.begins (lawful_front (drop token.place bytes)))
    (tokens_lawful bytes are.0 tokens to are.2)

pub tokens_rise : (bytes : List ℕ) (low from : ℕ) (tokens : List Token) (to : ℕ) → low ≤ from → AreTokens bytes from tokens to → PlacesRise low (length bytes) tokens
tokens_rise bytes low from [] to on are = tt
tokens_rise bytes low from (token ∷ tokens) to on are =
    let is = are.1 in
    let space = spaces_on bytes from is.place.sizes token.place is.place.are in
    let some : 0 < is.size = subst (λ o. IfSome o IsSome-size) is.begins (some_front (drop token.place bytes)) in (
      omega (arith, on, space),
      inside bytes token.place _ is.begins,
      tokens_rise bytes (token.place + 1) are.0 tokens to (omega (arith, is.end, some)) are.2,
    )

rise_within : (low high next : ℕ) (tokens : List Token) → PlacesRise low high tokens → high ≤ next → PlacesRise low next tokens
rise_within low high next [] rise on = tt
rise_within low high next (first ∷ tokens) rise on = (rise.0, omega (arith, rise.1, on), rise_within (first.place + 1) high next tokens rise.2 on)

pub lawful_tokens : HasLawfulTokens
lawful_tokens bytes tokens lexes few = record {
  spelled = tokens_lawful bytes 0 tokens lexes.end lexes.tokens_are;
  placed = rise_within 0 (length bytes) (2 ^ 32 - 1) tokens (tokens_rise bytes 0 0 tokens lexes.end (omega arith) lexes.tokens_are) (omega (arith, few));
}
