-- Bits and texts are taken as they are spelled.
use Rattle.std.proofs.Common.{◌≡◌, ◌<◌, ◌≤◌, ◌+◌, ◌*◌, ◌^◌, ◌⊎◌, inl, inr, ℕ, zero, suc, Bool, true, false, ◌&&◌, List, [], ◌∷◌, ◌++◌, append_assoc, length-append, length, take, drop, get_or, eqb, nat_le, nat_lt, All, Some, None, if◌then◌else◌, refl, sym, subst, ap, ◌∙◌, arith}
use Rattle.std.specs.List.{list_all}
use Rattle.std.proofs.Math.Nat.{pow-le-pow_right}
use Rattle.std.proofs.lemmas.Bool.{true≢false}
use Rattle.std.proofs.lemmas.Bool.Decides.{nat_tests}
use Rattle.pearl_tree.specs.declared.token.What.TheVariants as what
use Rattle.pearl_tree.specs.Tokens.{IsIdByte, IsText}
use Rattle.pearl_lex.specs.declared.front.Front.{Front}
use Rattle.pearl_lex.specs.Spelling.{sized}
use Rattle.pearl_lex.specs.Quoted.{chars_len, chars_of, quoted_text, digit_width, suffix_len, digit_value, is_digit_of, bits_value, bits_of, closed, quoted}
use Rattle.pearl_lex.specs.Front.{front}
use Rattle.pearl_lex.specs.Spells.{SpellsWidth, BeginsWith, MakesBits, BeginsToken, doubled}
use Rattle.pearl_lex.proofs.Passes.{and_front, and_back, at_most, less, equal, range, choose}
use Rattle.pearl_lex.proofs.Chars.{text_fits}
use Rattle.pearl_lex.proofs.Lawful.{IsChar, chars_are, some_bits, some_width}
use Rattle.pearl_lex.proofs.Runs.{All-map, Sound, both, each_passes}
use Rattle.pearl_lex.proofs.Names.{front_quote}
use Rattle.pearl_lex.proofs.Widths.{Ending, width_written, width_read, are_doubled, zero_quote, is_alone, chars_read, chars_back, quoted_is, digit_is_plain, plain_doubled}

-- ---- what is taken is spelled there

split_at : (bytes : List ℕ) (n : ℕ) → get_or bytes n 0 ≡ 39 → bytes ≡ take n bytes ++ 39 ∷ drop (suc n) bytes
split_at [] zero h = absurd (zero_quote h)
split_at [] (suc n) h = absurd (zero_quote h)
split_at (x ∷ xs) zero h = ap (λ y. y ∷ xs) h
split_at (x ∷ xs) (suc n) h = ap (λ t. x ∷ t) (split_at xs n h)

front_length : (bytes : List ℕ) (n : ℕ) → get_or bytes n 0 ≡ 39 → length (take n bytes) ≡ n
front_length [] zero h = absurd (zero_quote h)
front_length [] (suc n) h = absurd (zero_quote h)
front_length (x ∷ xs) zero h = refl
front_length (x ∷ xs) (suc n) h = let e = front_length xs n h in omega (arith, e)

begins_drop : (bytes : List ℕ) (n : ℕ) → BeginsWith (λ byte. byte ≡ 39) (drop n bytes) → get_or bytes n 0 ≡ 39
begins_drop [] zero h = absurd h
begins_drop [] (suc n) h = absurd h
begins_drop (x ∷ xs) zero h = h
begins_drop (x ∷ xs) (suc n) h = begins_drop xs n h

no_bits : (after : List ℕ) → digit_width after ≡ 0 → ¬ MakesBits after
no_bits after none is =
    let read = width_read is.ending is.tail is.width is.width_is is.ends in
    let zero_wide : is.width ≡ 0 = sym read.0 ∙ ap digit_width (sym is.written) ∙ none in
    some is.ending is.width is.width_is zero_wide
  where
    some : (ending : List ℕ) (width : ℕ) → SpellsWidth ending width → ¬ (width ≡ 0)
    some ending width (inl w) e = omega (arith, w.1, e)
    some ending width (inr w) e = omega (arith, w.1, e)

text_written : (bytes xs after : List ℕ) → bytes ≡ xs ++ 39 ∷ after → ◌≡◌ {A = List ℕ} (39 ∷ bytes) ((39 ∷ (xs ++ 39 ∷ [])) ++ after)
text_written bytes xs after e = ap (λ t. 39 ∷ t) (e ∙ sym (append_assoc xs (39 ∷ []) after))

bits_written : (bytes xs after ending tail : List ℕ) → bytes ≡ xs ++ 39 ∷ after → after ≡ ending ++ tail → ◌≡◌ {A = List ℕ} (39 ∷ bytes) ((39 ∷ (xs ++ 39 ∷ ending)) ++ tail)
bits_written bytes xs after ending tail e f = ap (λ t. 39 ∷ t) (e ∙ ap (λ t. xs ++ 39 ∷ t) f ∙ sym (append_assoc xs (39 ∷ ending) tail))

text_sound : (bytes : List ℕ) → get_or bytes (chars_len bytes) 0 ≡ 39 → digit_width (drop (suc (chars_len bytes)) bytes) ≡ 0
    → Sound (39 ∷ bytes) (sized (quoted_text (chars_of (take (chars_len bytes) bytes))) (chars_len bytes + 2))
text_sound bytes here none =
    let size = chars_len bytes in
    let xs = take size bytes in
    let cs = chars_of xs in
    let after = drop (suc size) bytes in
    by (nat_le 1 (length cs) && nat_le (length cs) 255) refl
  where
    by : (b : Bool) → (nat_le 1 (length (chars_of (take (chars_len bytes) bytes))) && nat_le (length (chars_of (take (chars_len bytes) bytes))) 255) ≡ b
        → Sound (39 ∷ bytes) (sized (if b then Some (what.Text (record { items = chars_of (take (chars_len bytes) bytes) })) else None) (chars_len bytes + 2))
    by false e = tt
    by true e =
        let size = chars_len bytes in
        let xs = take size bytes in
        let cs = chars_of xs in
        let after = drop (suc size) bytes in
        let fits = range 1 255 (length cs) e in
        record {
          text = 39 ∷ (xs ++ 39 ∷ []);
          rest = after;
          written = text_written bytes xs after (split_at bytes size here);
          size_is = simp length-append (omega (arith, front_length bytes size here));
          spells = ((fits.0, fits.1, chars_are bytes), ap (λ t. 39 ∷ (t ++ 39 ∷ [])) (sym (are_doubled bytes)));
          follows = (λ begins. is_alone bytes here (begins_drop bytes (suc size) begins), no_bits after none);
        }

bits_sound : (bytes : List ℕ) (width : ℕ) → get_or bytes (chars_len bytes) 0 ≡ 39 → 1 ≤ width → Ending (drop (suc (chars_len bytes)) bytes) width
    → Sound (39 ∷ bytes) (sized (bits_of width (take (chars_len bytes) bytes)) (chars_len bytes + 2 + suffix_len (drop (suc (chars_len bytes)) bytes)))
bits_sound bytes width here some ending = by _ refl
  where
    by : (b : Bool) → (nat_le 1 (length (take (chars_len bytes) bytes)) && nat_le (length (take (chars_len bytes) bytes) * width) 64 && list_all (is_digit_of width) (take (chars_len bytes) bytes)) ≡ b
        → Sound (39 ∷ bytes) (sized (if b then Some (what.Bits (length (take (chars_len bytes) bytes) * width) (bits_value width (take (chars_len bytes) bytes))) else None) (chars_len bytes + 2 + suffix_len (drop (suc (chars_len bytes)) bytes)))
    by false e = tt
    by true e =
        let size = chars_len bytes in
        let xs = take size bytes in
        let after = drop (suc size) bytes in
        let sizes = and_front (nat_le 1 (length xs) && nat_le (length xs * width) 64) _ e in
        let each = and_back (nat_le 1 (length xs) && nat_le (length xs * width) 64) _ e in
        record {
          text = 39 ∷ (xs ++ 39 ∷ ending.ending);
          rest = ending.tail;
          written = bits_written bytes xs after ending.ending ending.tail (split_at bytes size here) ending.written;
          size_is = simp length-append (omega (arith, front_length bytes size here, ending.size_is));
          spells = record {
            digits = xs;
            ending = ending.ending;
            width = width;
            written = refl;
            width_is = ending.width_is;
            each = All-map (λ d. is_digit_of width d ≡ true) (λ d. digit_value d < 2 ^ width) xs (λ d h. less (digit_value d) (2 ^ width) h) ((each_passes (is_digit_of width) xs).0 each);
            some = some_bits width (length xs) some (at_most 1 (length xs) (and_front (nat_le 1 (length xs)) _ sizes));
            few = at_most (length xs * width) 64 (and_back (nat_le 1 (length xs)) _ sizes);
            len_is = refl;
            value_is = refl;
          };
          follows = ending.ends;
        }

closed_sound : (bytes : List ℕ) → get_or bytes (chars_len bytes) 0 ≡ 39 → Sound (39 ∷ bytes) (closed bytes (chars_len bytes) (drop (suc (chars_len bytes)) bytes))
closed_sound bytes here = by (eqb (digit_width (drop (suc (chars_len bytes)) bytes)) 0) refl (width_written (drop (suc (chars_len bytes)) bytes))
  where
    by : (b : Bool) → eqb (digit_width (drop (suc (chars_len bytes)) bytes)) 0 ≡ b
        → (digit_width (drop (suc (chars_len bytes)) bytes) ≡ 0) ⊎ Ending (drop (suc (chars_len bytes)) bytes) (digit_width (drop (suc (chars_len bytes)) bytes))
        → Sound (39 ∷ bytes) (if b then sized (quoted_text (chars_of (take (chars_len bytes) bytes))) (chars_len bytes + 2)
        else sized (bits_of (digit_width (drop (suc (chars_len bytes)) bytes)) (take (chars_len bytes) bytes)) (chars_len bytes + 2 + suffix_len (drop (suc (chars_len bytes)) bytes)))
    by true e ending = text_sound bytes here (equal (digit_width (drop (suc (chars_len bytes)) bytes)) 0 e)
    by false e (inl none) = absurd (true≢false (sym (ap (λ n. eqb n 0) none) ∙ e))
    by false e (inr ending) = bits_sound bytes (digit_width (drop (suc (chars_len bytes)) bytes)) here (some_width (digit_width (drop (suc (chars_len bytes)) bytes)) e) ending

pub quoted_sound : (bytes : List ℕ) → Sound (39 ∷ bytes) (quoted bytes)
quoted_sound bytes =
    let size = chars_len bytes in
    let next : suc size ≡ size + 1 = omega arith in
    choose (λ (f : Front). BeginsToken (39 ∷ bytes) f.what f.size) (eqb (get_or bytes size 0) 39) (closed bytes size (drop (size + 1) bytes)) None
    (λ h. subst (λ n. Sound (39 ∷ bytes) (closed bytes size (drop n bytes))) next (closed_sound bytes (equal (get_or bytes size 0) 39 h)))
    (λ _. tt)

-- ---- what is spelled there is taken

is_none_wide : (rest : List ℕ) → ¬ MakesBits rest → digit_width rest ≡ 0
is_none_wide rest none = by (width_written rest)
  where
    by : (digit_width rest ≡ 0) ⊎ Ending rest (digit_width rest) → digit_width rest ≡ 0
    by (inl e) = e
    by (inr is) = absurd (none (record { ending = is.ending; tail = is.tail; width = digit_width rest; written = is.written; width_is = is.width_is; ends = is.ends }))

pub text_answer : (cs rest : List ℕ) → IsText cs → ¬ BeginsWith (λ byte. byte ≡ 39) rest → ¬ MakesBits rest
    → front (39 ∷ (doubled cs ++ 39 ∷ rest)) ≡ Some (record { what = what.Text (record { items = cs }); size = length (doubled cs) + 2 })
text_answer cs rest is alone none =
    let size = length (doubled cs) + 2 in
    front_quote (doubled cs ++ 39 ∷ rest) ∙ quoted_is (doubled cs) rest (chars_read cs rest is.2 alone) ∙
    ap (λ w. if eqb w 0 then sized (quoted_text (chars_of (doubled cs))) size else sized (bits_of (digit_width rest) (doubled cs)) (size + suffix_len rest)) (is_none_wide rest none) ∙
    ap (λ t. sized (quoted_text t) size) (chars_back cs) ∙ ap (λ w. sized w size) (sym (text_fits cs is.0 is.1))

width_range : (ending : List ℕ) (width : ℕ) → SpellsWidth ending width → (1 ≤ width) × (width ≤ 4)
width_range ending width (inl is) = (omega (arith, is.1), omega (arith, is.1))
width_range ending width (inr is) = (is.1, is.2)

no_quote : (ending rest : List ℕ) (width : ℕ) → SpellsWidth ending width → ¬ BeginsWith (λ byte. byte ≡ 39) (ending ++ rest)
no_quote ending rest width (inl is) h = absurd (let f = subst (λ t. BeginsWith (λ byte. byte ≡ 39) (t ++ rest)) is.0 h in omega (arith, f))
no_quote ending rest width (inr is) h = absurd (let f = subst (λ t. BeginsWith (λ byte. byte ≡ 39) (t ++ rest)) is.0 h in omega (arith, f))

is_at_most : (a b : ℕ) → a ≤ b → nat_le a b ≡ true
is_at_most a b h = grind (arith, nat_tests)

is_less : (a b : ℕ) → a < b → nat_lt a b ≡ true
is_less a b h = grind (arith, nat_tests)

some_digits : (digits : List ℕ) (width : ℕ) → 1 ≤ length digits * width → 1 ≤ length digits
some_digits [] width h = absurd (omega (arith, h))
some_digits (d ∷ digits) width h = omega arith

bits_fit : (digits : List ℕ) (width : ℕ) → All (λ d. digit_value d < 2 ^ width) digits → 1 ≤ length digits * width → length digits * width ≤ 64
    → bits_of width digits ≡ Some (what.Bits (length digits * width) (bits_value width digits))
bits_fit digits width each some few =
    ap (λ b. if b then Some (what.Bits (length digits * width) (bits_value width digits)) else None)
    (both (nat_le 1 (length digits) && nat_le (length digits * width) 64) (list_all (is_digit_of width) digits)
    (both (nat_le 1 (length digits)) (nat_le (length digits * width) 64) (is_at_most 1 (length digits) (some_digits digits width some)) (is_at_most (length digits * width) 64 few))
    ((each_passes (is_digit_of width) digits).1 (All-map (λ d. digit_value d < 2 ^ width) (λ d. is_digit_of width d ≡ true) digits (λ d h. is_less (digit_value d) (2 ^ width) h) each)))

not_zero : (n : ℕ) → 1 ≤ n → eqb n 0 ≡ false
not_zero n h = grind (arith, nat_tests)

pub bits_answer : (digits ending rest : List ℕ) (width : ℕ) → SpellsWidth ending width → All (λ d. digit_value d < 2 ^ width) digits → 1 ≤ length digits * width → length digits * width ≤ 64
    → ¬ BeginsWith IsIdByte rest → front (39 ∷ (digits ++ 39 ∷ (ending ++ rest))) ≡ Some (record { what = what.Bits (length digits * width) (bits_value width digits); size = length digits + 2 + length ending })
bits_answer digits ending rest width spells each some few ends =
    let after = ending ++ rest in
    let size = length digits + 2 in
    let wide = width_range ending width spells in
    let most : 2 ^ width ≤ 2 ^ 4 = pow-le-pow_right (let two : 0 < 2 = omega arith in two) wide.1 in
    let plain = All-map (λ d. digit_value d < 2 ^ width) (λ d. IsChar d × (eqb d 39 ≡ false)) digits (λ d h. digit_is_plain d (omega (arith, h, most))) each in
    let chars = All-map (λ d. IsChar d × (eqb d 39 ≡ false)) IsChar digits (λ d h. h.0) plain in
    let same : doubled digits ≡ digits = plain_doubled digits (All-map (λ d. IsChar d × (eqb d 39 ≡ false)) (λ d. eqb d 39 ≡ false) digits (λ d h. h.1) plain) in
    let run : chars_len (digits ++ 39 ∷ after) ≡ length digits = subst (λ t. chars_len (t ++ 39 ∷ after) ≡ length t) same (chars_read digits after chars (no_quote ending rest width spells)) in
    let read = width_read ending rest width spells ends in
    front_quote (digits ++ 39 ∷ after) ∙ quoted_is digits after run ∙
    ap (λ w. if eqb w 0 then sized (quoted_text (chars_of digits)) size else sized (bits_of w digits) (size + suffix_len after)) read.0 ∙
    ap (λ b. if b then sized (quoted_text (chars_of digits)) size else sized (bits_of width digits) (size + suffix_len after)) (not_zero width wide.0) ∙
    ap (λ w. sized w (size + suffix_len after)) (bits_fit digits width each some few) ∙
    ap (λ k. Some (record { what = what.Bits (length digits * width) (bits_value width digits); size = size + k })) read.1
