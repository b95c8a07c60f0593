-- The width that ends bits, and the characters between apostrophes.
use Rattle.std.proofs.Common.{◌≡◌, ◌<◌, ◌≤◌, ◌+◌, ◌-◌, ◌⊎◌, inl, inr, ℕ, suc, Bool, true, false, ◌&&◌, List, [], ◌∷◌, ◌++◌, length, take, drop, get_or, eqb, nat_le, All, None, if◌then◌else◌, refl, sym, subst, ap, ◌∙◌, arith}
use Rattle.std.proofs.Math.Seq.{take-append_seam}
use Rattle.std.proofs.lemmas.Bool.{true≢false}
use Rattle.std.proofs.lemmas.Bool.Decides.{nat_tests}
use Rattle.std.proofs.lemmas.List.Elements.{All-head, All-tail}
use Rattle.pearl_tree.specs.Tokens.{IsIdByte}
use Rattle.pearl_lex.specs.Spelling.{is_id_byte, sized}
use Rattle.pearl_lex.specs.Quoted.{is_char, chars_len, chars_of, quoted_text, digit_width, suffix_len, digit_value, bits_of, closed, quoted}
use Rattle.pearl_lex.specs.Spells.{SpellsWidth, BeginsWith, doubled}
use Rattle.pearl_lex.proofs.Passes.{equal, range, id_byte, one_more}
use Rattle.pearl_lex.proofs.Lawful.{IsChar, chars_cons}
use Rattle.pearl_lex.proofs.Runs.{is_of_id}

-- ---- widths

-- a width ends the bits
pub record Ending (bytes : List ℕ) (width : ℕ) : Type 0 where
  pub ending : List ℕ
  pub tail : List ℕ
  pub written : bytes ≡ ending ++ tail
  pub width_is : SpellsWidth ending width
  pub ends : ¬ BeginsWith IsIdByte tail
  pub size_is : suffix_len bytes ≡ length ending

none_of_id : (b : ℕ) → is_id_byte b ≡ false → ¬ IsIdByte b
none_of_id b e is = true≢false (sym (is_of_id b is) ∙ e)

no_id_byte : (tail : List ℕ) → ¬ BeginsWith IsIdByte tail → is_id_byte (get_or tail 0 0) ≡ false
no_id_byte [] ends = refl
no_id_byte (b ∷ tail) ends = by (is_id_byte b) refl
  where
    by : (is : Bool) → is_id_byte b ≡ is → is ≡ false
    by true e = absurd (ends (id_byte b e))
    by false e = refl

letter_B : (b : ℕ) (tail : List ℕ) → eqb b 66 ≡ true → ◌≡◌ {A = List ℕ} (b ∷ tail) (66 ∷ tail)
letter_B b tail e = ap (λ x. x ∷ tail) (equal b 66 e)

one_bit : (b : ℕ) (tail : List ℕ) → eqb b 66 ≡ true → ¬ BeginsWith IsIdByte tail → is_id_byte (get_or tail 0 0) ≡ false → Ending (b ∷ tail) 1
one_bit b tail e ends none = record {
  ending = 66 ∷ [];
  tail = tail;
  written = letter_B b tail e;
  width_is = inl (refl, refl);
  ends = ends;
  size_is = ap (λ t. if t then 2 else 1) none;
}

more_bits : (b c : ℕ) (tail : List ℕ) → eqb b 66 ≡ true → is_id_byte c ≡ true → 49 ≤ c → c ≤ 52 → ¬ BeginsWith IsIdByte tail → Ending (b ∷ c ∷ tail) (c - 48)
more_bits b c tail e is low high ends = record {
  ending = 66 ∷ (48 + (c - 48)) ∷ [];
  tail = tail;
  written = (let same : c ≡ 48 + (c - 48) = omega (arith, low) in letter_B b (c ∷ tail) e ∙ ap (λ n. 66 ∷ n ∷ tail) same);
  width_is = inr (refl, omega (arith, low), omega (arith, high));
  ends = ends;
  size_is = ap (λ t. if t then 2 else 1) is;
}

-- the width that the definition sees is written there
pub width_written : (bytes : List ℕ) → (digit_width bytes ≡ 0) ⊎ Ending bytes (digit_width bytes)
width_written [] = inl refl
width_written (b ∷ []) = by (eqb b 66) refl
  where
    by : (x : Bool) → eqb b 66 ≡ x → (◌≡◌ {A = ℕ} (if x then 1 else 0) 0) ⊎ Ending (b ∷ []) (if x then 1 else 0)
    by true e = inr (one_bit b [] e (λ h. h) refl)
    by false e = inl refl
width_written (b ∷ c ∷ tail) = by (eqb b 66) (is_id_byte c) (nat_le 49 c && nat_le c 52) (is_id_byte (get_or tail 0 0)) refl refl refl refl
  where
    by : (x y z v : Bool) → eqb b 66 ≡ x → is_id_byte c ≡ y → (nat_le 49 c && nat_le c 52) ≡ z → is_id_byte (get_or tail 0 0) ≡ v
        → (◌≡◌ {A = ℕ} (if x then (if y then (if z then (if v then 0 else c - 48) else 0) else 1) else 0) 0) ⊎ Ending (b ∷ c ∷ tail) (if x then (if y then (if z then (if v then 0 else c - 48) else 0) else 1) else 0)
    by false y z v e1 e2 e3 e4 = inl refl
    by true false z v e1 e2 e3 e4 = inr (one_bit b (c ∷ tail) e1 (none_of_id c e2) e2)
    by true true false v e1 e2 e3 e4 = inl refl
    by true true true true e1 e2 e3 e4 = inl refl
    by true true true false e1 e2 e3 e4 =
        let within = range 49 52 c e3 in
        inr (more_bits b c tail e1 e2 within.0 within.1 (ends tail e4))
      where
        ends : (tail : List ℕ) → is_id_byte (get_or tail 0 0) ≡ false → ¬ BeginsWith IsIdByte tail
        ends [] e h = h
        ends (d ∷ tail) e h = none_of_id d e h

-- and a width that is written there is seen
pub width_read : (ending tail : List ℕ) (width : ℕ) → SpellsWidth ending width → ¬ BeginsWith IsIdByte tail
    → (digit_width (ending ++ tail) ≡ width) × (suffix_len (ending ++ tail) ≡ length ending)
width_read ending tail width (inl is) ends =
    let none = no_id_byte tail ends in
    let width_is : digit_width (66 ∷ tail) ≡ 1 = ap (λ t. if t then (if nat_le 49 (get_or tail 0 0) && nat_le (get_or tail 0 0) 52 then (if is_id_byte (get_or tail 1 0) then 0 else get_or tail 0 0 - 48) else 0) else 1) none in
    let size_is : suffix_len (66 ∷ tail) ≡ 1 = ap (λ t. if t then 2 else 1) none in
    (ap (λ e. digit_width (e ++ tail)) is.0 ∙ width_is ∙ sym is.1, ap (λ e. suffix_len (e ++ tail)) is.0 ∙ size_is ∙ sym (ap length is.0))
width_read ending tail width (inr is) ends =
    let none = no_id_byte tail ends in
    let c = 48 + width in
    let digit : is_id_byte c ≡ true = is_of_id c (inr (inl (omega (arith, is.1), omega (arith, is.2)))) in
    let low : nat_le 49 c && nat_le c 52 ≡ true = in_range c (omega (arith, is.1)) (omega (arith, is.2)) in
    let back : c - 48 ≡ width = omega arith in
    let width_is : digit_width (66 ∷ c ∷ tail) ≡ width =
    ap (λ t. if t then (if nat_le 49 c && nat_le c 52 then (if is_id_byte (get_or tail 0 0) then 0 else c - 48) else 0) else 1) digit ∙
    ap (λ t. if t then (if is_id_byte (get_or tail 0 0) then 0 else c - 48) else 0) low ∙ ap (λ t. if t then 0 else c - 48) none ∙ back in
    let size_is : suffix_len (66 ∷ c ∷ tail) ≡ 2 = ap (λ t. if t then 2 else 1) digit in
    (ap (λ e. digit_width (e ++ tail)) is.0 ∙ width_is, ap (λ e. suffix_len (e ++ tail)) is.0 ∙ size_is ∙ sym (ap length is.0))
  where
    in_range : (c : ℕ) → 49 ≤ c → c ≤ 52 → nat_le 49 c && nat_le c 52 ≡ true
    in_range c low high = grind (arith, nat_tests)

-- ---- characters

two_more : (k : ℕ) → suc (suc k) ≡ 2 + k
two_more k = omega arith

doubled_one : (a : ℕ) (cs : List ℕ) → eqb a 39 ≡ false → doubled (a ∷ cs) ≡ a ∷ doubled cs
doubled_one a cs e = ap (λ b. (if b then a ∷ a ∷ [] else a ∷ []) ++ doubled cs) e

doubled_two : (a : ℕ) (cs : List ℕ) → eqb a 39 ≡ true → doubled (a ∷ cs) ≡ a ∷ a ∷ doubled cs
doubled_two a cs e = ap (λ b. (if b then a ∷ a ∷ [] else a ∷ []) ++ doubled cs) e

chars_two : (a b : ℕ) (rest : List ℕ) → eqb a 39 ≡ true → chars_of (a ∷ b ∷ rest) ≡ a ∷ chars_of rest
chars_two a b rest e = ap (λ t. a ∷ (if t then chars_of rest else chars_of (b ∷ rest))) e

abbrev AreDoubled : List ℕ → Type 0
AreDoubled bytes = doubled (chars_of bytes) ≡ bytes

doubled_more : (p q r : Bool) (a b : ℕ) (rest : List ℕ) → eqb a 39 ≡ p → eqb b 39 ≡ q → AreDoubled (take (chars_len rest) rest) → AreDoubled (take (chars_len (b ∷ rest)) (b ∷ rest))
    → AreDoubled (take (if p then (if q then 2 + chars_len rest else 0) else (if r then 1 + chars_len (b ∷ rest) else 0)) (a ∷ b ∷ rest))
doubled_more true true r a b rest e f both one =
    let inner = take (chars_len rest) rest in
    let same : a ≡ b = equal a 39 e ∙ sym (equal b 39 f) in
    subst (λ n. AreDoubled (take n (a ∷ b ∷ rest))) (two_more (chars_len rest))
    (ap doubled (chars_two a b inner e) ∙ doubled_two a (chars_of inner) e ∙ ap (λ t. a ∷ a ∷ t) both ∙ ap (λ x. a ∷ x ∷ inner) same)
doubled_more true false r a b rest e f both one = refl
doubled_more false q true a b rest e f both one =
    let inner = take (chars_len (b ∷ rest)) (b ∷ rest) in
    subst (λ n. AreDoubled (take n (a ∷ b ∷ rest))) (one_more (chars_len (b ∷ rest)))
    (ap doubled (chars_cons a inner e) ∙ doubled_one a (chars_of inner) e ∙ ap (λ t. a ∷ t) one)
doubled_more false q false a b rest e f both one = refl

doubled_last : (p r : Bool) (a : ℕ) → eqb a 39 ≡ p → AreDoubled (take (if p then 0 else (if r then 1 else 0)) (a ∷ []))
doubled_last true r a e = refl
doubled_last false true a e = doubled_one a [] e
doubled_last false false a e = refl

-- the bytes at the front that spell characters are these with each apostrophe written twice
pub are_doubled : (bytes : List ℕ) → doubled (chars_of (take (chars_len bytes) bytes)) ≡ take (chars_len bytes) bytes
are_doubled [] = refl
are_doubled (a ∷ []) = doubled_last (eqb a 39) (is_char a) a refl
are_doubled (a ∷ b ∷ rest) = doubled_more (eqb a 39) (eqb b 39) (is_char a) a b rest refl refl (are_doubled rest) (are_doubled (b ∷ rest))

-- an apostrophe behind them is no half of one that is written twice
abbrev IsAlone : List ℕ → ℕ → Type 0
IsAlone bytes n = get_or bytes n 0 ≡ 39 → ¬ (get_or bytes (suc n) 0 ≡ 39)

not_quote : (a : ℕ) → eqb a 39 ≡ false → ¬ (a ≡ 39)
not_quote a e is = absurd (let f = sym e ∙ ap (λ x. eqb x 39) is in cc f)

pub zero_quote : ¬ (◌≡◌ {A = ℕ} 0 39)
zero_quote h = omega (arith, h)

alone_more : (p q r : Bool) (a b : ℕ) (rest : List ℕ) → eqb a 39 ≡ p → eqb b 39 ≡ q → IsAlone rest (chars_len rest) → IsAlone (b ∷ rest) (chars_len (b ∷ rest))
    → IsAlone (a ∷ b ∷ rest) (if p then (if q then 2 + chars_len rest else 0) else (if r then 1 + chars_len (b ∷ rest) else 0))
alone_more true true r a b rest e f both one = subst (IsAlone (a ∷ b ∷ rest)) (two_more (chars_len rest)) both
alone_more true false r a b rest e f both one = λ _. not_quote b f
alone_more false q true a b rest e f both one = subst (IsAlone (a ∷ b ∷ rest)) (one_more (chars_len (b ∷ rest))) one
alone_more false q false a b rest e f both one = λ here. absurd (not_quote a e here)

alone_last : (p r : Bool) (a : ℕ) → eqb a 39 ≡ p → IsAlone (a ∷ []) (if p then 0 else (if r then 1 else 0))
alone_last true r a e = λ _ next. zero_quote next
alone_last false true a e = λ here _. zero_quote here
alone_last false false a e = λ here. absurd (not_quote a e here)

pub is_alone : (bytes : List ℕ) → IsAlone bytes (chars_len bytes)
is_alone [] = λ here _. zero_quote here
is_alone (a ∷ []) = alone_last (eqb a 39) (is_char a) a refl
is_alone (a ∷ b ∷ rest) = alone_more (eqb a 39) (eqb b 39) (is_char a) a b rest refl refl (is_alone rest) (is_alone (b ∷ rest))

-- ---- characters that are written are read

plain_char : (c : ℕ) (more : List ℕ) → eqb c 39 ≡ false → is_char c ≡ true → chars_len (c ∷ more) ≡ 1 + chars_len more
plain_char c [] e f = ap (λ p. if p then 0 else (if is_char c then 1 else 0)) e ∙ ap (λ r. if r then 1 else 0) f
plain_char c (b ∷ more) e f = ap (λ p. if p then (if eqb b 39 then 2 + chars_len more else 0) else (if is_char c then 1 + chars_len (b ∷ more) else 0)) e ∙ ap (λ r. if r then 1 + chars_len (b ∷ more) else 0) f

two_quotes : (c : ℕ) (more : List ℕ) → eqb c 39 ≡ true → chars_len (c ∷ c ∷ more) ≡ 2 + chars_len more
two_quotes c more e = ap (λ p. if p then (if p then 2 + chars_len more else 0) else (if is_char c then 1 + chars_len (c ∷ more) else 0)) e

char_is : (c : ℕ) → IsChar c → is_char c ≡ true
char_is c h = grind (arith, nat_tests)

-- the closing apostrophe ends them
closing : (rest : List ℕ) → ¬ BeginsWith (λ byte. byte ≡ 39) rest → chars_len (39 ∷ rest) ≡ 0
closing [] ends = refl
closing (c ∷ rest) ends = by (eqb c 39) refl
  where
    by : (q : Bool) → eqb c 39 ≡ q → (if q then 2 + chars_len rest else 0) ≡ 0
    by true e = absurd (ends (equal c 39 e))
    by false e = refl

pub chars_read : (cs rest : List ℕ) → All IsChar cs → ¬ BeginsWith (λ byte. byte ≡ 39) rest → chars_len (doubled cs ++ 39 ∷ rest) ≡ length (doubled cs)
chars_read [] rest all ends = closing rest ends
chars_read (c ∷ cs) rest all ends = by (eqb c 39) refl (chars_read cs rest (All-tail IsChar c cs all) ends)
  where
    by : (q : Bool) → eqb c 39 ≡ q → chars_len (doubled cs ++ 39 ∷ rest) ≡ length (doubled cs) → chars_len (doubled (c ∷ cs) ++ 39 ∷ rest) ≡ length (doubled (c ∷ cs))
    by true e more =
        let two = doubled_two c cs e in
        ap (λ t. chars_len (t ++ 39 ∷ rest)) two ∙ two_quotes c (doubled cs ++ 39 ∷ rest) e ∙ omega (arith, more, ap length two)
    by false e more =
        let one = doubled_one c cs e in
        ap (λ t. chars_len (t ++ 39 ∷ rest)) one ∙ plain_char c (doubled cs ++ 39 ∷ rest) e (char_is c (All-head IsChar c cs all)) ∙ omega (arith, more, ap length one)

pub chars_back : (cs : List ℕ) → chars_of (doubled cs) ≡ cs
chars_back [] = refl
chars_back (c ∷ cs) = by (eqb c 39) refl (chars_back cs)
  where
    by : (q : Bool) → eqb c 39 ≡ q → chars_of (doubled cs) ≡ cs → chars_of (doubled (c ∷ cs)) ≡ c ∷ cs
    by true e more = ap chars_of (doubled_two c cs e) ∙ chars_two c c (doubled cs) e ∙ ap (λ t. c ∷ t) more
    by false e more = ap chars_of (doubled_one c cs e) ∙ chars_cons c (doubled cs) e ∙ ap (λ t. c ∷ t) more

at_seam : (xs : List ℕ) (y : ℕ) (ys : List ℕ) → get_or (xs ++ y ∷ ys) (length xs) 0 ≡ y
at_seam [] y ys = refl
at_seam (x ∷ xs) y ys = at_seam xs y ys

past_seam : (xs : List ℕ) (y : ℕ) (ys : List ℕ) → drop (suc (length xs)) (xs ++ y ∷ ys) ≡ ys
past_seam [] y ys = refl
past_seam (x ∷ xs) y ys = past_seam xs y ys

-- what is quoted where the characters end at an apostrophe
pub quoted_is : (xs rest : List ℕ) → chars_len (xs ++ 39 ∷ rest) ≡ length xs
    → quoted (xs ++ 39 ∷ rest) ≡ (if eqb (digit_width rest) 0 then sized (quoted_text (chars_of xs)) (length xs + 2) else sized (bits_of (digit_width rest) xs) (length xs + 2 + suffix_len rest))
quoted_is xs rest e =
    let bytes = xs ++ 39 ∷ rest in
    let n = length xs in
    let next : drop (n + 1) bytes ≡ rest = (let f : n + 1 ≡ suc n = omega arith in ap (λ k. drop k bytes) f) ∙ past_seam xs 39 rest in
    ap (λ k. if eqb (get_or bytes k 0) 39 then closed bytes k (drop (k + 1) bytes) else None) e ∙
    ap (λ b. if eqb b 39 then closed bytes n (drop (n + 1) bytes) else None) (at_seam xs 39 rest) ∙
    ap (λ after. closed bytes n after) next ∙
    ap (λ t. if eqb (digit_width rest) 0 then sized (quoted_text (chars_of t)) (n + 2) else sized (bits_of (digit_width rest) t) (n + 2 + suffix_len rest)) (take-append_seam xs (39 ∷ rest))

-- a digit is a character, and no apostrophe
pub digit_is_plain : (d : ℕ) → digit_value d < 16 → IsChar d × (eqb d 39 ≡ false)
digit_is_plain d h = by (nat_le 48 d && nat_le d 57) (nat_le 65 d && nat_le d 70) refl refl h
  where
    off : (d : ℕ) → 39 < d → eqb d 39 ≡ false
    off d h = grind (arith, nat_tests)

    by : (x y : Bool) → (nat_le 48 d && nat_le d 57) ≡ x → (nat_le 65 d && nat_le d 70) ≡ y → (if x then d - 48 else (if y then d - 55 else 16)) < 16 → IsChar d × (eqb d 39 ≡ false)
    by true y e f h = let within = range 48 57 d e in ((omega (arith, within.0), omega (arith, within.1)), off d (omega (arith, within.0)))
    by false true e f h = let within = range 65 70 d f in ((omega (arith, within.0), omega (arith, within.1)), off d (omega (arith, within.0)))
    by false false e f h = absurd (omega (arith, h))

pub plain_doubled : (xs : List ℕ) → All (λ d. eqb d 39 ≡ false) xs → doubled xs ≡ xs
plain_doubled [] all = refl
plain_doubled (x ∷ xs) all = doubled_one x xs (All-head (λ d. eqb d 39 ≡ false) x xs all) ∙ ap (λ t. x ∷ t) (plain_doubled xs (All-tail (λ d. eqb d 39 ≡ false) x xs all))
