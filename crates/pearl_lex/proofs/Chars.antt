-- The characters between apostrophes, one after another.
use Rattle.std.proofs.Common.{◌≡◌, ◌<◌, ◌≤◌, ◌+◌, ℕ, Bool, true, false, if◌then◌else◌, List, [], ◌∷◌, ◌++◌, append-nil, length, drop, get_or, eqb, Some, refl, sym, subst, ◌∙◌, arith}
use Rattle.std.proofs.lemmas.Bool.Decides.{nat_tests}
use Rattle.pearl_tree.specs.declared.token.What.TheVariants as what
use Rattle.pearl_lex.specs.Quoted.{is_char, char_len, chars_len, chars_of, quoted_text}

one_byte : (p r : Bool) (a size : ℕ) → size ≡ (if p then 0 else (if r then 1 else 0)) → 0 < size
    → (if p then 0 else (if r then 1 else 0)) ≡ size + chars_len (drop size (a ∷ []))
one_byte true r a size is some = absurd (omega (arith, is, some))
one_byte false true a size is some = subst (λ n. 1 ≡ n + chars_len (drop n (a ∷ []))) (sym is) refl
one_byte false false a size is some = absurd (omega (arith, is, some))

two_bytes : (p q r : Bool) (a b : ℕ) (rest : List ℕ) (size : ℕ) → size ≡ (if p then (if q then 2 else 0) else (if r then 1 else 0)) → 0 < size
    → (if p then (if q then 2 + chars_len rest else 0) else (if r then 1 + chars_len (b ∷ rest) else 0)) ≡ size + chars_len (drop size (a ∷ b ∷ rest))
two_bytes true true r a b rest size is some = subst (λ n. 2 + chars_len rest ≡ n + chars_len (drop n (a ∷ b ∷ rest))) (sym is) refl
two_bytes true false r a b rest size is some = absurd (omega (arith, is, some))
two_bytes false q true a b rest size is some = subst (λ n. 1 + chars_len (b ∷ rest) ≡ n + chars_len (drop n (a ∷ b ∷ rest))) (sym is) refl
two_bytes false q false a b rest size is some = absurd (omega (arith, is, some))

pub chars_step : (bytes : List ℕ) (size : ℕ) → size ≡ char_len (get_or bytes 0 0) (get_or bytes 1 0) → 0 < size → chars_len bytes ≡ size + chars_len (drop size bytes)
chars_step [] size is some = absurd (omega (arith, is, some))
chars_step (a ∷ []) size is some = one_byte (eqb a 39) (is_char a) a size is some
chars_step (a ∷ b ∷ rest) size is some = two_bytes (eqb a 39) (eqb b 39) (is_char a) a b rest size is some

text_ends : (text rest chars : List ℕ) → text ++ chars_of rest ≡ chars → length rest < 1 → text ≡ chars
text_ends text [] chars all none = sym (append-nil text) ∙ all
text_ends text (x ∷ rest) chars all none = absurd (omega (arith, none))

pub text_fits : (text : List ℕ) → 1 ≤ length text → length text ≤ 255 → Some (what.Text (record { items = text })) ≡ quoted_text text
text_fits text some few = grind (arith, nat_tests)

pub whole_text : (text rest chars : List ℕ) → text ++ chars_of rest ≡ chars → length rest < 1 → 1 ≤ length text → length text ≤ 255
    → Some (what.Text (record { items = text })) ≡ quoted_text chars
whole_text text rest chars all none some few = subst (λ cs. Some (what.Text (record { items = text })) ≡ quoted_text cs) (text_ends text rest chars all none) (text_fits text some few)

pub not_empty : (text : List ℕ) → eqb (length text) 0 ≡ false → 1 ≤ length text
not_empty [] h = absurd (let f = h in cc f)
not_empty (x ∷ text) h = omega arith
