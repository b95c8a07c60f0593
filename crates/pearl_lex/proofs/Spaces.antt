-- Blanks and comments are passed over as they are spelled.
use Rattle.std.proofs.Common.{◌≡◌, ◌≢◌, ◌<◌, ◌≤◌, ◌+◌, ◌⊎◌, inl, inr, ℕ, suc, Bool, true, false, ◌&&◌, ◌||◌, List, [], ◌∷◌, ◌++◌, append_assoc, length-append, length, take, drop, get_or, eqb, nat_le, All, if◌then◌else◌, refl, sym, subst, ap, ◌∙◌, arith}
use Rattle.std.specs.List.{prefix_len}
use Rattle.std.proofs.lemmas.Bool.{false≢true, true≢false}
use Rattle.std.proofs.lemmas.Bool.Decides.{nat_tests}
use Rattle.std.proofs.lemmas.List.Folds.{length-prefix_len}
use Rattle.pearl_lex.specs.Spelling.{is_blank, is_in_line, before_end, enclosed_len, space_len}
use Rattle.pearl_lex.specs.Spaces.{IsBlank, IsEnclosed, EndsLine, IsLineComment, BeginsSpace}
use Rattle.pearl_lex.specs.Laws.{PassesSpaces}
use Rattle.pearl_lex.proofs.Passes.{and_front, and_back, at_most, equal, all_prefix, or_cases}
use Rattle.pearl_lex.proofs.Runs.{run_split, run_append, All-map}

-- ---- what is passed over is a blank or a comment

one : (b c : ℕ) → eqb b c ≡ true → ◌≡◌ {A = List ℕ} (b ∷ []) (c ∷ [])
one b c e = ap (λ x. x ∷ []) (equal b c e)

blank_is : (b : ℕ) → is_blank b ≡ true → IsBlank (b ∷ [])
blank_is b h = by4 (or_cases (eqb b 9 || eqb b 10 || eqb b 12 || eqb b 13) (eqb b 32) h)
  where
    by1 : ((eqb b 9 ≡ true) ⊎ (eqb b 10 ≡ true)) → IsBlank (b ∷ [])
    by1 (inl e) = inl (one b 9 e)
    by1 (inr e) = inr (inl (one b 10 e))

    by2 : ((eqb b 9 || eqb b 10 ≡ true) ⊎ (eqb b 12 ≡ true)) → IsBlank (b ∷ [])
    by2 (inl e) = by1 (or_cases (eqb b 9) (eqb b 10) e)
    by2 (inr e) = inr (inr (inl (one b 12 e)))

    by3 : ((eqb b 9 || eqb b 10 || eqb b 12 ≡ true) ⊎ (eqb b 13 ≡ true)) → IsBlank (b ∷ [])
    by3 (inl e) = by2 (or_cases (eqb b 9 || eqb b 10) (eqb b 12) e)
    by3 (inr e) = inr (inr (inr (inl (one b 13 e))))

    by4 : ((eqb b 9 || eqb b 10 || eqb b 12 || eqb b 13 ≡ true) ⊎ (eqb b 32 ≡ true)) → IsBlank (b ∷ [])
    by4 (inl e) = by3 (or_cases (eqb b 9 || eqb b 10 || eqb b 12) (eqb b 13) e)
    by4 (inr e) = inr (inr (inr (inr (one b 32 e))))

stays_in_line : (b : ℕ) → is_in_line b ≡ true → b ≢ 10
stays_in_line b h e = absurd (let f = sym h ∙ ap (λ x. if eqb x 10 then false else true) e in cc f)

ends_line : (b : ℕ) → is_in_line b ≡ false → b ≡ 10
ends_line b h = by (eqb b 10) refl h
  where
    by : (x : Bool) → eqb b 10 ≡ x → (if x then false else true) ≡ false → b ≡ 10
    by true e h = equal b 10 e
    by false e h = absurd (true≢false h)

line_end : (bytes : List ℕ) → EndsLine (drop (prefix_len is_in_line bytes) bytes)
line_end [] = tt
line_end (b ∷ bytes) = by (is_in_line b) refl (line_end bytes)
  where
    by : (x : Bool) → is_in_line b ≡ x → EndsLine (drop (prefix_len is_in_line bytes) bytes) → EndsLine (drop (if x then 1 + prefix_len is_in_line bytes else 0) (b ∷ bytes))
    by true e more = let up : suc (prefix_len is_in_line bytes) ≡ 1 + prefix_len is_in_line bytes = omega arith in subst (λ n. EndsLine (drop n (b ∷ bytes))) up more
    by false e more = ends_line b e

line_comment : (rest : List ℕ) → BeginsSpace (33 ∷ rest) (1 + prefix_len is_in_line rest)
line_comment rest = record {
  text = 33 ∷ take (prefix_len is_in_line rest) rest;
  rest = drop (prefix_len is_in_line rest) rest;
  written = ap (λ t. 33 ∷ t) (run_split is_in_line rest);
  size_is = omega (arith, length-prefix_len is_in_line rest);
  is = inr (inr (record { inner = take (prefix_len is_in_line rest) rest; written = refl; in_line = all_prefix is_in_line (λ byte. byte ≢ 10) rest stays_in_line; ends = line_end rest }));
}

-- the bytes before the first `*/`, and what follows it
record Closed (bytes : List ℕ) (size : ℕ) : Type 0 where
  inner : List ℕ
  after : List ℕ
  written : bytes ≡ inner ++ 42 ∷ 47 ∷ after
  count : size ≡ length inner
  first : (before after : List ℕ) → inner ++ 42 ∷ 47 ∷ [] ≡ before ++ 42 ∷ 47 ∷ after → length inner ≤ length before

is_end : (b : ℕ) (rest : List ℕ) → (eqb b 42 && eqb (get_or rest 0 0) 47) ≡ true → ◌≡◌ {A = List ℕ} (b ∷ rest) (42 ∷ 47 ∷ drop 1 rest)
is_end b [] h = absurd (false≢true (and_back (eqb b 42) _ h))
is_end b (c ∷ rest) h = ap (λ x. x ∷ c ∷ rest) (equal b 42 (and_front (eqb b 42) _ h)) ∙ ap (λ y. 42 ∷ y ∷ rest) (equal c 47 (and_back (eqb b 42) _ h))

-- the first byte of a list that does not end before its star
same_first : (inner rest other : List ℕ) → get_or (inner ++ 42 ∷ rest) 0 0 ≡ get_or (inner ++ 42 ∷ other) 0 0
same_first [] rest other = refl
same_first (x ∷ inner) rest other = refl

-- no `*/` stands at the first of these bytes
no_end_first : (b : ℕ) (rest before after : List ℕ) (n : ℕ) → (eqb b 42 && eqb (get_or rest 0 0) 47) ≡ false
    → b ∷ rest ≡ before ++ 42 ∷ 47 ∷ after → ((before : List ℕ) → rest ≡ before ++ 42 ∷ 47 ∷ after → n ≤ length before) → suc n ≤ length before
no_end_first b rest [] after n e is go =
    absurd (false≢true (sym e ∙ ap (λ t. eqb (get_or t 0 0) 42 && eqb (get_or t 1 0) 47) is))
no_end_first b rest (x ∷ before) after n e is go = let more = go before (ap (drop 1) is) in omega (arith, more)

end_is : (bytes : List ℕ) → before_end bytes < length bytes → Closed bytes (before_end bytes)
end_is [] inside = absurd (omega (arith, inside))
end_is (b ∷ rest) inside = by (eqb b 42 && eqb (get_or rest 0 0) 47) refl inside (λ h. end_is rest h)
  where
    by : (x : Bool) → (eqb b 42 && eqb (get_or rest 0 0) 47) ≡ x → (if x then 0 else 1 + before_end rest) < suc (length rest) → (before_end rest < length rest → Closed rest (before_end rest))
        → Closed (b ∷ rest) (if x then 0 else 1 + before_end rest)
    by true e inside go = record { inner = []; after = drop 1 rest; written = is_end b rest e; count = refl; first = λ before after is. omega arith }
    by false e inside go =
        let closed = go (omega (arith, inside)) in
        let test : (eqb b 42 && eqb (get_or (closed.inner ++ 42 ∷ 47 ∷ []) 0 0) 47) ≡ false =
        ap (λ c. eqb b 42 && eqb c 47) (same_first closed.inner (47 ∷ []) (47 ∷ closed.after) ∙ sym (ap (λ t. get_or t 0 0) closed.written)) ∙ e in
        record {
          inner = b ∷ closed.inner;
          after = closed.after;
          written = ap (λ t. b ∷ t) closed.written;
          count = omega (arith, closed.count);
          first = λ before after is. no_end_first b (closed.inner ++ 42 ∷ 47 ∷ []) before after (length closed.inner) test is (λ before is. closed.first before after is);
        }

enclosed : (rest : List ℕ) (size : ℕ) → Closed rest size → BeginsSpace (47 ∷ 42 ∷ rest) (size + 4)
enclosed rest size closed =
    record {
      text = 47 ∷ 42 ∷ (closed.inner ++ 42 ∷ 47 ∷ []);
      rest = closed.after;
      written = ap (λ t. 47 ∷ 42 ∷ t) (closed.written ∙ sym (append_assoc closed.inner (42 ∷ 47 ∷ []) closed.after));
      size_is = simp length-append (omega (arith, closed.count));
      is = inr (inl (record { inner = closed.inner; written = refl; first = closed.first }));
    }

comment_sound : (rest : List ℕ) → 0 < enclosed_len (47 ∷ 42 ∷ rest) (before_end rest) → BeginsSpace (47 ∷ 42 ∷ rest) (enclosed_len (47 ∷ 42 ∷ rest) (before_end rest))
comment_sound rest some = by (nat_le (before_end rest + 4) (length (47 ∷ 42 ∷ rest))) refl some
  where
    by : (x : Bool) → nat_le (before_end rest + 4) (length (47 ∷ 42 ∷ rest)) ≡ x → 0 < (if x then before_end rest + 4 else 0) → BeginsSpace (47 ∷ 42 ∷ rest) (if x then before_end rest + 4 else 0)
    by true e some = let fits = at_most (before_end rest + 4) (length (47 ∷ 42 ∷ rest)) e in enclosed rest (before_end rest) (end_is rest (omega (arith, fits)))
    by false e some = absurd (omega (arith, some))

slash_star : (b : ℕ) (rest : List ℕ) → (eqb b 47 && eqb (get_or rest 0 0) 42) ≡ true → ◌≡◌ {A = List ℕ} (b ∷ rest) (47 ∷ 42 ∷ drop 1 rest)
slash_star b [] h = absurd (false≢true (and_back (eqb b 47) _ h))
slash_star b (c ∷ rest) h = ap (λ x. x ∷ c ∷ rest) (equal b 47 (and_front (eqb b 47) _ h)) ∙ ap (λ y. 47 ∷ y ∷ rest) (equal c 42 (and_back (eqb b 47) _ h))

space_sound : (bytes : List ℕ) → 0 < space_len bytes → BeginsSpace bytes (space_len bytes)
space_sound [] some = absurd (omega (arith, some))
space_sound (b ∷ rest) some = by (is_blank b) (eqb b 33) (eqb b 47 && eqb (get_or rest 0 0) 42) refl refl refl some
  where
    by : (x y z : Bool) → is_blank b ≡ x → eqb b 33 ≡ y → (eqb b 47 && eqb (get_or rest 0 0) 42) ≡ z
        → 0 < (if x then 1 else (if y then 1 + prefix_len is_in_line rest else (if z then enclosed_len (b ∷ rest) (before_end (drop 1 rest)) else 0)))
        → BeginsSpace (b ∷ rest) (if x then 1 else (if y then 1 + prefix_len is_in_line rest else (if z then enclosed_len (b ∷ rest) (before_end (drop 1 rest)) else 0)))
    by true y z e1 e2 e3 some = record { text = b ∷ []; rest = rest; written = refl; size_is = refl; is = inl (blank_is b e1) }
    by false true z e1 e2 e3 some = subst (λ c. BeginsSpace (c ∷ rest) (1 + prefix_len is_in_line rest)) (sym (equal b 33 e2)) (line_comment rest)
    by false false true e1 e2 e3 some =
        let is = slash_star b rest e3 in
        let P : List ℕ → Type 0 = λ bytes. 0 < enclosed_len bytes (before_end (drop 1 rest)) → BeginsSpace bytes (enclosed_len bytes (before_end (drop 1 rest))) in
        (subst P (sym is) (comment_sound (drop 1 rest))) some
    by false false false e1 e2 e3 some = absurd (omega (arith, some))

-- ---- a blank or a comment is passed over

abbrev Passed : List ℕ → ℕ → Type 0
Passed bytes size = (0 < size) × (space_len bytes ≡ size)

blank_passed : (text rest : List ℕ) → IsBlank text → Passed (text ++ rest) (length text)
blank_passed text rest (inl e) = subst (λ t. Passed (t ++ rest) (length t)) (sym e) (omega arith, refl)
blank_passed text rest (inr (inl e)) = subst (λ t. Passed (t ++ rest) (length t)) (sym e) (omega arith, refl)
blank_passed text rest (inr (inr (inl e))) = subst (λ t. Passed (t ++ rest) (length t)) (sym e) (omega arith, refl)
blank_passed text rest (inr (inr (inr (inl e)))) = subst (λ t. Passed (t ++ rest) (length t)) (sym e) (omega arith, refl)
blank_passed text rest (inr (inr (inr (inr e)))) = subst (λ t. Passed (t ++ rest) (length t)) (sym e) (omega arith, refl)

not_ten : (b : ℕ) → b ≢ 10 → is_in_line b ≡ true
not_ten b h = by (eqb b 10) refl
  where
    by : (x : Bool) → eqb b 10 ≡ x → (if x then false else true) ≡ true
    by true e = absurd (h (equal b 10 e))
    by false e = refl

line_ends : (rest : List ℕ) → EndsLine rest → prefix_len is_in_line rest ≡ 0
line_ends [] ends = refl
line_ends (b ∷ rest) ends = ap (λ x. if (if eqb x 10 then false else true) then 1 + prefix_len is_in_line rest else 0) ends

line_passed : (inner rest : List ℕ) → All (λ byte. byte ≢ 10) inner → EndsLine rest → Passed (33 ∷ (inner ++ rest)) (suc (length inner))
line_passed inner rest all ends =
    let run : prefix_len is_in_line (inner ++ rest) ≡ length inner + prefix_len is_in_line rest = run_append is_in_line inner rest (All-map (λ byte. byte ≢ 10) (λ byte. is_in_line byte ≡ true) inner not_ten all) in
    let end = line_ends rest ends in
    (omega arith, omega (arith, run, end))

first_end : (inner rest : List ℕ) → ((before after : List ℕ) → inner ++ 42 ∷ 47 ∷ [] ≡ before ++ 42 ∷ 47 ∷ after → length inner ≤ length before) → before_end (inner ++ 42 ∷ 47 ∷ rest) ≡ length inner
first_end [] rest first = refl
first_end (b ∷ inner) rest first =
    by (eqb b 42 && eqb (get_or (inner ++ 42 ∷ 47 ∷ rest) 0 0) 47) refl
    (first_end inner rest (λ before after is. (let more = first (b ∷ before) after (ap (λ t. b ∷ t) is) in omega (arith, more))))
  where
    by : (x : Bool) → (eqb b 42 && eqb (get_or (inner ++ 42 ∷ 47 ∷ rest) 0 0) 47) ≡ x → before_end (inner ++ 42 ∷ 47 ∷ rest) ≡ length inner
        → (if x then 0 else 1 + before_end (inner ++ 42 ∷ 47 ∷ rest)) ≡ suc (length inner)
    by true e more =
        let test : (eqb b 42 && eqb (get_or (inner ++ 42 ∷ 47 ∷ []) 0 0) 47) ≡ true = ap (λ c. eqb b 42 && eqb c 47) (same_first inner (47 ∷ []) (47 ∷ rest)) ∙ e in
        let none = first [] (drop 1 (inner ++ 42 ∷ 47 ∷ [])) (is_end b (inner ++ 42 ∷ 47 ∷ []) test) in
        absurd (omega (arith, none))
    by false e more = omega (arith, more)

fits : (n m : ℕ) → n ≤ m → (if nat_le n m then n else 0) ≡ n
fits n m h = grind (arith, nat_tests)

enclosed_passed : (inner rest : List ℕ) → ((before after : List ℕ) → inner ++ 42 ∷ 47 ∷ [] ≡ before ++ 42 ∷ 47 ∷ after → length inner ≤ length before)
    → Passed (47 ∷ 42 ∷ (inner ++ 42 ∷ 47 ∷ rest)) (length inner + 4)
enclosed_passed inner rest first =
    let bytes = 47 ∷ 42 ∷ (inner ++ 42 ∷ 47 ∷ rest) in
    let size : length bytes ≡ length inner + 4 + length rest = simp length-append (omega arith) in (
      omega arith,
      ap (enclosed_len bytes) (first_end inner rest first) ∙ fits (length inner + 4) (length bytes) (omega (arith, size)),
    )

space_passed : (text rest : List ℕ) → IsBlank text ⊎ (IsEnclosed text ⊎ IsLineComment text rest) → Passed (text ++ rest) (length text)
space_passed text rest (inl is) = blank_passed text rest is
space_passed text rest (inr (inl is)) =
    subst (λ t. Passed (t ++ rest) (length t)) (sym is.written)
    (let bytes : ◌≡◌ {A = List ℕ} (47 ∷ 42 ∷ (is.inner ++ 42 ∷ 47 ∷ rest)) (47 ∷ 42 ∷ ((is.inner ++ 42 ∷ 47 ∷ []) ++ rest)) = ap (λ t. 47 ∷ 42 ∷ t) (sym (append_assoc is.inner (42 ∷ 47 ∷ []) rest)) in
    let size : length is.inner + 4 ≡ length (47 ∷ 42 ∷ (is.inner ++ 42 ∷ 47 ∷ [])) = simp length-append (omega arith) in
    subst (λ n. Passed (47 ∷ 42 ∷ ((is.inner ++ 42 ∷ 47 ∷ []) ++ rest)) n) size (subst (λ b. Passed b (length is.inner + 4)) bytes (enclosed_passed is.inner rest is.first)))
space_passed text rest (inr (inr is)) = subst (λ t. Passed (t ++ rest) (length t)) (sym is.written) (line_passed is.inner rest is.in_line is.ends)

pub passes_spaces : PassesSpaces
passes_spaces bytes size = (
  λ (some, e). subst (BeginsSpace bytes) e (space_sound bytes (omega (arith, some, e))),
  λ is. subst (λ n. Passed bytes n) (sym is.size_is) (subst (λ b. Passed b (length is.text)) (sym is.written) (space_passed is.text is.rest is.is)),
)
