-- What begins the bytes is the longest token that they spell.
use Rattle.std.proofs.Common.{◌≡◌, ◌≤◌, ◌+◌, inl, inr, ℕ, Bool, true, false, List, [], ◌∷◌, ◌++◌, append_assoc, length-append, length, get_or, eqb, Option, Some, None, if◌then◌else◌, refl, sym, subst, ap, ◌∙◌, arith}
use Rattle.std.specs.Char.{is_ascii_alphabetic, is_ascii_digit}
use Rattle.std.proofs.lemmas.Bool.{false≢true}
use Rattle.pearl_tree.specs.declared.token.What.{What}
use Rattle.pearl_tree.specs.declared.token.What.TheVariants as what
use Rattle.pearl_lex.specs.declared.front.Front.{Front}
use Rattle.pearl_lex.specs.Literals.{digit_count, numeral}
use Rattle.pearl_lex.specs.Quoted.{bits_value}
use Rattle.pearl_lex.specs.Front.{front}
use Rattle.pearl_lex.specs.Spells.{AreDigits, Spells, MayFollow, BeginsToken, IsLongest, IsNoToken, doubled}
use Rattle.pearl_lex.specs.Laws.{TakesTheLongest, TakesNone}
use Rattle.pearl_lex.proofs.Passes.{equal}
use Rattle.pearl_lex.proofs.Runs.{Outcome, AtLeast, Meets, meets_from, some_run, is_digit, digit_is_no_letter, Sound}
use Rattle.pearl_lex.proofs.Numerals.{numeral_outcome, count_append}
use Rattle.pearl_lex.proofs.NumeralSizes.{number_least, decimal_least, clock_least, no_large_number, no_fine_decimal, no_time}
use Rattle.pearl_lex.proofs.Names.{front_digit, front_quote, front_other, is_other, name_outcome, word_meets, id_meets, symbol_meets, symbol_sound, no_long_name}
use Rattle.pearl_lex.proofs.QuotedTokens.{quoted_sound, text_answer, bits_answer}
use Rattle.pearl_lex.proofs.OneMeaning.{Means, word_means, id_means, symbol_means, number_means, decimal_means, clock_means}

outcome_sound : (bytes : List ℕ) (o : Option Front) → Outcome bytes o → Sound bytes o
outcome_sound bytes (Some f) is = is
outcome_sound bytes None is = tt

some_digit : (bytes : List ℕ) → is_ascii_digit (get_or bytes 0 0) ≡ true → 1 ≤ digit_count bytes
some_digit [] h = absurd (false≢true h)
some_digit (b ∷ bytes) h = some_run is_ascii_digit b bytes h

front_sound : (bytes : List ℕ) → Sound bytes (front bytes)
front_sound [] = subst (Sound []) (sym (front_other [] refl)) tt
front_sound (a ∷ rest) = by (is_ascii_alphabetic a) (is_ascii_digit a) (eqb a 39) refl refl refl
  where
    by : (letter digit quote : Bool) → is_ascii_alphabetic a ≡ letter → is_ascii_digit a ≡ digit → eqb a 39 ≡ quote → Sound (a ∷ rest) (front (a ∷ rest))
    by true digit quote e1 e2 e3 = outcome_sound (a ∷ rest) (front (a ∷ rest)) (name_outcome (a ∷ rest) e1)
    by false true quote e1 e2 e3 =
        subst (Sound (a ∷ rest)) (sym (front_digit (a ∷ rest) e1 e2)) (outcome_sound (a ∷ rest) (numeral (a ∷ rest)) (numeral_outcome (a ∷ rest) (some_digit (a ∷ rest) e2)))
    by false false true e1 e2 e3 =
        subst (λ b. Sound (b ∷ rest) (front (b ∷ rest))) (sym (equal a 39 e3)) (subst (Sound (39 ∷ rest)) (sym (front_quote rest)) (quoted_sound rest))
    by false false false e1 e2 e3 =
        let other : is_other a ≡ true = ap (λ x. if x then false else (if is_ascii_digit a then false else (if eqb a 39 then false else true))) e1 ∙
        ap (λ x. if x then false else (if eqb a 39 then false else true)) e2 ∙ ap (λ x. if x then false else true) e3 in
        subst (Sound (a ∷ rest)) (sym (front_other (a ∷ rest) other)) (symbol_sound (a ∷ rest))

-- what begins with a digit
front_numeral : (digits rest : List ℕ) → AreDigits digits → front (digits ++ rest) ≡ numeral (digits ++ rest)
front_numeral [] rest are = absurd (omega (arith, are.0))
front_numeral (d ∷ digits) rest are =
    let is = are.1 0 0 (omega arith) in
    front_digit (d ∷ (digits ++ rest)) (digit_is_no_letter d is) (is_digit d is)

numeral_meets : (digits rest : List ℕ) (n : ℕ) → AreDigits digits → AtLeast n (numeral (digits ++ rest)) → Meets n (digits ++ rest) (front (digits ++ rest))
numeral_meets digits rest n are least =
    let bytes = digits ++ rest in
    let some : 1 ≤ digit_count bytes = omega (arith, are.0, count_append digits rest are.1) in
    subst (Meets n bytes) (sym (front_numeral digits rest are)) (meets_from n bytes (numeral bytes) least (numeral_outcome bytes some))

-- what is taken has so many bytes at least, and if it has no more, it is this token
record Takes (n : ℕ) (token : What) (bytes : List ℕ) : Type 0 where
  meets : Meets n bytes (front bytes)
  means : Means n token (front bytes)

-- the same bytes, and the same number of them
moved : (n m : ℕ) (token : What) (bytes other : List ℕ) → n ≡ m → bytes ≡ other → Takes n token bytes → Takes m token other
moved n m token bytes other e f h = subst (λ k. Takes k token other) e (subst (Takes n token) f h)

numeral_takes : (digits rest : List ℕ) (n : ℕ) (token : What) → AreDigits digits → AtLeast n (numeral (digits ++ rest)) → Means n token (numeral (digits ++ rest)) → Takes n token (digits ++ rest)
numeral_takes digits rest n token are least means = record {
  meets = numeral_meets digits rest n are least;
  means = subst (Means n token) (sym (front_numeral digits rest are)) means;
}

taken : (n : ℕ) (token : What) (bytes : List ℕ) → front bytes ≡ Some (record { what = token; size = n }) → Takes n token bytes
taken n token bytes e = record { meets = subst (Meets n bytes) (sym e) (omega arith); means = subst (Means n token) (sym e) (λ _. refl) }

token_takes : (token : What) (text rest : List ℕ) → Spells text token → MayFollow token rest → Takes (length text) token (text ++ rest)
token_takes (what.Word code) text rest is follows = record { meets = word_meets text rest code is; means = word_means text rest code is }
token_takes (what.Id name) text rest is follows = record {
  meets = id_meets text rest is.0.begins is.0.bytes;
  means = subst (λ t. Means (length text) (what.Id (record { items = t })) (front (text ++ rest))) (sym is.1) (id_means text rest is.0);
}
token_takes (what.Number value) text rest is follows =
    numeral_takes text rest (length text) (what.Number value) is.digits (number_least (text ++ rest) (length text) (omega (arith, count_append text rest is.digits.1)))
    (number_means text rest value is)
token_takes (what.Decimal whole thousandths) text rest is follows =
    let n = length is.digits + (1 + length is.decimals) in
    let size : n ≡ length text = (simp length-append (omega arith)) ∙ sym (ap length is.written) in
    let bytes : is.digits ++ 46 ∷ (is.decimals ++ rest) ≡ text ++ rest = sym (append_assoc is.digits (46 ∷ is.decimals) rest) ∙ ap (λ t. t ++ rest) (sym is.written) in
    moved n (length text) _ _ (text ++ rest) size bytes
    (numeral_takes is.digits (46 ∷ (is.decimals ++ rest)) n _ is.number.digits (decimal_least is.digits is.decimals rest is.number.digits is.part.0)
    (decimal_means is.digits is.decimals rest whole thousandths is.number is.part))
token_takes (what.Clock milliseconds) text rest is follows =
    let n = length is.hours + (1 + (length is.minutes + (1 + (length is.seconds + length is.decimals)))) in
    let size : n ≡ length text = (simp length-append (omega arith)) ∙ sym (ap length is.written) in
    let bytes : is.hours ++ 58 ∷ (is.minutes ++ 58 ∷ (is.seconds ++ (is.decimals ++ rest))) ≡ text ++ rest = (simp append_assoc) ∙ ap (λ t. t ++ rest) (sym is.written) in
    moved n (length text) _ _ (text ++ rest) size bytes
    (numeral_takes is.hours (58 ∷ (is.minutes ++ 58 ∷ (is.seconds ++ (is.decimals ++ rest)))) n _ is.digits.0
    (clock_least is.hours is.minutes is.seconds is.decimals rest is.thousandths is.digits.0 is.digits.1 is.digits.2 is.part)
    (clock_means is.hours is.minutes is.seconds is.decimals rest is.thousandths milliseconds is.digits.0 is.digits.1 is.digits.2 is.range is.part is.value_is))
token_takes (what.Bits len value) text rest is follows =
    let n = length is.digits + 2 + length is.ending in
    let size : n ≡ length text = (simp length-append (omega arith)) ∙ sym (ap length is.written) in
    let bytes : ◌≡◌ {A = List ℕ} (39 ∷ (is.digits ++ 39 ∷ (is.ending ++ rest))) (text ++ rest) =
    ap (λ t. 39 ∷ t) (sym (append_assoc is.digits (39 ∷ is.ending) rest)) ∙ ap (λ t. t ++ rest) (sym is.written) in
    moved n (length text) _ _ (text ++ rest) size bytes
    (taken n _ _ (bits_answer is.digits is.ending rest is.width is.width_is is.each (omega (arith, is.some, is.len_is)) (omega (arith, is.few, is.len_is)) follows ∙
    ap (λ l. Some (record { what = what.Bits l (bits_value is.width is.digits); size = n })) (sym is.len_is) ∙ ap (λ v. Some (record { what = what.Bits len v; size = n })) (sym is.value_is)))
token_takes (what.Text characters) text rest is follows =
    let cs = characters.items in
    let n = length (doubled cs) + 2 in
    let size : n ≡ length text = (simp length-append (omega arith)) ∙ sym (ap length is.1) in
    let bytes : ◌≡◌ {A = List ℕ} (39 ∷ (doubled cs ++ 39 ∷ rest)) (text ++ rest) =
    ap (λ t. 39 ∷ t) (sym (append_assoc (doubled cs) (39 ∷ []) rest)) ∙ ap (λ t. t ++ rest) (sym is.1) in
    moved n (length text) _ _ (text ++ rest) size bytes (taken n _ _ (text_answer cs rest is.0 follows.0 follows.1))
token_takes (what.Symbol symbol) text rest is follows = record { meets = symbol_meets text rest symbol is.0 is.1; means = symbol_means text rest symbol is.0 is.1 }

begins_takes : (bytes : List ℕ) (token : What) (size : ℕ) → BeginsToken bytes token size → Takes size token bytes
begins_takes bytes token size is =
    moved (length is.text) size token (is.text ++ is.rest) bytes (sym is.size_is) (sym is.written) (token_takes token is.text is.rest is.spells is.follows)

longest_taken : (bytes : List ℕ) (f : Front) → front bytes ≡ Some f → IsLongest bytes f
longest_taken bytes f e = record {
  begins = let P : Option Front → Type 0 = Sound bytes in subst P e (front_sound bytes);
  longest = λ token size is. let P : Option Front → Type 0 = Meets size bytes in subst P e (begins_takes bytes token size is).meets;
}

at_bytes : (bytes other : List ℕ) → other ≡ bytes → front other ≡ None → front bytes ≡ None
at_bytes bytes other e h = subst (λ b. front b ≡ None) e h

refused : (bytes : List ℕ) → IsNoToken bytes → front bytes ≡ None
refused bytes (inl is) = at_bytes bytes _ (sym is.written) (no_long_name is.text is.rest is.begins is.each is.long)
refused bytes (inr (inl is)) = at_bytes bytes _ (sym is.written) (front_numeral is.digits is.rest is.each ∙ no_large_number is.digits is.rest is.each is.large)
refused bytes (inr (inr (inl is))) =
    let tail = 46 ∷ (is.fine.decimals ++ is.fine.rest) in
    at_bytes bytes (is.digits ++ tail) (ap (λ t. is.digits ++ t) (sym is.fine.written) ∙ sym is.written)
    (front_numeral is.digits tail is.each ∙ no_fine_decimal is.digits is.fine.decimals is.fine.rest is.each is.fine.each is.fine.fine)
refused bytes (inr (inr (inr is))) =
    let tail = 58 ∷ (is.minutes ++ 58 ∷ (is.seconds ++ is.rest)) in
    at_bytes bytes (is.hours ++ tail) (sym is.written)
    (front_numeral is.hours tail is.digits.0 ∙ no_time is.hours is.minutes is.seconds is.rest is.digits.0 is.digits.1 is.digits.2 is.wrong)

same_front : (f g : Front) → f.what ≡ g.what → f.size ≡ g.size → f ≡ g
same_front f g w n = λ i. record { what = w i; size = n i }

-- the longest token that begins the bytes is what is taken
longest_by : (bytes : List ℕ) (f : Front) (o : Option Front) → front bytes ≡ o → IsLongest bytes f → ¬ IsNoToken bytes → Meets f.size bytes o → Means f.size f.what o → o ≡ Some f
longest_by bytes f None e is free meets means = absurd (free meets)
longest_by bytes f (Some g) e is free meets means =
    let its = longest_taken bytes g e in
    let most = is.longest g.what g.size its.begins in
    let same : g.size ≡ f.size = omega (arith, most, meets) in
    ap Some (same_front g f (means same) same)

is_taken : (bytes : List ℕ) (f : Front) → IsLongest bytes f → ¬ IsNoToken bytes → front bytes ≡ Some f
is_taken bytes f is free = let takes = begins_takes bytes f.what f.size is.begins in longest_by bytes f (front bytes) refl is free takes.meets takes.means

pub takes_the_longest : TakesTheLongest
takes_the_longest bytes f = (
  λ e. (longest_taken bytes f e, λ form. let none = sym (refused bytes form) ∙ e in cc none),
  λ (is, free). is_taken bytes f is free,
)

none_by : (bytes : List ℕ) (o : Option Front) → front bytes ≡ o → ((token : What) (size : ℕ) → BeginsToken bytes token size → IsNoToken bytes) → o ≡ None
none_by bytes None e each = refl
none_by bytes (Some f) e each = sym e ∙ refused bytes (each f.what f.size (longest_taken bytes f e).begins)

pub takes_none : TakesNone
takes_none bytes = (
  λ e token size is. let P : Option Front → Type 0 = Meets size bytes in subst P e (begins_takes bytes token size is).meets,
  λ each. none_by bytes (front bytes) refl each,
)
