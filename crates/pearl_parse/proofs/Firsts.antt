-- Which statement a first token begins, by the table of first words.
use Rattle.std.specs.Option.{option_map}
use Rattle.std.proofs.Common.{if◌then◌else◌, ◌≡◌, ℕ, ◌==◌, ◌||◌, Bool, true, false, List, [], ◌∷◌, Option, Some, None}
use Rattle.std.proofs.Common.{IfSome, ◌<◌, length, map, get_or, refl, sym, ap, subst, ◌∙◌}
use Rattle.std.proofs.lemmas.Bool.{eqb-true}
use Rattle.std.proofs.lemmas.Option.{slice_get_read}
use Rattle.pearl_tree.specs.declared.token.What.{What}
use Rattle.pearl_tree.specs.declared.token.What.TheVariants as what
use Rattle.pearl_tree.specs.declared.token.Token.{Token}
use Rattle.pearl_tree.specs.Standing.{what_at, HasWord}
use Rattle.pearl_tree.specs.declared.symbol.TheConstants as s
use Rattle.pearl_tree.specs.declared.word_code.TheConstants as w
use Rattle.pearl_parse_expr.specs.Stops.{is_name}
use Rattle.pearl_parse.specs.declared.statement.Simple.TheVariants as simple
use Rattle.pearl_parse.specs.declared.statement.First.{First}
use Rattle.pearl_parse.specs.declared.statement.First.TheVariants as first
use Rattle.pearl_parse.specs.Stops.{is_among, begins_statement}
use Rattle.pearl_parse.specs.Bodies.{is_one, loop_words}
use Rattle.pearl_parse.specs.FirstWords.{first_words}
use Rattle.pearl_parse.specs.Firsts.{first_in, first_of, BeginsAs}

abbrev words_of : List (ℕ × First) → List ℕ
words_of rows = map (λ row. row.0) rows

none_in : (rows : List (ℕ × First)) (code : ℕ) → first_in rows code ≡ None → is_among (words_of rows) code ≡ false
none_in [] code h = refl
none_in (row ∷ rows) code h = by (code == row.0) (λ e. none_in rows code e) h
  where
    by : (same : Bool) → (first_in rows code ≡ None → is_among (words_of rows) code ≡ false) →
        (if same then Some row.1 else first_in rows code) ≡ None → (same || is_among (words_of rows) code) ≡ false
    by true rest h = absurd (let e = h in cc e)
    by false rest h = rest h

-- each row tells what its word begins
abbrev AreRight : (tokens : List Token) → ℕ → List (ℕ × First) → Type 0
AreRight tokens k [] = Unit {0}
AreRight tokens k (row ∷ rows) = (HasWord tokens k row.0 → BeginsAs tokens k row.1) × AreRight tokens k rows

some_in : (tokens : List Token) (k : ℕ) (rows : List (ℕ × First)) (code : ℕ) (kind : First) → AreRight tokens k rows →
    HasWord tokens k code → first_in rows code ≡ Some kind → BeginsAs tokens k kind
some_in tokens k [] code kind right here h = absurd (let e = h in cc e)
some_in tokens k (row ∷ rows) code kind right here h =
    by (code == row.0) refl h (λ e. some_in tokens k rows code kind right.1 here e)
  where
    by : (same : Bool) → (code == row.0) ≡ same → (if same then Some row.1 else first_in rows code) ≡ Some kind →
        (first_in rows code ≡ Some kind → BeginsAs tokens k kind) → BeginsAs tokens k kind
    by true is h rest =
        let e : row.1 ≡ kind = let e = h in cc e in
        subst (λ kind. BeginsAs tokens k kind) e
        (right.0 (subst (λ code. HasWord tokens k code) (eqb-true code row.0 is) here))
    by false is h rest = rest h

are_right : (tokens : List Token) (k : ℕ) → AreRight tokens k first_words
are_right tokens k =
    let loop : (word : ℕ) → is_among loop_words word ≡ true → HasWord tokens k word →
    is_one loop_words (what_at tokens k) ≡ true =
    λ word known h. ap (is_one loop_words) h ∙ known in (
      λ h. h,
      (
        λ h. h,
        (
          λ h. h,
          (
            loop w.FOR refl,
            (
              loop w.FROM refl,
              (
                loop w.BY refl,
                (
                  loop w.TO refl,
                  (
                    loop w.WHILE refl,
                    (
                      loop w.REPEAT refl,
                      (
                        λ h. h,
                        (
                          λ h. h,
                          (
                            λ h. h,
                            (
                              λ h. h,
                              (
                                λ h. h,
                                (
                                  λ h. h,
                                  (
                                    λ h. h,
                                    (
                                      λ h. h,
                                      (
                                        λ h. h,
                                        (
                                          λ h. h,
                                          (
                                            λ h. h,
                                            (
                                              λ h. h,
                                              (
                                                λ h. h,
                                                (
                                                  λ h. h,
                                                  (
                                                    λ h. h,
                                                    (λ h. h, (λ h. h, (λ h. h, (λ h. h, (λ h. h, (λ h. h, tt)))))),
                                                  ),
                                                ),
                                              ),
                                            ),
                                          ),
                                        ),
                                      ),
                                    ),
                                  ),
                                ),
                              ),
                            ),
                          ),
                        ),
                      ),
                    ),
                  ),
                ),
              ),
            ),
          ),
        ),
      ),
    )

module _ (tokens : List Token) (k : ℕ) where
  begins_as : (token : What) (kind : First) → what_at tokens k ≡ Some token → first_of token ≡ Some kind →
      BeginsAs tokens k kind
  begins_as (what.Symbol symbol) kind here h = by (symbol == s.SEMICOLON) refl h
    where
      by : (same : Bool) → (symbol == s.SEMICOLON) ≡ same → (if same then Some (first.Simple simple.Empty) else
          None) ≡ Some kind → BeginsAs tokens k kind
      by true is h =
          let e : first.Simple simple.Empty ≡ kind = let e = h in cc e in
          subst (λ kind. BeginsAs tokens k kind) e (subst (λ symbol. what_at tokens k ≡ Some (what.Symbol symbol))
          (eqb-true symbol s.SEMICOLON is) here)
      by false is h = absurd (let e = h in cc e)
  begins_as (what.Id text) kind here h =
      let e : first.Simple simple.Named ≡ kind = let e = h in cc e in
      subst (λ kind. BeginsAs tokens k kind) e (ap is_name here)
  begins_as (what.Word code) kind here h = some_in tokens k first_words code kind (are_right tokens k) here h
  begins_as (what.Number value) kind here h = absurd (let e = h in cc e)
  begins_as (what.Decimal whole thousandths) kind here h = absurd (let e = h in cc e)
  begins_as (what.Clock milliseconds) kind here h = absurd (let e = h in cc e)
  begins_as (what.Bits len value) kind here h = absurd (let e = h in cc e)
  begins_as (what.Text text) kind here h = absurd (let e = h in cc e)

  pub begins_some : (token : What) (result : Option First) → what_at tokens k ≡ Some token → result ≡ first_of token →
      IfSome result (λ kind. BeginsAs tokens k kind)
  begins_some token None here is = tt
  begins_some token (Some kind) here is = begins_as token kind here (sym is)

pub token_here : (tokens : List Token) (at : ℕ) (token : Token) → at < length tokens → token ≡ get_or tokens at token →
    what_at tokens at ≡ Some token.what
token_here tokens at token inside same = ap (option_map (λ (t : Token). t.what))
    (slice_get_read tokens (length tokens) at token refl inside same)

pub begins_none : (token : What) → first_of token ≡ None → begins_statement (Some token) ≡ false
begins_none (what.Symbol symbol) h = by (symbol == s.SEMICOLON) h
  where
    by : (same : Bool) → (if same then Some (first.Simple simple.Empty) else None) ≡ None → same ≡ false
    by true h = absurd (let e = h in cc e)
    by false h = refl
begins_none (what.Id text) h = absurd (let e = h in cc e)
begins_none (what.Word code) h = none_in first_words code h
begins_none (what.Number value) h = refl
begins_none (what.Decimal whole thousandths) h = refl
begins_none (what.Clock milliseconds) h = refl
begins_none (what.Bits len value) h = refl
begins_none (what.Text text) h = refl
