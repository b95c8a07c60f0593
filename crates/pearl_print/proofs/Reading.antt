-- The text of tokens that are read back one by one has exactly these tokens.
use Rattle.std.proofs.Common.{◌≡◌, ◌+◌, ℕ, Bool, true, false, ◌==◌, if◌then◌else◌, List, [], ◌∷◌, ◌++◌, length, drop, map, All, codes, refl, sym, subst, ap, ◌∙◌, append_assoc, arith, length-append}
use Rattle.std.proofs.lemmas.List.{append-nil}
use Rattle.std.proofs.lemmas.List.Elements.{All-head, All-tail}
use Rattle.pearl_tree.specs.declared.token.What.{What}
use Rattle.pearl_tree.specs.declared.token.What.TheVariants as what
use Rattle.pearl_tree.specs.declared.token.Token.{Token}
use Rattle.pearl_tree.specs.declared.symbol.TheConstants as s
use Rattle.pearl_lex.specs.Spelling.{space_len}
use Rattle.pearl_lex.specs.Front.{front}
use Rattle.pearl_lex.specs.Lexes.{IsSpace, IsToken, AreTokens}
use Rattle.pearl_lex.proofs.Offered.{no_space, more_space}
use Rattle.pearl_print.specs.Spelled.{spelled, gap, text_of_tokens}
use Rattle.pearl_print.specs.Reading.{IsReadBack, TextReads}
use Rattle.pearl_print.proofs.Texts.{text_of_tokens-nil, text_of_tokens-cons}

text_of_one : (token : What) → text_of_tokens (token ∷ []) ≡ spelled token ++ gap token
unfolding text_of_tokens
text_of_one token = append-nil (spelled token ++ gap token)

drop_front : (before after : List ℕ) → drop (length before) (before ++ after) ≡ after
drop_front [] after = refl
drop_front (b ∷ before) after = drop_front before after

-- what follows a token is one blank
pub gap_is_space : (token : What) (rest : List ℕ) → space_len (gap token ++ rest) ≡ 1
gap_is_space (what.Word code) rest = refl
gap_is_space (what.Id text) rest = refl
gap_is_space (what.Number value) rest = refl
gap_is_space (what.Decimal whole thousandths) rest = refl
gap_is_space (what.Clock milliseconds) rest = refl
gap_is_space (what.Bits len value) rest = refl
gap_is_space (what.Text text) rest = refl
gap_is_space (what.Symbol symbol) rest = by_test (symbol == s.SEMICOLON) where
  by_test : (test : Bool) → space_len ((if test then codes "\n" else codes " ") ++ rest) ≡ 1
  by_test true = refl
  by_test false = refl

pub gap_length : (token : What) → length (gap token) ≡ 1
gap_length (what.Word code) = refl
gap_length (what.Id text) = refl
gap_length (what.Number value) = refl
gap_length (what.Decimal whole thousandths) = refl
gap_length (what.Clock milliseconds) = refl
gap_length (what.Bits len value) = refl
gap_length (what.Text text) = refl
gap_length (what.Symbol symbol) = by_test (symbol == s.SEMICOLON) where
  by_test : (test : Bool) → length (if test then codes "\n" else codes " ") ≡ 1
  by_test true = refl
  by_test false = refl

-- the tokens from here to the end
record Rest (bytes : List ℕ) (from : ℕ) (whats : List What) : Type 0 where
  pub tokens : List Token
  pub end : ℕ
  pub tokens_are : AreTokens bytes from tokens end
  pub rest : IsSpace bytes end (length bytes)
  pub are : map (λ token. token.what) tokens ≡ whats

rest_of : (whats : List What) (bytes before : List ℕ) (from : ℕ) → bytes ≡ before ++ text_of_tokens whats → IsSpace bytes from (length before) → All IsReadBack whats → Rest bytes from whats
rest_of [] bytes before from is space each =
    let same : bytes ≡ before = is ∙ ap (λ t. before ++ t) text_of_tokens-nil ∙ append-nil before in
    record { tokens = []; end = from; tokens_are = refl; rest = subst (λ n. IsSpace bytes from n) (ap length (sym same)) space; are = refl }
rest_of (token ∷ whats) bytes before from is space each =
    let here = All-head IsReadBack token whats each in
    let place = length before in
    let next = place + length (spelled token) in
    let parts : text_of_tokens (token ∷ whats) ≡ spelled token ++ gap token ++ text_of_tokens whats = text_of_tokens-cons token whats ∙ ap (λ t. t ++ text_of_tokens whats) (text_of_one token) in
    let here_is : drop place bytes ≡ spelled token ++ gap token ++ text_of_tokens whats = ap (drop place) is ∙ drop_front before (text_of_tokens (token ∷ whats)) ∙ parts in
    let up_to : bytes ≡ (before ++ spelled token) ++ (gap token ++ text_of_tokens whats) =
    is ∙ ap (λ t. before ++ t) (parts ∙ append_assoc (spelled token) (gap token) (text_of_tokens whats)) ∙
    sym (append_assoc before (spelled token) (gap token ++ text_of_tokens whats)) in
    let past : bytes ≡ (before ++ spelled token ++ gap token) ++ text_of_tokens whats = up_to ∙ sym (append_assoc (before ++ spelled token) (gap token) (text_of_tokens whats)) in
    let end_is : length (before ++ spelled token) ≡ next = length-append before (spelled token) in
    let gap_here : drop next bytes ≡ gap token ++ text_of_tokens whats =
    ap (λ n. drop n bytes) (sym end_is) ∙ ap (drop (length (before ++ spelled token))) up_to ∙ drop_front (before ++ spelled token) (gap token ++ text_of_tokens whats) in
    let blank : IsSpace bytes next (next + 1) = more_space bytes next 1 next (no_space bytes next) (omega arith) (ap space_len gap_here ∙ gap_is_space token (text_of_tokens whats)) in
    let after_is : next + 1 ≡ length (before ++ spelled token ++ gap token) = omega (arith, length-append (before ++ spelled token) (gap token), gap_length token, end_is) in
    let others = rest_of whats bytes (before ++ spelled token ++ gap token) next past (subst (λ n. IsSpace bytes next n) after_is blank) (All-tail IsReadBack token whats each) in
    let first : IsToken bytes from (record { place = place; what = token }) next = record {
      size = length (spelled token);
      place = space;
      no_space = ap space_len here_is ∙ here.no_space (text_of_tokens whats);
      begins = ap front here_is ∙ here.begins (text_of_tokens whats);
      end = refl;
    } in
    record {
      tokens = record { place = place; what = token } ∷ others.tokens;
      end = others.end;
      tokens_are = (next, first, others.tokens_are);
      rest = others.rest;
      are = ap (λ ts. token ∷ ts) others.are;
    }

pub text_reads : TextReads
text_reads whats each =
    let all = rest_of whats (text_of_tokens whats) [] 0 refl (no_space (text_of_tokens whats) 0) each in
    record { tokens = all.tokens; lexes = record { end = all.end; tokens_are = all.tokens_are; rest = all.rest }; are = all.are }
