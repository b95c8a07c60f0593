-- Lists of parts that have lawful tokens.
use Rattle.std.proofs.Common.{◌≡◌, ◌≢◌, ◌<◌, ◌≤◌, inl, inr, ℕ, Bool, true, false, not, List, [], ◌∷◌, ◌++◌, All, Option, Some, None, IfSome, refl, arith, codes}
use Rattle.std.specs.Bool.{Decides}
use Rattle.std.specs.List.{flat_map, list_all}
use Rattle.std.specs.Str.{bytes_eq}
use Rattle.std.proofs.lemmas.Slice.Eq.{bytes_eq-Decides}
use Rattle.std.proofs.lemmas.List.Elements.{All-nil, All-cons, All-head, All-tail, All-append}
use Rattle.pearl_tree.specs.declared.name.Name.{Name}
use Rattle.pearl_tree.specs.declared.name.Number.{Number}
use Rattle.pearl_tree.specs.declared.token.What.{What}
use Rattle.pearl_tree.specs.declared.token.What.TheVariants as what
use Rattle.pearl_tree.specs.declared.format.FreeCode.{FreeCode}
use Rattle.pearl_tree.specs.declared.format.FreeCode.TheVariants.{A, B, B1, B2, B3, B4, X, Skip}
use Rattle.pearl_tree.specs.declared.format.WideCode.{WideCode}
use Rattle.pearl_tree.specs.declared.format.WideCode.TheVariants.{F, T, D}
use Rattle.pearl_tree.specs.Formats.{free_text, wide_text}
use Rattle.pearl_tree.specs.declared.symbol.TheConstants as s
use Rattle.pearl_tree.specs.Symbols.{symbol_count}
use Rattle.pearl_tree.specs.Words.{code_count, meanings, words}
use Rattle.pearl_tree.specs.Tokens.{IsIdByte, IsLawfulWhat}
use Rattle.pearl_tree.specs.Lawful.{IsLawfulName, IsLawfulNumber}
use Rattle.pearl_lex.proofs.Offered.{and_front, and_back}
use Rattle.pearl_print.specs.Lists.{word, symbol, id, name_tokens, number_tokens, after_commas, listed, bracketed, maybe_bracketed, maybe_headed, maybe, flag, bracketed_number}

pub record AllLawful (whats : List What) : Type 0 where
  pub each : All IsLawfulWhat whats

pub none : AllLawful []
none = record { each = All-nil IsLawfulWhat }

pub one : (token : What) → IsLawfulWhat token → AllLawful (token ∷ [])
one token is = record { each = All-cons IsLawfulWhat token [] is (All-nil IsLawfulWhat) }

infixl 5 ◌&◌
pub ◌&◌ : {xs ys : List What} → AllLawful xs → AllLawful ys → AllLawful (xs ++ ys)
◌&◌ {xs} {ys} first second = record { each = All-append IsLawfulWhat xs ys first.each second.each }

pub word_lawful : (code : ℕ) → code < code_count → AllLawful (word code)
word_lawful code is = one (what.Word code) is

pub symbol_lawful : (code : ℕ) → code < symbol_count → AllLawful (symbol code)
symbol_lawful code is = one (what.Symbol code) is

pub name_lawful : (name : Name) → IsLawfulName name → AllLawful (name_tokens name)
name_lawful name is = one (what.Id name.text) is

pub number_lawful : (number : Number) → IsLawfulNumber number → AllLawful (number_tokens number)
number_lawful number is = one (what.Number number.value) is

pub flag_lawful : (code : ℕ) (told : Bool) → code < code_count → AllLawful (flag code told)
flag_lawful code false is = none
flag_lawful code true is = word_lawful code is

pub bracketed_number_lawful : (number : Number) → IsLawfulNumber number → AllLawful (bracketed_number number)
bracketed_number_lawful number is =
    symbol_lawful s.LEFT_ROUND (omega arith) & number_lawful number is & symbol_lawful s.RIGHT_ROUND (omega arith)

-- each part of a list with this has such tokens
module _ {X : Type 0} (P : X → Type 0) (tokens : X → List What) (lawful : (x : X) → P x → AllLawful (tokens x)) where
  pub each_lawful : (xs : List X) → All P xs → AllLawful (flat_map tokens xs)
  each_lawful [] all = none
  each_lawful (x ∷ xs) all = lawful x (All-head P x xs all) & each_lawful xs (All-tail P x xs all)

  after_commas_lawful : (xs : List X) → All P xs → AllLawful (after_commas tokens xs)
  after_commas_lawful [] all = none
  after_commas_lawful (x ∷ xs) all =
      (symbol_lawful s.COMMA (omega arith) & lawful x (All-head P x xs all)) & after_commas_lawful xs (All-tail P x xs all)

  pub listed_lawful : (xs : List X) → All P xs → AllLawful (listed tokens xs)
  listed_lawful [] all = none
  listed_lawful (x ∷ xs) all = lawful x (All-head P x xs all) & after_commas_lawful xs (All-tail P x xs all)

  pub bracketed_lawful : (xs : List X) → All P xs → AllLawful (bracketed tokens xs)
  bracketed_lawful xs all =
      symbol_lawful s.LEFT_ROUND (omega arith) & listed_lawful xs all & symbol_lawful s.RIGHT_ROUND (omega arith)

  pub maybe_bracketed_lawful : (xs : List X) → All P xs → AllLawful (maybe_bracketed tokens xs)
  maybe_bracketed_lawful [] all = none
  maybe_bracketed_lawful (x ∷ xs) all = bracketed_lawful (x ∷ xs) all

  pub maybe_headed_lawful : (code : ℕ) (xs : List X) → code < code_count → All P xs → AllLawful (maybe_headed code tokens xs)
  maybe_headed_lawful code [] is all = none
  maybe_headed_lawful code (x ∷ xs) is all = word_lawful code is & bracketed_lawful (x ∷ xs) all

  pub maybe_lawful : (part : Option X) → IfSome part P → AllLawful (maybe tokens part)
  maybe_lawful None is = none
  maybe_lawful (Some x) is = lawful x is

-- each part of a list with plus_two properties has such tokens
module _ {X : Type 0} (P Q : X → Type 0) (tokens : X → List What) (lawful : (x : X) → P x → Q x → AllLawful (tokens x)) where
  each_one : (x : X) → P x × Q x → AllLawful (tokens x)
  each_one x is = lawful x is.0 is.1

  All-pair : (xs : List X) → All P xs → All Q xs → All (λ x. P x × Q x) xs
  All-pair xs first second k d lt = (first k d lt, second k d lt)

  pub each_lawful_from_two : (xs : List X) → All P xs → All Q xs → AllLawful (flat_map tokens xs)
  each_lawful_from_two xs first second = each_lawful (λ x. P x × Q x) tokens each_one xs (All-pair xs first second)

  pub listed_lawful_from_two : (xs : List X) → All P xs → All Q xs → AllLawful (listed tokens xs)
  listed_lawful_from_two xs first second = listed_lawful (λ x. P x × Q x) tokens each_one xs (All-pair xs first second)

  pub maybe_bracketed_lawful_from_two : (xs : List X) → All P xs → All Q xs → AllLawful (maybe_bracketed tokens xs)
  maybe_bracketed_lawful_from_two xs first second = maybe_bracketed_lawful (λ x. P x × Q x) tokens each_one xs (All-pair xs first second)

  pub maybe_headed_lawful_from_two : (code : ℕ) (xs : List X) → code < code_count → All P xs → All Q xs → AllLawful (maybe_headed code tokens xs)
  maybe_headed_lawful_from_two code xs is first second = maybe_headed_lawful (λ x. P x × Q x) tokens each_one code xs is (All-pair xs first second)

  pub maybe_lawful_from_two : (part : Option X) → IfSome part P → IfSome part Q → AllLawful (maybe tokens part)
  maybe_lawful_from_two None first second = none
  maybe_lawful_from_two (Some x) first second = lawful x first second

-- every part has such tokens
pub any_lawful : {X : Type 0} (tokens : X → List What) → ((x : X) → AllLawful (tokens x)) → (xs : List X) → AllLawful (flat_map tokens xs)
any_lawful tokens lawful [] = none
any_lawful tokens lawful (x ∷ xs) = lawful x & any_lawful tokens lawful xs

-- a text that is none of the words
unlike : (text : List ℕ) (rows : List (List ℕ × ℕ)) → list_all (λ row. not (bytes_eq row.0 text)) rows ≡ true → All (λ row. row.0 ≢ text) rows
unlike text [] e = All-nil (λ (row : List ℕ × ℕ). row.0 ≢ text)
unlike text (row ∷ rows) e =
    All-cons (λ (row : List ℕ × ℕ). row.0 ≢ text) row rows
    (differs (bytes_eq row.0 text) (bytes_eq-Decides row.0 text) (and_front (not (bytes_eq row.0 text)) (list_all (λ (row : List ℕ × ℕ). not (bytes_eq row.0 text)) rows) e))
    (unlike text rows (and_back (not (bytes_eq row.0 text)) (list_all (λ (row : List ℕ × ℕ). not (bytes_eq row.0 text)) rows) e))
  where
    differs : (same : Bool) → Decides same (row.0 ≡ text) → not same ≡ true → row.0 ≢ text
    differs false decides e h = let f = decides.1 h in cc f
    differs true decides e h = let f = e in cc f

-- an upper case letter
pub letter_lawful : (letter : ℕ) → 65 ≤ letter → letter ≤ 90 → All (λ row. row.0 ≢ letter ∷ []) words → AllLawful (id (letter ∷ []))
letter_lawful letter low high no_word = one (what.Id (record { items = letter ∷ [] })) (record {
  begins = inl (low, high);
  bytes = All-cons IsIdByte letter [] (inl (inl (low, high))) (All-nil IsIdByte);
  length = omega arith;
  no_word = no_word;
})

is_B : IsIdByte 66
is_B = inl (inl (omega arith, omega arith))

-- B and a digit
pub digit_lawful : (digit : ℕ) → 48 ≤ digit → digit ≤ 57 → All (λ row. row.0 ≢ 66 ∷ digit ∷ []) words → AllLawful (id (66 ∷ digit ∷ []))
digit_lawful digit low high no_word = one (what.Id (record { items = 66 ∷ digit ∷ [] })) (record {
  begins = inl (omega arith, omega arith);
  bytes = All-cons IsIdByte 66 (digit ∷ []) is_B (All-cons IsIdByte digit [] (inr (inl (low, high))) (All-nil IsIdByte));
  length = omega arith;
  no_word = no_word;
})

upper : (letter : ℕ) → 65 ≤ letter → letter ≤ 90 → IsIdByte letter
upper letter low high = inl (inl (low, high))

skip_lawful : All (λ row. row.0 ≢ codes "SKIP") words → AllLawful (id (codes "SKIP"))
skip_lawful no_word = one (what.Id (record { items = codes "SKIP" })) (record {
  begins = inl (omega arith, omega arith);
  bytes =
      All-cons IsIdByte 83 (75 ∷ 73 ∷ 80 ∷ []) (upper 83 (omega arith) (omega arith)) (All-cons IsIdByte 75 (73 ∷ 80 ∷ []) (upper 75 (omega arith) (omega arith))
      (All-cons IsIdByte 73 (80 ∷ []) (upper 73 (omega arith) (omega arith)) (All-cons IsIdByte 80 [] (upper 80 (omega arith) (omega arith)) (All-nil IsIdByte))));
  length = omega arith;
  no_word = no_word;
})

pub free_lawful : (code : FreeCode) → AllLawful (id (free_text code))
unfolding words meanings
free_lawful A = letter_lawful 65 (omega arith) (omega arith) (unlike (codes "A") words refl)
free_lawful B = letter_lawful 66 (omega arith) (omega arith) (unlike (codes "B") words refl)
free_lawful B1 = digit_lawful 49 (omega arith) (omega arith) (unlike (codes "B1") words refl)
free_lawful B2 = digit_lawful 50 (omega arith) (omega arith) (unlike (codes "B2") words refl)
free_lawful B3 = digit_lawful 51 (omega arith) (omega arith) (unlike (codes "B3") words refl)
free_lawful B4 = digit_lawful 52 (omega arith) (omega arith) (unlike (codes "B4") words refl)
free_lawful X = letter_lawful 88 (omega arith) (omega arith) (unlike (codes "X") words refl)
free_lawful Skip = skip_lawful (unlike (codes "SKIP") words refl)

pub wide_lawful : (code : WideCode) → AllLawful (id (wide_text code))
unfolding words meanings
wide_lawful F = letter_lawful 70 (omega arith) (omega arith) (unlike (codes "F") words refl)
wide_lawful T = letter_lawful 84 (omega arith) (omega arith) (unlike (codes "T") words refl)
wide_lawful D = letter_lawful 68 (omega arith) (omega arith) (unlike (codes "D") words refl)
