-- The words of the language, and what a row of a table of words says.
use Rattle.std.specs.Prelude.{ℕ, suc, Bool, true, false, List, [], ◌∷◌, ◌++◌, codes, map, nat_lt, ◌==◌, if◌then◌else◌, slice_index_or, Contains, Any, ◌≡◌, ◌↔◌}
use Rattle.pearl_tree.specs.declared.word.WordRow.{WordRow}
use Rattle.pearl_tree.specs.declared.word.TheConstants.{CODE_COUNT}

-- the first text comes before the second one in a dictionary
abbrev pub comes_before : List ℕ → List ℕ → Bool
comes_before _ [] = false
comes_before [] (_ ∷ _) = true
comes_before (a ∷ xs) (b ∷ ys) = if a == b then comes_before xs ys else nat_lt a b

abbrev pub text_before : WordRow → WordRow → Bool
text_before a b = comes_before a.text.now b.text.now

-- every meaning that a word can have, with the words that have it; the grammar names the first of them
unfoldable pub meanings : List (List (List ℕ))
meanings =
    (codes "MODULE" ∷ []) ∷
    (codes "MODEND" ∷ []) ∷
    (codes "SYSTEM" ∷ []) ∷
    (codes "PROBLEM" ∷ []) ∷
    (codes "DCL" ∷ codes "DECLARE" ∷ []) ∷
    (codes "SPC" ∷ codes "SPECIFY" ∷ []) ∷
    (codes "INV" ∷ []) ∷
    (codes "INIT" ∷ []) ∷
    (codes "PRESET" ∷ []) ∷
    (codes "STRUCT" ∷ []) ∷
    (codes "TYPE" ∷ []) ∷
    (codes "LENGTH" ∷ []) ∷
    (codes "FIXED" ∷ []) ∷
    (codes "BIT" ∷ []) ∷
    (codes "CHAR" ∷ codes "CHARACTER" ∷ []) ∷
    (codes "CLOCK" ∷ []) ∷
    (codes "DURATION" ∷ codes "DUR" ∷ []) ∷
    (codes "SEMA" ∷ []) ∷
    (codes "INTERRUPT" ∷ codes "IRPT" ∷ []) ∷
    (codes "DATION" ∷ []) ∷
    (codes "IN" ∷ []) ∷
    (codes "OUT" ∷ []) ∷
    (codes "INOUT" ∷ []) ∷
    (codes "ALPHIC" ∷ []) ∷
    (codes "BASIC" ∷ []) ∷
    (codes "TASK" ∷ []) ∷
    (codes "PROC" ∷ codes "PROCEDURE" ∷ []) ∷
    (codes "MAIN" ∷ []) ∷
    (codes "PRIO" ∷ codes "PRIORITY" ∷ []) ∷
    (codes "IDENT" ∷ codes "IDENTICAL" ∷ []) ∷
    (codes "RETURNS" ∷ []) ∷
    (codes "RETURN" ∷ []) ∷
    (codes "BEGIN" ∷ []) ∷
    (codes "END" ∷ []) ∷
    (codes "IF" ∷ []) ∷
    (codes "THEN" ∷ []) ∷
    (codes "ELSE" ∷ []) ∷
    (codes "FIN" ∷ []) ∷
    (codes "CASE" ∷ []) ∷
    (codes "ALT" ∷ []) ∷
    (codes "FOR" ∷ []) ∷
    (codes "FROM" ∷ []) ∷
    (codes "BY" ∷ []) ∷
    (codes "TO" ∷ []) ∷
    (codes "WHILE" ∷ []) ∷
    (codes "REPEAT" ∷ []) ∷
    (codes "EXIT" ∷ []) ∷
    (codes "CALL" ∷ []) ∷
    (codes "ACTIVATE" ∷ []) ∷
    (codes "TERMINATE" ∷ []) ∷
    (codes "SUSPEND" ∷ []) ∷
    (codes "CONTINUE" ∷ []) ∷
    (codes "RESUME" ∷ []) ∷
    (codes "PREVENT" ∷ []) ∷
    (codes "AT" ∷ []) ∷
    (codes "AFTER" ∷ []) ∷
    (codes "ALL" ∷ []) ∷
    (codes "UNTIL" ∷ []) ∷
    (codes "DURING" ∷ []) ∷
    (codes "WHEN" ∷ []) ∷
    (codes "REQUEST" ∷ []) ∷
    (codes "RELEASE" ∷ []) ∷
    (codes "TRY" ∷ []) ∷
    (codes "ENABLE" ∷ []) ∷
    (codes "DISABLE" ∷ []) ∷
    (codes "TRIGGER" ∷ []) ∷
    (codes "GET" ∷ []) ∷
    (codes "PUT" ∷ []) ∷
    (codes "TAKE" ∷ []) ∷
    (codes "SEND" ∷ []) ∷
    (codes "NOW" ∷ []) ∷
    (codes "REM" ∷ []) ∷
    (codes "ABS" ∷ []) ∷
    (codes "SIGN" ∷ []) ∷
    (codes "EQ" ∷ []) ∷
    (codes "NE" ∷ []) ∷
    (codes "LT" ∷ []) ∷
    (codes "GT" ∷ []) ∷
    (codes "LE" ∷ []) ∷
    (codes "GE" ∷ []) ∷
    (codes "AND" ∷ []) ∷
    (codes "OR" ∷ []) ∷
    (codes "EXOR" ∷ []) ∷
    (codes "NOT" ∷ []) ∷
    (codes "CAT" ∷ []) ∷
    (codes "CSHIFT" ∷ []) ∷
    (codes "SHIFT" ∷ []) ∷
    (codes "LWB" ∷ []) ∷
    (codes "UPB" ∷ []) ∷
    (codes "HRS" ∷ []) ∷
    (codes "MIN" ∷ []) ∷
    (codes "SEC" ∷ []) ∷
    (codes "GLOBAL" ∷ []) ∷
    (codes "BOLT" ∷ []) ∷
    (codes "RESERVE" ∷ []) ∷
    (codes "FREE" ∷ []) ∷
    (codes "ENTER" ∷ []) ∷
    (codes "LEAVE" ∷ []) ∷
    []

-- the text is a word of the language, and this is the number of its meaning, counted from 0
abbrev pub IsWord : List ℕ → ℕ → Type 0
IsWord text code = Contains (slice_index_or meanings code []) text

-- the rows are the words of the language with the numbers of their meanings, and no others
pub record AreTheWords (rows : List WordRow) : Type 0 where
  pub exactly : (text : List ℕ) (code : ℕ) → Any (λ row. (row.text.now ≡ text) × (row.code ≡ code)) rows ↔ IsWord text code

-- how many meanings the words have
abbrev pub code_count : ℕ
code_count = CODE_COUNT

-- the words of these meanings with their codes, the first of which is given
abbrev pub with_codes : ℕ → List (List (List ℕ)) → List (List ℕ × ℕ)
with_codes code [] = []
with_codes code (group ∷ groups) = map (λ text. (text, code)) group ++ with_codes (suc code) groups

-- every word with its code
unfoldable pub words : List (List ℕ × ℕ)
words = with_codes 0 meanings

-- of words that mean the same, the one that the grammar names
abbrev pub named_word : List (List ℕ) → List ℕ
named_word [] = []
named_word (text ∷ _) = text

-- the words that the grammar names, in the order of their codes
unfoldable pub word_texts : List (List ℕ)
word_texts = map named_word meanings

unfoldable pub word_text : ℕ → List ℕ
word_text code = slice_index_or word_texts code []
