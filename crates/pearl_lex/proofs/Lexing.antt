-- Blanks, comments and tokens one after another.
use Rattle.std.proofs.Common.{◌≡◌, ◌<◌, ◌+◌, ℕ, List, [], ◌∷◌, ◌++◌, drop, refl, sym, subst, ap, ◌∙◌}
use Rattle.pearl_tree.specs.declared.token.Token.{Token}
use Rattle.pearl_lex.specs.Spelling.{space_len}
use Rattle.pearl_lex.specs.Lexes.{AreSpaces, IsSpace, IsToken, AreTokens}

pub one_more : (bytes : List ℕ) (from : ℕ) (tokens : List Token) (token : Token) (end next : ℕ)
    → AreTokens bytes from tokens end → IsToken bytes end token next → AreTokens bytes from (tokens ++ token ∷ []) next
one_more bytes from [] token end next before here = (next, subst (λ at. IsToken bytes at token next) (sym before) here, refl)
one_more bytes from (first ∷ tokens) token end next before here = (before.0, before.1, one_more bytes before.0 tokens token end next before.2 here)

longer : (bytes : List ℕ) (from : ℕ) (sizes : List ℕ) (size to : ℕ)
    → AreSpaces bytes from sizes to → 0 < size → space_len (drop to bytes) ≡ size → AreSpaces bytes from (sizes ++ size ∷ []) (to + size)
longer bytes from [] size to before some is = (some, ap (λ at. space_len (drop at bytes)) before ∙ is, ap (λ at. at + size) before)
longer bytes from (first ∷ sizes) size to before some is = (before.0, before.1, longer bytes (from + first) sizes size to before.2 some is)

pub no_space : (bytes : List ℕ) (from : ℕ) → IsSpace bytes from from
no_space bytes from = record { sizes = []; are = refl }

pub more_space : (bytes : List ℕ) (from size to : ℕ) → IsSpace bytes from to → 0 < size → space_len (drop to bytes) ≡ size → IsSpace bytes from (to + size)
more_space bytes from size to space some is = record { sizes = space.sizes ++ size ∷ []; are = longer bytes from space.sizes size to space.are some is }
