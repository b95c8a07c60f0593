-- Printing a printed text writes it again.
use Rattle.std.proofs.Common.{◌<◌, ◌≤◌, ◌-◌, ◌^◌, ℕ, List, length, sym, ◌∙◌, subst, arith}
use Rattle.pearl_tree.specs.declared.tree.Tree.{Tree}
use Rattle.pearl_lex.specs.Lexes.{Lexes}
use Rattle.pearl_print.specs.Modules.{tokens_of}
use Rattle.pearl_print.specs.Spelled.{text_of_tokens}
use Rattle.pearl_print.specs.Canonical.{IsCanonical}
use Rattle.pearl_print.proofs.Offered.{source_prints_again}
use Rattle.pearl_top.specs.declared.limits.TheConstants.{SOURCE_LIMIT}
use Rattle.pearl_top.specs.Laws.{HoursFit, PrintsItsText}
use Rattle.pearl_top.specs.PrintDue.{IsPrinted}
use Rattle.pearl_top.specs.Sources.{IsTree}

-- a source within the limit has places that the lexer tells
lexed_short : (source : List ℕ) → length source ≤ SOURCE_LIMIT → length source < 2 ^ 32 - 1
lexed_short source within = let few : length source ≤ 1048576 = within in omega (arith, few)

-- the text that was written is one of a source
canonical : (source : List ℕ) (tree : Tree) → HoursFit source → IsTree source tree → IsCanonical (text_of_tokens (tokens_of tree))
canonical source tree fits is =
    source_prints_again source is.tokens tree (lexed_short source is.within) is.lexes is.spells (fits is.tokens tree is.lexes is.spells)

printed_again : (source copy : List ℕ) → HoursFit source → length copy ≤ SOURCE_LIMIT → IsPrinted source copy → IsPrinted copy copy
printed_again source copy fits within printed =
    let text = canonical source printed.tree fits printed.is in
    record {
      tree = text.tree;
      is = record {
        within = within;
        tokens = text.tokens;
        lexes = subst (λ bytes. Lexes bytes text.tokens) (sym printed.text) text.lexes;
        spells = text.spells;
      };
      text = printed.text ∙ sym (text.again text.tokens text.tree text.lexes text.spells);
    }

pub prints_its_text : PrintsItsText
prints_its_text source copy files fits within outcome =
    record { memory = outcome.memory; due = printed_again (files source) (files copy) fits within outcome.due }
