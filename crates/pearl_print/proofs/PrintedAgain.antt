-- A printed text is printed again to the same bytes.
use Rattle.std.proofs.Common.{◌≡◌, refl, ap, subst, ◌∙◌}
use Rattle.pearl_tree.specs.Modules.{Spells}
use Rattle.pearl_tree.proofs.Offered.{spelled_lawful}
use Rattle.pearl_lex.proofs.Offered.{lawful_tokens, one_reading}
use Rattle.pearl_print.specs.Modules.{tokens_of}
use Rattle.pearl_print.specs.Spelled.{text_of_tokens}
use Rattle.pearl_print.specs.Canonical.{PrintsAgain, SourcePrintsAgain}
use Rattle.pearl_print.proofs.ShownModules.{source_has_one_text}
use Rattle.pearl_print.proofs.PlainModules.{printed_says}
use Rattle.pearl_print.proofs.PlainTokens.{plain_has_one_text}

pub prints_again : PrintsAgain
prints_again tree is fits before h =
    let text = text_of_tokens (tokens_of tree) in
    let print = printed_says tree text refl is fits before h in
    let same : tokens_of print.copy ≡ tokens_of tree = plain_has_one_text print.copy tree print.same in
    record {
      tokens = print.tokens;
      tree = print.copy;
      lexes = print.lexes;
      spells = print.spells;
      again = λ others other lexes spells.
          let moved = subst (λ tokens. Spells other tokens) (one_reading text others print.tokens lexes print.lexes) spells in
          ap text_of_tokens (source_has_one_text print.tokens other print.copy moved print.spells ∙ same);
    }

pub source_prints_again : SourcePrintsAgain
source_prints_again source tokens tree short lexes spells fits =
    prints_again tree (spelled_lawful tree tokens (lawful_tokens source tokens lexes short) spells) fits tokens spells
