-- Trees have the same tokens where what they say is the same, wherever their parts lie in memory, and also where it is the same
-- but for places and the choices that printing settles.
use Rattle.std.specs.Prelude.{◌≡◌, List}
use Rattle.pearl_tree.specs.declared.token.Token.{Token}
use Rattle.pearl_tree.specs.declared.tree.Tree.{Tree}
use Rattle.pearl_tree.specs.Modules.{Spells}
use Rattle.pearl_tree.specs.ShownModules.{shown_tree}
use Rattle.pearl_print.specs.Modules.{tokens_of}
use Rattle.pearl_print.specs.Plain.{plain}

-- two trees that say the same have the same tokens
abbrev pub HasOneText : Type 0
HasOneText = (tree other : Tree) → shown_tree tree ≡ shown_tree other → tokens_of tree ≡ tokens_of other

-- two trees that the tokens of a source spell have the same tokens
abbrev pub SourceHasOneText : Type 0
SourceHasOneText = (tokens : List Token) (tree other : Tree) → Spells tree tokens → Spells other tokens → tokens_of tree ≡ tokens_of other

-- two trees that say the same, but for places and the choices that printing settles, have the same tokens
abbrev pub PlainHasOneText : Type 0
PlainHasOneText = (tree other : Tree) → plain (shown_tree tree) ≡ plain (shown_tree other) → tokens_of tree ≡ tokens_of other
