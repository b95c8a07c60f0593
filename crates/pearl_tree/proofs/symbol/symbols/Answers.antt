use Rattle.std.proofs.Common.{refl}
use Rattle.pearl_tree.specs.Symbols.{symbol_texts}
use Rattle.pearl_tree.proofs.symbol.symbols.Goals as goal

pub returns : goal.returns
unfolding symbol_texts
returns c = refl
