use Rattle.std.proofs.Common.{◌≡◌, ℕ, List, Bor, length, arith}
use Rattle.pearl_tree.specs.Symbols.{symbol_text, symbol_texts}
use Rattle.pearl_tree.proofs.Shown.{shown_text, shown_length}
use Rattle.pearl_tree.proofs.symbol.symbol_text.Goals as goal

pub bounds-symbols-code : goal.bounds-symbols-code
unfolding symbol_texts
bounds-symbols-code c =
    let h : length c.symbols.result.now ≡ length symbol_texts = shown_length (λ (text : Bor (List ℕ)). text.now) c.symbols.result.now symbol_texts c.symbols.ensures in
    omega arith

pub returns : goal.returns
unfolding symbol_text
returns c = shown_text (λ (text : Bor (List ℕ)). text.now) c.symbols.result.now symbol_texts c.symbols.ensures c.args.code _
