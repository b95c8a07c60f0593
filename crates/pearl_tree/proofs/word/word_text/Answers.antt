use Rattle.std.proofs.Common.{◌≡◌, ℕ, List, Bor, length, arith}
use Rattle.pearl_tree.specs.Words.{word_text, word_texts, meanings}
use Rattle.pearl_tree.proofs.Shown.{shown_text, shown_length}
use Rattle.pearl_tree.proofs.word.word_text.Goals as goal

pub bounds-texts-code : goal.bounds-texts-code
unfolding word_texts meanings
bounds-texts-code c =
    let h : length c.texts.result.now ≡ length word_texts = shown_length (λ (text : Bor (List ℕ)). text.now) c.texts.result.now word_texts c.texts.ensures in
    omega arith

pub returns : goal.returns
unfolding word_text
returns c = shown_text (λ (text : Bor (List ℕ)). text.now) c.texts.result.now word_texts c.texts.ensures c.args.code _
