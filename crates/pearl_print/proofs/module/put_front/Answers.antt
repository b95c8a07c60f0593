use Rattle.pearl_print.proofs.Texts.{adds}
use Rattle.pearl_print.proofs.module.put_front.Goals as goal

pub returns : goal.returns
returns c =
    adds _ _ _ _ _ (adds _ _ _ _ _ (adds _ _ _ _ _ (adds _ _ _ _ _ (adds _ _ _ _ _ c.in_ok-put_word.ensures c.in_ok-put_maybe.ensures)
    c.in_ok-put_symbol.ensures) c.in_ok-put_system.ensures) c.in_ok-put_word-2.ensures) c.in_ok-put_symbol-2.ensures
