use Rattle.pearl_print.proofs.Texts.{adds}
use Rattle.pearl_print.proofs.transfer.put_take.Goals as goal

pub returns : goal.returns
returns c =
    adds _ _ _ _ _ (adds _ _ _ _ _ (adds _ _ _ _ _ (adds _ _ _ _ _ c.in_ok-put_word.ensures c.in_ok-put_ref.ensures) c.in_ok-put_word-2.ensures)
    c.in_ok-put.ensures) c.in_ok-put_symbol.ensures
