use Rattle.pearl_print.proofs.Texts.{adds}
use Rattle.pearl_print.proofs.module.put_task.Goals as goal

pub returns : goal.returns
returns c =
    adds _ _ _ _ _ (adds _ _ _ _ _ (adds _ _ _ _ _ (adds _ _ _ _ _ c.in_ok-put.ensures c.in_ok-put_symbol.ensures) c.in_ok-put_word.ensures)
    c.in_ok-put_head.ensures) c.in_ok-put_block.ensures
