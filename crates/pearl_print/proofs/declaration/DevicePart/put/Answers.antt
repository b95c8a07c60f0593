use Rattle.pearl_print.proofs.Texts.{adds}
use Rattle.pearl_print.proofs.declaration.DevicePart.put.Goals as goal

pub returns : goal.returns
returns c =
    adds _ _ _ _ _ (adds _ _ _ _ _ (adds _ _ _ _ _ (adds _ _ _ _ _ c.in_ok-put.ensures c.in_ok-put_symbol.ensures) c.in_ok-put_device_word.ensures)
    c.in_ok-put_bracketed_number.ensures) c.in_ok-put_symbol-2.ensures
