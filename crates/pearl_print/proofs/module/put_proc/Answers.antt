use Rattle.std.proofs.Common.{◌≡◌, ◌++◌}
use Rattle.pearl_print.specs.Declarations.{param_tokens}
use Rattle.pearl_print.specs.Lists.{maybe_bracketed}
use Rattle.pearl_print.specs.Spelled.{text_of_tokens}
use Rattle.pearl_print.proofs.Texts.{adds}
use Rattle.pearl_print.proofs.module.put_proc.Goals as goal

pub returns : goal.returns
returns c =
    let params : c.put_maybe_bracketed.new.into.items ≡ c.put_word.new.into.items ++ text_of_tokens (maybe_bracketed param_tokens c.args.params.now.items.items) =
    rw (← c.as_slice.ensures) c.in_ok-put_maybe_bracketed.ensures in
    adds _ _ _ _ _ (adds _ _ _ _ _ (adds _ _ _ _ _ (adds _ _ _ _ _ (adds _ _ _ _ _ c.in_ok-put.ensures c.in_ok-put_symbol.ensures) c.in_ok-put_word.ensures)
    params) c.in_ok-put_returns.ensures) c.in_ok-put_block.ensures
