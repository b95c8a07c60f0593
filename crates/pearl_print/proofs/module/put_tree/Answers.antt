use Rattle.std.proofs.Common.{◌≡◌, ◌++◌}
use Rattle.std.specs.List.{flat_map}
use Rattle.pearl_print.specs.Modules.{decl_tokens, tokens_of}
use Rattle.pearl_print.specs.Spelled.{text_of_tokens}
use Rattle.pearl_print.proofs.Texts.{adds}
use Rattle.pearl_print.proofs.module.put_tree.Goals as goal

pub returns : goal.returns
unfolding tokens_of
returns c =
    let declarations : c.put_each.new.into.items ≡ c.put_front.new.into.items ++ text_of_tokens (flat_map decl_tokens c.args.tree.now.declarations.items.items) =
    rw (← c.as_slice.ensures) c.in_ok-put_each.ensures in
    adds _ _ _ _ _ (adds _ _ _ _ _ (adds _ _ _ _ _ c.in_ok-put_front.ensures declarations) c.in_ok-put_word.ensures) c.in_ok-put_symbol.ensures
