use Rattle.std.proofs.Common.{◌≤◌, ◌∙◌, subst, sym, length, string_bytes}
use Rattle.pearl_watch.proofs.Refusing.{bytes_at}
use Rattle.pearl_watch.proofs.watch.kept_names.Goals as goal

pub kept_name-requires : goal.kept_name-requires
kept_name-requires c =
    let at = bytes_at string_bytes c.args.names.now c.loop-name.name-index c.name-item.result c.loop-name-test.true c.name-item.is in
    subst (λ bytes. length bytes ≤ 1024) (sym (c.as_bytes.ensures.value ∙ at)) (c.requires c.loop-name.name-index c.loop-name-test.true)
