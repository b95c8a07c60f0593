use Rattle.std.proofs.Common.{◌≡◌, ap, ◌∙◌}
use Rattle.pearl_print.specs.Types.{typing_tokens, struct_tokens}
use Rattle.pearl_print.proofs.Rows.{struct_shown}
use Rattle.pearl_print.proofs.typing.«+typing».Goals as goal

pub put_typing-returns-in-Struct : goal.put_typing-returns-in-Struct
put_typing-returns-in-Struct t c =
    let e : typing_tokens c.args.typing.now ≡ struct_tokens c.in-Struct.fields.items.items = ap typing_tokens c.in-Struct.is ∙ struct_shown c.in-Struct.fields c.in-Struct.place in
    rw e c.put_struct.ensures
