use Rattle.std.proofs.Common.{sym, ◌∙◌}
use Rattle.pearl_lex.proofs.Chars.{whole_text, not_empty}
use Rattle.pearl_lex.proofs.quoted.text_of.Goals as goal

pub returns : goal.returns
returns c =
    whole_text c.loop-rest.text.items c.loop-rest.rest.now _ c.loop-rest.invariant.all c.in_default.len_below
    (not_empty c.loop-rest.text.items (sym c.is_empty.ensures ∙ c.if-is_empty.false)) c.loop-rest.invariant.few
