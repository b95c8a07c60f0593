use Rattle.pearl_cells.proofs.TextOrder.{longer_tied, longer_told}
use Rattle.pearl_cells.proofs.texts.order_of_longer.Goals as goal

pub returns-in-Equal : goal.returns-in-Equal
returns-in-Equal c =
    longer_tied c.args.text.now c.args.other.now c.split_at.result.0.now c.split_at.result.1.now c.blanks.result.now c.cmp.result c.cmp-in-Equal.result
    c.split_at.ensures.front c.split_at.ensures.back c.split_at.ensures.front_len c.cmp.ensures c.in-Equal.is c.blanks.ensures c.cmp-in-Equal.ensures

pub returns-in_default : goal.returns-in_default
returns-in_default c =
    longer_told c.args.text.now c.args.other.now c.split_at.result.0.now c.split_at.result.1.now c.cmp.result
    c.split_at.ensures.front c.split_at.ensures.back c.split_at.ensures.front_len c.cmp.ensures c.in_default.not-Equal
