use Rattle.std.proofs.Common.{◌∙◌, ◌≡◌, length, arith}
use Rattle.pearl_calls.proofs.Rows.{rows_length}
use Rattle.pearl_calls.proofs.order.Calling.none.Goals as goal

pub returns-clause-length : goal.returns-clause-length
returns-clause-length c =
    let all : length c.rows.lists.items ≡ c.args.count = omega (arith, c.rows.invariant.1, c.rows.auto.counter-end, c.rows-test.false) in
    rows_length c.rows.lists.items ∙ all
