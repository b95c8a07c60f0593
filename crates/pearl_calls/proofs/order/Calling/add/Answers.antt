use Rattle.pearl_calls.proofs.Rows.{on_err, row_kept, row_more}
use Rattle.pearl_calls.proofs.order.Calling.add.Goals as goal

pub returns-in_err-push-clause-err : goal.returns-in_err-push-clause-err
returns-in_err-push-clause-err c = on_err c.from_residual.result (rw (← c.self.view_is)
    (row_kept c.self.inside.lists.items c.args.callee c.push.new.self c.index_mut-list.result.now c.index_mut-list.ensures.value c.in_err-push.ensures.items))

pub returns-clause-ok : goal.returns-clause-ok
returns-clause-ok c = rw (← c.self.view_is)
    (row_more c.self.inside.lists.items c.args.callee c.push.new.self c.index_mut-list.result.now c.args.caller
    (rw c.self.view_is c.requires) c.index_mut-list.ensures.value c.in_ok-push.ensures.items)
