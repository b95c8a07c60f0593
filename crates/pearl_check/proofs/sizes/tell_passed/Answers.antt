use Rattle.pearl_check.specs.SizeSorts.{added, limit}
use Rattle.pearl_check.proofs.Passing.{passes_next}
use Rattle.pearl_check.proofs.sizes.tell_passed.Goals as goal

pub loop-names-preserved : goal.loop-names-preserved
loop-names-preserved c =
    passes_next (added c.args.size) (limit c.args.size) c.args.forms.now c.args.senses.now c.loop-names.senses.now c.args.names.now c.loop-names.names.now
    c.entry-item.result c.sense-item.result c.loop-names.before c.in_ok-before.before c.args.faults.now.items c.loop-names.faults.items c.tell_one.new.faults.items
    c.in-len1-up.len_at_least c.entry-item.is c.in-len1-up-senses.len_at_least c.sense-item.is c.loop-names.invariant c.in_ok-before.ensures.after
    c.in_ok-before.ensures.told
