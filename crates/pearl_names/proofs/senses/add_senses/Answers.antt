use Rattle.std.proofs.Common.{◌++◌, sym, subst, append-nil}
use Rattle.pearl_names.specs.Groups.{shown_meaning}
use Rattle.pearl_names.specs.Holding.{HoldsAll}
use Rattle.pearl_names.specs.Known.{known_from}
use Rattle.pearl_names.specs.Scopes.{entries_as}
use Rattle.pearl_names.specs.Tables.{senses_of}
use Rattle.pearl_names.proofs.Holding.{name_held}
use Rattle.pearl_names.proofs.Lists.{all_taken}
use Rattle.pearl_names.proofs.senses.add_senses.Goals as goal

pub loop-name-init : goal.loop-name-init
loop-name-init c = λ forms names shapes scope old has held. subst (HoldsAll forms c.args.into.now.items) (sym (append-nil old)) held

pub loop-name-preserved : goal.loop-name-preserved
loop-name-preserved c = λ forms names shapes scope old has held.
    name_held (known_from names c.args.lengths.now shapes) scope forms old (shown_meaning c.args.group.now.meaning) _ _ c.args.group.now.names.now
    c.loop-name._name-index c._name-item.result _ c.loop-name-test.true c._name-item.is (c.loop-name.invariant forms names shapes scope old has held)
    (c.in_ok-sense.ensures forms names shapes scope has) c.in_ok-push.ensures.items

pub returns : goal.returns
returns c = λ forms names shapes scope old has held.
    subst (λ l. HoldsAll forms c.loop-name.into.items (old ++ senses_of (known_from names c.args.lengths.now shapes) scope (entries_as (shown_meaning c.args.group.now.meaning) l)))
    (all_taken c.args.group.now.names.now c.loop-name._name-index c.loop-name-test.false) (c.loop-name.invariant forms names shapes scope old has held)
