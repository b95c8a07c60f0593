use Rattle.std.proofs.Common.{subst}
use Rattle.pearl_names.specs.Groups.{entries_in}
use Rattle.pearl_names.specs.Holding.{HoldsAll}
use Rattle.pearl_names.specs.Known.{known_from}
use Rattle.pearl_names.specs.Tables.{senses_of}
use Rattle.pearl_names.proofs.Holding.{ScopesHeld, scopes_none, scopes_more}
use Rattle.pearl_names.proofs.Lists.{all_taken}
use Rattle.pearl_names.proofs.senses.all_senses.Goals as goal

pub loop-scope-init : goal.loop-scope-init
loop-scope-init c = scopes_none _ _ _ _ c.new-all.ensures.items

pub loop-scope-preserved : goal.loop-scope-preserved
loop-scope-preserved c =
    scopes_more _ _ _ _ _ _ _ _ _ c.args.scopes.now c.loop-scope.scope-index c.scope-item.result _ c.loop-scope-test.true c.scope-item.is c.loop-scope.invariant
    c.in_ok-senses.ensures.grows c.in_ok-senses.ensures.named
    (λ shapes all. subst (λ l. HoldsAll c.senses_of.new.types.forms.items c.in_ok-senses.senses.items
    (senses_of (known_from c.args.names.now c.args.lengths.now shapes) c.loop-scope.number (entries_in l))) c.as_slice.ensures.value (c.in_ok-senses.ensures.senses shapes all))
    c.in_ok-push.ensures.items c.in_ok-number.ensures.number

pub returns : goal.returns
returns c =
    (subst (ScopesHeld c.args.names.now c.args.lengths.now c.args.types.now c.loop-scope.types c.loop-scope.number c.loop-scope.all.items)
    (all_taken c.args.scopes.now c.loop-scope.scope-index c.loop-scope-test.false) c.loop-scope.invariant).held
