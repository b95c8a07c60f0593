use Rattle.std.proofs.Common.{◌≡◌, ◌++◌, take, map}
use Rattle.pearl_tree.specs.ShownExpressions.{shown_ref}
use Rattle.pearl_check.specs.Asked.{target, asked_in}
use Rattle.pearl_check.proofs.asked.ask_targets.Given as goal

abbrev pub invariant-loop-reference : goal.invariant-loop-reference
invariant-loop-reference l = asked_in l.asked.items ≡ asked_in l.fn.asked.items ++ map (λ reference. target l.scope (shown_ref reference)) (take l.reference-index l.references)
