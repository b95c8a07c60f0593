use Rattle.std.proofs.Common.{◌≡◌, [], refl, subst, sym, ◌∙◌}
use Rattle.std.specs.Option.{IsNone}
use Rattle.pearl_tree.specs.ShownModules.{shown_tree}
use Rattle.pearl_check.specs.Rules.{all_broken}
use Rattle.pearl_check.proofs.Accepting.{none_broken, exact_sizes}
use Rattle.pearl_check.proofs.accept.accept.Goals as goal

pub unreachable-requires : goal.unreachable-requires
unreachable-requires c =
    c.in_ok-judged.ensures.none (subst IsNone (sym c.in_default-numbering.is) refl)
    (none_broken (all_broken (shown_tree c.args.tree.now)) (sym c.in_ok-judged.ensures.told ∙ c.in_default.is))

pub returns-clause-accepted : goal.returns-clause-accepted
returns-clause-accepted c = none_broken (all_broken (shown_tree c.args.tree.now)) (sym c.in_ok-judged.ensures.told ∙ c.in_default.is)

pub returns-clause-sizes : goal.returns-clause-sizes
returns-clause-sizes c =
    let none : all_broken (shown_tree c.args.tree.now) ≡ [] =
    none_broken (all_broken (shown_tree c.args.tree.now)) (sym c.in_ok-judged.ensures.told ∙ c.in_default.is) in
    c.in_ok-judged.ensures.sizes ∙ exact_sizes (shown_tree c.args.tree.now) none
