use Rattle.std.proofs.Common.{◌+◌, ◌≤◌, sym, ap, subst, ◌∙◌}
use Rattle.std.specs.BTreeMap.{get, btree_map_len}
use Rattle.pearl_verify.specs.Numbers.{order}
use Rattle.pearl_verify.proofs.Numbering.{tree_more, grows_more}
use Rattle.pearl_verify.proofs.tree.ShapeTree.grow.Goals as goal

pub returns-in_ok-insert-in-None-clause-tree : goal.returns-in_ok-insert-in-None-clause-tree
returns-in_ok-insert-in-None-clause-tree c =
    tree_more c.args.self.now.edges c.insert.new.self _ _ _ c.requires.tree
    (subst (λ e. e.below ≤ btree_map_len c.args.self.now.edges) (sym c.edge_on.ensures) c.requires.known) (ap (get order c.args.self.now.edges) c.edge_on.ensures ∙ sym c.in-None.ensures)
    (ap (λ n. n + 1) c.len-number.ensures.len) c.in_ok-insert-in-None.ensures.old c.in_ok-insert-in-None.ensures.len c.in_ok-insert-in-None.ensures.updates

pub returns-in_ok-insert-in-None-clause-grows : goal.returns-in_ok-insert-in-None-clause-grows
returns-in_ok-insert-in-None-clause-grows c =
    grows_more c.args.self.now.edges c.insert.new.self _ _ (ap (get order c.args.self.now.edges) c.edge_on.ensures ∙ sym c.in-None.ensures)
    c.in_ok-insert-in-None.ensures.updates
