use Rattle.std.proofs.Common.{refl, subst, sym}
use Rattle.std.proofs.lemmas.Result.{err_from_is_err_and}
use Rattle.pearl_lex.specs.Lexes.{Lexes}
use Rattle.pearl_tree.specs.Modules.{Spells}
use Rattle.pearl_tree.specs.Tokens.{AreLawful}
use Rattle.pearl_sound.proofs.Offered.{semaphores_named}
use Rattle.pearl_top.proofs.SourceEnds.{stopped}
use Rattle.pearl_top.proofs.source.tree_of.Goals as goal

pub returns-in_err-tree-clause-err : goal.returns-in_err-tree-clause-err
returns-in_err-tree-clause-err c =
    let source = c.args.source.now in
    let p = err_from_is_err_and c.from_residual-in_err-tree.result c.from_residual-in_err-tree.ensures.1 in
    rw (p.1, p.2) (stopped source c.as_slice.result.now _ c.in_err-tree.field-0.0 c.requires refl
    (subst (Lexes source) (sym c.as_slice.ensures.value) c.in_ok-tokens.ensures.tokens) c.in_err-tree.ensures.refused)

pub returns-clause-tree : goal.returns-clause-tree
returns-clause-tree c = record {
  within = c.requires;
  tokens = c.in_ok-tokens.tokens.items;
  lexes = c.in_ok-tokens.ensures.tokens;
  spells = subst (Spells c.in_ok-tree.tree) c.as_slice.ensures.value c.in_ok-tree.ensures.spells;
}

pub returns-clause-lawful : goal.returns-clause-lawful
returns-clause-lawful c = c.in_ok-tree.ensures.lawful (subst AreLawful (sym c.as_slice.ensures.value) c.in_ok-tokens.ensures.lawful)

pub returns-clause-named : goal.returns-clause-named
returns-clause-named c = semaphores_named c.in_ok-tree.tree c.as_slice.result.now c.in_ok-tree.ensures.spells
