-- That a task is read behind its first three tokens, or the least stop is told.
use Rattle.std.proofs.Common.{◌<◌, ◌^◌, length, rules, arith}
use Rattle.pearl_tree.specs.Modules.{SpellsBlock, SpellsDecl}
use Rattle.pearl_parse.proofs.DeclarationLeast.{block_is_local}
use Rattle.pearl_parse.proofs.DeclarationReads.{past_task}
use Rattle.pearl_parse.proofs.Stands.{no_last, last_is_only, last_goes}
use Rattle.pearl_parse.proofs.module.task.Goals as goal

pub returns-in_err-block : goal.returns-in_err-block
returns-in_err-block c =
    let tokens = c.args.tokens.now in
    let from = c.args.from in
    let few : length tokens < 2 ^ 55 = search rules in
    let head = c.task_head-head.result in
    let at = past_task tokens from few c.args.name c.requires.name c.requires.colon c.requires.within c.requires.word
    head c.task_head-head.ensures in
    no_last 24 SpellsDecl tokens from from head.end head.stop 24 SpellsBlock SpellsBlock block_is_local (omega arith) at
    c.in_err-block.field-0.0 c.from_residual.result c.from_residual.ensures (λ e is. is)
    c.in_err-block.ensures.refused c.in_err-block.ensures.least

pub returns : goal.returns
returns c =
    let tokens = c.args.tokens.now in
    let from = c.args.from in
    let few : length tokens < 2 ^ 55 = search rules in
    let head = c.task_head-head.result in
    let block = c.in_ok-block.block in
    let last = c.in_ok-block.ensures in
    let at = past_task tokens from few c.args.name c.requires.name c.requires.colon c.requires.within c.requires.word
    head c.task_head-head.ensures in
    record {
      spells = search rules;
      only = last_is_only 24 SpellsDecl tokens from from head.end head.stop 24 SpellsBlock SpellsBlock block_is_local
          (omega arith) at block last;
      ahead = search rules;
      refused = tt;
      least = last_goes 24 SpellsDecl tokens from from head.end head.stop 24 SpellsBlock SpellsBlock block_is_local
          (omega arith) at block last block.part last.spells;
    }
