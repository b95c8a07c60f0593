use Rattle.pearl_kernel.proofs.Waiting.{get-is}
use Rattle.pearl_kernel.proofs.Getting.{terminal-there, added-here}
use Rattle.pearl_kernel.proofs.gets.add_at.Goals as goal

pub returns-clause-waiting : goal.returns-clause-waiting
returns-clause-waiting c =
    let channels = c.args.channels.now.items in
    let there = terminal-there channels c.args.device c.requires.terminal in
    added-here channels c.args.device c.args.text.now c.index_mut.result.now c.add.new.self c.add.result
    (get-is channels c.args.device c.index_mut.result.now there c.index_mut.ensures.value) c.add.ensures.waiting
