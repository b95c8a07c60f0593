use Rattle.std.proofs.Common.{rules, ◌≡◌}
use Rattle.pearl_print.specs.Modules.{tokens_of}
use Rattle.pearl_print.specs.Spelled.{text_of_tokens}
use Rattle.pearl_print.proofs.LawfulParts.{printed_reads}
use Rattle.pearl_print.proofs.PlainModules.{printed_says}
use Rattle.pearl_print.proofs.print.print.Goals as goal

pub returns-clause-reads : goal.returns-clause-reads
returns-clause-reads c lawful fits =
    let spelled : c.put_tree.new.into.items ≡ text_of_tokens (tokens_of c.args.tree.now) = search rules in
    printed_reads c.args.tree.now c.put_tree.new.into.items spelled lawful fits

pub returns-clause-same : goal.returns-clause-same
returns-clause-same c lawful fits tokens spells =
    let spelled : c.put_tree.new.into.items ≡ text_of_tokens (tokens_of c.args.tree.now) = search rules in
    printed_says c.args.tree.now c.put_tree.new.into.items spelled lawful fits tokens spells
