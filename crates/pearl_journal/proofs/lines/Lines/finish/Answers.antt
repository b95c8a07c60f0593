use Rattle.std.proofs.Common.{rules, subst, ◌≡◌, []}
use Rattle.pearl_journal.specs.Lines.{ended_lines}
use Rattle.pearl_journal.proofs.PieceLaws.{finished_read}
use Rattle.pearl_journal.proofs.lines.Lines.finish.Goals as goal

is_finished : goal.returns-clause-finished
is_finished c = search rules

pub returns-clause-finished : goal.returns-clause-finished
returns-clause-finished c = is_finished c

pub returns-clause-read : goal.returns-clause-read
returns-clause-read c setup now =
    let one : ended_lines c.args.self.now.standing ≡ [] = subst (λ kept. ended_lines kept.standing ≡ []) c.self.view_is c.self.invariant.0.unended in
    finished_read setup c.args.self.now _ now one (is_finished c)
