use Rattle.std.proofs.Common.{rules, subst, sym, ◌≡◌, []}
use Rattle.pearl_journal.specs.Lines.{ended_lines}
use Rattle.pearl_journal.specs.Pieces.{IsKept}
use Rattle.pearl_journal.proofs.PieceLaws.{fed_ended, fed_kept, fed_read}
use Rattle.pearl_journal.proofs.lines.Lines.feed.Goals as goal

is_fed : goal.returns-clause-fed
is_fed c = search rules

pub returns-clause-fed : goal.returns-clause-fed
returns-clause-fed c = is_fed c

is_count : goal.returns-clause-count
is_count c = search rules

pub returns-clause-count : goal.returns-clause-count
returns-clause-count c = is_count c

pub invariant_of-self : goal.invariant_of-self
invariant_of-self c =
    (subst IsKept (sym (is_fed c)) (fed_kept c.args.self.now c.args.piece.now c.requires.partial c.requires.unfinished (subst IsKept c.self.view_is c.self.invariant.0)), c.put_behind.ensures.room)

pub returns-clause-read : goal.returns-clause-read
returns-clause-read c setup now rest =
    let one : ended_lines c.args.self.now.standing ≡ [] = subst (λ kept. ended_lines kept.standing ≡ []) c.self.view_is c.self.invariant.0.unended in
    fed_read setup c.args.self.now _ now _ c.args.piece.now rest c.requires.partial one (is_fed c) (is_count c)

pub returns-clause-ended : goal.returns-clause-ended
returns-clause-ended c setup now rest =
    let one : ended_lines c.args.self.now.standing ≡ [] = subst (λ kept. ended_lines kept.standing ≡ []) c.self.view_is c.self.invariant.0.unended in
    fed_ended setup c.args.self.now _ now _ c.args.piece.now rest c.requires.partial one (is_fed c) (is_count c)
