use Rattle.std.proofs.Common.{rules, subst, ◌≡◌, [], Ok, Err, ◌+◌}
use Rattle.pearl_journal.specs.Lines.{ended_lines}
use Rattle.pearl_journal.specs.declared.lines.Next.TheVariants as next
use Rattle.pearl_journal.proofs.PieceLaws.{answer_ended, answer_read}
use Rattle.pearl_journal.proofs.lines.Lines.entry.Goals as goal

answers-Blank : goal.returns-in-Blank-clause-answer
answers-Blank c = search rules

leaves-Blank : goal.returns-in-Blank-clause-after
leaves-Blank c = search rules

pub returns-in-Blank-clause-answer : goal.returns-in-Blank-clause-answer
returns-in-Blank-clause-answer c = answers-Blank c

pub returns-in-Blank-clause-after : goal.returns-in-Blank-clause-after
returns-in-Blank-clause-after c = leaves-Blank c

pub returns-in-Blank-clause-read : goal.returns-in-Blank-clause-read
returns-in-Blank-clause-read c rest =
    let one : ended_lines c.args.self.now.standing ≡ [] = subst (λ kept. ended_lines kept.standing ≡ []) c.self.view_is c.self.invariant.0.unended in
    answer_read c.args.setup.now c.args.self.now _ c.args.now rest (Ok next.Blank) one (answers-Blank c) (leaves-Blank c)

pub returns-in-Blank-clause-ended : goal.returns-in-Blank-clause-ended
returns-in-Blank-clause-ended c rest =
    let one : ended_lines c.args.self.now.standing ≡ [] = subst (λ kept. ended_lines kept.standing ≡ []) c.self.view_is c.self.invariant.0.unended in
    answer_ended c.args.setup.now c.args.self.now _ c.args.now rest (Ok next.Blank) one (answers-Blank c) (leaves-Blank c)

answers-Item : goal.returns-in-Item-clause-answer
answers-Item c = search rules

leaves-Item : goal.returns-in-Item-clause-after
leaves-Item c = search rules

pub returns-in-Item-clause-answer : goal.returns-in-Item-clause-answer
returns-in-Item-clause-answer c = answers-Item c

pub returns-in-Item-clause-after : goal.returns-in-Item-clause-after
returns-in-Item-clause-after c = leaves-Item c

pub returns-in-Item-clause-read : goal.returns-in-Item-clause-read
returns-in-Item-clause-read c rest =
    let one : ended_lines c.args.self.now.standing ≡ [] = subst (λ kept. ended_lines kept.standing ≡ []) c.self.view_is c.self.invariant.0.unended in
    answer_read c.args.setup.now c.args.self.now _ c.args.now rest (Ok (next.Entry c.in-Item.entry)) one (answers-Item c) (leaves-Item c)

pub returns-in-Item-clause-ended : goal.returns-in-Item-clause-ended
returns-in-Item-clause-ended c rest =
    let one : ended_lines c.args.self.now.standing ≡ [] = subst (λ kept. ended_lines kept.standing ≡ []) c.self.view_is c.self.invariant.0.unended in
    answer_ended c.args.setup.now c.args.self.now _ c.args.now rest (Ok (next.Entry c.in-Item.entry)) one (answers-Item c) (leaves-Item c)

answers-Wrong : goal.returns-in-Wrong-clause-answer
answers-Wrong c = search rules

leaves-Wrong : goal.returns-in-Wrong-clause-after
leaves-Wrong c = search rules

pub returns-in-Wrong-clause-answer : goal.returns-in-Wrong-clause-answer
returns-in-Wrong-clause-answer c = answers-Wrong c

pub returns-in-Wrong-clause-after : goal.returns-in-Wrong-clause-after
returns-in-Wrong-clause-after c = leaves-Wrong c

pub returns-in-Wrong-clause-read : goal.returns-in-Wrong-clause-read
returns-in-Wrong-clause-read c rest =
    let one : ended_lines c.args.self.now.standing ≡ [] = subst (λ kept. ended_lines kept.standing ≡ []) c.self.view_is c.self.invariant.0.unended in
    answer_read c.args.setup.now c.args.self.now _ c.args.now rest (Err (record { line = c.self.inside.lines + 1; code = c.in-Wrong.code })) one (answers-Wrong c) (leaves-Wrong c)

pub returns-in-Wrong-clause-ended : goal.returns-in-Wrong-clause-ended
returns-in-Wrong-clause-ended c rest =
    let one : ended_lines c.args.self.now.standing ≡ [] = subst (λ kept. ended_lines kept.standing ≡ []) c.self.view_is c.self.invariant.0.unended in
    answer_ended c.args.setup.now c.args.self.now _ c.args.now rest (Err (record { line = c.self.inside.lines + 1; code = c.in-Wrong.code })) one (answers-Wrong c) (leaves-Wrong c)
