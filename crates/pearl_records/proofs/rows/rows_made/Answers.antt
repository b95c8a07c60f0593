use Rattle.std.proofs.Common.{◌≡◌, ◌≤◌, length, sym, ap, ◌∙◌, arith}
use Rattle.pearl_records.proofs.Making.{made-all, made-size}
use Rattle.pearl_records.proofs.rows.rows_made.Goals as goal

pub returns-clause-size : goal.returns-clause-size
returns-clause-size c =
    let l = c.loop-place in
    let end = l.auto.place-end in
    let entries = c.as_slice-entries.result.now in
    let all : length entries ≤ l.place = omega arith in
    let same : entries ≡ c.args.setup.now.tasks = c.as_slice-entries.ensures in
    ap (λ rows. length rows) (made-all entries c.args.tasks.now l.place l.rows.items all l.invariant)
    ∙ made-size entries c.args.tasks.now (c.requires.tasks ∙ sym (ap (λ xs. length xs) same)) ∙ ap (λ xs. length xs) same
