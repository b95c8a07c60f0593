-- That an activation is read that begins with WHEN, or the least stop is told.
use Rattle.std.proofs.Common.{◌≡◌, ℕ, ◌+◌, ◌<◌, ◌^◌, false, List, length, rules, refl, arith}
use Rattle.pearl_tree.specs.declared.name.Name.{Name}
use Rattle.pearl_tree.specs.declared.statement.Stmt.TheVariants as stmt
use Rattle.pearl_tree.specs.declared.token.Token.{Token}
use Rattle.pearl_tree.specs.Standing.{what_at, HasWord, IsName}
use Rattle.pearl_tree.specs.declared.word_code.TheConstants as w
use Rattle.pearl_parse_expr.specs.Stops.{is_word}
use Rattle.pearl_parse_expr.proofs.Offered.{reading_is}
use Rattle.pearl_grammar.proofs.Offered.{as_one, only_read, part_missing, only}
use Rattle.pearl_parse.proofs.Along.{name_read, took_as, optional_read, optional_stopped, took_only_behind}
use Rattle.pearl_parse.proofs.Along.{lacks_only_behind, lacking}
use Rattle.pearl_parse.proofs.Scheduled.{late_rule, late_facts, begun_parts}
use Rattle.pearl_parse.proofs.ScheduledReads.{At, interrupt_begun, begins}
use Rattle.pearl_parse.proofs.tasking.activation_by_interrupt.Goals as goal

-- behind WHEN id
late : (tokens : List Token) (depth from : ℕ) (inside : from < length tokens) (few : length tokens < 2 ^ 55) (name : Name) →
    from + 1 < length tokens → HasWord tokens from w.WHEN → IsName tokens (from + 1) name →
    is_word w.CONTINUE (what_at tokens (from + 2)) ≡ false → is_word w.RESUME (what_at tokens (from + 2)) ≡ false →
    At tokens depth from inside few late_rule late_facts (from + 2) (from + 2)
late tokens depth from inside few name within here named no_continue no_resume =
    begins tokens depth from inside few (name_read {next = from + 2} (interrupt_begun tokens depth from inside few here)
    (omega arith) named within) (omega arith) no_continue no_resume

pub returns-in_err-after : goal.returns-in_err-after
returns-in_err-after c = λ depth.
    let few : length c.args.tokens.now < 2 ^ 55 = search rules in
    let at = late c.args.tokens.now depth c.args.from (omega (arith, c.requires.within)) few c.args.interrupt
    c.requires.within c.requires.word c.requires.name c.requires.no_continue c.requires.no_resume in
    let none = c.in_err-after.ensures in
    lacking c.in_err-after.field-0.0 c.from_residual.result c.from_residual.ensures
    (optional_stopped (is_word w.AFTER) at (refl, (refl, tt)) (omega arith) 8 c.in_err-after.field-0.0 none.refused
    none.least (omega arith) (omega arith))

pub returns-in_err-begun : goal.returns-in_err-begun
returns-in_err-begun c = λ depth.
    let few : length c.args.tokens.now < 2 ^ 55 = search rules in
    let at = late c.args.tokens.now depth c.args.from (omega (arith, c.requires.within)) few c.args.interrupt
    c.requires.within c.requires.word c.requires.name c.requires.no_continue c.requires.no_resume in
    let read = c.in_ok-after.ensures in
    lacking c.in_err-begun.field-0.0 c.from_residual-in_err-begun.result c.from_residual-in_err-begun.ensures
    (part_missing (as_one (optional_read (is_word w.AFTER) at (refl, (refl, tt)) (omega arith) (took_as (omega arith) read)
    (refl, (refl, tt)) (omega arith) (omega arith))) (lacks_only_behind c.in_err-begun.ensures)
    (omega (arith, read.bounds)) (omega arith))

pub returns : goal.returns
returns c = λ depth.
    let few : length c.args.tokens.now < 2 ^ 55 = search rules in
    let at = late c.args.tokens.now depth c.args.from (omega (arith, c.requires.within)) few c.args.interrupt
    c.requires.within c.requires.word c.requires.name c.requires.no_continue c.requires.no_resume in
    let after = c.in_ok-after.after in
    let read = c.in_ok-after.ensures in
    let begun = c.in_ok-begun.begun in
    let last = c.in_ok-begun.ensures in
    rw (reading_is c.map.result (stmt.Activate c.in_ok-boxed.field-0.part) begun.end begun.stop (search rules) (search
    rules) (search rules))
    (only _ (only_read (as_one (optional_read (is_word w.AFTER) at (refl, (refl, tt)) (omega arith)
    (took_as (omega arith) read) (refl, (refl, tt)) (omega arith) (omega arith))) (took_only_behind last (omega arith)
    (begun.part.period, (begun.part.activation.task, (begun.part.activation.priority, tt)))
    (begun_parts c.args.tokens.now after.end begun.part begun.end last.spells)) (omega (arith, read.bounds)) (omega arith))
    (omega (arith, last.bounds)) (omega (arith, read.bounds, last.bounds)) (search rules))
