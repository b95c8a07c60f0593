use Rattle.std.proofs.Common.{◌≡◌, length, sym, ap, subst, ◌∙◌, arith}
use Rattle.std.proofs.lemmas.Option.{slice_get-get_or}
use Rattle.pearl_rules.specs.Core.{is_active_row}
use Rattle.pearl_kernel.proofs.Unsettling.{AreFirst, none-first, one-more, all-first}
use Rattle.pearl_kernel.proofs.unsettled.first_bits.Goals as goal

pub loop-task-init : goal.loop-task-init
loop-task-init c = none-first c.args.rows.now c.in_ok-words.words.items c.in_ok-words.ensures

pub loop-task-preserved : goal.loop-task-preserved
loop-task-preserved c =
    let l = c.loop-task in
    one-more c.args.rows.now l.words.items c.put.new.words.items l.task c.is_awake.result l.invariant
    c.put.ensures.bits c.put.ensures.words
    (c.is_awake.ensures ∙ ap is_active_row (sym (slice_get-get_or c.args.rows.now l.task _ c.loop-task-test.true)))

pub returns : goal.returns
returns c =
    let l = c.loop-task in
    let end = l.auto.task-end in
    let all : l.task ≡ length c.args.rows.now = omega arith in
    all-first c.args.rows.now l.words.items (subst (λ n. AreFirst c.args.rows.now l.words.items n) all l.invariant)
