-- What `task_head` answers: MAIN and behind it a priority or none, or a priority or none and behind it MAIN or not.
use Rattle.std.proofs.Common.{◌+◌, refl, sym, subst}
use Rattle.pearl_parse_decl.proofs.Leaves.{head_reads, main_reads, maybe_prio, prio_reads}
use Rattle.pearl_parse_decl.proofs.head.task_head.Goals as goal

pub returns-in-Some : goal.returns-in-Some
returns-in-Some c =
    let tokens = c.args.tokens.now in
    let main = c.if-is_word.ensures.stands refl in
    let behind = c.optional-behind in
    let read = prio_reads tokens (c.args.from + 1) c.prio.result behind.result behind.ensures c.prio.ensures.reads in
    main_reads tokens c.args.from main behind.result read _
    (main, subst (λ x. maybe_prio tokens (c.args.from + 1) x behind.result.end) c.in-Some.is read.spells)

pub returns-in-None : goal.returns-in-None
returns-in-None c =
    let tokens = c.args.tokens.now in
    let main = c.if-is_word.ensures.stands refl in
    let behind = c.optional-behind in
    let read = prio_reads tokens (c.args.from + 1) c.prio.result behind.result behind.ensures c.prio.ensures.reads in
    main_reads tokens c.args.from main behind.result read _ (
      c.args.from,
      refl,
      (main, subst (λ x. maybe_prio tokens (c.args.from + 1) x behind.result.end) c.in-None.is read.spells),
    )

pub returns : goal.returns
returns c =
    let tokens = c.args.tokens.now in
    let prio = c.optional-prio in
    let main = c.flag-main in
    head_reads tokens c.args.from (sym c.if-is_word.ensures.value) prio.result
    (prio_reads tokens c.args.from c.prio-2.result prio.result prio.ensures c.prio-2.ensures.reads) main.result
    main.ensures.reads c.max.result c.max.ensures main.ensures.once
