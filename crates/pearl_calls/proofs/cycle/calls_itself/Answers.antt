use Rattle.std.proofs.Common.{nat_lt, ◌≡◌, ◌<◌, ◌≤◌, [], false, ◌∙◌, sym, subst, length, arith}
use Rattle.std.proofs.lemmas.Bool.{ltb-true}
use Rattle.std.proofs.lemmas.List.{nil_from_length, get_or_past}
use Rattle.pearl_calls.proofs.Rows.{read_mark}
use Rattle.pearl_calls.proofs.Search.{Searches, goes_on, ended}
use Rattle.pearl_calls.proofs.Truths.{is_false}
use Rattle.pearl_calls.specs.Marks.{MarksCallees}
use Rattle.pearl_calls.proofs.cycle.calls_itself.Goals as goal
use Rattle.pearl_calls.proofs.cycle.calls_itself.Goals.{then-start-len, else-start-len}

pub loop-procedure-preserved : goal.loop-procedure-preserved
loop-procedure-preserved c =
    goes_on c.args.callers.now c.args.number c.loop-procedure.marks.items c.mark_callees-in-Some.new.marks.items c.loop-procedure.pending.items
    c.pop.new.self.items c.mark_callees-in-Some.new.pending.items c.in-Some.procedure c.loop-procedure.invariant c.in-Some.ensures.items
    (subst (λ z. MarksCallees z c.loop-procedure.marks.items c.mark_callees-in-Some.new.marks.items c.pop.new.self.items c.mark_callees-in-Some.new.pending.items)
    c.callees-in-Some.ensures c.in_ok-mark_callees-2.ensures)

pub returns : goal.returns
returns c =
    let none : c.loop-procedure.pending.items ≡ [] =
    nil_from_length c.loop-procedure.pending.items (omega (arith, c.loop-procedure.pending.ok.0, c.in_default.ensures.cases.0)) in
    let all = ended c.args.callers.now c.args.number c.loop-procedure.marks.items
    (subst (λ z. Searches c.args.callers.now c.args.number c.loop-procedure.marks.items z) none c.loop-procedure.invariant) in
    elim c.if-start-len.branch [
      | then-start-len w ↦
          let within : c.args.number < length c.loop-procedure.marks.items = omega (arith, c.loop-procedure.marks.ok.0) in
          w.result-is ∙ read_mark c.loop-procedure.marks.items c.args.number w.index.result.now within w.index.ensures ∙ all
      | else-start-len w ↦
          let beyond : length c.loop-procedure.marks.items ≤ c.args.number = omega (arith, c.loop-procedure.marks.ok.0) in
          let out : nat_lt c.args.number c.len.result ≡ false = is_false (nat_lt c.args.number c.len.result)
          (λ t. let less : c.args.number < c.len.result = ltb-true c.args.number c.len.result t in
          absurd (omega (arith, less, beyond, c.len.ensures, c.loop-procedure.marks.ok.0))) in
          w.result-is ∙ out ∙ sym (get_or_past c.loop-procedure.marks.items c.args.number false beyond) ∙ all
    ]
