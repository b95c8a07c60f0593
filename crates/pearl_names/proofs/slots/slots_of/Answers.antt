use Rattle.std.proofs.Common.{◌≡◌, ◌≤◌, ◌∷◌, [], sym, subst, ap, ◌∙◌, length, length-append, vec_len, refl, arith}
use Rattle.pearl_names.specs.Kinds.{joined_kinds}
use Rattle.pearl_names.specs.Walks.{AllLeft, kinds_of_next}
use Rattle.pearl_names.proofs.Walking.{Walked, walked_none, walked_more, walked_all, walked_enough}
use Rattle.pearl_names.proofs.slots.slots_of.Goals as goal

pub loop-next-init : goal.loop-next-init
loop-next-init c = rw c.new-runs.ensures.items (
  omega arith,
  λ slots has.
      walked_none c.args.forms.now c.in_ok-next.next c.begin.new.stack.items slots (c.in_ok-next.ensures slots has (subst (λ l. AllLeft c.args.forms.now l []) (sym c.new-stack.ensures.items) refl)),
)

pub returns-in-None-clause-lists : goal.returns-in-None-clause-lists
returns-in-None-clause-lists c = λ slots has.
    walked_all c.args.forms.now c.loop-next.stack.items _ slots c.args.most refl
    (subst (λ n. Walked c.args.forms.now n c.loop-next.stack.items c.loop-next.runs.items slots) c.in-None.is (c.loop-next.invariant.1 slots has))

pub loop-next-preserved : goal.loop-next-preserved
loop-next-preserved c =
    let run = c.in-Some.run' in
    let runs = c.loop-next.runs in
    let known : vec_len runs ≡ length runs.items = omega (arith, runs.ok.0) in
    rw c.in_ok-push.ensures.items (
      omega (arith, known, c.len.ensures, c.loop-next-test.true, length-append runs.items (run ∷ [])),
      λ slots has.
          walked_more c.args.forms.now run c.in_ok-next-2.next c.loop-next.stack.items c.go_on.new.stack.items runs.items slots
          (subst (λ n. Walked c.args.forms.now n c.loop-next.stack.items runs.items slots) c.in-Some.is (c.loop-next.invariant.1 slots has)) c.in_ok-next-2.ensures,
    )

pub returns-clause-lists : goal.returns-clause-lists
returns-clause-lists c = λ slots has.
    let kinds = c.all_kinds_left.result in
    let known : vec_len c.loop-next.runs ≡ length c.loop-next.runs.items = omega (arith, c.loop-next.runs.ok.0) in
    let behind : c.joined_kinds-behind.result ≡ joined_kinds (kinds_of_next c.loop-next.next) kinds = c.joined_kinds-behind.ensures ∙ ap (λ k. joined_kinds k kinds) c.kinds_of_run.ensures in
    walked_enough c.args.forms.now c.loop-next.next c.loop-next.stack.items _ kinds slots c.args.most behind (subst (λ n. c.args.most ≤ n) (c.len.ensures ∙ known) c.loop-next-test.false)
    (λ left h. c.all_kinds_left.ensures left (subst (λ l. AllLeft c.args.forms.now l left) (sym c.as_slice.ensures.value) h)) (c.loop-next.invariant.1 slots has)
