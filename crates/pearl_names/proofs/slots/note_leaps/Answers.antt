use Rattle.std.proofs.Common.{◌≡◌, ◌+◌, ◌*◌, ◌++◌, sym, ap, subst, ◌∙◌, arith}
use Rattle.std.proofs.lemmas.Option.{none-some}
use Rattle.pearl_names.specs.Leaps.{behind_slots, begun}
use Rattle.pearl_names.specs.Walks.{AllLeft, weight}
use Rattle.pearl_names.specs.declared.types.Begun.{Begun}
use Rattle.pearl_names.proofs.Walking.{two_left, same_near, same_steps, weight_more}
use Rattle.pearl_names.proofs.slots.note_leaps.Goals as goal

pub returns-in-None-clause-left : goal.returns-in-None-clause-left
returns-in-None-clause-left c = λ slots left found two fewer h. absurd (none-some two.near (sym c.in-None.is ∙ c.begun_at.ensures ∙ two.near_is))

pub returns-in-None-begun_at-clause-left : goal.returns-in-None-begun_at-clause-left
returns-in-None-begun_at-clause-left c = λ slots left found two fewer h.
    let forms = c.args.forms.now in
    let near_is = sym c.begun_at.ensures ∙ c.in-Some.is in
    absurd (none-some two.next (sym c.in-None-begun_at.is ∙ c.begun_at-2.ensures ∙ ap (λ (b : Begun). begun forms b.leap.to.part) (sym (same_near forms c.args.of.part c.in-Some.near near_is two)) ∙ two.next_is))

pub returns-then-from-clause-left : goal.returns-then-from-clause-left
returns-then-from-clause-left c = λ slots left found two fewer h.
    let near_is = sym c.begun_at.ensures ∙ c.in-Some.is in
    let next_is = sym c.begun_at-2.ensures ∙ c.in-Some-begun_at.is in
    let steps = same_steps c.args.forms.now c.args.of.part c.in-Some.near c.in-Some-begun_at.next near_is next_is two in
    let more = c.if-from.true in
    absurd (omega (arith, steps, fewer, more))

pub returns-clause-left : goal.returns-clause-left
returns-clause-left c = λ slots left found two fewer h.
    let forms = c.args.forms.now in
    let near = c.in-Some.near in
    let next = c.in-Some-begun_at.next in
    let near_is = sym c.begun_at.ensures ∙ c.in-Some.is in
    let next_is = sym c.begun_at-2.ensures ∙ c.in-Some-begun_at.is in
    subst (λ n. AllLeft forms c.push-2.new.self.items (behind_slots n found.many found.shape ++ left)) (sym (same_steps forms c.args.of.part near next near_is next_is two))
    (rw (c.in_ok-push-2.ensures.items, c.in_ok-push.ensures.items, c.cut_product.ensures) (two_left forms c.args.of.part c.args.of.count c.args.stack.now.items slots left found near next near_is next_is h))

pub returns-clause-lighter : goal.returns-clause-lighter
returns-clause-lighter c =
    let near = c.in-Some.near.leap.steps in
    let next = c.in-Some-begun_at.next.leap.steps in
    let one : weight c.push.new.self.items ≡ weight c.args.stack.now.items + (4 * near + 2) = ap weight c.in_ok-push.ensures.items ∙ weight_more c.args.stack.now.items _ in
    let two : weight c.push-2.new.self.items ≡ weight c.push.new.self.items + (4 * next + 2) = ap weight c.in_ok-push-2.ensures.items ∙ weight_more c.push.new.self.items _ in
    let fewer = c.if-from.false in
    omega (arith, one, two, fewer)
