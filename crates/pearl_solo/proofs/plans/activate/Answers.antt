use Rattle.std.proofs.Common.{◌≡◌, List, Ok, Err, take, reverse, sym, ap, ◌∙◌, subst}
use Rattle.std.specs.Prelude.{IsSome}
use Rattle.pearl_value.specs.declared.cell.Cell.{Cell}
use Rattle.pearl_stack.specs.Frames.{top_operands}
use Rattle.pearl_instructions.specs.Offers.{activation_count}
use Rattle.pearl_exchange.specs.Offers.{action_of}
use Rattle.pearl_solo.specs.Plans.{activation_of}
use Rattle.pearl_solo.proofs.Activating.{activate_applies}
use Rattle.pearl_solo.proofs.plans.activate.Goals as goal

pub activation-requires-clause-some : goal.activation-requires-clause-some
activation-requires-clause-some c =
    let xs : List Cell = top_operands c.args.stack.now.frames in
    let values : c.as_slice.result.now ≡ reverse (take (activation_count c.args.a.now) xs) =
    c.as_slice.ensures.value ∙ (c.top_values-values.ensures ∙ ap (λ n. reverse (take n xs)) c.activation_count.ensures.value) in
    subst (λ xs. IsSome (activation_of c.args.a.now xs)) (sym values) (activate_applies c.args.a.now c.args.stack.now.frames c.args.stack.now.room c.requires.ready).some

pub returns-in-Ok : goal.returns-in-Ok
returns-in-Ok c =
    let xs : List Cell = top_operands c.args.stack.now.frames in
    let values : c.as_slice.result.now ≡ reverse (take (activation_count c.args.a.now) xs) =
    c.as_slice.ensures.value ∙ (c.top_values-values.ensures ∙ ap (λ n. reverse (take n xs)) c.activation_count.ensures.value) in
    (activate_applies c.args.a.now c.args.stack.now.frames c.args.stack.now.room c.requires.ready).does c.args.stack.now (Ok (action_of c.activation.new.into))
    (ap (activation_of c.args.a.now) (sym values) ∙ c.in-Ok.ensures.ok)

pub returns-in-Err : goal.returns-in-Err
returns-in-Err c =
    let xs : List Cell = top_operands c.args.stack.now.frames in
    let values : c.as_slice.result.now ≡ reverse (take (activation_count c.args.a.now) xs) =
    c.as_slice.ensures.value ∙ (c.top_values-values.ensures ∙ ap (λ n. reverse (take n xs)) c.activation_count.ensures.value) in
    (activate_applies c.args.a.now c.args.stack.now.frames c.args.stack.now.room c.requires.ready).does c.args.stack.now (Err c.in-Err.trap)
    (ap (activation_of c.args.a.now) (sym values) ∙ c.in-Err.ensures.err)
