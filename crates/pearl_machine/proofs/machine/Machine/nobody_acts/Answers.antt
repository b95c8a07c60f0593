use Rattle.std.proofs.Common.{◌≡◌, Bool, true, false, refl, ap, sym, ◌∙◌}
use Rattle.std.specs.Prelude.{is_none, not}
use Rattle.pearl_machine.proofs.Calls.{picked_call}
use Rattle.pearl_machine.proofs.machine.Machine.nobody_acts.Goals as goal

twice : (b : Bool) → b ≡ not (not b)
twice true = refl
twice false = refl

pub returns : goal.returns
returns c =
    let m = c.self.inside in
    let same = picked_call m.code m.setup m.kernel m.parts.items m.due c.self.invariant c.args.self.now c.self.view_is in
    twice c.is_none.result ∙ (sym (ap not c.is_none.ensures) ∙ ap is_none (c.picked.ensures.picked ∙ sym same))
