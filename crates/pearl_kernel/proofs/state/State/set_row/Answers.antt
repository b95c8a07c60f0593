use Rattle.std.proofs.Common.{◌≡◌, ◌<◌, length, sym, subst}
use Rattle.pearl_kernel.specs.Kept.{Kept, offered, is_silent}
use Rattle.pearl_kernel.proofs.Rows.{timetable-set}
use Rattle.pearl_kernel.proofs.Unsettling.{unsettled-row}
use Rattle.pearl_kernel.proofs.state.State.set_row.Goals as goal

pub invariant_of-self : goal.invariant_of-self
invariant_of-self c =
    let s = c.self.inside in
    let there = subst (λ (k : Kept). c.args.task < length k.core.tasks) (sym c.self.view_is) c.requires in
    let silent = subst (λ (k : Kept). c.is_silent-silent.result ≡ is_silent (offered k c.args.task)) (sym c.self.view_is)
    c.is_silent-silent.ensures in (
      timetable-set s.rows.items s.timer c.keep_row.new.timer c.args.task c.args.row c.self.invariant.0 c.keep_row.ensures,
      c.self.invariant.1,
      unsettled-row s.rows.items s.offers.items s.unsettled.items c.self.invariant.2 c.args.task c.args.row
          c.put.new.words.items c.is_awake.result c.is_silent-silent.result there c.put.ensures.bits c.put.ensures.words
          c.is_awake.ensures silent,
      c.self.invariant.3,
      c.self.invariant.4,
    )
