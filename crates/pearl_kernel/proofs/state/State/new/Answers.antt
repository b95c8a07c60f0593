use Rattle.std.proofs.Common.{◌≡◌, ℕ, ◌≤◌, ◌*◌, length, replicate, sym, ap, subst, ◌∙◌, arith}
use Rattle.std.proofs.lemmas.List.{length-map}
use Rattle.pearl_rules.specs.Core.{first_row, first_channel}
use Rattle.pearl_sema.specs.Waiting.{Sema}
use Rattle.pearl_kernel.specs.Requests.{requests}
use Rattle.pearl_kernel.specs.Unsettled.{AreActive}
use Rattle.pearl_kernel.proofs.Rows.{timetable-opening}
use Rattle.pearl_kernel.proofs.Requesting.{requests-opening}
use Rattle.pearl_kernel.proofs.Getting.{asked-opening}
use Rattle.pearl_kernel.proofs.Listeners.{listening-opening}
use Rattle.pearl_kernel.proofs.Unsettling.{unsettled-opening}
use Rattle.pearl_kernel.proofs.state.State.new.Goals as goal

pub invariant_of-result : goal.invariant_of-result
invariant_of-result c =
    let tasks = c.as_slice-tasks.result.now in
    let rows = c.in_ok-rows.rows.items in
    let few : length tasks ≤ 200 = omega (arith, c.requires.tasks, ap (λ xs. length xs) c.as_slice-tasks.ensures) in
    let made = ap length c.in_ok-channels.ensures ∙ length-map c.as_slice-4.result.now first_channel
    ∙ ap length c.as_slice-4.ensures in
    let words : c.len.result ≡ length c.in_ok-channels.channels.items = omega (arith, c.len.ensures) in
    let devices : length c.in_ok-channels.channels.items ≤ 396 = omega (arith, made, c.requires.devices) in
    let same : length rows ≡ length tasks = ap (λ xs. length xs) c.in_ok-rows.ensures ∙ length-map tasks first_row in (
      timetable-opening c.args.setup.now.tasks c.in_ok-timer.timer c.in_ok-rows.rows.items
          (cc (c.in_ok-timer.ensures, c.as_slice-tasks.ensures)) (cc (c.in_ok-rows.ensures, c.as_slice-tasks.ensures)),
      ap (λ (x : Sema). x.waiting) c.in_ok-semas.ensures ∙ sym (requests-opening (length c.as_slice-tasks.result.now))
          ∙ ap requests (sym c.in_ok-offers.ensures),
      unsettled-opening rows c.in_ok-offers.offers.items c.in_ok-unsettled.unsettled.items (length tasks)
          (subst (λ xs. AreActive xs c.in_ok-unsettled.unsettled.items) c.as_slice.ensures.value c.in_ok-unsettled.ensures)
          (omega (arith, few, same)) few c.in_ok-offers.ensures,
      asked-opening c.in_ok-offers.offers.items c.in_ok-formats.formats.items c.in_ok-channels.channels.items c.in_ok-progress.progress.items
          (length c.as_slice-tasks.result.now) c.in_ok-offers.ensures c.in_ok-progress.ensures,
      listening-opening (length c.in_ok-channels.channels.items) (length tasks) c.in_ok-offers.offers.items
          c.in_ok-listening.listening.items devices few c.in_ok-offers.ensures
          (c.in_ok-listening.ensures ∙ ap (λ n. replicate {A = ℕ} (n * 4) 0) words),
    )
