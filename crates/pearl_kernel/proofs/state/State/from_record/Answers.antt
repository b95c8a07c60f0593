use Rattle.std.proofs.Common.{◌≡◌, ℕ, ◌≤◌, ◌*◌, length, replicate, sym, ap, subst, ◌∙◌, arith}
use Rattle.pearl_sema.specs.Waiting.{Sema}
use Rattle.pearl_kernel.specs.Requests.{requests}
use Rattle.pearl_kernel.specs.Unsettled.{AreActive}
use Rattle.pearl_kernel.specs.Timing.{timetable}
use Rattle.pearl_kernel.proofs.Requesting.{requests-opening}
use Rattle.pearl_kernel.proofs.Getting.{asked-opening}
use Rattle.pearl_kernel.proofs.Listeners.{listening-opening}
use Rattle.pearl_kernel.proofs.Made.{made-length}
use Rattle.pearl_kernel.proofs.Unsettling.{unsettled-opening}
use Rattle.pearl_kernel.proofs.state.State.from_record.Goals as goal

pub invariant_of-result : goal.invariant_of-result
invariant_of-result c =
    let rows = c.in_ok-rows.rows.items in
    let count = length c.as_slice-tasks.result.now in
    let tasks = ap (λ xs. length xs) c.as_slice-tasks.ensures in
    let most = c.requires.setup.few_tasks in
    let size = c.in_ok-rows.ensures.size in
    let made = ap length c.in_ok-channels.ensures ∙ made-length c.args.setup.now.devices _ _ _ in
    let words : c.len.result ≡ length c.in_ok-channels.channels.items = omega (arith, c.len.ensures) in
    let devices : length c.in_ok-channels.channels.items ≤ 396 = omega (arith, made, c.requires.setup.few_devices) in
    let few : count ≤ 200 = omega (arith, tasks, most) in (
      c.in_ok-timer.ensures ∙ ap timetable c.as_slice-2.ensures.value,
      ap (λ (x : Sema). x.waiting) c.in_ok-semas.ensures ∙ sym (requests-opening (length c.as_slice-tasks.result.now))
          ∙ ap requests (sym c.in_ok-offers.ensures),
      unsettled-opening rows c.in_ok-offers.offers.items c.in_ok-unsettled.unsettled.items (length c.as_slice-tasks.result.now)
          (subst (λ xs. AreActive xs c.in_ok-unsettled.unsettled.items) c.as_slice-3.ensures.value c.in_ok-unsettled.ensures)
          (omega (arith, most, size)) few c.in_ok-offers.ensures,
      asked-opening c.in_ok-offers.offers.items c.in_ok-formats.formats.items c.in_ok-channels.channels.items c.in_ok-progress.progress.items
          (length c.as_slice-tasks.result.now) c.in_ok-offers.ensures c.in_ok-progress.ensures,
      listening-opening (length c.in_ok-channels.channels.items) count c.in_ok-offers.offers.items
          c.in_ok-listening.listening.items devices few c.in_ok-offers.ensures
          (c.in_ok-listening.ensures ∙ ap (λ n. replicate {A = ℕ} (n * 4) 0) words),
    )
