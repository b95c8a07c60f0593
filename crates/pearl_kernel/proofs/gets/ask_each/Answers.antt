use Rattle.std.proofs.Common.{◌<◌, ◌∙◌, length, sym, ap, subst, arith}
use Rattle.std.specs.Prelude.{IfSome}
use Rattle.std.proofs.lemmas.List.{get_or_read}
use Rattle.pearl_rules.specs.Runs.{flattened, kept_at}
use Rattle.pearl_scan.specs.declared.progress.Progress.TheVariants.{Complete}
use Rattle.pearl_kernel.specs.Gets.{IsAsked}
use Rattle.pearl_kernel.proofs.Waiting.{get-is}
use Rattle.pearl_kernel.proofs.Listeners.{listener-there}
use Rattle.pearl_kernel.proofs.Renewing.{fewer-left}
use Rattle.pearl_kernel.proofs.Getting.{none-asked, asked-next, asked-all, known-before, known-next}
use Rattle.pearl_kernel.proofs.gets.ask_each.Goals as goal

pub loop-task-init : goal.loop-task-init
loop-task-init c =
    let asked = c.requires.asked in
    record {
      to = none-asked c.args.offers.now c.args.formats.now asked.0 c.args.channels.now c.args.device c.args.anew
          c.args.progress.now.items asked.2 asked.1;
      known = tt;
    }

pub next_at-requires : goal.next_at-requires
next_at-requires c =
    let are = c.requires.listening in
    let words = are.words in
    let few = are.few_devices in
    omega (arith, words, few)

pub bounds-offers-task : goal.bounds-offers-task
bounds-offers-task c =
    let next = c.in-Some.ensures (length c.args.channels.now) c.args.offers.now c.requires.listening in
    listener-there c.args.offers.now c.args.device c.in-Some.task next.listens

pub offset_bounds-offers-task : goal.offset_bounds-offers-task
offset_bounds-offers-task c =
    let next = c.in-Some.ensures (length c.args.channels.now) c.args.offers.now c.requires.listening in
    let there = listener-there c.args.offers.now c.args.device c.in-Some.task next.listens in
    let few = c.requires.listening.few in
    omega (arith, there, few)

pub twin-twin-requires-clause-task : goal.twin-twin-requires-clause-task
twin-twin-requires-clause-task c =
    let next = c.in-Some.ensures (length c.args.channels.now) c.args.offers.now c.requires.listening in
    listener-there c.args.offers.now c.args.device c.in-Some.task next.listens

pub twin-twin-requires-clause-size : goal.twin-twin-requires-clause-size
twin-twin-requires-clause-size c =
    let same = c.loop-task.invariant.to.size in
    let all = c.requires.asked.1.size in
    rw c.as_slice.ensures.value (omega (arith, same, all))

pub twin-twin-requires-clause-known : goal.twin-twin-requires-clause-known
twin-twin-requires-clause-known c =
    let next = c.in-Some.ensures (length c.args.channels.now) c.args.offers.now c.requires.listening in
    known-before c.loop-task.known c.loop-task.after c.in-Some.task c.loop-task.invariant.known next.behind

pub index-from-requires : goal.index-from-requires
index-from-requires c =
    let next = c.in-Some.ensures (length c.args.channels.now) c.args.offers.now c.requires.listening in
    let there = listener-there c.args.offers.now c.args.device c.in-Some.task next.listens in
    let same = c.loop-task.invariant.to.size in
    let all = c.requires.asked.1.size in
    omega (arith, same, all, there)

pub index_mut-requires : goal.index_mut-requires
index_mut-requires c =
    let next = c.in-Some.ensures (length c.args.channels.now) c.args.offers.now c.requires.listening in
    let there = listener-there c.args.offers.now c.args.device c.in-Some.task next.listens in
    let same = c.loop-task.invariant.to.size in
    let all = c.requires.asked.1.size in
    omega (arith, same, all, there)

pub asked-requires-clause-twin : goal.asked-requires-clause-twin
asked-requires-clause-twin c =
    let l = c.loop-task in
    let t = c.in-Some.task in
    let next = c.in-Some.ensures (length c.args.channels.now) c.args.offers.now c.requires.listening in
    let there = listener-there c.args.offers.now c.args.device t next.listens in
    let bid = ap flattened (get-is c.args.offers.now t c.index-offers-task.result there c.index-offers-task.is) in
    subst (λ o. IfSome c.twin-twin.result (IsAsked c.args.formats.now c.args.channels.now o)) bid
    (c.twin-twin.ensures c.args.channels.now (rw c.as_slice.ensures.value (λ u less. l.invariant.to.done u
    (λ behind listens. let up = next.first u behind listens in absurd (omega (arith, less, up))))))

pub asked-requires-clause-asked : goal.asked-requires-clause-asked
asked-requires-clause-asked c =
    let l = c.loop-task in
    let t = c.in-Some.task in
    let asked = c.requires.asked in
    let are = asked.1 in
    let next = c.in-Some.ensures (length c.args.channels.now) c.args.offers.now c.requires.listening in
    let there = listener-there c.args.offers.now c.args.device t next.listens in
    let same = l.invariant.to.size in
    let all = are.size in
    let within : t < length l.progress.items = omega (arith, same, all, there) in
    let read = get_or_read l.progress.items t c.index-from.result.now within c.index-from.ensures Complete
    ∙ l.invariant.to.rest t next.behind in
    let bid = ap flattened (get-is c.args.offers.now t c.index-offers-task.result there c.index-offers-task.is) in (
      asked.0,
      subst (λ o. IsAsked c.args.formats.now asked.0 o c.index-from.result.now) bid
          (subst (λ p. IsAsked c.args.formats.now asked.0 (kept_at c.args.offers.now t) p) (sym read) (are.each t)),
      asked.2,
    )

pub last_get-known-requires : goal.last_get-known-requires
last_get-known-requires c =
    let next = c.in-Some.ensures (length c.args.channels.now) c.args.offers.now c.requires.listening in
    known-before c.loop-task.known c.loop-task.after c.in-Some.task c.loop-task.invariant.known next.behind

pub loop-task-smaller : goal.loop-task-smaller
loop-task-smaller c =
    let next = c.in-Some.ensures (length c.args.channels.now) c.args.offers.now c.requires.listening in
    let there = listener-there c.args.offers.now c.args.device c.in-Some.task next.listens in
    fewer-left (length c.args.offers.now) c.loop-task.after c.in-Some.task next.behind there

pub loop-task-preserved : goal.loop-task-preserved
loop-task-preserved c =
    let l = c.loop-task in
    let t = c.in-Some.task in
    let next = c.in-Some.ensures (length c.args.channels.now) c.args.offers.now c.requires.listening in
    let there = listener-there c.args.offers.now c.args.device t next.listens in
    let same = l.invariant.to.size in
    let all = c.requires.asked.1.size in
    let within : t < length l.progress.items = omega (arith, same, all, there) in
    let bid = ap flattened (get-is c.args.offers.now t c.index-offers-task.result there c.index-offers-task.is) in
    record {
      to = asked-next c.args.offers.now c.args.formats.now c.args.channels.now c.args.device c.args.progress.now.items
          l.progress.items l.after t c.asked.result within next l.invariant.to
          (subst (λ o. IsAsked c.args.formats.now c.args.channels.now o c.asked.result) (sym bid) c.asked.ensures);
      known = known-next c.last_get-known.result t c.last_get-known.ensures;
    }

pub returns : goal.returns
returns c =
    asked-all c.args.offers.now c.args.formats.now c.args.channels.now c.args.device c.args.progress.now.items
    c.loop-task.progress.items c.loop-task.after c.requires.asked.1.size
    (c.in_default.ensures (length c.args.channels.now) c.args.offers.now c.requires.listening) c.loop-task.invariant.to
