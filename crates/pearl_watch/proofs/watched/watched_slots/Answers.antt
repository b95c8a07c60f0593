use Rattle.std.proofs.Common.{◌≡◌, ◌∙◌, ◌+◌, ◌≤◌, ◌++◌, false, IfSome, length, map, string_bytes, ap, subst, sym, arith}
use Rattle.std.specs.Prelude.{slice_get}
use Rattle.std.specs.List.{AllByRecursion}
use Rattle.pearl_instructions.specs.Lawful.{IsLeaf}
use borrow.Author.Count.{below_more}
use Rattle.pearl_instructions.specs.Slots.{IsLeafAt}
use Rattle.pearl_watch.specs.Watched.{is_refused, name_at, slots_from}
use Rattle.pearl_watch.proofs.Refusing.{there, short_name, some_slots, pushed, length-pushed}
use Rattle.pearl_watch.proofs.watched.watched_slots.Goals as goal

pub loop-name-preserved : goal.loop-name-preserved
loop-name-preserved c =
    let leaves = c.as_slice-leaves.result.now in
    let names = map string_bytes c.args.names.now in
    let leaf = c.index-leaves-leaf.result in
    let was = c.loop-name.invariant in
    let accepted = c.in-Some.ensures.leaf in
    let here = there leaves c.in-Some.leaf leaf accepted.1 c.index-leaves-leaf.is in
    let same = c.as_slice-leaves.ensures ∙ ap (λ o. o.leaves) c.object.ensures.value in
    let all = subst (λ ls. AllByRecursion IsLeaf ls) (sym c.as_slice-leaves.ensures) c.object.ensures.object.leaves in
    let at : IsLeafAt c.args.object.now c.in-Some.leaf leaf c.first_slot.result =
    subst (λ o. IfSome o (λ l. IsLeafAt c.args.object.now c.in-Some.leaf l c.first_slot.result)) (ap (λ ls. slice_get ls c.in-Some.leaf) (sym same) ∙ here)
    c.first_slot.ensures in
    let fits : c.len.result + leaf.slots ≤ 1024 =
    subst (λ o. IfSome o (λ l. c.len.result + l.slots ≤ 1024)) here c.in-Some.ensures.fits in
    let added : c.push_slots.new.watched.items ≡ c.loop-name.watched.items ++ slots_from c.loop-name.name c.first_slot.result leaf.slots =
    c.in_ok-push_slots.ensures ∙ ap (λ l. c.loop-name.watched.items ++ slots_from c.loop-name.name c.first_slot.result l.slots) (sym c.index-leaves-leaf.is) in
    let long = length-pushed c.loop-name.name c.first_slot.result leaf c.loop-name.watched.items c.push_slots.new.watched.items added in
    record {
      watched = pushed leaves c.args.object.now.leaves names c.loop-name.name c.in-Some.leaf c.first_slot.result leaf c.loop-name.watched.items
          c.push_slots.new.watched.items same accepted.2 here at.number was.watched added;
      few = omega (arith, fits, long, c.len.ensures);
      counted = let some = some_slots leaves c.in-Some.leaf leaf all here in omega (arith, long, some, was.counted);
      accepted = below_more (λ n. is_refused leaves names n ≡ false) c.loop-name.name was.accepted accepted.0;
      short = below_more (λ n. length (name_at names n) ≤ 1024) c.loop-name.name was.short
          (short_name leaves (name_at names c.loop-name.name) c.in-Some.leaf leaf all accepted.2 here);
    }
