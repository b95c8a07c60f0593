use Rattle.std.proofs.Common.{◌≡◌, true, false, true≢false, [], Some, None, sym, subst, ◌∙◌, arith}
use Rattle.pearl_resolve_tables.specs.Walks.{PassesAlike}
use Rattle.pearl_resolve_tables.proofs.Merging.{Alike, alike_first, alike_more, alike_all, alike_apart}
use Rattle.pearl_resolve_tables.proofs.filling.Filling.pass_alike.Goals as goal

pub loop-leaf-init : goal.loop-leaf-init
loop-leaf-init c =
    let before = c.args.self.now in
    let after = c.pass.new.self in
    record {
      slots = c.in_ok-pass.ensures.slots;
      alike = λ leaves at.
          alike_first c.args.forms.now c.args.found after.next before.frames.items after.frames.items before.name.items after.name.items leaves at
          (c.in_ok-pass.ensures.goes []);
    }

pub loop-leaf-preserved : goal.loop-leaf-preserved
loop-leaf-preserved c =
    let forms = c.args.forms.now in
    let of = c.args.found.kind in
    let l = c.loop-leaf in
    let before = l.self in
    let after = c.pass-in-loop-leaf.new.self in
    let sums = c.in_ok-count.ensures in
    let was = l.invariant.slots in
    let more = c.in_ok-pass-2.ensures.slots in
    record {
      slots = omega (arith, sums, was, more);
      alike = λ leaves at.
          alike_more forms of l.count c.in_ok-count.count c.in-Some.next after.next before.frames.items after.frames.items before.name.items after.name.items leaves
          (subst (λ n. Alike forms of l.count n before.frames.items before.name.items leaves) c.in-Some.is (l.invariant.alike leaves at))
          (c.is_same_kind.ensures.0 c.if-not-is_same_kind.false) sums (c.in_ok-pass-2.ensures.goes []);
    }

pub returns-in-None-clause-passes : goal.returns-in-None-clause-passes
returns-in-None-clause-passes c = λ leaves at.
    let forms = c.args.forms.now in
    let of = c.args.found.kind in
    let l = c.loop-leaf in
    let here = l.self in
    subst (λ n. PassesAlike forms of l.count n here.frames.items here.name.items leaves) (sym c.in-None.is)
    (alike_all forms of l.count here.frames.items here.name.items leaves
    (subst (λ n. Alike forms of l.count n here.frames.items here.name.items leaves) c.in-None.is (l.invariant.alike leaves at)))

pub returns-then-not-is_same_kind-clause-passes : goal.returns-then-not-is_same_kind-clause-passes
returns-then-not-is_same_kind-clause-passes c = λ leaves at.
    let forms = c.args.forms.now in
    let of = c.args.found.kind in
    let l = c.loop-leaf in
    let here = l.self in
    subst (λ n. PassesAlike forms of l.count n here.frames.items here.name.items leaves) (sym c.in-Some.is)
    (alike_apart forms of l.count c.in-Some.next here.frames.items here.name.items leaves
    (subst (λ n. Alike forms of l.count n here.frames.items here.name.items leaves) c.in-Some.is (l.invariant.alike leaves at))
    (λ same. true≢false (sym (c.is_same_kind.ensures.1 same) ∙ c.if-not-is_same_kind.true)))
