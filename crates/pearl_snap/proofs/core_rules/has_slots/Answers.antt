use Rattle.std.proofs.Common.{rules, arith, ◌≡◌, ◌+◌, ◌<◌, length, get_or, sym, subst}
use Rattle.std.specs.Prelude.{replicate}
use Rattle.std.specs.List.{AllByRecursion}
use Rattle.pearl_value.specs.WellFormed.{IsValue, IsValueOf}
use Rattle.pearl_snap.proofs.Zips.{Suits, rest_all, behind, short, unlike, alike}
use Rattle.pearl_snap.proofs.core_rules.has_slots.Goals as goal

pub returns-then-rest-count : goal.returns-then-rest-count
returns-then-rest-count c = (
  λ e. cc,
  λ h. absurd (short (λ leaf. leaf.slots) (λ leaf. leaf.kind) IsValueOf c.args.object.now.leaves c.args.slots.now c.loop-leaf.leaf-index c.leaf-item.result c.loop-leaf.rest.now
      (search rules) (search rules) c.loop-leaf.invariant.suits (omega arith) h),
)

pub returns-then-not-are_values_of : goal.returns-then-not-are_values_of
returns-then-not-are_values_of c = (
  λ e. cc,
  λ h. absurd (unlike (λ leaf. leaf.slots) (λ leaf. leaf.kind) IsValueOf c.args.object.now.leaves c.args.slots.now c.loop-leaf.leaf-index c.leaf-item.result c.loop-leaf.rest.now
      (search rules) (search rules) c.loop-leaf.invariant.suits (λ are. let yes = c.are_values_of.ensures.1 are in cc) h),
)

pub loop-leaf-preserved : goal.loop-leaf-preserved
loop-leaf-preserved c =
    let leaves = c.args.object.now.leaves in let i = c.loop-leaf.leaf-index in let leaf = c.leaf-item.result in let rest = c.loop-leaf.rest.now in
    let less : i < length leaves = search rules in
    let is : leaf ≡ get_or leaves i leaf = search rules in
    let next = alike (λ leaf. leaf.slots) (λ leaf. leaf.kind) IsValueOf leaves c.args.slots.now i leaf rest less is c.loop-leaf.invariant.suits c.if-rest-count.false
    (c.are_values_of.ensures.0 c.if-not-are_values_of.false) in
    let are = rest_all IsValue leaf.slots rest c.loop-leaf.invariant.are in
    let e = behind leaf.slots rest in
    record {
      are = subst (AllByRecursion IsValue) (sym e) are;
      suits = subst (Suits (λ leaf. replicate leaf.slots leaf.kind) IsValueOf leaves c.args.slots.now (i + 1)) (sym e) next;
    }
