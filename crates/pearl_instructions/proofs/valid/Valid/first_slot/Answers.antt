use Rattle.std.proofs.Common.{◌≡◌, ◌<◌, List, length, subst, sym, ap, ◌∙◌, arith}
use Rattle.std.specs.Prelude.{slice_get, IfSome}
use Rattle.pearl_instructions.specs.declared.object.Leaf.{Leaf}
use Rattle.pearl_instructions.specs.Slots.{IsLeafAt}
use Rattle.pearl_instructions.proofs.SlotTable.{leaf_at, slots_long}
use Rattle.pearl_instructions.proofs.valid.Valid.first_slot.Goals as goal

pub index-requires : goal.index-requires
index-requires c =
    let leaves : List Leaf = c.self.inside.object.leaves in
    let less : c.args.leaf < length leaves = subst (λ o. c.args.leaf < length o.leaves) (sym c.self.view_is) c.requires in
    let long : length c.self.inside.firsts.items ≡ length leaves = ap length c.self.invariant.2 ∙ slots_long 0 leaves in
    omega (arith, less, long, c.self.inside.firsts.ok.0)

pub returns : goal.returns
returns c =
    subst (λ o. IfSome (slice_get o.leaves c.args.leaf) (λ here. IsLeafAt o c.args.leaf here c.index.result.now)) c.self.view_is
    (leaf_at c.self.inside.object c.args.leaf c.self.inside.firsts.items c.index.result.now c.self.invariant.0 c.self.invariant.2
    (subst (λ o. c.args.leaf < length o.leaves) (sym c.self.view_is) c.requires) c.index.ensures)
