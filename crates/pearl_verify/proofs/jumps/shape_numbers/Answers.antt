use Rattle.std.proofs.Common.{◌≡◌, ℕ, ◌+◌, ◌∷◌, ◌++◌, [], List, Some, take, reverse, sym, ap, subst, ◌∙◌}
use Rattle.std.proofs.lemmas.Grind.{take_at_read}
use Rattle.pearl_instructions.specs.declared.object.Shape.{Shape as Stated}
use Rattle.pearl_verify.specs.Jumps.{AreNumbered}
use Rattle.pearl_verify.specs.Numbers.{Edges, number_of}
use Rattle.pearl_verify.proofs.Tables.{numbers_more, numbers_stay}
use Rattle.pearl_verify.proofs.jumps.shape_numbers.Goals as goal

pub loop-shape-preserved : goal.loop-shape-preserved
loop-shape-preserved c =
    let ss : List Stated = c.args.shapes.now in
    let i : ℕ = c.loop-shape.shape-index in
    let s : Stated = c.shape-item.result in
    let edges : Edges = c.add.new.self.edges in
    let behind : take (i + 1) ss ≡ take i ss ++ s ∷ [] =
    (take_at_read ss i s c.loop-shape-test.true).1 ∙ ap (λ (x : Stated). take i ss ++ x ∷ []) (sym c.shape-item.is) in
    let number : number_of edges (reverse s.kinds) ≡ Some c.in_ok-add.field-0 = ap (λ ks. number_of edges (reverse ks)) (sym c.as_slice.ensures) ∙ c.in_ok-add.ensures.number in
    let more = numbers_more edges (take i ss) c.loop-shape.numbers.items s c.in_ok-add.field-0
    (numbers_stay c.loop-shape.tree.edges edges (take i ss) c.loop-shape.numbers.items c.in_ok-add.ensures.grows c.loop-shape.invariant.1) number in (
      c.in_ok-add.ensures.tree,
      subst (λ xs. AreNumbered edges xs c.push.new.self.items) (sym behind)
          (subst (λ ns. AreNumbered edges (take i ss ++ s ∷ []) ns) (sym c.in_ok-push.ensures.items) more),
    )
