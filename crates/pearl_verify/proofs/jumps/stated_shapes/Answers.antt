use Rattle.std.proofs.Common.{◌≡◌, ℕ, ◌+◌, ◌-◌, ◌<◌, ◌≤◌, Option, Some, List, length, drop, slice_get, slice_set, length-set, sym, ap, subst, ◌∙◌, arith}
use Rattle.std.specs.Prelude.{option_map}
use Rattle.pearl_instructions.specs.declared.object.Shape.{Shape as Stated}
use Rattle.pearl_instructions.specs.Valid.{stated}
use Rattle.pearl_verify.specs.Jumps.{shape_of}
use Rattle.pearl_verify.proofs.Tables.{stated_begun, stated_more}
use Rattle.pearl_verify.proofs.jumps.stated_shapes.Goals as goal

pub shapes-init : goal.shapes-init
shapes-init c =
    (omega arith, c.in_ok-numbers.ensures.long, stated_begun c.args.count c.args.shapes.now c.in_ok-numbers.numbers.items c.in_ok-numbers.ensures.none)

pub shapes-preserved : goal.shapes-preserved
shapes-preserved c =
    let ss : List Stated = c.args.shapes.now in
    let n : ℕ = c.shapes.from - 1 in
    let s : Stated = c.index-shapes-from.result in
    let old : List (Option ℕ) = c.shapes.numbers.items in
    let behind : n + 1 ≡ c.shapes.from = omega (arith, c.shapes-test.true) in
    let long : length old ≡ c.args.count = c.shapes.invariant.1 in
    let before : (i : ℕ) → i < length old → option_map (shape_of ss) (slice_get old i) ≡ Some (stated (drop (n + 1) ss) i) =
    λ i less. c.shapes.invariant.2 i (omega (arith, less, long)) ∙ ap (λ m. Some (stated (drop m ss) i)) (sym behind) in
    let noted : c.note.new.numbers.items ≡ slice_set old s.instruction (Some n) =
    c.note.ensures ∙ ap (λ (s : Stated). slice_set old s.instruction (Some n)) (sym c.index-shapes-from.is) in
    let more = stated_more ss old n s (omega (arith, behind, c.shapes.invariant.0)) c.index-shapes-from.is before in
    subst (λ numbers. (n ≤ length ss) × (length numbers ≡ c.args.count)
    × ((i : ℕ) → i < c.args.count → option_map (shape_of ss) (slice_get numbers i) ≡ Some (stated (drop n ss) i))) (sym noted)
    (omega (arith, c.shapes.invariant.0), length-set old s.instruction (Some n) ∙ long, (λ i less. more i (omega (arith, less, long))))
