use Rattle.std.proofs.Common.{◌≡◌, ◌+◌, ◌*◌, ◌≤◌, ◌∷◌, suc, Some, length, take, reverse, slice_get, sym, ap, ◌∙◌, subst, arith, rules}
use Rattle.pearl_stack.specs.Frames.{top_operands}
use Rattle.pearl_instructions.specs.Valid.{extent, elements}
use Rattle.pearl_silent.specs.Indices.{top_in_order}
use Rattle.pearl_silent.proofs.InOrder.{reverse_last}
use Rattle.pearl_silent.proofs.Indexed.{left_of}
use Rattle.pearl_silent.proofs.indices.+offset_from.Goals as goal

pub overflow_mul-so_far : goal.overflow_mul-so_far
overflow_mul-so_far t c =
    let operands = top_operands c.args.stack.now.frames in
    let others = c.in-Some.others.now in
    let long : length c.args.bounds.now ≡ suc (length others) = ap length c.in-Some.ensures.cases.0 in
    let at : slice_get operands (length others) ≡ Some c.top-x.result.now = c.top-x.ensures in
    let xs : top_in_order (length c.args.bounds.now) c.args.stack.now.frames ≡ c.top-x.result.now ∷ top_in_order (length others) c.args.stack.now.frames =
    ap (λ n. reverse (take n operands)) long ∙ reverse_last operands (length others) c.top-x.result.now at in
    let left = left_of c.args.so_far c.in_ok-far.far c.args.bounds.now c.in-Some.pair.now others (top_in_order (length c.args.bounds.now) c.args.stack.now.frames) c.top-x.result.now
    (top_in_order (length others) c.args.stack.now.frames) c.in-Some.ensures.cases.0 xs c.requires.ordered c.requires.few c.requires.numbers (sym c.distance.ensures ∙ c.in_ok-far.was) in
    let size : c.args.so_far * c.extent.result ≡ c.args.so_far * extent c.in-Some.pair.now = ap (λ k. c.args.so_far * k) c.extent.ensures in
    omega (arith, left.small, size)

pub overflow_add-so_far : goal.overflow_add-so_far
overflow_add-so_far t c =
    let operands = top_operands c.args.stack.now.frames in
    let others = c.in-Some.others.now in
    let long : length c.args.bounds.now ≡ suc (length others) = ap length c.in-Some.ensures.cases.0 in
    let at : slice_get operands (length others) ≡ Some c.top-x.result.now = c.top-x.ensures in
    let xs : top_in_order (length c.args.bounds.now) c.args.stack.now.frames ≡ c.top-x.result.now ∷ top_in_order (length others) c.args.stack.now.frames =
    ap (λ n. reverse (take n operands)) long ∙ reverse_last operands (length others) c.top-x.result.now at in
    let left = left_of c.args.so_far c.in_ok-far.far c.args.bounds.now c.in-Some.pair.now others (top_in_order (length c.args.bounds.now) c.args.stack.now.frames) c.top-x.result.now
    (top_in_order (length others) c.args.stack.now.frames) c.in-Some.ensures.cases.0 xs c.requires.ordered c.requires.few c.requires.numbers (sym c.distance.ensures ∙ c.in_ok-far.was) in
    let size : c.args.so_far * c.extent.result ≡ c.args.so_far * extent c.in-Some.pair.now = ap (λ k. c.args.so_far * k) c.extent.ensures in
    omega (arith, left.small, size)

pub offset_from-requires : goal.offset_from-requires
offset_from-requires t c =
    let operands = top_operands c.args.stack.now.frames in
    let others = c.in-Some.others.now in
    let long : length c.args.bounds.now ≡ suc (length others) = ap length c.in-Some.ensures.cases.0 in
    let at : slice_get operands (length others) ≡ Some c.top-x.result.now = c.top-x.ensures in
    let xs : top_in_order (length c.args.bounds.now) c.args.stack.now.frames ≡ c.top-x.result.now ∷ top_in_order (length others) c.args.stack.now.frames =
    ap (λ n. reverse (take n operands)) long ∙ reverse_last operands (length others) c.top-x.result.now at in
    let left = left_of c.args.so_far c.in_ok-far.far c.args.bounds.now c.in-Some.pair.now others (top_in_order (length c.args.bounds.now) c.args.stack.now.frames) c.top-x.result.now
    (top_in_order (length others) c.args.stack.now.frames) c.in-Some.ensures.cases.0 xs c.requires.ordered c.requires.few c.requires.numbers (sym c.distance.ensures ∙ c.in_ok-far.was) in
    let size : c.args.so_far * c.extent.result ≡ c.args.so_far * extent c.in-Some.pair.now = ap (λ k. c.args.so_far * k) c.extent.ensures in (
      search rules,
      (
        omega (arith, long, c.requires.dimensions),
        (omega (arith, long, c.requires.there), (left.ordered, (subst (λ k. (k + c.in_ok-far.far + 1) * elements others ≤ 65536) (sym size) left.few, left.numbers))),
      ),
    )
