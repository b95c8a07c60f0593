use Rattle.std.proofs.Common.{◌≡◌, ℕ, ◌+◌, ◌-◌, ◌<◌, List, length, drop, length-set, sym, ap, ◌∙◌, arith}
use Rattle.pearl_value.specs.declared.kind.CellKind.{CellKind}
use Rattle.pearl_verify.specs.Runs.{uniform_front, from_each}
use Rattle.pearl_verify.proofs.Fronts.{each_more}
use Rattle.pearl_verify.proofs.runs.uniform_fronts.Goals as goal

pub cells-preserved : goal.cells-preserved
cells-preserved c =
    let cells : List CellKind = c.args.cells.now in
    let n : ℕ = c.cells.from - 1 in
    let v : ℕ = c.uniform_front-front.result in
    let fronts : List ℕ = c.cells.fronts.items in
    let behind : n + 1 ≡ c.cells.from = omega (arith, c.cells-test.true) in
    let less : n < length cells = omega (arith, behind, c.cells.invariant.0) in
    let rest : drop (n + 1) fronts ≡ from_each uniform_front (drop (n + 1) cells) =
    ap (λ m. drop m fronts) behind ∙ (c.cells.invariant.4 ∙ ap (λ m. from_each uniform_front (drop m cells)) (sym behind)) in (
      omega (arith, less),
      length-set fronts n v ∙ c.cells.invariant.1,
      c.uniform_front-front.ensures.front,
      c.uniform_front-front.ensures.few,
      each_more uniform_front cells fronts n v less c.cells.invariant.1 rest c.uniform_front-front.ensures.front,
    )
