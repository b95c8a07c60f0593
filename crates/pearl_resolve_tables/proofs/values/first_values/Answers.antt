use Rattle.std.proofs.Common.{◌≡◌, map, take, sym, ap, ◌∙◌}
use Rattle.std.proofs.lemmas.List.{take-map}
use Rattle.pearl_program.specs.PlainExpressions.{cell_of}
use Rattle.pearl_tree.specs.ShownLiterals.{shown_const}
use Rattle.pearl_resolve_tables.specs.Laying.{constant_in}
use Rattle.pearl_resolve_tables.proofs.values.first_values.Goals as goal

pub returns : goal.returns
returns c =
    let kind = c.args.kind in
    let xs = c.args.constants.now in
    let same : map cell_of c.new.result ≡ map (constant_in kind) (take c.args.count (map shown_const xs)) =
    ap (map cell_of) c.new.ensures ∙ c.in_ok-values.ensures
    ∙ ap (λ l. map (constant_in kind) (map shown_const l)) c.first_constants.ensures
    ∙ ap (map (constant_in kind)) (sym (take-map shown_const c.args.count xs)) in
    λ i. record { kind = kind; count = c.args.count; constants = same i }
