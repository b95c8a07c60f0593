use Rattle.std.proofs.Common.{◌≡◌, ◌-◌, min, map, take, drop, length, length-drop, sym, ap, ◌∙◌, arith}
use Rattle.std.proofs.Math.Seq.{take-length}
use Rattle.std.proofs.lemmas.List.{drop-map, length-map}
use Rattle.pearl_tree.specs.ShownLiterals.{shown_const}
use Rattle.pearl_resolve_tables.proofs.values.left_behind.Goals as goal

pub returns : goal.returns
returns c =
    let xs = c.args.constants.now in
    let n = c.min.result in
    let all : take (length xs - n) (drop n xs) ≡ drop n xs = ap (λ k. take k (drop n xs)) (sym (length-drop n xs)) ∙ take-length (drop n xs) in
    let long : length (map shown_const xs) ≡ length xs = length-map xs shown_const in
    let same : n ≡ min c.args.count (length (map shown_const xs) - 1) = omega arith in
    ap (map shown_const) all ∙ sym (drop-map shown_const n xs) ∙ ap (λ k. drop k (map shown_const xs)) same
