-- The weights of procedures in order, one more at a time.
use Rattle.std.proofs.Common.{◌≡◌, ℕ, ◌+◌, ◌<◌, List, [], ◌∷◌, ◌++◌, length, get_or, drop, map, sym, ap, ◌∙◌}
use Rattle.pearl_program.specs.declared.program.Procedure.{Procedure}
use Rattle.pearl_program.specs.PlainPrograms.{plain_procedure}
use Rattle.pearl_program.specs.Weights.{weight, weights_behind}
use Rattle.pearl_generate.proofs.Sums.{one_left}

pub weights_more : (xs : List Procedure) (i : ℕ) (x : Procedure) (before seen new whole : List ℕ) (own : ℕ) → i < length xs → x ≡ get_or xs i x →
    seen ≡ before → own ≡ weight seen (plain_procedure x).routine → new ≡ before ++ own ∷ [] →
    weights_behind before (map plain_procedure (drop i xs)) ≡ whole → weights_behind new (map plain_procedure (drop (i + 1) xs)) ≡ whole
weights_more xs i x before seen new whole own inside is same is_own added h =
    let by_before : own ≡ weight before (plain_procedure x).routine = is_own ∙ ap (λ s. weight s (plain_procedure x).routine) same in
    ap (λ b. weights_behind b (map plain_procedure (drop (i + 1) xs))) (added ∙ ap (λ n. before ++ n ∷ []) by_before) ∙
    (sym (ap (λ l. weights_behind before (map plain_procedure l)) (one_left xs i x inside is)) ∙ h)
