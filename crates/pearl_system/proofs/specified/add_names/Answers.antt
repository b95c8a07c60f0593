use Rattle.std.proofs.Common.{◌≡◌, ◌+◌, ◌++◌, ◌∷◌, [], map, take, append_assoc, ap, sym, ◌∙◌}
use Rattle.std.proofs.lemmas.List.{map-append, take_more}
use Rattle.pearl_system.specs.Specified.{as_form}
use Rattle.pearl_system.proofs.specified.add_names.Goals as goal

pub loop-name-preserved : goal.loop-name-preserved
loop-name-preserved c =
    let i = c.loop-name.name-index in
    let names = c.args.names.now in
    let name = c.name-item.result in
    let form = c.args.form in
    let old = c.args.into.now.items in
    let before = map (as_form form) (take i names) in
    let cut : take (i + 1) names ≡ take i names ++ name ∷ [] = take_more names i name c.loop-name-test.true ∙ ap (λ s. take i names ++ s ∷ []) (sym c.name-item.is) in
    let all : map (as_form form) (take (i + 1) names) ≡ before ++ as_form form name ∷ [] =
    ap (map (as_form form)) cut ∙ map-append (as_form form) (take i names) (name ∷ []) in
    c.in_ok-push.ensures.items ∙ ap (λ s. s ++ c.as_form.result ∷ []) c.loop-name.invariant ∙ ap (λ s. (old ++ before) ++ s ∷ []) c.as_form.ensures
    ∙ append_assoc old before (as_form form name ∷ []) ∙ ap (λ s. old ++ s) (sym all)
