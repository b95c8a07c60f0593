use Rattle.std.proofs.Common.{◌+◌, refl, sym, ap, ◌∙◌}
use Rattle.std.proofs.lemmas.Option.{slice_get_read}
use Rattle.pearl_tree.specs.ShownLiterals.{shown_const}
use Rattle.std.proofs.lemmas.List.{take_rest}
use Rattle.std.specs.List.{list_all}
use Rattle.pearl_names.specs.declared.slots.Run.{Run}
use Rattle.pearl_scope.specs.Constants.{fits_kind, misses}
use Rattle.pearl_scope.specs.Filling.{ahead, taken}
use Rattle.pearl_scope.proofs.Filled.{misses_first, fits_first, fits_last}
use Rattle.pearl_scope.proofs.init.misses.Goals as goal

pub returns-then-not-fits_kind : goal.returns-then-not-fits_kind
returns-then-not-fits_kind c = λ rest behind full is.
    let at : _ = slice_get_read c.args.runs.now _ c.args.spot.at c.in-Some.run'.now refl c.in-Some.ensures.lookup.3.0 c.in-Some.ensures.lookup.1 in
    misses_first (shown_const c.args.constant.now) c.args.is_last c.args.runs.now c.args.spot rest c.in-Some.run'.now at is (sym c.fits_kind.ensures ∙ c.if-not-fits_kind.true)

pub returns-then-not-is_last : goal.returns-then-not-is_last
returns-then-not-is_last c = λ rest behind full is.
    let constant = shown_const c.args.constant.now in
    let at : _ = slice_get_read c.args.runs.now _ c.args.spot.at c.in-Some.run'.now refl c.in-Some.ensures.lookup.3.0 c.in-Some.ensures.lookup.1 in
    fits_first constant c.args.runs.now c.args.spot rest c.in-Some.run'.now at is (sym c.fits_kind.ensures ∙ c.if-not-fits_kind.false)
    ∙ ap (λ b. misses constant (taken b (ahead c.args.runs.now c.args.spot rest))) (sym c.if-not-is_last.true)

pub returns-else-not-is_last : goal.returns-else-not-is_last
returns-else-not-is_last c = λ rest behind full is.
    let constant = shown_const c.args.constant.now in
    let at : _ = slice_get_read c.args.runs.now _ c.args.spot.at c.in-Some.run'.now refl c.in-Some.ensures.lookup.3.0 c.in-Some.ensures.lookup.1 in
    fits_last constant c.args.runs.now c.args.spot c.args.behind rest c.in-Some.run'.now c.fits_runs.result c.fits_kinds.result full at is (sym c.fits_kind.ensures ∙ c.if-not-fits_kind.false)
    (c.fits_runs.ensures ∙ ap (list_all (λ (r : Run). fits_kind constant r.kind)) (take_rest c.args.runs.now (c.args.spot.at + 1))) (c.fits_kinds.ensures rest behind)
    ∙ ap (λ b. misses constant (taken b (ahead c.args.runs.now c.args.spot rest))) (sym c.if-not-is_last.false)
