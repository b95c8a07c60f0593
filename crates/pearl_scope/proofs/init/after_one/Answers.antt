use Rattle.std.proofs.Common.{◌+◌, ◌<◌, refl, subst, sym}
use Rattle.std.proofs.lemmas.Option.{slice_get_read}
use Rattle.pearl_scope.proofs.Filled.{same_run, next_run, used_next, used_none}
use Rattle.pearl_scope.proofs.init.after_one.Goals as goal

pub returns-in-Some-next_used : goal.returns-in-Some-next_used
returns-in-Some-next_used c = λ rest most full is.
    let at : _ = slice_get_read c.args.runs.now _ c.args.spot.at c.in-Some.run'.now refl c.in-Some.ensures.lookup.3.0 c.in-Some.ensures.lookup.1 in
    let next = used_next c.args.spot.used c.in-Some.run'.now.count c.in-Some-next_used.used c.in-Some-next_used.ensures in
    same_run c.args.runs.now c.args.spot c.in-Some-next_used.used most rest c.in-Some.run'.now at next.0 (subst (λ n. n < c.in-Some.run'.now.count) (sym next.0) next.1) is

pub returns-in-None-next_used : goal.returns-in-None-next_used
returns-in-None-next_used c = λ rest most full is.
    let at : _ = slice_get_read c.args.runs.now _ c.args.spot.at c.in-Some.run'.now refl c.in-Some.ensures.lookup.3.0 c.in-Some.ensures.lookup.1 in
    next_run c.args.runs.now c.args.spot (c.args.spot.used + 1) most rest c.in-Some.run'.now full at refl (used_none c.args.spot.used c.in-Some.run'.now.count c.in-None-next_used.ensures) is
