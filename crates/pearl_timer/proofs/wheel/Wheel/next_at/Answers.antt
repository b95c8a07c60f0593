use Rattle.std.proofs.Common.{◌<◌, Option, ℕ, List, sym, subst}
use Rattle.std.specs.Prelude.{◌≡◌, Some, None, slice_index_or}
use Rattle.pearl_timer.specs.Wheel.{Moments}
use Rattle.pearl_timer.proofs.WheelLaws.{placed_there}
use Rattle.pearl_timer.proofs.wheel.Wheel.next_at.Goals as goal

pub next_with-requires-clause-here : goal.next_with-requires-clause-here
next_with-requires-clause-here c key kept =
    let ahead : c.self.inside.elapsed < c.args.when = subst (λ (w : Moments). w.elapsed < c.args.when) (sym c.self.view_is) c.requires.ahead in
    placed_there c.self.inside.elapsed c.self.inside.places c.self.inside.moments.items c.self.invariant.sound c.args.when c.place_for-place.result ahead c.place_for-place.ensures key
    (subst (λ (moments : List (Option ℕ)). slice_index_or moments key None ≡ Some c.args.when) c.as_slice.ensures.value kept)
