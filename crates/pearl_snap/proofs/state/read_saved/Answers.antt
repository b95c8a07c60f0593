use Rattle.std.proofs.Common.{refl}
use Rattle.pearl_snap.specs.States.{saved}
use Rattle.pearl_snap.proofs.state.read_saved.Goals as goal

pub returns : goal.returns
unfolding saved
returns c =
    let lists = c.in_ok-lists.ensures in
    rw (c.in_ok-moment.ensures, c.in_ok-clock.ensures, c.in_ok-last.ensures, c.in_ok-slots.ensures, c.in_ok-counts.ensures, c.in_ok-switches.ensures, c.in_ok-terminals.ensures, c.in_ok-inputs.ensures, lists.1, lists.2, lists.3) refl
