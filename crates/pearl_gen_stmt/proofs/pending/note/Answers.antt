use Rattle.std.proofs.Common.{List, ℕ, sym, subst}
use Rattle.std.specs.Prelude.{Contains}
use Rattle.std.proofs.lemmas.List.Elements.{Contains-push, Contains-append_left}
use Rattle.pearl_gen_stmt.proofs.pending.note.Goals as goal

pub returns-clause-there : goal.returns-clause-there
returns-clause-there c =
    subst (λ (places : List ℕ). Contains places c.args.place) (sym c.in_ok-push.ensures.items) (Contains-push c.args.places.now.items c.args.place)

pub returns-clause-noted : goal.returns-clause-noted
returns-clause-noted c place at =
    subst (λ (places : List ℕ). Contains places place) (sym c.in_ok-push.ensures.items) (Contains-append_left c.args.places.now.items _ place at)
