use Rattle.std.proofs.Common.{◌≡◌, ◌++◌, ap, subst, ◌∙◌, append_assoc}
use Rattle.std.specs.List.{flat_map}
use Rattle.pearl_scope.specs.Placed.{placed_at}
use Rattle.pearl_check.specs.Asked.{asked_at, asked_in}
use Rattle.pearl_check.specs.Findings.{AreFound}
use Rattle.pearl_check.specs.Roles.{asked_faults}
use Rattle.pearl_check.specs.Routines.{shown_sort}
use Rattle.pearl_check.specs.Rules.{own_faults}
use Rattle.pearl_check.proofs.AskedLists.{asked_in-nil}
use Rattle.pearl_check.proofs.rules.statement_faults_at.Goals as goal

pub returns : goal.returns
returns c = λ table holds.
    let at = asked_at (placed_at c.args.place.now) in
    let all : asked_in c.as_slice.result.now ≡ at =
    ap asked_in c.as_slice.ensures.value ∙ c.in_ok-add_asked.ensures ∙ ap (λ t. t ++ at) (ap asked_in c.new-asked.ensures.items ∙ asked_in-nil) in
    let own = own_faults table (shown_sort c.args.sort) (placed_at c.args.place.now) in
    c.in_ok-own_faults.ensures table holds (subst (AreFound table c.in_ok-findings.findings) all (c.in_ok-findings.ensures.found table holds))
    ∙ ap (λ t. t ++ own) (c.in_ok-findings.ensures.faults table holds ∙ ap (λ t. c.args.faults.now.items ++ flat_map (asked_faults table) t) all)
    ∙ append_assoc c.args.faults.now.items (flat_map (asked_faults table) at) own
