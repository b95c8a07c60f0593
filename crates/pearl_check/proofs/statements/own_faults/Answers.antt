use Rattle.std.proofs.Common.{◌≡◌, ◌++◌, [], ap, sym, ◌∙◌, append-nil}
use Rattle.pearl_tree.specs.ShownStatements.{ShownStmt, shown_stmt}
use Rattle.pearl_names.proofs.Offered.{if_shown, case_shown}
use Rattle.pearl_scope.specs.Placed.{placed_at}
use Rattle.pearl_check.specs.Routines.{shown_sort}
use Rattle.pearl_check.specs.Rules.{own_faults}
use Rattle.pearl_check.proofs.FoundParts.{of_assign, of_return, of_put, of_get, of_send, of_take, tells_at, tells_assign, tells_return, tells_put, tells_get, tells_send, tells_take}
use Rattle.pearl_check.proofs.statements.own_faults.Goals as goal

pub returns-in-If : goal.returns-in-If
returns-in-If c = λ table holds found.
    let place = c.args.place.now in
    let none : own_faults table (shown_sort c.args.sort) (placed_at place) ≡ [] =
    ap (λ (s : ShownStmt). own_faults table (shown_sort c.args.sort) (record { spot = place.spot; next = place.next; statement = s })) (ap shown_stmt c.in-If.is ∙ if_shown c.in-If.field-0) in
    sym (append-nil c.args.faults.now.items) ∙ ap (λ t. c.args.faults.now.items ++ t) (sym none)

pub returns-in-Case : goal.returns-in-Case
returns-in-Case c = λ table holds found.
    let place = c.args.place.now in
    let none : own_faults table (shown_sort c.args.sort) (placed_at place) ≡ [] =
    ap (λ (s : ShownStmt). own_faults table (shown_sort c.args.sort) (record { spot = place.spot; next = place.next; statement = s })) (ap shown_stmt c.in-Case.is ∙ case_shown c.in-Case.field-0) in
    sym (append-nil c.args.faults.now.items) ∙ ap (λ t. c.args.faults.now.items ++ t) (sym none)

-- The statements that go by what was found of their parts.

pub returns-in_ok-s24_of-in-Assign : goal.returns-in_ok-s24_of-in-Assign
returns-in_ok-s24_of-in-Assign c = λ table holds.
    let place = c.args.place.now in
    tells_at table (shown_sort c.args.sort) c.args.findings.now c.args.faults.now.items _ place.spot place.next of_assign (shown_stmt place.stmt.now)
    c.in-Assign.part.value c.deref.result.now (ap shown_stmt c.in-Assign.is) c.deref.ensures
    (tells_assign table (shown_sort c.args.sort) c.args.findings.now c.args.faults.now.items _ place.spot place.next c.deref.result.now c.in_ok-s24_of-in-Assign.ensures)

pub returns-in_ok-s27_of-in-Return : goal.returns-in_ok-s27_of-in-Return
returns-in_ok-s27_of-in-Return c = λ table holds.
    let place = c.args.place.now in
    tells_at table (shown_sort c.args.sort) c.args.findings.now c.args.faults.now.items _ place.spot place.next of_return (shown_stmt place.stmt.now)
    c.in-Return.part.value c.deref-in-Return.result.now (ap shown_stmt c.in-Return.is) c.deref-in-Return.ensures
    (tells_return table (shown_sort c.args.sort) c.args.findings.now c.args.faults.now.items _ place.spot place.next c.deref-in-Return.result.now (λ from. c.in_ok-s27_of-in-Return.ensures table place.spot.scope holds from))

pub returns-in_ok-put_faults-in-Put : goal.returns-in_ok-put_faults-in-Put
returns-in_ok-put_faults-in-Put c = λ table holds.
    let place = c.args.place.now in
    tells_at table (shown_sort c.args.sort) c.args.findings.now c.args.faults.now.items _ place.spot place.next of_put (shown_stmt place.stmt.now)
    c.in-Put.part.value c.deref-in-Put.result.now (ap shown_stmt c.in-Put.is) c.deref-in-Put.ensures
    (tells_put table (shown_sort c.args.sort) c.args.findings.now c.args.faults.now.items _ place.spot place.next c.deref-in-Put.result.now (c.in_ok-put_faults-in-Put.ensures table holds))

pub returns-in_ok-get_faults-in-Get : goal.returns-in_ok-get_faults-in-Get
returns-in_ok-get_faults-in-Get c = λ table holds.
    let place = c.args.place.now in
    tells_at table (shown_sort c.args.sort) c.args.findings.now c.args.faults.now.items _ place.spot place.next of_get (shown_stmt place.stmt.now)
    c.in-Get.part.value c.deref-in-Get.result.now (ap shown_stmt c.in-Get.is) c.deref-in-Get.ensures
    (tells_get table (shown_sort c.args.sort) c.args.findings.now c.args.faults.now.items _ place.spot place.next c.deref-in-Get.result.now (c.in_ok-get_faults-in-Get.ensures table holds))

pub returns-in_ok-s32_of_send-in-Send : goal.returns-in_ok-s32_of_send-in-Send
returns-in_ok-s32_of_send-in-Send c = λ table holds.
    let place = c.args.place.now in
    tells_at table (shown_sort c.args.sort) c.args.findings.now c.args.faults.now.items _ place.spot place.next of_send (shown_stmt place.stmt.now)
    c.in-Send.part.value c.deref-in-Send.result.now (ap shown_stmt c.in-Send.is) c.deref-in-Send.ensures
    (tells_send table (shown_sort c.args.sort) c.args.findings.now c.args.faults.now.items _ place.spot place.next c.deref-in-Send.result.now (c.in_ok-s32_of_send-in-Send.ensures table holds))

pub returns-in_ok-s32_of_take-in-Take : goal.returns-in_ok-s32_of_take-in-Take
returns-in_ok-s32_of_take-in-Take c = λ table holds.
    let place = c.args.place.now in
    tells_at table (shown_sort c.args.sort) c.args.findings.now c.args.faults.now.items _ place.spot place.next of_take (shown_stmt place.stmt.now)
    c.in-Take.part.value c.deref-in-Take.result.now (ap shown_stmt c.in-Take.is) c.deref-in-Take.ensures
    (tells_take table (shown_sort c.args.sort) c.args.findings.now c.args.faults.now.items _ place.spot place.next c.deref-in-Take.result.now (c.in_ok-s32_of_take-in-Take.ensures table holds))
