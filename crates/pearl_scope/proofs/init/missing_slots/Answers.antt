use Rattle.std.proofs.Common.{◌≡◌, ◌++◌, List, map, length, subst}
use Rattle.pearl_value.specs.declared.kind.Kind.{Kind}
use Rattle.pearl_tree.specs.ShownLiterals.{shown_const}
use Rattle.pearl_scope.specs.Constants.{missing_slots}
use Rattle.pearl_scope.specs.Filling.{AreFull, IsAhead, ahead}
use Rattle.pearl_names.specs.Kinds.{kinds_among}
use Rattle.pearl_names.specs.Layout.{slots_of}
use Rattle.pearl_scope.proofs.Filled.{item_slots, item_kinds, item_told}
use Rattle.pearl_scope.proofs.init.missing_slots.Goals as goal

pub returns : goal.returns
returns c = λ leaves has sound.
    let forms = c.args.forms.now in
    let slots = slots_of leaves in
    let init = c.args.init.now in
    let old = c.args.faults.now.items in
    let new = c.tell_misses.new.faults.items in
    let all = c.in_ok-all.all in
    let one = c.in_ok-one.ensures.lists slots (item_slots forms c.args.form leaves has sound) in
    let whole = item_kinds forms c.args.form leaves c.kinds_of-whole.result has c.kinds_of-whole.ensures in
    item_told c.args.names.now leaves init all old new (c.in_ok-all.ensures slots one whole)
    (subst (λ rs. (rest : List Kind) → all.behind ≡ kinds_among rest → AreFull rs → IsAhead rs (record { at = 0; used = 0 }) rest (length init) →
    new ≡ old ++ missing_slots (ahead rs (record { at = 0; used = 0 }) rest) (map shown_const init)) c.as_slice.ensures.value c.in_ok-tell_misses.ensures)
