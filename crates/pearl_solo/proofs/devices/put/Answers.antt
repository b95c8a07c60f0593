use Rattle.std.proofs.Common.{◌≡◌, ◌≤◌, ◌<◌, [], ◌∷◌, Some, length, take, reverse, refl, sym, ap, ◌∙◌, subst, arith}
use Rattle.pearl_format.specs.Items.{data_count}
use Rattle.pearl_format.specs.Texts.{text_of}
use Rattle.pearl_stack.specs.Frames.{top_operands}
use Rattle.pearl_instructions.specs.Objects.{items_at}
use Rattle.pearl_instructions.specs.Steps.{Offers}
use Rattle.pearl_solo.specs.Texts.{text_offered, HasText}
use Rattle.pearl_solo.proofs.Putting.{puts_row, one_operand, texts_are}
use Rattle.pearl_solo.proofs.devices.put.Goals as goal

pub data_count-count-requires : goal.data_count-count-requires
data_count-count-requires c =
    (texts_are (items_at c.args.code.now c.args.format) c.items_at-items.result.now (top_operands c.args.stack.now.frames) c.items_at-items.ensures c.requires.text).0

pub operand-x-requires-clause-there : goal.operand-x-requires-clause-there
operand-x-requires-clause-there c =
    let are = texts_are (items_at c.args.code.now c.args.format) c.items_at-items.result.now (top_operands c.args.stack.now.frames) c.items_at-items.ensures c.requires.text in
    let there = are.1 in
    omega (arith, there, c.data_count-count.ensures, c.if-count-eq1.true)

pub offer_text-requires : goal.offer_text-requires
offer_text-requires c =
    let xs = top_operands c.args.stack.now.frames in
    let items = c.items_at-items.result.now in
    let are = texts_are (items_at c.args.code.now c.args.format) items xs c.items_at-items.ensures c.requires.text in
    subst (HasText items) (sym (c.from_ref.ensures.value ∙ one_operand xs (data_count items) c.operand-x.result.now (sym c.data_count-count.ensures ∙ c.if-count-eq1.true) c.operand-x.ensures)) are.2

pub offer_texts-requires-clause-there : goal.offer_texts-requires-clause-there
offer_texts-requires-clause-there c =
    let are = texts_are (items_at c.args.code.now c.args.format) c.items_at-items.result.now (top_operands c.args.stack.now.frames) c.items_at-items.ensures c.requires.text in
    subst (λ n. n ≤ length (top_operands c.args.stack.now.frames)) (sym c.data_count-count.ensures) are.1

pub offer_texts-requires-clause-few : goal.offer_texts-requires-clause-few
offer_texts-requires-clause-few c =
    let are = texts_are (items_at c.args.code.now c.args.format) c.items_at-items.result.now (top_operands c.args.stack.now.frames) c.items_at-items.ensures c.requires.text in
    subst (λ n. n ≤ 64) (sym c.data_count-count.ensures) are.0

pub offer_texts-requires-clause-text : goal.offer_texts-requires-clause-text
offer_texts-requires-clause-text c =
    let xs = top_operands c.args.stack.now.frames in
    let are = texts_are (items_at c.args.code.now c.args.format) c.items_at-items.result.now xs c.items_at-items.ensures c.requires.text in
    subst (λ n. HasText c.items_at-items.result.now (reverse (take n xs))) (sym c.data_count-count.ensures) are.2

pub returns-then-count-eq1 : goal.returns-then-count-eq1
returns-then-count-eq1 c =
    let xs = top_operands c.args.stack.now.frames in
    let items = c.items_at-items.result.now in
    let row = puts_row c.args.code.now c.args.device c.args.format c.args.stack.now.frames c.args.stack.now.room items c.items_at-items.ensures c.requires.ready in
    let values = c.from_ref.ensures.value ∙ one_operand xs (data_count items) c.operand-x.result.now (sym c.data_count-count.ensures ∙ c.if-count-eq1.true) c.operand-x.ensures in
    (row.0, row.1 ∙ ap (λ a. Offers a row.0) (ap (λ xs. text_offered c.args.device (text_of items xs)) (sym values) ∙ sym c.offer_text.ensures), refl)

pub returns : goal.returns
returns c =
    let xs = top_operands c.args.stack.now.frames in
    let items = c.items_at-items.result.now in
    let row = puts_row c.args.code.now c.args.device c.args.format c.args.stack.now.frames c.args.stack.now.room items c.items_at-items.ensures c.requires.ready in
    (row.0, row.1 ∙ ap (λ a. Offers a row.0) (ap (λ n. text_offered c.args.device (text_of items (reverse (take n xs)))) (sym c.data_count-count.ensures) ∙ sym c.offer_texts.ensures), refl)
