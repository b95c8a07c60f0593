use Rattle.std.proofs.Common.{None, option_map, map, List, ℤ, ◌≡◌, sym, ap, subst, ◌∙◌, take, drop, refl, ◌+◌}
use Rattle.pearl_names.specs.Forms.{pair_of, Matches, IsForm, StandsFor, FieldsStand, append_fields}
use Rattle.pearl_names.specs.Chains.{only_end}
use Rattle.pearl_names.specs.Leaps.{LeapStands}
use Rattle.pearl_names.specs.Forming.{Made, around_of, struct_shape}
use Rattle.pearl_tree.specs.ShownDeclarations.{shown_names, shown_typing}
use Rattle.pearl_tree.specs.Names.{names_of}
use Rattle.pearl_names.specs.Lengths.{kind_of_basic}
use Rattle.pearl_names.specs.Shapes.{Shape, OfKind, Fields, NoField, with_fields, shape_of, sound_bounds}
use Rattle.pearl_names.proofs.Lists.{one_taken, all_taken, cut_at}
use Rattle.pearl_names.proofs.FieldsMade.{kept_on_err, made_none, made_more, unsized, unshaped, renamed, kept, grows_more, all_match_more, basic_matches, struct_shown}
use Rattle.pearl_names.proofs.forms.«+form».Goals as goal

pub form_of_struct-loop-field-init : goal.form_of_struct-loop-field-init
form_of_struct-loop-field-init t c = made_none _ _ _ _ c.new.ensures.empty refl

pub form_of_struct-loop-field-preserved : goal.form_of_struct-loop-field-preserved
form_of_struct-loop-field-preserved t c =
    let fields = c.as_slice-field-items.result.now in
    let i = c.loop-field.field-index in
    let around = around_of c.args.scopes.now c.args.lengths.now c.args.scope in
    let own = c.in-Some.own.items in
    let built = c.loop-field.form in
    let now = c.add_written.new.form in
    rw (← c.as_slice-field-items.ensures) (subst (Made c.args.forms.now.items c.form_of.new.forms.items c.args.named.now around now)
    (sym (one_taken fields i c.field-item.result c.loop-field-test.true c.field-item.is))
    (made_more c.args.forms.now.items c.loop-field.forms.items c.form_of.new.forms.items c.args.named.now around built now (take i fields) c.field-item.result
    own c.in-Some-2.part (rw c.as_slice-field-items.ensures c.loop-field.invariant) c.in_ok-part.ensures.grows
    (λ shapes all. subst (λ p. Matches c.form_of.new.forms.items p (shape_of (around shapes) (shown_typing c.field-item.result.typing))) c.in-Some-2.is (c.in_ok-part.ensures.form shapes all))
    (ap (option_map (λ found. map pair_of found.items)) (sym c.in-Some.is) ∙ c.in_ok-own.ensures ∙ ap sound_bounds c.as_slice.ensures)
    (λ before h. c.in_ok-add_written.ensures.fresh before h c.if-not-branch.false)
    (subst (λ l. (fs : Fields) (bounds : List (ℤ × ℤ)) (shape : Shape) → IsForm l built fs → map pair_of own ≡ bounds → StandsFor l c.in-Some-2.part shape →
    IsForm l now (append_fields fs (with_fields (names_of (shown_names c.field-item.result.names)) bounds shape NoField))) c.as_slice-in-loop-field.ensures.value
    (λ fs bounds shape is same h.
    c.in_ok-add_written.ensures.added fs bounds shape c.if-not-branch.false is (ap (map pair_of) c.as_slice-in-loop-field-2.ensures.value ∙ same) h))))

pub form_of_struct-returns-in-None-clause-form : goal.form_of_struct-returns-in-None-clause-form
form_of_struct-returns-in-None-clause-form t c = λ shapes all.
    let fields = c.as_slice-field-items.result.now in
    let i = c.loop-field.field-index in
    let around = around_of c.args.scopes.now c.args.lengths.now c.args.scope shapes in
    rw (← c.as_slice-field-items.ensures) (subst (λ l. Matches c.loop-field.forms.items None (struct_shape around l)) (cut_at fields i c.field-item.result c.loop-field-test.true c.field-item.is)
    (unsized c.loop-field.forms.items around (take i fields) (drop (i + 1) fields) c.field-item.result
    (ap (option_map (λ found. map pair_of found.items)) (sym c.in-None.is) ∙ c.in_ok-own.ensures ∙ ap sound_bounds c.as_slice.ensures)))

pub form_of_struct-returns-in-None-2-clause-grows : goal.form_of_struct-returns-in-None-2-clause-grows
form_of_struct-returns-in-None-2-clause-grows t c = grows_more _ _ _ c.loop-field.invariant.grows c.in_ok-part.ensures.grows

pub form_of_struct-returns-then-not-branch-clause-grows : goal.form_of_struct-returns-then-not-branch-clause-grows
form_of_struct-returns-then-not-branch-clause-grows t c = grows_more _ _ _ c.loop-field.invariant.grows c.in_ok-part.ensures.grows

pub form_of_struct-returns-in-None-2-clause-form : goal.form_of_struct-returns-in-None-2-clause-form
form_of_struct-returns-in-None-2-clause-form t c = λ shapes all.
    let fields = c.as_slice-field-items.result.now in
    let i = c.loop-field.field-index in
    let around = around_of c.args.scopes.now c.args.lengths.now c.args.scope shapes in
    rw (← c.as_slice-field-items.ensures) (subst (λ l. Matches c.form_of.new.forms.items None (struct_shape around l)) (cut_at fields i c.field-item.result c.loop-field-test.true c.field-item.is)
    (unshaped c.form_of.new.forms.items around (take i fields) (drop (i + 1) fields) c.field-item.result
    (subst (λ p. Matches c.form_of.new.forms.items p (shape_of around (shown_typing c.field-item.result.typing))) c.in-None-2.is
    (c.in_ok-part.ensures.form shapes (all_match_more _ _ _ shapes c.loop-field.invariant.grows all)))))

pub form_of_struct-returns-then-not-branch-clause-form : goal.form_of_struct-returns-then-not-branch-clause-form
form_of_struct-returns-then-not-branch-clause-form t c = λ shapes all.
    let fields = c.as_slice-field-items.result.now in
    let i = c.loop-field.field-index in
    let arounds = around_of c.args.scopes.now c.args.lengths.now c.args.scope in
    rw (← c.as_slice-field-items.ensures) (subst (λ l. Matches c.form_of.new.forms.items None (struct_shape (arounds shapes) l)) (cut_at fields i c.field-item.result c.loop-field-test.true c.field-item.is)
    (renamed c.args.forms.now.items c.loop-field.forms.items c.form_of.new.forms.items c.args.named.now arounds c.loop-field.form (arounds shapes) (take i fields) (drop (i + 1) fields) c.field-item.result
    (rw c.as_slice-field-items.ensures c.loop-field.invariant) (λ before h. c.in_ok-add_written.ensures.twice before h c.if-not-branch.true)))

pub form_of_struct-returns-clause-form : goal.form_of_struct-returns-clause-form
form_of_struct-returns-clause-form t c = λ shapes all.
    let arounds = around_of c.args.scopes.now c.args.lengths.now c.args.scope in
    kept c.args.forms.now.items c.loop-field.forms.items _ c.args.named.now arounds c.loop-field.form _ c.args.fields.now.items.items _
    (subst (Made c.args.forms.now.items c.loop-field.forms.items c.args.named.now arounds c.loop-field.form) (all_taken c.args.fields.now.items.items c.loop-field.field-index (rw (← c.as_slice-field-items.ensures) c.loop-field-test.false)) c.loop-field.invariant)
    refl (λ own h. c.in_ok-form.ensures own (subst (λ l. FieldsStand l 0 0 c.loop-field.form.fields.entries own) (sym c.as_slice-2.ensures.value) h))
    (c.only_end-form.ensures ∙ ap (λ l. only_end l c.loop-field.form.fields.entries) c.as_slice-3.ensures.value)
    (λ own h. subst (λ l. LeapStands l c.first_leap-form.result c.loop-field.form.fields.entries own) c.as_slice-4.ensures.value
    (c.first_leap-form.ensures own (subst (λ l. FieldsStand l 0 0 c.loop-field.form.fields.entries own) (sym c.as_slice-4.ensures.value) h)
    (c.in_ok-form.ensures own (subst (λ l. FieldsStand l 0 0 c.loop-field.form.fields.entries own) (sym c.as_slice-2.ensures.value) h))))
    c.in_ok-part-2.ensures.kept c.in_ok-part-2.ensures.number shapes all

pub form_of-returns-in-Basic-clause-form : goal.form_of-returns-in-Basic-clause-form
form_of-returns-in-Basic-clause-form t c = λ shapes all.
    let around = around_of c.args.scopes.now c.args.lengths.now c.args.scope shapes in
    let forms = c.args.forms.now.items in
    subst (λ ty. Matches forms c.form_of_basic-part.result (shape_of around (shown_typing ty))) (sym c.in-Basic.is)
    (subst (λ p. Matches forms p (option_map OfKind (kind_of_basic c.args.lengths.now c.in-Basic.basic))) (sym c.form_of_basic-part.ensures)
    (basic_matches forms (kind_of_basic c.args.lengths.now c.in-Basic.basic)))

pub form_of-returns-in_ok-part-in-Struct-clause-form : goal.form_of-returns-in_ok-part-in-Struct-clause-form
form_of-returns-in_ok-part-in-Struct-clause-form t c = λ shapes all.
    let around = around_of c.args.scopes.now c.args.lengths.now c.args.scope shapes in
    subst (λ s. Matches c.form_of_struct.new.forms.items c.in_ok-part-in-Struct.part (shape_of around s))
    (sym (ap shown_typing c.in-Struct.is ∙ struct_shown c.in-Struct.fields c.in-Struct.place)) (c.in_ok-part-in-Struct.ensures.form shapes all)

pub form_of_struct-returns-in_err-part-clause-err : goal.form_of_struct-returns-in_err-part-clause-err
form_of_struct-returns-in_err-part-clause-err t c =
    kept_on_err c.from_residual-in_err-part.result (grows_more _ _ _ c.loop-field.invariant.grows c.in_err-part.ensures.err)

pub form_of_struct-returns-in_err-add_written-clause-err : goal.form_of_struct-returns-in_err-add_written-clause-err
form_of_struct-returns-in_err-add_written-clause-err t c =
    kept_on_err c.from_residual-in_err-add_written.result (grows_more _ _ _ c.loop-field.invariant.grows c.in_ok-part.ensures.grows)
