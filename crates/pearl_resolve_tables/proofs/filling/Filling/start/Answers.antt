use Rattle.std.proofs.Common.{[], map, Some, refl, sym, ap, subst, ◌∙◌, append-nil}
use Rattle.pearl_names.specs.Forms.{pair_of}
use Rattle.pearl_names.specs.Layout.{leaves_of, elements}
use Rattle.pearl_resolve_tables.specs.Walks.{GoesOn}
use Rattle.pearl_resolve_tables.proofs.filling.Filling.start.Goals as goal

pub returns-clause-goes : goal.returns-clause-goes
returns-clause-goes c = λ of h.
    let forms = c.args.forms.now in
    let base = c.args.name.now in
    let all = leaves_of [] of.bounds of.shape in
    subst (GoesOn forms c.args.asked base (Some c.in_ok-first.first) c.descend.new.frames.items c.descend.new.name.items) (append-nil all)
    (c.in_ok-first.ensures base [] all [] (λ on. c.in_ok-name.ensures.items ∙ sym (append-nil base))
    (record { shape = of.shape; bounds = of.bounds; stands = h.1; counted = c.in_ok-count.ensures ∙ ap (λ l. elements (map pair_of l)) c.as_slice.ensures.value ∙ ap elements h.0; is = refl })
    (rw c.new-frames.ensures.items refl))
