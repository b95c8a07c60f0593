use Rattle.std.proofs.Common.{◌++◌, take, refl, sym, subst, arith}
use Rattle.std.proofs.lemmas.Option.{slice_get_read}
use Rattle.pearl_resolve_tables.proofs.Walking.{Descends, descends_first, descends_end, descends_last, descends_more}
use Rattle.pearl_resolve_tables.proofs.walk.descend.Goals as goal

pub loop-part-init : goal.loop-part-init
loop-part-init c = λ base path own left named found rest.
    descends_end c.args.forms.now c.args.forms.now c.args.asked base c.args.part c.args.count c.in_ok-first.first c.args.frames.now.items c.args.name.now.items (own ++ left)
    (descends_first c.args.forms.now c.args.asked base c.args.part c.args.count path c.args.frames.now.items c.args.name.now.items own left named found rest) c.in_ok-first.ensures

pub returns-in-Basic : goal.returns-in-Basic
returns-in-Basic c = λ base path own left named found rest.
    let forms = c.args.forms.now in
    let asked = c.args.asked in
    let at = c.loop-part in
    descends_last forms at.earlier.now asked base c.in-Basic.kind at.count at.frames.items at.name.items (own ++ left)
    (subst (λ p. Descends forms at.earlier.now asked base p at.count at.frames.items at.name.items (own ++ left)) c.in-Basic.is
    (at.invariant base path own left named found rest))

pub loop-part-preserved : goal.loop-part-preserved
loop-part-preserved c = λ base path own left named found rest.
    let forms = c.args.forms.now in
    let asked = c.args.asked in
    let earlier = c.loop-part.earlier.now in
    let number = c.in-Struct.number in
    let form = c.in-Some.form.now in
    let at : _ = slice_get_read earlier _ number form refl c.in-Some.ensures.lookup.3.0 c.in-Some.ensures.lookup.1 in
    let key = c.in-Some-get_index.entry.0.now in
    let field = c.in-Some-get_index.entry.1.now in
    let text = c.loop-part.name.items in
    let inner = c.in_ok-inner.inner in
    let frames = c.enter.new.frames.items in
    let new = c.enter.new.name.items in
    let down : Descends forms (take number earlier) asked base field.part inner frames new (own ++ left) =
    rw c.in_ok-inner.ensures.frames
    (descends_more forms earlier asked base number c.loop-part.count c.len.result inner c.loop-part.frames.items text new (own ++ left) form (key, field)
    (subst (λ p. Descends forms earlier asked base p c.loop-part.count c.loop-part.frames.items text (own ++ left)) c.in-Struct.is
    (c.loop-part.invariant base path own left named found rest))
    at (sym c.in-Some-get_index.ensures.entry) (omega (arith, c.len.ensures, c.loop-part.name.ok.0)) (record { name = c.in_ok-inner.ensures.name; count = c.in_ok-inner.ensures.count })) in
    descends_end forms (take number earlier) asked base field.part inner c.in_ok-end.end frames new (own ++ left) down c.in_ok-end.ensures
