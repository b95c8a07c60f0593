use Rattle.std.proofs.Common.{Some, refl, sym, subst}
use Rattle.std.proofs.lemmas.Option.{slice_get_read}
use Rattle.pearl_resolve_tables.specs.Walks.{AllLeft}
use Rattle.pearl_resolve_tables.proofs.Walking.{Entered, frame_next, frame_done, onward_goes}
use Rattle.pearl_resolve_tables.proofs.walk.go_on.Goals as goal

pub returns-in-Some-get_index : goal.returns-in-Some-get_index
returns-in-Some-get_index c = λ base left h.
    let forms = c.args.forms.now in
    let frame = c.in-Some.frame in
    let outer = c.pop.new.self.items in
    let text = c.loop-frame.name.items in
    let form = c.in-Some-get.form.now in
    let at : _ = slice_get_read forms _ frame.number form refl c.in-Some-get.ensures.lookup.3.0 c.in-Some-get.ensures.lookup.1 in
    let key = c.in-Some-get_index.key.now in
    let field = c.in-Some-get_index.field.now in
    let count = c.in_ok-count-in-Some-get_index.count in
    let on = frame_next forms c.args.asked base outer frame text c.enter.new.name.items left form (key, field) count
    (subst (λ l. AllLeft forms c.args.asked base l text left) c.in-Some.ensures.items (c.loop-frame.invariant base left h)) at (sym c.in-Some-get_index.ensures.entry)
    (record { name = c.in_ok-count-in-Some-get_index.ensures.name; count = c.in_ok-count-in-Some-get_index.ensures.count }) in
    let pushed : Entered forms forms c.args.asked base field.part count c.enter.new.frames.items c.enter.new.name.items left = rw c.in_ok-count-in-Some-get_index.ensures.frames on in
    onward_goes forms c.args.asked base field.part count c.enter.new.frames.items c.descend.new.frames.items c.enter.new.name.items c.descend.new.name.items left (Some c.in_ok-found-in-Some-get_index.found) pushed
    (c.in_ok-found-in-Some-get_index.ensures base)

pub loop-frame-preserved : goal.loop-frame-preserved
loop-frame-preserved c = λ base left h.
    let forms = c.args.forms.now in
    let frame = c.in-Some.frame in
    let text = c.loop-frame.name.items in
    let form = c.in-Some-get.form.now in
    let at : _ = slice_get_read forms _ frame.number form refl c.in-Some-get.ensures.lookup.3.0 c.in-Some-get.ensures.lookup.1 in
    frame_done forms c.args.asked base c.pop.new.self.items frame text left form
    (subst (λ l. AllLeft forms c.args.asked base l text left) c.in-Some.ensures.items (c.loop-frame.invariant base left h)) at (sym c.in-None-get_index.ensures.entry)
