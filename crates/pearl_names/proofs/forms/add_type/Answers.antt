use Rattle.std.proofs.Common.{sym, subst, ◌++◌, ◌∷◌, []}
use Rattle.pearl_tree.specs.ShownModules.{shown_decl}
use Rattle.pearl_tree.specs.ShownDeclarations.{shown_typing}
use Rattle.pearl_names.specs.Shapes.{decl_shapes, shape_of}
use Rattle.pearl_names.specs.Forming.{AllMatch, around_of}
use Rattle.pearl_names.proofs.TypesMade.{one_type}
use Rattle.pearl_names.proofs.forms.add_type.Goals as goal

pub returns-in_ok-push-in-Type : goal.returns-in_ok-push-in-Type
returns-in_ok-push-in-Type c = λ shapes h.
    let around = around_of c.args.scopes.now c.args.lengths.now 0 shapes in
    subst (λ d. AllMatch c.form_of.new.forms.items c.push.new.self.items (shapes ++ decl_shapes around (shown_decl d))) (sym c.in-Type.is)
    (subst (λ l. AllMatch c.form_of.new.forms.items l (shapes ++ shape_of around (shown_typing c.in-Type.typing) ∷ [])) (sym c.in_ok-push-in-Type.ensures.items)
    (one_type c.args.types.now.forms.items c.form_of.new.forms.items c.args.types.now.named.items shapes c.in_ok-part-in-Type.part (shape_of around (shown_typing c.in-Type.typing))
    c.in_ok-part-in-Type.ensures.grows h
    (c.in_ok-part-in-Type.ensures.form shapes (subst (λ l. AllMatch c.args.types.now.forms.items l shapes) (sym c.as_slice.ensures.value) h))))
