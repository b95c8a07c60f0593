use Rattle.std.proofs.Common.{◌≡◌, None, Some, length, slice_get, sym, ap, ◌∙◌, subst}
use Rattle.std.specs.Prelude.{MatchOption}
use Rattle.std.proofs.lemmas.Option.{slice_get_read}
use Rattle.pearl_instructions.specs.Valid.{stated}
use Rattle.pearl_verify.specs.Jumps.{IsStatedNumber}
use Rattle.pearl_verify.proofs.Tables.{stated_number, none_stated}
use Rattle.pearl_verify.proofs.jumps.JumpTable.number.Goals as goal

pub returns-in-Some : goal.returns-in-Some
returns-in-Some c =
    let at : slice_get c.args.self.now.stated.items c.args.instruction ≡ Some (Some c.in-Some.shape) =
    slice_get_read c.args.self.now.stated.items (length c.args.code.now.instructions) c.args.instruction c.index.result.now (sym c.requires.table.stated.long) c.requires.within
    c.index.ensures ∙ ap Some c.in-Some.is in
    subst (λ o. MatchOption o (stated c.args.code.now.shapes c.args.instruction ≡ None) (IsStatedNumber c.args.self.now.tree.edges c.args.code.now c.args.instruction))
    (sym (c.number_at.ensures ∙ ap (λ ns. slice_get ns c.in-Some.shape) c.as_slice.ensures.value))
    (stated_number c.args.self.now.tree.edges c.args.code.now c.args.self.now.stated.items c.args.self.now.numbers.items c.args.instruction c.in-Some.shape
    c.requires.table.stated c.requires.table.numbers c.requires.within at)

pub returns-in-None : goal.returns-in-None
returns-in-None c =
    let at : slice_get c.args.self.now.stated.items c.args.instruction ≡ Some None =
    slice_get_read c.args.self.now.stated.items (length c.args.code.now.instructions) c.args.instruction c.index.result.now (sym c.requires.table.stated.long) c.requires.within
    c.index.ensures ∙ ap Some c.in-None.is in
    none_stated c.args.code.now c.args.self.now.stated.items c.args.instruction c.requires.table.stated c.requires.within at
