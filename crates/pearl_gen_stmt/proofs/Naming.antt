-- What stands in the tables of a program.
use Rattle.std.proofs.Common.{◌≡◌, ℕ, List, length, get_or, slice_get, Some, true, ltb-true, refl, sym, ap, ◌∙◌}
use Rattle.std.specs.Prelude.{option_map, ltb}
use Rattle.std.proofs.lemmas.Option.{slice_get-map, slice_get_read}
use Rattle.pearl_program.specs.declared.program.Program.{Program}
use Rattle.pearl_program.specs.declared.program.Procedure.{Procedure}
use Rattle.pearl_program.specs.PlainPrograms.{plain_prog, plain_procedure}

pub procedure_there : (program : Program) (all : List Procedure) (number : ℕ) (procedure : Procedure) → all ≡ program.procedures →
    true ≡ ltb number (length all) → procedure ≡ get_or all number procedure →
    slice_get (plain_prog program).procedures number ≡ Some (plain_procedure procedure)
procedure_there program all number procedure same inside is =
    let there : slice_get all number ≡ Some procedure = slice_get_read all (length all) number procedure refl (ltb-true number (length all) (sym inside)) is in
    slice_get-map plain_procedure program.procedures number ∙ ap (option_map plain_procedure) (ap (λ all. slice_get all number) (sym same) ∙ there)
