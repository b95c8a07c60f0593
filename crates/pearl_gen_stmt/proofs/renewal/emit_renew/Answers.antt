use Rattle.std.proofs.Common.{◌≡◌, ◌++◌, List, [], ◌∷◌, map, refl, sym, ap, ◌∙◌, subst}
use Rattle.pearl_program.specs.declared.literal.Literal.{Literal}
use Rattle.pearl_program.specs.PlainExpressions.{cell_of}
use Rattle.pearl_program.specs.PlainStatements.{plain_values}
use Rattle.pearl_instructions.specs.declared.instr.Instr.TheVariants as instr
use Rattle.pearl_gen_stmt.specs.StmtCode.{RenewAt}
use Rattle.pearl_gen_stmt.specs.Emission.{Adds}
use Rattle.pearl_gen_stmt.proofs.Settling.{some_there, none_there}
use Rattle.pearl_gen_stmt.proofs.Storing.{fill_adds}
use Rattle.pearl_gen_stmt.proofs.renewal.emit_renew.Goals as goal

pub emit_constants-requires : goal.emit_constants-requires
emit_constants-requires c = some_there c.as_slice-constants.result.now c.if-is_empty.ensures

pub returns-then-is_empty-clause-added : goal.returns-then-is_empty-clause-added
returns-then-is_empty-clause-added c setting =
    let old = c.args.code.now.items in let one = c.emit.new.code.items in let renewal = c.args.renewal.now in
    fill_adds setting old one renewal.cell (plain_values renewal.values) (map cell_of renewal.values.constants)
    (ap (λ (xs : List Literal). map cell_of xs) (sym c.as_slice-constants.ensures ∙ none_there c.as_slice-constants.result.now c.if-is_empty.ensures))
    (subst (λ n. one ≡ old ++ instr.Fill n renewal.values.count renewal.values.kind ∷ []) c.from-first.ensures
    (subst (λ n. one ≡ old ++ instr.Fill c.from-first.result n renewal.values.kind ∷ []) c.from-count.ensures c.in_ok-emit.ensures.added))

pub returns-clause-added : goal.returns-clause-added
returns-clause-added c setting =
    let renewal = c.args.renewal.now in
    subst (λ (xs : List Literal). Adds (λ code from to. RenewAt setting code from renewal.cell (plain_values renewal.values) (map cell_of xs) to)
    c.args.code.now.items c.emit_constants.new.code.items) c.as_slice-constants.ensures
    (c.in_ok-emit_constants.ensures.added setting (plain_values renewal.values) refl)
