use Rattle.std.proofs.Common.{refl, ◌∙◌}
use Rattle.pearl_instructions.specs.declared.instr.Instr.TheVariants as instr
use Rattle.pearl_gen_stmt.proofs.Nesting.{listed_adds}
use Rattle.pearl_gen_stmt.proofs.statement.emit_release.Goals as goal

pub returns-clause-added : goal.returns-clause-added
returns-clause-added c setting =
    listed_adds setting c.args.code.now.items c.emit.new.code.items instr.Release c.args.numbers.now.items c.in_ok-list.list (c.in_ok-list.ensures ∙ c.as_slice.ensures.value) refl
    c.in_ok-emit.ensures.added
