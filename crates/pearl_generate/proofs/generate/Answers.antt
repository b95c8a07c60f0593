use Rattle.std.proofs.Common.{sym, subst}
use Rattle.pearl_program.specs.PlainPrograms.{plain_prog}
use Rattle.pearl_program.specs.Sound.{IsSound}
use Rattle.pearl_instructions.specs.Valid.{IsValid}
use Rattle.pearl_gen_stmt.specs.Generated.{IsGenerated}
use Rattle.pearl_faithful.specs.Faithful.{IsFaithfulTo}
use Rattle.pearl_generate.proofs.generate.Goals as goal

pub new-requires : goal.new-requires
new-requires c =
    let sound = subst (λ parts. IsSound (plain_prog parts)) c.parts-sound.ensures.value c.parts-sound.ensures.sound in
    (c.generated_is_valid.ensures (plain_prog c.args.program.now) c.in_ok-parts.parts sound c.in_ok-parts.ensures.generated c.in_ok-parts.ensures.few_formats).0

pub returns-clause-generated : goal.returns-clause-generated
returns-clause-generated c = subst (IsGenerated (plain_prog c.args.program.now)) (sym c.new.ensures) c.in_ok-parts.ensures.generated

pub returns-clause-valid : goal.returns-clause-valid
returns-clause-valid c =
    let sound = subst (λ parts. IsSound (plain_prog parts)) c.parts-sound.ensures.value c.parts-sound.ensures.sound in
    subst IsValid (sym c.new.ensures)
    (c.generated_is_valid.ensures (plain_prog c.args.program.now) c.in_ok-parts.parts sound c.in_ok-parts.ensures.generated c.in_ok-parts.ensures.few_formats).1

pub returns-clause-faithful : goal.returns-clause-faithful
returns-clause-faithful c =
    let p = plain_prog c.args.program.now in let o = c.in_ok-parts.parts in
    let sound = subst (λ parts. IsSound (plain_prog parts)) c.parts-sound.ensures.value c.parts-sound.ensures.sound in
    let valid = c.generated_is_valid.ensures p o sound c.in_ok-parts.ensures.generated c.in_ok-parts.ensures.few_formats in
    subst (IsFaithfulTo p) (sym c.new.ensures) (c.faithful_programs.ensures.faithful p o sound c.in_ok-parts.ensures.generated valid.0 valid.1)
