use Rattle.std.proofs.Common.{subst}
use Rattle.pearl_names.specs.Forms.{StandsFor}
use Rattle.pearl_names.proofs.Standing.{basic_counts, struct_counts}
use Rattle.pearl_names.proofs.types.counts_of.Goals as goal

pub returns-in-Basic : goal.returns-in-Basic
returns-in-Basic c = λ shape h. basic_counts c.args.forms.now c.in-Basic.field-0 shape (subst (λ p. StandsFor c.args.forms.now p shape) c.in-Basic.is h)

pub returns-in-Struct : goal.returns-in-Struct
returns-in-Struct c = λ shape h. struct_counts c.args.forms.now c.in-Struct.number shape _ c.counts_at.ensures (subst (λ p. StandsFor c.args.forms.now p shape) c.in-Struct.is h)
