use Rattle.std.proofs.Common.{◌∙◌, subst}
use Rattle.pearl_names.specs.Forms.{StandsFor}
use Rattle.pearl_names.proofs.Standing.{basic_kinds, struct_kinds}
use Rattle.pearl_names.proofs.types.kinds_of.Goals as goal

pub returns-in-Basic : goal.returns-in-Basic
returns-in-Basic c = λ shape h. c.one_kind.ensures ∙ basic_kinds c.args.forms.now c.in-Basic.kind shape (subst (λ p. StandsFor c.args.forms.now p shape) c.in-Basic.is h)

pub returns-in-Struct : goal.returns-in-Struct
returns-in-Struct c = λ shape h. struct_kinds c.args.forms.now c.in-Struct.number shape _ c.kinds_from.ensures (subst (λ p. StandsFor c.args.forms.now p shape) c.in-Struct.is h)
