use Rattle.std.proofs.Common.{subst}
use Rattle.pearl_names.specs.Forms.{StandsFor}
use Rattle.pearl_resolve.proofs.Reached.{kind_reached, struct_reached}
use Rattle.pearl_resolve.proofs.walk.kind_of.Goals as goal

pub returns-in-Basic : goal.returns-in-Basic
returns-in-Basic c = λ forms of h. kind_reached forms c.in-Basic.kind of.shape (subst (λ p. StandsFor forms p of.shape) c.in-Basic.is h.part)

pub returns-in-Struct : goal.returns-in-Struct
returns-in-Struct c = λ forms of h. struct_reached forms _ of.shape (subst (λ p. StandsFor forms p of.shape) c.in-Struct.is h.part)
