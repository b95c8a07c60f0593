use Rattle.std.proofs.Common.{refl, append_assoc}
use Rattle.pearl_object.specs.Objects.{procedure}
use Rattle.pearl_object.proofs.Spellings.{code_bytes}
use Rattle.pearl_object.proofs.routines.put_procedure.Goals as goal

pub returns : goal.returns
unfolding procedure
returns c = rw (code_bytes c.args.value.now.params c.args.value.now.code, c.in_ok-put_code.ensures, c.in_ok-put_result.ensures, c.in_ok-put_number.ensures) (simp append_assoc refl)
