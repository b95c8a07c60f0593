use Rattle.std.proofs.Common.{refl, append_assoc}
use Rattle.pearl_object.proofs.Spellings.{instr_bytes}
use Rattle.pearl_object.proofs.instructions.put_instr.Goals as goal

pub returns : goal.returns
returns c = rw (instr_bytes c.args.value.now, c.in_ok-put_operands.ensures, c.in_ok-push.ensures.items, c.opcode_of.ensures, append_assoc) refl
