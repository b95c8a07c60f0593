use Rattle.std.proofs.Common.{◌<◌, ◌≤◌, ◌^◌, refl, sym, ◌∙◌, subst, arith}
use Rattle.std.specs.Prelude.{IfSome}
use Rattle.std.specs.List.{AllByRecursion}
use Rattle.pearl_format.specs.Items.{data_count}
use Rattle.pearl_instructions.specs.declared.instr.Reading.{Reading}
use Rattle.pearl_instructions.specs.declared.instr.Instr.TheVariants.{Request, Release, Enable, Disable, Trigger, Put, Get, Take, Send}
use Rattle.pearl_instructions.specs.Named.{is_interrupt, is_input, is_output, takes_texts, gives_texts}
use Rattle.pearl_instructions.specs.Objects.{items_at}
use Rattle.pearl_silent.proofs.Offered.{and_true}
use Rattle.pearl_solo.proofs.Families.{beyond_devices}
use Rattle.pearl_solo.proofs.Small.{named_as, device_small, semaphores_small, puts, gets_few, gets_format}
use Rattle.pearl_solo.proofs.step.on_devices.Goals as goal

pub unreachable-requires : goal.unreachable-requires
unreachable-requires c = beyond_devices c.args.instr.now c.requires.family c.in_default.not-Now c.in_default.not-Request c.in_default.not-Release c.in_default.not-Try c.in_default.not-Enable c.in_default.not-Disable c.in_default.not-Trigger c.in_default.not-Put c.in_default.not-Get c.in_default.not-Take c.in_default.not-Send

pub overflow_cast-d : goal.overflow_cast-d
overflow_cast-d c = let small = device_small c.args.code.now c.in-Enable.d is_interrupt c.requires.at.lawful refl (named_as c.args.code.now c.args.instr.now (Enable c.in-Enable.d) c.args.here.now c.args.stack.now c.in-Enable.is c.requires.at) in omega (arith, small)

pub overflow_cast-d-in-Disable : goal.overflow_cast-d-in-Disable
overflow_cast-d-in-Disable c = let small = device_small c.args.code.now c.in-Disable.d is_interrupt c.requires.at.lawful refl (named_as c.args.code.now c.args.instr.now (Disable c.in-Disable.d) c.args.here.now c.args.stack.now c.in-Disable.is c.requires.at) in omega (arith, small)

pub overflow_cast-d-in-Trigger : goal.overflow_cast-d-in-Trigger
overflow_cast-d-in-Trigger c = let small = device_small c.args.code.now c.in-Trigger.d is_interrupt c.requires.at.lawful refl (named_as c.args.code.now c.args.instr.now (Trigger c.in-Trigger.d) c.args.here.now c.args.stack.now c.in-Trigger.is c.requires.at) in omega (arith, small)

pub overflow_cast-d-in-Take : goal.overflow_cast-d-in-Take
overflow_cast-d-in-Take c = let small = device_small c.args.code.now c.in-Take.d is_input c.requires.at.lawful refl (named_as c.args.code.now c.args.instr.now (Take c.in-Take.d) c.args.here.now c.args.stack.now c.in-Take.is c.requires.at) in omega (arith, small)

pub overflow_cast-d-in-Send : goal.overflow_cast-d-in-Send
overflow_cast-d-in-Send c = let small = device_small c.args.code.now c.in-Send.d is_output c.requires.at.lawful refl (named_as c.args.code.now c.args.instr.now (Send c.in-Send.d) c.args.here.now c.args.stack.now c.in-Send.is c.requires.at) in omega (arith, small)

pub put-requires-clause-device : goal.put-requires-clause-device
put-requires-clause-device c = device_small c.args.code.now c.in-Put.device takes_texts c.requires.at.lawful refl (and_true _ _ (named_as c.args.code.now c.args.instr.now (Put c.in-Put.device c.in-Put.format) c.args.here.now c.args.stack.now c.in-Put.is c.requires.at)).0

pub semaphores-requires-clause-small : goal.semaphores-requires-clause-small
semaphores-requires-clause-small c =
    subst (AllByRecursion (λ n. n < 2 ^ 16)) (sym (c.as_slice.ensures ∙ c.get.ensures))
    (semaphores_small c.args.code.now c.in-Request.list c.requires.at.lawful (named_as c.args.code.now c.args.instr.now (Request c.in-Request.list) c.args.here.now c.args.stack.now c.in-Request.is c.requires.at))

pub semaphores-requires-in-Release-clause-small : goal.semaphores-requires-in-Release-clause-small
semaphores-requires-in-Release-clause-small c =
    subst (AllByRecursion (λ n. n < 2 ^ 16)) (sym (c.as_slice-in-Release.ensures ∙ c.get-in-Release.ensures))
    (semaphores_small c.args.code.now c.in-Release.list c.requires.at.lawful (named_as c.args.code.now c.args.instr.now (Release c.in-Release.list) c.args.here.now c.args.stack.now c.in-Release.is c.requires.at))

pub put-requires-clause-text : goal.put-requires-clause-text
put-requires-clause-text c = puts c.args.code.now c.args.instr.now c.args.here.now c.args.stack.now c.in-Put.device c.in-Put.format c.in-Put.is c.requires.at

pub get_values-requires-clause-device : goal.get_values-requires-clause-device
get_values-requires-clause-device c =
    subst (λ (r : Reading). r.device < 2 ^ 32) (sym c.get-in-Get.ensures)
    (device_small c.args.code.now c.in-Get.reading.device gives_texts c.requires.at.lawful refl (and_true _ _ (named_as c.args.code.now c.args.instr.now (Get c.in-Get.reading) c.args.here.now c.args.stack.now c.in-Get.is c.requires.at)).0)

pub get_values-requires-clause-format : goal.get_values-requires-clause-format
get_values-requires-clause-format c =
    subst (λ (r : Reading). r.format < 2 ^ 32) (sym c.get-in-Get.ensures)
    (gets_format c.args.code.now c.args.instr.now c.args.here.now c.args.stack.now c.in-Get.reading c.in-Get.is c.requires.at)

pub get_values-requires-clause-few : goal.get_values-requires-clause-few
get_values-requires-clause-few c =
    subst (λ (r : Reading). IfSome (items_at c.args.code.now r.format) (λ items. data_count items ≤ 64)) (sym c.get-in-Get.ensures)
    (gets_few c.args.code.now c.args.instr.now c.args.here.now c.args.stack.now c.in-Get.reading c.in-Get.is c.requires.at)
