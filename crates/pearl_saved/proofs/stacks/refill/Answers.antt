use Rattle.std.proofs.Common.{arith, ◌+◌, length, ap, subst}
use Rattle.pearl_instructions.specs.Lawful.{IsObject}
use Rattle.pearl_instructions.specs.Valid.{IsValid}
use Rattle.pearl_saved.proofs.Small.{few_frames, are_small, has_room}
use Rattle.pearl_saved.proofs.stacks.refill.Goals as goal

pub put_frames-requires-clause-room : goal.put_frames-requires-clause-room
put_frames-requires-clause-room c =
    let lawful = subst IsObject c.object.ensures.value c.object.ensures.object in
    let valid = subst IsValid c.object.ensures.value c.object.ensures.valid in
    let few = has_room c.args.code.now lawful valid (length c.args.code.now.procedures + c.args.task) c.args.frames.now c.requires.frames in
    omega (arith, few, c.requires.room)

pub put_frames-requires-clause-most : goal.put_frames-requires-clause-most
put_frames-requires-clause-most c =
    let lawful = subst IsObject c.object.ensures.value c.object.ensures.object in
    let valid = subst IsValid c.object.ensures.value c.object.ensures.valid in
    let few = few_frames c.args.code.now lawful valid (length c.args.code.now.procedures + c.args.task) c.args.frames.now c.requires.frames in
    omega (arith, few, c.requires.most)

pub put_frames-requires-clause-small : goal.put_frames-requires-clause-small
put_frames-requires-clause-small c =
    let lawful = subst IsObject c.object.ensures.value c.object.ensures.object in
    let valid = subst IsValid c.object.ensures.value c.object.ensures.valid in
    are_small c.args.code.now lawful valid (length c.args.code.now.procedures + c.args.task) c.args.frames.now c.requires.frames c.requires.refer
