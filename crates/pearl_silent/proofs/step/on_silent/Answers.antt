use Rattle.std.proofs.Common.{subst}
use Rattle.pearl_instructions.specs.Lawful.{IsInstr}
use Rattle.pearl_silent.specs.Steps.{sizes_of, told}
use Rattle.pearl_silent.proofs.Families.{beyond_cells}
use Rattle.pearl_instructions.specs.declared.instr.Instr.TheVariants.{Const}
use Rattle.pearl_instructions.specs.declared.instr.Instr.TheVariants.{Load, Store, Fill, Drop, LoadAt, StoreAt, RefCell, RefCellAt, Conv, NonZero, Monadic, Dyadic}
use Rattle.pearl_silent.proofs.Standing.{does_as, ready_at}
use Rattle.pearl_silent.proofs.step.on_silent.Goals as goal

pub load-requires-clause-ready : goal.load-requires-clause-ready
load-requires-clause-ready c = ready_at c.args.code.now c.args.instr.now (Load c.in-Load.c) (sizes_of c.args.stack.now.frames) c.args.stack.now c.in-Load.is c.requires

pub returns-in-Load : goal.returns-in-Load
returns-in-Load c = does_as c.args.code.now c.args.instr.now (Load c.in-Load.c) c.args.stack.now c.load.new.stack (told c.load.result) c.in-Load.is c.load.ensures

pub store-requires-clause-ready : goal.store-requires-clause-ready
store-requires-clause-ready c = ready_at c.args.code.now c.args.instr.now (Store c.in-Store.c) (sizes_of c.args.stack.now.frames) c.args.stack.now c.in-Store.is c.requires

pub returns-in-Store : goal.returns-in-Store
returns-in-Store c = does_as c.args.code.now c.args.instr.now (Store c.in-Store.c) c.args.stack.now c.store.new.stack (told c.store.result) c.in-Store.is c.store.ensures

pub fill-requires-clause-ready : goal.fill-requires-clause-ready
fill-requires-clause-ready c = ready_at c.args.code.now c.args.instr.now (Fill c.in-Fill.first c.in-Fill.count c.in-Fill.kind) (sizes_of c.args.stack.now.frames) c.args.stack.now c.in-Fill.is c.requires

pub fill-requires-clause-kind : goal.fill-requires-clause-kind
fill-requires-clause-kind c = subst IsInstr c.in-Fill.is c.requires.literal

pub returns-in-Fill : goal.returns-in-Fill
returns-in-Fill c = does_as c.args.code.now c.args.instr.now (Fill c.in-Fill.first c.in-Fill.count c.in-Fill.kind) c.args.stack.now c.fill.new.stack (told c.fill.result) c.in-Fill.is c.fill.ensures

pub drop_one-requires-clause-ready : goal.drop_one-requires-clause-ready
drop_one-requires-clause-ready c = ready_at c.args.code.now c.args.instr.now Drop (sizes_of c.args.stack.now.frames) c.args.stack.now c.in-Drop.is c.requires

pub returns-in-Drop : goal.returns-in-Drop
returns-in-Drop c = does_as c.args.code.now c.args.instr.now Drop c.args.stack.now c.drop_one.new.stack (told c.drop_one.result) c.in-Drop.is c.drop_one.ensures

pub load_at-requires-clause-ready : goal.load_at-requires-clause-ready
load_at-requires-clause-ready c = ready_at c.args.code.now c.args.instr.now (LoadAt c.in-LoadAt.first c.in-LoadAt.count) (sizes_of c.args.stack.now.frames) c.args.stack.now c.in-LoadAt.is c.requires

pub returns-in-LoadAt : goal.returns-in-LoadAt
returns-in-LoadAt c = does_as c.args.code.now c.args.instr.now (LoadAt c.in-LoadAt.first c.in-LoadAt.count) c.args.stack.now c.load_at.new.stack (told c.load_at.result) c.in-LoadAt.is c.load_at.ensures

pub store_at-requires-clause-ready : goal.store_at-requires-clause-ready
store_at-requires-clause-ready c = ready_at c.args.code.now c.args.instr.now (StoreAt c.in-StoreAt.first c.in-StoreAt.count) (sizes_of c.args.stack.now.frames) c.args.stack.now c.in-StoreAt.is c.requires

pub returns-in-StoreAt : goal.returns-in-StoreAt
returns-in-StoreAt c = does_as c.args.code.now c.args.instr.now (StoreAt c.in-StoreAt.first c.in-StoreAt.count) c.args.stack.now c.store_at.new.stack (told c.store_at.result) c.in-StoreAt.is c.store_at.ensures

pub ref_cell-requires-clause-ready : goal.ref_cell-requires-clause-ready
ref_cell-requires-clause-ready c = ready_at c.args.code.now c.args.instr.now (RefCell c.in-RefCell.c) (sizes_of c.args.stack.now.frames) c.args.stack.now c.in-RefCell.is c.requires

pub returns-in-RefCell : goal.returns-in-RefCell
returns-in-RefCell c = does_as c.args.code.now c.args.instr.now (RefCell c.in-RefCell.c) c.args.stack.now c.ref_cell.new.stack (told c.ref_cell.result) c.in-RefCell.is c.ref_cell.ensures

pub ref_cell_at-requires-clause-ready : goal.ref_cell_at-requires-clause-ready
ref_cell_at-requires-clause-ready c = ready_at c.args.code.now c.args.instr.now (RefCellAt c.in-RefCellAt.first c.in-RefCellAt.count) (sizes_of c.args.stack.now.frames) c.args.stack.now c.in-RefCellAt.is c.requires

pub returns-in-RefCellAt : goal.returns-in-RefCellAt
returns-in-RefCellAt c = does_as c.args.code.now c.args.instr.now (RefCellAt c.in-RefCellAt.first c.in-RefCellAt.count) c.args.stack.now c.ref_cell_at.new.stack (told c.ref_cell_at.result) c.in-RefCellAt.is c.ref_cell_at.ensures

pub converting-requires-clause-ready : goal.converting-requires-clause-ready
converting-requires-clause-ready c = ready_at c.args.code.now c.args.instr.now (Conv c.in-Conv.kind) (sizes_of c.args.stack.now.frames) c.args.stack.now c.in-Conv.is c.requires

pub converting-requires-clause-formed : goal.converting-requires-clause-formed
converting-requires-clause-formed c = c.requires.operands

pub converting-requires-clause-kind : goal.converting-requires-clause-kind
converting-requires-clause-kind c = subst IsInstr c.in-Conv.is c.requires.literal

pub returns-in-Conv : goal.returns-in-Conv
returns-in-Conv c = does_as c.args.code.now c.args.instr.now (Conv c.in-Conv.kind) c.args.stack.now c.converting.new.stack (told c.converting.result) c.in-Conv.is c.converting.ensures

pub non_zero-requires-clause-ready : goal.non_zero-requires-clause-ready
non_zero-requires-clause-ready c = ready_at c.args.code.now c.args.instr.now NonZero (sizes_of c.args.stack.now.frames) c.args.stack.now c.in-NonZero.is c.requires

pub returns-in-NonZero : goal.returns-in-NonZero
returns-in-NonZero c = does_as c.args.code.now c.args.instr.now NonZero c.args.stack.now c.non_zero.new.stack (told c.non_zero.result) c.in-NonZero.is c.non_zero.ensures

pub monadic-requires-clause-ready : goal.monadic-requires-clause-ready
monadic-requires-clause-ready c = ready_at c.args.code.now c.args.instr.now (Monadic c.in-Monadic.op) (sizes_of c.args.stack.now.frames) c.args.stack.now c.in-Monadic.is c.requires

pub monadic-requires-clause-formed : goal.monadic-requires-clause-formed
monadic-requires-clause-formed c = c.requires.operands

pub returns-in-Monadic : goal.returns-in-Monadic
returns-in-Monadic c = does_as c.args.code.now c.args.instr.now (Monadic c.in-Monadic.op) c.args.stack.now c.monadic.new.stack (told c.monadic.result) c.in-Monadic.is c.monadic.ensures

pub dyadic-requires-clause-ready : goal.dyadic-requires-clause-ready
dyadic-requires-clause-ready c = ready_at c.args.code.now c.args.instr.now (Dyadic c.in-Dyadic.op) (sizes_of c.args.stack.now.frames) c.args.stack.now c.in-Dyadic.is c.requires

pub dyadic-requires-clause-formed : goal.dyadic-requires-clause-formed
dyadic-requires-clause-formed c = c.requires.operands

pub returns-in-Dyadic : goal.returns-in-Dyadic
returns-in-Dyadic c = does_as c.args.code.now c.args.instr.now (Dyadic c.in-Dyadic.op) c.args.stack.now c.dyadic.new.stack (told c.dyadic.result) c.in-Dyadic.is c.dyadic.ensures

pub literal-requires-clause-ready : goal.literal-requires-clause-ready
literal-requires-clause-ready c = ready_at c.args.code.now c.args.instr.now (Const c.in-Const.x) (sizes_of c.args.stack.now.frames) c.args.stack.now c.in-Const.is c.requires

pub returns-in-Const : goal.returns-in-Const
returns-in-Const c = does_as c.args.code.now c.args.instr.now (Const c.in-Const.x) c.args.stack.now c.literal.new.stack (told c.literal.result) c.in-Const.is c.literal.ensures

pub on_jumps-requires-clause-family : goal.on_jumps-requires-clause-family
on_jumps-requires-clause-family c = beyond_cells c.args.instr.now c.in_default.not-Const c.in_default.not-Load c.in_default.not-Store c.in_default.not-Fill c.in_default.not-Drop c.in_default.not-LoadAt c.in_default.not-StoreAt c.in_default.not-RefCell c.in_default.not-RefCellAt c.in_default.not-Conv c.in_default.not-Index c.in_default.not-NonZero c.in_default.not-Monadic c.in_default.not-Dyadic
