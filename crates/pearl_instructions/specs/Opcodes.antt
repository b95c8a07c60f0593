-- What each opcode holds, names, takes and pushes, where it leads and what its limits are: one row each, no default.
use Rattle.std.specs.Prelude.{ℕ, Bool, true, false, List, [], ◌∷◌, ◌++◌, Option, Some, None, length, map, replicate, reverse}
use Rattle.pearl_value.specs.declared.kind.Kind.{Kind}
use Rattle.pearl_value.specs.declared.kind.Kind.TheVariants as kind
use Rattle.pearl_value.specs.declared.kind.CellKind.{CellKind}
use Rattle.pearl_value.specs.declared.kind.CellKind.TheVariants.{Plain}
use Rattle.pearl_value.specs.declared.cell.Cell.{Cell}
use Rattle.pearl_value.specs.declared.operator.Monad.{Monad}
use Rattle.pearl_value.specs.declared.operator.Dyad.{Dyad}
use Rattle.pearl_value.specs.Cells.{cell_kind_of}
use Rattle.pearl_instructions.specs.declared.schedule.StartForm.{StartForm}
use Rattle.pearl_instructions.specs.declared.instr.Activation.{Activation}
use Rattle.pearl_instructions.specs.declared.instr.Bounds.{Bounds}
use Rattle.pearl_instructions.specs.declared.instr.Instr.{Instr}
use Rattle.pearl_instructions.specs.declared.instr.Instr.TheVariants.{Const, Load, Store, Fill, Drop, Conv, Index, LoadAt, StoreAt, Read, Write, ReadAt, WriteAt, RefSlot, RefSlotAt, RefCell, RefCellAt, ReadRef, WriteRef, Jump, JumpZero, Case, Turn, Call, Return, End, Trap, Within, Advance, NonZero, Monadic, Dyadic, Now, Request, Release, Try, Activate, Continue, Resume, Suspend, Terminate, Prevent, SuspendOwn, TerminateOwn, PreventOwn, Enable, Disable, Trigger, Put, Get, Take, Send}
use Rattle.pearl_instructions.specs.Offers.{as_start, start_or_free, start_kinds, repeat_kinds}

-- what stands in an instruction beside numbers
pub data Held : Type 0 where
  NothingHeld : Held
  Literal : (x : Cell) → Held
  OfKind : (of : Kind) → Held

-- what its numbers name, beside cells of its routine
pub data Names : Type 0 where
  NoName : Names
  ALeaf : (v : ℕ) → Names
  AProcedure : (p : ℕ) → Names
  ASemaphore : (s : ℕ) → Names
  Semaphores : (list : List ℕ) → Names
  ATask : (t : ℕ) → Names
  -- with the interrupt of a schedule, where it has one
  ATaskWhen : (t : ℕ) (when : StartForm) → Names
  AWhen : (when : StartForm) → Names
  AnInterrupt : (d : ℕ) → Names
  -- a terminal that takes texts, and a format; a terminal that gives texts
  AWriter : (d format : ℕ) → Names
  AReader : (d : ℕ) → Names
  AnInput : (d : ℕ) → Names
  AnOutput : (d : ℕ) → Names

-- which cells of its routine it names; only `AnyCell` may be a reference
pub data Cells : Type 0 where
  NoCells : Cells
  AnyCell : (c : ℕ) → Cells
  OneCell : (c : ℕ) → Cells
  -- n of them from c on
  ManyCells : (c n : ℕ) → Cells
  -- the control, the step and the limit of a loop
  LoopCells : (c : ℕ) → Cells
  -- as many as a format has items with a value
  ReadCells : (c format : ℕ) → Cells

-- to which instructions it may jump
pub data Targets : Type 0 where
  NoTarget : Targets
  Target : (i : ℕ) → Targets
  AnyTarget : (list : List ℕ) → Targets

-- what is asked of an operand
pub data Asked : Type 0 where
  Anything : Asked
  SomeFixed : Asked
  SomeReference : Asked
  Exactly : (of : Kind) → Asked

-- the operands that it takes, the top one first
pub data Takes : Type 0 where
  These : (wants : List Asked) → Takes
  Arguments : (p : ℕ) → Takes
  OwnResult : Takes
  Values : (format : ℕ) → Takes

-- which kinds must be just the same: that of the value on top and the one that is said, or those of its cells
pub data Exact : Type 0 where
  AnyKinds : Exact
  KindOfCells : Exact
  KindOfLeaf : (v : ℕ) → Exact
  -- of what the reference below the value refers to
  KindReferred : Exact
  KindSent : (d : ℕ) → Exact
  KindsOfParameters : (p : ℕ) → Exact
  CellsOf : (of : Kind) → Exact
  FixedCells : Exact

-- an operator or a conversion, which has a row for some kinds alone
pub data Operation : Type 0 where
  NoOperation : Operation
  Conversion : (to : Kind) → Operation
  OnOne : (op : Monad) → Operation
  OnTwo : (op : Dyad) → Operation

-- the kind of what it pushes
pub data Pushes : Type 0 where
  NoValue : Pushes
  -- that of the operation's result
  Made : Pushes
  AValue : (k : CellKind) → Pushes
  OfCell : (c : ℕ) → Pushes
  OfLeaf : (v : ℕ) → Pushes
  ToCell : (c : ℕ) → Pushes
  ToLeaf : (v : ℕ) → Pushes
  -- of what the reference on top refers to
  OfReferred : Pushes
  -- that of the value on top
  SameAgain : Pushes
  OfProcedure : (p : ℕ) → Pushes
  OfInput : (d : ℕ) → Pushes

-- whether the instruction behind it may come next
pub data Way : Type 0 where
  GoesOn : Way
  Stops : Way
  Returns : Way
  Finishes : Way

-- what keeps its limits: a list of semaphores, bounds, or a format
pub data Limits : Type 0 where
  NoLimits : Limits
  OfSemaphores : (list : List ℕ) → Limits
  OfBounds : (bounds : List Bounds) → Limits
  -- the items of a format suit the values that are taken, or the cells from c on
  OfValues : (format : ℕ) → Limits
  OfCells : (c format : ℕ) → Limits

pub record Opcode : Type 0 where
  pub holds : Held
  pub names : Names
  pub cells : Cells
  pub targets : Targets
  pub takes : Takes
  pub exact : Exact
  pub operation : Operation
  pub pushes : Pushes
  pub calls : Option ℕ
  pub way : Way
  pub limits : Limits

-- it only goes on
abbrev pub plain : Opcode
plain = record {
  holds = NothingHeld;
  names = NoName;
  cells = NoCells;
  targets = NoTarget;
  takes = These [];
  exact = AnyKinds;
  operation = NoOperation;
  pushes = NoValue;
  calls = None;
  way = GoesOn;
  limits = NoLimits;
}

abbrev pub offset : Asked
offset = Exactly (kind.Fixed 31)

-- values of a schedule, the top one first
abbrev pub scheduled : List Kind → List Asked
scheduled kinds = reverse (map Exactly kinds)

abbrev pub priority_asked : Bool → List Asked
priority_asked true = SomeFixed ∷ []
priority_asked false = []

abbrev pub activation_asked : Activation → List Asked
activation_asked a = priority_asked a.priority ++ scheduled (start_kinds a.start ++ repeat_kinds a.repeat)

abbrev pub opcode : Instr → Opcode
opcode (Const x) = record plain { holds = Literal x; pushes = AValue (cell_kind_of x) }
opcode (Load c) = record plain { cells = AnyCell c; pushes = OfCell c }
opcode (Store c) = record plain { cells = OneCell c; takes = These (Anything ∷ []); exact = KindOfCells }
opcode (Fill c n of) = record plain { holds = OfKind of; cells = ManyCells c n; exact = CellsOf of }
opcode Drop = record plain { takes = These (Anything ∷ []) }
opcode (Conv to) = record plain {
  holds = OfKind to;
  takes = These (Anything ∷ []);
  operation = Conversion to;
  pushes = Made;
}
opcode (Index bounds) = record plain {
  takes = These (replicate (length bounds) SomeFixed);
  pushes = AValue (Plain (kind.Fixed 31));
  limits = OfBounds bounds;
}
opcode (LoadAt c n) = record plain { cells = ManyCells c n; takes = These (offset ∷ []); pushes = OfCell c }
opcode (StoreAt c n) = record plain {
  cells = ManyCells c n;
  takes = These (Anything ∷ offset ∷ []);
  exact = KindOfCells;
}
opcode (Read v) = record plain { names = ALeaf v; pushes = OfLeaf v }
opcode (Write v) = record plain { names = ALeaf v; takes = These (Anything ∷ []); exact = KindOfLeaf v }
opcode (ReadAt v) = record plain { names = ALeaf v; takes = These (offset ∷ []); pushes = OfLeaf v }
opcode (WriteAt v) = record plain { names = ALeaf v; takes = These (Anything ∷ offset ∷ []); exact = KindOfLeaf v }
opcode (RefSlot v) = record plain { names = ALeaf v; pushes = ToLeaf v }
opcode (RefSlotAt v) = record plain { names = ALeaf v; takes = These (offset ∷ []); pushes = ToLeaf v }
opcode (RefCell c) = record plain { cells = OneCell c; pushes = ToCell c }
opcode (RefCellAt c n) = record plain { cells = ManyCells c n; takes = These (offset ∷ []); pushes = ToCell c }
opcode ReadRef = record plain { takes = These (SomeReference ∷ []); pushes = OfReferred }
opcode WriteRef = record plain { takes = These (Anything ∷ SomeReference ∷ []); exact = KindReferred }
opcode (Jump i) = record plain { targets = Target i; way = Stops }
opcode (JumpZero i) = record plain { targets = Target i; takes = These (Exactly (kind.Bits 1) ∷ []) }
opcode (Case list) = record plain { targets = AnyTarget list; takes = These (SomeFixed ∷ []) }
opcode Turn = plain
opcode (Call p) = record plain {
  names = AProcedure p;
  takes = Arguments p;
  exact = KindsOfParameters p;
  pushes = OfProcedure p;
  calls = Some p;
}
opcode Return = record plain { takes = OwnResult; way = Returns }
opcode End = record plain { way = Finishes }
opcode (Trap trap) = record plain { way = Stops }
opcode (Within c) = record plain { cells = LoopCells c; exact = FixedCells; pushes = AValue (Plain (kind.Bits 1)) }
opcode (Advance c i) = record plain { cells = LoopCells c; targets = Target i; exact = FixedCells }
opcode NonZero = record plain { takes = These (SomeFixed ∷ []); pushes = SameAgain }
opcode (Monadic op) = record plain { takes = These (Anything ∷ []); operation = OnOne op; pushes = Made }
opcode (Dyadic op) = record plain { takes = These (Anything ∷ Anything ∷ []); operation = OnTwo op; pushes = Made }
opcode Now = record plain { pushes = AValue (Plain kind.Clock) }
opcode (Request list) = record plain { names = Semaphores list; limits = OfSemaphores list }
opcode (Release list) = record plain { names = Semaphores list; limits = OfSemaphores list }
opcode (Try s) = record plain { names = ASemaphore s; pushes = AValue (Plain (kind.Bits 1)) }
opcode (Activate a) = record plain {
  names = ATaskWhen a.task a.start;
  takes = These (activation_asked a);
}
opcode (Continue c) = record plain {
  names = ATaskWhen c.task (start_or_free c.once);
  takes = These (scheduled (start_kinds (start_or_free c.once)));
}
opcode (Resume once) = record plain {
  names = AWhen (as_start once);
  takes = These (scheduled (start_kinds (as_start once)));
}
opcode (Suspend t) = record plain { names = ATask t }
opcode (Terminate t) = record plain { names = ATask t }
opcode (Prevent t) = record plain { names = ATask t }
opcode SuspendOwn = plain
opcode TerminateOwn = record plain { way = Stops }
opcode PreventOwn = plain
opcode (Enable d) = record plain { names = AnInterrupt d }
opcode (Disable d) = record plain { names = AnInterrupt d }
opcode (Trigger d) = record plain { names = AnInterrupt d }
opcode (Put d format) = record plain { names = AWriter d format; takes = Values format; limits = OfValues format }
opcode (Get g) = record plain {
  names = AReader g.device;
  cells = ReadCells g.first g.format;
  limits = OfCells g.first g.format;
}
opcode (Take d) = record plain { names = AnInput d; pushes = OfInput d }
opcode (Send d) = record plain { names = AnOutput d; takes = These (Anything ∷ []); exact = KindSent d }
