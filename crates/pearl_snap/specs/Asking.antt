-- What the frames of a state ask of the shapes before their places, so that these can be looked up in order.
use Rattle.std.specs.Prelude.{◌↔◌, ℕ, Bool, true, false, List, Option, Some, None, drop, reverse}
use Rattle.std.specs.List.{AllByRecursion}
use Rattle.pearl_value.specs.declared.kind.CellKind.{CellKind}
use Rattle.pearl_instructions.specs.declared.object.Parts.{Parts as Object}
use Rattle.pearl_verify.specs.Shapes.{shape_at}
use Rattle.pearl_saved.specs.declared.saved.FrameRecord.{FrameRecord}
use Rattle.pearl_snap.specs.declared.stack_rule.Asked.{Asked}
use Rattle.pearl_saved.specs.Rules.{AreOf}

abbrev pub HasShape : Option (List CellKind) → (arguments : ℕ) → FrameRecord → Type 0
HasShape None arguments f = ⊥
HasShape (Some shape) arguments f = AreOf (drop arguments shape) (reverse f.operands)

-- there is a shape before the frame's place, and but for so many on top it is that of the frame's operands
abbrev pub IsMet : Object → Asked → Type 0
IsMet o a = HasShape (shape_at o a.frame.now.routine a.frame.now.place) a.arguments a.frame.now

abbrev pub AreMet : Object → List Asked → Type 0
AreMet o asked = AllByRecursion (IsMet o) asked

-- something holds exactly if what is asked for besides is met, or, where nothing more can be asked for, it doesn't hold
abbrev pub Asks : Object → (old new : List Asked) → Type 0 → Bool → Type 0
Asks o old new fact true = AreMet o new ↔ (AreMet o old × fact)
Asks o old new fact false = fact → ⊥
