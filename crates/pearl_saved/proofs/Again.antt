-- What is recorded of a stack is its record, and the stack of a record is its stack.
use Rattle.std.proofs.Common.{◌≡◌, ℕ, ◌+◌, List, [], ◌∷◌, length, Some, refl, sym, ap, ◌∙◌}
use Rattle.std.specs.Prelude.{map, reverse}
use Rattle.std.proofs.lemmas.List.{reverse-reverse}
use Rattle.std.specs.List.{AllByRecursion}
use Rattle.pearl_value.specs.declared.kind.CellKind.{CellKind}
use Rattle.pearl_value.specs.declared.cell.Cell.{Cell}
use Rattle.pearl_value.specs.declared.cell.Cell.TheVariants.{Fixed, Bits, Chars, Clock, Span, Ref}
use Rattle.pearl_value.specs.declared.cell.Place.{Place}
use Rattle.pearl_value.specs.declared.cell.Place.TheVariants as place
use Rattle.pearl_value.specs.WellFormed.{IsValue}
use Rattle.pearl_stack.specs.Frames.{Frame}
use Rattle.pearl_instructions.specs.declared.object.Code.{Code}
use Rattle.pearl_instructions.specs.declared.object.Parts.{Parts as Object}
use Rattle.pearl_saved.specs.declared.saved.Target.{Target}
use Rattle.pearl_saved.specs.declared.saved.Target.TheVariants.{Slot, Own}
use Rattle.pearl_saved.specs.declared.saved.SavedCell.{SavedCell}
use Rattle.pearl_saved.specs.declared.saved.SavedCell.TheVariants.{Value, Variable, Array}
use Rattle.pearl_saved.specs.declared.saved.FrameRecord.{FrameRecord}
use Rattle.pearl_saved.specs.Rules.{kind_held, AreOf, IsHeld, Stands, IsStackOf}
use Rattle.pearl_saved.specs.Stacks.{target_of, cell_record, frame_record, stack_record, place_of, cell_made, frame_made, frames_made}
use Rattle.pearl_saved.proofs.Turned.{map_reversed, turned_twice, all_parted, all_turned, all_back}

-- ---- from a stack to its record and back

place_again : (p : Place) → place_of (target_of p) ≡ p
place_again (place.Slot slot) = refl
place_again (place.Cell frame cell) = refl

cell_again : (x : Cell) → cell_made (cell_record x) ≡ x
cell_again (Ref kind at) = ap (Ref kind) (place_again at)
cell_again (Fixed len value) = refl
cell_again (Bits len value) = refl
cell_again (Chars text) = refl
cell_again (Clock time) = refl
cell_again (Span time) = refl

each_again : {A B : Type 0} (f : A → B) (g : B → A) → ((x : A) → g (f x) ≡ x) → (xs : List A) → map g (map f xs) ≡ xs
each_again f g same [] = refl
each_again f g same (x ∷ xs) = ap (λ y. y ∷ map g (map f xs)) (same x) ∙ ap (λ ys. x ∷ ys) (each_again f g same xs)

operands_again : (xs : List Cell) → map cell_made (reverse (map cell_record (reverse xs))) ≡ xs
operands_again xs = ap (map cell_made) (turned_twice cell_record xs) ∙ each_again cell_record cell_made cell_again xs

frame_again : (f : Frame) → frame_made (frame_record f) ≡ f
frame_again f =
    ap (λ cells. record { routine = f.routine; place = f.place; cells = cells; operands = map cell_made (reverse (map cell_record (reverse f.operands))) })
    (each_again cell_record cell_made cell_again f.cells)
    ∙ ap (λ operands. record { routine = f.routine; place = f.place; cells = f.cells; operands = operands }) (operands_again f.operands)

pub stack_again : (frames : List Frame) → frames_made (stack_record frames) ≡ frames
stack_again frames = ap (map frame_made) (turned_twice frame_record frames) ∙ each_again frame_record frame_made frame_again frames

-- ---- from a record to its stack and back, where no cell is an array and what it has as a value is none but a value

record Plainly (x : SavedCell) : Type 0 where
  kind : CellKind
  is : kind_held x ≡ Some kind
  held : IsHeld x

target_again : (t : Target) → target_of (place_of t) ≡ t
target_again (Slot slot) = refl
target_again (Own frame cell) = refl

value_again : (x : Cell) → IsValue x → cell_record x ≡ Value x
value_again (Ref kind at) h = absurd h
value_again (Fixed len value) h = refl
value_again (Bits len value) h = refl
value_again (Chars text) h = refl
value_again (Clock time) h = refl
value_again (Span time) h = refl

saved_again : (x : SavedCell) → Plainly x → cell_record (cell_made x) ≡ x
saved_again (Value x) h = value_again x h.held
saved_again (Variable reference) h = ap (λ t. Variable (record { kind = reference.kind; target = t })) (target_again reference.target)
saved_again (Array array) h = let none = h.is in absurd cc

each_saved : {A B : Type 0} (P : A → Type 0) (f : A → B) (g : B → A) → ((x : A) → P x → g (f x) ≡ x) → (xs : List A) → AllByRecursion P xs → map g (map f xs) ≡ xs
each_saved P f g same [] h = refl
each_saved P f g same (x ∷ xs) h = ap (λ y. y ∷ map g (map f xs)) (same x h.0) ∙ ap (λ ys. x ∷ ys) (each_saved P f g same xs h.1)

plainly : (kinds : List CellKind) (xs : List SavedCell) → AreOf kinds xs → AllByRecursion IsHeld xs → AllByRecursion Plainly xs
plainly [] [] e held = tt
plainly [] (x ∷ xs) e held = absurd cc
plainly (k ∷ kinds) [] e held = absurd cc
plainly (k ∷ kinds) (x ∷ xs) e held =
    let one : kind_held x ≡ Some k = cc in
    let more : map kind_held xs ≡ map Some kinds = cc in
    (record { kind = k; is = one; held = held.0 }, plainly kinds xs more held.1)

record PlainFrame (f : FrameRecord) : Type 0 where
  cells : AllByRecursion Plainly f.cells
  operands : AllByRecursion Plainly f.operands

plain_frame : (code : Code) (shape : List CellKind) (f : FrameRecord) → Stands code shape f → PlainFrame f
plain_frame code shape f st =
    let held = all_parted IsHeld f.cells f.operands st.values in
    record {
      cells = plainly code.cells f.cells st.cells held.0;
      operands = all_back Plainly f.operands (plainly shape (reverse f.operands) st.operands (all_turned IsHeld f.operands held.1));
    }

plain_stack : (o : Object) (routine : ℕ) (frames : List FrameRecord) → IsStackOf o routine frames → AllByRecursion PlainFrame frames
plain_stack o routine [] h = absurd h
plain_stack o routine (f ∷ []) h = (plain_frame _ _ f h.1.stands, tt)
plain_stack o routine (f ∷ above ∷ more) h = (plain_frame _ _ f h.1.stands, plain_stack o above.routine (above ∷ more) h.2)

saved_operands_again : (xs : List SavedCell) → AllByRecursion Plainly xs → map cell_record (reverse (map cell_made (reverse xs))) ≡ xs
saved_operands_again xs h = ap (map cell_record) (turned_twice cell_made xs) ∙ each_saved Plainly cell_made cell_record saved_again xs h

saved_frame_again : (f : FrameRecord) → PlainFrame f → frame_record (frame_made f) ≡ f
saved_frame_again f h =
    ap (λ cells. record { routine = f.routine; place = f.place; cells = cells; operands = map cell_record (reverse (map cell_made (reverse f.operands))) })
    (each_saved Plainly cell_made cell_record saved_again f.cells h.cells)
    ∙ ap (λ operands. record { routine = f.routine; place = f.place; cells = f.cells; operands = operands }) (saved_operands_again f.operands h.operands)

pub record_again : (o : Object) (routine : ℕ) (frames : List FrameRecord) → IsStackOf o routine frames → stack_record (frames_made frames) ≡ frames
record_again o routine frames h =
    ap (map frame_record) (turned_twice frame_made frames)
    ∙ each_saved PlainFrame frame_made frame_record saved_frame_again frames (plain_stack o routine frames h)
