-- What is left where cells of the top frame are copied.
use Rattle.std.proofs.Common.{◌≡◌, ◌≢◌, ℕ, suc, List, [], Option, Some, None, Ok, length, slice_get, refl, sym, ap, ◌∙◌}
use Rattle.std.specs.Prelude.{IsSome, option_map}
use Rattle.std.proofs.lemmas.Option.{same_Some}
use Rattle.pearl_value.specs.declared.cell.Cell.{Cell}
use Rattle.pearl_cells.specs.Filled.{filled}
use Rattle.pearl_stack.specs.Frames.{Frame, Stack, cell_at, top_operands, pushed, popped, without, with_cell}
use Rattle.pearl_silent.specs.Steps.{GoesOn, Does, next_of, top_cells, with_top_cell, made_on, stored_on}
use Rattle.pearl_silent.proofs.Made.{silent_does, made_silent}
use Rattle.pearl_silent.proofs.Tops.{own_cell_at, own_cell_set, cells_stay, without_long}
use Rattle.pearl_silent.proofs.CellRows.{stored_silent}

pub some_of : {A B : Type 0} (o : Option A) (go : A → B) (new : B) → option_map go o ≡ Some new → (x : A) × (o ≡ Some x) × (go x ≡ new)
some_of None go new e = cc
some_of (Some x) go new e = (x, refl, same_Some (go x) new e)

pub is_some : {A : Type 0} (o : Option A) → IsSome o → (x : A) × (o ≡ Some x)
is_some None some = cc
is_some (Some x) some = (x, refl)

-- a cell of the top frame, by the frame's number, after operands were taken off
pub cell_left : (frames : List Frame) (n top c : ℕ) → suc top ≡ length frames → cell_at (without n frames) top c ≡ slice_get (top_cells frames) c
cell_left frames n top c e =
    own_cell_at (without n frames) top c (e ∙ sym (without_long n frames)) ∙ ap (λ xs. slice_get xs c) (cells_stay n frames)

-- a copy of a cell was pushed
pub record Copied (old new : Stack) (n c : ℕ) : Type 0 where
  pub x : Cell
  pub there : slice_get (top_cells old.frames) c ≡ Some x
  pub is : new ≡ record old { frames = pushed x (without n old.frames) }

pub copied : (old left new : Stack) (n top c : ℕ) → suc top ≡ length old.frames → left ≡ record old { frames = without n old.frames } →
    option_map (λ x. record left { frames = pushed x left.frames }) (cell_at left.frames top c) ≡ Some new → Copied old new n c
copied old left new n top c e is go =
    let some = some_of (cell_at left.frames top c) (λ x. record left { frames = pushed x left.frames }) new go in
    let at : cell_at left.frames top c ≡ slice_get (top_cells old.frames) c = ap (λ (s : Stack). cell_at s.frames top c) is ∙ cell_left old.frames n top c e in
    record {
      x = some.0;
      there = sym at ∙ some.1;
      is = sym some.2 ∙ ap (λ (s : Stack). record s { frames = pushed some.0 s.frames }) is;
    }

pub copied_does : (old new now : Stack) (n c : ℕ) → old.frames ≢ [] → Copied old new n c → now ≡ record new { frames = next_of new.frames } →
    (x : Cell) → slice_get (top_cells old.frames) c ≡ Some x → Does (made_on n (Ok x) old.frames) old now GoesOn
copied_does old new now n c some d e x there =
    let same : d.x ≡ x = same_Some d.x x (sym d.there ∙ there) in
    let is : now ≡ record old { frames = next_of (pushed x (without n old.frames)) } =
    e ∙ (ap (λ (s : Stack). record s { frames = next_of s.frames }) d.is ∙ ap (λ x. record old { frames = next_of (pushed x (without n old.frames)) }) same) in
    silent_does (made_on n (Ok x) old.frames) old now _ (made_silent old.frames n x some) is

-- the top operand was stored
pub record Stored (old new : Stack) (c : ℕ) : Type 0 where
  pub x : Cell
  pub there : slice_get (top_operands old.frames) 0 ≡ Some x
  pub is : new ≡ record old { frames = popped (with_top_cell c x old.frames) }

pub stored : (old new : Stack) (top c : ℕ) → suc top ≡ length old.frames →
    option_map (λ x. record old { frames = popped (with_cell old.frames top c x) }) (slice_get (top_operands old.frames) 0) ≡ Some new → Stored old new c
stored old new top c e go =
    let some = some_of (slice_get (top_operands old.frames) 0) (λ x. record old { frames = popped (with_cell old.frames top c x) }) new go in
    record {
      x = some.0;
      there = some.1;
      is = sym some.2 ∙ ap (λ fs. record old { frames = popped fs }) (own_cell_set old.frames top c some.0 e);
    }

pub stored_does : (old new left now : Stack) (c n : ℕ) → Stored old new c → IsSome (slice_get (top_cells old.frames) c) → left ≡ record new { frames = without n new.frames } →
    now ≡ record left { frames = next_of left.frames } → Does (stored_on c n old.frames) old now GoesOn
stored_does old new left now c n d some e is =
    silent_does (stored_on c n old.frames) old now _ (stored_silent old.frames c n d.x d.there some)
    (is ∙ (ap (λ (s : Stack). record s { frames = next_of s.frames }) e ∙ ap (λ (s : Stack). record s { frames = next_of (without n s.frames) }) d.is))

-- the top operand was filled with blanks
pub record FilledTop (old new : Stack) (len : ℕ) : Type 0 where
  pub x : Cell
  pub there : slice_get (top_operands old.frames) 0 ≡ Some x
  pub is : new ≡ record old { frames = pushed (filled len x) (popped old.frames) }

pub filled_top : (old new : Stack) (len : ℕ) →
    option_map (λ x. record old { frames = pushed (filled len x) (popped old.frames) }) (slice_get (top_operands old.frames) 0) ≡ Some new → FilledTop old new len
filled_top old new len go =
    let some = some_of (slice_get (top_operands old.frames) 0) (λ x. record old { frames = pushed (filled len x) (popped old.frames) }) new go in
    record { x = some.0; there = some.1; is = sym some.2 }

pub filled_does : (old new now : Stack) (len : ℕ) → old.frames ≢ [] → FilledTop old new len → now ≡ record new { frames = next_of new.frames } →
    (x : Cell) → slice_get (top_operands old.frames) 0 ≡ Some x → Does (made_on 1 (Ok (filled len x)) old.frames) old now GoesOn
filled_does old new now len some d e x there =
    let same : d.x ≡ x = same_Some d.x x (sym d.there ∙ there) in
    let is : now ≡ record old { frames = next_of (pushed (filled len x) (popped old.frames)) } =
    e ∙ (ap (λ (s : Stack). record s { frames = next_of s.frames }) d.is ∙ ap (λ x. record old { frames = next_of (pushed (filled len x) (popped old.frames)) }) same) in
    silent_does (made_on 1 (Ok (filled len x)) old.frames) old now _ (made_silent old.frames 1 (filled len x) some) is
