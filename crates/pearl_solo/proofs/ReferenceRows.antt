-- The rows of references, where they apply.
use Rattle.std.proofs.Common.{◌≡◌, ◌≢◌, ℕ, ◌+◌, ◌-◌, ◌<◌, ◌≤◌, List, [], ◌∷◌, Option, Some, None, Ok, length, drop, slice_get, refl, sym, ap, ◌∙◌, subst, Bool, true, false, eqb, arith}
use Rattle.std.specs.Prelude.{IsSome, option_map}
use Rattle.std.proofs.lemmas.Option.{same_Some}
use Rattle.pearl_value.specs.declared.kind.Kind.{Kind}
use Rattle.pearl_value.specs.declared.cell.Cell.{Cell}
use Rattle.pearl_value.specs.declared.cell.Cell.TheVariants.{Fixed, Bits, Chars, Clock, Span, Ref}
use Rattle.pearl_value.specs.declared.cell.Place.{Place}
use Rattle.pearl_value.specs.declared.cell.Place.TheVariants as place
use Rattle.pearl_rules.specs.declared.action.Action.TheVariants as action
use Rattle.pearl_rules.specs.declared.action.Answer.{Answer}
use Rattle.pearl_stack.specs.declared.stack.Frame as size
use Rattle.pearl_stack.specs.Frames.{Frame, Stack, cell_at, top_operands, used, without, with_cell, popped, pushed, moved}
use Rattle.pearl_instructions.specs.Steps as step
use Rattle.pearl_instructions.specs.Steps.{Step, Silent, Offers, given, next, leaves, asks, acts}
use Rattle.pearl_instructions.specs.Cells.{read_reference, write_reference}
use Rattle.pearl_solo.specs.Answered.{place_in}
use Rattle.pearl_silent.specs.Steps.{GoesOn, on_top, Applies, Does, IsSizes, made_on}
use Rattle.pearl_silent.proofs.Offered.{given_some, silent_does, made_room, same_applies, pushed_some}

some_of : {A : Type 0} (o : Option A) (x : A) → o ≡ Some x → IsSome o
some_of None x e = cc
some_of (Some y) x e = refl

-- reading

abbrev read_row : List Frame → Step
read_row frames = on_top (λ f lower. step.popped f.operands (λ r left. read_reference f lower left r)) frames

read_place_by : (f : Frame) (lower : List Frame) (room : ℕ) (left : List Cell) (r : Cell) → Applies (read_reference f lower left r) room → IsSome (place_in r)
read_place_by f lower room left (Ref kind at) a = refl
read_place_by f lower room left (Fixed len n) a = absurd a
read_place_by f lower room left (Bits len n) a = absurd a
read_place_by f lower room left (Chars text) a = absurd a
read_place_by f lower room left (Clock time) a = absurd a
read_place_by f lower room left (Span time) a = absurd a

read_place_at : (f : Frame) (lower : List Frame) (room : ℕ) (xs : List Cell) (r : Cell) → Applies (step.popped xs (λ r left. read_reference f lower left r)) room →
    slice_get xs 0 ≡ Some r → IsSome (place_in r)
read_place_at f lower room [] r a e = cc
read_place_at f lower room (y ∷ left) r a e = subst (λ r. IsSome (place_in r)) (same_Some y r e) (read_place_by f lower room left y a)

pub read_place : (frames : List Frame) (room : ℕ) (r : Cell) → Applies (read_row frames) room → slice_get (top_operands frames) 0 ≡ Some r → IsSome (place_in r)
read_place [] room r a e = absurd a
read_place (f ∷ lower) room r a e = read_place_at f lower room f.operands r a e

of_place : (r : Cell) (p : Place) → place_in r ≡ Some p → (kind : Kind) × (r ≡ Ref kind p)
of_place (Ref kind at) p e = (kind, ap (Ref kind) (same_Some at p e))
of_place (Fixed len n) p e = cc
of_place (Bits len n) p e = cc
of_place (Chars text) p e = cc
of_place (Clock time) p e = cc
of_place (Span time) p e = cc

read_slot_at : (f : Frame) (lower : List Frame) (xs : List Cell) (r : Cell) (s : ℕ) → slice_get xs 0 ≡ Some r → place_in r ≡ Some (place.Slot s) →
    (go : Answer → List Frame) × (step.popped xs (λ r left. read_reference f lower left r) ≡ Offers (action.Read s) go)
read_slot_at f lower [] r s e h = cc
read_slot_at f lower (y ∷ left) r s e h =
    let is = of_place y (place.Slot s) (ap place_in (same_Some y r e) ∙ h) in
    (_, ap (read_reference f lower left) is.1)

pub read_slot : (frames : List Frame) (r : Cell) (s : ℕ) → slice_get (top_operands frames) 0 ≡ Some r → place_in r ≡ Some (place.Slot s) →
    (go : Answer → List Frame) × (read_row frames ≡ Offers (action.Read s) go)
read_slot [] r s e h = cc
read_slot (f ∷ lower) r s e h = read_slot_at f lower f.operands r s e h

read_cell_at : (f : Frame) (lower : List Frame) (room n c : ℕ) (xs : List Cell) (r : Cell) → Applies (step.popped xs (λ r left. read_reference f lower left r)) room →
    slice_get xs 0 ≡ Some r → place_in r ≡ Some (place.Cell n c) →
    IsSome (cell_at (f ∷ lower) n c) × ((x : Cell) → cell_at (f ∷ lower) n c ≡ Some x → step.popped xs (λ r left. read_reference f lower left r) ≡ leaves f lower (x ∷ drop 1 xs))
read_cell_at f lower room n c [] r a e h = absurd a
read_cell_at f lower room n c (y ∷ left) r a e h =
    let is = of_place y (place.Cell n c) (ap place_in (same_Some y r e) ∙ h) in
    let row : read_reference f lower left y ≡ given (cell_at (f ∷ lower) n c) (λ x. leaves f lower (x ∷ left)) = ap (read_reference f lower left) is.1 in
    let some = given_some (cell_at (f ∷ lower) n c) (λ x. leaves f lower (x ∷ left)) room (subst (λ s. Applies s room) row a) in (
      some_of (cell_at (f ∷ lower) n c) some.0 some.1,
      λ x g. row ∙ ap (λ o. given o (λ x. leaves f lower (x ∷ left))) g,
    )

pub record ReadsCell (frames : List Frame) (n c : ℕ) : Type 0 where
  pub there : IsSome (cell_at frames n c)
  pub is : (x : Cell) → cell_at frames n c ≡ Some x → read_row frames ≡ made_on 1 (Ok x) frames

pub read_cell : (frames : List Frame) (room n c : ℕ) (r : Cell) → Applies (read_row frames) room → slice_get (top_operands frames) 0 ≡ Some r →
    place_in r ≡ Some (place.Cell n c) → ReadsCell frames n c
read_cell [] room n c r a e h = absurd a
read_cell (f ∷ lower) room n c r a e h = let by = read_cell_at f lower room n c f.operands r a e h in record { there = by.0; is = by.1 }

-- the cells stay where operands are taken off
cell_stays : (f g : Frame) (lower : List Frame) (n c : ℕ) → g.cells ≡ f.cells → cell_at (g ∷ lower) n c ≡ cell_at (f ∷ lower) n c
cell_stays f g lower n c e = by (eqb n (length lower)) refl
  where
    by : (b : Bool) → eqb n (length lower) ≡ b → cell_at (g ∷ lower) n c ≡ cell_at (f ∷ lower) n c
    by true t = rw t (ap (λ xs. slice_get xs c) e)
    by false t = rw t refl

cell_under : (frames : List Frame) (n c : ℕ) → cell_at (without 1 frames) n c ≡ cell_at frames n c
cell_under [] n c = refl
cell_under (f ∷ lower) n c = cell_stays f (record f { operands = drop 1 f.operands }) lower n c refl

-- a copy of the cell is pushed in the place of the reference

made_moved : (frames : List Frame) (here : size.Frame) (x : Cell) → IsSizes here frames → made_on 1 (Ok x) frames ≡ Silent (moved (here.instruction + 1) (pushed x (without 1 frames)))
made_moved [] here x never = absurd never
made_moved (f ∷ lower) here x is = ap (λ h. Silent (moved (h.instruction + 1) (pushed x (without 1 (f ∷ lower))))) (sym is)

pub read_there : (old off : Stack) (n c : ℕ) → ReadsCell old.frames n c → off ≡ record old { frames = without 1 old.frames } → IsSome (cell_at off.frames n c)
read_there old off n c r e = subst (λ o. IsSome o) (sym (ap (λ (s : Stack). cell_at s.frames n c) e ∙ cell_under old.frames n c)) r.there

pub read_room : (old off : Stack) (n c : ℕ) → ReadsCell old.frames n c → Applies (read_row old.frames) old.room → off ≡ record old { frames = without 1 old.frames } →
    used off.frames < off.room
read_room old off n c r a e = subst (λ (s : Stack). used s.frames < s.room) (sym e) (by (cell_at old.frames n c) refl)
  where
    by : (o : Option Cell) → cell_at old.frames n c ≡ o → used (without 1 old.frames) < old.room
    by None t = let none = subst (λ o. IsSome o) t r.there in cc
    by (Some x) t = made_room old.frames 1 old.room x (same_applies _ _ old.room (r.is x t) a)

pub pushes_some : (off on : Stack) (o : Option Cell) → off.frames ≢ [] → option_map (λ x. record off { frames = pushed x off.frames }) o ≡ Some on → on.frames ≢ []
pushes_some off on None some h = cc
pushes_some off on (Some x) some h =
    subst (λ (s : Stack). s.frames ≢ []) (same_Some (record off { frames = pushed x off.frames }) on h) (pushed_some x off.frames some)

pub read_silent : (old off on now : Stack) (here : size.Frame) (n c : ℕ) → IsSizes here old.frames → ReadsCell old.frames n c →
    off ≡ record old { frames = without 1 old.frames } → option_map (λ x. record off { frames = pushed x off.frames }) (cell_at off.frames n c) ≡ Some on →
    now ≡ record on { frames = moved (here.instruction + 1) on.frames } → Does (read_row old.frames) old now GoesOn
read_silent old off on now here n c is r e h m = by (cell_at old.frames n c) refl
  where
    by : (o : Option Cell) → cell_at old.frames n c ≡ o → Does (read_row old.frames) old now GoesOn
    by None t = let none = subst (λ o. IsSome o) t r.there in cc
    by (Some x) t =
        let there : cell_at off.frames n c ≡ Some x = ap (λ (s : Stack). cell_at s.frames n c) e ∙ (cell_under old.frames n c ∙ t) in
        let same : record off { frames = pushed x off.frames } ≡ on =
        same_Some (record off { frames = pushed x off.frames }) on (sym (ap (option_map (λ x. record off { frames = pushed x off.frames })) there) ∙ h) in
        let whole : now ≡ record old { frames = moved (here.instruction + 1) (pushed x (without 1 old.frames)) } =
        m ∙ (ap (λ (s : Stack). record s { frames = moved (here.instruction + 1) s.frames }) (sym same)
        ∙ ap (λ (s : Stack). record s { frames = moved (here.instruction + 1) (pushed x s.frames) }) e) in
        silent_does (read_row old.frames) old now _ (r.is x t ∙ made_moved old.frames here x is) whole

-- writing

abbrev write_row : List Frame → Step
write_row frames = on_top (λ f lower. step.popped f.operands (λ x more. step.popped more (λ r left. write_reference x f lower left r))) frames

write_place_by : (f : Frame) (lower : List Frame) (room : ℕ) (left : List Cell) (x r : Cell) → Applies (write_reference x f lower left r) room → IsSome (place_in r)
write_place_by f lower room left x (Ref kind at) a = refl
write_place_by f lower room left x (Fixed len n) a = absurd a
write_place_by f lower room left x (Bits len n) a = absurd a
write_place_by f lower room left x (Chars text) a = absurd a
write_place_by f lower room left x (Clock time) a = absurd a
write_place_by f lower room left x (Span time) a = absurd a

write_place_at : (f : Frame) (lower : List Frame) (room : ℕ) (xs : List Cell) (r : Cell) →
    Applies (step.popped xs (λ x more. step.popped more (λ r left. write_reference x f lower left r))) room → slice_get xs 1 ≡ Some r → IsSome (place_in r)
write_place_at f lower room [] r a e = absurd a
write_place_at f lower room (x ∷ []) r a e = absurd a
write_place_at f lower room (x ∷ y ∷ left) r a e = subst (λ r. IsSome (place_in r)) (same_Some y r e) (write_place_by f lower room left x y a)

pub write_place : (frames : List Frame) (room : ℕ) (r : Cell) → Applies (write_row frames) room → slice_get (top_operands frames) 1 ≡ Some r → IsSome (place_in r)
write_place [] room r a e = absurd a
write_place (f ∷ lower) room r a e = write_place_at f lower room f.operands r a e

write_slot_at : (f : Frame) (lower : List Frame) (xs : List Cell) (x r : Cell) (s : ℕ) → slice_get xs 0 ≡ Some x → slice_get xs 1 ≡ Some r →
    place_in r ≡ Some (place.Slot s) →
    (go : Answer → List Frame) × (step.popped xs (λ x more. step.popped more (λ r left. write_reference x f lower left r)) ≡ Offers (action.Write s x) go)
write_slot_at f lower [] x r s d e h = cc
write_slot_at f lower (z ∷ []) x r s d e h = cc
write_slot_at f lower (z ∷ y ∷ left) x r s d e h =
    let is = of_place y (place.Slot s) (ap place_in (same_Some y r e) ∙ h) in
    (_, ap (write_reference z f lower left) is.1 ∙ ap (λ x. acts (action.Write s x) f lower left) (same_Some z x d))

pub write_slot : (frames : List Frame) (x r : Cell) (s : ℕ) → slice_get (top_operands frames) 0 ≡ Some x → slice_get (top_operands frames) 1 ≡ Some r →
    place_in r ≡ Some (place.Slot s) → (go : Answer → List Frame) × (write_row frames ≡ Offers (action.Write s x) go)
write_slot [] x r s d e h = cc
write_slot (f ∷ lower) x r s d e h = write_slot_at f lower f.operands x r s d e h

write_cell_at : (f : Frame) (lower : List Frame) (room n c : ℕ) (xs : List Cell) (x r : Cell) →
    Applies (step.popped xs (λ x more. step.popped more (λ r left. write_reference x f lower left r))) room → slice_get xs 0 ≡ Some x → slice_get xs 1 ≡ Some r →
    place_in r ≡ Some (place.Cell n c) →
    IsSome (cell_at (f ∷ lower) n c)
    × (step.popped xs (λ x more. step.popped more (λ r left. write_reference x f lower left r)) ≡ Silent (with_cell (next f (drop 1 (drop 1 xs)) ∷ lower) n c x))
write_cell_at f lower room n c [] x r a d e h = absurd a
write_cell_at f lower room n c (z ∷ []) x r a d e h = absurd a
write_cell_at f lower room n c (z ∷ y ∷ left) x r a d e h =
    let is = of_place y (place.Cell n c) (ap place_in (same_Some y r e) ∙ h) in
    let row : write_reference z f lower left y ≡ given (cell_at (f ∷ lower) n c) (λ old. Silent (with_cell (next f left ∷ lower) n c z)) = ap (write_reference z f lower left) is.1 in
    let some = given_some (cell_at (f ∷ lower) n c) (λ old. Silent (with_cell (next f left ∷ lower) n c z)) room (subst (λ s. Applies s room) row a) in (
      some_of (cell_at (f ∷ lower) n c) some.0 some.1,
      row ∙ (ap (λ o. given o (λ old. Silent (with_cell (next f left ∷ lower) n c z))) some.1 ∙ ap (λ x. Silent (with_cell (next f left ∷ lower) n c x)) (same_Some z x d)),
    )

pub record WritesCell (frames : List Frame) (here : size.Frame) (n c : ℕ) (x : Cell) : Type 0 where
  pub there : IsSome (cell_at frames n c)
  pub is : write_row frames ≡ Silent (with_cell (moved (here.instruction + 1) (popped (popped frames))) n c x)

pub write_cell : (frames : List Frame) (here : size.Frame) (room n c : ℕ) (x r : Cell) → IsSizes here frames → Applies (write_row frames) room →
    slice_get (top_operands frames) 0 ≡ Some x → slice_get (top_operands frames) 1 ≡ Some r → place_in r ≡ Some (place.Cell n c) → WritesCell frames here n c x
write_cell [] here room n c x r never a d e h = absurd never
write_cell (f ∷ lower) here room n c x r is a d e h =
    let by = write_cell_at f lower room n c f.operands x r a d e h in
    record { there = by.0; is = by.1 ∙ ap (λ h. Silent (with_cell (moved (h.instruction + 1) (popped (popped (f ∷ lower)))) n c x)) (sym is) }

-- the value is put into the cell, and the reference is taken off

first_of : (xs : List Cell) → 1 < length xs → (x : Cell) × (slice_get xs 0 ≡ Some x)
first_of [] less = absurd (omega (arith, less))
first_of (x ∷ xs) less = (x, refl)

pub write_there : (frames : List Frame) (here : size.Frame) (room n c : ℕ) (r : Cell) → IsSizes here frames → Applies (write_row frames) room → 1 < length (top_operands frames) →
    slice_get (top_operands frames) 1 ≡ Some r → place_in r ≡ Some (place.Cell n c) → IsSome (cell_at frames n c)
write_there frames here room n c r is a less e h = let x = first_of (top_operands frames) less in (write_cell frames here room n c x.0 r is a x.1 e h).there

pub stores : (old on : Stack) (n c : ℕ) → option_map (λ x. record old { frames = popped (with_cell old.frames n c x) }) (slice_get (top_operands old.frames) 0) ≡ Some on →
    (x : Cell) × (slice_get (top_operands old.frames) 0 ≡ Some x) × (on ≡ record old { frames = popped (with_cell old.frames n c x) })
stores old on n c h = by (slice_get (top_operands old.frames) 0) refl h
  where
    by : (o : Option Cell) → slice_get (top_operands old.frames) 0 ≡ o → option_map (λ x. record old { frames = popped (with_cell old.frames n c x) }) o ≡ Some on →
        (x : Cell) × (slice_get (top_operands old.frames) 0 ≡ Some x) × (on ≡ record old { frames = popped (with_cell old.frames n c x) })
    by None e h = cc
    by (Some x) e h = (x, e, sym (same_Some (record old { frames = popped (with_cell old.frames n c x) }) on h))

operands_stored : (frames : List Frame) (n c : ℕ) (x : Cell) → top_operands (popped (with_cell frames n c x)) ≡ drop 1 (top_operands frames)
operands_stored [] n c x = refl
operands_stored (f ∷ lower) n c x = by (eqb n (length lower)) refl
  where
    by : (b : Bool) → eqb n (length lower) ≡ b → top_operands (popped (with_cell (f ∷ lower) n c x)) ≡ drop 1 f.operands
    by true t = rw t refl
    by false t = rw t refl

less_one : (xs : List Cell) → 1 < length xs → 1 ≤ length (drop 1 xs)
less_one [] less = absurd (omega (arith, less))
less_one (x ∷ xs) less = omega (arith, less)

pub stored_long : (old on : Stack) (n c : ℕ) → 1 < length (top_operands old.frames) →
    option_map (λ x. record old { frames = popped (with_cell old.frames n c x) }) (slice_get (top_operands old.frames) 0) ≡ Some on → 1 ≤ length (top_operands on.frames)
stored_long old on n c less h =
    let s = stores old on n c h in
    subst (λ xs. 1 ≤ length xs) (sym (ap (λ (s : Stack). top_operands s.frames) s.2 ∙ operands_stored old.frames n c s.0)) (less_one (top_operands old.frames) less)

some_frames : (frames : List Frame) → 1 ≤ length (top_operands frames) → without 1 frames ≢ []
some_frames [] less = absurd (omega (arith, less))
some_frames (f ∷ lower) less = λ e. cc

pub stored_some : (on off : Stack) → 1 ≤ length (top_operands on.frames) → off ≡ record on { frames = without 1 on.frames } → off.frames ≢ []
stored_some on off less e = subst (λ (s : Stack). s.frames ≢ []) (sym e) (some_frames on.frames less)

stored_moved : (frames : List Frame) (p n c : ℕ) (x : Cell) → moved p (without 1 (popped (with_cell frames n c x))) ≡ with_cell (moved p (popped (popped frames))) n c x
stored_moved [] p n c x = refl
stored_moved (f ∷ lower) p n c x = by (eqb n (length lower)) refl
  where
    by : (b : Bool) → eqb n (length lower) ≡ b → moved p (without 1 (popped (with_cell (f ∷ lower) n c x))) ≡ with_cell (moved p (popped (popped (f ∷ lower)))) n c x
    by true t = rw t refl
    by false t = rw t refl

pub write_silent : (old on off now : Stack) (here : size.Frame) (n c : ℕ) (r : Cell) → IsSizes here old.frames → Applies (write_row old.frames) old.room →
    slice_get (top_operands old.frames) 1 ≡ Some r → place_in r ≡ Some (place.Cell n c) →
    option_map (λ x. record old { frames = popped (with_cell old.frames n c x) }) (slice_get (top_operands old.frames) 0) ≡ Some on →
    off ≡ record on { frames = without 1 on.frames } → now ≡ record off { frames = moved (here.instruction + 1) off.frames } → Does (write_row old.frames) old now GoesOn
write_silent old on off now here n c r is a e h stored e1 e2 =
    let p = here.instruction + 1 in
    let s = stores old on n c stored in
    let at = write_cell old.frames here old.room n c s.0 r is a s.1 e h in
    let whole : now ≡ record old { frames = with_cell (moved p (popped (popped old.frames))) n c s.0 } =
    e2 ∙ (ap (λ (s : Stack). record s { frames = moved p s.frames }) e1 ∙ (ap (λ (s : Stack). record s { frames = moved p (without 1 s.frames) }) s.2
    ∙ ap (λ fs. record old { frames = fs }) (stored_moved old.frames p n c s.0))) in
    silent_does (write_row old.frames) old now _ at.is whole
