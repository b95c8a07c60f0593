-- GET: its code does what it means.
use Rattle.std.specs.Prelude.{◌≡◌, ℕ, suc, ◌+◌, ◌-◌, ◌≤◌, ◌<◌, ◌==◌, nat_le, nat_lt, ◌⊎◌, pos, negsuc, Bool, true, false, if◌then◌else◌, List, [], ◌∷◌, ◌++◌, length, map, take, drop, get_or, replicate, Option, Some, None, option_map, option_and_then, slice_get, slice_set}
use Rattle.std.specs.List.{AllZip}
use Rattle.std.proofs.Common.{inl, inr, refl, sym, subst, ap, ◌∙◌, arith, append_assoc}
use Rattle.std.proofs.lemmas.Bool.{leb-true}
use Rattle.std.proofs.lemmas.List.{length-set, length-replicate, length-append, length-map, length-take, length-drop}
use Rattle.std.proofs.lemmas.Option.{slice_get-get_or, same_Some}
use Rattle.std.proofs.lemmas.Slice.Zip.{AllZip-long}
use Rattle.std.proofs.Math.Seq.{take-append_seam, drop-append_seam}
use Rattle.pearl_value.specs.declared.kind.Kind.{Kind}
use Rattle.pearl_value.specs.declared.kind.Kind.TheVariants as kind
use Rattle.pearl_value.specs.declared.kind.CellKind.{CellKind}
use Rattle.pearl_value.specs.declared.kind.CellKind.TheVariants.{Plain, RefTo}
use Rattle.pearl_value.specs.declared.cell.Cell.{Cell}
use Rattle.pearl_value.specs.declared.cell.Cell.TheVariants.{Fixed, Clock, Ref}
use Rattle.pearl_value.specs.declared.cell.Place.TheVariants as places
use Rattle.pearl_value.specs.declared.trap.Trap.TheVariants.{Index, Range}
use Rattle.pearl_value.specs.Blanks.{filled_to, blank_of}
use Rattle.pearl_value.specs.Cells.{kind_of}
use Rattle.pearl_format.specs.declared.item.Item.{Item}
use Rattle.pearl_format.specs.Items.{data_count, FitsSome}
use Rattle.pearl_format.proofs.Offered.{suits-length}
use Rattle.pearl_rules.specs.declared.action.Action.TheVariants as action
use Rattle.pearl_rules.specs.declared.action.Answer.{Answer}
use Rattle.pearl_rules.specs.declared.action.Answer.TheVariants.{Nothing, One, Many}
use Rattle.pearl_stack.specs.Frames.{Frame}
use Rattle.pearl_program.specs.declared.expression.Target.{Target}
use Rattle.pearl_program.specs.declared.expression.Target.TheVariants.{Leaf as LeafOf, Own, Param}
use Rattle.pearl_program.specs.declared.expression.Bound.{Bound}
use Rattle.pearl_program.specs.PlainExpressions.{PlainVariable, OfVariable, PlainExprs, NoExprs, MoreExprs}
use Rattle.pearl_program.specs.PlainPrograms.{PlainLeaf}
use Rattle.pearl_program.specs.Typing.{Around, elements, IsParam, IsVariable}
use Rattle.pearl_program.specs.Weights.{calls, of_variable, of_variables}
use Rattle.pearl_instructions.specs.declared.instr.Instr.TheVariants as instr
use Rattle.pearl_instructions.specs.declared.object.Parts.{Parts as Object}
use Rattle.pearl_instructions.specs.declared.object.Leaf.{Leaf}
use Rattle.pearl_instructions.specs.Objects.{first_slot, items_at}
use Rattle.pearl_instructions.specs.Steps.{Step, Silent, Offers, Missing, given, needed, value_kind, all_heard, leaves, traps, acts}
use Rattle.pearl_instructions.specs.Steps as steps
use Rattle.pearl_instructions.specs.Cells as rows
use Rattle.pearl_instructions.specs.Cells.{filled}
use Rattle.pearl_instructions.specs.Offers.{value_kinds, items_suit, cells_from, with_values, get_values}
use Rattle.pearl_instructions.specs.Stacks.{cell_kinds}
use Rattle.pearl_meaning.specs.Frames.{Store}
use Rattle.pearl_meaning.specs.Frames as meaning
use Rattle.pearl_meaning.specs.Evaluation.{Outcome, Value, Needs, Fails, Does, gives, fails, on_value, bind, next, ask, own_cell, put_cell, put_cells, own_frame, given as eval_given}
use Rattle.pearl_meaning.specs.Setting.{Setting, variable_kind}
use Rattle.pearl_meaning.specs.Variables.{elements_before, offset_of, within, own_reference, reference, write_reference}
use Rattle.pearl_meaning.specs.Variables as variables
use Rattle.pearl_meaning.specs.Loops.{Flow, Normal}
use Rattle.pearl_meaning.specs.Transfers.{heard_values, offset, keep_offsets, kept_reference, write_targets, kinds_of}
use Rattle.pearl_gen_expr.specs.Contexts.{stack, Context, at, IsStoreOf}
use Rattle.pearl_gen_expr.specs.Carrying.{End, Meets, Carries}
use Rattle.pearl_gen_expr.specs.Tables.{HasTables}
use Rattle.pearl_gen_expr.specs.ExprCode.{code_of, Is}
use Rattle.pearl_gen_expr.specs.Ends.{on_top, done, offset_on_top, ways}
use Rattle.pearl_gen_expr.specs.Laws.{CodeCarries}
use Rattle.pearl_gen_expr.proofs.Offered.{frame_at, RowMeets, bind_carries, gives_carries, instr_carries, same_carries}
use Rattle.pearl_gen_expr.proofs.Offered.{missing_meets, silent_meets, stops_meets, given_meets, needed_meets}
use Rattle.pearl_gen_expr.proofs.Offered.{goes_meets, row_within, leaf_is, slots_are, parted, own_written, acts_meets}
use Rattle.pearl_gen_expr.proofs.Offered.{write_ref}
use Rattle.pearl_gen_stmt.specs.StmtCode.{writing_at, FoundAt, KeptAt, FilledAt, WrittenAt}
use Rattle.pearl_gen_stmt.proofs.Single.{more_cells, asked_meets, const_carries, store_carries, load_carries}
use Rattle.pearl_gen_stmt.proofs.Flows.{normal_carries}
use Rattle.pearl_gen_stmt.proofs.Renewals.{put_in, put_long, put_none, put_more}
use Rattle.pearl_gen_stmt.proofs.Counters.{then_gives}
use Rattle.pearl_gen_stmt.proofs.Statements.{GetsCarry}

-- what lies in an element, which an offset finds; a parameter with IDENT does not
abbrev IsElement : Target → Type 0
IsElement (Param cell) = ⊥
IsElement target = Unit {0}

-- VALUES THAT ARE UNSET

blank_kind : (of : Kind) → value_kind (blank_of of) ≡ Some of
blank_kind (kind.Fixed len) = refl
blank_kind (kind.Bits len) = refl
blank_kind (kind.Chars len) = ap (λ n. Some (kind.Chars n)) (length_filled len)
  where
    length_filled : (len : ℕ) → length (filled_to len []) ≡ len
    length_filled len = let long = length-replicate {A = ℕ} (len - 0) 32 in omega (arith, long)
blank_kind kind.Clock = refl
blank_kind kind.Span = refl

blank_kinds : (kinds : List Kind) → value_kinds (map blank_of kinds) ≡ Some kinds
blank_kinds [] = refl
blank_kinds (of ∷ kinds) =
    ap (λ found. option_and_then (λ of. option_map (λ kinds. of ∷ kinds) (value_kinds (map blank_of kinds))) found) (blank_kind of)
    ∙ ap (λ found. option_map (λ kinds. of ∷ kinds) found) (blank_kinds kinds)

-- CELLS FROM ONE ON

-- those that were put in are found again, if there are so many cells
put_found : (cell : ℕ) (xs cells : List Cell) → cell ≤ length cells → take (length xs) (drop cell (put_in cell xs cells)) ≡ xs
put_found cell xs cells less =
    let front : length (take cell cells) ≡ cell = let long = length-take cell cells in omega (arith, long, less) in
    let behind = drop (cell + length xs) cells in
    ap (λ n. take (length xs) (drop n (put_in cell xs cells))) (sym front)
    ∙ ap (λ all. take (length xs) (drop (length (take cell cells)) all)) (append_assoc (take cell cells) xs behind)
    ∙ ap (λ all. take (length xs) all) (drop-append_seam (take cell cells) (xs ++ behind))
    ∙ take-append_seam xs behind

-- one is put in
put_single : (cells : List Cell) (cell : ℕ) (x old : Cell) → slice_get cells cell ≡ Some old → put_in cell (x ∷ []) cells ≡ slice_set cells cell x
put_single cells cell x old found = sym (put_more cells cell x [] old found) ∙ put_none (cell + 1) (slice_set cells cell x)

-- the kinds of cells that were put in
kinds_found : (cell n : ℕ) (xs cells : List Cell) (kinds : List Kind) → n ≡ length xs → (inside none : Bool) → nat_le (cell + n) (length (put_in cell xs cells)) ≡ inside → nat_le n 0 ≡ none →
    option_and_then value_kinds (if inside then Some (take n (drop cell (put_in cell xs cells))) else (if none then Some [] else None)) ≡ Some kinds → value_kinds xs ≡ Some kinds
kinds_found cell n xs cells kinds is true none inside small found =
    let fits : cell + n ≤ length (put_in cell xs cells) = leb-true (cell + n) (length (put_in cell xs cells)) inside in
    let all = length-append (take cell cells ++ xs) (drop (cell + length xs) cells) in
    let rest = length-append (take cell cells) xs in
    let front = length-take cell cells in
    let behind = length-drop (cell + length xs) cells in
    let less : cell ≤ length cells = omega (arith, fits, all, rest, front, behind, is) in
    sym (ap value_kinds (ap (λ n. take n (drop cell (put_in cell xs cells))) is ∙ put_found cell xs cells less)) ∙ found
kinds_found cell n [] cells kinds is false true inside small found = found
kinds_found cell n (x ∷ xs) cells kinds is false true inside small found = let none : n ≤ 0 = leb-true n 0 small in absurd (omega (arith, none, is))
kinds_found cell n xs cells kinds is false false inside small found = cc

heard_same : (answer : Answer) → heard_values answer ≡ all_heard answer
heard_same Nothing = refl
heard_same (One x) = refl
heard_same (Many xs) = refl

kinds_long : (setting : Setting) (targets : List PlainVariable) (kinds : List Kind) → kinds_of setting targets ≡ Some kinds → length kinds ≡ length targets
kinds_long setting [] kinds is = ap length (sym (same_Some [] kinds is))
kinds_long setting (target ∷ targets) kinds is =
    by (variable_kind setting target) (kinds_of setting targets) (λ rest known. kinds_long setting targets rest known) is
  where
    by : (one : Option Kind) (others : Option (List Kind)) → ((rest : List Kind) → others ≡ Some rest → length rest ≡ length targets) →
        option_and_then (λ of. option_map (λ kinds. of ∷ kinds) others) one ≡ Some kinds → length kinds ≡ suc (length targets)
    by None others long is = cc
    by (Some of) None long is = cc
    by (Some of) (Some rest) long is =
        let same : length (of ∷ rest) ≡ length kinds = ap length (same_Some (of ∷ rest) kinds is) in
        let behind : length rest ≡ length targets = long rest refl in
        omega (arith, same, behind)

module _ (o : Object) (c : Context) (setting : Setting) where
  -- cells get what is unset, one after the other
  filled_meets : {X : Type 0} (end : End X) (task : ℕ) (more : List (List Cell)) (rest : List Answer) (m : Outcome X) (kinds : List Kind) (from to cell : ℕ) (cells : List Cell) →
      FilledAt setting (code_of o c.routine) from cell kinds to →
      Meets o c end (at c to [] (record { task = task; frames = put_in cell (map blank_of kinds) cells ∷ more })) rest m →
      Meets o c end (at c from [] (record { task = task; frames = cells ∷ more })) rest m
  filled_meets end task more rest m [] from to cell cells code meets =
      subst (λ place. Meets o c end (at c place [] (record { task = task; frames = cells ∷ more })) rest m) code
      (subst (λ cells. Meets o c end (at c to [] (record { task = task; frames = cells ∷ more })) rest m) (put_none cell cells) meets)
  filled_meets end task more rest m (of ∷ kinds) from to cell cells code meets =
      let f = frame_at c from [] cells in let lower = stack c.callers more in
      row_within o c c end from [] cells lower (instr.Fill cell 1 of) rest m code.0
      (needed_meets o c end (f ∷ lower) (nat_le (cell + 1) (length cells)) (Silent (frame_at c (from + 1) [] (filled cells cell 1 of) ∷ lower)) rest m (λ fits.
      let less : cell + 1 ≤ length cells = leb-true (cell + 1) (length cells) fits in
      let old = slice_get-get_or cells cell (blank_of of) (omega (arith, less)) in
      let one = put_single cells cell (blank_of of) (get_or cells cell (blank_of of)) old in
      goes_meets o c end (f ∷ lower) (at c (from + 1) [] (record { task = task; frames = filled cells cell 1 of ∷ more })) rest m
      (subst (λ cells. Meets o c end (at c (from + 1) [] (record { task = task; frames = cells ∷ more })) rest m) (sym one)
      (filled_meets end task more rest m kinds (from + 1) to (cell + 1) (slice_set cells cell (blank_of of)) code.1
      (subst (λ cells. Meets o c end (at c to [] (record { task = task; frames = cells ∷ more })) rest m)
      (sym (put_more cells cell (blank_of of) (map blank_of kinds) (get_or cells cell (blank_of of)) old)) meets)))))

  -- THE TARGETS' ELEMENTS

  -- what an offset names is done, or Index is trapped
  within_meets : {X : Type 0} (end : End X) (f : Frame) (lower : List Frame) (count : ℕ) (found : Cell) (step : ℕ → Step) (go : ℕ → Does Cell) (on : Cell → Does X) (store : Store) (rest : List Answer) →
      ((n : ℕ) → RowMeets o c end (f ∷ lower) (step n) rest (bind (go n) on store rest)) →
      RowMeets o c end (f ∷ lower) (steps.within count found f lower step) rest (bind (within count found go) on store rest)
  within_meets end f lower count (Fixed len (pos n)) step go on store rest meets =
      needed_meets o c end (f ∷ lower) (len == 31) (if nat_lt n count then step n else traps Index f lower) rest (bind (within count (Fixed len (pos n)) go) on store rest) (λ is. either (nat_lt n count))
    where
      either : (test : Bool) → RowMeets o c end (f ∷ lower) (if test then step n else traps Index f lower) rest (bind (if test then go n else fails Index) on store rest)
      either true = meets n
      either false = stops_meets o c end (f ∷ lower) Index rest
  within_meets end f lower count (Fixed len (negsuc n)) step go on store rest meets =
      needed_meets o c end (f ∷ lower) (len == 31) (traps Index f lower) rest (Fails Index) (λ is. stops_meets o c end (f ∷ lower) Index rest)
  within_meets end f lower count found step go on store rest meets = missing_meets o c end (f ∷ lower) rest (bind (within count found go) on store rest)

  -- an own cell is written
  own_meets : (place k : ℕ) (x found : Cell) (cells : List Cell) (more : List (List Cell)) (task : ℕ) (rest : List Answer) → IsStoreOf o c (record { task = task; frames = cells ∷ more }) →
      let f = frame_at c place (x ∷ found ∷ []) cells in let lower = stack c.callers more in
      RowMeets o c (done c (place + 1) []) (f ∷ lower) (rows.store k x f lower []) rest
      (bind (own_reference k) (λ to. write_reference to x) (record { task = task; frames = cells ∷ more }) rest)
  own_meets place k x found cells more task rest of = there (slice_get cells k)
    where
      there : (old : Option Cell) → let f = frame_at c place (x ∷ found ∷ []) cells in let lower = stack c.callers more in
          RowMeets o c (done c (place + 1) []) (f ∷ lower) (given old (λ old. Silent (frame_at c (place + 1) [] (slice_set cells k x) ∷ lower))) rest
          (on_value (on_value (eval_given old gives (record { task = task; frames = cells ∷ more }) rest) (λ y. bind own_frame (λ frame. gives (Ref (kind_of y) (places.Cell frame k))))) (λ to. write_reference to x))
      there None = let m : Outcome (Unit {0}) = Fails Range in missing_meets o c (done c (place + 1) []) (frame_at c place (x ∷ found ∷ []) cells ∷ stack c.callers more) rest m
      there (Some y) =
          let frames = frame_at c place (x ∷ found ∷ []) cells ∷ stack c.callers more in let after : Store = record { task = task; frames = slice_set cells k x ∷ more } in
          let same = own_written cells more k x (length more) refl in
          let long : length (slice_set cells k x) ≡ length cells = length-set cells k x in
          subst (λ written. RowMeets o c (done c (place + 1) []) frames (Silent (frame_at c (place + 1) [] (slice_set cells k x) ∷ stack c.callers more)) rest (Value tt (record { task = task; frames = written }) rest)) (sym same)
          (silent_meets o c (done c (place + 1) []) frames tt after rest tt (more_cells (slice_set cells k x) of (omega (arith, long))))

  module _ (tables : HasTables setting.program o) where
    -- a slot of a leaf is written
    slot_meets : (place number : ℕ) (x found : Cell) (cells : List Cell) (more : List (List Cell)) (task : ℕ) (rest : List Answer) → IsStoreOf o c (record { task = task; frames = cells ∷ more }) →
        let f = frame_at c place (x ∷ found ∷ []) cells in let lower = stack c.callers more in let store : Store = record { task = task; frames = cells ∷ more } in
        (bounds : List Bound) →
        RowMeets o c (done c (place + 1) []) (f ∷ lower) (given (slice_get o.leaves number) (λ (leaf : Leaf). steps.within leaf.slots found f lower (λ n. rows.writes o number n x f lower []))) rest
        (bind (reference setting (LeafOf number) bounds found) (λ to. write_reference to x) store rest)
    slot_meets place number x found cells more task rest of bounds =
        let f = frame_at c place (x ∷ found ∷ []) cells in let lower = stack c.callers more in let store : Store = record { task = task; frames = cells ∷ more } in
        given_meets o c (done c (place + 1) []) (f ∷ lower) (slice_get o.leaves number) (λ (leaf : Leaf). steps.within leaf.slots found f lower (λ n. rows.writes o number n x f lower [])) rest
        (bind (reference setting (LeafOf number) bounds found) (λ to. write_reference to x) store rest) (λ leaf here.
        let there = leaf_is setting.program o tables number leaf here in
        subst (λ known. RowMeets o c (done c (place + 1) []) (f ∷ lower) (steps.within leaf.slots found f lower (λ n. rows.writes o number n x f lower [])) rest
        (bind (eval_given known (λ (leaf : PlainLeaf). within leaf.values.count found (λ before. gives (Ref leaf.values.kind (places.Slot (variables.first_slot setting.program.leaves number + before)))))) (λ to. write_reference to x) store rest))
        (sym there)
        (within_meets (done c (place + 1) []) f lower leaf.slots found (λ n. rows.writes o number n x f lower [])
        (λ before. gives (Ref leaf.kind (places.Slot (variables.first_slot setting.program.leaves number + before)))) (λ to. write_reference to x) store rest (λ n.
        subst (λ first. RowMeets o c (done c (place + 1) []) (f ∷ lower) (acts (action.Write (first_slot o.leaves number + n) x) f lower []) rest
        (next (ask (action.Write (first + n) x)) (gives tt) store rest)) (sym (slots_are setting.program o tables number))
        (acts_meets o c place (x ∷ found ∷ []) [] cells more task (action.Write (first_slot o.leaves number + n) x) rest of))))

    -- a value is written to the element at an offset
    written_carries : (place : ℕ) (target : Target) (bounds : List Bound) (subscripts : PlainExprs) (x found : Cell) → IsElement target → Is (code_of o c.routine) place (writing_at target bounds) →
        Carries o c (done c (place + 1) []) (at c place (x ∷ found ∷ [])) (bind (kept_reference setting (OfVariable target bounds subscripts) found) (λ to. write_reference to x))
    written_carries place (LeafOf number) bounds subscripts x found element is =
        instr_carries o c (done c (place + 1) []) place (x ∷ found ∷ []) (instr.WriteAt number)
        (bind (kept_reference setting (OfVariable (LeafOf number) bounds subscripts) found) (λ to. write_reference to x)) is (λ task cells more rest of.
        slot_meets place number x found cells more task rest of bounds)
    written_carries place (Own first) bounds subscripts x found element is =
        instr_carries o c (done c (place + 1) []) place (x ∷ found ∷ []) (instr.StoreAt first (elements bounds))
        (bind (kept_reference setting (OfVariable (Own first) bounds subscripts) found) (λ to. write_reference to x)) is (λ task cells more rest of.
        within_meets (done c (place + 1) []) (frame_at c place (x ∷ found ∷ []) cells) (stack c.callers more) (elements bounds) found
        (λ n. rows.store (first + n) x (frame_at c place (x ∷ found ∷ []) cells) (stack c.callers more) []) (λ before. own_reference (first + before)) (λ to. write_reference to x)
        (record { task = task; frames = cells ∷ more }) rest (λ n. own_meets place (first + n) x found cells more task rest of))
    written_carries place (Param cell) bounds subscripts x found element is = absurd element

    -- a cell that the routine has
    skip_cell : {X : Type 0} (end : End X) (from : Store → List Frame) (cell : ℕ) (go : Cell → Does X) → cell < length (cell_kinds o c.routine) →
        ((found : Cell) → Carries o c end from (go found)) → Carries o c end from (bind (own_cell cell) go)
    skip_cell end from cell go less carries = record { over = λ store rest is. by store.task store.frames rest is }
      where
        by : (task : ℕ) (frames : List (List Cell)) (rest : List Answer) → IsStoreOf o c (record { task = task; frames = frames }) →
            Meets o c end (from (record { task = task; frames = frames })) rest (bind (own_cell cell) go (record { task = task; frames = frames }) rest)
        by task [] rest is = absurd is.cells
        by task (cells ∷ more) rest is =
            let store : Store = record { task = task; frames = cells ∷ more } in let wide = is.cells.0 in
            let there = slice_get-get_or cells cell (Clock 0) (omega (arith, less, wide)) in
            subst (λ found. Meets o c end (from store) rest (on_value (eval_given found gives store rest) go)) (sym there)
            ((carries (get_or cells cell (Clock 0))).over store rest is)

    -- nothing is changed, and no answer is used
    abbrev IsSame : Store → List Answer → Outcome Cell → Type 0
    IsSame store rest (Value x after left) = (after ≡ store) × (left ≡ rest)
    IsSame store rest (Needs action) = ⊥
    IsSame store rest (Fails trap) = Unit {0}

    same_within : (count : ℕ) (found : Cell) (go : ℕ → Does Cell) (store : Store) (rest : List Answer) → ((n : ℕ) → IsSame store rest (go n store rest)) → IsSame store rest (within count found go store rest)
    same_within count (Fixed len (pos n)) go store rest same = either (nat_lt n count)
      where
        either : (test : Bool) → IsSame store rest ((if test then go n else fails Index) store rest)
        either true = same n
        either false = tt
    same_within count found go store rest same = tt

    same_leaf : (number : ℕ) (found : Cell) (store : Store) (rest : List Answer) (leaf : Option PlainLeaf) →
        IsSame store rest (eval_given leaf (λ (leaf : PlainLeaf). within leaf.values.count found (λ before. gives (Ref leaf.values.kind (places.Slot (variables.first_slot setting.program.leaves number + before))))) store rest)
    same_leaf number found store rest None = tt
    same_leaf number found store rest (Some leaf) =
        same_within leaf.values.count found (λ before. gives (Ref leaf.values.kind (places.Slot (variables.first_slot setting.program.leaves number + before)))) store rest (λ n. (refl, refl))

    same_own : (k : ℕ) (store : Store) (rest : List Answer) → IsSame store rest (own_reference k store rest)
    same_own k store rest = by (slice_get (meaning.top store.frames) k)
      where
        by : (old : Option Cell) → IsSame store rest (on_value (eval_given old gives store rest) (λ y. bind own_frame (λ frame. gives (Ref (kind_of y) (places.Cell frame k)))))
        by None = tt
        by (Some y) = (refl, refl)

    same_kept : (target : Target) (bounds : List Bound) (subscripts : PlainExprs) (found : Cell) (store : Store) (rest : List Answer) → IsElement target →
        IsSame store rest (kept_reference setting (OfVariable target bounds subscripts) found store rest)
    same_kept (LeafOf number) bounds subscripts found store rest element = same_leaf number found store rest (slice_get setting.program.leaves number)
    same_kept (Own first) bounds subscripts found store rest element =
        same_within (elements bounds) found (λ before. own_reference (first + before)) store rest (λ n. same_own (first + n) store rest)
    same_kept (Param cell) bounds subscripts found store rest element = absurd element

    after_same : {X : Type 0} (store : Store) (rest : List Answer) (m : Outcome Cell) (go other : Cell → Does X) → IsSame store rest m → ((to : Cell) → go to store rest ≡ other to store rest) →
        on_value m go ≡ on_value m other
    after_same store rest (Value to after left) go other is same = rw (is.0, is.1) (same to)
    after_same store rest (Needs action) go other is same = absurd is
    after_same store rest (Fails trap) go other is same = refl

    -- the offset, then the value, and then it is written
    element_carries : {X : Type 0} (end : End X) (from cell keeping : ℕ) (target : Target) (bounds : List Bound) (subscripts : PlainExprs) (onward : Does X) → IsElement target →
        Is (code_of o c.routine) from (instr.Load keeping) → Is (code_of o c.routine) (from + 1) (instr.Load cell) → Is (code_of o c.routine) (from + 2) (writing_at target bounds) →
        Carries o c end (at c (from + 3) []) onward →
        Carries o c end (at c from []) (bind (own_cell keeping) (λ found. bind (kept_reference setting (OfVariable target bounds subscripts) found) (λ to. bind (own_cell cell) (λ x.
        next (write_reference to x) onward))))
    element_carries end from cell keeping target bounds subscripts onward element first second third behind =
        let three : from + 3 ≡ from + 1 + 1 + 1 = omega arith in let two : from + 2 ≡ from + 1 + 1 = omega arith in
        bind_carries o c (on_top c (from + 1) []) end (at c from []) (own_cell keeping) (λ found. bind (kept_reference setting (OfVariable target bounds subscripts) found) (λ to. bind (own_cell cell) (λ x.
        next (write_reference to x) onward))) (load_carries o c from keeping [] first) (λ found of.
        let kept = kept_reference setting (OfVariable target bounds subscripts) found in
        instr_carries o c end (from + 1) (found ∷ []) (instr.Load cell) (bind kept (λ to. bind (own_cell cell) (λ x. next (write_reference to x) onward))) second (λ task cells more rest is.
        let f = frame_at c (from + 1) (found ∷ []) cells in let lower = stack c.callers more in let store : Store = record { task = task; frames = cells ∷ more } in
        given_meets o c end (f ∷ lower) (slice_get cells cell) (λ x. Silent (frame_at c (from + 1 + 1) (x ∷ found ∷ []) cells ∷ lower)) rest
        (bind kept (λ to. bind (own_cell cell) (λ x. next (write_reference to x) onward)) store rest) (λ x there.
        subst (λ m. RowMeets o c end (f ∷ lower) (Silent (at c (from + 1 + 1) (x ∷ found ∷ []) store)) rest m)
        (after_same store rest (kept store rest) (λ to. next (write_reference to x) onward) (λ to. bind (own_cell cell) (λ x. next (write_reference to x) onward))
        (same_kept target bounds subscripts found store rest element)
        (λ to. ap (λ known. on_value (eval_given known gives store rest) (λ x. next (write_reference to x) onward)) (sym there)))
        (goes_meets o c end (f ∷ lower) (at c (from + 1 + 1) (x ∷ found ∷ []) store) rest (bind kept (λ to. next (write_reference to x) onward) store rest)
        ((same_carries o c end (at c (from + 1 + 1) (x ∷ found ∷ [])) (next (bind kept (λ to. write_reference to x)) onward) (bind kept (λ to. next (write_reference to x) onward))
        (λ store rest. sym (parted kept (λ to. write_reference to x) (λ it. onward) store rest))
        (bind_carries o c (done c (from + 1 + 1 + 1) []) end (at c (from + 1 + 1) (x ∷ found ∷ [])) (bind kept (λ to. write_reference to x)) (λ it. onward)
        (written_carries (from + 1 + 1) target bounds subscripts x found element (subst (λ place. Is (code_of o c.routine) place (writing_at target bounds)) two third))
        (λ it of. subst (λ place. Carries o c end (at c place []) onward) three behind))).over store rest is)))))

    -- what a parameter with IDENT names is written
    param_carries : {X : Type 0} (end : End X) (from cell keeping param : ℕ) (onward : Does X) → keeping < length (cell_kinds o c.routine) →
        Is (code_of o c.routine) from (instr.Load param) → Is (code_of o c.routine) (from + 1) (instr.Load cell) → Is (code_of o c.routine) (from + 2) instr.WriteRef →
        Carries o c end (at c (from + 3) []) onward →
        Carries o c end (at c from []) (bind (own_cell keeping) (λ found. bind (own_cell param) (λ to. bind (own_cell cell) (λ x. next (write_reference to x) onward))))
    param_carries end from cell keeping param onward less first second third behind =
        let three : from + 3 ≡ from + 1 + 1 + 1 = omega arith in let two : from + 2 ≡ from + 1 + 1 = omega arith in
        skip_cell end (at c from []) keeping (λ found. bind (own_cell param) (λ to. bind (own_cell cell) (λ x. next (write_reference to x) onward))) less (λ found.
        bind_carries o c (on_top c (from + 1) []) end (at c from []) (own_cell param) (λ to. bind (own_cell cell) (λ x. next (write_reference to x) onward)) (load_carries o c from param [] first) (λ to of.
        bind_carries o c (on_top c (from + 1 + 1) (to ∷ [])) end (at c (from + 1) (to ∷ [])) (own_cell cell) (λ x. next (write_reference to x) onward) (load_carries o c (from + 1) cell (to ∷ []) second) (λ x of.
        bind_carries o c (done c (from + 1 + 1 + 1) []) end (at c (from + 1 + 1) (x ∷ to ∷ [])) (write_reference to x) (λ it. onward)
        (write_ref o c (from + 1 + 1) to x [] (subst (λ place. Is (code_of o c.routine) place instr.WriteRef) two third))
        (λ it of. subst (λ place. Carries o c end (at c place []) onward) three behind))))

    -- so many cells of the routine are there
    abbrev Room : ℕ → List PlainVariable → Type 0
    Room keeping [] = Unit {0}
    Room keeping (target ∷ targets) = (keeping < length (cell_kinds o c.routine)) × Room (keeping + 1) targets

    room_of : (keeping : ℕ) (targets : List PlainVariable) → keeping + length targets ≤ length (cell_kinds o c.routine) → Room keeping targets
    room_of keeping [] less = tt
    room_of keeping (target ∷ targets) less = (omega (arith, less), room_of (keeping + 1) targets (omega (arith, less)))

    room_within : (cell : ℕ) (targets : List PlainVariable) (all : List CellKind) → (length targets ≡ 0) ⊎ (cell + length targets + length targets ≤ length all) →
        length (cell_kinds o c.routine) ≡ length all → Room (cell + length targets) targets
    room_within cell [] all either same = tt
    room_within cell (target ∷ targets) all (inl none) same = absurd (omega (arith, none))
    room_within cell (target ∷ targets) all (inr fits) same = room_of (cell + length (target ∷ targets)) (target ∷ targets) (omega (arith, fits, same))

    writes_carry : (targets : List PlainVariable) (from to leave cell keeping : ℕ) → Room keeping targets → WrittenAt setting (code_of o c.routine) from cell keeping targets to →
        Carries o c (ways c to leave setting.result) (at c from []) (write_targets setting cell keeping targets)
    writes_carry [] from to leave cell keeping room code =
        subst (λ to. Carries o c (ways c to leave setting.result) (at c from []) (gives Normal)) (sym code) (normal_carries o c from leave setting.result)
    writes_carry (OfVariable (LeafOf number) bounds subscripts ∷ targets) from to leave cell keeping room code =
        element_carries (ways c to leave setting.result) from cell keeping (LeafOf number) bounds subscripts (write_targets setting (cell + 1) (keeping + 1) targets) tt code.0 code.1 code.2
        (writes_carry targets (from + 3) to leave (cell + 1) (keeping + 1) room.1 code.3)
    writes_carry (OfVariable (Own first) bounds subscripts ∷ targets) from to leave cell keeping room code =
        element_carries (ways c to leave setting.result) from cell keeping (Own first) bounds subscripts (write_targets setting (cell + 1) (keeping + 1) targets) tt code.0 code.1 code.2
        (writes_carry targets (from + 3) to leave (cell + 1) (keeping + 1) room.1 code.3)
    writes_carry (OfVariable (Param param) bounds subscripts ∷ targets) from to leave cell keeping room code =
        param_carries (ways c to leave setting.result) from cell keeping param (write_targets setting (cell + 1) (keeping + 1) targets) room.0 code.0 code.1 code.2
        (writes_carry targets (from + 3) to leave (cell + 1) (keeping + 1) room.1 code.3)

    -- THE ACTION

    -- what follows the action
    abbrev heard_then : ℕ → List PlainVariable → Answer → Does Flow
    heard_then cell targets answer = next (put_cells cell (heard_values answer)) (write_targets setting cell (cell + length targets) targets)

    heard_meets : (targets : List PlainVariable) (cell place to leave : ℕ) → Carries o c (ways c to leave setting.result) (at c place []) (write_targets setting cell (cell + length targets) targets) →
        (task : ℕ) (cells : List Cell) (more : List (List Cell)) → IsStoreOf o c (record { task = task; frames = cells ∷ more }) → (answer : Answer) (left : List Answer) →
        Meets o c (ways c to leave setting.result) (frame_at c place [] (with_values cells cell (all_heard answer)) ∷ stack c.callers more) left
        (heard_then cell targets answer (record { task = task; frames = cells ∷ more }) left)
    heard_meets targets cell place to leave writes task cells more of answer left =
        subst (λ xs. Meets o c (ways c to leave setting.result) (frame_at c place [] (put_in cell xs cells) ∷ stack c.callers more) left
        (heard_then cell targets answer (record { task = task; frames = cells ∷ more }) left)) (heard_same answer)
        (writes.over (record { task = task; frames = put_in cell (heard_values answer) cells ∷ more }) left
        (more_cells (put_in cell (heard_values answer) cells) of (put_long cell (heard_values answer) cells)))

    get_meets : (targets : List PlainVariable) (kinds : List Kind) (device format cell place to leave : ℕ) → o.formats ≡ setting.program.formats →
        ((items : List Item) → slice_get setting.program.formats format ≡ Some items → data_count items ≡ length kinds) →
        Carries o c (ways c to leave setting.result) (at c (place + 1) []) (write_targets setting cell (cell + length targets) targets) →
        (task : ℕ) (before : List Cell) (more : List (List Cell)) (rest : List Answer) →
        let cells = put_in cell (map blank_of kinds) before in IsStoreOf o c (record { task = task; frames = cells ∷ more }) →
        let f = frame_at c place [] cells in let lower = stack c.callers more in
        RowMeets o c (ways c to leave setting.result) (f ∷ lower) (get_values o (record { device = device; format = format; first = cell }) f lower) rest
        (bind (ask (action.Get device format (record { items = kinds }))) (heard_then cell targets) (record { task = task; frames = cells ∷ more }) rest)
    get_meets targets kinds device format cell place to leave formats count writes task before more rest of =
        let blanks = map blank_of kinds in let cells = put_in cell blanks before in let ending = ways c to leave setting.result in
        let f = frame_at c place [] cells in let lower = stack c.callers more in let store : Store = record { task = task; frames = cells ∷ more } in
        let does = bind (ask (action.Get device format (record { items = kinds }))) (heard_then cell targets) in
        let offered : List Kind → Step = λ kinds. Offers (action.Get device format (record { items = kinds })) (λ answer. frame_at c (place + 1) [] (with_values cells cell (all_heard answer)) ∷ lower) in
        given_meets o c ending (f ∷ lower) (items_at o format) (λ items. given (option_and_then value_kinds (cells_from cells cell (data_count items))) (λ kinds. needed (items_suit items kinds) (offered kinds))) rest
        (does store rest) (λ items found.
        let n = data_count items in
        let long : n ≡ length blanks = count items (ap (λ formats. slice_get formats format) (sym formats) ∙ found) ∙ sym (length-map kinds blank_of) in
        given_meets o c ending (f ∷ lower) (option_and_then value_kinds (cells_from cells cell n)) (λ kinds. needed (items_suit items kinds) (offered kinds)) rest (does store rest) (λ told is.
        let same : kinds ≡ told = same_Some kinds told (sym (blank_kinds kinds) ∙ kinds_found cell n blanks before told long (nat_le (cell + n) (length cells)) (nat_le n 0) refl refl is) in
        needed_meets o c ending (f ∷ lower) (items_suit items told) (offered told) rest (does store rest) (λ suits.
        subst (λ told. RowMeets o c ending (f ∷ lower) (offered told) rest (does store rest)) same
        (asked_meets o c ending (f ∷ lower) (action.Get device format (record { items = kinds })) (λ answer. frame_at c (place + 1) [] (with_values cells cell (all_heard answer)) ∷ lower) store (heard_then cell targets) rest
        (λ answer left. heard_meets targets cell (place + 1) to leave writes task cells more of answer left)))))

    asked_framed : (targets : List PlainVariable) (kinds : List Kind) (device format cell from end to leave : ℕ) → o.formats ≡ setting.program.formats →
        ((items : List Item) → slice_get setting.program.formats format ≡ Some items → data_count items ≡ length kinds) →
        FilledAt setting (code_of o c.routine) from cell kinds end →
        Is (code_of o c.routine) end (instr.Get (record { device = device; format = format; first = cell })) →
        Carries o c (ways c to leave setting.result) (at c (end + 1) []) (write_targets setting cell (cell + length targets) targets) →
        (task : ℕ) (frames : List (List Cell)) (rest : List Answer) → IsStoreOf o c (record { task = task; frames = frames }) →
        Meets o c (ways c to leave setting.result) (at c from [] (record { task = task; frames = frames })) rest
        (next (put_cells cell (map blank_of kinds)) (bind (ask (action.Get device format (record { items = kinds }))) (heard_then cell targets)) (record { task = task; frames = frames }) rest)
    asked_framed targets kinds device format cell from end to leave formats count fills reads writes task [] rest of = absurd of.cells
    asked_framed targets kinds device format cell from end to leave formats count fills reads writes task (cells ∷ more) rest of =
        let all = put_in cell (map blank_of kinds) cells in let store : Store = record { task = task; frames = all ∷ more } in
        let ending = ways c to leave setting.result in let f = frame_at c end [] all in let lower = stack c.callers more in
        let m = bind (ask (action.Get device format (record { items = kinds }))) (heard_then cell targets) store rest in
        filled_meets ending task more rest m kinds from end cell cells fills
        (row_within o c c ending end [] all lower (instr.Get (record { device = device; format = format; first = cell })) rest m reads
        (get_meets targets kinds device format cell end to leave formats count writes task cells more rest
        (more_cells all of (put_long cell (map blank_of kinds) cells))))

  -- THE OFFSETS

  module _ (around : Around) (below : ℕ) (code : CodeCarries o c setting around below) where
    -- a variable in no array has no subscripts
    no_subscripts : (target : Target) (subscripts : PlainExprs) (of : Kind) → IsVariable around (OfVariable target [] subscripts) of → subscripts ≡ NoExprs
    no_subscripts target NoExprs of is = refl
    no_subscripts (LeafOf number) (MoreExprs e rest) of is = absurd is.2
    no_subscripts (Own cell) (MoreExprs e rest) of is = absurd is.2
    no_subscripts (Param cell) (MoreExprs e rest) of is = absurd (no_param (slice_get around.cells cell) is)
      where
        no_param : (kind : Option CellKind) → IsParam kind [] (MoreExprs e rest) of → ⊥
        no_param None is = is
        no_param (Some (Plain kind)) is = is
        no_param (Some (RefTo kind)) is = is

    found_carries : (from to : ℕ) (target : PlainVariable) (of : Kind) → IsVariable around target of → of_variable calls target ≤ below → FoundAt setting (code_of o c.routine) from target to →
        Carries o c (on_top c to []) (at c from []) (offset setting target)
    found_carries from to (OfVariable target [] subscripts) of is less found_code =
        subst (λ subscripts. Carries o c (on_top c to []) (at c from []) (offset setting (OfVariable target [] subscripts))) (sym (no_subscripts target subscripts of is))
        (const_carries o c (on_top c to []) from (Fixed 31 (pos 0)) [] (gives (Fixed 31 (pos 0))) found_code.0
        (subst (λ to. Carries o c (on_top c to []) (at c (from + 1) (Fixed 31 (pos 0) ∷ [])) (gives (Fixed 31 (pos 0)))) (sym found_code.1)
        (gives_carries o c (on_top c (from + 1) []) (Fixed 31 (pos 0)) tt)))
    found_carries from to (OfVariable target (bound ∷ bounds) subscripts) of is less found_code =
        then_gives o c (offset_on_top c to [] (bound ∷ bounds)) (on_top c to []) (at c from []) (offset setting (OfVariable target (bound ∷ bounds) subscripts))
        (code.offset from to target (bound ∷ bounds) subscripts of [] is less found_code) (λ x there. gives_carries o c (on_top c to []) x tt)

    keeps_carry : (targets : List PlainVariable) (kinds : List Kind) (from to keeping : ℕ) → AllZip (IsVariable around) targets kinds → of_variables calls targets ≤ below →
        KeptAt setting (code_of o c.routine) from keeping targets to → Carries o c (done c to []) (at c from []) (keep_offsets setting keeping targets)
    keeps_carry [] kinds from to keeping are less found_code = subst (λ to. Carries o c (done c to []) (at c from []) (gives tt)) (sym found_code) (gives_carries o c (done c from []) tt tt)
    keeps_carry (target ∷ targets) [] from to keeping are less found_code = absurd are
    keeps_carry (target ∷ targets) (of ∷ kinds) from to keeping are less found_code =
        bind_carries o c (on_top c found_code.0 []) (done c to []) (at c from []) (offset setting target) (λ found. next (put_cell keeping found) (keep_offsets setting (keeping + 1) targets))
        (found_carries from found_code.0 target of are.0 (omega (arith, less)) found_code.1) (λ found there.
        bind_carries o c (done c (found_code.0 + 1) []) (done c to []) (at c found_code.0 (found ∷ [])) (put_cell keeping found) (λ it. keep_offsets setting (keeping + 1) targets)
        (store_carries o c found_code.0 keeping found [] found_code.2) (λ it stored.
        keeps_carry targets kinds (found_code.0 + 1) to (keeping + 1) are.1 (omega (arith, less)) found_code.3))

-- the cells behind those for values are there
room_is : (all : List CellKind) (targets : List PlainVariable) (kinds : List Kind) (cell : ℕ) → length kinds ≡ length targets →
    take (length kinds + length kinds) (drop cell all) ≡ map Plain kinds ++ replicate (length kinds) (Plain (kind.Fixed 31)) → (length targets ≡ 0) ⊎ (cell + length targets + length targets ≤ length all)
room_is all [] kinds cell long are = inl refl
room_is all (target ∷ targets) kinds cell long are =
    let sizes : length (take (length kinds + length kinds) (drop cell all)) ≡ length (map Plain kinds ++ replicate (length kinds) (Plain (kind.Fixed 31))) = ap length are in
    let both = length-append (map Plain kinds) (replicate (length kinds) (Plain (kind.Fixed 31))) in
    let one = length-map kinds Plain in
    let two = length-replicate (length kinds) (Plain (kind.Fixed 31)) in
    let taken = length-take (length kinds + length kinds) (drop cell all) in
    let dropped = length-drop cell all in
    inr (omega (arith, sizes, both, one, two, taken, dropped, long))

pub gets_carry : GetsCarry
gets_carry o c setting around below placed code out from to targets device format cell is less stands =
    let kinds = stands.0 in let kept = stands.2 in let end = stands.3 in let sound = is.1 in
    let long : length kinds ≡ length targets = kinds_long setting targets kinds stands.1 in
    let same : length sound ≡ length targets = AllZip-long (IsVariable around) targets sound is.2 in
    let count : (items : List Item) → slice_get setting.program.formats format ≡ Some items → data_count items ≡ length kinds = λ items found.
    let fits : FitsSome (Some items) sound = subst (λ found. FitsSome found sound) (ap (λ formats. slice_get formats format) placed.formats ∙ found) is.3 in
    sym (suits-length items sound fits.suits) ∙ same ∙ sym long in
    let room = room_within o c setting placed.known.tables cell targets around.cells (room_is around.cells targets sound cell same is.4) (ap length placed.known.cells) in
    subst (λ known. Carries o c (ways c to out setting.result) (at c from []) (eval_given known (λ kinds. next (keep_offsets setting (cell + length targets) targets)
    (next (put_cells cell (map blank_of kinds)) (bind (ask (action.Get device format (record { items = kinds }))) (λ answer.
    next (put_cells cell (heard_values answer)) (write_targets setting cell (cell + length targets) targets))))))) (sym stands.1)
    (bind_carries o c (done c kept []) (ways c to out setting.result) (at c from []) (keep_offsets setting (cell + length targets) targets)
    (λ it. next (put_cells cell (map blank_of kinds)) (bind (ask (action.Get device format (record { items = kinds }))) (λ answer.
    next (put_cells cell (heard_values answer)) (write_targets setting cell (cell + length targets) targets))))
    (keeps_carry o c setting around below code targets sound from kept (cell + length targets) is.2 less stands.4) (λ it of.
    record {
      over = λ store rest of. asked_framed o c setting placed.known.tables targets kinds device format cell kept end to out placed.known.tables.formats count stands.5 stands.6
          (writes_carry o c setting placed.known.tables targets (end + 1) to out cell (cell + length targets) room stands.7) store.task store.frames rest of;
    }))
