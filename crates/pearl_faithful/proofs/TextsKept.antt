-- No rule of the validator fails in PUT and GET.
use Rattle.std.proofs.Common.{◌≡◌, ℕ, suc, ◌+◌, ◌<◌, ◌≤◌, pos, true, List, [], ◌∷◌, ◌++◌, Option, Some, None, slice_get, length, replicate, map, refl, sym, ap, ◌∙◌, subst, arith}
use Rattle.std.specs.Prelude.{option_map, take, drop}
use Rattle.std.specs.List.{AllZip}
use Rattle.std.proofs.lemmas.Option.{slice_get-map, same_Some}
use Rattle.std.proofs.lemmas.List.{length-map}
use Rattle.pearl_value.specs.declared.kind.Kind.{Kind}
use Rattle.pearl_value.specs.declared.cell.Cell.TheVariants.{Fixed}
use Rattle.pearl_value.specs.declared.kind.Kind.TheVariants as kind_
use Rattle.pearl_value.specs.declared.kind.CellKind.{CellKind}
use Rattle.pearl_value.specs.declared.kind.CellKind.TheVariants.{Plain, RefTo}
use Rattle.pearl_value.specs.Cells.{cell_kind_of}
use Rattle.pearl_value.specs.declared.device.Device.{Device}
use Rattle.pearl_value.specs.declared.device.Device.TheVariants.{Interrupt, Terminal, Input, Output}
use Rattle.pearl_program.specs.declared.expression.Target.{Target}
use Rattle.pearl_program.specs.declared.expression.Target.TheVariants.{Leaf as LeafOf, Own, Param}
use Rattle.pearl_program.specs.declared.expression.Bound.{Bound}
use Rattle.pearl_program.specs.PlainExpressions.{PlainExpr, PlainVariable, OfVariable, PlainExprs, NoExprs, MoreExprs}
use Rattle.pearl_program.specs.Typing.{Around, AreCells, HasKind, IsVariable, HaveKinds}
use Rattle.pearl_program.specs.Weights.{Sizes, values, of_expr, of_exprs, of_variable}
use Rattle.pearl_meaning.specs.Setting.{Setting}
use Rattle.pearl_instructions.specs.declared.instr.Instr.{Instr}
use Rattle.pearl_instructions.specs.declared.instr.Instr.TheVariants as instr
use Rattle.pearl_instructions.specs.declared.object.Code.{Code}
use Rattle.pearl_instructions.specs.declared.object.Parts.{Parts as Object}
use Rattle.pearl_instructions.specs.Operands.{Shape}
use Rattle.pearl_gen_expr.specs.ExprCode.{Is, ExprAt}
use Rattle.pearl_gen_expr.specs.Shapes.{Keeps, handed}
use Rattle.pearl_gen_expr.proofs.Offered.{some_values, both_keep, const_keeps, load_keeps, handed_length, then_one}
use Rattle.pearl_gen_expr.proofs.Offered.{just_one, write_at_keeps, store_at_keeps, write_ref_keeps, leaf_of}
use Rattle.pearl_gen_expr.proofs.Offered.{some_elements}
use Rattle.pearl_gen_stmt.specs.StmtCode.{PutAt}
use Rattle.pearl_faithful.proofs.StatementsStand.{Stands, devices_there}
use Rattle.pearl_faithful.proofs.Simple.{all_piece}
use Rattle.pearl_faithful.proofs.Quiet.{stays, IsWhole, quiet_at, are_quiet, open_empty}
use Rattle.pearl_faithful.proofs.Steps.{fill_keeps}
use Rattle.pearl_faithful.proofs.Small.{IsSmall, left, right}
use Rattle.pearl_faithful.proofs.Lists.{get_front, get_behind, taken_less, part_is, get_copied, one_of}
use Rattle.pearl_faithful.proofs.Kept.{expr_keep, store_keep, keeps}
use Rattle.std.proofs.lemmas.List.{take_at}
use Rattle.pearl_format.specs.declared.item.Item.{Item}
use Rattle.pearl_value.specs.declared.device.Direction.TheVariants.{In, Out, InOut}
use Rattle.pearl_program.specs.Typing.{IsLeafOf, elements}
use Rattle.pearl_format.specs.Items.{FitsFormat, FitsSome}
use Rattle.pearl_program.specs.SoundStatements.{TakesTexts, GivesTexts, IsPut, IsGet}
use Rattle.pearl_program.specs.Weights.{of_variables}
use Rattle.pearl_instructions.specs.declared.instr.Reading.{Reading}
use Rattle.pearl_instructions.specs.declared.object.Leaf.{Leaf}
use Rattle.pearl_instructions.specs.Named.{takes_texts, gives_texts}
use Rattle.pearl_gen_expr.specs.Tables.{plain_leaf}
use Rattle.pearl_gen_stmt.specs.StmtCode.{writing_at, kept_in, FoundAt, KeptAt, FilledAt, WrittenAt, GetAt}
use Rattle.pearl_faithful.proofs.StatementsStand.{param_known}
use Rattle.pearl_faithful.proofs.Gets.{kinds_are, found_piece}
use Rattle.pearl_faithful.proofs.TakingValues.{put_keeps, get_keeps}

texts_taken : (found : Option Device) → TakesTexts found → takes_texts found ≡ true
texts_taken (Some (Terminal number In)) is = absurd is
texts_taken (Some (Terminal number Out)) is = refl
texts_taken (Some (Terminal number InOut)) is = refl
texts_taken (Some (Interrupt number)) is = absurd is
texts_taken (Some (Input number of)) is = absurd is
texts_taken (Some (Output number of)) is = absurd is
texts_taken None is = absurd is

texts_given : (found : Option Device) → GivesTexts found → gives_texts found ≡ true
texts_given (Some (Terminal number In)) is = refl
texts_given (Some (Terminal number Out)) is = absurd is
texts_given (Some (Terminal number InOut)) is = refl
texts_given (Some (Interrupt number)) is = absurd is
texts_given (Some (Input number of)) is = absurd is
texts_given (Some (Output number of)) is = absurd is
texts_given None is = absurd is

format_is : (found : Option (List Item)) (kinds : List Kind) → FitsSome found kinds → (items : List Item) × (found ≡ Some items) × FitsFormat items kinds
format_is None kinds fits = absurd fits
format_is (Some items) kinds fits = (items, refl, fits)

many_kinds : (around : Around) (es : PlainExprs) (kinds : List Kind) → HaveKinds around es kinds → length kinds ≤ of_exprs values es
many_kinds around NoExprs [] have = omega arith
many_kinds around NoExprs (kind ∷ kinds) have = absurd have
many_kinds around (MoreExprs e rest) [] have = omega arith
many_kinds around (MoreExprs e rest) (kind ∷ kinds) have = let one = some_values e in let more = many_kinds around rest kinds have.1 in omega (arith, one, more)

as_many : (around : Around) (targets : List PlainVariable) (kinds : List Kind) → AllZip (IsVariable around) targets kinds → length targets ≡ length kinds
as_many around [] [] are = refl
as_many around [] (kind ∷ kinds) are = absurd are
as_many around (target ∷ targets) [] are = absurd are
as_many around (target ∷ targets) (kind ∷ kinds) are = let more = as_many around targets kinds are.1 in omega (arith, more)

module _ (o : Object) (r : ℕ) (code : Code) (setting : Setting) (below most need : ℕ) (whole : IsWhole o code) (room : length code.cells + (need + 2) + most ≤ code.depth)
    (around : Around) (stands : Stands o r code setting around below) where
  abbrev instrs : List Instr
  instrs = code.instructions

  abbrev Fit : (Sizes → ℕ) → Type 0
  Fit of = IsSmall o below most need of

  abbrev Goes : (from to : ℕ) (before after : Shape) → Type 0
  Goes from to before after = Keeps o r code from to before after

  expr : (e : PlainExpr) (kind : Kind) (from to : ℕ) (s : Shape) → HasKind around e kind → Fit (λ z. of_expr z e) → length s + of_expr values e ≤ need + 2 →
      ExprAt setting.program instrs from e to → Goes from to s (Plain kind ∷ s)
  expr = expr_keep o r code setting below most need whole room around stands

  format_there : (format : ℕ) (items : List Item) → slice_get around.formats format ≡ Some items → slice_get o.formats format ≡ Some items
  format_there format items is = ap (λ formats. slice_get formats format) (stands.placed.tables.formats ∙ sym stands.formats) ∙ is

  pub put_keep : (es : PlainExprs) (number format from to : ℕ) → IsPut around es number format → Fit (λ z. of_exprs z es) → PutAt setting code.instructions from es number format to → Goes from to [] []
  put_keep es number format from to typed small is =
      let kinds = typed.1 in let end = is.0 in let sizes = small.2 in
      let found = format_is (slice_get around.formats format) kinds typed.3 in
      let many = many_kinds around es kinds typed.2 in
      let long = handed_length (map Plain kinds) [] in let same = length-map kinds Plain in
      let shape = handed (map Plain kinds) [] in
      then_one o r code from end to [] shape [] is.2.1
      ((keeps o r code setting below most need whole room around stands).all es kinds from end [] typed.2 small.0 small.1 (omega (arith, room, sizes))
      (are_quiet o r code whole from end (all_piece o r code setting around below stands es kinds from end typed.2 is.1).1) is.1)
      (put_keeps o r code whole end number format found.0 kinds is.2.0 (ap takes_texts (devices_there o r code setting around below stands number) ∙ texts_taken (slice_get around.devices number) typed.0)
      (format_there format found.0 found.1) found.2 (omega (arith, room, sizes, many, long, same)))

  -- how far a target lies behind its first element
  found_keep : (target : PlainVariable) (kind : Kind) (from to : ℕ) → IsVariable around target kind → Fit (λ z. of_variable z target) → FoundAt setting instrs from target to →
      Goes from to [] (Plain (kind_.Fixed 31) ∷ [])
  found_keep (OfVariable target [] es) kind from to typed small is =
      just_one o r code from to [] (Plain (kind_.Fixed 31) ∷ []) is.1
      (const_keeps o r code from (quiet_at o r code whole from (instr.Const (Fixed 31 (pos 0))) is.0 refl) (Fixed 31 (pos 0)) (kind_.Fixed 31) [] is.0 refl (omega (arith, room)))
  found_keep (OfVariable target (bound ∷ bounds) es) kind from to typed small is =
      let sizes = small.2 in
      (keeps o r code setting below most need whole room around stands).offset target (bound ∷ bounds) es kind from to [] typed small.0 small.1 (omega (arith, room, sizes))
      (are_quiet o r code whole from to (found_piece o r code setting around below stands (OfVariable target (bound ∷ bounds) es) kind from to typed is).1) is

  -- cells hold offsets, and values of these kinds
  abbrev Offsets : (c n : ℕ) → Type 0
  Offsets c n = (i : ℕ) → i < n → slice_get code.cells (c + i) ≡ Some (Plain (kind_.Fixed 31))

  abbrev Hold : (c : ℕ) → List Kind → Type 0
  Hold c kinds = (i : ℕ) (kind : Kind) → slice_get kinds i ≡ Some kind → slice_get code.cells (c + i) ≡ Some (Plain kind)

  here : (c : ℕ) (k : CellKind) → slice_get code.cells (c + 0) ≡ Some k → slice_get code.cells c ≡ Some k
  here c k is = let same : c ≡ c + 0 = omega arith in ap (λ n. slice_get code.cells n) same ∙ is

  further : (c i : ℕ) (k : CellKind) → slice_get code.cells (c + suc i) ≡ Some k → slice_get code.cells (c + 1 + i) ≡ Some k
  further c i k is = let same : c + 1 + i ≡ c + suc i = omega arith in ap (λ n. slice_get code.cells n) same ∙ is

  kept_keep : (targets : List PlainVariable) (kinds : List Kind) (from at to : ℕ) → AllZip (IsVariable around) targets kinds → Fit (λ z. of_variables z targets) → Offsets at (length targets) →
      KeptAt setting instrs from at targets to → Goes from to [] []
  kept_keep [] kinds from at to typed small offsets is = stays o r code from to [] is
  kept_keep (target ∷ targets) [] from at to typed small offsets is = absurd typed
  kept_keep (target ∷ targets) (kind ∷ kinds) from at to typed small offsets is =
      both_keep o r code from (is.0 + 1) to [] [] []
      (then_one o r code from is.0 (is.0 + 1) [] (Plain (kind_.Fixed 31) ∷ []) [] refl
      (found_keep target kind from is.0 typed.0 (left o below most need (λ z. of_variable z target) (λ z. of_variables z targets) small) is.1)
      (store_keep o r code setting below most need whole room around stands at (kind_.Fixed 31) is.0 is.2 (here at (Plain (kind_.Fixed 31)) (offsets 0 (omega arith)))))
      (kept_keep targets kinds (is.0 + 1) (at + 1) to typed.1 (right o below most need (λ z. of_variable z target) (λ z. of_variables z targets) small)
      (λ i less. further at i (Plain (kind_.Fixed 31)) (offsets (suc i) (omega (arith, less)))) is.3)

  filled_keep : (kinds : List Kind) (from cell to : ℕ) → Hold cell kinds → FilledAt setting instrs from cell kinds to → Goes from to [] []
  filled_keep [] from cell to hold is = stays o r code from to [] is
  filled_keep (kind ∷ kinds) from cell to hold is =
      both_keep o r code from (from + 1) to [] [] []
      (fill_keeps o r code whole from cell 1 kind is.0 (omega arith) (one_of code.cells cell (Plain kind) (here cell (Plain kind) (hold 0 kind refl))) (omega (arith, room)))
      (filled_keep kinds (from + 1) (cell + 1) to (λ i k there. further cell i (Plain k) (hold (suc i) k there)) is.1)

  load : (c : ℕ) (k : CellKind) (place : ℕ) (s : Shape) → Is instrs place (instr.Load c) → slice_get code.cells c ≡ Some k → length s ≤ 2 → Goes place (place + 1) s (k ∷ s)
  load c k place s is there few = load_keeps o r code place (quiet_at o r code whole place (instr.Load c) is refl) c k s is there (omega (arith, room, few))

  leaf_there : (number : ℕ) (bounds : List Bound) (kind : Kind) → IsLeafOf (slice_get around.leaves number) bounds kind → (leaf : Leaf) × (slice_get o.leaves number ≡ Some leaf) × (leaf.kind ≡ kind)
  leaf_there number bounds kind is =
      leaf_of (slice_get o.leaves number) bounds kind
      (subst (λ found. IsLeafOf found bounds kind)
      (ap (λ leaves. slice_get leaves number) (stands.placed.stands.leaves ∙ sym stands.placed.tables.leaves) ∙ slice_get-map plain_leaf o.leaves number) is)

  -- one value is written to its target
  written_one : (target : Target) (bounds : List Bound) (es : PlainExprs) (kind : Kind) (from cell at : ℕ) → IsVariable around (OfVariable target bounds es) kind →
      slice_get code.cells at ≡ Some (Plain (kind_.Fixed 31)) → slice_get code.cells cell ≡ Some (Plain kind) →
      Is instrs from (instr.Load (kept_in target at)) → Is instrs (from + 1) (instr.Load cell) → Is instrs (from + 2) (writing_at target bounds) → Goes from (from + 3) [] []
  written_one (LeafOf number) bounds es kind from cell at typed offset value one two three =
      let leaf = leaf_there number bounds kind typed.0 in
      let second : from + 2 ≡ from + 1 + 1 = omega arith in
      let third : from + 3 ≡ from + 2 + 1 = omega arith in
      let s = Plain (kind_.Fixed 31) ∷ [] in
      then_one o r code from (from + 2) (from + 3) [] (Plain kind ∷ s) [] third
      (then_one o r code from (from + 1) (from + 2) [] s (Plain kind ∷ s) second (load at (Plain (kind_.Fixed 31)) from [] one offset (omega arith)) (load cell (Plain kind) (from + 1) s two value (omega arith)))
      (subst (λ kind. Goes (from + 2) (from + 2 + 1) (Plain kind ∷ s) []) leaf.2
      (write_at_keeps o r code (from + 2) number leaf.0 [] (open_empty o r code whole (from + 2 + 1)) leaf.1 three (omega (arith, room))))
  written_one (Own c) bounds es kind from cell at typed offset value one two three =
      let second : from + 2 ≡ from + 1 + 1 = omega arith in
      let third : from + 3 ≡ from + 2 + 1 = omega arith in
      let s = Plain (kind_.Fixed 31) ∷ [] in
      then_one o r code from (from + 2) (from + 3) [] (Plain kind ∷ s) [] third
      (then_one o r code from (from + 1) (from + 2) [] s (Plain kind ∷ s) second (load at (Plain (kind_.Fixed 31)) from [] one offset (omega arith)) (load cell (Plain kind) (from + 1) s two value (omega arith)))
      (store_at_keeps o r code (from + 2) c (elements bounds) kind [] (open_empty o r code whole (from + 2 + 1)) three (some_elements bounds)
      (subst (λ cells. AreCells cells c (elements bounds) (Plain kind)) stands.placed.cells typed.0.0) (omega (arith, room)))
  written_one (Param c) bounds es kind from cell at typed offset value one two three =
      let second : from + 2 ≡ from + 1 + 1 = omega arith in
      let third : from + 3 ≡ from + 2 + 1 = omega arith in
      let s = RefTo kind ∷ [] in
      let param : slice_get code.cells c ≡ Some (RefTo kind) = ap (λ cells. slice_get cells c) (sym stands.placed.cells) ∙ param_known (slice_get around.cells c) bounds es kind typed in
      then_one o r code from (from + 2) (from + 3) [] (Plain kind ∷ s) [] third
      (then_one o r code from (from + 1) (from + 2) [] s (Plain kind ∷ s) second (load c (RefTo kind) from [] one param (omega arith)) (load cell (Plain kind) (from + 1) s two value (omega arith)))
      (write_ref_keeps o r code (from + 2) kind [] (open_empty o r code whole (from + 2 + 1)) three (omega (arith, room)))

  written_keep : (targets : List PlainVariable) (kinds : List Kind) (from cell at to : ℕ) → AllZip (IsVariable around) targets kinds → Offsets at (length targets) → Hold cell kinds →
      WrittenAt setting instrs from cell at targets to → Goes from to [] []
  written_keep [] kinds from cell at to typed offsets hold is = stays o r code from to [] is
  written_keep (target ∷ targets) [] from cell at to typed offsets hold is = absurd typed
  written_keep (OfVariable target bounds es ∷ targets) (kind ∷ kinds) from cell at to typed offsets hold is =
      both_keep o r code from (from + 3) to [] [] []
      (written_one target bounds es kind from cell at typed.0 (here at (Plain (kind_.Fixed 31)) (offsets 0 (omega arith))) (here cell (Plain kind) (hold 0 kind refl)) is.0 is.1 is.2)
      (written_keep targets kinds (from + 3) (cell + 1) (at + 1) to typed.1 (λ i less. further at i (Plain (kind_.Fixed 31)) (offsets (suc i) (omega (arith, less))))
      (λ i k there. further cell i (Plain k) (hold (suc i) k there)) is.3)

  pub get_keep : (targets : List PlainVariable) (number format cell from to : ℕ) → IsGet around targets number format cell → Fit (λ z. of_variables z targets) →
      GetAt setting code.instructions from targets number format cell to → Goes from to [] []
  get_keep targets number format cell from to typed small is =
      let kinds = typed.1 in let n = length kinds in
      let same : is.0 ≡ kinds = same_Some is.0 kinds (sym is.1 ∙ kinds_are o r code setting around below stands targets kinds typed.2) in
      let count = as_many around targets kinds typed.2 in
      let found = format_is (slice_get around.formats format) kinds typed.3 in
      let all = map Plain kinds ++ replicate n (Plain (kind_.Fixed 31)) in
      let mapped = length-map kinds Plain in
      let cells : take (n + n) (drop cell code.cells) ≡ all = subst (λ cells. take (n + n) (drop cell cells) ≡ all) stands.placed.cells typed.4 in
      let hold : Hold cell kinds = λ i kind there.
      part_is code.cells all cell (n + n) i (Plain kind) cells (get_front (map Plain kinds) (replicate n (Plain (kind_.Fixed 31))) i (Plain kind) (slice_get-map Plain kinds i ∙ ap (option_map Plain) there)) in
      let offsets : Offsets (cell + length targets) (length targets) = λ i less.
      let at : cell + length targets + i ≡ cell + (n + i) = omega (arith, count) in
      ap (λ n. slice_get code.cells n) at
      ∙ part_is code.cells all cell (n + n) (n + i) (Plain (kind_.Fixed 31)) cells
      (get_behind (map Plain kinds) (replicate n (Plain (kind_.Fixed 31))) (n + i) i (omega (arith, mapped)) ∙ get_copied n i (Plain (kind_.Fixed 31)) (omega (arith, less, count))) in
      let values : take n (drop cell code.cells) ≡ map Plain kinds =
      sym (taken_less (drop cell code.cells) n (n + n) (omega arith)) ∙ (ap (take n) cells ∙ take_at (map Plain kinds) (replicate n (Plain (kind_.Fixed 31))) n mapped) in
      let reading : Reading = record { device = number; format = format; first = cell } in
      let read : Goes is.3 (is.3 + 1) [] [] =
      get_keeps o r code whole is.3 reading found.0 kinds is.6
      (ap gives_texts (devices_there o r code setting around below stands number) ∙ texts_given (slice_get around.devices number) typed.0)
      (format_there format found.0 found.1) found.2 values (omega (arith, room)) in
      both_keep o r code from is.2 to [] [] [] (kept_keep targets kinds from (cell + length targets) is.2 typed.2 small offsets is.4)
      (both_keep o r code is.2 is.3 to [] [] [] (filled_keep kinds is.2 cell is.3 hold (subst (λ kinds. FilledAt setting instrs is.2 cell kinds is.3) same is.5))
      (both_keep o r code is.3 (is.3 + 1) to [] [] [] read (written_keep targets kinds (is.3 + 1) cell (cell + length targets) to typed.2 offsets hold is.7)))
