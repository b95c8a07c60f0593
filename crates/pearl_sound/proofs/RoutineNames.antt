-- The names of a routine's scopes, its loops and its GETs have cells of their own.
use Rattle.std.specs.Prelude.{◌≡◌, ℕ, ◌+◌, ◌≤◌, ◌<◌, List, length, take, drop, Some, slice_get}
use Rattle.std.proofs.Common.{ap, ◌∙◌, sym, subst, arith}
use Rattle.std.proofs.lemmas.List.{take_all}
use Rattle.pearl_tree.specs.ShownModules.{ShownBody}
use Rattle.pearl_names.specs.Tables.{Sense}
use Rattle.pearl_program.specs.Typing.{AreOpen}
use Rattle.pearl_program.specs.HiddenCells.{hidden_in_all}
use Rattle.pearl_resolve.specs.Laying.{cells_of_sense}
use Rattle.pearl_resolve.specs.Numbers.{At, after_body}
use Rattle.pearl_resolve.specs.Expressions.{Numbered}
use Rattle.pearl_resolve.specs.Cells.{sense_cells, routine_cells}
use Rattle.pearl_resolve.specs.Resolve.{resolve_routine}
use Rattle.pearl_sound.specs.Laws.{IsNameIn}
use Rattle.pearl_sound.specs.Stretches.{Stretch, routine_stretches, cells_of, AreInARow}
use Rattle.pearl_sound.proofs.Dividing.{routine_divides}
use Rattle.pearl_sound.proofs.Stretched.{taken, place, cells_lie, name_lies, names_apart}

module _ (numbered : Numbered) (at : At) (body : ShownBody) where
  abbrev pieces : List Stretch
  pieces = routine_stretches numbered at body

  abbrev last : At
  last = after_body numbered.table at body

  row : AreInARow numbered.table at.next 0 pieces last.next last.cell
  row = (routine_divides numbered at body).row

  pub stretch_cells : (i : ℕ) (stretch : Stretch) → slice_get pieces i ≡ Some stretch →
      take (length stretch.cells) (drop stretch.first (routine_cells numbered at body)) ≡ stretch.cells
  stretch_cells i stretch there =
      let divided = routine_divides numbered at body in
      let placed = place numbered.table at.next 0 pieces last.next last.cell row i stretch there in
      let here : stretch.first ≡ stretch.first + 0 = omega arith in
      ap (λ cells. take (length stretch.cells) (drop stretch.first cells)) (sym divided.cell) ∙
      ap (λ n. take (length stretch.cells) (drop n (cells_of pieces))) here ∙
      taken (cells_lie numbered.table at.next pieces last.next last.cell stretch placed) (length stretch.cells) 0 (omega arith) ∙
      take_all (length stretch.cells) stretch.cells (omega arith)

  pub inner_names : (k number : ℕ) (sense : Sense) → IsNameIn numbered at body k number sense →
      (take (cells_of_sense sense) (drop number (routine_cells numbered at body)) ≡ sense_cells sense) ×
      AreOpen (hidden_in_all (resolve_routine numbered at body).body) number (cells_of_sense sense)
  inner_names k number sense is =
      let divided = routine_divides numbered at body in
      let lies = name_lies numbered.table at.next pieces last.next last.cell row k is.row
      (ap (λ rows. slice_get rows k) divided.numbered ∙ is.scope) is.index number sense is.there is.means is.own in (
        ap (λ cells. take (cells_of_sense sense) (drop number cells)) (sym divided.cell) ∙ lies.0,
        subst (λ hidden. AreOpen hidden number (cells_of_sense sense)) divided.hides lies.1,
      )

  pub scopes_apart : (k l first second : ℕ) (one two : Sense) → k < l → IsNameIn numbered at body k first one →
      IsNameIn numbered at body l second two → first + cells_of_sense one ≤ second
  scopes_apart k l first second one two less is has =
      let divided = routine_divides numbered at body in
      names_apart numbered.table at.next pieces last.next last.cell row k l is.row has.row less
      (ap (λ rows. slice_get rows k) divided.numbered ∙ is.scope) (ap (λ rows. slice_get rows l) divided.numbered ∙ has.scope)
      is.index has.index first second one two is.there has.there is.means has.means is.own has.own
