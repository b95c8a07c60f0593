-- How a scan whose values aren't asked for goes on from item to item.
use Rattle.std.proofs.Common.{◌≡◌, ◌<◌, ◌≤◌, ℕ, ◌+◌, ◌-◌, Bool, true, false, List, [], ◌∷◌, length, drop, take, get_or, refl, arith, sym, ◌∙◌, ap}
use Rattle.std.proofs.lemmas.List.{drop_more, drop_all, drop-drop, take_rest}
use Rattle.pearl_value.specs.declared.kind.Kind.{Kind}
use Rattle.pearl_value.specs.declared.cell.Cell.{Cell}
use Rattle.pearl_format.specs.declared.item.Item.{Item}
use Rattle.pearl_format.specs.Items.{data_here}
use Rattle.pearl_rules.specs.Scan.{Scanned, Short, Bad, Got, behind, followed_by, scan_item, scan}
use Rattle.pearl_rules.specs.Pick.{is_complete}

complete_behind : (used : ℕ) (values : List Cell) (s : Scanned) → is_complete (behind used values s) ≡ is_complete s
complete_behind used values Short = refl
complete_behind used values (Bad n) = refl
complete_behind used values (Got n found) = refl

pub complete_last : (items : List Item) (i : ℕ) (kinds : List Kind) (bytes : List ℕ) (whole : Bool) → length items ≤ i →
    is_complete (scan (drop i items) kinds bytes) ≡ whole → true ≡ whole
unfolding scan
complete_last items i kinds bytes whole past before =
    ap (λ list. is_complete (scan list kinds bytes)) (sym (drop_all i items past)) ∙ before

module _ (items : List Item) (kinds : List Kind) (bytes : List ℕ) (i used k : ℕ) (d : Item) (whole : Bool) (inside : i < length items)
    (before : is_complete (scan (drop i items) (drop k kinds) (drop used bytes)) ≡ whole) where
  abbrev item : Item
  item = get_or items i d

  abbrev found_here : Scanned
  found_here = scan_item item.code item.width (take (length kinds - k) (drop k kinds)) (take (length bytes - used) (drop used bytes))

  abbrev later : ℕ → Scanned
  later more = scan (drop (i + 1) items) (drop (data_here item.code) (drop k kinds)) (drop more (drop used bytes))

  item_is : found_here ≡ scan_item item.code item.width (drop k kinds) (drop used bytes)
  item_is =
      ap (λ ks. scan_item item.code item.width ks (take (length bytes - used) (drop used bytes))) (take_rest kinds k)
      ∙ ap (scan_item item.code item.width (drop k kinds)) (take_rest bytes used)

  first : scan (drop i items) (drop k kinds) (drop used bytes) ≡ followed_by (scan_item item.code item.width (drop k kinds) (drop used bytes)) later
  unfolding scan
  first = ap (λ list. scan list (drop k kinds) (drop used bytes)) (drop_more items i d inside)

  step : (s : Scanned) → s ≡ found_here → is_complete (followed_by s later) ≡ whole
  step s e = ap (λ s. is_complete (followed_by s later)) (e ∙ item_is) ∙ ap is_complete (sym first) ∙ before

  pub complete_short : Short ≡ found_here → false ≡ whole
  complete_short e = step Short e

  pub complete_bad : (more : ℕ) → Bad more ≡ found_here → true ≡ whole
  complete_bad more e = step (Bad more) e

  complete_got : (more n : ℕ) (found : List Cell) → Got more found ≡ found_here → data_here item.code ≡ n →
      is_complete (scan (drop (i + 1) items) (drop (k + n) kinds) (drop (used + more) bytes)) ≡ whole
  complete_got more n found e taken =
      ap (λ ks. is_complete (scan (drop (i + 1) items) ks (drop (used + more) bytes))) (sym (drop-drop n k kinds))
      ∙ ap (λ m. is_complete (scan (drop (i + 1) items) (drop m (drop k kinds)) (drop (used + more) bytes))) (sym taken)
      ∙ ap (λ bs. is_complete (scan (drop (i + 1) items) (drop (data_here item.code) (drop k kinds)) bs)) (sym (drop-drop more used bytes))
      ∙ sym (complete_behind more found (later more))
      ∙ step (Got more found) e

  pub complete_passed : (more : ℕ) → Got more [] ≡ found_here → data_here item.code ≡ 0 →
      is_complete (scan (drop (i + 1) items) (drop k kinds) (drop (used + more) bytes)) ≡ whole
  complete_passed more e taken =
      ap (λ m. is_complete (scan (drop (i + 1) items) (drop m kinds) (drop (used + more) bytes))) (let same : k ≡ k + 0 = omega arith in same)
      ∙ complete_got more 0 [] e taken

  pub complete_read : (more : ℕ) (x : Cell) → Got more (x ∷ []) ≡ found_here → data_here item.code ≡ 1 →
      is_complete (scan (drop (i + 1) items) (drop (k + 1) kinds) (drop (used + more) bytes)) ≡ whole
  complete_read more x e taken = complete_got more 1 (x ∷ []) e taken
