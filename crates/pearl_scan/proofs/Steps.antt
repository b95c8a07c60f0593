-- How a scan goes on from item to item.
use Rattle.std.proofs.Common.{◌≡◌, ◌<◌, ◌≤◌, ℕ, ◌+◌, ◌-◌, List, [], ◌∷◌, ◌++◌, length, drop, take, get_or, refl, arith, sym, ◌∙◌, ap, append_assoc, length-append}
use Rattle.std.proofs.lemmas.List.{append-nil, drop_more, drop_all, drop-drop, take_rest}
use Rattle.pearl_value.specs.declared.kind.Kind.{Kind}
use Rattle.pearl_value.specs.declared.cell.Cell.{Cell}
use Rattle.pearl_format.specs.declared.item.Item.{Item}
use Rattle.pearl_format.specs.Items.{data_here}
use Rattle.pearl_rules.specs.Scan.{Scanned, Short, Bad, Got, behind, followed_by, scan_item, scan}

behind_twice : (used more : ℕ) (values others : List Cell) (s : Scanned) → behind used values (behind more others s) ≡ behind (used + more) (values ++ others) s
behind_twice used more values others Short = refl
behind_twice used more values others (Bad n) = ap Bad (let e : used + (more + n) ≡ used + more + n = omega arith in e)
behind_twice used more values others (Got n found) =
    ap (λ k. Got k (values ++ (others ++ found))) (let e : used + (more + n) ≡ used + more + n = omega arith in e)
    ∙ ap (Got (used + more + n)) (sym (append_assoc values others found))

first_item : (items : List Item) (i : ℕ) (d : Item) (kinds : List Kind) (bytes : List ℕ) → i < length items →
    scan (drop i items) kinds bytes ≡ followed_by (scan_item (get_or items i d).code (get_or items i d).width kinds bytes)
    (λ used. scan (drop (i + 1) items) (drop (data_here (get_or items i d).code) kinds) (drop used bytes))
unfolding scan
first_item items i d kinds bytes inside = ap (λ list. scan list kinds bytes) (drop_more items i d inside)

pub last_item : (items : List Item) (i used : ℕ) (values : List Cell) (kinds : List Kind) (bytes : List ℕ) (whole : Scanned) → length items ≤ i →
    behind used values (scan (drop i items) kinds bytes) ≡ whole → Got used values ≡ whole
unfolding scan
last_item items i used values kinds bytes whole past before =
    ap (λ k. Got k values) (let e : used ≡ used + 0 = omega arith in e) ∙ ap (Got (used + 0)) (sym (append-nil values))
    ∙ ap (λ list. behind used values (scan list kinds bytes)) (sym (drop_all i items past)) ∙ before

module _ (items : List Item) (kinds : List Kind) (bytes : List ℕ) (i used k : ℕ) (d : Item) (values : List Cell) (whole : Scanned) (inside : i < length items)
    (count : k ≡ length values) (before : behind used values (scan (drop i items) (drop (length values) kinds) (drop used bytes)) ≡ whole) where
  here : Scanned
  here = scan_item (get_or items i d).code (get_or items i d).width (take (length kinds - k) (drop k kinds)) (take (length bytes - used) (drop used bytes))

  item_is : scan_item (get_or items i d).code (get_or items i d).width (take (length kinds - k) (drop k kinds)) (take (length bytes - used) (drop used bytes))
      ≡ scan_item (get_or items i d).code (get_or items i d).width (drop (length values) kinds) (drop used bytes)
  item_is =
      ap (λ t. scan_item (get_or items i d).code (get_or items i d).width t (take (length bytes - used) (drop used bytes))) (take_rest kinds k ∙ ap (λ n. drop n kinds) count)
      ∙ ap (scan_item (get_or items i d).code (get_or items i d).width (drop (length values) kinds)) (take_rest bytes used)

  step : (s : Scanned) → s ≡ scan_item (get_or items i d).code (get_or items i d).width (take (length kinds - k) (drop k kinds)) (take (length bytes - used) (drop used bytes)) →
      behind used values (followed_by s (λ more. scan (drop (i + 1) items) (drop (data_here (get_or items i d).code) (drop (length values) kinds)) (drop more (drop used bytes)))) ≡ whole
  step s e =
      ap (λ s. behind used values (followed_by s (λ more. scan (drop (i + 1) items) (drop (data_here (get_or items i d).code) (drop (length values) kinds)) (drop more (drop used bytes))))) (e ∙ item_is)
      ∙ ap (behind used values) (sym (first_item items i d (drop (length values) kinds) (drop used bytes) inside)) ∙ before

  pub short_item : Short ≡ scan_item (get_or items i d).code (get_or items i d).width (take (length kinds - k) (drop k kinds)) (take (length bytes - used) (drop used bytes)) → Short ≡ whole
  short_item e = step Short e

  pub bad_item : (more : ℕ) → Bad more ≡ scan_item (get_or items i d).code (get_or items i d).width (take (length kinds - k) (drop k kinds)) (take (length bytes - used) (drop used bytes)) →
      Bad (used + more) ≡ whole
  bad_item more e = step (Bad more) e

  good_item : (more : ℕ) (found : List Cell) →
      Got more found ≡ scan_item (get_or items i d).code (get_or items i d).width (take (length kinds - k) (drop k kinds)) (take (length bytes - used) (drop used bytes)) →
      data_here (get_or items i d).code ≡ length found →
      behind (used + more) (values ++ found) (scan (drop (i + 1) items) (drop (length (values ++ found)) kinds) (drop (used + more) bytes)) ≡ whole
  good_item more found e taken =
      let all : length (values ++ found) ≡ length values + data_here (get_or items i d).code = omega (arith, length-append values found, taken) in
      ap (λ n. behind (used + more) (values ++ found) (scan (drop (i + 1) items) (drop n kinds) (drop (used + more) bytes))) all
      ∙ ap (λ ks. behind (used + more) (values ++ found) (scan (drop (i + 1) items) ks (drop (used + more) bytes))) (sym (drop-drop (data_here (get_or items i d).code) (length values) kinds))
      ∙ ap (λ bs. behind (used + more) (values ++ found) (scan (drop (i + 1) items) (drop (data_here (get_or items i d).code) (drop (length values) kinds)) bs)) (sym (drop-drop more used bytes))
      ∙ sym (behind_twice used more values found (scan (drop (i + 1) items) (drop (data_here (get_or items i d).code) (drop (length values) kinds)) (drop more (drop used bytes))))
      ∙ step (Got more found) e

  pub passed_item : (more : ℕ) →
      Got more [] ≡ scan_item (get_or items i d).code (get_or items i d).width (take (length kinds - k) (drop k kinds)) (take (length bytes - used) (drop used bytes)) →
      data_here (get_or items i d).code ≡ 0 → behind (used + more) values (scan (drop (i + 1) items) (drop (length values) kinds) (drop (used + more) bytes)) ≡ whole
  passed_item more e taken =
      ap (λ vs. behind (used + more) vs (scan (drop (i + 1) items) (drop (length vs) kinds) (drop (used + more) bytes))) (sym (append-nil values)) ∙ good_item more [] e taken

  pub read_item : (more : ℕ) (x : Cell) →
      Got more (x ∷ []) ≡ scan_item (get_or items i d).code (get_or items i d).width (take (length kinds - k) (drop k kinds)) (take (length bytes - used) (drop used bytes)) →
      data_here (get_or items i d).code ≡ 1 →
      behind (used + more) (values ++ x ∷ []) (scan (drop (i + 1) items) (drop (length (values ++ x ∷ [])) kinds) (drop (used + more) bytes)) ≡ whole
  read_item more x e taken = good_item more (x ∷ []) e taken
