-- The loop over the items.
use Rattle.std.proofs.Common.{◌≡◌, ℕ, suc, ◌+◌, ◌≤◌, ◌<◌, List, ◌∷◌, ◌++◌, Option, Some, None, length, get_or, drop, take, map, ◌-◌, refl, ap, ◌∙◌, arith, length-append, add-one}
use Rattle.std.specs.List.{drop-map}
use Rattle.std.proofs.Math.Seq.{drop-cons}
use Rattle.std.proofs.lemmas.List.{take_rest}
use Rattle.pearl_value.specs.declared.cell.Cell.{Cell}
use Rattle.pearl_value.specs.Cells.{kind_of}
use Rattle.pearl_format.specs.declared.item.Item.{Item}
use Rattle.pearl_format.specs.Items.{data_here, width_over, text_width}
use Rattle.pearl_format.specs.Parts.{own_text}
use Rattle.pearl_format.specs.Texts.{joined_text, text_of}
use Rattle.pearl_format.proofs.Texts.{joined_text-assoc, own_text-is_within}

-- the first i items are put, these values are left, and `put` is the text with what stood before it
pub record HasPut (items : List Item) (values : List Cell) (before : List ℕ) (i : ℕ) (rest : List Cell) (put : List ℕ) : Type 0 where
  pub text : joined_text (Some before) (text_of items values) ≡ joined_text (Some put) (text_of (drop i items) rest)
  pub room : length put + text_width (drop i items) (map kind_of rest) ≤ 1024

-- text that was appended is as long as its item allows
appended-le : (o : Option (List ℕ)) (put more : List ℕ) (width : ℕ) → ((text : List ℕ) → o ≡ Some text → length text ≤ width) →
    joined_text (Some put) o ≡ Some more → length more ≤ length put + width
appended-le None put more width h e = cc
appended-le (Some text) put more width h e =
    let same : put ++ text ≡ more = cc in
    omega (arith, ap length same, length-append put text, h text refl)

-- one more item is put
has_put_more : (items : List Item) (values : List Cell) (before : List ℕ) (i : ℕ) (rest : List Cell) (put more : List ℕ) (item : Item) →
    HasPut items values before i rest put → drop i items ≡ item ∷ drop (suc i) items →
    joined_text (Some put) (own_text item.code item.width rest) ≡ Some more →
    HasPut items values before (suc i) (drop (data_here item.code) rest) more
has_put_more items values before i rest put more item h front own = record {
  text = h.text ∙ ap (λ (left : List Item). joined_text (Some put) (text_of left rest)) front
      ∙ joined_text-assoc (Some put) (own_text item.code item.width rest) (text_of (drop (suc i) items) (drop (data_here item.code) rest))
      ∙ ap (λ (o : Option (List ℕ)). joined_text o (text_of (drop (suc i) items) (drop (data_here item.code) rest))) own;
  room =
      let sum : text_width (drop i items) (map kind_of rest)
      ≡ width_over item.code item.width (map kind_of rest) + text_width (drop (suc i) items) (drop (data_here item.code) (map kind_of rest)) =
      ap (λ (left : List Item). text_width left (map kind_of rest)) front in
      let kinds : text_width (drop (suc i) items) (drop (data_here item.code) (map kind_of rest)) ≡ text_width (drop (suc i) items) (map kind_of (drop (data_here item.code) rest)) =
      ap (text_width (drop (suc i) items)) (drop-map kind_of (data_here item.code) rest) in
      omega (arith, h.room, sum, kinds, appended-le _ put more (width_over item.code item.width (map kind_of rest)) (own_text-is_within item.code item.width rest) own);
}

-- the same with the places as the loop has them
pub has_put_next : (items : List Item) (values : List Cell) (before : List ℕ) (i taken : ℕ) (rest : List Cell) (put more : List ℕ) (blank : Item) →
    HasPut items values before i rest put → i < length items → taken ≡ data_here (get_or items i blank).code →
    joined_text (Some put) (own_text (get_or items i blank).code (get_or items i blank).width rest) ≡ Some more →
    HasPut items values before (i + 1) (take (length rest - taken) (drop taken rest)) more
has_put_next items values before i taken rest put more blank h inside same own =
    let item = get_or items i blank in
    rw (add-one, take_rest rest taken, same) (has_put_more items values before i rest put more item h (drop-cons items i blank inside) own)

-- there is room for the item that comes next
pub has_room : (items : List Item) (values : List Cell) (before : List ℕ) (i : ℕ) (rest : List Cell) (put : List ℕ) (blank : Item) →
    HasPut items values before i rest put → i < length items →
    length put + width_over (get_or items i blank).code (get_or items i blank).width (map kind_of rest) ≤ 1024
has_room items values before i rest put blank h inside =
    let sum = ap (λ (left : List Item). text_width left (map kind_of rest)) (drop-cons items i blank inside) in
    omega (arith, h.room, sum)
