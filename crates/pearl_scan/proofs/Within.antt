-- Why a scan uses no more bytes than there are.
use Rattle.std.proofs.Common.{◌≡◌, ◌<◌, ◌≤◌, ℕ, zero, suc, ◌+◌, ◌-◌, List, [], ◌∷◌, Bool, true, false, cond, ◌||◌, ◌==◌, length, drop, take, arith, nat_lt, refl}
use Rattle.std.proofs.lemmas.Bool.{ltb-true}
use Rattle.std.proofs.lemmas.List.{length-take, length-drop}
use Rattle.std.specs.Prelude.{Option, Some, None, IfSome, option_map}
use Rattle.std.specs.List.{before_first, position_or_len}
use Rattle.pearl_value.specs.declared.kind.Kind.{Kind}
use Rattle.pearl_value.specs.declared.cell.Cell.{Cell}
use Rattle.pearl_format.specs.declared.item.ItemCode.{ItemCode}
use Rattle.pearl_format.specs.declared.item.ItemCode.TheVariants.{Skip}
use Rattle.pearl_format.specs.Items.{data_here, width_over, skip_count}
use Rattle.pearl_rules.specs.Scan.{Scanned, Short, Bad, Got, is_line_end, field, lines_length, behind_line, field_values, good_or_bad, if_complete, if_skipped, scan_item, behind, followed_by, scan}
use Rattle.pearl_scan.specs.Laws.{IsWithin, UsesNoMore}

field_within : (width : ℕ) (bytes : List ℕ) → IfSome (field width bytes) (λ text. length text ≤ length bytes)
field_within width bytes =
    let near = take width bytes in
    by (nat_lt (length (before_first is_line_end near)) (length near) || length near == width)
  where
    by : (complete : Bool) → IfSome (cond complete (Some (before_first is_line_end (take width bytes))) None) (λ text. length text ≤ length bytes)
    by true = omega (arith, length-take (position_or_len is_line_end (take width bytes)) (take width bytes), length-take width bytes)
    by false = tt

lines_within : (count : ℕ) (bytes : List ℕ) → IfSome (lines_length count bytes) (λ used. used ≤ length bytes)
lines_within zero bytes = omega arith
lines_within (suc count) bytes =
    by (nat_lt (position_or_len is_line_end bytes) (length bytes)) refl (λ used. lines_within count (drop used bytes))
  where
    place : ℕ
    place = position_or_len is_line_end bytes

    more : (at : ℕ) (o : Option ℕ) → at < length bytes → IfSome o (λ used. used ≤ length (drop (at + 1) bytes)) →
        IfSome (option_map (λ n. at + 1 + n) o) (λ used. used ≤ length bytes)
    more at None inside h = tt
    more at (Some n) inside h = omega (arith, h, inside, length-drop (at + 1) bytes)

    by : (there : Bool) → nat_lt (position_or_len is_line_end bytes) (length bytes) ≡ there →
        ((used : ℕ) → IfSome (lines_length count (drop used bytes)) (λ n. n ≤ length (drop used bytes))) →
        IfSome (behind_line (cond there (Some (position_or_len is_line_end bytes)) None) (λ used. lines_length count (drop used bytes))) (λ used. used ≤ length bytes)
    by true e others = more (position_or_len is_line_end bytes) (lines_length count (drop (position_or_len is_line_end bytes + 1) bytes))
        (ltb-true (position_or_len is_line_end bytes) (length bytes) e) (others (position_or_len is_line_end bytes + 1))
    by false e others = tt

skipped_within : (bytes : ℕ) (o : Option ℕ) → IfSome o (λ used. used ≤ bytes) → IsWithin bytes (if_skipped o)
skipped_within bytes None h = tt
skipped_within bytes (Some used) h = h

complete_within : (bytes : ℕ) (o : Option (List ℕ)) (read : List ℕ → Option (List Cell)) → IfSome o (λ text. length text ≤ bytes) → IsWithin bytes (if_complete o read)
complete_within bytes None read h = tt
complete_within bytes (Some text) read h = by (read text)
  where
    by : (o : Option (List Cell)) → IsWithin bytes (good_or_bad (length text) o)
    by None = h
    by (Some values) = h

item_within : (code : ItemCode) (width : ℕ) (kinds : List Kind) (bytes : List ℕ) → IsWithin (length bytes) (scan_item code width kinds bytes)
item_within Skip width kinds bytes = skipped_within (length bytes) (lines_length (skip_count width) bytes) (lines_within (skip_count width) bytes)
item_within code width kinds bytes =
    complete_within (length bytes) (field (width_over code width kinds) bytes) (λ text. field_values code kinds text) (field_within (width_over code width kinds) bytes)

behind_within : (bytes used left : ℕ) (values : List Cell) (later : Scanned) → used ≤ bytes → left ≡ bytes - used → IsWithin left later → IsWithin bytes (behind used values later)
behind_within bytes used left values Short h e k = tt
behind_within bytes used left values (Bad more) h e k = omega (arith, h, e, k)
behind_within bytes used left values (Got more others) h e k = omega (arith, h, e, k)

followed_within : (bytes : List ℕ) (first : Scanned) (later : ℕ → Scanned) → IsWithin (length bytes) first → ((used : ℕ) → IsWithin (length (drop used bytes)) (later used)) →
    IsWithin (length bytes) (followed_by first later)
followed_within bytes Short later h each = tt
followed_within bytes (Bad used) later h each = h
followed_within bytes (Got used values) later h each =
    behind_within (length bytes) used (length (drop used bytes)) values (later used) h (length-drop used bytes) (each used)

pub uses_no_more : UsesNoMore
unfolding scan
uses_no_more [] kinds bytes = omega arith
uses_no_more (item ∷ items) kinds bytes =
    followed_within bytes (scan_item item.code item.width kinds bytes) (λ used. scan items (drop (data_here item.code) kinds) (drop used bytes))
    (item_within item.code item.width kinds bytes) (λ used. uses_no_more items (drop (data_here item.code) kinds) (drop used bytes))
