-- How a scan goes on where more bytes come in behind those that it went over, and until when it needn't.
use Rattle.std.proofs.Common.{◌≡◌, ◌<◌, ◌≤◌, ℕ, zero, suc, ◌+◌, ◌-◌, Bool, true, false, cond, not, ◌||◌, ◌==◌, List, [], ◌∷◌, ◌++◌, length, drop, take, get_or, inl, inr, refl, arith, sym, ◌∙◌, ap, subst, nat_lt, append_assoc, length-append}
use Rattle.std.proofs.lemmas.Bool.{ltb-true, lt-ltb, le-ltb, cases_lt, false≢true}
use Rattle.std.proofs.lemmas.List.{append-nil, length-take, length-drop, take_all, take_rest, take-append-le, drop-append-le}
use Rattle.std.proofs.lemmas.List.Sums.{sum_by-cons, sum_by-append, sum_by-take-drop, sum_by-drop_more, passes_at_first, count_by-le-length}
use Rattle.std.specs.Prelude.{Option, Some, None, IfSome, IsSome, option_map}
use Rattle.std.specs.List.{before_first, position_or_len}
use Rattle.pearl_value.specs.declared.kind.Kind.{Kind}
use Rattle.pearl_value.specs.declared.cell.Cell.{Cell}
use Rattle.pearl_format.specs.declared.item.ItemCode.{ItemCode}
use Rattle.pearl_format.specs.declared.item.ItemCode.TheVariants.{Skip}
use Rattle.pearl_format.specs.declared.item.Item.{Item}
use Rattle.pearl_format.specs.Items.{data_here, skip_count, width_over}
use Rattle.pearl_rules.specs.Scan.{Scanned, Short, Bad, Got, is_line_end, field, lines_length, behind_line, field_values, if_complete, if_skipped, scan_item, scan}
use Rattle.pearl_scan.specs.Progress.{line_ends, finds, bytes_awaited, lines_awaited, HasReached, CanGoOn}
use Rattle.pearl_scan.specs.declared.progress.Progress.{Progress}
use Rattle.pearl_scan.specs.declared.progress.Progress.TheVariants as progress
use Rattle.pearl_scan.specs.declared.progress.Reached.{Reached}
use Rattle.pearl_scan.proofs.Completing.{complete_last, complete_short, complete_bad, complete_passed, complete_read}

-- WHAT IS FOUND STAYS

place_stays : (xs ys : List ℕ) → position_or_len is_line_end xs < length xs → position_or_len is_line_end (xs ++ ys) ≡ position_or_len is_line_end xs
place_stays [] ys h = absurd (omega (arith, h))
place_stays (x ∷ xs) ys h = by (is_line_end x) (position_or_len is_line_end xs) (position_or_len is_line_end (xs ++ ys)) (place_stays xs ys) h
  where
    by : (here : Bool) (n m : ℕ) → (n < length xs → m ≡ n) → cond (not here) (1 + n) 0 < length (x ∷ xs) → cond (not here) (1 + m) 0 ≡ cond (not here) (1 + n) 0
    by true n m others h = refl
    by false n m others h = ap (λ k. 1 + k) (others (omega (arith, h)))

-- a field as far as its width goes
abbrev near_field : (width : ℕ) → List ℕ → Option (List ℕ)
near_field width near =
    cond (nat_lt (length (before_first is_line_end near)) (length near) || length near == width) (Some (before_first is_line_end near)) None

none_some : {A : Type 0} (x : A) → None ≡ Some x → ⊥
none_some x e = cc

field_stays : (width : ℕ) (bytes more text : List ℕ) → field width bytes ≡ Some text → field width (bytes ++ more) ≡ Some text
field_stays width bytes more text e = elim (cases_lt (length bytes) width) [
  | inl fewer ↦
      let all : take width bytes ≡ bytes = take_all width bytes (omega (arith, fewer)) in
      let rest : take width (bytes ++ more) ≡ bytes ++ take (width - length bytes) more = beyond width bytes more (omega (arith, fewer)) in
      ap (near_field width) rest
      ∙ by_place (nat_lt (length (before_first is_line_end bytes)) (length bytes)) refl (sym (ap (near_field width) all) ∙ e) fewer
  | inr enough ↦ ap (near_field width) (take-append-le width bytes more enough) ∙ e
]
  where
    beyond : (width : ℕ) (bytes more : List ℕ) → length bytes ≤ width → take width (bytes ++ more) ≡ bytes ++ take (width - length bytes) more
    beyond width [] more h = let same : width ≡ width - 0 = omega arith in ap (λ n. take n more) same
    beyond zero (byte ∷ bytes) more h = absurd (omega (arith, h))
    beyond (suc width) (byte ∷ bytes) more h =
        let less : suc width - length (byte ∷ bytes) ≡ width - length bytes = omega arith in
        ap (λ t. byte ∷ t) (beyond width bytes more (omega (arith, h)) ∙ ap (λ n. bytes ++ take n more) (sym less))

    by_place : (there : Bool) → nat_lt (length (before_first is_line_end bytes)) (length bytes) ≡ there → near_field width bytes ≡ Some text → length bytes < width →
        near_field width (bytes ++ take (width - length bytes) more) ≡ Some text
    by_place false none found less =
        absurd (none_some text (sym (ap (λ b. cond b (Some (before_first is_line_end bytes)) None) (
        ap (λ b. b || length bytes == width) none ∙ never)) ∙ found))
      where
        never : (length bytes == width) ≡ false
        never = grind (arith, less)
    by_place true some found less =
        let long = ltb-true (length (before_first is_line_end bytes)) (length bytes) some in
        let within : position_or_len is_line_end bytes < length bytes = omega (arith, long, length-take (position_or_len is_line_end bytes) bytes) in
        let place = place_stays bytes (take (width - length bytes) more) within in
        let same : before_first is_line_end (bytes ++ take (width - length bytes) more) ≡ before_first is_line_end bytes =
        ap (λ n. take n (bytes ++ take (width - length bytes) more)) place
        ∙ take-append-le (position_or_len is_line_end bytes) bytes (take (width - length bytes) more) (omega (arith, within)) in
        let still : nat_lt (length (before_first is_line_end bytes)) (length (bytes ++ take (width - length bytes) more)) ≡ true =
        lt-ltb _ _ (omega (arith, long, length-append bytes (take (width - length bytes) more))) in
        ap (λ t. cond (nat_lt (length t) (length (bytes ++ take (width - length bytes) more)) || length (bytes ++ take (width - length bytes) more) == width) (Some t) None) same
        ∙ ap (λ b. cond (b || length (bytes ++ take (width - length bytes) more) == width) (Some (before_first is_line_end bytes)) None) still
        ∙ sym (ap (λ b. cond (b || length bytes == width) (Some (before_first is_line_end bytes)) None) some)
        ∙ found

lines_stay : (count : ℕ) (bytes more : List ℕ) (used : ℕ) → lines_length count bytes ≡ Some used → lines_length count (bytes ++ more) ≡ Some used
lines_stay zero bytes more used e = e
lines_stay (suc count) bytes more used e =
    by (nat_lt (position_or_len is_line_end bytes) (length bytes)) refl (λ u n h. lines_stay count (drop u bytes) more n h) e
  where
    place : ℕ
    place = position_or_len is_line_end bytes

    behind : (o later : Option ℕ) → ((n : ℕ) → o ≡ Some n → later ≡ Some n) → option_map (λ n. place + 1 + n) o ≡ Some used → option_map (λ n. place + 1 + n) later ≡ Some used
    behind None later h found = absurd (none_some used found)
    behind (Some n) later h found = ap (option_map (λ n. place + 1 + n)) (h n refl) ∙ found

    by : (there : Bool) → nat_lt (position_or_len is_line_end bytes) (length bytes) ≡ there →
        ((u n : ℕ) → lines_length count (drop u bytes) ≡ Some n → lines_length count (drop u bytes ++ more) ≡ Some n) →
        behind_line (cond there (Some place) None) (λ u. lines_length count (drop u bytes)) ≡ Some used → lines_length (suc count) (bytes ++ more) ≡ Some used
    by false none others found = absurd (none_some used found)
    by true some others found =
        let within : place < length bytes = ltb-true place (length bytes) some in
        let same : position_or_len is_line_end (bytes ++ more) ≡ place = place_stays bytes more within in
        let still : nat_lt (position_or_len is_line_end (bytes ++ more)) (length (bytes ++ more)) ≡ true =
        lt-ltb _ _ (omega (arith, same, within, length-append bytes more)) in
        ap (λ b. behind_line (cond b (Some (position_or_len is_line_end (bytes ++ more))) None) (λ u. lines_length count (drop u (bytes ++ more)))) still
        ∙ ap (λ p. option_map (λ n. p + 1 + n) (lines_length count (drop (p + 1) (bytes ++ more)))) same
        ∙ ap (λ t. option_map (λ n. place + 1 + n) (lines_length count t)) (drop-append-le (place + 1) bytes more (omega (arith, within)))
        ∙ behind (lines_length count (drop (place + 1) bytes)) (lines_length count (drop (place + 1) bytes ++ more))
        (others (place + 1)) found

-- what an item finds, unless it isn't complete
item_stays : (code : ItemCode) (width : ℕ) (kinds : List Kind) (bytes more : List ℕ) (s : Scanned) → (s ≡ Short → ⊥) → s ≡ scan_item code width kinds bytes →
    s ≡ scan_item code width kinds (bytes ++ more)
item_stays Skip width kinds bytes more s found e = by (lines_length (skip_count width) bytes) refl e
  where
    by : (o : Option ℕ) → lines_length (skip_count width) bytes ≡ o → s ≡ if_skipped o → s ≡ if_skipped (lines_length (skip_count width) (bytes ++ more))
    by None h e = absurd (found e)
    by (Some used) h e = e ∙ sym (ap if_skipped (lines_stay (skip_count width) bytes more used h))
item_stays code width kinds bytes more s found e = by (field (width_over code width kinds) bytes) refl e
  where
    by : (o : Option (List ℕ)) → field (width_over code width kinds) bytes ≡ o → s ≡ if_complete o (λ text. field_values code kinds text) →
        s ≡ if_complete (field (width_over code width kinds) (bytes ++ more)) (λ text. field_values code kinds text)
    by None h e = absurd (found e)
    by (Some text) h e = e ∙ sym (ap (λ o. if_complete o (λ text. field_values code kinds text)) (field_stays (width_over code width kinds) bytes more text h))

-- UNTIL WHEN AN ITEM IS SHORT

ends-cons : (x : ℕ) (xs : List ℕ) → line_ends (x ∷ xs) ≡ cond (is_line_end x) 1 0 + line_ends xs
ends-cons x xs = sum_by-cons (λ x. cond (is_line_end x) 1 0) x xs

no_end : (bytes : List ℕ) → line_ends bytes < 1 → position_or_len is_line_end bytes ≡ length bytes
no_end [] h = refl
no_end (x ∷ xs) h = by (is_line_end x) (ends-cons x xs) (position_or_len is_line_end xs) (no_end xs)
  where
    by : (here : Bool) → line_ends (x ∷ xs) ≡ cond here 1 0 + line_ends xs → (n : ℕ) → (line_ends xs < 1 → n ≡ length xs) → cond (not here) (1 + n) 0 ≡ length (x ∷ xs)
    by true e n others = absurd (omega (arith, h, e))
    by false e n others = let rest = others (omega (arith, h, e)) in omega (arith, rest)

field_waits : (width : ℕ) (bytes : List ℕ) → length bytes < width → line_ends bytes < 1 → field width bytes ≡ None
field_waits width bytes few none =
    let all : take width bytes ≡ bytes = take_all width bytes (omega (arith, few)) in
    let whole : before_first is_line_end bytes ≡ bytes = take_all (position_or_len is_line_end bytes) bytes (omega (arith, no_end bytes none)) in
    let same : nat_lt (length (before_first is_line_end bytes)) (length bytes) ≡ false = le-ltb _ _ (omega (arith, ap length whole)) in
    ap (near_field width) all
    ∙ ap (λ b. cond (b || length bytes == width) (Some (before_first is_line_end bytes)) None) same
    ∙ ap (λ b. cond b (Some (before_first is_line_end bytes)) None) never
  where
    never : (length bytes == width) ≡ false
    never = grind (arith, few)

lines_wait : (count : ℕ) (bytes : List ℕ) → line_ends bytes < count → lines_length count bytes ≡ None
lines_wait zero bytes h = absurd (omega (arith, h))
lines_wait (suc count) bytes h = by (nat_lt (position_or_len is_line_end bytes) (length bytes)) refl (λ u less. lines_wait count (drop u bytes) less)
  where
    place : ℕ
    place = position_or_len is_line_end bytes

    by : (there : Bool) → nat_lt (position_or_len is_line_end bytes) (length bytes) ≡ there →
        ((u : ℕ) → line_ends (drop u bytes) < count → lines_length count (drop u bytes) ≡ None) →
        behind_line (cond there (Some place) None) (λ u. lines_length count (drop u bytes)) ≡ None
    by false none others = refl
    by true some others =
        let within : place < length bytes = ltb-true place (length bytes) some in
        let whole = sum_by-take-drop (λ x. cond (is_line_end x) 1 0) bytes place in
        let here = sum_by-drop_more (λ x. cond (is_line_end x) 1 0) bytes place 0 within in
        let one : ◌≡◌ {A = ℕ} (cond (is_line_end (get_or bytes place 0)) 1 0) 1 = ap (λ b. cond b 1 0) (passes_at_first is_line_end bytes 0 within) in
        let fewer : line_ends (drop (place + 1) bytes) < count = omega (arith, whole, here, one, h) in
        ap (option_map (λ n. place + 1 + n)) (others (place + 1) fewer)

item_waits : (code : ItemCode) (width : ℕ) (kinds : List Kind) (bytes : List ℕ) → length bytes < bytes_awaited code width kinds → line_ends bytes < lines_awaited code width →
    Short ≡ scan_item code width kinds bytes
item_waits Skip width kinds bytes few none = sym (ap if_skipped (lines_wait (skip_count width) bytes none))
item_waits code width kinds bytes few none =
    sym (ap (λ o. if_complete o (λ text. field_values code kinds text)) (field_waits (width_over code width kinds) bytes few none))

-- FROM ITEM TO ITEM

got_short : (used : ℕ) (values : List Cell) → Got used values ≡ Short → ⊥
got_short used values e = cc

bad_short : (used : ℕ) → Bad used ≡ Short → ⊥
bad_short used e = cc

module _ (items : List Item) (kinds : List Kind) (bytes : List ℕ) (i used k : ℕ) (d : Item) (inside : i < length items) (within : used ≤ length bytes)
    (far : (more : List ℕ) → finds (drop i items) (drop k kinds) (drop used (bytes ++ more)) ≡ finds items kinds (bytes ++ more)) where
  abbrev item : Item
  item = get_or items i d

  abbrev found_in : List ℕ → Scanned
  found_in all = scan_item item.code item.width (take (length kinds - k) (drop k kinds)) (take (length all - used) (drop used all))

  in_rest : (all : List ℕ) → found_in all ≡ scan_item item.code item.width (take (length kinds - k) (drop k kinds)) (drop used all)
  in_rest all = ap (scan_item item.code item.width (take (length kinds - k) (drop k kinds))) (take_rest all used)

  rest : (more : List ℕ) → drop used (bytes ++ more) ≡ drop used bytes ++ more
  rest more = drop-append-le used bytes more within

  stays : (s : Scanned) → (s ≡ Short → ⊥) → s ≡ found_in bytes → (more : List ℕ) → s ≡ found_in (bytes ++ more)
  stays s found e more =
      item_stays item.code item.width (take (length kinds - k) (drop k kinds)) (drop used bytes) more s found (e ∙ in_rest bytes)
      ∙ sym (ap (scan_item item.code item.width (take (length kinds - k) (drop k kinds))) (rest more)) ∙ sym (in_rest (bytes ++ more))

  pub passed_on : (n : ℕ) → Got n [] ≡ found_in bytes → data_here item.code ≡ 0 → (more : List ℕ) →
      finds (drop (i + 1) items) (drop k kinds) (drop (used + n) (bytes ++ more)) ≡ finds items kinds (bytes ++ more)
  passed_on n e taken more =
      complete_passed items kinds (bytes ++ more) i used k d (finds items kinds (bytes ++ more)) inside (far more) n (stays (Got n []) (got_short n []) e more) taken

  pub read_on : (n : ℕ) (x : Cell) → Got n (x ∷ []) ≡ found_in bytes → data_here item.code ≡ 1 → (more : List ℕ) →
      finds (drop (i + 1) items) (drop (k + 1) kinds) (drop (used + n) (bytes ++ more)) ≡ finds items kinds (bytes ++ more)
  read_on n x e taken more =
      complete_read items kinds (bytes ++ more) i used k d (finds items kinds (bytes ++ more)) inside (far more) n x
      (stays (Got n (x ∷ [])) (got_short n (x ∷ [])) e more) taken

  pub bad_on : (n : ℕ) → Bad n ≡ found_in bytes → (more : List ℕ) → finds items kinds (bytes ++ more) ≡ true
  bad_on n e more =
      sym (complete_bad items kinds (bytes ++ more) i used k d (finds items kinds (bytes ++ more)) inside (far more) n (stays (Bad n) (bad_short n) e more))

  pub short_now : Short ≡ found_in bytes → finds items kinds bytes ≡ false
  short_now e =
      let none : bytes ++ [] ≡ bytes = append-nil bytes in
      let before = subst (λ all. finds (drop i items) (drop k kinds) (drop used all) ≡ finds items kinds all) none (far []) in
      sym (complete_short items kinds bytes i used k d (finds items kinds bytes) inside before e)

  -- while too few came in
  pub short_on : (ends most others : ℕ) → ends ≡ line_ends (take used bytes) →
      most ≤ bytes_awaited item.code item.width (take (length kinds - k) (drop k kinds)) → others ≤ lines_awaited item.code item.width →
      (more : List ℕ) → length (bytes ++ more) < used + most → line_ends (bytes ++ more) < ends + others → finds items kinds (bytes ++ more) ≡ false
  short_on ends most others counted low fewer_ more few none =
      let behind = rest more in
      let whole = sum_by-take-drop (λ x. cond (is_line_end x) 1 0) bytes used in
      let later = sum_by-append (λ x. cond (is_line_end x) 1 0) (drop used bytes) more in
      let all = sum_by-append (λ x. cond (is_line_end x) 1 0) bytes more in
      let long : length (drop used bytes ++ more) < bytes_awaited item.code item.width (take (length kinds - k) (drop k kinds)) =
      omega (arith, few, low, within, length-append (drop used bytes) more, length-drop used bytes, length-append bytes more) in
      let ends_ : line_ends (drop used bytes ++ more) < lines_awaited item.code item.width = omega (arith, none, fewer_, counted, whole, later, all) in
      let found : Short ≡ found_in (bytes ++ more) =
      item_waits item.code item.width (take (length kinds - k) (drop k kinds)) (drop used bytes ++ more) long ends_
      ∙ sym (ap (scan_item item.code item.width (take (length kinds - k) (drop k kinds))) behind) ∙ sym (in_rest (bytes ++ more)) in
      sym (complete_short items kinds (bytes ++ more) i used k d (finds items kinds (bytes ++ more)) inside (far more) found)

-- behind some bytes there are no more line ends than in all
pub fewer_ends : (bytes : List ℕ) (used lines ends : ℕ) → lines ≡ line_ends bytes → ends ≡ line_ends (take (length bytes - used) (drop used bytes)) → ends ≤ lines
fewer_ends bytes used lines ends e counted =
    omega (arith, e, counted, sum_by-take-drop (λ x. cond (is_line_end x) 1 0) bytes used, ap line_ends (take_rest bytes used))

pub front_ends : (bytes : List ℕ) (used lines ends : ℕ) → lines ≡ line_ends bytes → ends ≡ line_ends (take (length bytes - used) (drop used bytes)) →
    lines - ends ≡ line_ends (take used bytes)
front_ends bytes used lines ends e counted =
    omega (arith, e, counted, sum_by-take-drop (λ x. cond (is_line_end x) 1 0) bytes used, ap line_ends (take_rest bytes used))

pub few_ends : (bytes : List ℕ) (used ends : ℕ) → ends ≡ line_ends (take used bytes) → length bytes ≤ 4096 → ends ≤ 4096
few_ends bytes used ends e near =
    omega (arith, e, near, sum_by-take-drop (λ x. cond (is_line_end x) 1 0) bytes used, count_by-le-length is_line_end bytes)

pub all_found : (items : List Item) (kinds : List Kind) (bytes : List ℕ) (i used k : ℕ) → length items ≤ i →
    ((more : List ℕ) → finds (drop i items) (drop k kinds) (drop used (bytes ++ more)) ≡ finds items kinds (bytes ++ more)) → (more : List ℕ) → finds items kinds (bytes ++ more) ≡ true
all_found items kinds bytes i used k past far more =
    sym (complete_last items i (drop k kinds) (drop used (bytes ++ more)) (finds items kinds (bytes ++ more)) past (far more))

-- what holds whatever comes in holds now
pub now : (items : List Item) (kinds : List Kind) (bytes : List ℕ) → ((more : List ℕ) → finds items kinds (bytes ++ more) ≡ true) → finds items kinds bytes ≡ true
now items kinds bytes always = subst (λ all. finds items kinds all ≡ true) (append-nil bytes) (always [])

pub short_yet : (items : List Item) (kinds : List Kind) (bytes : List ℕ) (r : Reached) → HasReached items kinds bytes r → length bytes < r.bytes → line_ends bytes < r.lines →
    finds items kinds bytes ≡ false
short_yet items kinds bytes r has few none =
    let all = append-nil bytes in
    subst (λ all. finds items kinds all ≡ false) all
    (has.short [] (subst (λ t. length t < r.bytes) (sym all) few) (subst (λ t. line_ends t < r.lines) (sym all) none))

-- bytes come in
pub going_on : (items : List Item) (kinds : List Kind) (bytes text : List ℕ) (p : Progress) → CanGoOn items kinds bytes p → CanGoOn items kinds (bytes ++ text) p
going_on items kinds bytes text progress.Complete always =
    λ more. subst (λ all. finds items kinds all ≡ true) (sym (append_assoc bytes text more)) (always (text ++ more))
going_on items kinds bytes text (progress.Short r) has = record {
  within = let far = has.within in omega (arith, far, length-append bytes text);
  fewer = has.fewer;
  far = λ more. subst (λ all. finds (drop r.items items) (drop r.targets kinds) (drop r.used all) ≡ finds items kinds all) (sym (append_assoc bytes text more)) (has.far (text ++ more));
  short = λ more. subst (λ all. length all < r.bytes → line_ends all < r.lines → finds items kinds all ≡ false) (sym (append_assoc bytes text more)) (has.short (text ++ more));
}

-- where it is told how many line ends there are
pub waits_yet : (items : List Item) (kinds : List Kind) (bytes : List ℕ) (r : Reached) (lines : Option ℕ) → HasReached items kinds bytes r →
    IfSome lines (λ n. n ≡ line_ends bytes) → length bytes < r.bytes → IsSome lines → IfSome lines (λ n. n < r.lines) → finds items kinds bytes ≡ false
waits_yet items kinds bytes r None has told few some none = absurd (false≢true some)
waits_yet items kinds bytes r (Some n) has told few some none = short_yet items kinds bytes r has few (omega (arith, told, none))
