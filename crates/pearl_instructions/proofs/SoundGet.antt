-- The row of GET leads from a stack of a valid object to such stacks only.
use Rattle.std.proofs.Common.{◌≡◌, ℕ, zero, suc, ◌+◌, ◌≤◌, List, [], ◌∷◌, ◌++◌, Option, Some, None, length, take, drop, slice_get, refl, sym, ap, ◌∙◌, subst, arith, Bool, true, false, leb-true, le-leb, take-append-drop}
use Rattle.std.specs.Prelude.{◌⊎◌, nat_lt, nat_le, if◌then◌else◌, option_and_then}
use Rattle.std.proofs.Common.{inl, inr}
use Rattle.std.proofs.lemmas.List.{append-nil}
use Rattle.std.specs.List.{AllByRecursion, AllZip}
use Rattle.pearl_value.specs.declared.kind.Kind.{Kind}
use Rattle.pearl_value.specs.declared.cell.Cell.{Cell}
use Rattle.pearl_value.specs.WellFormed.{IsValueOf}
use Rattle.pearl_format.specs.declared.item.Item.{Item}
use Rattle.pearl_format.specs.Items.{data_count, IsFormat, FitsFormat, FitsSome}
use Rattle.pearl_rules.specs.declared.action.Action.TheVariants as action
use Rattle.pearl_rules.specs.declared.action.Answer.{Answer}
use Rattle.pearl_rules.specs.declared.action.Answer.TheVariants.{Nothing, One, Many}
use Rattle.pearl_stack.specs.Frames.{Frame}
use Rattle.pearl_instructions.specs.declared.instr.Reading.{Reading}
use Rattle.pearl_instructions.specs.declared.instr.Instr.TheVariants.{Get}
use Rattle.pearl_instructions.specs.declared.object.Code.{Code}
use Rattle.pearl_instructions.specs.declared.object.Parts.{Parts as Object}
use Rattle.pearl_instructions.specs.Objects.{items_at}
use Rattle.pearl_instructions.specs.Lawful.{IsCellKind, IsObject}
use Rattle.pearl_instructions.specs.Offers.{items_suit, value_kinds, cells_from, with_values}
use Rattle.pearl_instructions.specs.Steps.{Offers, given, needed, next, all_heard}
use Rattle.pearl_instructions.specs.Rows.{act}
use Rattle.pearl_instructions.specs.Operands.{Shape}
use Rattle.pearl_instructions.specs.Named.{has_cells, has_read_cells, cells_at, read_cells, gives_texts}
use Rattle.pearl_instructions.specs.Valid.{plain_kinds, cells_suit}
use Rattle.pearl_instructions.specs.Stacks.{routines_of, Suits, AreOf, IsTop}
use Rattle.pearl_instructions.specs.Actions.{IsGet}
use Rattle.pearl_instructions.proofs.Tests.{and_true, or_true}
use Rattle.pearl_instructions.proofs.Zips.{zip_length, zip_take, zip_drop}
use Rattle.pearl_instructions.proofs.Ranges.{zip_put}
use Rattle.pearl_instructions.proofs.Lists.{kinds_of_values, values_suit_cells, are_kinds}
use Rattle.pearl_instructions.proofs.OfferedActions.{readable_there, items_suited}
use Rattle.pearl_instructions.proofs.Kept.{IsSound, Here, goes, given_goes, needed_goes}
use Rattle.pearl_instructions.proofs.SoundVariables.{all_of}
use Rattle.pearl_instructions.proofs.SoundFlow.{all_take, all_drop}
use Rattle.pearl_instructions.proofs.SoundActions.{format_kinds}

read_items : (code : Code) (c : ℕ) (items : Option (List Item)) → has_read_cells code c items ≡ true →
    (is : List Item) × (items ≡ Some is) × ((data_count is ≡ 0) ⊎ (c + data_count is ≤ length code.cells))
read_items code c None e = cc
read_items code c (Some items) e = (items, refl, by (nat_le (data_count items) 0) refl)
  where
    by : (b : Bool) → nat_le (data_count items) 0 ≡ b → (data_count items ≡ 0) ⊎ (c + data_count items ≤ length code.cells)
    by true h = let less = leb-true (data_count items) 0 h in inl (omega (arith, less))
    by false h =
        let has = or_true (nat_le (data_count items) 0) (has_cells code c (data_count items)) e h in
        inr (leb-true (c + data_count items) (length code.cells) (and_true (nat_lt 0 (data_count items)) (nat_le (c + data_count items) (length code.cells)) has).1)

take_long : {A : Type 0} (xs : List A) (n : ℕ) → n ≤ length xs → length (take n xs) ≡ n
take_long xs zero less = refl
take_long [] (suc n) less = absurd (omega (arith, less))
take_long (x ∷ xs) (suc n) less = ap suc (take_long xs n (omega (arith, less)))

drop_long : {A : Type 0} (xs : List A) (c n : ℕ) → c + n ≤ length xs → n ≤ length (drop c xs)
drop_long xs zero n less = omega (arith, less)
drop_long [] (suc c) n less = absurd (omega (arith, less))
drop_long (x ∷ xs) (suc c) n less = drop_long xs c n (omega (arith, less))

none_taken : {A : Type 0} (xs : List A) (n : ℕ) → n ≡ 0 → take n xs ≡ []
none_taken xs n e = ap (λ n. take n xs) e

-- the cells that are read into, and what they become
record Room (o : Object) (code : Code) (cells : List Cell) (c n : ℕ) (rs : List ℕ) : Type 0 where
  pub held : List Cell
  pub there : cells_from cells c n ≡ Some held
  pub suits : AllZip (Suits o rs) (cells_at code c n) held
  pub put : (xs : List Cell) → AllZip (Suits o rs) (cells_at code c n) xs → AllZip (Suits o rs) code.cells (with_values cells c xs)

no_cells : (cells : List Cell) (c n : ℕ) → n ≡ 0 → cells_from cells c n ≡ Some []
no_cells cells c n e = by (nat_le (c + n) (length cells))
  where
    by : (b : Bool) → (if b then Some (take n (drop c cells)) else (if nat_le n 0 then Some [] else None)) ≡ Some []
    by true = ap Some (none_taken (drop c cells) n e)
    by false = ap (λ b. if b then Some [] else None) (le-leb n 0 (omega (arith, e)))

room_is : (o : Object) (code : Code) (cells : List Cell) (c n : ℕ) (rs : List ℕ) → AllZip (Suits o rs) code.cells cells →
    ((n ≡ 0) ⊎ (c + n ≤ length code.cells)) → Room o code cells c n rs
room_is o code cells c n rs z (inl none) =
    let nothing : cells_at code c n ≡ [] = none_taken (drop c code.cells) n none in
    record {
      held = [];
      there = no_cells cells c n none;
      suits = subst (λ ks. AllZip (Suits o rs) ks []) (sym nothing) tt;
      put = λ xs w. unchanged xs (subst (λ ks. AllZip (Suits o rs) ks xs) nothing w);
    }
  where
    unchanged : (xs : List Cell) → AllZip (Suits o rs) [] xs → AllZip (Suits o rs) code.cells (with_values cells c xs)
    unchanged [] w =
        let at : c + 0 ≡ c = omega arith in
        subst (AllZip (Suits o rs) code.cells)
        (sym (ap (λ t. t ++ drop (c + 0) cells) (append-nil (take c cells)) ∙ (ap (λ m. take c cells ++ drop m cells) at ∙ take-append-drop c cells))) z
    unchanged (x ∷ xs) w = absurd w
room_is o code cells c n rs z (inr long) =
    let same = zip_length (Suits o rs) code.cells cells z in
    let less : c + n ≤ length cells = omega (arith, long, same) in
    record {
      held = take n (drop c cells);
      there = ap (λ b. if b then Some (take n (drop c cells)) else (if nat_le n 0 then Some [] else None)) (le-leb (c + n) (length cells) less);
      suits = zip_take (Suits o rs) n (drop c code.cells) (drop c cells) (zip_drop (Suits o rs) c code.cells cells z);
      put = λ xs w.
          let many : n ≡ length xs = sym (take_long (drop c code.cells) n (drop_long code.cells c n long)) ∙ zip_length (Suits o rs) (cells_at code c n) xs w in
          let fits : c + length xs ≤ length code.cells = omega (arith, long, many) in
          zip_put (Suits o rs) code.cells cells xs c (c + length xs) refl fits (subst (λ n. AllZip (Suits o rs) (take n (drop c code.cells)) xs) many w) z;
    }

-- the values that were read become the cells
read_goes : (o : Object) (f : Frame) (lower : List Frame) (g : Reading) (kinds : List Kind) → IsGet o g.device g.format kinds →
    ((xs : List Cell) → AllZip IsValueOf kinds xs → IsTop o (next (record f { cells = with_values f.cells g.first xs }) f.operands) lower) →
    IsSound o (Offers (action.Get g.device g.format (record { items = kinds }))
    (λ answer. next (record f { cells = with_values f.cells g.first (all_heard answer) }) f.operands ∷ lower))
read_goes o f lower g kinds there go = (there, by_answer)
  where
    by_answer : (answer : Answer) (own : ℕ) → AreOf kinds answer → IsTop o (next (record f { cells = with_values f.cells g.first (all_heard answer) }) f.operands) lower
    by_answer Nothing own e = absurd e
    by_answer (One x) own e = absurd e
    by_answer (Many xs) own e = go xs.items e

get_with : (o : Object) (w : IsObject o) (f : Frame) (lower : List Frame) (code : Code) (s : Shape) (g : Reading) (items : List Item) → items_at o g.format ≡ Some items →
    ((data_count items ≡ 0) ⊎ (g.first + data_count items ≤ length code.cells)) → gives_texts (slice_get o.devices g.device) ≡ true →
    AllByRecursion IsCellKind code.cells → Here o f lower code (Get g) s →
    IsSound o (given (option_and_then value_kinds (cells_from f.cells g.first (data_count items))) (λ kinds. needed (items_suit items kinds)
    (Offers (action.Get g.device g.format (record { items = kinds }))
    (λ answer. next (record f { cells = with_values f.cells g.first (all_heard answer) }) f.operands ∷ lower))))
get_with o w f lower code s g items there size gives kinds h =
    let rs = routines_of lower in
    let c = g.first in
    let n = data_count items in
    let suits = format_kinds items (plain_kinds (cells_at code c n)) (ap (λ i. cells_suit i (read_cells code c i)) (sym there) ∙ h.keeps.limits) in
    let room = room_is o code f.cells c n rs h.stands.cells size in
    let lawful = are_kinds (cells_at code c n) suits.kinds suits.are (all_take IsCellKind n (drop c code.cells) (all_drop IsCellKind c code.cells kinds)) in
    let fits : FitsFormat items suits.kinds = record {
      suits = items_suited items suits.kinds (all_of IsFormat o.formats g.format items w.formats there) suits.suit;
      few = suits.few;
      short = suits.short;
    } in
    let is : IsGet o g.device g.format suits.kinds = record {
      gives = readable_there (slice_get o.devices g.device) gives;
      are = lawful;
      fits = subst (λ i. FitsSome i suits.kinds) (sym there) fits;
    } in
    given_goes o suits.kinds (option_and_then value_kinds (cells_from f.cells c n)) (λ kinds. needed (items_suit items kinds)
    (Offers (action.Get g.device g.format (record { items = kinds }))
    (λ answer. next (record f { cells = with_values f.cells g.first (all_heard answer) }) f.operands ∷ lower)))
    (ap (option_and_then value_kinds) room.there ∙ kinds_of_values o rs (cells_at code c n) room.held suits.kinds suits.are room.suits)
    (needed_goes o (items_suit items suits.kinds) _ suits.suit (read_goes o f lower g suits.kinds is (λ xs fits.
    goes o f lower code (Get g) s h (with_values f.cells c xs) f.operands s refl refl
    (room.put xs (values_suit_cells o rs (cells_at code c n) suits.kinds xs suits.are fits)) h.stands.operands)))

pub get_sound : (o : Object) (w : IsObject o) (f : Frame) (lower : List Frame) (code : Code) (s : Shape) (g : Reading) → AllByRecursion IsCellKind code.cells → Here o f lower code (Get g) s →
    IsSound o (act o (Get g) f lower)
get_sound o w f lower code s g kinds h =
    let named = and_true (gives_texts (slice_get o.devices g.device)) (has_read_cells code g.first (items_at o g.format)) h.keeps.named in
    let items = read_items code g.first (items_at o g.format) named.1 in
    given_goes o items.0 (items_at o g.format) (λ items.
    given (option_and_then value_kinds (cells_from f.cells g.first (data_count items))) (λ kinds. needed (items_suit items kinds)
    (Offers (action.Get g.device g.format (record { items = kinds }))
    (λ answer. next (record f { cells = with_values f.cells g.first (all_heard answer) }) f.operands ∷ lower))))
    items.1 (get_with o w f lower code s g items.0 items.1 items.2 named.0 kinds h)
