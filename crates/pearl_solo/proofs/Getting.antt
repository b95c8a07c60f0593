-- The operands and cells that are read in a row.
use Rattle.std.proofs.Common.{◌≡◌, ℕ, zero, suc, ◌+◌, ◌<◌, ◌≤◌, List, [], ◌∷◌, ◌++◌, Option, Some, None, length, reverse, take, drop, slice_get, refl, sym, ap, ◌∙◌, subst, arith, Bool, true, false, leb-true}
use Rattle.std.specs.Prelude.{nat_le, if◌then◌else◌, option_map, option_and_then, IsSome}
use Rattle.std.proofs.lemmas.List.{reverse-append}
use Rattle.std.proofs.lemmas.Option.{same_Some}
use Rattle.pearl_value.specs.declared.kind.Kind.{Kind}
use Rattle.pearl_value.specs.declared.cell.Cell.{Cell}
use Rattle.pearl_value.specs.declared.cell.Cell.TheVariants.{Fixed, Bits, Chars, Clock, Span, Ref}
use Rattle.pearl_value.specs.Cells.{kind_of}
use Rattle.pearl_format.specs.declared.item.Item.{Item}
use Rattle.pearl_format.specs.Items.{data_count}
use Rattle.pearl_rules.specs.declared.action.Action.TheVariants as action
use Rattle.pearl_rules.specs.declared.action.Answer.{Answer}
use Rattle.pearl_stack.specs.Frames.{Frame}
use Rattle.pearl_instructions.specs.declared.instr.Reading.{Reading}
use Rattle.pearl_instructions.specs.declared.object.Parts.{Parts as Object}
use Rattle.pearl_instructions.specs.Objects.{items_at}
use Rattle.pearl_instructions.specs.Offers.{items_suit, value_kinds, cells_from, with_values, get_values}
use Rattle.pearl_instructions.specs.Steps.{Step, Offers, given, needed, next, all_heard, value_kind}
use Rattle.pearl_silent.specs.Steps.{on_top, top_cells, Applies}
use Rattle.pearl_silent.proofs.Offered.{needed_true}

-- the kinds of cells

more_is : (k : Option Kind) (ks : Option (List Kind)) → IsSome (option_and_then (λ of. option_map (λ kinds. of ∷ kinds) ks) k) → IsSome k × IsSome ks
more_is None ks some = cc
more_is (Some of) None some = cc
more_is (Some of) (Some kinds) some = (refl, refl)

pub kind_is : (x : Cell) → IsSome (value_kind x) → value_kind x ≡ Some (kind_of x)
kind_is (Fixed len n) some = refl
kind_is (Bits len n) some = refl
kind_is (Chars text) some = refl
kind_is (Clock time) some = refl
kind_is (Span time) some = refl
kind_is (Ref kind place) some = cc

pub each_some : (xs : List Cell) (n i : ℕ) (x : Cell) → IsSome (value_kinds (take n xs)) → i < n → slice_get xs i ≡ Some x → IsSome (value_kind x)
each_some [] n i x some less e = cc
each_some (y ∷ xs) zero i x some less e = absurd (omega (arith, less))
each_some (y ∷ xs) (suc n) zero x some less e =
    subst (λ y. IsSome (value_kind y)) (same_Some y x e) (more_is (value_kind y) (value_kinds (take n xs)) some).0
each_some (y ∷ xs) (suc n) (suc i) x some less e = each_some xs n i x (more_is (value_kind y) (value_kinds (take n xs)) some).1 (omega (arith, less)) e

told_more : (k : Option Kind) (rest : Option (List Kind)) (ks : List Kind) → option_and_then (λ of. option_map (λ kinds. of ∷ kinds) rest) k ≡ Some ks →
    (of : Kind) × (more : List Kind) × (k ≡ Some of) × (rest ≡ Some more) × (of ∷ more ≡ ks)
told_more None rest ks e = cc
told_more (Some of) None ks e = cc
told_more (Some of) (Some more) ks e = (of, more, refl, refl, same_Some (of ∷ more) ks e)

pub kinds_more : (xs : List Cell) (i : ℕ) (x : Cell) (ks : List Kind) → slice_get xs i ≡ Some x → value_kind x ≡ Some (kind_of x) → value_kinds (take i xs) ≡ Some ks →
    value_kinds (take (suc i) xs) ≡ Some (ks ++ (kind_of x ∷ []))
kinds_more [] i x ks e h is = cc
kinds_more (y ∷ xs) zero x ks e h is =
    let same : y ≡ x = same_Some y x e in
    let none : [] ≡ ks = same_Some [] ks is in
    ap (λ y. value_kinds (y ∷ [])) same ∙ (ap (option_and_then (λ of. option_map (λ kinds. of ∷ kinds) (Some []))) h ∙ ap (λ ks. Some (ks ++ (kind_of x ∷ []))) none)
kinds_more (y ∷ xs) (suc i) x ks e h is =
    let m = told_more (value_kind y) (value_kinds (take i xs)) ks is in
    let more = kinds_more xs i x m.1 e h m.3 in
    ap (λ k. option_and_then (λ of. option_map (λ kinds. of ∷ kinds) (value_kinds (take (suc i) xs))) k) m.2
    ∙ (ap (option_map (λ kinds. m.0 ∷ kinds)) more ∙ ap (λ ks. Some (ks ++ (kind_of x ∷ []))) m.4)

pub kinds_few : (xs : List Cell) (i : ℕ) (ks : List Kind) → value_kinds (take i xs) ≡ Some ks → length ks ≤ i
kinds_few xs zero ks e = let none : [] ≡ ks = same_Some [] ks e in omega (arith, ap length none)
kinds_few [] (suc i) ks e = let none : [] ≡ ks = same_Some [] ks e in omega (arith, ap length none)
kinds_few (y ∷ xs) (suc i) ks e =
    let m = told_more (value_kind y) (value_kinds (take i xs)) ks e in
    let less = kinds_few xs i m.1 m.3 in
    omega (arith, less, ap length m.4)

-- the cells that GET reads into

pub record Reads (cells : List Cell) (first count : ℕ) : Type 0 where
  pub from : cells_from cells first count ≡ Some (take count (drop first cells))
  pub some : IsSome (value_kinds (take count (drop first cells)))
  pub within : 0 < count → first + count ≤ length cells

pub reads : (cells : List Cell) (first count : ℕ) → IsSome (option_and_then value_kinds (cells_from cells first count)) → Reads cells first count
reads cells first count some = by (nat_le (first + count) (length cells)) refl
  where
    by_none : (b : Bool) → nat_le count 0 ≡ b → cells_from cells first count ≡ (if b then Some [] else None) → Reads cells first count
    by_none false e h = let none : IsSome (option_and_then value_kinds None) = subst (λ o. IsSome (option_and_then value_kinds o)) h some in cc
    by_none true e h =
        let none = leb-true count 0 e in
        let zero : count ≡ 0 = omega (arith, none) in
        let empty : take count (drop first cells) ≡ [] = ap (λ n. take n (drop first cells)) zero in
        record { from = h ∙ ap Some (sym empty); some = rw empty refl; within = λ less. absurd (omega (arith, less, zero)) }

    by : (b : Bool) → nat_le (first + count) (length cells) ≡ b → Reads cells first count
    by true e =
        let h : cells_from cells first count ≡ Some (take count (drop first cells)) =
        ap (λ b. if b then Some (take count (drop first cells)) else (if nat_le count 0 then Some [] else None)) e in
        record { from = h; some = subst (λ o. IsSome (option_and_then value_kinds o)) h some; within = λ less. leb-true (first + count) (length cells) e }
    by false e = by_none (nat_le count 0) refl (ap (λ b. if b then Some (take count (drop first cells)) else (if nat_le count 0 then Some [] else None)) e)

pub dropped_at : (xs : List Cell) (c i : ℕ) → slice_get (drop c xs) i ≡ slice_get xs (c + i)
dropped_at xs zero i = let e : zero + i ≡ i = omega arith in ap (slice_get xs) (sym e)
dropped_at [] (suc c) i = refl
dropped_at (x ∷ xs) (suc c) i = let e : suc c + i ≡ suc (c + i) = omega arith in dropped_at xs c i ∙ ap (slice_get (x ∷ xs)) (sym e)

-- the row, where these are the kinds of its cells
pub gets_row : (o : Object) (g : Reading) (frames : List Frame) (room : ℕ) (items : List Item) (kinds : List Kind) → items_at o g.format ≡ Some items →
    Applies (on_top (λ f lower. get_values o g f lower) frames) room → option_and_then value_kinds (cells_from (top_cells frames) g.first (data_count items)) ≡ Some kinds →
    (go : Answer → List Frame) × (on_top (λ f lower. get_values o g f lower) frames ≡ Offers (action.Get g.device g.format (record { items = kinds })) go)
gets_row o g [] room items kinds e a h = absurd a
gets_row o g (f ∷ lower) room items kinds e a h =
    let go : Answer → List Frame = λ answer. next (record f { cells = with_values f.cells g.first (all_heard answer) }) f.operands ∷ lower in
    let by_kinds : List Item → List Kind → Step = λ items kinds. needed (items_suit items kinds) (Offers (action.Get g.device g.format (record { items = kinds })) go) in
    let whole : get_values o g f lower ≡ by_kinds items kinds =
    ap (λ i. given i (λ items. given (option_and_then value_kinds (cells_from f.cells g.first (data_count items))) (by_kinds items))) e ∙ ap (λ k. given k (by_kinds items)) h in
    let suits = needed_true (items_suit items kinds) _ room (subst (λ r. Applies r room) whole a) in
    (go, whole ∙ ap (λ b. needed b (Offers (action.Get g.device g.format (record { items = kinds })) go)) suits.0)
