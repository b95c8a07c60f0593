-- The lines of the watched slots, one after the other, and what a sink takes of them.
use Rattle.std.proofs.Common.{◌≡◌, ℕ, zero, suc, ◌+◌, ◌-◌, ◌^◌, ◌<◌, ◌≤◌, ◌⊎◌, inl, inr, if◌then◌else◌, List, [], ◌∷◌, ◌++◌, Option, Some, None, length, map, take, slice_index_or, slice_get, replicate, refl, ap, ap₂, sym, subst, ◌∙◌, append-nil, add-one, append_assoc, length-append, arith}
use Rattle.std.proofs.lemmas.Option.{none-some, same_Some}
use Rattle.std.proofs.lemmas.List.{take-append-le}
use Rattle.std.proofs.lemmas.Grind.{flat_map-append}
use Rattle.std.proofs.lemmas.Bool.{cases_lt, false_from_ne_true}
use Rattle.pearl_value.specs.declared.cell.Cell.{Cell}
use Rattle.pearl_value.specs.WellFormed.{IsValue}
use Rattle.pearl_rules.specs.Core.{Core, value_at}
use Rattle.pearl_rules.specs.Runs.{flattened}
use Rattle.pearl_rules.proofs.Offered.{set-same, set-other, there_at}
use Rattle.pearl_io.specs.Outside.{Takes, TakesFront}
use Rattle.pearl_io.proofs.Offered.{takes_more, takes_front_more}
use Rattle.pearl_watch.specs.declared.watched.Watched.{Watched}
use Rattle.pearl_watch.specs.Changes.{is_same, shown, unless_same, held, slot_line, change_line, change_lines}
use Rattle.pearl_watch.specs.Lines.{Watching, IsLast, Tells, value_line}
use Rattle.pearl_watch.specs.Monitored.{IsTold, TellsPlace, told_slot, place_line, place_lines}
use Rattle.pearl_watch.specs.Watched.{name_at}
use Rattle.pearl_watch.proofs.SameValues.{same_refl, same_is}

-- LISTS

pub is_within : {A : Type 0} (xs : List A) (i : ℕ) (x : A) → slice_get xs i ≡ Some x → i < length xs
is_within [] i x at = absurd (none-some x at)
is_within (y ∷ xs) zero x at = omega arith
is_within (y ∷ xs) (suc i) x at = let before = is_within xs i x at in omega (arith, before)

-- the number of a watched slot
slot_at : (watched : List Watched) (place : ℕ) (s : Watched) → slice_get watched place ≡ Some s → slice_index_or (map (λ w. w.slot) watched) place 0 ≡ s.slot
slot_at [] place s at = absurd (none-some s at)
slot_at (x ∷ watched) zero s at = ap (λ (w : Watched). w.slot) (same_Some x s at)
slot_at (x ∷ watched) (suc place) s at = slot_at watched place s at

pub slot_is : (watched : List Watched) (slots : List ℕ) (place : ℕ) (s : Watched) → slots ≡ map (λ w. w.slot) watched → slice_get watched place ≡ Some s →
    slice_index_or slots place 0 ≡ s.slot
slot_is watched slots place s same at = ap (λ ns. slice_index_or ns place 0) same ∙ slot_at watched place s at

take_one : {A : Type 0} (xs : List A) (i : ℕ) (x : A) → slice_get xs i ≡ Some x → take (suc i) xs ≡ take i xs ++ x ∷ []
take_one [] i x at = absurd (none-some x at)
take_one (y ∷ xs) zero x at = ap (λ z. z ∷ []) (same_Some y x at)
take_one (y ∷ xs) (suc i) x at = ap (λ zs. y ∷ zs) (take_one xs i x at)

take_all : {A : Type 0} (xs : List A) → take (length xs) xs ≡ xs
take_all [] = refl
take_all (x ∷ xs) = ap (λ zs. x ∷ zs) (take_all xs)

-- nothing was told of as many slots
pub nothing_told : (watched : List Watched) (place : ℕ) (s : Watched) → slice_get watched place ≡ Some s →
    slice_get (replicate (length watched) None) place ≡ Some (held None s.slot)
nothing_told [] place s at = absurd (none-some s at)
nothing_told (x ∷ watched) zero s at = refl
nothing_told (x ∷ watched) (suc place) s at = nothing_told watched place s at

-- ONE LINE

-- the line at the place of a slot
at_slot : (w : Watching) (marks : ℕ) (core : Core) (place : ℕ) (s : Watched) (last : Option Cell) → slice_get w.watched place ≡ Some s →
    flattened (slice_get w.given place) ≡ last →
    place_line w marks core place ≡ unless_same last (value_at core.slots s.slot) (slot_line w.names marks core s)
at_slot w marks core place s last at told =
    ap (told_slot w marks core place) at ∙ ap (λ o. unless_same o (value_at core.slots s.slot) (slot_line w.names marks core s)) told

-- a value that was told last has no line
pub no_line : (w : Watching) (marks : ℕ) (core : Core) (place : ℕ) (s : Watched) → slice_get w.watched place ≡ Some s →
    IsLast w place (value_at core.slots s.slot) → place_line w marks core place ≡ []
no_line w marks core place s at last =
    at_slot w marks core place s (Some (value_at core.slots s.slot)) at (ap flattened last)
    ∙ ap (λ b. if b then [] else slot_line w.names marks core s) (same_refl (value_at core.slots s.slot))

-- any other has
pub has_line : (w : Watching) (marks : ℕ) (core : Core) (place : ℕ) (s : Watched) → slice_get w.watched place ≡ Some s →
    IsValue (value_at core.slots s.slot) → (IsLast w place (value_at core.slots s.slot) → ⊥) →
    place_line w marks core place ≡ slot_line w.names marks core s
has_line w marks core place s at value other = by_given (slice_get w.given place) refl
  where
    now : Cell
    now = value_at core.slots s.slot

    line : List ℕ
    line = slot_line w.names marks core s

    by_last : (last : Option Cell) → (last ≡ Some now → ⊥) → unless_same last now line ≡ line
    by_last None differs = refl
    by_last (Some x) differs =
        ap (λ b. if b then [] else line) (false_from_ne_true (is_same x now) (λ e. differs (ap Some (same_is x now value e))))

    by_given : (given : Option (Option Cell)) → slice_get w.given place ≡ given → place_line w marks core place ≡ line
    by_given None is = at_slot w marks core place s None at (ap flattened is)
    by_given (Some last) is = at_slot w marks core place s last at (ap flattened is) ∙ by_last last (λ e. other (is ∙ ap Some e))

-- the line that is told is the slot's
pub told_line : (old new : Watching) (marks now place : ℕ) (value : Cell) (line : List ℕ) (core : Core) (s : Watched) → marks ≤ 2 ^ 64 - 1 →
    now ≡ core.moment → value ≡ value_at core.slots s.slot → slice_get old.watched place ≡ Some s → Tells old new marks now place value line →
    line ≡ slot_line old.names marks core s
told_line old new marks now place value line core s few moment holds at tells =
    let slot : tells.slot ≡ s = same_Some tells.slot s (sym tells.there ∙ at) in
    let written : marks ≡ shown marks = omega (arith, few) in
    tells.text
    ∙ ap (λ (w : Watched). value_line marks now (name_at old.names w.name) w.number value) slot
    ∙ ap₂ (λ m n. value_line m n (name_at old.names s.name) s.number value) written moment
    ∙ ap (value_line (shown marks) core.moment (name_at old.names s.name) s.number) holds

-- WHAT WAS TOLD LAST

-- nothing is told where the value was told last
pub tells_again : (w : Watching) (core : Core) (place : ℕ) (s : Watched) → slice_get w.watched place ≡ Some s → IsLast w place (value_at core.slots s.slot) →
    TellsPlace w w core place
tells_again w core place s at last = record {
  names = refl;
  watched = refl;
  told = λ other is. last ∙ ap (λ (x : Watched). Some (Some (value_at core.slots x.slot))) (same_Some s other (sym at ∙ is));
  others = λ other differs. refl;
}

-- and else the value is told last
pub tells_now : (old new : Watching) (marks now place : ℕ) (value : Cell) (line : List ℕ) (core : Core) (s : Watched) → slice_get old.watched place ≡ Some s →
    value ≡ value_at core.slots s.slot → place < length old.given → Tells old new marks now place value line → TellsPlace old new core place
tells_now old new marks now place value line core s at holds within tells = record {
  names = ap (λ w. w.names) tells.given;
  watched = ap (λ w. w.watched) tells.given;
  told = λ other is.
      ap (λ w. slice_get w.given place) tells.given
      ∙ set-same old.given place (there_at old.given place within).0 (Some value) (there_at old.given place within).1 ∙ ap (λ v. Some (Some v)) holds
      ∙ ap (λ (x : Watched). Some (Some (value_at core.slots x.slot))) (same_Some s other (sym at ∙ is));
  others = λ other differs.
      ap (λ w. slice_get w.given other) tells.given ∙ set-other old.given place other (Some value) differs;
}

-- THE LINE OF A PLACE

-- what a watch that has a line for a slot writes
pub told_as : (old new : Watching) (marks now place : ℕ) (value : Cell) (line : List ℕ) (core : Core) (s : Watched) → marks ≤ 2 ^ 64 - 1 →
    now ≡ core.moment → value ≡ value_at core.slots s.slot → slice_get old.watched place ≡ Some s → IsValue value → (IsLast old place value → ⊥) →
    Tells old new marks now place value line → line ≡ place_line old marks core place
told_as old new marks now place value line core s few moment holds at is_value other tells =
    told_line old new marks now place value line core s few moment holds at tells
    ∙ sym (has_line old marks core place s at (subst IsValue holds is_value) (λ last. other (subst (λ v. IsLast old place v) (sym holds) last)))

-- LINES

one_more : (names : List (List ℕ)) (watched : List Watched) (marks : ℕ) (before : Option Core) (core : Core) (place : ℕ) (s : Watched) →
    slice_get watched place ≡ Some s →
    change_lines names (take (suc place) watched) marks before core
    ≡ change_lines names (take place watched) marks before core ++ change_line names marks before core s
one_more names watched marks before core place s at =
    ap (λ ws. change_lines names ws marks before core) (take_one watched place s at)
    ∙ flat_map-append (change_line names marks before core) (take place watched) (s ∷ [])
    ∙ ap (λ line. change_lines names (take place watched) marks before core ++ line) (append-nil (change_line names marks before core s))

some_lines : (w : Watching) (marks : ℕ) (before : Option Core) (core : Core) → IsTold w before → (n : ℕ) → n ≤ length w.watched →
    place_lines w marks core n ≡ change_lines w.names (take n w.watched) marks before core
some_lines w marks before core told zero within = refl
some_lines w marks before core told (suc n) within =
    let here = there_at w.watched n (omega (arith, within)) in
    ap₂ (λ a b. a ++ b) (some_lines w marks before core told n (omega (arith, within)))
    (at_slot w marks core n here.0 (held before here.0.slot) here.1 (ap flattened (told n here.0 here.1)))
    ∙ sym (one_more w.names w.watched marks before core n here.0 here.1)

-- the lines of all slots are those of what changed since the last were told
pub all_lines : (w : Watching) (marks : ℕ) (before : Option Core) (core : Core) → IsTold w before →
    place_lines w marks core (length w.watched) ≡ change_lines w.names w.watched marks before core
all_lines w marks before core told =
    some_lines w marks before core told (length w.watched) (omega arith)
    ∙ ap (λ ws. change_lines w.names ws marks before core) (take_all w.watched)

-- the lines of more slots begin with those of fewer
pub lines_front : (w : Watching) (marks : ℕ) (core : Core) (n m : ℕ) → n ≤ m → (more : List ℕ) × (place_lines w marks core m ≡ place_lines w marks core n ++ more)
lines_front w marks core n zero few =
    let none : n ≡ 0 = omega (arith, few) in ([], ap (λ k. place_lines w marks core k ++ []) (sym none))
lines_front w marks core n (suc m) few = by_last (cases_lt n (suc m)) (λ before. lines_front w marks core n m before)
  where
    by_last : (n < suc m) ⊎ (suc m ≤ n) → (n ≤ m → (more : List ℕ) × (place_lines w marks core m ≡ place_lines w marks core n ++ more)) →
        (more : List ℕ) × (place_lines w marks core (suc m) ≡ place_lines w marks core n ++ more)
    by_last (inl before) go =
        let so_far = go (omega (arith, before)) in (
          so_far.0 ++ place_line w marks core m,
          ap (λ text. text ++ place_line w marks core m) so_far.1 ∙ append_assoc (place_lines w marks core n) so_far.0 (place_line w marks core m),
        )
    by_last (inr whole) go =
        let same : n ≡ suc m = omega (arith, few, whole) in ([], ap (place_lines w marks core) (sym same) ∙ sym (append-nil (place_lines w marks core n)))

-- the line at a place is the same where nothing was told of it
pub same_line : (old new : Watching) (marks : ℕ) (core : Core) (place : ℕ) → new.names ≡ old.names → new.watched ≡ old.watched →
    slice_get new.given place ≡ slice_get old.given place → place_line new marks core place ≡ place_line old marks core place
same_line old new marks core place names watched given =
    ap₂ (λ ns ws. told_slot (record { names = ns; watched = ws; given = new.given }) marks core place (slice_get ws place)) names watched
    ∙ by_slot (slice_get old.watched place)
  where
    by_slot : (slot : Option Watched) →
        told_slot (record { names = old.names; watched = old.watched; given = new.given }) marks core place slot ≡ told_slot old marks core place slot
    by_slot None = refl
    by_slot (Some s) = ap (λ o. unless_same (flattened o) (value_at core.slots s.slot) (slot_line old.names marks core s)) given

-- WHAT IS TAKEN

pub takes_nothing : (taken : Option (List ℕ)) → Takes taken taken []
takes_nothing None = refl
takes_nothing (Some bytes) = ap Some (sym (append-nil bytes))

-- a front of some bytes is one of these and more
pub front_wider : (old new : Option (List ℕ)) (first more : List ℕ) → TakesFront old new first → TakesFront old new (first ++ more)
front_wider old new first more front =
    let within : front.0 ≤ length first = let short = front.1 in omega (arith, short) in
    let longer = length-append first more in
    let short = front.1 in
    (front.0, omega (arith, short, longer), subst (Takes old new) (sym (take-append-le front.0 first more within)) front.2)

-- SO MANY SLOTS

-- the lines of the first so many slots were taken, and their values are the last ones told
pub record SoFar (old now : Watching) (marks : ℕ) (core : Core) (place : ℕ) (before after : Option (List ℕ)) : Type 0 where
  pub names : now.names ≡ old.names
  pub watched : now.watched ≡ old.watched
  pub told : (i : ℕ) (s : Watched) → i < place → slice_get old.watched i ≡ Some s → slice_get now.given i ≡ Some (Some (value_at core.slots s.slot))
  pub others : (i : ℕ) → place ≤ i → slice_get now.given i ≡ slice_get old.given i
  pub taken : Takes before after (place_lines old marks core place)

pub none_yet : (old : Watching) (marks : ℕ) (core : Core) (taken : Option (List ℕ)) → SoFar old old marks core 0 taken taken
none_yet old marks core taken = record {
  names = refl;
  watched = refl;
  told = λ i s less at. absurd (omega (arith, less));
  others = λ i within. refl;
  taken = takes_nothing taken;
}

module _ (old now : Watching) (marks : ℕ) (core : Core) (place : ℕ) (before mid : Option (List ℕ)) (so_far : SoFar old now marks core place before mid) where
  here : place_line now marks core place ≡ place_line old marks core place
  here = same_line old now marks core place so_far.names so_far.watched (so_far.others place (omega arith))

  pub one_on : (new : Watching) (after : Option (List ℕ)) → TellsPlace now new core place → Takes mid after (place_line now marks core place) →
      SoFar old new marks core (place + 1) before after
  one_on new after tells taken = record {
    names = tells.names ∙ so_far.names;
    watched = tells.watched ∙ so_far.watched;
    told = λ i s less at. by_place i s at (cases_lt i place) less;
    others = λ i within. tells.others i (λ same. absurd (omega (arith, within, same))) ∙ so_far.others i (omega (arith, within));
    taken = subst (λ n. Takes before after (place_lines old marks core n)) (sym (add-one place))
        (takes_more before mid after (place_lines old marks core place) (place_line old marks core place) so_far.taken
        (subst (λ line. Takes mid after line) here taken));
  }
    where
      by_place : (i : ℕ) (s : Watched) → slice_get old.watched i ≡ Some s → (i < place) ⊎ (place ≤ i) → i < place + 1 →
          slice_get new.given i ≡ Some (Some (value_at core.slots s.slot))
      by_place i s at (inl first) less =
          tells.others i (λ same. absurd (omega (arith, first, same))) ∙ so_far.told i s first at
      by_place i s at (inr last) less =
          let same : i ≡ place = omega (arith, last, less) in
          ap (slice_get new.given) same
          ∙ tells.told s (ap (λ ws. slice_get ws place) so_far.watched ∙ ap (slice_get old.watched) (sym same) ∙ at)

  pub cut_off : (last : Option Core) (after : Option (List ℕ)) → IsTold old last → place < length old.watched →
      TakesFront mid after (place_line now marks core place) → TakesFront before after (change_lines old.names old.watched marks last core)
  cut_off last after told within front =
      let behind = lines_front old marks core (suc place) (length old.watched) (omega (arith, within)) in
      subst (λ text. TakesFront before after text) (sym behind.1 ∙ all_lines old marks last core told)
      (front_wider before after (place_lines old marks core (suc place)) behind.0
      (takes_front_more before mid after (place_lines old marks core place) (place_line old marks core place) so_far.taken
      (subst (λ line. TakesFront mid after line) here front)))

  module _ (all : place ≡ length old.watched) where
    pub told_all : IsTold now (Some core)
    told_all i s at =
        so_far.told i s (subst (λ n. i < n) (sym all) (is_within old.watched i s (ap (λ ws. slice_get ws i) (sym so_far.watched) ∙ at)))
        (ap (λ ws. slice_get ws i) (sym so_far.watched) ∙ at)

    pub taken_all : (last : Option Core) → IsTold old last → Takes before mid (change_lines old.names old.watched marks last core)
    taken_all last told =
        subst (λ text. Takes before mid text) (ap (place_lines old marks core) all ∙ all_lines old marks last core told) so_far.taken
