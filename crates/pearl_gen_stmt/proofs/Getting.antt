-- Part behind part: the code of GET.
use Rattle.std.proofs.Common.{◌≡◌, ◌≢◌, ℕ, ◌+◌, ◌<◌, ◌≤◌, pos, List, [], ◌∷◌, ◌++◌, length, map, drop, get_or, Some, option_map, option_and_then, refl, sym, ap, ◌∙◌, subst, arith}
use Rattle.std.proofs.Math.ListN.{drop_of_length-le}
use Rattle.pearl_value.specs.declared.kind.Kind.{Kind}
use Rattle.pearl_value.specs.declared.cell.Cell.{Cell}
use Rattle.pearl_value.specs.declared.cell.Cell.TheVariants.{Fixed}
use Rattle.pearl_program.specs.declared.expression.Target.{Target}
use Rattle.pearl_program.specs.declared.expression.Bound.{Bound}
use Rattle.pearl_program.specs.declared.expression.Variable.{Variable}
use Rattle.pearl_program.specs.PlainExpressions.{PlainVariable, OfVariable, PlainExprs, plain_variable}
use Rattle.pearl_meaning.specs.Setting.{Setting, variable_kind}
use Rattle.pearl_meaning.specs.Transfers.{kinds_of}
use Rattle.pearl_instructions.specs.declared.instr.Reading.{Reading}
use Rattle.pearl_instructions.specs.declared.instr.Instr.{Instr}
use Rattle.pearl_instructions.specs.declared.instr.Instr.TheVariants as instr
use Rattle.pearl_gen_expr.specs.ExprCode.{Is}
use Rattle.pearl_gen_expr.specs.Emitting.{Extends, EmitsOffset}
use Rattle.pearl_gen_expr.proofs.Offered.{one_longer}
use Rattle.pearl_gen_stmt.specs.StmtCode.{writing_at, kept_in, FoundAt, KeptAt, FilledAt, WrittenAt, GetAt}
use Rattle.pearl_gen_stmt.specs.Emission.{pending, Stays, Adds}
use Rattle.pearl_gen_stmt.proofs.Settling.{one_left}
use Rattle.pearl_gen_stmt.proofs.Adding.{stays_on, stays_one, last_stays}
use Rattle.pearl_gen_stmt.proofs.Keeping.{kept_offset, writing_at_known}

module _ (setting : Setting) (old : List Instr) where
  -- SUBSCRIPTS

  pub zero_found_adds : (one : List Instr) (target : Target) (bounds : List Bound) (es : PlainExprs) (box : Cell) → bounds ≡ [] →
      box ≡ Fixed 31 (pos 0) → one ≡ old ++ instr.Const box ∷ [] → Adds (λ code from to. FoundAt setting code from (OfVariable target bounds es) to) old one
  zero_found_adds one target bounds es box none same last =
      let push = instr.Const (Fixed 31 (pos 0)) in
      let last : one ≡ old ++ push ∷ [] = last ∙ ap (λ x. old ++ instr.Const x ∷ []) same in
      subst (λ bounds. Adds (λ code from to. FoundAt setting code from (OfVariable target bounds es) to) old one) (sym none)
      (λ final stays. (last_stays old one push last final stays refl, one_longer old one push last))

  pub found_adds : (one : List Instr) (target : Target) (bounds : List Bound) (es : PlainExprs) → bounds ≢ [] →
      EmitsOffset setting.program (OfVariable target bounds es) old one → Adds (λ code from to. FoundAt setting code from (OfVariable target bounds es) to) old one
  found_adds one target [] es some is final stays = absurd (some refl)
  found_adds one target (bound ∷ bounds) es some is final stays =
      kept_offset setting.program one final stays (OfVariable target (bound ∷ bounds) es) (length old) (length one) is

  abbrev pub KeptSoFar : (now : List Instr) (here : ℕ) (left : List PlainVariable) (at : ℕ) (all : List PlainVariable) → Type 0
  KeptSoFar now here left at all = (final : List Instr) (to : ℕ) → Stays now final →
      KeptAt setting final (length now) here left to → KeptAt setting final (length old) at all to

  pub kept_more : (now one two : List Instr) (at : ℕ) (xs : List Variable) (i : ℕ) (x : Variable) → i < length xs → x ≡ get_or xs i x → Extends now one →
      Adds (λ code from to. FoundAt setting code from (plain_variable x) to) now one → two ≡ one ++ instr.Store (at + i) ∷ [] →
      KeptSoFar now (at + i) (map plain_variable (drop i xs)) at (map plain_variable xs) →
      KeptSoFar two (at + (i + 1)) (map plain_variable (drop (i + 1) xs)) at (map plain_variable xs)
  kept_more now one two at xs i x inside is kept found store before final to stays rest =
      let next : at + (i + 1) ≡ at + i + 1 = omega arith in
      let first = stays_one one two (instr.Store (at + i)) store final stays in
      let long = one_longer one two (instr.Store (at + i)) store in
      (subst (λ left. KeptSoFar now (at + i) (map plain_variable left) at (map plain_variable xs)) (one_left xs i x inside is) before)
      final to (stays_on now one final kept first) (
        length one,
        found final first,
        last_stays one two (instr.Store (at + i)) store final stays refl,
        subst (λ from. KeptAt setting final from (at + i + 1) (map plain_variable (drop (i + 1) xs)) to) long
            (subst (λ at. KeptAt setting final (length two) at (map plain_variable (drop (i + 1) xs)) to) next rest),
      )

  pub kept_done : (now : List Instr) (at : ℕ) (xs : List Variable) (i : ℕ) → length xs ≤ i →
      KeptSoFar now (at + i) (map plain_variable (drop i xs)) at (map plain_variable xs) →
      Adds (λ code from to. KeptAt setting code from at (map plain_variable xs) to) old now
  kept_done now at xs i past before final stays =
      (subst (λ left. KeptSoFar now (at + i) (map plain_variable left) at (map plain_variable xs)) (drop_of_length-le xs past) before)
      final (length now) stays refl

  -- CELLS

  -- for whatever kinds are left there are kinds of all
  abbrev pub FilledSoFar : (now : List Instr) (here : ℕ) (left : List PlainVariable) (cell : ℕ) (all : List PlainVariable) → Type 0
  FilledSoFar now here left cell all = (rest : List Kind) → kinds_of setting left ≡ Some rest →
      (kinds : List Kind) × (kinds_of setting all ≡ Some kinds) ×
      ((final : List Instr) (to : ℕ) → Stays now final → FilledAt setting final (length now) here rest to → FilledAt setting final (length old) cell kinds to)

  pub filled_first : (cell : ℕ) (all : List PlainVariable) → FilledSoFar old cell all cell all
  filled_first cell all rest are = (rest, are, λ final to stays is. is)

  filled_next : (now one : List Instr) (here : ℕ) (target : PlainVariable) (left : List PlainVariable) (cell : ℕ) (all : List PlainVariable) (kind : Kind) →
      variable_kind setting target ≡ Some kind → one ≡ now ++ instr.Fill here 1 kind ∷ [] → FilledSoFar now here (target ∷ left) cell all →
      FilledSoFar one (here + 1) left cell all
  filled_next now one here target left cell all kind kind_is last before rest are =
      let known = before (kind ∷ rest) (
      ap (λ k. option_and_then (λ kind. option_map (λ kinds. kind ∷ kinds) (kinds_of setting left)) k) kind_is ∙ ap (λ k. option_map (λ kinds. kind ∷ kinds) k) are) in (
        known.0,
        known.1,
        λ final to stays is. known.2 final to (stays_one now one (instr.Fill here 1 kind) last final stays) (
          last_stays now one (instr.Fill here 1 kind) last final stays refl,
          subst (λ from. FilledAt setting final from (here + 1) rest to) (one_longer now one (instr.Fill here 1 kind) last) is,
        ),
      )

  pub filled_more : (now one : List Instr) (cell : ℕ) (xs : List Variable) (i : ℕ) (x : Variable) (kind : Kind) → i < length xs → x ≡ get_or xs i x →
      variable_kind setting (plain_variable x) ≡ Some kind → one ≡ now ++ instr.Fill (cell + i) 1 kind ∷ [] →
      FilledSoFar now (cell + i) (map plain_variable (drop i xs)) cell (map plain_variable xs) →
      FilledSoFar one (cell + (i + 1)) (map plain_variable (drop (i + 1) xs)) cell (map plain_variable xs)
  filled_more now one cell xs i x kind inside is kind_is last before =
      let next : cell + i + 1 ≡ cell + (i + 1) = omega arith in
      subst (λ at. FilledSoFar one at (map plain_variable (drop (i + 1) xs)) cell (map plain_variable xs)) next
      (filled_next now one (cell + i) (plain_variable x) (map plain_variable (drop (i + 1) xs)) cell (map plain_variable xs) kind kind_is last
      (subst (λ left. FilledSoFar now (cell + i) (map plain_variable left) cell (map plain_variable xs)) (one_left xs i x inside is) before))

  pub filled_done : (now : List Instr) (cell : ℕ) (xs : List Variable) (i : ℕ) → length xs ≤ i →
      FilledSoFar now (cell + i) (map plain_variable (drop i xs)) cell (map plain_variable xs) →
      (kinds : List Kind) × (kinds_of setting (map plain_variable xs) ≡ Some kinds) × Adds (λ code from to. FilledAt setting code from cell kinds to) old now
  filled_done now cell xs i past before =
      let known = (subst (λ left. FilledSoFar now (cell + i) (map plain_variable left) cell (map plain_variable xs)) (drop_of_length-le xs past) before) [] refl in
      (known.0, known.1, λ final stays. known.2 final (length now) stays refl)

  -- VALUES

  abbrev pub WrittenSoFar : (now : List Instr) (from_cell from_at : ℕ) (left : List PlainVariable) (cell at : ℕ) (all : List PlainVariable) → Type 0
  WrittenSoFar now from_cell from_at left cell at all = (final : List Instr) (to : ℕ) → Stays now final →
      WrittenAt setting final (length now) from_cell from_at left to → WrittenAt setting final (length old) cell at all to

  pub written_more : (now one two three : List Instr) (cell at : ℕ) (xs : List Variable) (i : ℕ) (x : Variable) (write : Instr) → i < length xs → x ≡ get_or xs i x →
      write ≡ writing_at x.target x.bounds.items → one ≡ now ++ instr.Load (kept_in x.target (at + i)) ∷ [] → two ≡ one ++ instr.Load (cell + i) ∷ [] → three ≡ two ++ write ∷ [] →
      WrittenSoFar now (cell + i) (at + i) (map plain_variable (drop i xs)) cell at (map plain_variable xs) →
      WrittenSoFar three (cell + (i + 1)) (at + (i + 1)) (map plain_variable (drop (i + 1) xs)) cell at (map plain_variable xs)
  written_more now one two three cell at xs i x write inside is same load value last before final to stays rest =
      let next_cell : cell + (i + 1) ≡ cell + i + 1 = omega arith in
      let next_at : at + (i + 1) ≡ at + i + 1 = omega arith in
      let left = map plain_variable (drop (i + 1) xs) in
      let second = stays_one two three write last final stays in
      let first = stays_one one two (instr.Load (cell + i)) value final second in
      let long = one_longer now one (instr.Load (kept_in x.target (at + i))) load in
      let long_two : length two ≡ length now + 2 = let l = one_longer one two (instr.Load (cell + i)) value in omega (arith, l, long) in
      let long_three : length three ≡ length now + 3 = let l = one_longer two three write last in omega (arith, l, long_two) in
      (subst (λ left. WrittenSoFar now (cell + i) (at + i) (map plain_variable left) cell at (map plain_variable xs)) (one_left xs i x inside is) before)
      final to (stays_one now one (instr.Load (kept_in x.target (at + i))) load final first) (
        last_stays now one (instr.Load (kept_in x.target (at + i))) load final first refl,
        subst (λ place. Is final place (instr.Load (cell + i))) long (last_stays one two (instr.Load (cell + i)) value final second refl),
        subst (λ place. Is final place (writing_at x.target x.bounds.items)) long_two
            (subst (λ instr. Is final (length two) instr) same (last_stays two three write last final stays (ap pending same ∙ writing_at_known x.target x.bounds.items))),
        subst (λ from. WrittenAt setting final from (cell + i + 1) (at + i + 1) left to) long_three
            (subst (λ cell. WrittenAt setting final (length three) cell (at + i + 1) left to) next_cell
            (subst (λ at. WrittenAt setting final (length three) (cell + (i + 1)) at left to) next_at rest)),
      )

  pub written_done : (now : List Instr) (cell at : ℕ) (xs : List Variable) (i : ℕ) → length xs ≤ i →
      WrittenSoFar now (cell + i) (at + i) (map plain_variable (drop i xs)) cell at (map plain_variable xs) →
      Adds (λ code from to. WrittenAt setting code from cell at (map plain_variable xs) to) old now
  written_done now cell at xs i past before final stays =
      (subst (λ left. WrittenSoFar now (cell + i) (at + i) (map plain_variable left) cell at (map plain_variable xs)) (drop_of_length-le xs past) before)
      final (length now) stays refl

  pub get_adds : (one two three four : List Instr) (targets : List PlainVariable) (device format cell : ℕ) (kinds : List Kind) (box : Reading) →
      Adds (λ code from to. KeptAt setting code from (cell + length targets) targets to) old one → Extends one two → kinds_of setting targets ≡ Some kinds →
      Adds (λ code from to. FilledAt setting code from cell kinds to) one two → box ≡ record { device = device; format = format; first = cell } →
      three ≡ two ++ instr.Get box ∷ [] → Extends three four → Adds (λ code from to. WrittenAt setting code from cell (cell + length targets) targets to) three four →
      Adds (λ code from to. GetAt setting code from targets device format cell to) old four
  get_adds one two three four targets device format cell kinds box keeps kept kinds_are fills same last more writes final stays =
      let get = instr.Get (record { device = device; format = format; first = cell }) in
      let last : three ≡ two ++ get ∷ [] = last ∙ ap (λ r. two ++ instr.Get r ∷ []) same in
      let third = stays_on three four final more stays in
      let second = stays_one two three get last final third in (
        kinds,
        kinds_are,
        length one,
        length two,
        keeps final (stays_on one two final kept second),
        fills final second,
        last_stays two three get last final third refl,
        subst (λ from. WrittenAt setting final from cell (cell + length targets) targets (length four)) (one_longer two three get last) (writes final stays),
      )

module _ (setting : Setting) (old new : List Instr) where
  pub kept_same : (at to : ℕ) (xs ys : List Variable) → xs ≡ ys → at ≡ to → Adds (λ code from end. KeptAt setting code from at (map plain_variable xs) end) old new →
      Adds (λ code from end. KeptAt setting code from to (map plain_variable ys) end) old new
  kept_same at to xs ys same there adds =
      subst (λ place. Adds (λ code from end. KeptAt setting code from place (map plain_variable ys) end) old new) there
      (subst (λ (zs : List Variable). Adds (λ code from end. KeptAt setting code from at (map plain_variable zs) end) old new) same adds)

  pub filled_same : (cell : ℕ) (xs ys : List Variable) → xs ≡ ys →
      (kinds : List Kind) × (kinds_of setting (map plain_variable xs) ≡ Some kinds) × Adds (λ code from to. FilledAt setting code from cell kinds to) old new →
      (kinds : List Kind) × (kinds_of setting (map plain_variable ys) ≡ Some kinds) × Adds (λ code from to. FilledAt setting code from cell kinds to) old new
  filled_same cell xs ys same adds = (adds.0, subst (λ (zs : List Variable). kinds_of setting (map plain_variable zs) ≡ Some adds.0) same adds.1, adds.2)

  pub written_same : (at to : ℕ) (cell : ℕ) (xs ys : List Variable) → xs ≡ ys → at ≡ to →
      Adds (λ code from end. WrittenAt setting code from cell at (map plain_variable xs) end) old new → Adds (λ code from end. WrittenAt setting code from cell to (map plain_variable ys) end) old new
  written_same at to cell xs ys same there adds =
      subst (λ place. Adds (λ code from end. WrittenAt setting code from cell place (map plain_variable ys) end) old new) there
      (subst (λ (zs : List Variable). Adds (λ code from end. WrittenAt setting code from cell at (map plain_variable zs) end) old new) same adds)
