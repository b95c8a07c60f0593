-- Part behind part: the code that gives variables their first values.
use Rattle.std.proofs.Common.{◌≡◌, ℕ, zero, suc, ◌+◌, ◌-◌, ◌<◌, ◌≤◌, List, [], ◌∷◌, ◌++◌, length, map, drop, get_or, refl, sym, ap, ◌∙◌, subst, arith}
use Rattle.std.proofs.Math.ListN.{drop_of_length-le}
use Rattle.pearl_value.specs.declared.cell.Cell.{Cell}
use Rattle.pearl_program.specs.declared.literal.Literal.{Literal}
use Rattle.pearl_program.specs.PlainExpressions.{cell_of}
use Rattle.pearl_program.specs.PlainStatements.{PlainValues}
use Rattle.pearl_meaning.specs.Setting.{Setting}
use Rattle.pearl_instructions.specs.declared.instr.Instr.{Instr}
use Rattle.pearl_instructions.specs.declared.instr.Instr.TheVariants as instr
use Rattle.pearl_gen_expr.specs.ExprCode.{Is}
use Rattle.pearl_gen_expr.specs.Emitting.{Extends}
use Rattle.pearl_gen_expr.proofs.Offered.{one_longer}
use Rattle.pearl_gen_stmt.specs.StmtCode.{StoresAt, RepeatsAt, RenewAt}
use Rattle.pearl_gen_stmt.specs.Emission.{Stays, Adds}
use Rattle.pearl_gen_stmt.proofs.Settling.{one_left}
use Rattle.pearl_gen_stmt.proofs.Adding.{stays_on, stays_one, last_stays}

module _ (setting : Setting) (old : List Instr) where
  -- where the code of those that are left follows, all of the code stands
  abbrev pub StoresSoFar : (now : List Instr) (at : ℕ) (left : List Cell) (cell : ℕ) (all : List Cell) → Type 0
  StoresSoFar now at left cell all = (final : List Instr) (to : ℕ) → Stays now final →
      StoresAt setting final (length now) at left to → StoresAt setting final (length old) cell all to

  stores_next : (now one two : List Instr) (at : ℕ) (x : Cell) (left : List Cell) (cell : ℕ) (all : List Cell) (box : Cell) →
      box ≡ x → one ≡ now ++ instr.Const box ∷ [] → two ≡ one ++ instr.Store at ∷ [] → StoresSoFar now at (x ∷ left) cell all →
      StoresSoFar two (at + 1) left cell all
  stores_next now one two at x left cell all box same const store before final to stays rest =
      let const : one ≡ now ++ instr.Const x ∷ [] = const ∙ ap (λ x. now ++ instr.Const x ∷ []) same in
      let first = stays_one one two (instr.Store at) store final stays in
      let long = one_longer now one (instr.Const x) const in
      let more : length two ≡ length now + 2 = let l = one_longer one two (instr.Store at) store in omega (arith, l, long) in
      before final to (stays_one now one (instr.Const x) const final first) (
        last_stays now one (instr.Const x) const final first refl,
        subst (λ place. Is final place (instr.Store at)) long (last_stays one two (instr.Store at) store final stays refl),
        subst (λ from. StoresAt setting final from (at + 1) left to) more rest,
      )

  pub stores_more : (now one two : List Instr) (cell : ℕ) (xs : List Literal) (i : ℕ) (x : Literal) (box : Cell) → i < length xs → x ≡ get_or xs i x →
      box ≡ cell_of x → one ≡ now ++ instr.Const box ∷ [] → two ≡ one ++ instr.Store (cell + i) ∷ [] →
      StoresSoFar now (cell + i) (map cell_of (drop i xs)) cell (map cell_of xs) → StoresSoFar two (cell + (i + 1)) (map cell_of (drop (i + 1) xs)) cell (map cell_of xs)
  stores_more now one two cell xs i x box inside is same const store before =
      let next : cell + i + 1 ≡ cell + (i + 1) = omega arith in
      subst (λ at. StoresSoFar two at (map cell_of (drop (i + 1) xs)) cell (map cell_of xs)) next
      (stores_next now one two (cell + i) (cell_of x) (map cell_of (drop (i + 1) xs)) cell (map cell_of xs) box same const store
      (subst (λ left. StoresSoFar now (cell + i) (map cell_of left) cell (map cell_of xs)) (one_left xs i x inside is) before))

  pub stores_done : (now : List Instr) (cell : ℕ) (xs : List Literal) (i : ℕ) → length xs ≤ i →
      StoresSoFar now (cell + i) (map cell_of (drop i xs)) cell (map cell_of xs) → Adds (λ code from to. StoresAt setting code from cell (map cell_of xs) to) old now
  stores_done now cell xs i past before final stays =
      let none : StoresSoFar now (cell + i) [] cell (map cell_of xs) =
      subst (λ left. StoresSoFar now (cell + i) (map cell_of left) cell (map cell_of xs)) (drop_of_length-le xs past) before in
      none final (length now) stays refl

  abbrev pub RepeatsSoFar : (now : List Instr) (at left cell more : ℕ) → Type 0
  RepeatsSoFar now at left cell more = (final : List Instr) (to : ℕ) → Stays now final →
      RepeatsAt setting final (length now) at left to → RepeatsAt setting final (length old) cell more to

  repeats_next : (now one two : List Instr) (at left cell more : ℕ) → one ≡ now ++ instr.Load at ∷ [] → two ≡ one ++ instr.Store (at + 1) ∷ [] →
      RepeatsSoFar now at (suc left) cell more → RepeatsSoFar two (at + 1) left cell more
  repeats_next now one two at left cell more load store before final to stays rest =
      let first = stays_one one two (instr.Store (at + 1)) store final stays in
      let long = one_longer now one (instr.Load at) load in
      let next : length two ≡ length now + 2 = let l = one_longer one two (instr.Store (at + 1)) store in omega (arith, l, long) in
      before final to (stays_one now one (instr.Load at) load final first) (
        last_stays now one (instr.Load at) load final first refl,
        subst (λ place. Is final place (instr.Store (at + 1))) long (last_stays one two (instr.Store (at + 1)) store final stays refl),
        subst (λ from. RepeatsAt setting final from (at + 1) left to) next rest,
      )

  pub repeats_more : (now one two : List Instr) (cell more i : ℕ) → i < more → one ≡ now ++ instr.Load (cell + i) ∷ [] → two ≡ one ++ instr.Store (cell + i + 1) ∷ [] →
      RepeatsSoFar now (cell + i) (more - i) cell more → RepeatsSoFar two (cell + (i + 1)) (more - (i + 1)) cell more
  repeats_more now one two cell more i inside load store before =
      let next : cell + i + 1 ≡ cell + (i + 1) = omega arith in
      let left : more - i ≡ suc (more - (i + 1)) = omega (arith, inside) in
      subst (λ at. RepeatsSoFar two at (more - (i + 1)) cell more) next
      (repeats_next now one two (cell + i) (more - (i + 1)) cell more load store (subst (λ left. RepeatsSoFar now (cell + i) left cell more) left before))

  pub repeats_done : (now : List Instr) (cell more i : ℕ) → more ≤ i → RepeatsSoFar now (cell + i) (more - i) cell more →
      Adds (λ code from to. RepeatsAt setting code from cell more to) old now
  repeats_done now cell more i past before final stays =
      let none : more - i ≡ zero = omega (arith, past) in
      (subst (λ left. RepeatsSoFar now (cell + i) left cell more) none before) final (length now) stays refl

  pub fill_adds : (one : List Instr) (cell : ℕ) (values : PlainValues) (constants : List Cell) → constants ≡ [] → one ≡ old ++ instr.Fill cell values.count values.kind ∷ [] →
      Adds (λ code from to. RenewAt setting code from cell values constants to) old one
  fill_adds one cell values constants none last =
      subst (λ xs. Adds (λ code from to. RenewAt setting code from cell values xs to) old one) (sym none)
      (λ final stays. (last_stays old one (instr.Fill cell values.count values.kind) last final stays refl, one_longer old one (instr.Fill cell values.count values.kind) last))

  pub renew_adds : (one two : List Instr) (cell : ℕ) (values : PlainValues) (constants : List Cell) (last more : ℕ) → 0 < length constants →
      last ≡ cell + (length constants - 1) → more ≡ values.count - length constants → Adds (λ code from to. StoresAt setting code from cell constants to) old one →
      Extends one two → Adds (λ code from to. RepeatsAt setting code from last more to) one two →
      Adds (λ code from to. RenewAt setting code from cell values constants to) old two
  renew_adds one two cell values [] last more some last_is more_is stores kept repeats final stays = absurd (omega (arith, some))
  renew_adds one two cell values (x ∷ xs) last more some last_is more_is stores kept repeats final stays =
      let at : last ≡ cell + length xs = let e = last_is in omega (arith, e) in (
        length one,
        stores final (stays_on one two final kept stays),
        subst (λ left. RepeatsAt setting final (length one) (cell + length xs) left (length two)) more_is
            (subst (λ at. RepeatsAt setting final (length one) at more (length two)) at (repeats final stays)),
      )
