-- The instructions of GET and of the beginnings of loops.
use Rattle.std.proofs.Common.{◌≡◌, ℕ, ◌+◌, ◌<◌, pos, List, [], ◌∷◌, Option, Some, None, slice_get, length, map, refl, sym, ap, ◌∙◌, subst, arith}
use Rattle.std.specs.Prelude.{option_map, option_and_then}
use Rattle.std.specs.List.{AllZip}
use Rattle.std.proofs.lemmas.Option.{same_Some}
use Rattle.pearl_value.specs.declared.kind.Kind.{Kind}
use Rattle.pearl_value.specs.declared.cell.Cell.TheVariants.{Fixed}
use Rattle.pearl_value.specs.declared.kind.Kind.TheVariants as kind_
use Rattle.pearl_value.specs.declared.kind.CellKind.{CellKind}
use Rattle.pearl_value.specs.declared.kind.CellKind.TheVariants.{Plain, RefTo}
use Rattle.pearl_value.specs.Kinds.{IsKind}
use Rattle.pearl_value.specs.WellFormed.{IsValue}
use Rattle.pearl_program.specs.declared.expression.Target.TheVariants.{Leaf as LeafOf, Own, Param}
use Rattle.pearl_program.specs.declared.expression.Bound.{Bound}
use Rattle.pearl_program.specs.PlainExpressions.{PlainExpr, PlainVariable, OfVariable, PlainExprs}
use Rattle.pearl_program.specs.PlainStatements.{PlainCounter}
use Rattle.pearl_program.specs.Typing.{Around, IsVariable, IsParam, IsFixed}
use Rattle.pearl_program.specs.SoundStatements.{IsIf, IsCounter}
use Rattle.pearl_meaning.specs.Setting.{Setting, cell_kind}
use Rattle.pearl_meaning.specs.Transfers.{kinds_of}
use Rattle.pearl_instructions.specs.declared.instr.Instr.{Instr}
use Rattle.pearl_instructions.specs.declared.instr.Instr.TheVariants as instr
use Rattle.pearl_instructions.specs.declared.object.Code.{Code}
use Rattle.pearl_instructions.specs.declared.object.Parts.{Parts as Object}
use Rattle.pearl_instructions.specs.Valid.{targets}
use Rattle.pearl_gen_expr.specs.ExprCode.{bounds_of}
use Rattle.pearl_gen_expr.proofs.Offered.{all_forward}
use Rattle.pearl_gen_stmt.specs.StmtCode.{writing_at, kept_in, CountedAt, LimitAt, BeginsAt, FoundAt, KeptAt, FilledAt, WrittenAt, GetAt}
use Rattle.pearl_faithful.proofs.Places.{IsBare}
use Rattle.pearl_faithful.proofs.Pushing.{Adds, subscripts_add}
use Rattle.pearl_faithful.proofs.StatementsStand.{Stands, variable_is, own_kind_is, own_is, cell_lawful}
use Rattle.pearl_faithful.proofs.Leading.{Sits, nothing_sits, both_sit, closes}
use Rattle.pearl_faithful.proofs.Simple.{Leaves, zero_value, one_value, Piece, none_piece, then_piece, converted_piece}

-- the instruction that writes at an offset or by a reference that was kept
abbrev pub written_by : PlainVariable → Instr
written_by (OfVariable target bounds es) = writing_at target bounds

writing_at_leaves : (o : Object) (target : PlainVariable) → Leaves o (written_by target)
writing_at_leaves o (OfVariable (LeafOf number) bounds es) = (tt, refl, refl)
writing_at_leaves o (OfVariable (Own cell) bounds es) = (tt, refl, refl)
writing_at_leaves o (OfVariable (Param cell) bounds es) = (tt, refl, refl)

-- a parameter with IDENT has no bounds
no_bounds : (found : Option CellKind) (bound : Bound) (bounds : List Bound) (es : PlainExprs) (kind : Kind) → IsParam found (bound ∷ bounds) es kind → ⊥
no_bounds None bound bounds es kind is = is
no_bounds (Some (Plain of)) bound bounds es kind is = is
no_bounds (Some (RefTo of)) bound bounds es kind is = is

-- the kinds of GET's targets are those that its code has
pub kinds_are : (o : Object) (r : ℕ) (code : Code) (setting : Setting) (around : Around) (below : ℕ) → Stands o r code setting around below → (targets : List PlainVariable) (kinds : List Kind) →
    AllZip (IsVariable around) targets kinds → kinds_of setting targets ≡ Some kinds
kinds_are o r code setting around below stands [] [] are = refl
kinds_are o r code setting around below stands [] (kind ∷ kinds) are = absurd are
kinds_are o r code setting around below stands (target ∷ targets) [] are = absurd are
kinds_are o r code setting around below stands (target ∷ targets) (kind ∷ kinds) are =
    let known = variable_is o r code setting around below stands target kind are.0 in
    let more = kinds_are o r code setting around below stands targets kinds are.1 in
    ap (λ found. option_and_then (λ kind. option_map (λ kinds. kind ∷ kinds) (kinds_of setting targets)) found) known.0
    ∙ ap (λ found. option_map (λ kinds. kind ∷ kinds) found) more

module _ (o : Object) (r : ℕ) (code : Code) (setting : Setting) (around : Around) (below : ℕ) (stands : Stands o r code setting around below) where
  abbrev instrs : List Instr
  instrs = code.instructions

  abbrev Part : (from to : ℕ) → Type 0
  Part from to = Piece o r code setting around below stands from to

  none : (from to : ℕ) → to ≡ from → Part from to
  none from to same = none_piece o r code setting around below stands from to same

  then : (from end to : ℕ) (here : Instr) → Part from end → to ≡ end + 1 → slice_get instrs end ≡ Some here → Adds o end here → Part from to
  then from end to here one last is adds = then_piece o r code setting around below stands from end to here one last is adds

  pub found_piece : (target : PlainVariable) (kind : Kind) (from to : ℕ) → IsVariable around target kind → FoundAt setting code.instructions from target to → Part from to
  found_piece (OfVariable target [] es) kind from to typed is =
      then from from to (instr.Const (Fixed 31 (pos 0))) (none from from refl) is.1 is.0 (refl, zero_value)
  found_piece (OfVariable (LeafOf number) (bound ∷ bounds) es) kind from to typed is =
      then from is.0 to (instr.Index (map bounds_of (bound ∷ bounds))) (
        all_forward setting.program instrs es from is.0 is.1,
        subscripts_add setting.program o instrs around stands.placed.sound stands.placed.tables stands.placed.stands es (bound ∷ bounds) from is.0 typed.2 is.1,
      ) is.3 is.2 (refl, tt)
  found_piece (OfVariable (Own cell) (bound ∷ bounds) es) kind from to typed is =
      then from is.0 to (instr.Index (map bounds_of (bound ∷ bounds))) (
        all_forward setting.program instrs es from is.0 is.1,
        subscripts_add setting.program o instrs around stands.placed.sound stands.placed.tables stands.placed.stands es (bound ∷ bounds) from is.0 typed.2 is.1,
      ) is.3 is.2 (refl, tt)
  found_piece (OfVariable (Param cell) (bound ∷ bounds) es) kind from to typed is = absurd (no_bounds (slice_get around.cells cell) bound bounds es kind typed)

  -- FROM, BY and TO
  counted_piece : (counter : PlainCounter) (len : ℕ) (e : Option PlainExpr) (from to : ℕ) → cell_kind setting counter.cell ≡ Some (kind_.Fixed len) → IsKind (kind_.Fixed len) →
      IsIf (IsFixed around) e → CountedAt setting code.instructions from counter e to → Part from to
  counted_piece counter len None from to known lawful typed is =
      let same : is.0 ≡ kind_.Fixed len = same_Some is.0 (kind_.Fixed len) (sym is.1 ∙ known) in
      then from (from + 1) to (instr.Conv is.0) (then from from (from + 1) (instr.Const (Fixed 31 (pos 1))) (none from from refl) refl is.2 (refl, one_value))
      (let last = is.4 in omega (arith, last)) is.3 (refl, subst IsKind (sym same) lawful)
  counted_piece counter len (Some e) from to known lawful typed is =
      converted_piece o r code setting around below stands e (kind_.Fixed len) (cell_kind setting counter.cell) from to (kind_.Fixed typed.0, typed.1, tt) known lawful is

  module _ (leave : Option ℕ) where
    abbrev Sitting : (from to : ℕ) → Type 0
    Sitting from to = Sits o code.instructions leave from to

    close : (from end to : ℕ) (here : Instr) → Part from end → to ≡ end + 1 → slice_get instrs end ≡ Some here → Leaves o here → Sitting from to
    close from end to here piece last is leaves = closes o instrs leave from end to here piece.0 piece.1 last is leaves.0 leaves.1 leaves.2

    kept_sits : (targets : List PlainVariable) (kinds : List Kind) (from at to : ℕ) → AllZip (IsVariable around) targets kinds → IsBare instrs o from → KeptAt setting instrs from at targets to →
        Sitting from to
    kept_sits [] kinds from at to typed bare is = nothing_sits o instrs leave from to bare is
    kept_sits (target ∷ targets) [] from at to typed bare is = absurd typed
    kept_sits (target ∷ targets) (kind ∷ kinds) from at to typed bare is =
        let one = close from is.0 (is.0 + 1) (instr.Store at) (found_piece target kind from is.0 typed.0 is.1) refl is.2 (tt, refl, refl) in
        both_sit o instrs leave from (is.0 + 1) to one (kept_sits targets kinds (is.0 + 1) (at + 1) to typed.1 one.bare is.3)

    filled_sits : (targets : List PlainVariable) (kinds : List Kind) (from cell to : ℕ) → AllZip (IsVariable around) targets kinds → IsBare instrs o from → FilledAt setting instrs from cell kinds to →
        Sitting from to
    filled_sits [] [] from cell to typed bare is = nothing_sits o instrs leave from to bare is
    filled_sits [] (kind ∷ kinds) from cell to typed bare is = absurd typed
    filled_sits (target ∷ targets) [] from cell to typed bare is = absurd typed
    filled_sits (target ∷ targets) (kind ∷ kinds) from cell to typed bare is =
        let known = variable_is o r code setting around below stands target kind typed.0 in
        let one = close from from (from + 1) (instr.Fill cell 1 kind) (none from from refl) refl is.0 (known.1, refl, refl) in
        both_sit o instrs leave from (from + 1) to one (filled_sits targets kinds (from + 1) (cell + 1) to typed.1 one.bare is.1)

    written_sits : (targets : List PlainVariable) (from cell at to : ℕ) → IsBare instrs o from → WrittenAt setting instrs from cell at targets to → Sitting from to
    written_sits [] from cell at to bare is = nothing_sits o instrs leave from to bare is
    written_sits (OfVariable target bounds es ∷ targets) from cell at to bare is =
        let one = close from (from + 2) (from + 3) (writing_at target bounds)
        (then from (from + 1) (from + 2) (instr.Load cell) (then from from (from + 1) (instr.Load (kept_in target at)) (none from from refl) refl is.0 (refl, tt)) (omega arith) is.1 (refl, tt))
        (omega arith) is.2 (writing_at_leaves o (OfVariable target bounds es)) in
        both_sit o instrs leave from (from + 3) to one (written_sits targets (from + 3) (cell + 1) (at + 1) to one.bare is.3)

    pub get_sits : (targets : List PlainVariable) (kinds : List Kind) (device format cell from to : ℕ) → AllZip (IsVariable around) targets kinds → IsBare code.instructions o from →
        GetAt setting code.instructions from targets device format cell to → Sitting from to
    get_sits targets kinds device format cell from to typed bare is =
        let same : is.0 ≡ kinds = same_Some is.0 kinds (sym is.1 ∙ kinds_are o r code setting around below stands targets kinds typed) in
        let kept = kept_sits targets kinds from (cell + length targets) is.2 typed bare is.4 in
        let filled = filled_sits targets kinds is.2 cell is.3 typed kept.bare (subst (λ kinds. FilledAt setting instrs is.2 cell kinds is.3) same is.5) in
        let read = close is.3 is.3 (is.3 + 1) (instr.Get (record { device = device; format = format; first = cell })) (none is.3 is.3 refl) refl is.6 (tt, refl, refl) in
        both_sit o instrs leave from is.2 to kept (both_sit o instrs leave is.2 is.3 to filled (both_sit o instrs leave is.3 (is.3 + 1) to read
        (written_sits targets (is.3 + 1) cell (cell + length targets) to read.bare is.7)))

    limit_sits : (counter : PlainCounter) (len : ℕ) (e : Option PlainExpr) (from to : ℕ) → cell_kind setting counter.cell ≡ Some (kind_.Fixed len) → IsKind (kind_.Fixed len) →
        IsIf (IsFixed around) e → IsBare instrs o from → LimitAt setting instrs from counter e to → Sitting from to
    limit_sits counter len None from to known lawful typed bare is = nothing_sits o instrs leave from to bare is
    limit_sits counter len (Some e) from to known lawful typed bare is =
        close from is.0 to (instr.Store (counter.cell + 2)) (counted_piece counter len (Some e) from is.0 known lawful typed is.1) is.3 is.2 (tt, refl, refl)

    pub begins_sit : (counter : Option PlainCounter) (from to : ℕ) → IsIf (IsCounter around) counter → IsBare code.instructions o from → BeginsAt setting code.instructions from counter to → Sitting from to
    begins_sit None from to typed bare is = nothing_sits o instrs leave from to bare is
    begins_sit (Some counter) from to typed bare is =
        let len = typed.cells.0 in let three : 0 < 3 = omega arith in
        let known = own_kind_is o r code setting around below stands counter.cell (kind_.Fixed len) 3 three typed.cells.1 in
        let lawful = cell_lawful o r code setting around below stands counter.cell (Plain (kind_.Fixed len)) (own_is o r code setting around below stands counter.cell (kind_.Fixed len) 3 three typed.cells.1) in
        let one = close from is.0 (is.0 + 1) (instr.Store counter.cell) (counted_piece counter len counter.begin from is.0 known lawful typed.begin is.2) refl is.3 (tt, refl, refl) in
        let two = close (is.0 + 1) (is.1 + 1) (is.1 + 2) (instr.Store (counter.cell + 1))
        (then (is.0 + 1) is.1 (is.1 + 1) instr.NonZero (counted_piece counter len counter.step (is.0 + 1) is.1 known lawful typed.step is.4) refl is.5 (refl, tt)) (omega arith) is.6 (tt, refl, refl) in
        both_sit o instrs leave from (is.0 + 1) to one (both_sit o instrs leave (is.0 + 1) (is.1 + 2) to two
        (limit_sits counter len counter.end (is.1 + 2) to known lawful typed.end two.bare is.7))
