-- What is found of the parts of a statement, one after the other, and the rules on the statement that go by it.
use Rattle.std.proofs.Common.{◌≡◌, ℕ, List, [], ◌∷◌, ◌++◌, Option, Some, None, refl, sym, ap, subst, ◌∙◌, append-nil, map, option_map, slice_get, unwrap_or}
use Rattle.std.specs.List.{flat_map}
use Rattle.pearl_tree.specs.declared.fault.RuleFault.{RuleFault}
use Rattle.pearl_tree.specs.declared.statement.Assign.{Assign}
use Rattle.pearl_tree.specs.declared.statement.Get.{Get}
use Rattle.pearl_tree.specs.declared.statement.Put.{Put}
use Rattle.pearl_tree.specs.declared.statement.Return.{Return}
use Rattle.pearl_tree.specs.declared.statement.Send.{Send}
use Rattle.pearl_tree.specs.declared.statement.Take.{Take}
use Rattle.pearl_tree.specs.Faults.{fault_if}
use Rattle.pearl_tree.specs.ShownExpressions.{ShownExpr, shown_expr, shown_ref}
use Rattle.pearl_tree.specs.ShownStatements.{ShownStmt, OfAssign, OfReturn, OfPut, OfGet, OfSend, OfTake}
use Rattle.pearl_names.specs.Tables.{Table}
use Rattle.pearl_scope.specs.declared.places.Spot.{Spot}
use Rattle.pearl_scope.specs.Placed.{Placed}
use Rattle.pearl_check_expr.specs.Judged.{misfits}
use Rattle.pearl_check.specs.declared.asked.NameRole.TheVariants.{Dation}
use Rattle.pearl_check.specs.declared.asked.Role.TheVariants.{Plain}
use Rattle.pearl_check.specs.declared.findings.Findings.{Findings}
use Rattle.pearl_check.specs.Asked.{Asked, Named, value, target, value_if, asked_at}
use Rattle.pearl_check.specs.Dations.{takes_no_put, gives_no_get, takes_no_send, gives_no_take}
use Rattle.pearl_check.specs.Findings.{kind_found, name_found, IsFound, AreFound, kind_at, first_name, kind_if, meant, sense_of}
use Rattle.pearl_check.specs.Formats.{format_faults}
use Rattle.pearl_check.specs.Routines.{RoutineSort}
use Rattle.pearl_check.specs.Rules.{own_faults}
use Rattle.pearl_check.specs.Statements.{is_misplaced_return}
use Rattle.pearl_check.specs.Views.{value_kind, target_kind}
use Rattle.pearl_check.proofs.Tallying.{one_more}

pub found_none : (table : Table) (findings : Findings) (parts : List Asked) → parts ≡ [] → findings.kinds.items ≡ [] → findings.names.items ≡ [] →
    AreFound table findings parts
found_none table findings parts none kinds names = record {
  kinds = kinds ∙ ap (flat_map (kind_found table)) (sym none);
  names = names ∙ ap (flat_map (name_found table)) (sym none);
}

pub found_more : (table : Table) (old new : Findings) (before after : List Asked) (part : Asked) → after ≡ before ++ part ∷ [] →
    AreFound table old before → IsFound table old new part → AreFound table new after
found_more table old new before after part is so more = record {
  kinds = more.kind ∙ ap (λ t. t ++ kind_found table part) so.kinds ∙ sym (one_more (kind_found table) before after part is);
  names = more.name ∙ ap (λ t. t ++ name_found table part) so.names ∙ sym (one_more (name_found table) before after part is);
}

-- what each of these gives, before one that gives nothing
each_before : {X Y : Type 0} (of : Asked → List Y) (ask : X → Asked) (one : X → Y) (last : Asked) → ((x : X) → of (ask x) ≡ one x ∷ []) → of last ≡ [] →
    (xs : List X) → flat_map of (map ask xs ++ last ∷ []) ≡ map one xs
each_before of ask one last each none [] = ap (λ t. t ++ []) none
each_before of ask one last each none (x ∷ xs) = λ i. each x i ++ each_before of ask one last each none xs i

-- what the last gives, behind those that give nothing
last_behind : {X Y : Type 0} (of : Asked → List Y) (ask : X → Asked) (last : Asked) → ((x : X) → of (ask x) ≡ []) →
    (xs : List X) → flat_map of (map ask xs ++ last ∷ []) ≡ of last ++ []
last_behind of ask last none [] = refl
last_behind of ask last none (x ∷ xs) = λ i. none x i ++ last_behind of ask last none xs i

pub added : (old new more : List RuleFault) → new ≡ old ++ more → new ≡ old ++ (more ++ [])
added old new more is = is ∙ ap (λ t. old ++ t) (sym (append-nil more))

first_if : (table : Table) (scope : ℕ) (expr : Option ShownExpr) →
    unwrap_or (slice_get (flat_map (kind_found table) (value_if Plain scope expr)) 0) None ≡ kind_if table scope expr
first_if table scope None = refl
first_if table scope (Some expr) = refl

-- the statements that go by what was found
abbrev pub of_assign : Assign → ShownStmt
of_assign part = OfAssign (shown_ref part.target) (shown_expr part.value) part.place

abbrev pub of_return : Return → ShownStmt
of_return part = OfReturn (option_map shown_expr part.value) part.place

abbrev pub of_put : Put → ShownStmt
of_put part = OfPut (map shown_expr part.values.items.items) part.dation part.formats.items.items part.place

abbrev pub of_get : Get → ShownStmt
of_get part = OfGet (map shown_ref part.targets.items.items) part.dation part.formats.items.items part.place

abbrev pub of_send : Send → ShownStmt
of_send part = OfSend (shown_expr part.value) part.dation part.place

abbrev pub of_take : Take → ShownStmt
of_take part = OfTake (shown_ref part.target) part.dation part.place

module _ (table : Table) (sort : RoutineSort) (findings : Findings) (old new : List RuleFault) (spot : Spot) (next : ℕ) where
  abbrev pub placed : ShownStmt → Placed
  placed statement = record { spot = spot; next = next; statement = statement }

  -- what the statement breaks as a whole was added, if this was found of its parts
  abbrev pub Tells : ShownStmt → Type 0
  Tells statement = AreFound table findings (asked_at (placed statement)) → new ≡ old ++ own_faults table sort (placed statement)

  -- the statement is known to be this one
  pub tells_at : {P : Type 0} (of : P → ShownStmt) (statement : ShownStmt) (part read : P) → statement ≡ of part → read ≡ part → Tells (of read) → Tells statement
  tells_at of statement part read is reads tells = subst Tells (ap of reads ∙ sym is) tells

  pub tells_assign : (part : Assign) → new ≡ old ++ fault_if (misfits (kind_at findings 1) (kind_at findings 0)) part.target.place 24 → Tells (of_assign part)
  tells_assign part told = λ found.
      added old new (fault_if (misfits (value_kind table spot.scope (shown_expr part.value)) (target_kind table spot.scope (shown_ref part.target))) part.target.place 24)
      (told ∙ (λ i. old ++ fault_if (misfits (unwrap_or (slice_get (found.kinds i) 1) None) (unwrap_or (slice_get (found.kinds i) 0) None)) part.target.place 24))

  pub tells_return : (part : Return) →
      (kind_at findings 0 ≡ kind_if table spot.scope (option_map shown_expr part.value) →
      new ≡ old ++ fault_if (is_misplaced_return table spot.scope sort (option_map shown_expr part.value)) part.place 27) →
      Tells (of_return part)
  tells_return part told = λ found.
      added old new (fault_if (is_misplaced_return table spot.scope sort (option_map shown_expr part.value)) part.place 27)
      (told (ap (λ kinds. unwrap_or (slice_get kinds 0) None) found.kinds ∙ first_if table spot.scope (option_map shown_expr part.value)))

  pub tells_put : (part : Put) →
      new ≡ old ++ (fault_if (takes_no_put (sense_of table (first_name findings))) part.dation.place 32 ++ format_faults part.place part.formats.items.items findings.kinds.items) →
      Tells (of_put part)
  tells_put part told = λ found.
      let exprs = map shown_expr part.values.items.items in
      let kinds : findings.kinds.items ≡ map (value_kind table spot.scope) exprs =
      found.kinds ∙ each_before (kind_found table) (value Plain spot.scope) (value_kind table spot.scope) (Named Dation spot.scope part.dation) (λ expr. refl) refl exprs in
      let names : findings.names.items ≡ meant table spot.scope part.dation ∷ [] =
      found.names ∙ last_behind (name_found table) (value Plain spot.scope) (Named Dation spot.scope part.dation) (λ expr. refl) exprs in
      told ∙ (λ i. old ++
      (fault_if (takes_no_put (sense_of table (unwrap_or (slice_get (names i) 0) None))) part.dation.place 32 ++ format_faults part.place part.formats.items.items (kinds i)))

  pub tells_get : (part : Get) →
      new ≡ old ++ (fault_if (gives_no_get (sense_of table (first_name findings))) part.dation.place 32 ++ format_faults part.place part.formats.items.items findings.kinds.items) →
      Tells (of_get part)
  tells_get part told = λ found.
      let targets = map shown_ref part.targets.items.items in
      let kinds : findings.kinds.items ≡ map (target_kind table spot.scope) targets =
      found.kinds ∙ each_before (kind_found table) (target spot.scope) (target_kind table spot.scope) (Named Dation spot.scope part.dation) (λ reference. refl) refl targets in
      let names : findings.names.items ≡ meant table spot.scope part.dation ∷ [] =
      found.names ∙ last_behind (name_found table) (target spot.scope) (Named Dation spot.scope part.dation) (λ reference. refl) targets in
      told ∙ (λ i. old ++
      (fault_if (gives_no_get (sense_of table (unwrap_or (slice_get (names i) 0) None))) part.dation.place 32 ++ format_faults part.place part.formats.items.items (kinds i)))

  pub tells_send : (part : Send) →
      new ≡ old ++ fault_if (takes_no_send (kind_at findings 0) (sense_of table (first_name findings))) part.dation.place 32 → Tells (of_send part)
  tells_send part told = λ found.
      added old new (fault_if (takes_no_send (value_kind table spot.scope (shown_expr part.value)) (sense_of table (meant table spot.scope part.dation))) part.dation.place 32)
      (told ∙ (λ i. old ++
      fault_if (takes_no_send (unwrap_or (slice_get (found.kinds i) 0) None) (sense_of table (unwrap_or (slice_get (found.names i) 0) None))) part.dation.place 32))

  pub tells_take : (part : Take) →
      new ≡ old ++ fault_if (gives_no_take (kind_at findings 0) (sense_of table (first_name findings))) part.dation.place 32 → Tells (of_take part)
  tells_take part told = λ found.
      added old new (fault_if (gives_no_take (target_kind table spot.scope (shown_ref part.target)) (sense_of table (meant table spot.scope part.dation))) part.dation.place 32)
      (told ∙ (λ i. old ++
      fault_if (gives_no_take (unwrap_or (slice_get (found.kinds i) 0) None) (sense_of table (unwrap_or (slice_get (found.names i) 0) None))) part.dation.place 32))
