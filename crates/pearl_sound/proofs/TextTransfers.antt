-- PUT and GET that break no rule become sound statements.
use Rattle.std.specs.Prelude.{◌≡◌, ℕ, zero, suc, ◌+◌, true, false, List, [], ◌∷◌, ◌++◌, length, map, take, drop, replicate, Option, Some, slice_get}
use Rattle.std.specs.List.{AllByRecursion, AllZip, flat_map}
use Rattle.std.proofs.Common.{refl, ap, ◌∙◌, sym, subst, arith, true≢false}
use Rattle.std.proofs.lemmas.List.{length-append}
use Rattle.pearl_value.specs.declared.kind.Kind.{Kind}
use Rattle.pearl_value.specs.declared.kind.Kind.TheVariants.{Fixed}
use Rattle.pearl_value.specs.declared.kind.CellKind.{CellKind}
use Rattle.pearl_value.specs.declared.kind.CellKind.TheVariants.{Plain}
use Rattle.pearl_tree.specs.declared.name.Name.{Name}
use Rattle.pearl_tree.specs.declared.format.Fmt.{Fmt}
use Rattle.pearl_value.specs.declared.device.Direction.{Direction}
use Rattle.pearl_value.specs.declared.device.Direction.TheVariants.{In, Out}
use Rattle.pearl_tree.specs.declared.rule.TheConstants as rule
use Rattle.pearl_tree.specs.ShownExpressions.{ShownExpr, ShownRef}
use Rattle.pearl_tree.specs.ShownStatements.{OfPut, OfGet}
use Rattle.pearl_names.specs.declared.scope.View.TheVariants.{Within}
use Rattle.pearl_names.specs.Tables.{Sense, AlphicDation, BasicDation}
use Rattle.pearl_scope.specs.Placed.{Placed}
use Rattle.pearl_system.specs.Rules.{is_in, is_out}
use Rattle.pearl_check.specs.declared.asked.Role.TheVariants as role
use Rattle.pearl_check.specs.declared.asked.NameRole.TheVariants as name_role
use Rattle.pearl_check.specs.Asked as asking
use Rattle.pearl_check.specs.Asked.{Named, stmt_asked, asked_at}
use Rattle.pearl_check.specs.Dations.{s32, takes_no_put, gives_no_get}
use Rattle.pearl_check.specs.Formats.{s33, format_faults}
use Rattle.pearl_check.specs.Roles.{is_role, role_of, asked_faults}
use Rattle.pearl_check.specs.Routines.{RoutineSort}
use Rattle.pearl_check.specs.Rules.{own_faults, statement_faults}
use Rattle.pearl_check.specs.Views.{seen, value_kind, target_kind}
use Rattle.pearl_value.specs.declared.device.Device.{Device}
use Rattle.pearl_value.specs.declared.device.Device.TheVariants.{Terminal}
use Rattle.pearl_program.specs.Typing.{Around, IsVariable, HaveKinds}
use Rattle.pearl_format.specs.Items.{FitsSome}
use Rattle.pearl_program.specs.SoundStatements.{Writes, Reads, TakesTexts, GivesTexts, IsPut, IsGet, AreStmts}
use Rattle.pearl_resolve.specs.Numbers.{At}
use Rattle.pearl_resolve.specs.Cells.{get_cells}
use Rattle.pearl_resolve.specs.Expressions.{Numbered, number_of, resolve_variable}
use Rattle.pearl_resolve.specs.Expressions as resolving
use Rattle.pearl_resolve.specs.Statements.{values_in, resolve_stmt}
use Rattle.pearl_resolve.specs.Resolve.{item_of}
use Rattle.pearl_sound.specs.KnownParts.{IsKnown}
use Rattle.pearl_sound.specs.SoundNames.{IsTerminal, LeadNames}
use Rattle.pearl_sound.proofs.FormatsFit.{formats_fit}
use Rattle.pearl_sound.proofs.Shapes.{target_kinds}
use Rattle.pearl_sound.proofs.SimpleStatements.{left_none, right_none, not_broken, split_all, IsKept, AreKept, all_kept, named_role, value_sound, target_kept}

-- terminals
writes : (direction : Direction) → is_in direction ≡ false → Writes direction
writes In free = absurd (true≢false free)
writes other free = tt

reads : (direction : Direction) → is_out direction ≡ false → Reads direction
reads Out free = absurd (true≢false free)
reads other free = tt

terminal_takes : (direction : Direction) (device : Option Device) → IsTerminal direction device → is_in direction ≡ false → TakesTexts device
terminal_takes direction (Some (Terminal number to)) same free = subst Writes (sym same) (writes direction free)
terminal_takes direction device same free = absurd same

terminal_gives : (direction : Direction) (device : Option Device) → IsTerminal direction device → is_out direction ≡ false → GivesTexts device
terminal_gives direction (Some (Terminal number to)) same free = subst Reads (sym same) (reads direction free)
terminal_gives direction device same free = absurd same

module _ (numbered : Numbered) (scope : ℕ) (around : Around) (lead : LeadNames numbered (Within scope) around) where
  put_dation : (name : Name) (of : Sense) → seen numbered.table (Within scope) name ≡ Some of → is_role name_role.Dation (role_of of) ≡ true →
      takes_no_put (Some of) ≡ false → TakesTexts (slice_get around.devices (number_of numbered (Within scope) name))
  put_dation name (AlphicDation direction) is named none =
      terminal_takes direction (slice_get around.devices (number_of numbered (Within scope) name)) (lead.terminals name direction is) none
  put_dation name (BasicDation direction kind) is named none = absurd (true≢false none)
  put_dation name of is named none = absurd (true≢false (sym named))

  get_dation : (name : Name) (of : Sense) → seen numbered.table (Within scope) name ≡ Some of → is_role name_role.Dation (role_of of) ≡ true →
      gives_no_get (Some of) ≡ false → GivesTexts (slice_get around.devices (number_of numbered (Within scope) name))
  get_dation name (AlphicDation direction) is named none =
      terminal_gives direction (slice_get around.devices (number_of numbered (Within scope) name)) (lead.terminals name direction is) none
  get_dation name (BasicDation direction kind) is named none = absurd (true≢false none)
  get_dation name of is named none = absurd (true≢false (sym named))

  -- values and targets
  record HaveValues (values : List ShownExpr) : Type 0 where
    pub kinds : List Kind
    pub are : map (value_kind numbered.table scope) values ≡ map Some kinds
    pub have : HaveKinds around (values_in numbered scope values) kinds

  have_values : (values : List ShownExpr) → AreKept numbered.table (map (asking.value role.Plain scope) values) → HaveValues values
  have_values [] kept = record { kinds = []; are = refl; have = tt }
  have_values (e ∷ rest) kept =
      let first = value_sound numbered scope around lead role.Plain e kept.0 in
      let more = have_values rest kept.1 in
      record { kinds = first.kind ∷ more.kinds; are = λ i. first.is i ∷ more.are i; have = (first.has, more.have) }

  record HaveTargets (targets : List ShownRef) : Type 0 where
    pub kinds : List Kind
    pub are : map (target_kind numbered.table scope) targets ≡ map Some kinds
    pub variables : AllZip (IsVariable around) (map (resolve_variable numbered (Within scope)) targets) kinds
    pub cells : map (λ target. Plain (resolving.target_kind numbered (Within scope) target)) targets ≡ map Plain kinds
    pub many : length targets ≡ length kinds

  have_targets : (targets : List ShownRef) → AreKept numbered.table (map (asking.target scope) targets) → HaveTargets targets
  have_targets [] kept = record { kinds = []; are = refl; variables = tt; cells = refl; many = refl }
  have_targets (target ∷ rest) kept =
      let first = target_kept numbered scope around lead target kept.0 in
      let more = have_targets rest kept.1 in
      record {
        kinds = first.kind ∷ more.kinds;
        are = λ i. first.is i ∷ more.are i;
        variables = (first.variable, more.variables);
        cells = λ i. Plain (target_kinds numbered (Within scope) target first.kind first.is i) ∷ more.cells i;
        many = ap suc more.many;
      }

  so_long : {X Y : Type 0} (f : X → Y) (xs : List X) → length (map f xs) ≡ length xs
  so_long f [] = refl
  so_long f (x ∷ xs) = ap suc (so_long f xs)

  copies : {X : Type 0} (n : ℕ) (x : X) → length (replicate n x) ≡ n
  copies zero x = refl
  copies (suc n) x = ap suc (copies n x)

  put_kept : (values : List ShownExpr) (dation : Name) (formats : List Fmt) (from format : ℕ) → slice_get around.formats format ≡ Some (map item_of formats) →
      AreKept numbered.table (map (asking.value role.Plain scope) values ++ Named name_role.Dation scope dation ∷ []) →
      takes_no_put (seen numbered.table (Within scope) dation) ≡ false →
      format_faults from formats (map (value_kind numbered.table scope) values) ≡ [] →
      IsPut around (values_in numbered scope values) (number_of numbered (Within scope) dation) format
  put_kept values dation formats from format there kept carry fit =
      let split = split_all (IsKept numbered.table) (map (asking.value role.Plain scope) values) (Named name_role.Dation scope dation ∷ []) kept in
      let name = split.1.0 in
      let has = have_values values split.0 in (
        put_dation dation name.known.0 name.known.1 (named_role numbered scope around lead name_role.Dation dation name)
            (ap takes_no_put (sym name.known.1) ∙ carry),
        has.kinds,
        has.have,
        subst (λ found. FitsSome found has.kinds) (sym there)
            (formats_fit from formats has.kinds (subst (λ kinds. format_faults from formats kinds ≡ []) has.are fit)),
      )

  get_kept : (targets : List ShownRef) (dation : Name) (formats : List Fmt) (from format cell : ℕ) → slice_get around.formats format ≡ Some (map item_of formats) →
      take (length (get_cells numbered scope targets)) (drop cell around.cells) ≡ get_cells numbered scope targets →
      AreKept numbered.table (map (asking.target scope) targets ++ Named name_role.Dation scope dation ∷ []) →
      gives_no_get (seen numbered.table (Within scope) dation) ≡ false →
      format_faults from formats (map (target_kind numbered.table scope) targets) ≡ [] →
      IsGet around (map (resolve_variable numbered (Within scope)) targets) (number_of numbered (Within scope) dation) format cell
  get_kept targets dation formats from format cell there lie kept carry fit =
      let split = split_all (IsKept numbered.table) (map (asking.target scope) targets) (Named name_role.Dation scope dation ∷ []) kept in
      let name = split.1.0 in
      let has = have_targets targets split.0 in
      let kinds = has.kinds in
      let same : get_cells numbered scope targets ≡ map Plain kinds ++ replicate (length kinds) (Plain (Fixed 31)) =
      λ i. has.cells i ++ replicate (has.many i) (Plain (Fixed 31)) in
      let first = length-append (map Plain kinds) (replicate (length kinds) (Plain (Fixed 31))) in
      let second = so_long Plain kinds in
      let third = copies (length kinds) (Plain (Fixed 31)) in
      let count : length (map Plain kinds ++ replicate (length kinds) (Plain (Fixed 31))) ≡ length kinds + length kinds =
      omega (arith, first, second, third) in (
        get_dation dation name.known.0 name.known.1 (named_role numbered scope around lead name_role.Dation dation name)
            (ap gives_no_get (sym name.known.1) ∙ carry),
        kinds,
        has.variables,
        subst (λ found. FitsSome found kinds) (sym there)
            (formats_fit from formats kinds (subst (λ kinds. format_faults from formats kinds ≡ []) has.are fit)),
        ap (λ n. take n (drop cell around.cells)) (sym count) ∙
            subst (λ (cells : List CellKind). take (length cells) (drop cell around.cells) ≡ cells) same lie,
      )

pub put_sound : (numbered : Numbered) (sort : RoutineSort) (place : Placed) (at : At) (around : Around) → LeadNames numbered (Within place.spot.scope) around →
    (values : List ShownExpr) (dation : Name) (formats : List Fmt) (from : ℕ) → place.statement ≡ OfPut values dation formats from →
    slice_get around.formats at.format ≡ Some (map item_of formats) →
    AllByRecursion (IsKnown numbered.table) (asked_at place) → statement_faults numbered.table sort place ≡ [] →
    AreStmts around (resolve_stmt numbered place.spot.scope at place.statement)
put_sound numbered sort place at around lead values dation formats from is there known none =
    let table = numbered.table in
    let scope = place.spot.scope in
    let s = OfPut values dation formats from in
    let asked = flat_map (asked_faults table) (stmt_asked scope place.next s) in
    let own = own_faults table sort (record { spot = place.spot; next = place.next; statement = s }) in
    let faults = subst (λ s. flat_map (asked_faults table) (stmt_asked scope place.next s) ++
    own_faults table sort (record { spot = place.spot; next = place.next; statement = s }) ≡ []) is none in
    let kept = all_kept table (stmt_asked scope place.next s) (subst (λ s. AllByRecursion (IsKnown table) (stmt_asked scope place.next s)) is known)
    (left_none asked own faults) in
    let last = right_none asked own faults in
    subst (λ s. AreStmts around (resolve_stmt numbered scope at s)) (sym is) (
      put_kept numbered scope around lead values dation formats from at.format there kept
          (not_broken (takes_no_put (seen table (Within scope) dation)) dation.place rule.S32 (left_none (s32 table scope s) (s33 table scope s) last))
          (right_none (s32 table scope s) (s33 table scope s) last),
      tt,
    )

pub get_sound : (numbered : Numbered) (sort : RoutineSort) (place : Placed) (at : At) (around : Around) → LeadNames numbered (Within place.spot.scope) around →
    (targets : List ShownRef) (dation : Name) (formats : List Fmt) (from : ℕ) → place.statement ≡ OfGet targets dation formats from →
    slice_get around.formats at.format ≡ Some (map item_of formats) →
    take (length (get_cells numbered place.spot.scope targets)) (drop at.cell around.cells) ≡ get_cells numbered place.spot.scope targets →
    AllByRecursion (IsKnown numbered.table) (asked_at place) → statement_faults numbered.table sort place ≡ [] →
    AreStmts around (resolve_stmt numbered place.spot.scope at place.statement)
get_sound numbered sort place at around lead targets dation formats from is there lie known none =
    let table = numbered.table in
    let scope = place.spot.scope in
    let s = OfGet targets dation formats from in
    let asked = flat_map (asked_faults table) (stmt_asked scope place.next s) in
    let own = own_faults table sort (record { spot = place.spot; next = place.next; statement = s }) in
    let faults = subst (λ s. flat_map (asked_faults table) (stmt_asked scope place.next s) ++
    own_faults table sort (record { spot = place.spot; next = place.next; statement = s }) ≡ []) is none in
    let kept = all_kept table (stmt_asked scope place.next s) (subst (λ s. AllByRecursion (IsKnown table) (stmt_asked scope place.next s)) is known)
    (left_none asked own faults) in
    let last = right_none asked own faults in
    subst (λ s. AreStmts around (resolve_stmt numbered scope at s)) (sym is) (
      get_kept numbered scope around lead targets dation formats from at.format at.cell there lie kept
          (not_broken (gives_no_get (seen table (Within scope) dation)) dation.place rule.S32 (left_none (s32 table scope s) (s33 table scope s) last))
          (right_none (s32 table scope s) (s33 table scope s) last),
      tt,
    )
