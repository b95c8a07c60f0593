-- The tasks or procedures of declarations that are gone through: those that are held, and those that are still to come.
use Rattle.std.proofs.Common.{◌≡◌, ℕ, ◌+◌, ◌-◌, ◌<◌, ◌≤◌, Bool, List, [], ◌∷◌, ◌++◌, map, filter, length, take, drop, get_or, refl, sym, ap, subst, ◌∙◌, append_assoc, append-nil, arith}
use Rattle.std.proofs.lemmas.List.{map-append}
use Rattle.std.proofs.lemmas.List.Elements.{filter-append}
use Rattle.std.proofs.lemmas.Slice.{first_rest}
use Rattle.pearl_tree.specs.declared.name.Name.{Name}
use Rattle.pearl_tree.specs.declared.tree.Decl.{Decl}
use Rattle.std.specs.List.{flat_map}
use Rattle.pearl_tree.specs.ShownModules.{ShownDecl, OfLength, OfType, OfDeclare, OfSpecify, OfTask, OfProc, shown_decl}
use Rattle.pearl_names.specs.declared.table.SenseTable.{SenseTable}
use Rattle.pearl_names.specs.Holding.{HoldsTable}
use Rattle.pearl_names.specs.Scopes.{scopes_in_decl}
use Rattle.pearl_names.specs.Tables.{Table}
use Rattle.pearl_check.specs.declared.callers.Weighed.{Weighed as HeldWeighed}
use Rattle.pearl_check.specs.Calls.{Weighed}
use Rattle.pearl_check.specs.Routines.{Routine, decl_routines, decls_routines}
use Rattle.pearl_check.specs.Calling.{procedures_in}
use Rattle.pearl_check.specs.Sizes.{weighed_of, procedure_names}
use Rattle.pearl_check.specs.Weighing.{HoldsWeighed}

abbrev pub weighed_from : Table → List Name → (Routine → Bool) → ℕ → List Decl → List Weighed
weighed_from table procedures is_one next decls = map (weighed_of table procedures) (filter is_one (decls_routines next (map shown_decl decls)))

abbrev pub Collects : SenseTable → List Name → (Routine → Bool) → (all : List Decl) → HeldWeighed → ℕ → (left : List Decl) → Type 0
Collects held procedures is_one all weighed next left = (table : Table) → HoldsTable held table →
    (of : List Weighed) × HoldsWeighed weighed of × (of ++ weighed_from table procedures is_one next left ≡ weighed_from table procedures is_one 1 all)

pub collects_none : (held : SenseTable) (procedures : List Name) (is_one : Routine → Bool) (all : List Decl) (weighed : HeldWeighed) →
    weighed.places.items ≡ [] → weighed.callers.items ≡ [] → Collects held procedures is_one all weighed 1 all
collects_none held procedures is_one all weighed no_places no_callers table holds =
    ([], record { places = no_places; callers = no_callers }, refl)

one_from : (table : Table) (procedures : List Name) (is_one : Routine → Bool) (next : ℕ) (decl : Decl) (rest : List Decl) →
    weighed_from table procedures is_one next (decl ∷ rest) ≡
    map (weighed_of table procedures) (filter is_one (decl_routines next (shown_decl decl))) ++
    weighed_from table procedures is_one (next + scopes_in_decl (shown_decl decl)) rest
one_from table procedures is_one next decl rest =
    ap (map (weighed_of table procedures)) (filter-append is_one (decl_routines next (shown_decl decl)) _) ∙ map-append (weighed_of table procedures) _ _

rest_of : {X : Type 0} (xs : List X) (x : X) → 1 ≤ length xs → x ≡ get_or xs 0 x → xs ≡ x ∷ take (length xs - 1) (drop 1 xs)
rest_of xs x some is = first_rest xs x some ∙ ap (λ y. y ∷ take (length xs - 1) (drop 1 xs)) (sym is)

pub collects_next : (held : SenseTable) (procedures : List Name) (is_one : Routine → Bool) (all left : List Decl) (decl : Decl) (old new : HeldWeighed)
    (next after : ℕ) → 1 ≤ length left → decl ≡ get_or left 0 decl → Collects held procedures is_one all old next left →
    after ≡ next + scopes_in_decl (shown_decl decl) →
    ((table : Table) (of : List Weighed) → HoldsTable held table → HoldsWeighed old of →
    HoldsWeighed new (of ++ map (weighed_of table procedures) (filter is_one (decl_routines next (shown_decl decl))))) →
    Collects held procedures is_one all new after (take (length left - 1) (drop 1 left))
collects_next held procedures is_one all left decl old new next after some is before goes adds table holds = by (before table holds)
  where
    rest : List Decl
    rest = take (length left - 1) (drop 1 left)

    own : List Weighed
    own = map (weighed_of table procedures) (filter is_one (decl_routines next (shown_decl decl)))

    by : (of : List Weighed) × HoldsWeighed old of × (of ++ weighed_from table procedures is_one next left ≡ weighed_from table procedures is_one 1 all) →
        (of : List Weighed) × HoldsWeighed new of × (of ++ weighed_from table procedures is_one after rest ≡ weighed_from table procedures is_one 1 all)
    by (of, holds_old, same) = (
      of ++ own,
      adds table of holds holds_old,
      append_assoc of own (weighed_from table procedures is_one after rest)
          ∙ ap (λ n. of ++ (own ++ weighed_from table procedures is_one n rest)) goes
          ∙ ap (λ l. of ++ l) (sym (one_from table procedures is_one next decl rest))
          ∙ ap (λ l. of ++ weighed_from table procedures is_one next l) (sym (rest_of left decl some is))
          ∙ same,
    )

pub collects_all : (held : SenseTable) (procedures : List Name) (is_one : Routine → Bool) (all left : List Decl) (weighed : HeldWeighed) (next : ℕ) →
    length left < 1 → Collects held procedures is_one all weighed next left → (table : Table) → HoldsTable held table →
    HoldsWeighed weighed (weighed_from table procedures is_one 1 all)
collects_all held procedures is_one all [] weighed next none whole table holds =
    let end = whole table holds in subst (λ (of : List Weighed). HoldsWeighed weighed of) (sym (append-nil end.0) ∙ end.2) end.1
collects_all held procedures is_one all (decl ∷ rest) weighed next none whole table holds = absurd (omega (arith, none))

-- the procedures among some declarations, as routines and by themselves
pub names_listed : (next : ℕ) (decls : List ShownDecl) → procedure_names (decls_routines next decls) ≡ flat_map procedures_in decls
names_listed next [] = refl
names_listed next (OfTask name head body place ∷ rest) = names_listed (next + scopes_in_decl (OfTask name head body place)) rest
names_listed next (OfProc name params returns body place ∷ rest) =
    ap (λ l. name ∷ l) (names_listed (next + scopes_in_decl (OfProc name params returns body place)) rest)
names_listed next (OfLength sort number place ∷ rest) = names_listed (next + 0) rest
names_listed next (OfType name part place ∷ rest) = names_listed (next + 0) rest
names_listed next (OfDeclare declared place ∷ rest) = names_listed (next + 0) rest
names_listed next (OfSpecify specs place ∷ rest) = names_listed (next + 0) rest
