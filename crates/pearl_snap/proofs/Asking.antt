-- What frames ask of the shapes before their places, and what it comes to.
use Rattle.std.proofs.Common.{◌≡◌, ℕ, suc, ◌+◌, ◌<◌, Bool, true, false, List, [], ◌∷◌, ◌++◌, length, drop, get_or, Some, None, refl, sym, ap, subst, ◌∙◌, arith, add-one, drop-cons}
use Rattle.std.specs.Prelude.{◌↔◌, nat_lt, if◌then◌else◌, map, reverse, slice_get}
use Rattle.std.proofs.lemmas.Bool.{ltb-true, lt-ltb}
use Rattle.std.proofs.lemmas.List.{reverse-append, reverse-reverse, map-append}
use Rattle.std.proofs.lemmas.List.Elements.{All-from_recursion, recursion_from_All}
use Rattle.std.proofs.lemmas.List.Sorted.{All-permutation, IsPermutation-sym}
use Rattle.std.proofs.lemmas.Option.{slice_get_within}
use Rattle.std.proofs.Math.ListN.{drop_of_length-le}
use Rattle.std.specs.Prelude.{IsPermutation, IsTrue}
use Rattle.std.specs.List.{AllByRecursion}
use Rattle.pearl_value.specs.declared.kind.CellKind.{CellKind}
use Rattle.pearl_instructions.specs.declared.instr.Instr.TheVariants.{Call}
use Rattle.pearl_instructions.specs.declared.object.Code.{Code}
use Rattle.pearl_instructions.specs.declared.object.Procedure.{Procedure}
use Rattle.pearl_instructions.specs.declared.object.Parts.{Parts as Object}
use Rattle.pearl_instructions.specs.Objects.{routine_at}
use Rattle.pearl_instructions.specs.Valid.{shape_before}
use Rattle.pearl_verify.specs.Shapes.{shape_in, shape_at}
use Rattle.pearl_records.specs.declared.record.TaskRecord.{TaskRecord}
use Rattle.pearl_saved.specs.declared.saved.SavedCell.{SavedCell}
use Rattle.pearl_saved.specs.declared.saved.FrameRecord.{FrameRecord}
use Rattle.pearl_snap.specs.declared.stack_rule.Asked.{Asked}
use Rattle.pearl_saved.specs.Rules.{kind_held, AreOf, HoldsHeld, IsAtPlace, IsAtCall, IsStackOf, HasStack, HasStacks}
use Rattle.pearl_snap.specs.Asking.{HasShape, IsMet, AreMet, Asks}

-- ---- lists of kinds that lie the other way round

map_reversed : {X Y : Type 0} (f : X → Y) (xs : List X) → map f (reverse xs) ≡ reverse (map f xs)
map_reversed f [] = refl
map_reversed f (x ∷ xs) =
    ap (map f) (reverse-append (x ∷ []) xs) ∙ map-append f (reverse xs) (x ∷ []) ∙ ap (λ ys. ys ++ f x ∷ []) (map_reversed f xs)
    ∙ sym (reverse-append (f x ∷ []) (map f xs))

reversed_of : (kinds : List CellKind) (cells : List SavedCell) → AreOf kinds cells → AreOf (reverse kinds) (reverse cells)
reversed_of kinds cells h = map_reversed kind_held cells ∙ ap reverse h ∙ sym (map_reversed Some kinds)

pub turned : (kinds : List CellKind) (cells : List SavedCell) → AreOf (reverse kinds) cells ↔ AreOf kinds (reverse cells)
turned kinds cells = (
  λ h. subst (λ ks. AreOf ks (reverse cells)) (reverse-reverse kinds) (reversed_of (reverse kinds) cells h),
  λ h. subst (AreOf (reverse kinds)) (reverse-reverse cells) (reversed_of kinds (reverse cells) h),
)

-- those from here on have their kinds exactly if all have
pub record Left (kinds : List CellKind) (cells : List SavedCell) (i : ℕ) : Type 0 where
  pub back : AreOf (drop i kinds) (drop i cells) → AreOf kinds cells
  pub left : AreOf kinds cells → AreOf (drop i kinds) (drop i cells)

-- ---- one frame

inside : (b : Bool) (shape : List CellKind) (n : ℕ) (f : FrameRecord) → HasShape (if b then Some shape else None) n f → (b ≡ true) × AreOf (drop n shape) (reverse f.operands)
inside true shape n f h = (refl, h)
inside false shape n f h = absurd h

module _ (o : Object) (f : FrameRecord) (code : Code) (is : routine_at o f.routine ≡ Some code) (n : ℕ) where
  abbrev shape : List CellKind
  shape = shape_before o f.routine code f.place

  found : HasShape (shape_at o f.routine f.place) n f → (f.place < length code.instructions) × AreOf (drop n shape) (reverse f.operands)
  found h =
      let r = inside (nat_lt f.place (length code.instructions)) shape n f (subst (λ c. HasShape (shape_in o f.routine f.place c) n f) is h) in
      (ltb-true f.place (length code.instructions) r.0, r.1)

  lies : f.place < length code.instructions → AreOf (drop n shape) (reverse f.operands) → HasShape (shape_at o f.routine f.place) n f
  lies less h =
      subst (λ c. HasShape (shape_in o f.routine f.place c) n f) (sym is)
      (subst (λ b. HasShape (if b then Some shape else None) n f) (sym (lt-ltb f.place (length code.instructions) less)) h)

pub top_asks : (o : Object) (f : FrameRecord) (code : Code) → routine_at o f.routine ≡ Some code → AreOf code.cells f.cells → HoldsHeld f
    → HasShape (shape_at o f.routine f.place) 0 f ↔ IsAtPlace o f
top_asks o f code is cells held = (
  λ h. let r = found o f code is 0 h in record { code = code; routine = is; place = r.0; stands = record { cells = cells; operands = r.1; values = held } },
  λ p. lies o f p.code p.routine 0 p.place p.stands.operands,
)

pub call_asks : (o : Object) (p : ℕ) (f : FrameRecord) (code : Code) (callee : Procedure) → routine_at o f.routine ≡ Some code
    → slice_get code.instructions f.place ≡ Some (Call p) → slice_get o.procedures p ≡ Some callee → AreOf code.cells f.cells → HoldsHeld f
    → HasShape (shape_at o f.routine f.place) callee.params f ↔ IsAtCall o p f
call_asks o p f code callee is at called cells held = (
  λ h. record { code = code; routine = is; place = at; callee = callee; called = called; stands = record { cells = cells; operands = (found o f code is callee.params h).1; values = held } },
  λ q.
      let same : q.callee ≡ callee = (let two : Some q.callee ≡ Some callee = sym q.called ∙ called in cc) in
      subst (λ c. HasShape (shape_at o f.routine f.place) c.params f) same
      (lies o f q.code q.routine q.callee.params (slice_get_within q.code.instructions f.place (Call p) q.place) q.stands.operands),
)

-- a frame of no routine, or with other cells, stands nowhere
pub no_place : (o : Object) (f : FrameRecord) → routine_at o f.routine ≡ None → IsAtPlace o f → ⊥
no_place o f none p = let bad : None ≡ Some p.code = sym none ∙ p.routine in cc

pub no_call : (o : Object) (p : ℕ) (f : FrameRecord) → routine_at o f.routine ≡ None → IsAtCall o p f → ⊥
no_call o p f none q = let bad : None ≡ Some q.code = sym none ∙ q.routine in cc

pub place_cells : (o : Object) (f : FrameRecord) (code : Code) → routine_at o f.routine ≡ Some code → IsAtPlace o f → AreOf code.cells f.cells
place_cells o f code is p =
    let same : p.code ≡ code = (let two : Some p.code ≡ Some code = sym p.routine ∙ is in cc) in
    subst (λ c. AreOf c.cells f.cells) same p.stands.cells

pub call_cells : (o : Object) (p : ℕ) (f : FrameRecord) (code : Code) → routine_at o f.routine ≡ Some code → IsAtCall o p f → AreOf code.cells f.cells
call_cells o p f code is q =
    let same : q.code ≡ code = (let two : Some q.code ≡ Some code = sym q.routine ∙ is in cc) in
    subst (λ c. AreOf c.cells f.cells) same q.stands.cells

pub call_place : (o : Object) (p : ℕ) (f : FrameRecord) (code : Code) → routine_at o f.routine ≡ Some code → IsAtCall o p f → slice_get code.instructions f.place ≡ Some (Call p)
call_place o p f code is q =
    let same : q.code ≡ code = (let two : Some q.code ≡ Some code = sym q.routine ∙ is in cc) in
    subst (λ c. slice_get c.instructions f.place ≡ Some (Call p)) same q.place

-- ---- what is asked for grows

pushed : {X : Type 0} (P : X → Type 0) (xs : List X) (x : X) → AllByRecursion P (xs ++ x ∷ []) ↔ (AllByRecursion P xs × P x)
pushed P [] x = (λ h. (tt, h.0), λ h. (h.1, tt))
pushed P (y ∷ xs) x =
    let r = pushed P xs x in
    (λ h. (let s = r.0 h.1 in ((h.0, s.0), s.1)), λ h. (h.0.0, r.1 (h.0.1, h.1)))

pub asks_one : (o : Object) (old new : List Asked) (a : Asked) (fact : Type 0) → new ≡ old ++ a ∷ [] → (IsMet o a ↔ fact) → Asks o old new fact true
asks_one o old new a fact is same =
    let r = pushed (IsMet o) old a in (
      λ h. (let s = r.0 (subst (AreMet o) is h) in (s.0, same.0 s.1)),
      λ h. subst (AreMet o) (sym is) (r.1 (h.0, same.1 h.1)),
    )

-- nothing is asked for
pub asks_none : (o : Object) (old : List Asked) (fact : Type 0) (b : Bool) → ((b ≡ true) ↔ fact) → Asks o old old fact b
asks_none o old fact true same = (λ h. (h, same.0 refl), λ h. h.0)
asks_none o old fact false same = λ h. let bad : false ≡ true = same.1 h in cc

pub asks_same : (o : Object) (old new : List Asked) (fact other : Type 0) → (fact ↔ other) → (b : Bool) → Asks o old new fact b → Asks o old new other b
asks_same o old new fact other same true h = (λ met. (let r = h.0 met in (r.0, same.0 r.1)), λ r. h.1 (r.0, same.1 r.1))
asks_same o old new fact other same false h = λ x. h (same.1 x)

-- ---- frame by frame

-- from this frame on a stack of the wanted routine is left
pub record Climbs (o : Object) (old now : List Asked) (routine wanted : ℕ) (frames rest : List FrameRecord) : Type 0 where
  pub back : AreMet o now → IsStackOf o wanted rest → AreMet o old × IsStackOf o routine frames
  pub forth : AreMet o old → IsStackOf o routine frames → AreMet o now
  pub left : IsStackOf o routine frames → IsStackOf o wanted rest

pub climbs_here : (o : Object) (old : List Asked) (routine : ℕ) (frames : List FrameRecord) → Climbs o old old routine routine frames frames
climbs_here o old routine frames = record { back = λ met is. (met, is); forth = λ met is. met; left = λ is. is }

-- the frame is called another one
pub other_routine : (o : Object) (wanted : ℕ) (f : FrameRecord) (rest : List FrameRecord) → (f.routine ≡ wanted → ⊥) → IsStackOf o wanted (f ∷ rest) → ⊥
other_routine o wanted f [] other h = other h.0
other_routine o wanted f (above ∷ more) other h = other h.0

pub at_the_top : (o : Object) (old now new : List Asked) (routine wanted : ℕ) (frames : List FrameRecord) (f : FrameRecord) (b : Bool) → f.routine ≡ wanted
    → Climbs o old now routine wanted frames (f ∷ []) → Asks o now new (IsAtPlace o f) b → Asks o old new (IsStackOf o routine frames) b
at_the_top o old now new routine wanted frames f true is c asks = (
  λ met. (let r = asks.0 met in c.back r.0 (is, r.1)),
  λ r. asks.1 (c.forth r.0 r.1, (c.left r.1).1),
)
at_the_top o old now new routine wanted frames f false is c asks = λ h. asks (c.left h).1

pub not_called : (o : Object) (old now new : List Asked) (routine wanted : ℕ) (frames : List FrameRecord) (f above : FrameRecord) (more : List FrameRecord)
    → Climbs o old now routine wanted frames (f ∷ above ∷ more) → (IsAtCall o above.routine f → ⊥) → IsStackOf o routine frames → ⊥
not_called o old now new routine wanted frames f above more c none h = none (c.left h).1

climbs_over : (o : Object) (old now new : List Asked) (routine wanted : ℕ) (frames : List FrameRecord) (f above : FrameRecord) (more : List FrameRecord) → f.routine ≡ wanted
    → Climbs o old now routine wanted frames (f ∷ above ∷ more) → Asks o now new (IsAtCall o above.routine f) true → Climbs o old new routine above.routine frames (above ∷ more)
climbs_over o old now new routine wanted frames f above more is c asks = record {
  back = λ met rest. (let r = asks.0 met in c.back r.0 (is, r.1, rest));
  forth = λ met h. asks.1 (c.forth met h, (c.left h).1);
  left = λ h. (c.left h).2;
}

cut_at : {X : Type 0} (xs : List X) (i : ℕ) (x : X) → i < length xs → x ≡ get_or xs i x → drop i xs ≡ x ∷ drop (i + 1) xs
cut_at xs i x less is = rw (add-one, drop-cons xs i x less) (ap (λ z. z ∷ drop (suc i) xs) (sym is))

module _ (o : Object) (old now new : List Asked) (routine wanted : ℕ) (frames : List FrameRecord) (at : ℕ) (f : FrameRecord) (less : at < length frames) (is : f ≡ get_or frames at f) (of : f.routine ≡ wanted) (c : Climbs o old now routine wanted frames (drop at frames)) where
  pub climbs_on : (above : FrameRecord) → at + 1 < length frames → above ≡ get_or frames (at + 1) above
      → Asks o now new (IsAtCall o (get_or frames (at + 1) above).routine f) true → Climbs o old new routine (get_or frames (at + 1) above).routine frames (drop (at + 1) frames)
  climbs_on above more there asks =
      let behind = cut_at frames (at + 1) above more there in
      let here = subst (Climbs o old now routine wanted frames) (cut_at frames at f less is ∙ ap (λ z. f ∷ z) behind) c in
      let over = climbs_over o old now new routine wanted frames f above (drop (at + 1 + 1) frames) of here (subst (λ a. Asks o now new (IsAtCall o a.routine f) true) (sym there) asks) in
      subst (λ a. Climbs o old new routine a.routine frames (drop (at + 1) frames)) there (subst (Climbs o old new routine above.routine frames) (sym behind) over)

  pub climbs_up : at + 1 ≡ length frames → (b : Bool) → Asks o now new (IsAtPlace o f) b → Asks o old new (IsStackOf o routine frames) b
  climbs_up end b asks =
      let none : drop (at + 1) frames ≡ [] = drop_of_length-le frames (omega (arith, end)) in
      at_the_top o old now new routine wanted frames f b of (subst (Climbs o old now routine wanted frames) (cut_at frames at f less is ∙ ap (λ z. f ∷ z) none) c) asks

-- ---- task by task

pub record Goes (o : Object) (old now : List Asked) (rows : List TaskRecord) (stacks : List (List FrameRecord)) (task : ℕ) : Type 0 where
  pub back : AreMet o now → HasStacks o task (drop task rows) (drop task stacks) → AreMet o old × HasStacks o 0 rows stacks
  pub forth : AreMet o old → HasStacks o 0 rows stacks → AreMet o now
  pub left : HasStacks o 0 rows stacks → HasStacks o task (drop task rows) (drop task stacks)

pub goes_here : (o : Object) (old : List Asked) (rows : List TaskRecord) (stacks : List (List FrameRecord)) → Goes o old old rows stacks 0
goes_here o old rows stacks = record { back = λ met is. (met, is); forth = λ met is. met; left = λ is. is }

as_many : (o : Object) (task : ℕ) (rows : List TaskRecord) (stacks : List (List FrameRecord)) → HasStacks o task rows stacks → length rows ≡ length stacks
as_many o task [] [] h = refl
as_many o task [] (frames ∷ stacks) h = absurd h
as_many o task (row ∷ rows) [] h = absurd h
as_many o task (row ∷ rows) (frames ∷ stacks) h = ap suc (as_many o (task + 1) rows stacks h.1)

pub too_many : (o : Object) (rows : List TaskRecord) (stacks : List (List FrameRecord)) → (length rows ≡ length stacks → ⊥) → HasStacks o 0 rows stacks → ⊥
too_many o rows stacks other h = other (as_many o 0 rows stacks h)

module _ (o : Object) (old now : List Asked) (rows : List TaskRecord) (stacks : List (List FrameRecord)) (task : ℕ) (row : TaskRecord) (frames : List FrameRecord) (row_less : task < length rows) (row_is : row ≡ get_or rows task row) (less : task < length stacks) (is : frames ≡ get_or stacks task frames) where
  row_cut : drop task rows ≡ row ∷ drop (task + 1) rows
  row_cut = rw (add-one, drop-cons rows task row row_less) (ap (λ z. z ∷ drop (suc task) rows) (sym row_is))

  stack_cut : drop task stacks ≡ frames ∷ drop (task + 1) stacks
  stack_cut = rw (add-one, drop-cons stacks task frames less) (ap (λ z. z ∷ drop (suc task) stacks) (sym is))

  here : HasStacks o task (drop task rows) (drop task stacks) → HasStack o task row.standing frames × HasStacks o (task + 1) (drop (task + 1) rows) (drop (task + 1) stacks)
  here h = subst (λ ss. HasStacks o task (row ∷ drop (task + 1) rows) ss) stack_cut (subst (λ rs. HasStacks o task rs (drop task stacks)) row_cut h)

  there : HasStack o task row.standing frames × HasStacks o (task + 1) (drop (task + 1) rows) (drop (task + 1) stacks) → HasStacks o task (drop task rows) (drop task stacks)
  there h = subst (λ rs. HasStacks o task rs (drop task stacks)) (sym row_cut) (subst (λ ss. HasStacks o task (row ∷ drop (task + 1) rows) ss) (sym stack_cut) h)

  pub goes_on : (new : List Asked) → Goes o old now rows stacks task → Asks o now new (HasStack o task row.standing frames) true → Goes o old new rows stacks (task + 1)
  goes_on new g asks = record {
    back = λ met rest. (let r = asks.0 met in g.back r.0 (there (r.1, rest)));
    forth = λ met h. asks.1 (g.forth met h, (here (g.left h)).0);
    left = λ h. (here (g.left h)).1;
  }

  pub goes_wrong : (new : List Asked) → Goes o old now rows stacks task → Asks o now new (HasStack o task row.standing frames) false → HasStacks o 0 rows stacks → ⊥
  goes_wrong new g none h = none (here (g.left h)).0

none_left : (o : Object) (task : ℕ) → HasStacks o task [] []
none_left o task = tt

pub goes_through : (o : Object) (old new : List Asked) (rows : List TaskRecord) (stacks : List (List FrameRecord)) (task : ℕ) → drop task rows ≡ [] → drop task stacks ≡ []
    → Goes o old new rows stacks task → Asks o old new (HasStacks o 0 rows stacks) true
goes_through o old new rows stacks task e f g = (
  λ met. g.back met (subst (λ rs. HasStacks o task rs (drop task stacks)) (sym e) (subst (HasStacks o task []) (sym f) tt)),
  λ r. g.forth r.0 r.1,
)

-- ---- in another order

pub met_moved : (o : Object) (xs ys : List Asked) → IsPermutation xs ys → AreMet o xs ↔ AreMet o ys
met_moved o xs ys moved = (
  λ h. recursion_from_All (IsMet o) ys (All-permutation (IsMet o) xs ys moved (All-from_recursion (IsMet o) xs h)),
  λ h. recursion_from_All (IsMet o) xs (All-permutation (IsMet o) ys xs (IsPermutation-sym xs ys moved) (All-from_recursion (IsMet o) ys h)),
)

-- ---- what was looked up

pub met_by : (o : Object) (f : FrameRecord) (n : ℕ) (before : List CellKind) (is_there : Bool) (kinds : List CellKind) (cells : List SavedCell) (told : Bool)
    → shape_at o f.routine f.place ≡ (if is_there then Some before else None) → is_there ≡ true → kinds ≡ reverse (drop n before) → cells ≡ f.operands
    → (IsTrue told ↔ AreOf kinds cells) → IsTrue told ↔ HasShape (shape_at o f.routine f.place) n f
met_by o f n before is_there kinds cells told at so turned_kinds are is =
    let e : shape_at o f.routine f.place ≡ Some before = at ∙ ap (λ b. if b then Some before else None) so in
    let same = turned (drop n before) f.operands in (
      λ t. subst (λ s. HasShape s n f) (sym e) (same.0 (subst (λ ks. AreOf ks f.operands) turned_kinds (subst (AreOf kinds) are (is.0 t)))),
      λ h. is.1 (subst (AreOf kinds) (sym are) (subst (λ ks. AreOf ks f.operands) (sym turned_kinds) (same.1 (subst (λ s. HasShape s n f) e h)))),
    )

pub told_stacks : (o : Object) (none asked sorted : List Asked) (rows : List TaskRecord) (stacks : List (List FrameRecord)) (b : Bool) → none ≡ [] → Asks o none asked (HasStacks o 0 rows stacks) b → b ≡ true
    → IsPermutation asked sorted → (met : Bool) → (IsTrue met ↔ AreMet o sorted) → IsTrue met ↔ HasStacks o 0 rows stacks
told_stacks o none asked sorted rows stacks b empty asks so moved met is =
    let all = subst (Asks o none asked (HasStacks o 0 rows stacks)) so asks in
    let same = met_moved o asked sorted moved in (
      λ t. (all.0 (same.1 (is.0 t))).1,
      λ h. is.1 (same.0 (all.1 (subst (AreMet o) (sym empty) tt, h))),
    )
