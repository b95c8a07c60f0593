-- How the tables of jumps and of stated shapes are made, and what they tell.
use Rattle.std.proofs.Common.{◌≡◌, ◌≢◌, ℕ, zero, suc, ◌+◌, ◌<◌, List, [], ◌∷◌, ◌++◌, Option, Some, None, length, reverse, take, drop, get_or, set, slice_get, slice_set, get_or-set_same, get_or-set_other, length-set, refl, sym, ap, ◌∙◌, arith, Bool, true, false, inl, inr, ne_eqb, eq-eqb}
use Rattle.std.specs.Prelude.{◌||◌, ◌==◌, option_map, MatchOption, if◌then◌else◌}
use Rattle.std.specs.List.{list_any}
use Rattle.std.proofs.lemmas.Bool.{cases_eq}
use Rattle.std.proofs.lemmas.List.{drop_more}
use Rattle.std.proofs.lemmas.List.Folds.{list_any-append}
use Rattle.std.proofs.lemmas.Grind.{take_at_read}
use Rattle.std.proofs.Math.Seq.{drop-length}
use Rattle.std.proofs.lemmas.Option.{slice_get-get_or, slice_get_within, get_or_from_slice_get, slice_get_read, same_Some}
use Rattle.pearl_instructions.specs.declared.instr.Instr.{Instr}
use Rattle.pearl_instructions.specs.declared.object.Shape.{Shape as Stated}
use Rattle.pearl_instructions.specs.Valid.{is_named, stated, targets}
use Rattle.pearl_instructions.specs.declared.object.Code.{Code}
use Rattle.pearl_instructions.specs.Operands.{Shape}
use Rattle.pearl_verify.specs.Numbers.{Edges, number_of, Grows}
use Rattle.pearl_verify.specs.Jumps.{shape_of, marked, AreStated, AreNumbered, IsStatedNumber}
use Rattle.pearl_verify.proofs.Numbering.{still_numbered}

or_false : (b : Bool) → b || false ≡ b
or_false true = refl
or_false false = refl

or_true : (b : Bool) → b || true ≡ true
or_true true = refl
or_true false = refl

or_more : (a b c : Bool) → (a || b) || c ≡ a || (b || c)
or_more true b c = refl
or_more false b c = refl

-- one element anew
pub set_same : {A : Type 0} (xs : List A) (i : ℕ) (x : A) → i < length xs → slice_get (slice_set xs i x) i ≡ Some x
set_same xs i x less =
    slice_get-get_or (set xs i x) i x (omega (arith, less, length-set xs i x)) ∙ ap Some (get_or-set_same xs i x x less)

pub set_other : {A : Type 0} (xs : List A) (n i : ℕ) (x y : A) → i ≢ n → slice_get xs i ≡ Some y → slice_get (slice_set xs n x) i ≡ Some y
set_other xs n i x y other e =
    let less : i < length xs = slice_get_within xs i y e in
    slice_get-get_or (set xs n x) i y (omega (arith, less, length-set xs n x))
    ∙ ap Some (get_or-set_other xs n i x y other ∙ get_or_from_slice_get xs i y y e)

mark_at : (marks : List Bool) (n i : ℕ) (b : Bool) → slice_get marks i ≡ Some b → slice_get (slice_set marks n true) i ≡ Some (b || (n == i))
mark_at marks n i b e = elim (cases_eq n i) [
  | inl same ↦ (let here : slice_get (slice_set marks n true) i ≡ Some true =
      ap (λ k. slice_get (slice_set marks k true) i) same ∙ set_same marks i true (slice_get_within marks i b e) in
      here ∙ sym (ap (λ c. Some (b || c)) (eq-eqb n i same) ∙ ap Some (or_true b)))
  | inr other ↦ set_other marks n i true b (λ s. other (sym s)) e ∙ sym (ap (λ c. Some (b || c)) (ne_eqb n i other) ∙ ap Some (or_false b))
]

marked_at : (ns : List ℕ) (marks : List Bool) (i : ℕ) (b : Bool) → slice_get marks i ≡ Some b → slice_get (marked ns marks) i ≡ Some (b || list_any (λ t. t == i) ns)
marked_at [] marks i b e = e ∙ sym (ap Some (or_false b))
marked_at (n ∷ ns) marks i b e =
    marked_at ns (slice_set marks n true) i (b || (n == i)) (mark_at marks n i b e) ∙ ap Some (or_more b (n == i) (list_any (λ t. t == i) ns))

pub marked_long : (ns : List ℕ) (marks : List Bool) → length (marked ns marks) ≡ length marks
marked_long [] marks = refl
marked_long (n ∷ ns) marks = marked_long ns (slice_set marks n true) ∙ length-set marks n true

named_take : (is : List Instr) (k : ℕ) (x : Instr) (i : ℕ) → k < length is → x ≡ get_or is k x →
    is_named (take (k + 1) is) i ≡ is_named (take k is) i || list_any (λ t. t == i) (targets x)
named_take is k x i less e =
    ap (λ xs. is_named xs i) ((take_at_read is k x less).1 ∙ ap (λ y. take k is ++ y ∷ []) (sym e))
    ∙ list_any-append (λ instr. list_any (λ t. t == i) (targets instr)) (take k is) (x ∷ [])
    ∙ ap (λ b. is_named (take k is) i || b) (or_false (list_any (λ t. t == i) (targets x)))

pub named_more : (is : List Instr) (k : ℕ) (x : Instr) (marks : List Bool) → k < length is → x ≡ get_or is k x →
    ((i : ℕ) → i < length is → slice_get marks i ≡ Some (is_named (take k is) i)) →
    (i : ℕ) → i < length is → slice_get (marked (targets x) marks) i ≡ Some (is_named (take (k + 1) is) i)
named_more is k x marks less e before i within =
    marked_at (targets x) marks i (is_named (take k is) i) (before i within) ∙ ap Some (sym (named_take is k x i less e))

-- the stated shapes from one further shape on
stated_step : (ss : List Stated) (n i : ℕ) (s : Stated) → n < length ss → s ≡ get_or ss n s →
    stated (drop n ss) i ≡ (if s.instruction == i then Some (reverse s.kinds) else stated (drop (n + 1) ss) i)
stated_step ss n i s less e = ap (λ xs. stated xs i) (drop_more ss n s less ∙ ap (λ z. z ∷ drop (n + 1) ss) (sym e))

pub stated_more : (ss : List Stated) (numbers : List (Option ℕ)) (n : ℕ) (s : Stated) → n < length ss → s ≡ get_or ss n s →
    ((i : ℕ) → i < length numbers → option_map (shape_of ss) (slice_get numbers i) ≡ Some (stated (drop (n + 1) ss) i)) →
    (i : ℕ) → i < length numbers → option_map (shape_of ss) (slice_get (slice_set numbers s.instruction (Some n)) i) ≡ Some (stated (drop n ss) i)
stated_more ss numbers n s less e before i within = elim (cases_eq s.instruction i) [
  | inl same ↦ (let slot : slice_get (slice_set numbers s.instruction (Some n)) i ≡ Some (Some n) =
      ap (λ k. slice_get (slice_set numbers k (Some n)) i) same ∙ set_same numbers i (Some n) within in
      let at : slice_get ss n ≡ Some s = slice_get_read ss (length ss) n s refl less e in
      let told : option_map (shape_of ss) (slice_get (slice_set numbers s.instruction (Some n)) i) ≡ Some (Some (reverse s.kinds)) =
      ap (option_map (shape_of ss)) slot ∙ ap (λ o. Some (option_map (λ s. reverse s.kinds) o)) at in
      told ∙ sym (ap Some (stated_step ss n i s less e ∙ ap (λ b. if b then Some (reverse s.kinds) else stated (drop (n + 1) ss) i) (eq-eqb s.instruction i same))))
  | inr other ↦ (let y : Option ℕ = get_or numbers i None in
      let was : slice_get numbers i ≡ Some y = slice_get-get_or numbers i None within in
      let slot : slice_get (slice_set numbers s.instruction (Some n)) i ≡ slice_get numbers i =
      set_other numbers s.instruction i (Some n) y (λ t. other (sym t)) was ∙ sym was in
      ap (option_map (shape_of ss)) slot ∙ before i within
      ∙ sym (ap Some (stated_step ss n i s less e ∙ ap (λ b. if b then Some (reverse s.kinds) else stated (drop (n + 1) ss) i) (ne_eqb s.instruction i other))))
]

-- before any shape is noted
pub stated_begun : (count : ℕ) (ss : List Stated) (numbers : List (Option ℕ)) → ((i : ℕ) → i < count → slice_get numbers i ≡ Some None) →
    (i : ℕ) → i < count → option_map (shape_of ss) (slice_get numbers i) ≡ Some (stated (drop (length ss) ss) i)
stated_begun count ss numbers none i less =
    ap (option_map (shape_of ss)) (none i less) ∙ sym (ap (λ s. Some (stated s i)) (drop-length ss))

-- the numbers of the stated shapes
pub numbers_more : (edges : Edges) (ss : List Stated) (ns : List ℕ) (s : Stated) (n : ℕ) → AreNumbered edges ss ns → number_of edges (reverse s.kinds) ≡ Some n →
    AreNumbered edges (ss ++ s ∷ []) (ns ++ n ∷ [])
numbers_more edges [] [] s n h e = (e, tt)
numbers_more edges (a ∷ ss) (b ∷ ns) s n h e = (h.0, numbers_more edges ss ns s n h.1 e)
numbers_more edges [] (b ∷ ns) s n h e = absurd h
numbers_more edges (a ∷ ss) [] s n h e = absurd h

pub numbers_stay : (m n : Edges) (ss : List Stated) (ns : List ℕ) → Grows m n → AreNumbered m ss ns → AreNumbered n ss ns
numbers_stay m n [] [] grows h = tt
numbers_stay m n (a ∷ ss) (b ∷ ns) grows h = (still_numbered m n (reverse a.kinds) b grows h.0, numbers_stay m n ss ns grows h.1)
numbers_stay m n [] (b ∷ ns) grows h = absurd h
numbers_stay m n (a ∷ ss) [] grows h = absurd h

numbered_at : (edges : Edges) (ss : List Stated) (ns : List ℕ) (j : ℕ) (found : Option Shape) → AreNumbered edges ss ns →
    option_map (λ (s : Stated). reverse s.kinds) (slice_get ss j) ≡ found →
    MatchOption (slice_get ns j) (found ≡ None) (λ n. (s : Shape) × (found ≡ Some s) × (number_of edges s ≡ Some n))
numbered_at edges [] [] zero found h e = sym e
numbered_at edges [] [] (suc j) found h e = sym e
numbered_at edges (s ∷ ss) (n ∷ ns) zero found h e = (reverse s.kinds, sym e, h.0)
numbered_at edges (s ∷ ss) (n ∷ ns) (suc j) found h e = numbered_at edges ss ns j found h.1 e
numbered_at edges [] (n ∷ ns) j found h e = absurd h
numbered_at edges (s ∷ ss) [] j found h e = absurd h

pub stated_number : (edges : Edges) (code : Code) (shapes : List (Option ℕ)) (ns : List ℕ) (i shape : ℕ) → AreStated (length code.instructions) code.shapes shapes →
    AreNumbered edges code.shapes ns → i < length code.instructions → slice_get shapes i ≡ Some (Some shape) →
    MatchOption (slice_get ns shape) (stated code.shapes i ≡ None) (IsStatedNumber edges code i)
stated_number edges code shapes ns i shape are numbered less at =
    numbered_at edges code.shapes ns shape (stated code.shapes i) numbered
    (same_Some _ _ (sym (ap (option_map (shape_of code.shapes)) at) ∙ are.stated i less))

pub none_stated : (code : Code) (shapes : List (Option ℕ)) (i : ℕ) → AreStated (length code.instructions) code.shapes shapes → i < length code.instructions →
    slice_get shapes i ≡ Some None → stated code.shapes i ≡ None
none_stated code shapes i are less at = sym (same_Some _ _ (sym (ap (option_map (shape_of code.shapes)) at) ∙ are.stated i less))
