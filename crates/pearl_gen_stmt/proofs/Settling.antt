-- Jumps whose places come later: what stays as they get them.
use Rattle.std.proofs.Common.{◌≡◌, ◌≢◌, ◌⊎◌, inl, inr, ℕ, zero, suc, ◌+◌, ◌<◌, ◌≤◌, List, [], ◌∷◌, ◌++◌, length, Some, None, slice_get, get_or, drop, drop-cons, refl, sym, ap, ◌∙◌, subst, arith, true, false, true≢false, ◌==◌, eqb-true, Result, Ok, Err}
use Rattle.std.specs.Result.{OnOk}
use Rattle.std.proofs.lemmas.List.{length-append}
use Rattle.std.proofs.lemmas.Bool.{cases_eq}
use Rattle.std.proofs.lemmas.Option.{slice_get_read, slice_get-get_or}
use Rattle.std.specs.Prelude.{Contains}
use Rattle.pearl_instructions.specs.declared.instr.Instr.{Instr}
use Rattle.pearl_gen_expr.specs.ExprCode.{Is}
use Rattle.pearl_gen_expr.specs.Emitting.{Extends}
use Rattle.pearl_gen_stmt.specs.Emission.{pending, instr_of, jump_to, Stays}
use Rattle.pearl_gen_stmt.specs.declared.pending.Pending.{Pending}
use Rattle.pearl_gen_stmt.specs.declared.pending.Pending.TheVariants.{Exit, Test, Branch as Behind}

pub within : {X : Type 0} (xs : List X) (k : ℕ) (x : X) → slice_get xs k ≡ Some x → k < length xs
within [] k x is = cc
within (y ∷ xs) zero x is = omega arith
within (y ∷ xs) (suc k) x is = let less = within xs k x is in omega (arith, less)

pub instr_is_pending : (kind : Pending) → pending (instr_of kind) ≡ Some kind
instr_is_pending Exit = refl
instr_is_pending Test = refl
instr_is_pending Behind = refl

pub jump_is_known : (kind : Pending) (to : ℕ) → pending (jump_to kind to) ≢ Some kind
jump_is_known Exit to same = cc
jump_is_known Test to same = cc
jump_is_known Behind to same = cc

-- one instruction stands at a place
instr_known : (code : List Instr) (place : ℕ) (x i : Instr) → Is code place x → Is code place i → pending i ≡ pending x
instr_known code place x i is at =
    let both : Some i ≡ Some x = sym at ∙ is in
    let same : i ≡ x = cc in ap pending same

-- where another sort of instruction stands there is no such jump
pub none_here : (kind : Pending) (code : List Instr) (place : ℕ) (x : Instr) → Is code place x → pending x ≢ Some kind → Is code place (instr_of kind) → ⊥
none_here kind code place x is not at = not (sym (instr_known code place x (instr_of kind) is at) ∙ instr_is_pending kind)

-- once the jump at a place leads somewhere, all else stands still
pub others_stay : (kind : Pending) (old now : List Instr) (place : ℕ) (x : Instr) → Is old place x → pending x ≡ Some kind →
    ((k : ℕ) → k ≢ place → slice_get now k ≡ slice_get old k) → (k : ℕ) (i : Instr) → Is old k i → pending i ≢ Some kind → Is now k i
others_stay kind old now place x here hit elsewhere k i at not = elim (cases_eq k place) [
  | inl same ↦ absurd (not (instr_known old place x i here (subst (λ k. Is old k i) same at) ∙ hit))
  | inr apart ↦ elsewhere k apart ∙ at
]

-- the jumps of this sort that stand at such places lead there, and all else is as it was
pub record IsSettled (kind : Pending) (from to : ℕ) (Done : ℕ → Type 0) (old now : List Instr) : Type 0 where
  pub settled : (k : ℕ) → from ≤ k → Done k → Is old k (instr_of kind) → Is now k (jump_to kind to)
  pub either : (k : ℕ) → Is old k (instr_of kind) → Is now k (instr_of kind) ⊎ Is now k (jump_to kind to)
  pub kept : (k : ℕ) (i : Instr) → Is old k i → pending i ≢ Some kind → Is now k i
  pub before : (k : ℕ) → k < from → slice_get now k ≡ slice_get old k
  pub long : length now ≡ length old

module _ (kind : Pending) (from to : ℕ) (Done : ℕ → Type 0) where
  pub none_settled : (old : List Instr) → ((k : ℕ) → from ≤ k → Done k → ⊥) → IsSettled kind from to Done old old
  none_settled old none = record {
    settled = λ k more done is. absurd (none k more done);
    either = λ k is. inl is;
    kept = λ k i is not. is;
    before = λ k less. refl;
    long = refl;
  }

  module _ (Next : ℕ → Type 0) (old now : List Instr) (before : IsSettled kind from to Done old now) where
    -- no place more
    pub passed_over : ((k : ℕ) → from ≤ k → Next k → Done k) → IsSettled kind from to Next old now
    passed_over same = record {
      settled = λ k more next is. before.settled k more (same k more next) is;
      either = before.either;
      kept = before.kept;
      before = before.before;
      long = before.long;
    }

    -- one place more
    pub led : (place : ℕ) (next : List Instr) → ((k : ℕ) → from ≤ k → Next k → (k ≡ place) ⊎ Done k) → from ≤ place →
        (Is now place (instr_of kind) → Is next place (jump_to kind to)) → ((k : ℕ) (i : Instr) → Is now k i → pending i ≢ Some kind → Is next k i) →
        ((k : ℕ) → k ≢ place → slice_get next k ≡ slice_get now k) → length next ≡ length now → IsSettled kind from to Next old next
    led place next which begin there held elsewhere long =
        let stands : (k : ℕ) → Is now k (jump_to kind to) → Is next k (jump_to kind to) = λ k is. held k (jump_to kind to) is (jump_is_known kind to) in
        let here : (k : ℕ) → k ≡ place → Is now k (instr_of kind) → Is next k (jump_to kind to) = λ k same is.
        subst (λ k. Is next k (jump_to kind to)) (sym same) (there (subst (λ k. Is now k (instr_of kind)) same is)) in
        record {
          settled = λ k more done is. elim (which k more done) [
            | inl same ↦ elim (before.either k is) [
              | inl hole ↦ here k same hole
              | inr jump ↦ stands k jump
            ]
            | inr earlier ↦ stands k (before.settled k more earlier is)
          ];
          either = λ k is. elim (before.either k is) [
            | inl hole ↦ elim (cases_eq k place) [
              | inl same ↦ inr (here k same hole)
              | inr apart ↦ inl (elsewhere k apart ∙ hole)
            ]
            | inr jump ↦ inr (stands k jump)
          ];
          kept = λ k i is not. held k i (before.kept k i is not) not;
          before = λ k less. elsewhere k (λ same. omega (arith, less, same, begin)) ∙ before.before k less;
          long = long ∙ before.long;
        }

-- the places up to an index of a list
abbrev pub UpTo : (places : List ℕ) → (index : ℕ) → ℕ → Type 0
UpTo places index place = (k : ℕ) × (k < index) × (slice_get places k ≡ Some place)

pub all_of : (places : List ℕ) (index place : ℕ) → length places ≤ index → Contains places place → UpTo places index place
all_of places index place past is = (
  is.0,
  omega (arith, past, is.1),
  slice_get_read places (length places) is.0 place refl is.1 (sym is.2),
)

pub one_further : (places : List ℕ) (index place : ℕ) → index < length places → UpTo places (index + 1) place →
    (place ≡ get_or places index 0) ⊎ UpTo places index place
one_further places index place inside at = elim (cases_eq at.0 index) [
  | inl same ↦ inl (
      let here : slice_get places index ≡ Some (get_or places index 0) = slice_get-get_or places index 0 inside in
      let there : Some place ≡ Some (get_or places index 0) = sym (subst (λ k. slice_get places k ≡ Some place) same at.2) ∙ here in cc)
  | inr apart ↦ inr (at.0, (let other = apart in let less = at.1 in omega (arith, less, other)), at.2)
]

pub extends_longer : (old new : List Instr) → Extends old new → length old ≤ length new
extends_longer old new more = let long = ap length more.1 ∙ length-append old more.0 in omega (arith, long)

-- once the pending jump at this place has become another instruction, all else stays
pub stays_then : (old now final : List Instr) (place : ℕ) (hole : Instr) (kind : Pending) → Is old place hole → pending hole ≡ Some kind →
    ((k : ℕ) → k ≢ place → slice_get now k ≡ slice_get old k) → Stays now final → Stays old final
stays_then old now final place hole kind there unknown elsewhere stays k instr is known = elim (cases_eq k place) [
  | inl same ↦
      let here : Some hole ≡ Some instr = sym there ∙ subst (λ k. Is old k instr) same is in
      let equal : hole ≡ instr = cc in
      let both : Some kind ≡ None = sym unknown ∙ (ap pending equal ∙ known) in cc
  | inr apart ↦ stays k instr (elsewhere k apart ∙ is) known
]

-- a list that begins alike
begins_alike : {X : Type 0} (old new : List X) → ((k : ℕ) → k < length old → slice_get new k ≡ slice_get old k) → (more : List X) × (new ≡ old ++ more)
begins_alike [] new same = (new, refl)
begins_alike (x ∷ old) [] same = let none = same zero (omega arith) in cc
begins_alike (x ∷ old) (y ∷ new) same =
    let rest = begins_alike old new (λ k less. same (suc k) (omega (arith, less))) in
    let first : Some y ≡ Some x = same zero (omega arith) in
    let equal : y ≡ x = cc in
    (rest.0, λ i. equal i ∷ rest.1 i)

begun_there : {X : Type 0} (old more : List X) (k : ℕ) → k < length old → slice_get (old ++ more) k ≡ slice_get old k
begun_there [] more k less = absurd (omega (arith, less))
begun_there (x ∷ old) more zero less = refl
begun_there (x ∷ old) more (suc k) less = begun_there old more k (omega (arith, less))

still_there : (old now : List Instr) (k : ℕ) → Extends old now → k < length old → slice_get now k ≡ slice_get old k
still_there old now k kept less = ap (λ code. slice_get code k) kept.1 ∙ begun_there old kept.0 k less

-- what changes behind the old instructions leaves them there
pub extends_by : (old now next : List Instr) (from : ℕ) → Extends old now → length old ≤ from → ((k : ℕ) → k < from → slice_get next k ≡ slice_get now k) → Extends old next
extends_by old now next from kept far same = begins_alike old next (λ k less. same k (omega (arith, less, far)) ∙ still_there old now k kept less)

pub extends_apart : (old now next : List Instr) (place : ℕ) → Extends old now → length old ≤ place → ((k : ℕ) → k ≢ place → slice_get next k ≡ slice_get now k) → Extends old next
extends_apart old now next place kept far same = extends_by old now next place kept far (λ k less. same k (λ at. omega (arith, less, at)))

-- the elements that are left, where one is there
pub one_left : {X : Type 0} (xs : List X) (i : ℕ) (x : X) → i < length xs → x ≡ get_or xs i x → drop i xs ≡ x ∷ drop (i + 1) xs
one_left xs i x inside is =
    let next : suc i ≡ i + 1 = omega arith in
    drop-cons xs i x inside ∙ (ap (λ y. y ∷ drop (suc i) xs) (sym is) ∙ ap (λ i. x ∷ drop i xs) next)

pub some_there : {X : Type 0} (xs : List X) → false ≡ (length xs == 0) → 0 < length xs
some_there [] not = absurd (true≢false (sym not))
some_there (x ∷ xs) not = omega arith

pub none_there : {X : Type 0} (xs : List X) → true ≡ (length xs == 0) → xs ≡ []
none_there [] is = refl
none_there (x ∷ xs) is = let none : length (x ∷ xs) ≡ 0 = eqb-true (length (x ∷ xs)) 0 (sym is) in absurd (omega (arith, none))

pub on_ok : {X E P Q : Type 0} (r : Result X E) → (P → Q) → OnOk r P → OnOk r Q
on_ok (Ok x) f p = f p
on_ok (Err e) f p = p
