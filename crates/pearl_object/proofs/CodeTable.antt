-- Rows whose opcodes rise have one for each opcode, and instructions have the operands of their opcode's letters.
use Rattle.std.proofs.Common.{◌≡◌, ℕ, zero, suc, ◌<◌, ◌≤◌, true, List, [], ◌∷◌, length, take, ◌⊎◌, inl, inr, refl, sym, ap, ◌∙◌, arith}
use Rattle.std.specs.List.{All, Contains}
use Rattle.std.proofs.lemmas.Bool.{ltb-true}
use Rattle.std.proofs.lemmas.List.{take_all}
use Rattle.std.proofs.lemmas.List.Elements.{All-nil, All-cons, All-contains, All-weaker, All-same}
use Rattle.pearl_value.specs.declared.operator.Monad.TheVariants.{Plus, Minus, Abs, Sign, Not}
use Rattle.pearl_value.specs.declared.operator.Dyad.TheVariants.{Pow, Mul, Div, Rem, Cat, Add, Sub, Cshift, Shift, Lt, Gt, Le, Ge, Eq, Ne, And, Or, Exor}
use Rattle.pearl_instructions.specs.declared.instr.Instr.{Instr}
use Rattle.pearl_instructions.specs.declared.instr.Instr.TheVariants.{Monadic, Dyadic}
use Rattle.pearl_object.specs.declared.table.CodeRow.{CodeRow}
use Rattle.pearl_object.specs.CodeRows.{letters, HasItsForm, rises, rises_from}
use Rattle.pearl_object.proofs.Ranges.{both_true}

all_after : (r : CodeRow) (rows : List CodeRow) → rises_from r rows ≡ true → All (λ (s : CodeRow). r.opcode < s.opcode) rows
all_after r [] h = All-nil (λ (s : CodeRow). r.opcode < s.opcode)
all_after r (s ∷ rows) h =
    let both = both_true _ (rises_from s rows) h in
    let next = ltb-true r.opcode s.opcode both.0 in
    All-cons (λ (s : CodeRow). r.opcode < s.opcode) s rows next (All-weaker (λ (t : CodeRow). s.opcode < t.opcode) (λ (t : CodeRow). r.opcode < t.opcode) (λ t e. omega (arith, next, e)) rows (all_after s rows both.1))

rises_rest : (r : CodeRow) (rows : List CodeRow) → rises_from r rows ≡ true → rises rows ≡ true
rises_rest r [] h = refl
rises_rest r (s ∷ rows) h = (both_true _ (rises_from s rows) h).1

Contains-cases : (r : CodeRow) (rows : List CodeRow) (x : CodeRow) → Contains (r ∷ rows) x → (r ≡ x) ⊎ Contains rows x
Contains-cases r rows x (zero, in_list, e) = inl e
Contains-cases r rows x (suc k, in_list, e) = inr (k, omega arith, e)

pub one_row : (rows : List CodeRow) → rises rows ≡ true → (a b : CodeRow) → a.opcode ≡ b.opcode → Contains rows a → Contains rows b → a ≡ b
one_row [] h a b same in_a in_b = absurd (omega (arith, in_a.1))
one_row (r ∷ rows) h a b same in_a in_b =
    let after = all_after r rows h in
    elim (Contains-cases r rows a in_a) as (λ _. a ≡ b) [
      | inl r_is_a ↦ elim (Contains-cases r rows b in_b) as (λ _. a ≡ b) [
        | inl r_is_b ↦ sym r_is_a ∙ r_is_b
        | inr b_after ↦ absurd (omega (arith, same, ap (λ (x : CodeRow). x.opcode) r_is_a, All-contains (λ (s : CodeRow). r.opcode < s.opcode) rows b after b_after))
      ]
      | inr a_after ↦ elim (Contains-cases r rows b in_b) as (λ _. a ≡ b) [
        | inl r_is_b ↦ absurd (omega (arith, same, ap (λ (x : CodeRow). x.opcode) r_is_b, All-contains (λ (s : CodeRow). r.opcode < s.opcode) rows a after a_after))
        | inr b_after ↦ one_row rows (rises_rest r rows h) a b same a_after b_after
      ]
    ]

pub All-passed : (P : CodeRow → Type 0) (rows : List CodeRow) (i : ℕ) → length rows ≤ i → All P (take i rows) → All P rows
All-passed P rows i h all = All-same P rows (take i rows) (sym (take_all i rows h)) all

pub has_its_form : (i : Instr) → HasItsForm i
unfolding letters
has_its_form (Monadic Plus) = refl
has_its_form (Monadic Minus) = refl
has_its_form (Monadic Abs) = refl
has_its_form (Monadic Sign) = refl
has_its_form (Monadic Not) = refl
has_its_form (Dyadic Pow) = refl
has_its_form (Dyadic Mul) = refl
has_its_form (Dyadic Div) = refl
has_its_form (Dyadic Rem) = refl
has_its_form (Dyadic Cat) = refl
has_its_form (Dyadic Add) = refl
has_its_form (Dyadic Sub) = refl
has_its_form (Dyadic Cshift) = refl
has_its_form (Dyadic Shift) = refl
has_its_form (Dyadic Lt) = refl
has_its_form (Dyadic Gt) = refl
has_its_form (Dyadic Le) = refl
has_its_form (Dyadic Ge) = refl
has_its_form (Dyadic Eq) = refl
has_its_form (Dyadic Ne) = refl
has_its_form (Dyadic And) = refl
has_its_form (Dyadic Or) = refl
has_its_form (Dyadic Exor) = refl
has_its_form _ = refl
