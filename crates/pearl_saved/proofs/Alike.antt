-- The values in cells of frames have the kinds that their routines give them.
use Rattle.std.proofs.Common.{◌≡◌, inl, inr, ℕ, zero, suc, ◌+◌, List, [], ◌∷◌, ◌++◌, length, Some, None, refl, sym, ap, ◌∙◌, arith, length-append}
use Rattle.std.specs.Prelude.{◌==◌, if◌then◌else◌, Bool, true, false, map, Option, option_and_then, slice_get}
use Rattle.std.proofs.lemmas.Bool.{cases_lt, eq-eqb, ne_eqb}
use Rattle.pearl_value.specs.declared.kind.Kind.{Kind}
use Rattle.pearl_value.specs.declared.kind.CellKind.{CellKind}
use Rattle.pearl_value.specs.declared.kind.CellKind.TheVariants.{Plain, RefTo}
use Rattle.pearl_value.specs.Cells.{kind_of}
use Rattle.pearl_instructions.specs.declared.object.Code.{Code}
use Rattle.pearl_instructions.specs.declared.object.Parts.{Parts as Object}
use Rattle.pearl_instructions.specs.Objects.{routine_at}
use Rattle.pearl_instructions.specs.Kinds.{plain_kind}
use Rattle.pearl_instructions.specs.Stacks.{cells_or_none, cell_kinds, plain_at, cell_kind}
use Rattle.pearl_saved.specs.declared.saved.SavedCell.{SavedCell}
use Rattle.pearl_saved.specs.declared.saved.SavedCell.TheVariants.{Value, Variable, Array}
use Rattle.pearl_saved.specs.declared.saved.FrameRecord.{FrameRecord}
use Rattle.pearl_saved.specs.Rules.{kind_held, AreOf, value_kind, own_kind}
use Rattle.pearl_saved.proofs.Turned.{at_end, not_at_end}

value_is : (x : SavedCell) (k : CellKind) → kind_held x ≡ Some k → value_kind x ≡ plain_kind k
value_is (Value x) k e = let s : Plain (kind_of x) ≡ k = cc in ap plain_kind s
value_is (Variable reference) k e = let s : RefTo reference.kind ≡ k = cc in ap plain_kind s
value_is (Array array) k e = absurd cc

values_are : (kinds : List CellKind) (cells : List SavedCell) (c : ℕ) → AreOf kinds cells → option_and_then value_kind (slice_get cells c) ≡ plain_at kinds c
values_are [] [] c e = refl
values_are [] (x ∷ cells) c e = absurd cc
values_are (k ∷ kinds) [] c e = absurd cc
values_are (k ∷ kinds) (x ∷ cells) zero e = let one : kind_held x ≡ Some k = cc in value_is x k one
values_are (k ∷ kinds) (x ∷ cells) (suc c) e = let more : map kind_held cells ≡ map Some kinds = cc in values_are kinds cells c more

-- Frames, the lowest first, and their routines from the top down: in each cell is a value exactly where the routine has it, of its kind.
pub record Alike (o : Object) (rs : List ℕ) (frames : List FrameRecord) : Type 0 where
  pub long : length frames ≡ length rs
  pub kinds : (n c : ℕ) → own_kind frames n c ≡ cell_kind o rs n c

pub none_alike : (o : Object) → Alike o [] []
none_alike o = record { long = refl; kinds = λ n c. refl }

abbrev cell_in : (c : ℕ) → Option FrameRecord → Option Kind
cell_in c f = option_and_then value_kind (option_and_then (λ f. slice_get f.cells c) f)

pub one_more_alike : (o : Object) (rs : List ℕ) (frames : List FrameRecord) (f : FrameRecord) (code : Code) → Alike o rs frames
    → routine_at o f.routine ≡ Some code → AreOf code.cells f.cells → Alike o (f.routine ∷ rs) (frames ++ f ∷ [])
one_more_alike o rs frames f code alike is cells = record { long = omega (arith, length-append frames (f ∷ []), alike.long); kinds = each }
  where
    chosen : (b : Bool) (n c : ℕ) → (n == length rs) ≡ b → (if b then plain_at (cell_kinds o f.routine) c else cell_kind o rs n c) ≡ cell_kind o (f.routine ∷ rs) n c
    chosen b n c e = ap (λ b. if b then plain_at (cell_kinds o f.routine) c else cell_kind o rs n c) (sym e)

    here : (n c : ℕ) → n ≡ length rs → own_kind (frames ++ f ∷ []) n c ≡ cell_kind o (f.routine ∷ rs) n c
    here n c e =
        let at : n ≡ length frames = omega (arith, e, alike.long) in
        ap (cell_in c) (ap (slice_get (frames ++ f ∷ [])) at ∙ at_end frames f)
        ∙ values_are code.cells f.cells c cells
        ∙ ap (λ x. plain_at (cells_or_none x) c) (sym is)
        ∙ chosen true n c (eq-eqb n (length rs) e)

    elsewhere : (n c : ℕ) → (n ≡ length rs → ⊥) → own_kind (frames ++ f ∷ []) n c ≡ cell_kind o (f.routine ∷ rs) n c
    elsewhere n c other =
        ap (cell_in c) (not_at_end frames f n (λ e. other (omega (arith, e, alike.long))))
        ∙ alike.kinds n c
        ∙ chosen false n c (ne_eqb n (length rs) other)

    each : (n c : ℕ) → own_kind (frames ++ f ∷ []) n c ≡ cell_kind o (f.routine ∷ rs) n c
    each n c = elim (cases_lt n (length rs)) [
      | inl less ↦ elsewhere n c (λ e. absurd (omega (arith, e, less)))
      | inr more ↦ elim (cases_lt (length rs) n) [
        | inl above ↦ elsewhere n c (λ e. absurd (omega (arith, e, above)))
        | inr below ↦ here n c (omega (arith, more, below))
      ]
    ]
