-- A stack that is tested from the lowest frame on.
use Rattle.std.proofs.Common.{◌≡◌, ℕ, suc, ◌+◌, ◌<◌, List, [], ◌∷◌, ◌++◌, length, take, drop, get_or, sym, ap, subst, ◌∙◌, add-one, drop-cons}
use Rattle.std.proofs.lemmas.List.{take_more}
use Rattle.std.specs.List.{AllByRecursion}
use Rattle.pearl_value.specs.declared.cell.Cell.{Cell}
use Rattle.pearl_saved.specs.declared.saved.FrameRecord.{FrameRecord}
use Rattle.pearl_snap.specs.Leads.{Leads, AllLead}

-- the stack's references lead to values exactly if those of the frames from here on do
pub record Above (slots : List Cell) (frames : List FrameRecord) (i : ℕ) : Type 0 where
  pub all : AllLead slots (take i frames) (drop i frames) → AllLead slots [] frames
  pub left : AllLead slots [] frames → AllLead slots (take i frames) (drop i frames)

-- at one frame
pub record AtFrame (slots : List Cell) (frames : List FrameRecord) (i : ℕ) (f : FrameRecord) : Type 0 where
  pub cells : AllByRecursion (Leads slots (take i frames)) f.cells
  pub operands : AllByRecursion (Leads slots (take (i + 1) frames)) f.operands
  pub above : AllLead slots (take (i + 1) frames) (drop (i + 1) frames)

module _ (slots : List Cell) (frames : List FrameRecord) (i : ℕ) (f : FrameRecord) (less : i < length frames) (is : f ≡ get_or frames i f) where
  cut : drop i frames ≡ f ∷ drop (i + 1) frames
  cut = rw (add-one, drop-cons frames i f less) (ap (λ z. z ∷ drop (suc i) frames) (sym is))

  grown : take i frames ++ f ∷ [] ≡ take (i + 1) frames
  grown = ap (λ z. take i frames ++ z ∷ []) is ∙ sym (take_more frames i f less)

  parts : AllLead slots (take i frames) (f ∷ drop (i + 1) frames) → AtFrame slots frames i f
  parts h = record {
    cells = h.0;
    operands = subst (λ fs. AllByRecursion (Leads slots fs) f.operands) grown h.1;
    above = subst (λ fs. AllLead slots fs (drop (i + 1) frames)) grown h.2;
  }

  whole : AtFrame slots frames i f → AllLead slots (take i frames) (f ∷ drop (i + 1) frames)
  whole a = (
    a.cells,
    subst (λ fs. AllByRecursion (Leads slots fs) f.operands) (sym grown) a.operands,
    subst (λ fs. AllLead slots fs (drop (i + 1) frames)) (sym grown) a.above,
  )

  pub at_frame : Above slots frames i → AllLead slots [] frames → AtFrame slots frames i f
  at_frame a h = parts (subst (AllLead slots (take i frames)) cut (a.left h))

  pub climbed : Above slots frames i → AllByRecursion (Leads slots (take i frames)) f.cells → AllByRecursion (Leads slots (take (i + 1) frames)) f.operands → Above slots frames (i + 1)
  climbed a cells operands = record {
    all = λ h. a.all (subst (AllLead slots (take i frames)) (sym cut) (whole (record { cells = cells; operands = operands; above = h })));
    left = λ h. (at_frame a h).above;
  }
