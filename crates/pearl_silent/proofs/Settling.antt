-- What a run of silent rows keeps, and that it ends.
use Rattle.std.proofs.Common.{◌≡◌, ℕ, zero, suc, ◌+◌, ◌<◌, ◌≤◌, List, refl, ap, subst, arith}
use Rattle.pearl_stack.specs.Frames.{Frame}
use Rattle.pearl_instructions.specs.declared.object.Parts.{Parts as Object}
use Rattle.pearl_instructions.specs.Objects.{routines}
use Rattle.pearl_instructions.specs.Rows.{row}
use Rattle.pearl_instructions.specs.Stacks.{all_rows, Then, OffersWithin}
use Rattle.pearl_instructions.specs.Steps.{Step, Silent, Offers, Missing}
use Rattle.pearl_silent.specs.Settling.{Silently}

-- how many silent rows come, among the next so many

abbrev pub next_left : (List Frame → ℕ) → Step → ℕ
next_left left (Silent frames) = suc (left frames)
next_left left (Offers action go) = 0
next_left left Missing = 0

abbrev pub rows_left : Object → ℕ → List Frame → ℕ
rows_left o zero frames = 0
rows_left o (suc n) frames = next_left (rows_left o n) (row o frames)

stable : (o : Object) (n : ℕ) (frames : List Frame) → OffersWithin o n frames → rows_left o (suc n) frames ≡ rows_left o n frames
stable o zero frames h = absurd h
stable o (suc n) frames h = by (row o frames) h (stable o n)
  where
    by : (step : Step) → Then (OffersWithin o n) step → ((frames : List Frame) → OffersWithin o n frames → rows_left o (suc n) frames ≡ rows_left o n frames) →
        next_left (rows_left o (suc n)) step ≡ next_left (rows_left o n) step
    by (Silent next) h go = ap suc (go next h)
    by (Offers action go') h go = refl
    by Missing h go = refl

pub falls : (o : Object) (n : ℕ) (frames next : List Frame) → OffersWithin o n frames → row o frames ≡ Silent next → rows_left o n next < rows_left o n frames
falls o zero frames next h e = absurd h
falls o (suc n) frames next h e =
    let within : OffersWithin o n next = subst (Then (OffersWithin o n)) e h in
    let here : rows_left o (suc n) frames ≡ suc (rows_left o n next) = ap (next_left (rows_left o n)) e in
    let there = stable o n next within in
    omega (arith, here, there)

-- the rows so far

pub record Run (o : Object) (first now : List Frame) : Type 0 where
  pub done : ℕ
  pub left : ℕ
  pub sum : done + left ≡ all_rows (routines o)
  pub silent : Silently o done first now
  pub within : OffersWithin o left now

pub run_begins : (o : Object) (frames : List Frame) → OffersWithin o (all_rows (routines o)) frames → Run o frames frames
run_begins o frames soon = record { done = 0; left = all_rows (routines o); sum = omega arith; silent = refl; within = soon }

next_within : (o : Object) (n : ℕ) (now last : List Frame) → OffersWithin o n now → row o now ≡ Silent last → (m : ℕ) × (n ≡ suc m) × OffersWithin o m last
next_within o zero now last h e = absurd h
next_within o (suc n) now last h e = (n, refl, subst (Then (OffersWithin o n)) e h)

pub run_goes : (o : Object) (first now last : List Frame) → Run o first now → row o now ≡ Silent last → Run o first last
run_goes o first now last r e =
    let more = next_within o r.left now last r.within e in
    record { done = suc r.done; left = more.0; sum = omega (arith, r.sum, more.1); silent = (now, r.silent, e); within = more.2 }

-- silent rows, one after the other

pub run_goes_on : (o : Object) (first now last : List Frame) (n : ℕ) → Run o first now → Silently o n now last → Run o first last
run_goes_on o first now last zero r h = subst (Run o first) h r
run_goes_on o first now last (suc n) r h = run_goes o first h.0 last (run_goes_on o first now h.0 n r h.1) h.2

-- a stack within so many rows of an offer stays there

more_within : (o : Object) (n : ℕ) (frames : List Frame) → OffersWithin o n frames → OffersWithin o (suc n) frames
more_within o zero frames h = absurd h
more_within o (suc n) frames h = by (row o frames) h (more_within o n)
  where
    by : (step : Step) → Then (OffersWithin o n) step → ((frames : List Frame) → OffersWithin o n frames → OffersWithin o (suc n) frames) → Then (OffersWithin o (suc n)) step
    by (Silent next) h go = go next h
    by (Offers action go') h go = tt
    by Missing h go = h

pub within_all : (o : Object) (m : ℕ) (now last : List Frame) (n : ℕ) → OffersWithin o m now → Silently o n now last → OffersWithin o m last
within_all o m now last zero h s = subst (OffersWithin o m) s h
within_all o m now last (suc n) h s = one m (within_all o m now s.0 n h s.1)
  where
    one : (m : ℕ) → OffersWithin o m s.0 → OffersWithin o m last
    one zero h = absurd h
    one (suc m) h = more_within o m last (subst (Then (OffersWithin o m)) s.2 h)

pub left_no_more : (o : Object) (m : ℕ) (now last : List Frame) (n : ℕ) → OffersWithin o m now → Silently o n now last → rows_left o m last ≤ rows_left o m now
left_no_more o m now last zero h s = let same = ap (rows_left o m) s in omega (arith, same)
left_no_more o m now last (suc n) h s =
    let before = left_no_more o m now s.0 n h s.1 in
    let less = falls o m s.0 last (within_all o m now s.0 n h s.1) s.2 in
    omega (arith, before, less)
