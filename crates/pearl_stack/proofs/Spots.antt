-- Where the frame of a number lies in memory, and what becomes of the frames where one of its cells is written. Heads stand from
-- the top down here.
use Rattle.std.proofs.Common.{◌≡◌, ℕ, zero, suc, ◌+◌, ◌<◌, ◌≤◌, List, [], ◌∷◌, Some, None, length, take, drop, set, refl, sym, ap, ◌∙◌, subst, arith, Bool, true, false, cond, eqb, eq-eqb, ne_eqb, inl, inr, length-take-le, take_all}
use Rattle.std.proofs.Math.Seq.{take-set-lt}
use Rattle.std.proofs.lemmas.List.{take-set-le, drop-set-add}
use Rattle.std.proofs.lemmas.Bool.{cases_eq}
use Rattle.std.proofs.lemmas.Option.{same_Some}
use Rattle.pearl_value.specs.declared.cell.Cell.{Cell}
use Rattle.pearl_stack.specs.declared.stack.Head.{Head}
use Rattle.pearl_stack.specs.Frames.{Frame, frame_at, with_cell}
use Rattle.pearl_stack.specs.Memory.{frame_of, frames_of, first_or, Divides}
use Rattle.pearl_stack.proofs.Heads.{head_at, head_past, head_there, head_within}
use Rattle.pearl_stack.proofs.Shown.{frames_long}

pub record Spot (hs : List Head) (vs : List Cell) (n : ℕ) (f : Frame) : Type 0 where
  pub head : Head
  pub there : head_at hs n ≡ Some head
  pub stop : ℕ
  pub ends : first_or (length vs) (head_at hs (suc n)) ≡ stop
  pub within : stop ≤ length vs
  pub fits : head.first + head.cells ≤ stop
  pub is : f ≡ frame_of head (drop head.first (take stop vs))
  pub written : (c : ℕ) (x : Cell) → c < head.cells → frames_of hs (set vs (head.first + c) x) ≡ with_cell (frames_of hs vs) n c x

take_take : {A : Type 0} (m n : ℕ) (xs : List A) → m ≤ n → take m (take n xs) ≡ take m xs
take_take zero n xs h = refl
take_take (suc m) zero xs h = absurd (omega (arith, h))
take_take (suc m) (suc n) [] h = refl
take_take (suc m) (suc n) (x ∷ xs) h = ap (λ zs. x ∷ zs) (take_take m n xs (omega (arith, h)))

drop_set : {A : Type 0} (m : ℕ) (xs : List A) (n : ℕ) (x : A) → n < m → drop m (set xs n x) ≡ drop m xs
drop_set zero xs n x h = absurd (omega (arith, h))
drop_set (suc m) [] n x h = refl
drop_set (suc m) (y ∷ xs) zero x h = refl
drop_set (suc m) (y ∷ xs) (suc n) x h = drop_set m xs n x (omega (arith, h))

written_top : (h : Head) (hs : List Head) (vs : List Cell) (n c : ℕ) (x : Cell) → eqb n (length (frames_of hs (take h.first vs))) ≡ true → c < h.cells →
    frames_of (h ∷ hs) (set vs (h.first + c) x) ≡ with_cell (frames_of (h ∷ hs) vs) n c x
written_top h hs vs n c x t inside =
    let a : take h.first (set vs (h.first + c) x) ≡ take h.first vs = take-set-le h.first vs (h.first + c) x (omega arith) in
    let b : drop h.first (set vs (h.first + c) x) ≡ set (drop h.first vs) c x = drop-set-add h.first vs c x in
    let k : take h.cells (set (drop h.first vs) c x) ≡ set (take h.cells (drop h.first vs)) c x = take-set-lt h.cells (drop h.first vs) c x inside in
    let l : drop h.cells (set (drop h.first vs) c x) ≡ drop h.cells (drop h.first vs) = drop_set h.cells (drop h.first vs) c x inside in
    rw (t, a, b, k, l) refl

written_below : (h : Head) (hs : List Head) (vs : List Cell) (n c at : ℕ) (x : Cell) → eqb n (length (frames_of hs (take h.first vs))) ≡ false → at < h.first →
    frames_of hs (set (take h.first vs) at x) ≡ with_cell (frames_of hs (take h.first vs)) n c x →
    frames_of (h ∷ hs) (set vs at x) ≡ with_cell (frames_of (h ∷ hs) vs) n c x
written_below h hs vs n c at x t inside below =
    let a : take h.first (set vs at x) ≡ set (take h.first vs) at x = take-set-lt h.first vs at x inside in
    let b : drop h.first (set vs at x) ≡ drop h.first vs = drop_set h.first vs at x inside in
    rw (t, a, b, below) refl

-- the values of the frame above the n-th one begin where its own end
above : (h : Head) (hs : List Head) (n end : ℕ) → n < length hs →
    first_or end (cond (eqb (suc n) (length hs)) (Some h) (head_at hs (suc n))) ≡ first_or h.first (head_at hs (suc n))
above h hs n end within = elim (cases_eq (suc n) (length hs)) [
  | inl e ↦ (let t : eqb (suc n) (length hs) ≡ true = eq-eqb (suc n) (length hs) e in
      let none : head_at hs (suc n) ≡ None = head_past hs (suc n) (omega (arith, e)) in rw (t, none) refl)
  | inr d ↦ (let t : eqb (suc n) (length hs) ≡ false = ne_eqb (suc n) (length hs) d in
      let some = head_within hs (suc n) h (omega (arith, within, d)) in rw (t, some) refl)
]

pub spot : (hs : List Head) (vs : List Cell) (n : ℕ) (f : Frame) → Divides hs (length vs) → frame_at (frames_of hs vs) n ≡ Some f → Spot hs vs n f
unfolding head_at
spot [] vs n f d e = cc
spot (h ∷ hs) vs n f d e = elim (cases_eq n (length (frames_of hs (take h.first vs)))) [
  | inl at ↦ top (eq-eqb n (length (frames_of hs (take h.first vs))) at) at
  | inr off ↦ lower (ne_eqb n (length (frames_of hs (take h.first vs))) off) (λ d e. spot hs (take h.first vs) n f d e)
]
  where
    long : length (frames_of hs (take h.first vs)) ≡ length hs
    long = frames_long hs (take h.first vs)

    low : length (take h.first vs) ≡ h.first
    low = length-take-le h.first vs (omega (arith, d.0))

    found : (b : Bool) → eqb n (length (frames_of hs (take h.first vs))) ≡ b → cond b (Some (frame_of h (drop h.first vs))) (frame_at (frames_of hs (take h.first vs)) n) ≡ Some f
    found b t = ap (λ b. cond b (Some (frame_of h (drop h.first vs))) (frame_at (frames_of hs (take h.first vs)) n)) (sym t) ∙ e

    top : eqb n (length (frames_of hs (take h.first vs))) ≡ true → n ≡ length (frames_of hs (take h.first vs)) → Spot (h ∷ hs) vs n f
    top t at =
        let there : eqb n (length hs) ≡ true = ap (eqb n) (sym long) ∙ t in
        let over : eqb (suc n) (length hs) ≡ false = ne_eqb (suc n) (length hs) (λ e. omega (arith, e, at, long)) in
        let none : head_at hs (suc n) ≡ None = head_past hs (suc n) (omega (arith, at, long)) in
        record {
          head = h;
          there = rw there refl;
          stop = length vs;
          ends = rw (over, none) refl;
          within = omega arith;
          fits = d.0;
          is = sym (same_Some (frame_of h (drop h.first vs)) f (found true t)) ∙ ap (λ ws. frame_of h (drop h.first ws)) (sym (take_all (length vs) vs (omega arith)));
          written = λ c x inside. written_top h hs vs n c x t inside;
        }

    lower : eqb n (length (frames_of hs (take h.first vs))) ≡ false →
        (Divides hs (length (take h.first vs)) → frame_at (frames_of hs (take h.first vs)) n ≡ Some f → Spot hs (take h.first vs) n f) → Spot (h ∷ hs) vs n f
    lower t below =
        let other : eqb n (length hs) ≡ false = ap (eqb n) (sym long) ∙ t in
        let more = below (subst (Divides hs) (sym low) d.1) (found false t) in
        let stop : more.stop ≤ h.first = omega (arith, more.within, low) in
        let under : n < length hs = head_there hs n more.head more.there in
        record {
          head = more.head;
          there = rw other more.there;
          stop = more.stop;
          ends = above h hs n (length vs) under ∙ (ap (λ k. first_or k (head_at hs (suc n))) (sym low) ∙ more.ends);
          within = omega (arith, stop, d.0);
          fits = more.fits;
          is = more.is ∙ ap (λ ws. frame_of more.head (drop more.head.first ws)) (take_take more.stop h.first vs stop);
          written = λ c x inside. written_below h hs vs n c (more.head.first + c) x t (omega (arith, inside, more.fits, stop)) (more.written c x inside);
        }
