-- How the frames that memory shows change with the values behind the top one's cells. Heads stand from the top down here.
use Rattle.std.proofs.Common.{◌≡◌, ◌≢◌, ℕ, suc, ◌+◌, ◌-◌, ◌<◌, ◌≤◌, List, [], ◌∷◌, ◌++◌, Some, length, take, drop, reverse, get_or, slice_get, refl, sym, ap, ◌∙◌, subst, arith, take-append-drop, length-append, length-drop, length-take-le, take_all}
use Rattle.std.proofs.lemmas.List.{reverse-append, reverse-reverse, length-reverse, get_or-reverse, take-append-le, drop-append-le, drop_at, take_at, drop-drop, get_or-drop, drop_all}
use Rattle.std.proofs.lemmas.Option.{slice_get-get_or}
use Rattle.pearl_value.specs.declared.cell.Cell.{Cell}
use Rattle.pearl_stack.specs.declared.stack.Head.{Head}
use Rattle.pearl_stack.specs.Frames.{Frame, used, top_operands, pushed, without}
use Rattle.pearl_stack.specs.Memory.{frame_of, frames_of, Divides}

pub frames_long : (hs : List Head) (vs : List Cell) → length (frames_of hs vs) ≡ length hs
frames_long [] vs = refl
frames_long (h ∷ hs) vs = ap suc (frames_long hs (take h.first vs))

pub frames_some : (hs : List Head) (vs : List Cell) → frames_of hs vs ≢ [] → hs ≢ []
frames_some [] vs some = λ e. some refl
frames_some (h ∷ hs) vs some = λ e. cc

pub used_is : (hs : List Head) (vs : List Cell) → Divides hs (length vs) → used (frames_of hs vs) ≡ length vs
used_is [] vs d = sym d
used_is (h ∷ hs) vs d =
    let own : List Cell = drop h.first vs in
    let low : length (take h.first vs) ≡ h.first = length-take-le h.first vs (omega (arith, d.0)) in
    let rest : used (frames_of hs (take h.first vs)) ≡ h.first =
    used_is hs (take h.first vs) (subst (Divides hs) (sym low) d.1) ∙ low in
    let long : length own ≡ length vs - h.first = length-drop h.first vs in
    let cells : length (take h.cells own) ≡ h.cells = length-take-le h.cells own (omega (arith, d.0, long)) in
    let operands : length (reverse (drop h.cells own)) ≡ length own - h.cells = length-reverse (drop h.cells own) ∙ length-drop h.cells own in
    omega (arith, rest, long, cells, operands, d.0)

-- what lies behind the top frame's values are operands of it
grown : List Cell → List Frame → List Frame
grown zs [] = []
grown zs (f ∷ fs) = record f { operands = reverse zs ++ f.operands } ∷ fs

grow_view : (hs : List Head) (ws zs : List Cell) → hs ≢ [] → Divides hs (length ws) → frames_of hs (ws ++ zs) ≡ grown zs (frames_of hs ws)
unfolding grown
grow_view [] ws zs some d = absurd (some refl)
grow_view (h ∷ hs) ws zs some d =
    let low : take h.first (ws ++ zs) ≡ take h.first ws = take-append-le h.first ws zs (omega (arith, d.0)) in
    let own : drop h.first (ws ++ zs) ≡ drop h.first ws ++ zs = drop-append-le h.first ws zs (omega (arith, d.0)) in
    let long : length (drop h.first ws) ≡ length ws - h.first = length-drop h.first ws in
    let cells : take h.cells (drop h.first ws ++ zs) ≡ take h.cells (drop h.first ws) = take-append-le h.cells (drop h.first ws) zs (omega (arith, d.0, long)) in
    let operands : reverse (drop h.cells (drop h.first ws ++ zs)) ≡ reverse zs ++ reverse (drop h.cells (drop h.first ws)) =
    ap reverse (drop-append-le h.cells (drop h.first ws) zs (omega (arith, d.0, long))) ∙ reverse-append (drop h.cells (drop h.first ws)) zs in
    rw (low, own, cells, operands) refl

pub divides_more : (hs : List Head) (m n : ℕ) → hs ≢ [] → Divides hs m → m ≤ n → Divides hs n
divides_more [] m n some d h = absurd (some refl)
divides_more (h ∷ hs) m n some d less = (omega (arith, d.0, less), d.1)

pub push_view : (hs : List Head) (vs : List Cell) (x : Cell) → hs ≢ [] → Divides hs (length vs) → frames_of hs (vs ++ x ∷ []) ≡ pushed x (frames_of hs vs)
unfolding grown
push_view hs vs x some d = grow_view hs vs (x ∷ []) some d ∙ same (frames_of hs vs)
  where
    same : (fs : List Frame) → grown (x ∷ []) fs ≡ pushed x fs
    same [] = refl
    same (f ∷ fs) = refl

-- the top frame's operands are the values behind its cells
pub operands_long : (h : Head) (hs : List Head) (vs : List Cell) → length (top_operands (frames_of (h ∷ hs) vs)) ≡ length vs - h.first - h.cells
operands_long h hs vs = length-reverse (drop h.cells (drop h.first vs)) ∙ (length-drop h.cells (drop h.first vs) ∙ ap (λ n. n - h.cells) (length-drop h.first vs))

pub operands_within : (hs : List Head) (vs : List Cell) → length (top_operands (frames_of hs vs)) ≤ length vs
operands_within [] vs = omega arith
operands_within (h ∷ hs) vs = let e = operands_long h hs vs in omega (arith, e)

pub divides_cut : (hs : List Head) (vs : List Cell) (n : ℕ) → n ≤ length (top_operands (frames_of hs vs)) → Divides hs (length vs) → Divides hs (length vs - n)
divides_cut [] vs n h d = omega (arith, d, h)
divides_cut (h ∷ hs) vs n less d = let e = operands_long h hs vs in (omega (arith, d.0, e, less), d.1)

pub cut_view : (hs : List Head) (vs : List Cell) (n : ℕ) → n ≤ length (top_operands (frames_of hs vs)) → Divides hs (length vs) →
    frames_of hs (take (length vs - n) vs) ≡ without n (frames_of hs vs)
unfolding grown
cut_view [] vs n less d = refl
cut_view (h ∷ hs) vs n less d =
    let m : ℕ = length vs - n in
    let ws : List Cell = take m vs in
    let zs : List Cell = drop m vs in
    let within = operands_within (h ∷ hs) vs in
    let short : length ws ≡ m = length-take-le m vs (omega arith) in
    let d2 : Divides (h ∷ hs) (length ws) = subst (Divides (h ∷ hs)) (sym short) (divides_cut (h ∷ hs) vs n less d) in
    let all : frames_of (h ∷ hs) vs ≡ grown zs (frames_of (h ∷ hs) ws) =
    ap (frames_of (h ∷ hs)) (sym (take-append-drop m vs)) ∙ grow_view (h ∷ hs) ws zs (λ e. cc) d2 in
    let long : length (reverse zs) ≡ n = length-reverse zs ∙ (length-drop m vs ∙ omega (arith, within, less)) in
    let back : without n (grown zs (frames_of (h ∷ hs) ws)) ≡ frames_of (h ∷ hs) ws =
    ap (λ ys. record (frame_of h (drop h.first ws)) { operands = ys } ∷ frames_of hs (take h.first ws))
    (drop_at (reverse zs) (reverse (drop h.cells (drop h.first ws))) n long) in
    sym (ap (without n) all ∙ back)

pub top_operand : (hs : List Head) (vs : List Cell) (n : ℕ) (d : Cell) → n < length (top_operands (frames_of hs vs)) →
    slice_get (top_operands (frames_of hs vs)) n ≡ Some (get_or vs (length vs - 1 - n) d)
top_operand [] vs n d h = absurd (omega (arith, h))
top_operand (h ∷ hs) vs n d less =
    let ys : List Cell = drop h.cells (drop h.first vs) in
    let long = operands_long h hs vs in
    let back : length (reverse ys) ≡ length ys = length-reverse ys in
    let some : n < length ys = omega (arith, less, back) in
    let at : get_or (reverse ys) n d ≡ get_or ys (length ys - 1 - n) d = get_or-reverse ys n d some in
    let down : get_or ys (length ys - 1 - n) d ≡ get_or vs (h.first + (h.cells + (length ys - 1 - n))) d =
    get_or-drop h.cells (drop h.first vs) (length ys - 1 - n) d ∙ get_or-drop h.first vs (h.cells + (length ys - 1 - n)) d in
    let place : h.first + (h.cells + (length ys - 1 - n)) ≡ length vs - 1 - n = omega (arith, long, back, some) in
    slice_get-get_or (reverse ys) n d less ∙ ap Some (at ∙ (down ∙ ap (λ k. get_or vs k d) place))

-- a called routine's frame

take_reverse : {A : Type 0} (n : ℕ) (ys : List A) → n ≤ length ys → reverse (take n (reverse ys)) ≡ drop (length ys - n) ys
take_reverse n ys h =
    let m : ℕ = length ys - n in
    let parts : reverse ys ≡ reverse (drop m ys) ++ reverse (take m ys) =
    ap reverse (sym (take-append-drop m ys)) ∙ reverse-append (take m ys) (drop m ys) in
    let long : length (reverse (drop m ys)) ≡ n = length-reverse (drop m ys) ∙ (length-drop m ys ∙ omega (arith, h)) in
    ap (λ zs. reverse (take n zs)) parts ∙ (ap reverse (take_at (reverse (drop m ys)) (reverse (take m ys)) n long) ∙ reverse-reverse (drop m ys))

-- the top n operands are the last n values, in the order in which they lie
arguments_lie : (hs : List Head) (vs : List Cell) (n : ℕ) → n ≤ length (top_operands (frames_of hs vs)) → Divides hs (length vs) →
    drop (length vs - n) vs ≡ reverse (take n (top_operands (frames_of hs vs)))
arguments_lie [] vs n less d =
    let none : n ≡ 0 = omega (arith, less) in
    let all : drop (length vs - n) vs ≡ [] = drop_all (length vs - n) vs (omega (arith, none)) in
    all ∙ ap (λ k. reverse (take k [])) (sym none)
arguments_lie (h ∷ hs) vs n less d =
    let ys : List Cell = drop h.cells (drop h.first vs) in
    let wide = operands_long h hs vs in
    let long : length (reverse ys) ≡ length ys = length-reverse ys in
    let args : reverse (take n (reverse ys)) ≡ drop (length ys - n) ys = take_reverse n ys (omega (arith, less, long)) in
    let place : length vs - n ≡ h.first + (h.cells + (length ys - n)) = omega (arith, wide, long, less, d.0) in
    let lie : drop (length ys - n) ys ≡ drop (h.first + (h.cells + (length ys - n))) vs =
    drop-drop (length ys - n) h.cells (drop h.first vs) ∙ drop-drop (h.cells + (length ys - n)) h.first vs in
    ap (λ k. drop k vs) place ∙ sym (args ∙ lie)

pub enter_view : (hs : List Head) (vs zs : List Cell) (h : Head) (n : ℕ) → n ≤ length (top_operands (frames_of hs vs)) → Divides hs (length vs) →
    h.first ≡ length vs - n → h.cells ≡ n + length zs →
    frames_of (h ∷ hs) (vs ++ zs)
    ≡ record { routine = h.routine; place = h.instruction; cells = reverse (take n (top_operands (frames_of hs vs))) ++ zs; operands = [] } ∷ without n (frames_of hs vs)
enter_view hs vs zs h n less d first cells =
    let m : ℕ = length vs - n in
    let within = operands_within hs vs in
    let own : drop m (vs ++ zs) ≡ drop m vs ++ zs = drop-append-le m vs zs (omega arith) in
    let low : take m (vs ++ zs) ≡ take m vs = take-append-le m vs zs (omega arith) in
    let long : length (drop m vs ++ zs) ≡ h.cells = length-append (drop m vs) zs ∙ (ap (λ k. k + length zs) (length-drop m vs) ∙ omega (arith, within, less, cells)) in
    let all : take h.cells (drop m vs ++ zs) ≡ drop m vs ++ zs = take_all h.cells (drop m vs ++ zs) (omega (arith, long)) in
    let none : drop h.cells (drop m vs ++ zs) ≡ [] = drop_all h.cells (drop m vs ++ zs) (omega (arith, long)) in
    ap (λ k. frame_of h (drop k (vs ++ zs)) ∷ frames_of hs (take k (vs ++ zs))) first
    ∙ (ap (λ ws. frame_of h ws ∷ frames_of hs (take m (vs ++ zs))) own
    ∙ (ap (λ ws. frame_of h (drop m vs ++ zs) ∷ frames_of hs ws) low
    ∙ (ap (λ ws. record { routine = h.routine; place = h.instruction; cells = ws; operands = reverse (drop h.cells (drop m vs ++ zs)) } ∷ frames_of hs (take m vs))
    (all ∙ ap (λ ws. ws ++ zs) (arguments_lie hs vs n less d))
    ∙ (ap (λ ws. record { routine = h.routine; place = h.instruction; cells = reverse (take n (top_operands (frames_of hs vs))) ++ zs; operands = reverse ws } ∷ frames_of hs (take m vs)) none
    ∙ ap (λ fs. record { routine = h.routine; place = h.instruction; cells = reverse (take n (top_operands (frames_of hs vs))) ++ zs; operands = [] } ∷ fs) (cut_view hs vs n less d)))))
