-- What a call does to memory, and to the stack that it holds. Heads stand as in memory here, the lowest one first.
use Rattle.std.proofs.Common.{◌≡◌, ◌≢◌, ℕ, suc, ◌+◌, ◌-◌, ◌<◌, ◌≤◌, List, [], ◌∷◌, ◌++◌, Option, Some, None, length, take, drop, reverse, get_or, set, slice_get, refl, sym, ap, ◌∙◌, subst, arith, length-append, length-drop, length-set, length-take-le}
use Rattle.std.specs.Prelude.{IsSome, option_map, option_and_then}
use Rattle.std.proofs.lemmas.List.{reverse-append, reverse-reverse, length-reverse, get_or-drop, get_or-take}
use Rattle.std.proofs.lemmas.Option.{get_or_from_slice_get, slice_get_within, slice_get-get_or}
use Rattle.pearl_value.specs.declared.cell.Cell.{Cell}
use Rattle.pearl_stack.specs.declared.stack.Head.{Head}
use Rattle.pearl_stack.specs.Frames.{Frame, Stack, frame_at, cell_at, operand_at, top_operands, used, sizes, pushed, popped, without, moved, with_cell}
use Rattle.pearl_stack.specs.Memory.{frame_of, frames_of, first_or, Divides}
use Rattle.pearl_stack.proofs.Heads.{last_of, reverse_last, last_is, set_last, cut_last, heads_get}
use Rattle.pearl_stack.proofs.Shown.{frames_long, frames_some, used_is, push_view, divides_more, operands_long, operands_within, divides_cut, cut_view, top_operand, enter_view}
use Rattle.pearl_stack.proofs.Spots.{spot}

pub record Holds (heads : List Head) (values : List Cell) (frames : List Frame) : Type 0 where
  pub shows : frames_of (reverse heads) values ≡ frames
  pub divides : Divides (reverse heads) (length values)

pub filled : (heads : List Head) (values : List Cell) (frames : List Frame) → Holds heads values frames → used frames ≡ length values
filled heads values frames h = ap used (sym h.shows) ∙ used_is (reverse heads) values h.divides

pub high : (heads : List Head) (values : List Cell) (frames : List Frame) → Holds heads values frames → length frames ≡ length heads
high heads values frames h = ap length (sym h.shows) ∙ (frames_long (reverse heads) values ∙ length-reverse heads)

pub top_within : (heads : List Head) (values : List Cell) (frames : List Frame) → Holds heads values frames → length (top_operands frames) ≤ length values
top_within heads values frames h =
    let same = ap (λ fs. length (top_operands fs)) h.shows in omega (arith, same, operands_within (reverse heads) values)

heads_some : (heads : List Head) (values : List Cell) (frames : List Frame) → Holds heads values frames → frames ≢ [] → reverse heads ≢ []
heads_some heads values frames h some = frames_some (reverse heads) values (subst (λ fs. fs ≢ []) (sym h.shows) some)

some_heads : (heads : List Head) (values : List Cell) (frames : List Frame) → Holds heads values frames → frames ≢ [] → heads ≢ []
some_heads heads values frames h some = λ e. heads_some heads values frames h some (ap reverse e)

pub pushes : (heads : List Head) (values : List Cell) (frames : List Frame) → Holds heads values frames → frames ≢ [] → (x : Cell) → Holds heads (values ++ x ∷ []) (pushed x frames)
pushes heads values frames h some x =
    let there = heads_some heads values frames h some in
    record {
      shows = push_view (reverse heads) values x there h.divides ∙ ap (pushed x) h.shows;
      divides = divides_more (reverse heads) (length values) (length (values ++ x ∷ [])) there h.divides (omega (arith, length-append values (x ∷ [])));
    }

-- the top n operands are the last n values
pub record Cuts (heads : List Head) (values : List Cell) (frames : List Frame) (n : ℕ) : Type 0 where
  pub within : n ≤ length values
  pub rest : Holds heads (take (length values - n) values) (without n frames)

pub cuts : (heads : List Head) (values : List Cell) (frames : List Frame) → Holds heads values frames → (n : ℕ) → n ≤ length (top_operands frames) → Cuts heads values frames n
cuts heads values frames h n less =
    let hs : List Head = reverse heads in
    let shown = ap (λ fs. length (top_operands fs)) h.shows in
    let there : n ≤ length (top_operands (frames_of hs values)) = omega (arith, shown, less) in
    let within = operands_within hs values in
    let short : length (take (length values - n) values) ≡ length values - n = length-take-le (length values - n) values (omega arith) in
    record {
      within = omega (arith, within, there);
      rest = record {
        shows = cut_view hs values n there h.divides ∙ ap (without n) h.shows;
        divides = subst (Divides hs) (sym short) (divides_cut hs values n there h.divides);
      };
    }

-- the operand that has so many above it
pub operand_above : (heads : List Head) (values : List Cell) (frames : List Frame) → Holds heads values frames → (n : ℕ) → n < length (top_operands frames) → (d : Cell) →
    slice_get (top_operands frames) n ≡ Some (get_or values (length values - 1 - n) d)
operand_above heads values frames h n less d =
    let shown = ap (λ fs. length (top_operands fs)) h.shows in
    ap (λ fs. slice_get (top_operands fs) n) (sym h.shows) ∙ top_operand (reverse heads) values n d (omega (arith, shown, less))

pub record Pops (heads : List Head) (values : List Cell) (frames : List Frame) : Type 0 where
  pub some : 0 < length values
  pub operand : (d : Cell) → slice_get (top_operands frames) 0 ≡ Some (get_or values (length values - 1) d)
  pub rest : Holds heads (take (length values - 1) values) (popped frames)

length_some : {A : Type 0} (xs : List A) → xs ≢ [] → 0 < length xs
length_some [] some = absurd (some refl)
length_some (x ∷ xs) some = omega arith

pub pops : (heads : List Head) (values : List Cell) (frames : List Frame) → Holds heads values frames → top_operands frames ≢ [] → Pops heads values frames
pops heads values frames h some =
    let one = length_some (top_operands frames) some in
    let cut = cuts heads values frames h 1 (omega (arith, one)) in
    let last : length values - 1 - 0 ≡ length values - 1 = omega arith in
    record {
      some = omega (arith, cut.within);
      operand = λ d. operand_above heads values frames h 0 one d ∙ ap (λ i. Some (get_or values i d)) last;
      rest = cut.rest;
    }

-- the top frame is left
pub leaves : (heads : List Head) (values : List Cell) (frames : List Frame) → Holds heads values frames → frames ≢ [] → (d : Head) →
    Holds (take (length heads - 1) heads) (take (get_or heads (length heads - 1) d).first values) (drop 1 frames)
leaves heads values frames h some d =
    let l = last_of heads (some_heads heads values frames h some) in
    let back : reverse heads ≡ l.last ∷ reverse l.init = reverse_last heads l in
    let divides : Divides (l.last ∷ reverse l.init) (length values) = subst (λ hs. Divides hs (length values)) back h.divides in
    let short : length (take l.last.first values) ≡ l.last.first = length-take-le l.last.first values (omega (arith, divides.0)) in
    let first : (get_or heads (length heads - 1) d).first ≡ l.last.first = ap (λ h. h.first) (last_is heads l d) in
    let now : Holds l.init (take l.last.first values) (drop 1 frames) = record {
      shows = ap (λ hs. drop 1 (frames_of hs values)) (sym back) ∙ ap (drop 1) h.shows;
      divides = subst (Divides (reverse l.init)) (sym short) divides.1;
    } in
    subst (λ n. Holds (take (length heads - 1) heads) (take n values) (drop 1 frames)) (sym first)
    (subst (λ hs. Holds hs (take l.last.first values) (drop 1 frames)) (sym (cut_last heads l)) now)

-- the values of the top frame with an operand begin before the end
pub first_within : (heads : List Head) (values : List Cell) (frames : List Frame) → Holds heads values frames → frames ≢ [] → 0 < length (top_operands frames) → (d : Head) →
    (get_or heads (length heads - 1) d).first < length values
first_within heads values frames h some operand d =
    let l = last_of heads (some_heads heads values frames h some) in
    let back : reverse heads ≡ l.last ∷ reverse l.init = reverse_last heads l in
    let shown : length (top_operands (frames_of (l.last ∷ reverse l.init) values)) ≡ length (top_operands frames) =
    ap (λ hs. length (top_operands (frames_of hs values))) (sym back) ∙ ap (λ fs. length (top_operands fs)) h.shows in
    let long = operands_long l.last (reverse l.init) values in
    let first : (get_or heads (length heads - 1) d).first ≡ l.last.first = ap (λ h. h.first) (last_is heads l d) in
    omega (arith, shown, long, first, operand)

pub goes : (heads : List Head) (values : List Cell) (frames : List Frame) → Holds heads values frames → frames ≢ [] → (i : ℕ) (old : Head) →
    old ≡ get_or heads (length heads - 1) old → Holds (set heads (length heads - 1) (record old { instruction = i })) values (moved i frames)
goes heads values frames h some i old at =
    let l = last_of heads (some_heads heads values frames h some) in
    let back : reverse heads ≡ l.last ∷ reverse l.init = reverse_last heads l in
    let divides : Divides (l.last ∷ reverse l.init) (length values) = subst (λ hs. Divides hs (length values)) back h.divides in
    let is : old ≡ l.last = at ∙ last_is heads l old in
    let now : reverse (set heads (length heads - 1) (record old { instruction = i })) ≡ record l.last { instruction = i } ∷ reverse l.init =
    set_last heads l (record old { instruction = i }) ∙ ap (λ (h : Head). record h { instruction = i } ∷ reverse l.init) is in
    record {
      shows = ap (λ hs. frames_of hs values) now ∙ (ap (λ hs. moved i (frames_of hs values)) (sym back) ∙ ap (moved i) h.shows);
      divides = subst (λ hs. Divides hs (length values)) (sym now) (divides.0, divides.1);
    }

pub enters : (heads : List Head) (values : List Cell) (frames : List Frame) → Holds heads values frames → (new : Head) (zs : List Cell) (n : ℕ) →
    n ≤ length (top_operands frames) → new.first ≡ length values - n → new.cells ≡ n + length zs →
    Holds (heads ++ new ∷ []) (values ++ zs)
    (record { routine = new.routine; place = new.instruction; cells = reverse (take n (top_operands frames)) ++ zs; operands = [] } ∷ without n frames)
enters heads values frames h new zs n less first cells =
    let hs : List Head = reverse heads in
    let back : reverse (heads ++ new ∷ []) ≡ new ∷ hs = reverse-append heads (new ∷ []) in
    let shown = ap (λ fs. length (top_operands fs)) h.shows in
    let top : n ≤ length (top_operands (frames_of hs values)) = omega (arith, less, shown) in
    let within = operands_within hs values in
    let long = length-append values zs in
    record {
      shows = ap (λ hs. frames_of hs (values ++ zs)) back
          ∙ (enter_view hs values zs new n top h.divides first cells
          ∙ ap (λ fs. record { routine = new.routine; place = new.instruction; cells = reverse (take n (top_operands fs)) ++ zs; operands = [] } ∷ without n fs) h.shows);
      divides = subst (λ hs. Divides hs (length (values ++ zs))) (sym back)
          (omega (arith, first, cells, long, top, within), subst (Divides hs) (sym first) (divides_cut hs values n top h.divides));
    }

-- where the frame of a number lies
pub record Lies (heads : List Head) (values : List Cell) (frames : List Frame) (n : ℕ) (f : Frame) : Type 0 where
  pub head : Head
  pub within : n < length heads
  pub head_is : (d : Head) → get_or heads n d ≡ head
  pub stop : ℕ
  pub ends : first_or (length values) (slice_get heads (suc n)) ≡ stop
  pub inside : stop ≤ length values
  pub fits : head.first + head.cells ≤ stop
  pub is : f ≡ frame_of head (drop head.first (take stop values))
  pub written : (c : ℕ) (x : Cell) → c < head.cells → Holds heads (set values (head.first + c) x) (with_cell frames n c x)

pub lies : (heads : List Head) (values : List Cell) (frames : List Frame) → Holds heads values frames → (n : ℕ) (f : Frame) → frame_at frames n ≡ Some f → Lies heads values frames n f
lies heads values frames h n f there =
    let s = spot (reverse heads) values n f h.divides (ap (λ fs. frame_at fs n) h.shows ∙ there) in
    let at : slice_get heads n ≡ Some s.head = sym (heads_get heads n) ∙ s.there in
    record {
      head = s.head;
      within = slice_get_within heads n s.head at;
      head_is = λ d. get_or_from_slice_get heads n s.head d at;
      stop = s.stop;
      ends = ap (first_or (length values)) (sym (heads_get heads (suc n))) ∙ s.ends;
      inside = s.within;
      fits = s.fits;
      is = s.is;
      written = λ c x inside. record {
        shows = s.written c x inside ∙ ap (λ fs. with_cell fs n c x) h.shows;
        divides = subst (Divides (reverse heads)) (sym (length-set values (s.head.first + c) x)) h.divides;
      };
    }

pub some_frame : {A : Type 0} (o : Option A) → IsSome o → (x : A) × (o ≡ Some x)
some_frame None h = cc
some_frame (Some x) h = (x, refl)

-- what the sizes of a frame are in memory
pub sizes_lie : (heads : List Head) (values : List Cell) (frames : List Frame) (n : ℕ) (f : Frame) (l : Lies heads values frames n f) → frame_at frames n ≡ Some f →
    option_map sizes (frame_at frames n)
    ≡ Some (record { routine = l.head.routine; instruction = l.head.instruction; cells = l.head.cells; operands = l.stop - l.head.first - l.head.cells })
sizes_lie heads values frames n f l there =
    let own : List Cell = drop l.head.first (take l.stop values) in
    let short : length (take l.stop values) ≡ l.stop = length-take-le l.stop values l.inside in
    let long : length own ≡ l.stop - l.head.first = length-drop l.head.first (take l.stop values) ∙ ap (λ n. n - l.head.first) short in
    let cells : length (take l.head.cells own) ≡ l.head.cells = length-take-le l.head.cells own (omega (arith, long, l.fits)) in
    let operands : length (reverse (drop l.head.cells own)) ≡ l.stop - l.head.first - l.head.cells =
    length-reverse (drop l.head.cells own) ∙ (length-drop l.head.cells own ∙ ap (λ n. n - l.head.cells) long) in
    ap (option_map sizes) there
    ∙ (ap (λ f. Some (sizes f)) l.is
    ∙ (ap (λ (n : ℕ). Some (record { routine = l.head.routine; instruction = l.head.instruction; cells = n; operands = length (reverse (drop l.head.cells own)) })) cells
    ∙ ap (λ (n : ℕ). Some (record { routine = l.head.routine; instruction = l.head.instruction; cells = l.head.cells; operands = n })) operands))

of_frame : (o : Option Frame) (go : Frame → Option Cell) → IsSome (option_and_then go o) → (f : Frame) × (o ≡ Some f) × IsSome (go f)
of_frame None go h = cc
of_frame (Some f) go h = (f, refl, h)

some_within : (xs : List Cell) (n : ℕ) → IsSome (slice_get xs n) → n < length xs
some_within xs n h = let x = some_frame (slice_get xs n) h in slice_get_within xs n x.0 x.1

-- a value of these, where they stop before the end
read_at : (values : List Cell) (first stop at : ℕ) (d : Cell) → first + at < stop → get_or (drop first (take stop values)) at d ≡ get_or values (first + at) d
read_at values first stop at d less = get_or-drop first (take stop values) at d ∙ get_or-take stop values (first + at) d less

-- where a cell lies
pub record CellLies (heads : List Head) (values : List Cell) (frames : List Frame) (n c : ℕ) : Type 0 where
  pub head : Head
  pub within : n < length heads
  pub head_is : (d : Head) → get_or heads n d ≡ head
  pub inside : head.first + c < length values
  pub read : (d : Cell) → cell_at frames n c ≡ Some (get_or values (head.first + c) d)
  pub written : (x : Cell) → Holds heads (set values (head.first + c) x) (with_cell frames n c x)

pub cell_lies : (heads : List Head) (values : List Cell) (frames : List Frame) → Holds heads values frames → (n c : ℕ) → IsSome (cell_at frames n c) → CellLies heads values frames n c
cell_lies heads values frames h n c some =
    let found = of_frame (frame_at frames n) (λ f. slice_get f.cells c) some in
    let f : Frame = found.0 in
    let l = lies heads values frames h n f found.1 in
    let own : List Cell = drop l.head.first (take l.stop values) in
    let short : length (take l.stop values) ≡ l.stop = length-take-le l.stop values l.inside in
    let long : length own ≡ l.stop - l.head.first = length-drop l.head.first (take l.stop values) ∙ ap (λ n. n - l.head.first) short in
    let cells : length (take l.head.cells own) ≡ l.head.cells = length-take-le l.head.cells own (omega (arith, long, l.fits)) in
    let same : f.cells ≡ take l.head.cells own = ap (λ (f : Frame). f.cells) l.is in
    let less : c < length f.cells = some_within f.cells c found.2 in
    let among : c < l.head.cells = omega (arith, less, ap length same, cells) in
    record {
      head = l.head;
      within = l.within;
      head_is = l.head_is;
      inside = omega (arith, among, l.fits, l.inside);
      read = λ d. ap (option_and_then (λ f. slice_get f.cells c)) found.1
          ∙ (slice_get-get_or f.cells c d less
          ∙ ap Some (ap (λ xs. get_or xs c d) same ∙ (get_or-take l.head.cells own c d among ∙ read_at values l.head.first l.stop c d (omega (arith, among, l.fits)))));
      written = λ x. l.written c x among;
    }

-- where an operand lies
pub record OperandLies (heads : List Head) (values : List Cell) (frames : List Frame) (n at : ℕ) : Type 0 where
  pub head : Head
  pub within : n < length heads
  pub head_is : (d : Head) → get_or heads n d ≡ head
  pub inside : head.first + head.cells + at < length values
  pub read : (d : Cell) → operand_at frames n at ≡ Some (get_or values (head.first + head.cells + at) d)

pub operand_lies : (heads : List Head) (values : List Cell) (frames : List Frame) → Holds heads values frames → (n at : ℕ) → IsSome (operand_at frames n at) →
    OperandLies heads values frames n at
operand_lies heads values frames h n at some =
    let found = of_frame (frame_at frames n) (λ f. slice_get (reverse f.operands) at) some in
    let f : Frame = found.0 in
    let l = lies heads values frames h n f found.1 in
    let own : List Cell = drop l.head.first (take l.stop values) in
    let rest : List Cell = drop l.head.cells own in
    let short : length (take l.stop values) ≡ l.stop = length-take-le l.stop values l.inside in
    let long : length own ≡ l.stop - l.head.first = length-drop l.head.first (take l.stop values) ∙ ap (λ n. n - l.head.first) short in
    let behind : length rest ≡ length own - l.head.cells = length-drop l.head.cells own in
    let same : reverse f.operands ≡ rest = ap (λ (f : Frame). reverse f.operands) l.is ∙ reverse-reverse rest in
    let less : at < length (reverse f.operands) = some_within (reverse f.operands) at found.2 in
    let among : l.head.first + (l.head.cells + at) < l.stop = omega (arith, less, ap length same, behind, long, l.fits) in
    let place : l.head.first + (l.head.cells + at) ≡ l.head.first + l.head.cells + at = omega arith in
    record {
      head = l.head;
      within = l.within;
      head_is = l.head_is;
      inside = omega (arith, among, l.inside);
      read = λ d. ap (option_and_then (λ f. slice_get (reverse f.operands) at)) found.1
          ∙ (slice_get-get_or (reverse f.operands) at d less
          ∙ ap Some (ap (λ xs. get_or xs at d) same
          ∙ (get_or-drop l.head.cells own at d ∙ (read_at values l.head.first l.stop (l.head.cells + at) d among ∙ ap (λ k. get_or values k d) place))));
    }

-- the stack with other frames
abbrev pub stack_with : List Frame → ℕ → ℕ → Stack
stack_with frames room most = record { frames = frames; room = room; most = most }
