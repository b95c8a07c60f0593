-- The last mark that was made, and the line that was cut.
use Rattle.std.proofs.Common.{◌≡◌, ℕ, suc, ◌-◌, ◌<◌, ◌≤◌, ◌⊎◌, inl, inr, List, [], ◌∷◌, ◌++◌, Option, Some, None, refl, sym, ap, subst, ◌∙◌, append_assoc, arith}
use Rattle.pearl_rules.specs.declared.entry.Entry.{Entry}
use Rattle.pearl_rules.specs.declared.entry.Entry.TheVariants.{Run, Tick, Pass, State}
use Rattle.pearl_rules.specs.Core.{Report}
use Rattle.pearl_rules.specs.Runs.{Mark, Acts, Tells, Passes, Arrives, Coming, next_mark, unsettled}
use Rattle.pearl_instructions.specs.Setups.{setup_of}
use Rattle.pearl_io.specs.Outside.{Takes}
use Rattle.pearl_script.specs.Lines.{lines_of}
use Rattle.pearl_machine.specs.Seen.{Seen, Handles, Makes, ActsFirst, PassesSome, picked, retold}
use Rattle.pearl_machine.specs.Told.{IsCutOff, IsCutInLastMark}
use Rattle.pearl_machine.proofs.Going.{handles_none, handles_then, handles_mark, handles_retold, handles_front}
use Rattle.pearl_machine.proofs.Taken.{takes_nothing, takes_lines, cut_behind}

-- a mark was made where the machine stood, and a line of it was cut
pub last_here : (a l m w : Seen) (from coming left : List Entry) (mark : Mark) (earlier : List (ℕ × Report))
    (old mid new : Option (List ℕ)) →
    l.object ≡ a.object → m.object ≡ l.object → unsettled l.state ≡ None → Handles a from coming l earlier →
    Makes l mark m →
    ((rest : List Entry) → next_mark (picked l) (coming ++ rest) ≡ Some (record { mark = mark; rest = left ++ rest })) →
    w ≡ retold m w.state.core.told → Takes old mid (lines_of (setup_of a.object) earlier) →
    IsCutOff (setup_of m.object) mid new m.state.core.told w.state.core.told → IsCutInLastMark a from w old new
last_here a l m w from coming left mark earlier old mid new object made settled comes makes next same whole cut = record {
  stood = l;
  coming = coming;
  earlier = earlier;
  object = object;
  comes = comes;
  between = mid;
  whole = whole;
  mark = mark;
  left = left;
  settled = settled;
  next = next;
  told = m.state.core.told;
  makes = subst (λ s. Makes l mark s) (sym (ap (λ (x : Seen). retold x m.state.core.told) same)) makes;
  cut = subst (λ o. IsCutOff (setup_of o) mid new m.state.core.told w.state.core.told) (made ∙ object) cut;
}

-- so it is also behind what was handled before, whose lines were taken whole
pub last_behind : (a b c : Seen) (from mid : List Entry) (told : List (ℕ × Report)) (old between new : Option
    (List ℕ)) → b.object ≡ a.object →
    Handles a from mid b told → Takes old between (lines_of (setup_of a.object) told) →
    IsCutInLastMark b mid c between new → IsCutInLastMark a from c old new
last_behind a b c from mid told old between new object handles takes last = record {
  stood = last.stood;
  coming = last.coming;
  earlier = told ++ last.earlier;
  object = last.object ∙ object;
  comes = handles_then a b last.stood from mid last.coming told last.earlier object handles last.comes;
  between = last.between;
  whole = takes_lines (setup_of a.object) old between last.between told last.earlier takes
      (subst (λ o. Takes between last.between (lines_of (setup_of o) last.earlier)) object last.whole);
  mark = last.mark;
  left = last.left;
  settled = last.settled;
  next = last.next;
  told = last.told;
  makes = last.makes;
  cut = subst (λ o. IsCutOff (setup_of o) last.between new last.told c.state.core.told) object last.cut;
}

-- so it is also where more entries come behind
pub last_front : (b c : Seen) (from more : List Entry) (old new : Option (List ℕ)) →
    IsCutInLastMark b from c old new → IsCutInLastMark b (from ++ more) c old new
last_front b c from more old new last = record {
  stood = last.stood;
  coming = last.coming ++ more;
  earlier = last.earlier;
  object = last.object;
  comes = handles_front b last.stood from last.coming more last.earlier last.comes;
  between = last.between;
  whole = last.whole;
  mark = last.mark;
  left = last.left ++ more;
  settled = last.settled;
  next = λ rest. ap (next_mark (picked last.stood)) (append_assoc last.coming more rest) ∙ (last.next (more ++ rest)
      ∙ ap (λ r. let coming : Coming = record { mark = last.mark; rest = r } in Some coming) (sym
      (append_assoc last.left more rest)));
  told = last.told;
  makes = last.makes;
  cut = last.cut;
}

-- so it is also where the tasks had settled before
pub last_settled : (a b c : Seen) (entry e : Entry) (old new : Option (List ℕ)) → b.object ≡ a.object →
    ((from : List Entry) → Handles a from from b []) →
    entry ≡ e → IsCutInLastMark b (e ∷ []) c old new → IsCutInLastMark a (entry ∷ []) c old new
last_settled a b c entry e old new object settles is last =
    subst (λ x. IsCutInLastMark a (x ∷ []) c old new) (sym is)
    (last_behind a b c (e ∷ []) (e ∷ []) [] old old new object (settles (e ∷ [])) (takes_nothing old) last)

-- the tasks' states
pub last_state : (a b s w : Seen) (entry : Entry) (old new : Option (List ℕ)) → b.object ≡ a.object →
    ((from : List Entry) → Handles a from from b []) →
    entry ≡ State → unsettled b.state ≡ None → s.object ≡ b.object → Makes b Tells s → w ≡ retold s w.state.core.told →
    IsCutOff (setup_of s.object) old new s.state.core.told w.state.core.told → IsCutInLastMark a (entry ∷ []) w old new
last_state a b s w entry old new object settles is settled made makes same cut =
    last_settled a b w entry State old new object settles is
    (last_here b b s w (State ∷ []) (State ∷ []) [] Tells [] old old new refl made settled (handles_none b
    (State ∷ [])) makes (λ rest. refl) same
    (takes_nothing old) cut)

-- what comes from outside
pub last_arrival : (a b m w : Seen) (entry : Entry) (old new : Option (List ℕ)) → b.object ≡ a.object →
    ((from : List Entry) → Handles a from from b []) →
    ((p : Option ℕ) (rest : List Entry) →
    next_mark p (entry ∷ rest) ≡ Some (record { mark = Arrives entry; rest = rest })) → unsettled b.state ≡ None →
    m.object ≡ b.object → Makes b (Arrives entry) m → w ≡ retold m w.state.core.told →
    IsCutOff (setup_of m.object) old new m.state.core.told w.state.core.told → IsCutInLastMark a (entry ∷ []) w old new
last_arrival a b m w entry old new object settles comes settled made makes same cut =
    last_settled a b w entry entry old new object settles refl
    (last_here b b m w (entry ∷ []) (entry ∷ []) [] (Arrives entry) [] old old new refl made settled (handles_none b
    (entry ∷ [])) makes
    (λ rest. comes (picked b) rest) same (takes_nothing old) cut)

-- a pick
pub last_pick : (a l m w : Seen) (from : List Entry) (n : ℕ) (earlier : List (ℕ × Report)) (old mid new : Option
    (List ℕ)) →
    l.object ≡ a.object → m.object ≡ l.object → unsettled l.state ≡ None → 0 < n →
    Handles a from (Run n ∷ []) l earlier → ActsFirst l m →
    w ≡ retold m w.state.core.told → Takes old mid (lines_of (setup_of a.object) earlier) →
    IsCutOff (setup_of m.object) mid new m.state.core.told w.state.core.told → IsCutInLastMark a from w old new
last_pick a l m w from n earlier old mid new object made settled some comes acts same whole cut =
    last_here a l m w from (Run n ∷ []) (Run (n - 1) ∷ [])
    (Acts acts.task) earlier old mid new object made settled comes acts.makes
    (λ rest. let e : n ≡ suc (n - 1) = omega arith in
    ap (λ p. next_mark p (Run n ∷ rest)) acts.picks ∙ ap (λ k. next_mark (Some acts.task) (Run k ∷ rest)) e)
    same whole cut

-- nothing that is told has no line that was cut
no_line : {X : Type 0} (told before later : List X) (x : X) → told ≡ [] → told ≡ before ++ x ∷ later → ⊥
no_line told [] later x none all = cc
no_line told (y ∷ ys) later x none all = cc

-- a millisecond; of several that pass at once none has a line
pub last_millisecond : (a l m w : Seen) (from coming left : List Entry) (n : ℕ) (earlier : List (ℕ × Report))
    (old mid new : Option (List ℕ)) →
    l.object ≡ a.object → unsettled l.state ≡ None → Handles a from coming l earlier → PassesSome l n m →
    (n ≡ 1 → (rest : List Entry) →
    next_mark (picked l) (coming ++ rest) ≡ Some (record { mark = Passes; rest = left ++ rest })) →
    w ≡ retold m w.state.core.told → Takes old mid (lines_of (setup_of a.object) earlier) →
    IsCutOff (setup_of m.object) mid new m.state.core.told w.state.core.told → IsCutInLastMark a from w old new
last_millisecond a l m w from coming left n earlier old mid new object settled comes passes next same whole cut =
    by_tells passes.tells
  where
    by_tells : (m.state.core.told ≡ []) ⊎ ((n ≡ 1) × Makes l Passes m) → IsCutInLastMark a from w old new
    by_tells (inl none) = absurd (no_line m.state.core.told cut.before w.state.core.told cut.cut none cut.all)
    by_tells (inr (one, makes)) =
        last_here a l m w from coming left Passes earlier old mid new object passes.object settled comes makes
        (next one) same whole cut

pub last_tick : (a l m w : Seen) (from : List Entry) (left n : ℕ) (earlier : List (ℕ × Report)) (old mid new : Option
    (List ℕ)) →
    l.object ≡ a.object → unsettled l.state ≡ None → Handles a from (Tick left ∷ []) l earlier → n ≤ left →
    PassesSome l n m →
    w ≡ retold m w.state.core.told → Takes old mid (lines_of (setup_of a.object) earlier) →
    IsCutOff (setup_of m.object) mid new m.state.core.told w.state.core.told → IsCutInLastMark a from w old new
last_tick a l m w from left n earlier old mid new object settled comes within passes same whole cut =
    last_millisecond a l m w from (Tick left ∷ []) (Tick
    (left - n) ∷ []) n earlier old mid new object settled comes passes
    (λ one rest. let e : left ≡ suc (left - n) = omega (arith, one, within) in ap (λ k. next_mark (picked l)
    (Tick k ∷ rest)) e)
    same whole cut

pub last_pass : (a l m w : Seen) (from : List Entry) (left picks n : ℕ) (earlier : List (ℕ × Report))
    (old mid new : Option (List ℕ)) →
    l.object ≡ a.object → unsettled l.state ≡ None → Handles a from (Pass left picks ∷ []) l earlier → n ≤ left →
    PassesSome l n m →
    w ≡ retold m w.state.core.told → Takes old mid (lines_of (setup_of a.object) earlier) →
    IsCutOff (setup_of m.object) mid new m.state.core.told w.state.core.told → IsCutInLastMark a from w old new
last_pass a l m w from left picks n earlier old mid new object settled comes within passes same whole cut =
    last_millisecond a l m w from (Pass left picks ∷ []) (Run picks ∷ Pass
    (left - n) picks ∷ []) n earlier old mid new object settled comes passes
    (λ one rest. let e : left ≡ suc (left - n) = omega (arith, one, within) in ap (λ k. next_mark (picked l)
    (Pass k picks ∷ rest)) e)
    same whole cut

-- WHAT FOLLOWS

-- what was told on the way, and which lines of it were taken
pub cut_of_last : (a c : Seen) (from : List Entry) (old new : Option (List ℕ)) → IsCutInLastMark a from c old new →
    (told : List (ℕ × Report)) × (left : List Entry) × Handles a from left c told × IsCutOff
    (setup_of a.object) old new told c.state.core.told
cut_of_last a c from old new last =
    let made = retold c last.told in (
      last.earlier ++ last.told,
      last.left,
      handles_retold a made from last.left (last.earlier ++ last.told) c.state.core.told
          (handles_then a last.stood made from last.coming last.left last.earlier last.told last.object last.comes
          (handles_mark last.stood made last.coming last.left last.mark last.settled last.makes last.next)),
      cut_behind (setup_of a.object) old last.between new last.earlier last.told c.state.core.told last.whole last.cut,
    )
