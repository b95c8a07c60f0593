-- Lines that a sink has taken, and what is left to tell.
use Rattle.std.proofs.Common.{◌≡◌, ℕ, zero, suc, ◌+◌, ◌<◌, ◌≤◌, List, [], ◌∷◌, ◌++◌, Option, Some, None, length, take, drop, refl, sym, ap, subst, ◌∙◌, append-nil, append_assoc, length-append, arith, ◌⊎◌, inl, inr}
use Rattle.std.proofs.Math.Seq.{take-append-add}
use Rattle.std.proofs.lemmas.Bool.{cases_lt}
use Rattle.pearl_rules.specs.declared.setup.Setup.{Setup}
use Rattle.pearl_rules.specs.Core.{Core, Report, Shows}
use Rattle.pearl_rules.specs.Pick.{Offered, shown_of, states_first, states}
use Rattle.pearl_io.specs.Outside.{Takes, TakesFront}
use Rattle.pearl_io.proofs.Offered.{takes_more}
use Rattle.pearl_script.specs.Lines.{report_line, lines_of}
use Rattle.pearl_script.proofs.Offered.{lines_of-append, lines_of-next}
use Rattle.pearl_machine.specs.Parts.{table}
use Rattle.pearl_machine.specs.Seen.{Seen, retold}
use Rattle.pearl_machine.specs.Told.{IsCutOff}

-- nothing was taken yet
pub takes_nothing : (old : Option (List ℕ)) → Takes old old []
takes_nothing None = refl
takes_nothing (Some bytes) = ap Some (sym (append-nil bytes))

-- lines, and then others
pub takes_lines : (setup : Setup) (old mid new : Option (List ℕ)) (told more : List (ℕ × Report)) →
    Takes old mid (lines_of setup told) → Takes mid new (lines_of setup more) → Takes old new (lines_of setup (told ++ more))
takes_lines setup old mid new told more first second =
    rw lines_of-append (takes_more old mid new (lines_of setup told) (lines_of setup more) first second)

-- lines, and then one more
pub takes_line : (setup : Setup) (old mid new : Option (List ℕ)) (done : List (ℕ × Report)) (report : ℕ × Report) (line : List ℕ) →
    line ≡ report_line setup report → Takes old mid (lines_of setup done) → Takes mid new line → Takes old new (lines_of setup (done ++ report ∷ []))
takes_line setup old mid new done report line is first second =
    rw lines_of-next (takes_more old mid new (lines_of setup done) (report_line setup report) first (subst (λ bytes. Takes mid new bytes) is second))

-- one report more is told
pub told_on : {X : Type 0} (told done rest more : List X) (x : X) → told ≡ done ++ rest → rest ≡ x ∷ more → told ≡ (done ++ x ∷ []) ++ more
told_on told done rest more x all first = all ∙ (ap (λ r. done ++ r) first ∙ sym (append_assoc done (x ∷ []) more))

-- the next line was taken in part
pub cut_here : (setup : Setup) (old mid new : Option (List ℕ)) (told done rest later : List (ℕ × Report)) (report : ℕ × Report) (line : List ℕ) →
    told ≡ done ++ rest → rest ≡ report ∷ later → line ≡ report_line setup report → Takes old mid (lines_of setup done) → TakesFront mid new line →
    IsCutOff setup old new told later
cut_here setup old mid new told done rest later report line all first is before front = record {
  before = done;
  cut = report;
  all = all ∙ ap (λ r. done ++ r) first;
  count = front.0;
  short = subst (λ bytes. front.0 < length bytes) is front.1;
  taken = takes_more old mid new (lines_of setup done) (take front.0 (report_line setup report)) before
      (subst (λ bytes. Takes mid new (take front.0 bytes)) is front.2);
}

-- a cut behind lines that were taken whole
pub cut_behind : (setup : Setup) (old mid new : Option (List ℕ)) (told more later : List (ℕ × Report)) → Takes old mid (lines_of setup told) →
    IsCutOff setup mid new more later → IsCutOff setup old new (told ++ more) later
cut_behind setup old mid new told more later first cut = record {
  before = told ++ cut.before;
  cut = cut.cut;
  all = ap (λ t. told ++ t) cut.all ∙ sym (append_assoc told cut.before (cut.cut ∷ later));
  count = cut.count;
  short = cut.short;
  taken = subst (λ bytes. Takes old new bytes)
      (sym (append_assoc (lines_of setup told) (lines_of setup cut.before) (take cut.count (report_line setup cut.cut)))
      ∙ ap (λ t. t ++ take cut.count (report_line setup cut.cut)) (sym (lines_of-append setup told cut.before)))
      (takes_more old mid new (lines_of setup told) (lines_of setup cut.before ++ take cut.count (report_line setup cut.cut)) first cut.taken);
}

-- of lines that were cut off, with more behind them, a front was taken
pub cut_front : (setup : Setup) (old new : Option (List ℕ)) (told later : List (ℕ × Report)) (more : List ℕ) → IsCutOff setup old new told later →
    TakesFront old new (lines_of setup told ++ more)
cut_front setup old new told later more cut =
    let line = report_line setup cut.cut in
    let front = lines_of setup cut.before in
    let rest = line ++ (lines_of setup later ++ more) in
    let all : lines_of setup told ++ more ≡ front ++ rest =
    ap (λ t. lines_of setup t ++ more) cut.all ∙ (ap (λ t. t ++ more) (lines_of-append setup cut.before (cut.cut ∷ later))
    ∙ (append_assoc front (line ++ lines_of setup later) more ∙ ap (λ t. front ++ t) (append_assoc line (lines_of setup later) more))) in
    let few : take cut.count line ≡ take cut.count rest = sym (take_front cut.count line (lines_of setup later ++ more) (omega (arith, cut.short))) in
    rw all (
      length front + cut.count,
      omega (arith, cut.short, length-append front rest, length-append line (lines_of setup later ++ more)),
      rw take-append-add (subst (λ bytes. Takes old new (front ++ bytes)) few cut.taken),
    )
  where
    take_front : (n : ℕ) (xs ys : List ℕ) → n ≤ length xs → take n (xs ++ ys) ≡ take n xs
    take_front zero xs ys less = refl
    take_front (suc n) [] ys less = let no : ⊥ = omega arith in absurd no
    take_front (suc n) (x ∷ xs) ys less = ap (λ zs. x ∷ zs) (take_front n xs ys (omega arith))

-- WHAT IS LEFT TO TELL

table_snoc : {X : Type 0} (n : ℕ) (f : ℕ → X) → table (suc n) f ≡ table n f ++ f n ∷ []
table_snoc zero f = refl
table_snoc (suc n) f = ap (λ xs. f 0 ∷ xs) (table_snoc n (λ i. f (suc i)))

-- how each task stands, place by place
pub states_table : (core : Core) (offers : Offered) (n : ℕ) → states_first core offers n ≡ table n (λ t. (core.moment, Shows t (shown_of core offers t)))
states_table core offers zero = refl
states_table core offers (suc n) =
    ap (λ xs. xs ++ (core.moment, Shows n (shown_of core offers n)) ∷ []) (states_table core offers n)
    ∙ sym (table_snoc n (λ t. (core.moment, Shows t (shown_of core offers t))))

-- the next one that is left
table_next : {X : Type 0} (n : ℕ) (f : ℕ → X) (i : ℕ) → i < n → drop i (table n f) ≡ f i ∷ drop (suc i) (table n f)
table_next zero f i less = let no : ⊥ = omega arith in absurd no
table_next (suc n) f zero less = refl
table_next (suc n) f (suc i) less = table_next n (λ j. f (suc j)) i (omega arith)

table_past : {X : Type 0} (n : ℕ) (f : ℕ → X) (i : ℕ) → n ≤ i → drop i (table n f) ≡ []
table_past zero f zero less = refl
table_past zero f (suc i) less = refl
table_past (suc n) f zero less = let no : ⊥ = omega arith in absurd no
table_past (suc n) f (suc i) less = table_past n (λ j. f (suc j)) i (omega arith)

pub state_next : (core : Core) (offers : Offered) (i : ℕ) → i < length core.tasks →
    drop i (states core offers) ≡ (core.moment, Shows i (shown_of core offers i)) ∷ drop (i + 1) (states core offers)
state_next core offers i less =
    ap (drop i) (states_table core offers (length core.tasks))
    ∙ (table_next (length core.tasks) (λ t. (core.moment, Shows t (shown_of core offers t))) i less
    ∙ (ap (λ xs. (core.moment, Shows i (shown_of core offers i)) ∷ drop (suc i) xs) (sym (states_table core offers (length core.tasks)))
    ∙ (let e : suc i ≡ i + 1 = omega arith in ap (λ n. (core.moment, Shows i (shown_of core offers i)) ∷ drop n (states core offers)) e)))

pub no_state : (core : Core) (offers : Offered) (i : ℕ) → length core.tasks ≤ i → drop i (states core offers) ≡ []
no_state core offers i past =
    ap (drop i) (states_table core offers (length core.tasks)) ∙ table_past (length core.tasks) (λ t. (core.moment, Shows t (shown_of core offers t))) i past

-- where none is left all have been written
pub none_left : (core : Core) (offers : Offered) (i : ℕ) → drop i (states core offers) ≡ [] → length core.tasks ≤ i
none_left core offers i e = by_order (less_or (length core.tasks) i)
  where
    less_or : (n i : ℕ) → (i < n) ⊎ (n ≤ i)
    less_or n i = cases_lt i n

    cons_nil : {X : Type 0} (x : X) (xs : List X) → x ∷ xs ≡ [] → ⊥
    cons_nil x xs e = cc

    by_order : (i < length core.tasks) ⊎ (length core.tasks ≤ i) → length core.tasks ≤ i
    by_order (inl less) = absurd (cons_nil _ _ (sym (state_next core offers i less) ∙ e))
    by_order (inr past) = past

-- what is told again of what was told
pub retold_on : (a b c : Seen) → b ≡ retold a b.state.core.told → c ≡ retold b c.state.core.told → c ≡ retold a c.state.core.told
retold_on a b c first second = second ∙ ap (λ (n : Seen). retold n c.state.core.told) first
