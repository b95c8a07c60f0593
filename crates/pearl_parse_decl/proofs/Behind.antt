-- What is told of a whole whose parts are read, are not read, or may be missing.
use Rattle.std.proofs.Common.{refl, ◌≡◌, ℕ, ◌+◌, ◌<◌, ◌≤◌, ◌||◌, sym, ap, ◌∙◌}
use Rattle.std.proofs.Common.{max, Result, Ok, Err, IfOk, IfErr, Bool, true, false, List, Vec, Option, Some, None, ◌⊎◌}
use Rattle.std.proofs.Common.{inl, inr}
use Rattle.std.proofs.Common.{length, subst, arith}
use Rattle.pearl_tree.specs.declared.token.Token.{Token}
use Rattle.pearl_tree.specs.declared.token.What.{What}
use Rattle.pearl_tree.specs.declared.token.What.TheVariants as what
use Rattle.pearl_tree.specs.Standing.{Spelling, SpellsMaybe, SpellsFlag, what_at}
use Rattle.pearl_tree.specs.Stops.{BeginAlike}
use Rattle.pearl_parse_expr.specs.declared.reading.Halt.{Halt}
use Rattle.pearl_parse_expr.specs.declared.reading.Halt.TheVariants.{Refused, NoMemory}
use Rattle.pearl_parse_expr.specs.Stops.{IsLongest, IsOnly, IsAhead, Stuck, EndsEarly, IsHalted}
use Rattle.pearl_parse_expr.specs.Least.{AlikeBefore, ReachesIn, GoesIn, HaltsIn, Reaches, IsLeast}
use Rattle.pearl_parse_expr.specs.Reads.{ReadsOnlyAs, ReadsOnly, ReadsAs, Reads, ReadsList, ReadsMaybe}
use Rattle.pearl_parse_expr.specs.declared.reading.Reading.{Reading}
use Rattle.pearl_parse_expr.proofs.Offered.{IsLocal, goes, goes_as, goes_max, halts_as, reach_of, reaches_as}
use Rattle.pearl_parse_expr.proofs.Offered.{shorter, or_first, or_second, clash}
use Rattle.pearl_parse_decl.specs.Readings.{IsOptional, IsPast, ReadsMaybePart}

-- ---- no part is read

module _ {X Y : Type 0} {room : ℕ} {told : List Token → Spelling Y} {part : List Token → Spelling X}
    {tokens : List Token} {from : ℕ} {halt : Halt}
    (refused : IsHalted part tokens from halt) (least : HaltsIn room part tokens from halt) where
  pub none_read : {extends : Option What → Bool} → ReadsAs room told part extends tokens from (Err halt)
  none_read = record { spells = tt; longest = tt; ahead = tt; refused = refused; least = least }

  pub none_only : ReadsOnlyAs room told part tokens from (Err halt)
  none_only = record { spells = tt; only = tt; ahead = tt; refused = refused; least = least }

-- want of memory
module _ {X Y : Type 0} {room : ℕ} {told : List Token → Spelling Y} {part : List Token → Spelling X}
    {extends : Option What → Bool}
    {tokens : List Token} {from : ℕ} (halt : Halt) (is : halt ≡ NoMemory) where
  pub no_memory_read : ReadsAs room told part extends tokens from (Err halt)
  no_memory_read = subst (λ halt. ReadsAs room told part extends tokens from (Err halt)) (sym is) (none_read tt tt)

  pub no_memory_maybe : {Z : Type 0} {some : List Token → Spelling Z} →
      ReadsMaybe room told part some extends tokens from (Err halt)
  no_memory_maybe {Z} {some} =
      subst (λ halt. ReadsMaybe room told part some extends tokens from (Err halt)) (sym is)
      (record { spells = tt; longest = tt; bounds = tt; refused = tt; least = tt })

-- `whole` has `first` at `at`
abbrev pub Has : {X Y : Type 0} → (List Token → Spelling X) → (List Token → Spelling Y) → List Token →
    ℕ → ℕ → ℕ → Type 0
Has {X} {Y} first whole tokens from at stop =
    (others : List Token) → BeginAlike tokens others stop → (y : Y) (to : ℕ) → whole others from y to →
    (x : X) × (k : ℕ) × first others at x k

-- parts that begin at the same token, where it was read up to `past` which of them there is
pub halted_past : {X Y : Type 0} (first : List Token → Spelling X) (whole : List Token →
    Spelling Y) (tokens : List Token) (from past : ℕ) (halt : Halt) →
    IsPast past halt → Has first whole tokens from from past →
    IsHalted first tokens from halt → IsHalted whole tokens from halt
halted_past first whole tokens from past NoMemory far has h = tt
halted_past first whole tokens from past (Refused last) far has h = (
  λ others agree y to whole.
      let read = has others (shorter tokens others past last far agree) y to whole in
      h.0 others agree read.0 read.1 read.2,
  h.1,
  h.2,
)

-- a part that may be missing at the end: what it stands behind ends early only where it is missing
pub last : (first second : Option What → Bool) (others : List Token) (d e f to : ℕ) → e ≤ f →
    (first (what_at others d) ≡ true → to ≡ d) → (d ≡ e) ⊎ EndsEarly first others e d →
    (d ≡ e → (to ≡ f) ⊎ EndsEarly second others f to) →
    (to ≡ f) ⊎ EndsEarly (λ token. first token || second token) others f to
last first second others d e f to near missing (inl same) rest = by_second (rest same)
  where
    by_second : (to ≡ f) ⊎ EndsEarly second others f to →
        (to ≡ f) ⊎ EndsEarly (λ token. first token || second token) others f to
    by_second (inl end) = inl end
    by_second (inr early) = inr (early.0, or_second (first (what_at others to)) (second (what_at others to)) early.1)
last first second others d e f to near missing (inr early) rest =
    let same = missing early.1 in
    inr (
      omega (arith, same, early.0),
      or_first (first (what_at others to)) (second (what_at others to))
          (subst (λ k. first (what_at others k) ≡ true) (sym same) early.1),
    )

pub ends_as : (first second : Option What → Bool) (others : List Token) (end to : ℕ) →
    ((token : Option What) → first token ≡ true → second token ≡ true) →
    (to ≡ end) ⊎ EndsEarly first others end to → (to ≡ end) ⊎ EndsEarly second others end to
ends_as first second others end to more (inl same) = inl same
ends_as first second others end to more (inr early) = inr (early.0, more (what_at others to) early.1)

-- where no such part begins, none is read
pub maybe_is_none : {X : Type 0} (spells : List Token → Spelling X) (extends : Option What →
    Bool) (tokens : List Token) (from stop : ℕ) →
    Stuck spells tokens from stop → IsLongest (λ tokens. SpellsMaybe (spells tokens)) extends tokens from from stop
maybe_is_none {X} spells extends tokens from stop stuck = λ others agree x to h.
    by others (λ x to h. stuck others agree x to h) x to h
  where
    by : (others : List Token) → ((x : X) (to : ℕ) → spells others from x to → ⊥) →
        (x : Option X) (to : ℕ) → SpellsMaybe (spells others) from x to →
        (to ≡ from) ⊎ EndsEarly extends others from to
    by others none None to h = inl h
    by others none (Some x) to h = absurd (none x to h)

-- a part that may be missing, where it is there
pub maybe_is_longest : {X : Type 0} (spells : List Token → Spelling X) (extends : Option What →
    Bool) (tokens : List Token) (from end stop : ℕ) →
    from < end → end ≤ stop → extends (what_at tokens from) ≡ true → IsOnly spells tokens from end stop →
    IsLongest (λ tokens. SpellsMaybe (spells tokens)) extends tokens from end stop
maybe_is_longest {X} spells extends tokens from end stop ahead near opens only =
    λ others agree x to h. by others agree x to h
  where
    by : (others : List Token) → BeginAlike tokens others stop → (x : Option X) (to : ℕ) →
        SpellsMaybe (spells others) from x to → (to ≡ end) ⊎ EndsEarly extends others end to
    by others agree None to h =
        inr (
          omega (arith, h),
          subst (λ k. extends (what_at others k) ≡ true) (sym h)
              (ap extends (sym (agree from (omega arith))) ∙ opens),
        )
    by others agree (Some x) to h = inl (only others agree x to h)

-- ---- how far some part goes on

-- a part that is told as another one is
pub least_as : {X Y Z : Type 0} (spells : List Token → Spelling X) (whole : List Token →
    Spelling Y) (tokens : List Token) (from : ℕ) (result : Result (Reading Z) Halt) →
    ((stop : ℕ) → stop ≤ length tokens → Reaches spells tokens from stop → Reaches whole tokens from stop) →
    IfOk result (λ reading. IsAhead tokens from reading.end reading.stop) →
    IfErr result (λ halt. IsHalted spells tokens from halt) →
    IsLeast spells tokens from result → IsLeast whole tokens from result
least_as spells whole tokens from (Ok reading) step ahead none h =
    goes_as spells whole tokens from from reading.end reading.stop (step reading.stop ahead.2) h
least_as spells whole tokens from (Err halt) step ahead none h =
    halts_as spells whole tokens from from halt (λ stop near within r. step stop within r) none h

-- ---- a part within a whole

-- a whole from `from` goes on as far as its part at `at` does
pub record Holds {X Y : Type 0} (inner room : ℕ) (part : List Token → Spelling X) (whole : List Token → Spelling Y)
    (tokens : List Token) (from at : ℕ) : Type 0 where
  pub carries : (stop : ℕ) → at ≤ stop → stop ≤ length tokens → ReachesIn inner part tokens at stop →
      ReachesIn room whole tokens from stop

-- it ends with the part
pub ends_with : {X Y : Type 0} (part : List Token → Spelling X) (whole : List Token → Spelling Y)
    (tokens : List Token) (from at : ℕ) → from ≤ at → ((others : List Token) (stop : ℕ) → at ≤ stop →
    stop ≤ length others → AlikeBefore tokens others stop → (x : X) → part others at x (length others) →
    (y : Y) × whole others from y (length others)) → Holds 16 16 part whole tokens from at
ends_with part whole tokens from at before makes = record {
  carries = λ stop near within r. reaches_as part whole tokens from at stop before
      (λ others alike long short x h. makes others stop near long alike x h) r;
}

-- a part as it was read, and stopped
pub record WasRead {X : Type 0} (room : ℕ) (part : List Token → Spelling X) (tokens : List Token) (from : ℕ) (x : X)
    (end stop : ℕ) : Type 0 where
  pub spells : part tokens from x end
  pub within : (from ≤ end) × (end ≤ stop) × (stop ≤ length tokens)
  pub least : GoesIn room part tokens from end stop

module _ {X : Type 0} {room : ℕ} {part : List Token → Spelling X} {tokens : List Token} {from : ℕ}
    {reading : Reading X} where
  module _ {extends : Option What → Bool} where
    pub longest_is_read : Reads room part extends tokens from (Ok reading) →
        WasRead room part tokens from reading.part reading.end reading.stop
    longest_is_read read = record {
      spells = read.spells;
      within = (omega (arith, read.ahead), read.ahead.1, read.ahead.2);
      least = read.least;
    }

    pub maybe_is_read : ReadsMaybePart room part extends tokens from (Ok reading) →
        WasRead room part tokens from reading.part reading.end reading.stop
    maybe_is_read read = record {
      spells = read.spells;
      within = (read.bounds.0, read.bounds.1, read.bounds.3);
      least = read.least;
    }

pub list_is_read : {X A : Type 0} {room : ℕ} (part : List Token → Spelling (List X))
    {extends : Option What → Bool} {tokens : List Token} {from : ℕ} {reading : Reading (Vec X A)} →
    ReadsList room part extends tokens from (Ok reading) →
    WasRead room part tokens from reading.part.items reading.end reading.stop
list_is_read part read = record {
  spells = read.spells;
  within = (omega (arith, read.ahead), read.ahead.1, read.ahead.2);
  least = read.least;
}

module _ {X Y : Type 0} {inner room : ℕ} {part : List Token → Spelling X} {whole : List Token → Spelling Y}
    {tokens : List Token} {from at : ℕ} (holds : Holds inner room part whole tokens from at) where
  -- the part is not read
  pub part_unread : {Z : Type 0} {told : List Token → Spelling Z} {halt : Halt} → IsHalted whole tokens from halt →
      IsHalted part tokens at halt → HaltsIn inner part tokens at halt →
      ReadsOnlyAs room told whole tokens from (Err halt)
  part_unread {Z} {told} {halt} refused none least =
      none_only refused (halts_as part whole tokens from at halt holds.carries none least)

  module _ {x : X} {end stop : ℕ} (read : WasRead inner part tokens at x end stop) where
    -- the whole ends with it
    pub part_ends : {Z : Type 0} {told : List Token → Spelling Z} {extends : Option What → Bool} {z : Z} →
        told tokens from z end → IsLongest whole extends tokens from end stop → IsAhead tokens from end stop →
        ReadsAs room told whole extends tokens from (Ok (record { part = z; end = end; stop = stop }))
    part_ends spells longest ahead = record {
      spells = spells;
      longest = longest;
      ahead = ahead;
      refused = tt;
      least = goes_as part whole tokens from at end stop
          (λ r. holds.carries stop (omega (arith, read.within)) read.within.2 r) read.least;
    }

    module _ (local : IsLocal part) where
      -- as far as it was stopped some whole goes on
      pub unclosed : ReachesIn room whole tokens from stop
      unclosed =
          holds.carries stop (omega (arith, read.within)) read.within.2
          (reach_of part tokens local at x end stop read.spells read.within.0 (omega (arith, read.within)) read.least)

      -- the token is missing that closes the whole
      pub part_unclosed : {Z : Type 0} {told : List Token → Spelling Z} → IsHalted whole tokens from (Refused stop) →
          ReadsOnlyAs room told whole tokens from (Err (Refused stop))
      part_unclosed none = none_only none unclosed

      -- it closes the whole
      pub part_closed : {Z : Type 0} {told : List Token → Spelling Z} {z : Z} {last : ℕ} → last ≡ max stop (end + 1) →
          told tokens from z (end + 1) → IsOnly whole tokens from (end + 1) last → IsAhead tokens from (end + 1) last →
          ReadsOnlyAs room told whole tokens from (Ok (record { part = z; end = end + 1; stop = last }))
      part_closed {Z} {told} {z} {last} is spells only ahead = record {
        spells = spells;
        only = only;
        ahead = ahead;
        refused = tt;
        least = goes_max whole tokens from stop (end + 1) last is unclosed;
      }

-- ---- a part that may be missing

module _ {X : Type 0} (spells : List Token → Spelling X) (extends : Option What → Bool) (tokens : List Token)
    (from : ℕ) where
  -- what may be missing goes on as it does where it stands
  maybe_reaches : (stop : ℕ) → Reaches spells tokens from stop →
      Reaches (λ tokens. SpellsMaybe (spells tokens)) tokens from stop
  maybe_reaches stop r =
      reaches_as spells (λ tokens. SpellsMaybe (spells tokens)) tokens from from stop (omega arith)
      (λ others alike long short x h. (Some x, h)) r

  -- it is missing
  maybe_missing : (stop : ℕ) → IsHalted spells tokens from (Refused stop) →
      Reaches spells tokens from stop →
      ReadsMaybePart 16 (λ tokens. SpellsMaybe (spells tokens)) extends tokens from
      (Ok (record { part = None; end = from; stop = stop }))
  maybe_missing stop none r = record {
    spells = refl;
    longest = maybe_is_none spells extends tokens from stop none.0;
    bounds = (omega arith, none.1, none.1, none.2);
    refused = tt;
    least = goes (λ tokens. SpellsMaybe (spells tokens)) tokens from from stop (maybe_reaches stop r);
  }

  -- it stands there
  maybe_stands : (reading : Reading X) → extends (what_at tokens from) ≡ true →
      ReadsOnly 16 spells tokens from (Ok reading) →
      ReadsMaybePart 16 (λ tokens. SpellsMaybe (spells tokens)) extends tokens from
      (Ok (record { part = Some reading.part; end = reading.end; stop = reading.stop }))
  maybe_stands reading opens read = record {
    spells = read.spells;
    longest = maybe_is_longest spells extends tokens from reading.end reading.stop (omega (arith, read.ahead))
        (omega (arith, read.ahead)) opens read.only;
    bounds =
        (omega (arith, read.ahead), omega (arith, read.ahead), omega (arith, read.ahead), omega (arith, read.ahead));
    refused = tt;
    least = goes_as spells (λ tokens. SpellsMaybe (spells tokens)) tokens from from reading.end reading.stop
        (maybe_reaches reading.stop) read.least;
  }

  -- either, as it is told
  pub maybe_reads : (opens : (x : X) (to : ℕ) → spells tokens from x to → extends (what_at tokens from) ≡ true)
      (read : Result (Reading X) Halt) (maybe : Reading (Option X)) → IsOptional from read maybe →
      ReadsOnly 16 spells tokens from read →
      ReadsMaybePart 16 (λ tokens. SpellsMaybe (spells tokens)) extends tokens from (Ok maybe)
  maybe_reads opens (Ok reading) maybe is read =
      subst (λ maybe. ReadsMaybePart 16 (λ tokens. SpellsMaybe (spells tokens)) extends tokens from (Ok maybe)) (sym is)
      (maybe_stands reading (opens reading.part reading.end read.spells) read)
  maybe_reads opens (Err (Refused stop)) maybe is none =
      subst (λ maybe. ReadsMaybePart 16 (λ tokens. SpellsMaybe (spells tokens)) extends tokens from (Ok maybe)) (sym is)
      (maybe_missing stop none.refused none.least)
  maybe_reads opens (Err NoMemory) maybe is none = absurd is

-- where a token stands that is not this word, no flag does
pub no_flag : (first : Option What → Bool) (word : ℕ) → first (Some (what.Word word)) ≡ false →
    (others : List Token) (m : ℕ) (stands : Bool) (to : ℕ) → SpellsFlag others word m stands to →
    first (what_at others m) ≡ true → to ≡ m
no_flag first word other others m false to h opens = h
no_flag first word other others m true to h opens = absurd (clash _ opens (ap first h.0 ∙ other))
