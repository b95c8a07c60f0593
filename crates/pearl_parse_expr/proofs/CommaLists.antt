-- Lists with commas: what other tokens can spell that begin as these do, read up to some part, and what is known of a
-- list that is read part for part.
use Rattle.std.proofs.Common.{◌≡◌, ℕ, ◌+◌, ◌<◌, ◌≤◌, max, Bool, true, false, List, [], ◌∷◌, ◌++◌, Option, Some}
use Rattle.std.proofs.Common.{Vec, Ok, Err, ◌⊎◌, inl, inr, refl, sym, ap, subst, ◌∙◌, arith}
use Rattle.pearl_tree.specs.declared.token.What.{What}
use Rattle.pearl_tree.specs.declared.token.What.TheVariants as what
use Rattle.pearl_tree.specs.declared.token.Token.{Token}
use Rattle.pearl_tree.specs.Standing.{Spelling, what_at, HasSymbol, SpellsMore, SpellsList}
use Rattle.pearl_tree.specs.declared.symbol.TheConstants as s
use Rattle.pearl_tree.specs.Stops.{BeginAlike}
use Rattle.pearl_parse_expr.specs.declared.reading.Halt.{Halt}
use Rattle.pearl_parse_expr.specs.declared.reading.Halt.TheVariants.{Refused, NoMemory}
use Rattle.pearl_parse_expr.specs.declared.reading.Reading.{Reading}
use Rattle.pearl_parse_expr.specs.Stops.{IsLongest, IsAhead, Stuck, EndsEarly, is_symbol, by_comma}
use Rattle.pearl_parse_expr.specs.Least.{Reaches}
use Rattle.pearl_parse_expr.specs.Readings.{ended}
use Rattle.pearl_parse_expr.specs.Reads.{Reads, ReadsList}
use Rattle.pearl_parse_expr.proofs.ListReach.{list_goes, list_goes_on}
use Rattle.pearl_parse_expr.proofs.Lists.{list_one_more}
use Rattle.pearl_parse_expr.proofs.LocalLists.{Kept, local_of}
use Rattle.pearl_parse_expr.proofs.Parts.{shorter, or_first, or_second}
use Rattle.pearl_parse_expr.proofs.Primaries.{clash}
use Rattle.pearl_parse_expr.proofs.Reaching.{goes, reach_of, reaches_max}
use Rattle.pearl_parse_expr.proofs.Readings.{longest_read, unread}

pub first_of : {X : Type 0} (tokens : List Token) (spells : Spelling X) (from : ℕ) (xs : List X) (to : ℕ) →
    SpellsList tokens spells from xs to →
    (x : X) × (m : ℕ) × spells from x m
first_of tokens spells from [] to h = absurd h
first_of tokens spells from (x ∷ xs) to h = (x, h.0, h.1)

module _ {X : Type 0} (spells : List Token → Spelling X) (extends : Option What → Bool) where
  -- a list from `from` ends early, or goes through `end`
  abbrev pub ListGoes : List Token → ℕ → ℕ → ℕ → Type 0
  ListGoes tokens from end stop =
      (others : List Token) → BeginAlike tokens others stop → (xs : List X) (to : ℕ) →
      SpellsList others (spells others) from xs to →
      EndsEarly (by_comma extends) others end to ⊎ ((ys : List X) × SpellsMore others (spells others) end ys to)

  module _ (no_comma : extends (Some (what.Symbol s.COMMA)) ≡ false) where
    -- behind one more part
    after_part : (others : List Token) (end m to : ℕ) (ys : List X) → SpellsMore others (spells others) m ys to →
        (m ≡ end) ⊎ EndsEarly extends others end m →
        EndsEarly (by_comma extends) others end to ⊎ ((ys : List X) × SpellsMore others (spells others) end ys to)
    after_part others end m to ys h (inl same) =
        inr (ys, subst (λ k. SpellsMore others (spells others) k ys to) same h)
    after_part others end m to [] h (inr early) =
        inl (
          omega (arith, h, early.0),
          subst (λ k. by_comma extends (what_at others k) ≡ true) (sym h)
              (or_first (extends (what_at others m)) (is_symbol s.COMMA (what_at others m)) early.1),
        )
    after_part others end m to (y ∷ ys) h (inr early) = absurd (clash _ early.1 (ap extends h.1 ∙ no_comma))

    begins : (others : List Token) (from end : ℕ) →
        ((x : X) (to : ℕ) → spells others from x to → (to ≡ end) ⊎ EndsEarly extends others end to) →
        (xs : List X) (to : ℕ) → SpellsList others (spells others) from xs to →
        EndsEarly (by_comma extends) others end to ⊎ ((ys : List X) × SpellsMore others (spells others) end ys to)
    begins others from end longest [] to h = absurd h
    begins others from end longest (x ∷ xs) to h = after_part others end h.0 to xs h.2 (longest x h.0 h.1)

    pub list_begins : (tokens : List Token) (from end stop : ℕ) → IsLongest spells extends tokens from end stop →
        ListGoes tokens from end stop
    list_begins tokens from end stop longest = λ others agree xs to h. begins others from end
        (λ x to h. longest others agree x to h) xs to h

    step : (others : List Token) (end next to : ℕ) → end < next → HasSymbol others end s.COMMA →
        ((x : X) (to : ℕ) → spells others (end + 1) x to → (to ≡ next) ⊎ EndsEarly extends others next to) →
        EndsEarly (by_comma extends) others end to ⊎ ((ys : List X) ×
        SpellsMore others (spells others) end ys to) →
        EndsEarly (by_comma extends) others next to ⊎ ((ys : List X) × SpellsMore others (spells others) next ys to)
    step others end next to ahead comma longest (inl early) = inl (omega (arith, early.0), early.1)
    step others end next to ahead comma longest (inr ([], h)) =
        inl (
          omega (arith, h),
          subst (λ k. by_comma extends (what_at others k) ≡ true) (sym h)
              (or_second (extends (what_at others end)) (is_symbol s.COMMA (what_at others end))
              (ap (is_symbol s.COMMA) comma)),
        )
    step others end next to ahead comma longest (inr (y ∷ ys, h)) =
        after_part others next h.0 to ys h.3 (longest y h.0 h.2)

    pub list_next : (tokens : List Token) (from end stop next last new : ℕ) → ListGoes tokens from end stop →
        end ≤ stop → end < next →
        stop ≤ new → last ≤ new → HasSymbol tokens end s.COMMA →
        IsLongest spells extends tokens (end + 1) next last → ListGoes tokens from next new
    list_next tokens from end stop next last new go near ahead below reach comma longest = λ others agree xs to h.
        step others end next to ahead (sym (agree end (omega arith)) ∙ comma)
        (λ x to h. longest others (shorter tokens others last new reach agree) x to h)
        (go others (shorter tokens others stop new below agree) xs to h)

  ends : (others : List Token) (end to : ℕ) →
      (HasSymbol others end s.COMMA → (x : X) (to : ℕ) → spells others (end + 1) x to → ⊥) →
      EndsEarly (by_comma extends) others end to ⊎ ((ys : List X) × SpellsMore others (spells others) end ys to) →
      (to ≡ end) ⊎ EndsEarly (by_comma extends) others end to
  ends others end to stuck (inl early) = inr early
  ends others end to stuck (inr ([], h)) = inl h
  ends others end to stuck (inr (y ∷ ys, h)) = absurd (stuck h.1 y h.0 h.2)

  pub list_ends : (tokens : List Token) (from end stop : ℕ) → ListGoes tokens from end stop → end ≤ stop →
      is_symbol s.COMMA (what_at tokens end) ≡ false →
      IsLongest (λ tokens. SpellsList tokens (spells tokens)) (by_comma extends) tokens from end stop
  list_ends tokens from end stop go near no_comma = λ others agree xs to h.
      ends others end to
      (λ comma x to h. clash _ (ap (is_symbol s.COMMA) comma)
      (ap (is_symbol s.COMMA) (sym (agree end near)) ∙ no_comma))
      (go others agree xs to h)

  pub list_is_stuck : (tokens : List Token) (from end stop last new : ℕ) → ListGoes tokens from end stop →
      stop ≤ new → last ≤ new →
      Stuck spells tokens (end + 1) last →
      IsLongest (λ tokens. SpellsList tokens (spells tokens)) (by_comma extends) tokens from end new
  list_is_stuck tokens from end stop last new go below reach stuck = λ others agree xs to h.
      ends others end to
      (λ comma x to h. stuck others (shorter tokens others last new reach agree) x to h)
      (go others (shorter tokens others stop new below agree) xs to h)

-- ---- a list, read part for part

abbrev pub TheList : {X : Type 0} → (List Token → Spelling X) → List Token → Spelling (List X)
TheList part tokens = SpellsList tokens (part tokens)

-- these parts with commas between them were read up to `end`, and some list goes on as far as `stop`
pub record ListRead {X : Type 0} (part : List Token → Spelling X) (extends : Option What → Bool)
    (tokens : List Token) (from : ℕ) (list : List X) (end stop : ℕ) : Type 0 where
  pub spells : SpellsList tokens (part tokens) from list end
  pub goes : ListGoes part extends tokens from end stop
  pub ahead : IsAhead tokens from end stop
  pub reach : Reaches (λ tokens. SpellsList tokens (part tokens)) tokens from stop

-- a part as it was read
part_reach : {X : Type 0} (part : List Token → Spelling X) (extends : Option What → Bool) → Kept 1 part →
    (tokens : List Token) (from : ℕ) (reading : Reading X) → Reads 16 part extends tokens from (Ok reading) →
    Reaches part tokens from reading.stop
part_reach part extends kept tokens from reading read =
    reach_of part tokens (local_of 1 part kept) from reading.part reading.end reading.stop read.spells
    (omega (arith, read.ahead)) (omega (arith, read.ahead)) read.least

module _ {X : Type 0} (part : List Token → Spelling X) (extends : Option What → Bool) (kept : Kept 1 part)
    (no_comma : extends (Some (what.Symbol s.COMMA)) ≡ false) (tokens : List Token) (from : ℕ) where
  -- the first part
  pub list_first : (first : Reading X) → Reads 16 part extends tokens from (Ok first) →
      ListRead part extends tokens from (first.part ∷ []) first.end first.stop
  list_first first read = record {
    spells = (first.end, read.spells, refl);
    goes = list_begins part extends no_comma tokens from first.end first.stop read.longest;
    ahead = read.ahead;
    reach = list_goes 1 16 part kept tokens from first.stop (part_reach part extends kept tokens from first read);
  }

  -- one more behind a comma
  pub list_more : (before : List X) (end stop : ℕ) (next : Reading X) →
      ListRead part extends tokens from before end stop → HasSymbol tokens end s.COMMA →
      Reads 16 part extends tokens (end + 1) (Ok next) →
      ListRead part extends tokens from (before ++ next.part ∷ []) next.end (max stop next.stop)
  list_more before end stop next all comma read = record {
    spells = list_one_more tokens (part tokens) before from end next.end next.part all.spells comma read.spells;
    goes = list_next part extends no_comma tokens from end stop next.end next.stop (max stop next.stop) all.goes
        (omega (arith, all.ahead)) (omega (arith, read.ahead)) (omega arith) (omega arith) comma read.longest;
    ahead = (
      omega (arith, all.ahead, read.ahead),
      omega (arith, read.ahead),
      omega (arith, all.ahead, read.ahead),
    );
    reach = reaches_max (TheList part) tokens from stop next.stop (max stop next.stop) refl all.reach
        (list_goes_on 1 16 part kept tokens from next.stop before end all.spells comma (omega (arith, read.ahead))
        (part_reach part extends kept tokens (end + 1) next read));
  }

module _ {X A : Type 0} (part : List Token → Spelling X) (extends : Option What → Bool) (tokens : List Token)
    (from : ℕ) where
  -- no comma stands behind the last one
  pub list_done : (all : Reading (Vec X A)) → ListRead part extends tokens from all.part.items all.end all.stop →
      is_symbol s.COMMA (what_at tokens all.end) ≡ false →
      ReadsList 16 (TheList part) (by_comma extends) tokens from (Ok all)
  list_done all read none = record {
    spells = read.spells;
    longest = list_ends part extends tokens from all.end all.stop read.goes (omega (arith, read.ahead)) none;
    ahead = read.ahead;
    refused = tt;
    least = goes (TheList part) tokens from all.end all.stop read.reach;
  }

module _ {X A : Type 0} (part : List Token → Spelling X) (extends : Option What → Bool) (kept : Kept 1 part)
    (tokens : List Token) (from : ℕ) where
  -- no part is read behind the comma
  pub list_ended : (all : Reading (Vec X A)) (halt : Halt) →
      ListRead part extends tokens from all.part.items all.end all.stop → HasSymbol tokens all.end s.COMMA →
      Reads 16 part extends tokens (all.end + 1) (Err halt) →
      ReadsList 16 (TheList part) (by_comma extends) tokens from (ended all halt)
  list_ended all NoMemory read comma none =
      record { spells = tt; longest = tt; ahead = tt; refused = tt; least = tt }
  list_ended all (Refused at) read comma none = record {
    spells = read.spells;
    longest = list_is_stuck part extends tokens from all.end all.stop at (max all.stop at) read.goes (omega arith)
        (omega arith) none.refused.0;
    ahead = (omega (arith, read.ahead), omega (arith, read.ahead), omega (arith, read.ahead, none.refused));
    refused = tt;
    least = goes (TheList part) tokens from all.end (max all.stop at)
        (reaches_max (TheList part) tokens from all.stop at (max all.stop at) refl read.reach
        (list_goes_on 1 16 part kept tokens from at all.part.items all.end read.spells comma
        (omega (arith, none.refused.1)) none.least));
  }

  -- none is read
  pub list_none : (halt : Halt) → Reads 16 part extends tokens from (Err halt) →
      ReadsList {A = A} 16 (TheList part) (by_comma extends) tokens from (Err halt)
  list_none halt none =
      longest_read _
      (unread part (TheList part) tokens from from halt (omega arith)
      (λ others stop near agree xs to h. first_of others (part others) from xs to h)
      (λ stop near within r. list_goes 1 16 part kept tokens from stop r) none.refused none.least)
