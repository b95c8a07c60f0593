-- What is left of a part, once its first tokens are read: however the tokens behind a stop are replaced, whatever part
-- begins where this one does goes on as it does.
use Rattle.std.proofs.Common.{rules, ◌==◌, ◌≡◌, ◌≢◌, ℕ, ◌≤◌, ◌⊎◌, inl, inr, Bool, true, false, List, length, Option}
use Rattle.std.proofs.Common.{Some, None, Result, Ok, Err, IfErr, sym, ap, subst, ◌∙◌, arith}
use Rattle.std.specs.Result.{IsErr, IsErrAnd}
use Rattle.pearl_tree.specs.declared.token.What.{What}
use Rattle.pearl_tree.specs.declared.token.Token.{Token}
use Rattle.pearl_tree.specs.Standing.{Spelling, what_at}
use Rattle.pearl_tree.specs.Stops.{BeginAlike}
use Rattle.pearl_parse_expr.specs.declared.reading.Halt.{Halt}
use Rattle.pearl_parse_expr.specs.declared.reading.Halt.TheVariants.{Refused, NoMemory}
use Rattle.pearl_parse_expr.specs.Stops.{IsLongest, IsOnly, EndsEarly, IsHalted}
use Rattle.pearl_parse_expr.proofs.Offered.{clash, shorter}
use Rattle.pearl_grammar.specs.Reached.{IsStopped}
use Rattle.pearl_grammar.proofs.Offered.{Rest, Next}
use Rattle.pearl_parse.specs.Stops.{IsMissing, SpellsOptional}

-- whatever begins there begins with no token of this kind
abbrev pub Avoids : (Option What → Bool) → Rest → Type 0
Avoids kind rest = (others : List Token) (at to : ℕ) → rest others at to → kind (what_at others at) ≡ false

pub itself : (n : ℕ) → (n == n) ≡ true
itself n = search rules

-- what `?` hands on
pub err_told : {X E : Type 0} (P Q : E → Type 0) (told : E) (result : Result X E) → IsErr result × IsErrAnd result Q →
    ((e : E) → Q e → e ≡ told) → P told → IfErr result P
err_told P Q told (Ok x) h step p = tt
err_told P Q told (Err e) h step p = subst P (sym (step e h.1)) p

module _ {X : Type 0} (whole : List Token → Spelling X) (tokens : List Token) (from : ℕ) where
  abbrev pub Goes : Rest → ℕ → ℕ → Type 0
  Goes rest at stop =
      (others : List Token) → BeginAlike tokens others stop → (x : X) (to : ℕ) → whole others from x to →
      rest others at to

  pub goes_longer : (rest : Rest) (at stop new : ℕ) → Goes rest at stop → stop ≤ new → Goes rest at new
  goes_longer rest at stop new go below = λ others agree x to h. go others (shorter tokens others stop new below agree)
      x to h

  -- behind a part that ends before no token that stands there
  pub past : {Y : Type 0} (spells : List Token → Spelling Y) (extends : Option What → Bool) (rest : Rest)
      (at stop end new : ℕ) →
      Goes (Next spells rest) at stop → stop ≤ new → IsLongest spells extends tokens at end new → Avoids extends rest →
      Goes rest end new
  past spells extends rest at stop end new go below longest avoids = λ others agree x to h.
      let read = go others (shorter tokens others stop new below agree) x to h in
      by others to read (longest others agree read.0 read.1 read.2)
    where
      by : (others : List Token) (to : ℕ) (read : Next spells rest others at to) → (read.1 ≡ end) ⊎
          EndsEarly extends others end read.1 → rest others end to
      by others to read (inl same) = subst (λ k. rest others k to) same read.3
      by others to read (inr early) = absurd (clash _ early.1 (avoids others read.1 to read.3))

  pub past_only : {Y : Type 0} (spells : List Token → Spelling Y) (rest : Rest) (at stop end new : ℕ) →
      Goes (Next spells rest) at stop → stop ≤ new → IsOnly spells tokens at end new → Goes rest end new
  past_only spells rest at stop end new go below only = λ others agree x to h.
      let read = go others (shorter tokens others stop new below agree) x to h in
      subst (λ k. rest others k to) (only others agree read.0 read.1 read.2) read.3

  -- a token that is not there
  pub missing : (wanted : Option What → Bool) (rest : Rest) (at stop k : ℕ) (halt : Halt) → Goes rest at stop →
      ((others : List Token) (to : ℕ) → rest others at to → wanted (what_at others k) ≡ true) → from ≤ stop →
      k ≤ length tokens → stop ≤ length tokens →
      IsMissing tokens wanted k stop halt → IsHalted whole tokens from halt
  missing wanted rest at stop k NoMemory go begins near within inside h = absurd h
  missing wanted rest at stop k (Refused new) go begins near within inside h = (
    λ others agree x to whole. clash _
        (begins others to (go others (shorter tokens others stop new (omega (arith, h.1)) agree) x to whole))
        (ap wanted (sym (agree k (omega (arith, h.1)))) ∙ h.0),
    omega (arith, h.1),
    omega (arith, h.1),
  )

  pub missing_behind : (least_stop : ℕ) (wanted : Option What → Bool) (rest : Rest) (at stop k : ℕ) (halt : Halt) →
      Goes rest at stop →
      ((others : List Token) (to : ℕ) → rest others at to → wanted (what_at others k) ≡ true) → from ≤ stop →
      least_stop ≤ stop → k ≤ length tokens → stop ≤ length tokens →
      IsMissing tokens wanted k stop halt → IsStopped whole tokens from least_stop halt
  missing_behind least_stop wanted rest at stop k NoMemory go begins near behind within inside h = absurd h
  missing_behind least_stop wanted rest at stop k (Refused new) go begins near behind within inside h =
      let halted = missing wanted rest at stop k (Refused new) go begins near within inside h in
      (halted.0, halted.1, omega (arith, h.1, behind), halted.2)

  -- one end
  pub ends : (rest : Rest) (at stop new end : ℕ) → Goes rest at stop → stop ≤ new →
      ((others : List Token) (to : ℕ) → rest others at to → to ≡ end) →
      IsOnly whole tokens from end new
  ends rest at stop new end go below by = λ others agree x to h. by others to
      (go others (shorter tokens others stop new below agree) x to h)

  -- a part that is not there
  pub no_part : {Y : Type 0} (spells : List Token → Spelling Y) (rest : Rest) (at stop : ℕ) (halt : Halt) →
      Goes (Next spells rest) at stop → from ≤ stop →
      IsStopped spells tokens at stop halt → IsHalted whole tokens from halt
  no_part spells rest at stop NoMemory go near h = tt
  no_part spells rest at stop (Refused k) go near h = (
    λ others agree x to whole.
        let read = go others (shorter tokens others stop k h.2 agree) x to whole in
        h.0 others agree read.0 read.1 read.2,
    omega (arith, h.2),
    h.3,
  )

  pub no_part_behind : {Y : Type 0} (least_stop : ℕ) (spells : List Token → Spelling Y) (rest : Rest) (at stop : ℕ)
      (halt : Halt) → Goes (Next spells rest) at stop → from ≤ stop → least_stop ≤ stop →
      IsStopped spells tokens at stop halt → IsStopped whole tokens from least_stop halt
  no_part_behind least_stop spells rest at stop NoMemory go near behind h = tt
  no_part_behind least_stop spells rest at stop (Refused k) go near behind h =
      let halted = no_part spells rest at stop (Refused k) go near h in
      (halted.0, halted.1, omega (arith, h.2, behind), halted.2)

  pub no_first : {Y : Type 0} (spells : List Token → Spelling Y) (rest : Rest) (at stop : ℕ) (halt : Halt) →
      Goes (Next spells rest) at stop → from ≤ at → stop ≤ at →
      IsHalted spells tokens at halt → IsHalted whole tokens from halt
  no_first spells rest at stop NoMemory go near below h = tt
  no_first spells rest at stop (Refused k) go near below h = (
    λ others agree x to whole.
        let read = go others (shorter tokens others stop k (omega (arith, h.1)) agree) x to whole in
        h.0 others agree read.0 read.1 read.2,
    omega (arith, h.1),
    h.2,
  )

-- a part that may be missing
module _ {Y : Type 0} (begins : Option What → Bool) (spells : List Token → Spelling Y) (tokens : List Token)
    (from : ℕ) where
  pub optional_is_longest : (extends : Option What → Bool) (end stop : ℕ) → begins (what_at tokens from) ≡ true →
      from ≤ stop → IsLongest spells extends tokens from end stop →
      IsLongest (SpellsOptional begins spells) extends tokens from end stop
  optional_is_longest extends end stop there near longest = λ others agree x to h. by others agree x to h
    where
      by : (others : List Token) → BeginAlike tokens others stop → (x : Option Y) (to : ℕ) →
          SpellsOptional begins spells others from x to → (to ≡ end) ⊎ EndsEarly extends others end to
      by others agree None to h = absurd (clash _ there (ap begins (agree from near) ∙ h.1))
      by others agree (Some x) to h = longest others agree x to h

  pub optional_is_none : (stop : ℕ) → begins (what_at tokens from) ≡ false → from ≤ stop →
      ((others : List Token) (x : Y) (to : ℕ) → spells others from x to → begins (what_at others from) ≡ true) →
      IsOnly (SpellsOptional begins spells) tokens from from stop
  optional_is_none stop absent near begin = λ others agree x to h. by others agree x to h
    where
      by : (others : List Token) → BeginAlike tokens others stop → (x : Option Y) (to : ℕ) →
          SpellsOptional begins spells others from x to → to ≡ from
      by others agree None to h = h.0
      by others agree (Some x) to h = absurd (clash _ (begin others x to h)
          (sym (ap begins (agree from near)) ∙ absent))

  pub optional_is_stopped : (least_stop : ℕ) (halt : Halt) → begins (what_at tokens from) ≡ true →
      IsStopped spells tokens from least_stop halt →
      IsStopped (SpellsOptional begins spells) tokens from least_stop halt
  optional_is_stopped least_stop NoMemory there h = tt
  optional_is_stopped least_stop (Refused stop) there h = (
    λ others agree x to read. by others agree x to read,
    h.1,
    h.2,
    h.3,
  )
    where
      by : (others : List Token) → BeginAlike tokens others stop → (x : Option Y) (to : ℕ) →
          SpellsOptional begins spells others from x to → ⊥
      by others agree None to read = clash _ there (ap begins (agree from h.1) ∙ read.1)
      by others agree (Some x) to read = h.0 others agree x to read

module _ {Y : Type 0} (begins : Option What → Bool) (spells : List Token → Spelling Y) (tokens : List Token)
    (from : ℕ) where
  pub optional_is_only : (end stop : ℕ) → begins (what_at tokens from) ≡ true → from ≤ stop →
      IsOnly spells tokens from end stop →
      IsOnly (SpellsOptional begins spells) tokens from end stop
  optional_is_only end stop there near only = λ others agree x to h. by others agree x to h
    where
      by : (others : List Token) → BeginAlike tokens others stop → (x : Option Y) (to : ℕ) →
          SpellsOptional begins spells others from x to → to ≡ end
      by others agree None to h = absurd (clash _ there (ap begins (agree from near) ∙ h.1))
      by others agree (Some x) to h = only others agree x to h

  pub optional_is_halted : (halt : Halt) → begins (what_at tokens from) ≡ true → IsHalted spells tokens from halt →
      IsHalted (SpellsOptional begins spells) tokens from halt
  optional_is_halted NoMemory there h = tt
  optional_is_halted (Refused stop) there h = (λ others agree x to read. by others agree x to read, h.1, h.2)
    where
      by : (others : List Token) → BeginAlike tokens others stop → (x : Option Y) (to : ℕ) →
          SpellsOptional begins spells others from x to → ⊥
      by others agree None to read = clash _ there (ap begins (agree from h.1) ∙ read.1)
      by others agree (Some x) to read = h.0 others agree x to read

pub only_is_longest : {Y : Type 0} (spells : List Token → Spelling Y) (extends : Option What → Bool)
    (tokens : List Token) (from end stop : ℕ) →
    IsOnly spells tokens from end stop → IsLongest spells extends tokens from end stop
only_is_longest spells extends tokens from end stop only = λ others agree x to h. inl (only others agree x to h)

-- a token that is not there is no want of memory
pub missing_is_refused : (tokens : List Token) (wanted : Option What → Bool) (at stop : ℕ) (halt : Halt) →
    IsMissing tokens wanted at stop halt → halt ≢ NoMemory
missing_is_refused tokens wanted at stop NoMemory h is = h
missing_is_refused tokens wanted at stop (Refused k) h is = let e = is in cc e
