-- What the contracts of this crate's readers say of a part, as it is taken into a rule, and what they say where a
-- token or a part of a rule is missing.
use Rattle.std.proofs.Common.{◌≡◌, ℕ, ◌+◌, ◌*◌, ◌<◌, ◌≤◌, ◌^◌, ◌⊎◌, inl, inr, max, Bool, true, false, List, length}
use Rattle.std.proofs.Common.{Option}
use Rattle.std.proofs.Common.{Some, None, Result, Ok, Err, refl, sym, ap, subst, ◌∙◌, arith}
use Rattle.std.specs.Result.{IsErr, IsErrAnd}
use Rattle.pearl_tree.specs.declared.name.Name.{Name}
use Rattle.pearl_tree.specs.declared.token.What.{What}
use Rattle.pearl_tree.specs.declared.token.Token.{Token}
use Rattle.pearl_tree.specs.Standing.{Spelling, what_at, IsName}
use Rattle.pearl_parse_expr.specs.declared.reading.Halt.{Halt}
use Rattle.pearl_parse_expr.specs.declared.reading.Halt.TheVariants.{Refused, NoMemory}
use Rattle.pearl_parse_expr.specs.declared.reading.Reading.{Reading}
use Rattle.pearl_parse_expr.specs.Stops.{EndsEarly, IsHalted}
use Rattle.pearl_parse_expr.specs.Least.{HaltsIn}
use Rattle.pearl_parse_expr.specs.Reads.{ReadsOnly, ReadsOnlyMaybe}
use Rattle.pearl_parse_expr.proofs.Offered.{residual, shorter, clash}
use Rattle.pearl_grammar.specs.Rules.{Part, Maybe, Rule, End, Then, Value, SpellsPart, Spells}
use Rattle.pearl_grammar.specs.Declarations.{id}
use Rattle.pearl_grammar.specs.Reached.{HaltsBehind, IsStopped, never}
use Rattle.pearl_grammar.proofs.Offered.{Facts, IsFirm, AllAnswer, least_of, fill_of, firsts_of, Walk, TookAs, Took, Lacks, one_read}
use Rattle.pearl_grammar.proofs.Offered.{Left, answers, rule_begins, part_missing_as, none_only, Ends, moved, done}
use Rattle.pearl_grammar.proofs.Offered.{opened, part_read_as}
use Rattle.pearl_grammar.proofs.Offered as walk
use Rattle.pearl_parse.specs.Stops.{IsMissing, SpellsOptional}
use Rattle.pearl_parse.specs.Reads.{ReadsBehind, ReadsOnlyBehind}

-- ---- parts that were read, no earlier stopped than what stands before them

pub took_as : {Y Z : Type 0} {inner : ℕ} {spells : List Token → Spelling Y} {other : List Token → Spelling Z}
    {extends : Option What → Bool} {tokens : List Token} {at first low : ℕ} {x : Reading Y} → at ≤ first →
    ReadsBehind inner spells other spells extends tokens at first low (Ok x) →
    TookAs inner spells other extends tokens at low x.part x.end x.stop
took_as near read = record {
  spelled = read.spells;
  longest = read.longest;
  bounds = omega (arith, read.bounds, near);
  least = read.least;
}

pub lacks_behind : {Y : Type 0} {inner : ℕ} {spells : List Token → Spelling Y} {tokens : List Token} {at first low : ℕ}
    {extends : Option What → Bool} {halt : Halt} → ReadsBehind inner spells spells spells extends tokens at first low
    (Err halt) → Lacks inner spells tokens at low halt
lacks_behind read = record { refused = read.refused; least = read.least }

pub lacks_only_behind : {Y Z : Type 0} {inner : ℕ} {told : List Token → Spelling Z} {spells : List Token → Spelling Y}
    {tokens : List Token} {at first low : ℕ} {halt : Halt} → ReadsOnlyBehind inner told spells spells tokens at first
    low (Err halt) → Lacks inner spells tokens at low halt
lacks_only_behind read = record { refused = read.refused; least = read.least }

-- a part of one end, told in another form than the rule has it
pub took_only_behind : {Y Z : Type 0} {inner : ℕ} {told : List Token → Spelling Z} {spells : List Token → Spelling Y}
    {tokens : List Token} {at first low : ℕ} {x : Reading Z} → ReadsOnlyBehind inner told spells spells tokens at first
    low (Ok x) →
    at ≤ first → (y : Y) → spells tokens at y x.end → Took inner spells never tokens at low y x.end x.stop
took_only_behind read near y spelled = record {
  spelled = spelled;
  longest = λ others agree y to h. inl (read.only others agree y to h);
  bounds = omega (arith, read.bounds, near);
  least = read.least;
}

-- a part that may be missing, read for itself
pub took_optional : {Y Z : Type 0} {inner : ℕ} {spells : List Token → Spelling Y} {other : List Token → Spelling Z}
    {tokens : List Token} {at low new : ℕ} {x : Reading Y} → ReadsOnlyMaybe inner spells other spells tokens at (Ok x) →
    new ≡ max x.stop low → low ≤ length tokens → TookAs inner spells other never tokens at low x.part x.end new
took_optional {tokens = tokens} {new = new} {x = x} read is within = record {
  spelled = read.spells;
  longest = λ others agree y to h. inl (read.only others (shorter tokens others x.stop new (omega (arith, is)) agree) y to h);
  bounds = omega (arith, read.bounds, is, within);
  least = (x.stop, omega (arith, read.bounds), read.least, is);
}

-- ---- a rule's readers

-- a reader of a rule's parts begins, behind what was stopped at `low`
pub parts_begun : {room : ℕ} (rule : Rule) (facts : Facts rule) → IsFirm rule facts → {tokens : List Token}
    {from low stop : ℕ} → from ≤ length tokens → low ≤ length tokens → stop ≡ max from low → length tokens < 2 ^ 55 →
    room ≤ 2 ^ 55 → Walk room (Spells rule) tokens from low rule facts never from stop
parts_begun rule facts firm inside within is few small = opened {rule = rule} {facts = facts} firm
    (λ others from to small h. h) (λ others agree x to h. (x, h)) inside within is few small

module _ {X : Type 0} {room : ℕ} {whole : List Token → Spelling X} {tokens : List Token} {from low : ℕ} where
  -- a token is missing, where it is told no earlier than at `told`, which is as good as the stop
  pub lacks_token_at : {rule : Rule} {facts : Facts rule} {at stop : ℕ} (told : ℕ) (halt : Halt) (wanted : Option What →
      Bool) → Walk room whole tokens from low rule facts never at stop → IsMissing tokens wanted at told halt →
      max told at ≡ max stop at → AllAnswer true wanted (firsts_of rule facts) → 1 ≤ least_of rule facts →
      fill_of rule facts ≤ room → Lacks room whole tokens from low halt
  lacks_token_at told NoMemory wanted a absent same all solid few = absurd absent
  lacks_token_at told (Refused k) wanted a absent same all solid few =
      walk.missing wanted a absent.0 all solid few (absent.1 ∙ same)

  pub lacks_token : {rule : Rule} {facts : Facts rule} {at stop : ℕ} (halt : Halt) (wanted : Option What → Bool) →
      Walk room whole tokens from low rule facts never at stop → IsMissing tokens wanted at stop halt →
      AllAnswer true wanted (firsts_of rule facts) → 1 ≤ least_of rule facts → fill_of rule facts ≤ room →
      Lacks room whole tokens from low halt
  lacks_token {rule} {facts} {at} {stop} halt wanted a absent all solid few =
      lacks_token_at stop halt wanted a absent refl all solid few

-- a part that may be missing, where a token that may begin one begins one, and none that begins what is left
module _ {X : Type 0} {room : ℕ} {whole : List Token → Spelling X} {tokens : List Token} {from low : ℕ} {part : Part}
    {rest : Rule} {facts : Facts (Then (Maybe part) rest)} {at stop : ℕ} (begins : Option What → Bool)
    (a : Walk room whole tokens from low (Then (Maybe part) rest) facts never at stop)
    (other : AllAnswer false begins (firsts_of rest facts.1)) (solid : 1 ≤ least_of rest facts.1) where
  told : (others : List Token) (x : Option (Value part)) (m to : ℕ) → SpellsPart (Maybe part) others at x m →
      Left rest others m to → (y : Option (Value part)) × SpellsOptional begins (SpellsPart part) others at y m
  told others (Some x) m to h g = (Some x, h)
  told others None m to h g = (
    None,
    (
      h,
      ap (λ k. begins (what_at others k)) (sym h) ∙ answers false begins
          (firsts_of rest facts.1) (what_at others m) other (rule_begins rest facts.1 a.firm solid others m g.0 to g.1),
    ),
  )

  pub optional_read : {inner : ℕ} {extends : Option What → Bool} {y : Option (Value part)} {end new : ℕ} →
      TookAs inner (SpellsPart (Maybe part)) (SpellsOptional begins (SpellsPart part)) extends tokens at stop y end new →
      AllAnswer false extends (firsts_of rest facts.1) → inner + fill_of rest facts.1 + 8 * from ≤ room + 8 * at →
      fill_of rest facts.1 ≤ room → Walk room whole tokens from low rest facts.1 never end new
  optional_read t none fits few = part_read_as a t told none solid fits few

  pub optional_stopped : (inner : ℕ) (halt : Halt) →
      IsStopped (SpellsOptional begins (SpellsPart part)) tokens at stop halt →
      HaltsBehind inner (SpellsPart (Maybe part)) tokens at stop halt →
      inner + fill_of rest facts.1 + 8 * from ≤ room + 8 * at → fill_of rest facts.1 ≤ room →
      Lacks room whole tokens from low halt
  optional_stopped inner halt refused least fits few =
      part_missing_as (SpellsOptional begins (SpellsPart part)) inner a
      (λ others x m to h g. let y = told others x m to h g in (y.0, m, y.1)) refused least fits few

module _ {X : Type 0} {room : ℕ} {whole : List Token → Spelling X} {tokens : List Token} {from : ℕ} where
  pub name_read : {rest : Rule} {facts : Facts (Then id rest)} {early : Option What → Bool} {low at stop next : ℕ}
      {name : Name} → Walk room whole tokens from low (Then id rest) facts early at stop → next ≡ at + 1 → IsName tokens
      at name → at < length tokens → Walk room whole tokens from low rest facts.1 early next stop
  name_read a is here within = one_read a (λ others k x to h. h.1) is (here, refl) within

  -- a part that may be missing begins, is read for itself, and isn't read
  pub optional_missing : {inner : ℕ} {part : Part} {rest : Rule} {facts : Facts (Then (Maybe part) rest)} {at stop : ℕ}
      (begins : Option What → Bool) (halt : Halt) →
      Walk room whole tokens from 0 (Then (Maybe part) rest) facts never at stop →
      ReadsOnlyMaybe inner (SpellsPart (Maybe part)) (SpellsOptional begins (SpellsPart part)) (SpellsPart (Maybe part))
      tokens at (Err halt) → stop ≤ at → AllAnswer false begins (firsts_of rest facts.1) → 1 ≤ least_of rest facts.1 →
      inner + fill_of rest facts.1 + 8 * from ≤ room + 8 * at → fill_of rest facts.1 ≤ room →
      Lacks room whole tokens from 0 halt
  optional_missing {inner} {part} {rest} {facts} {at} {stop} begins halt a none below other solid fits few =
      optional_stopped begins a other solid inner halt (stopped halt none.refused) (halts halt none.refused none.least) fits
      few
    where
      stopped : (e : Halt) → IsHalted (SpellsOptional begins (SpellsPart part)) tokens at e →
          IsStopped (SpellsOptional begins (SpellsPart part)) tokens at stop e
      stopped NoMemory h = tt
      stopped (Refused k) h = (h.0, h.1, omega (arith, h.1), h.2)

      halts : (e : Halt) → IsHalted (SpellsOptional begins (SpellsPart part)) tokens at e →
          HaltsIn inner (SpellsPart (Maybe part)) tokens at e → HaltsBehind inner (SpellsPart (Maybe part)) tokens at
          stop e
      halts NoMemory h r = tt
      halts (Refused k) h r = (k, h.1, h.2, r, omega (arith, h.1))

  module _ (halt : Halt) (result : Result (Reading X) Halt) (handed : IsErr result × IsErrAnd result
      (λ e. e ≡ halt)) where
    -- a part is missing
    pub lacking : Lacks room whole tokens from 0 halt → ReadsOnly room whole tokens from result
    lacking t = subst (λ r. ReadsOnly room whole tokens from r) (sym (residual halt result handed)) (none_only halt t)

    -- a token is
    pub token_missing : {rule : Rule} {facts : Facts rule} {at stop : ℕ} (wanted : Option What → Bool) →
        Walk room whole tokens from 0 rule facts never at stop → IsMissing tokens wanted at stop halt →
        AllAnswer true wanted (firsts_of rule facts) → 1 ≤ least_of rule facts → fill_of rule facts ≤ room →
        ReadsOnly room whole tokens from result
    token_missing wanted a absent all solid few = lacking (lacks_token halt wanted a absent all solid few)

-- ---- readers that are stopped no earlier than what stands before them

module _ {X Y : Type 0} {room : ℕ} {whole : List Token → Spelling X} {told : List Token → Spelling Y}
    {tokens : List Token} {from first low : ℕ} where
  pub only_behind : (y : Y) {at stop new : ℕ} → Walk room whole tokens from low End tt never at stop → new ≡ max stop
      at → first ≤ at → told tokens from y at →
      ReadsOnlyBehind room told whole whole tokens from first low (Ok (record { part = y; end = at; stop = new }))
  only_behind y {at} {stop} {new} a is ahead spelled = record {
    spells = spelled;
    only = λ others agree x to h.
        by others to (a.goes others (shorter tokens others stop new (omega (arith, is)) agree) x to h);
    bounds = omega (arith, ahead, is, a.inside, a.level.inside, a.level.is);
    refused = tt;
    least = done room whole tokens from low at stop new (moved room whole tokens from low (Left End) Ends at stop at
        a.level (omega arith) a.level.inside (λ others alike to small h. a.level.comes others alike to small (tt, h)))
        is;
  }
    where
      by : (others : List Token) (to : ℕ) → Left End others at to ⊎ EndsEarly never others at to → to ≡ at
      by others to (inl g) = g.1
      by others to (inr e) = absurd (clash _ e.1 refl)

  module _ (halt : Halt) (result : Result (Reading Y) Halt) (handed : IsErr result × IsErrAnd result
      (λ e. e ≡ halt)) where
    pub lacking_behind : Lacks room whole tokens from low halt → ReadsOnlyBehind room told whole whole tokens from first
        low result
    lacking_behind t = subst (λ r. ReadsOnlyBehind room told whole whole tokens from first low r)
        (sym (residual halt result handed))
        (record { spells = tt; only = tt; bounds = tt; refused = t.refused; least = t.least })

    pub token_missing_behind : {rule : Rule} {facts : Facts rule} {at stop : ℕ} (wanted : Option What → Bool) →
        Walk room whole tokens from low rule facts never at stop → IsMissing tokens wanted at stop halt →
        AllAnswer true wanted (firsts_of rule facts) → 1 ≤ least_of rule facts → fill_of rule facts ≤ room →
        ReadsOnlyBehind room told whole whole tokens from first low result
    token_missing_behind wanted a absent all solid few = lacking_behind (lacks_token halt wanted a absent all solid few)
