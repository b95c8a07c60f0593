-- The system part of a module, and what opens its problem part: what completes them behind their first parts.
use Rattle.std.proofs.Common.{◌≡◌, ℕ, ◌+◌, ◌<◌, ◌≤◌, ◌^◌, max, List, length, Option, Ok, subst, arith}
use Rattle.pearl_tree.specs.declared.declaration.Device.{Device}
use Rattle.pearl_tree.specs.declared.parts.Parts.{Parts}
use Rattle.pearl_tree.specs.declared.token.Token.{Token}
use Rattle.pearl_tree.specs.Standing.{Spelling, HasWord, HasSymbol, SpellsEach}
use Rattle.pearl_tree.specs.Declarations.{SpellsDevice}
use Rattle.pearl_tree.specs.Modules.{SpellsSystem}
use Rattle.pearl_tree.specs.declared.symbol.TheConstants as s
use Rattle.pearl_tree.specs.declared.word_code.TheConstants as w
use Rattle.pearl_parse_expr.specs.declared.reading.Halt.{Halt}
use Rattle.pearl_parse_expr.specs.declared.reading.Reading.{Reading}
use Rattle.pearl_parse_expr.specs.Stops.{IsHalted, is_word, is_symbol, is_name}
use Rattle.pearl_parse_expr.specs.Reads.{ReadsMaybe}
use Rattle.pearl_parse_expr.specs.Least.{GoesIn, HaltsIn}
use Rattle.pearl_parse_expr.proofs.Offered.{IsLocal, parts_of}
use Rattle.pearl_parse_decl.proofs.Offered.{local_of, after_of, each_long, each_keeps, maybe_keeps, device_keeps}
use Rattle.pearl_parse.specs.Stops.{IsMissing}
use Rattle.pearl_parse.specs.Modules.{SpellsOptionalSystem, SpellsOpening}
use Rattle.pearl_grammar.specs.Reached.{HaltsBehind}
use Rattle.pearl_grammar.proofs.Offered.{Rest, Ends, Next, Fills, Makes, ends_fill, State, first, done, goes_in_told}
use Rattle.pearl_parse.proofs.Steps.{past}
use Rattle.pearl_parse.proofs.ModuleRests.{problem_rest, opening_goes, problem_stops}
use Rattle.pearl_parse.proofs.LocalModules.{system_keeps}
use Rattle.pearl_parse.proofs.Comes.{BehindWord, BehindSymbol, Maybe, fills_word, fills_symbol}
use Rattle.pearl_parse.proofs.Tails.{fills_each}
use Rattle.pearl_parse.proofs.Optional.{maybe_of}
use Rattle.pearl_parse.proofs.Stands.{Stands}
use Rattle.pearl_parse.proofs.States.{past_word, past_symbol, past_first, halt_token, halt_first}

-- ---- SYSTEM ";" { device }

abbrev pub Devices : List Token → Spelling (List Device)
Devices tokens = SpellsEach (SpellsDevice tokens)

devices_are_local : IsLocal Devices
devices_are_local = local_of 0 Devices (λ tokens others k alike. each_keeps tokens others k alike 7 SpellsDevice
    (device_keeps tokens others k alike))

device_after : (others : List Token) (from : ℕ) (x : Device) (to : ℕ) → SpellsDevice others from x to → from + 1 ≤ to
device_after others from x to h = let far = after_of 7 SpellsDevice device_keeps others from x to h in omega
    (arith, far)

system_made : Makes SpellsSystem (BehindWord w.SYSTEM (BehindSymbol s.SEMICOLON (Next Devices Ends)))
system_made others from to small h =
    let list = h.1.1 in
    let two : from + 1 + 1 ≡ from + 2 = omega arith in
    let end : list.1 ≡ to = omega (arith, list.3) in
    let devices = subst (λ k. Devices others (from + 2) list.0 k) end (subst (λ k. Devices others k list.0 list.1) two
    list.2) in
    let long = each_long others (SpellsDevice others) (device_after others) (from + 2) list.0 to devices in
    let few : length list.0 < 2 ^ 63 = omega (arith, long) in
    (parts_of list.0 few, (h.0, h.1.0, devices))

module _ (tokens : List Token) (from : ℕ) (here : HasWord tokens from w.SYSTEM) (inside : from < length tokens)
    (few : length tokens < 2 ^ 55) where
  system_begun : State 16 SpellsSystem tokens from 0 (BehindSymbol s.SEMICOLON (Next Devices Ends)) (from + 1) from
  system_begun =
      past_word 16 SpellsSystem tokens from 0 w.SYSTEM (BehindSymbol s.SEMICOLON (Next Devices Ends)) from from
      (from + 1) (omega arith)
      (first 16 SpellsSystem tokens from 0 (BehindWord w.SYSTEM (BehindSymbol s.SEMICOLON (Next Devices Ends))) from
      from system_made (omega arith) (omega arith) (omega arith) (omega arith) few) here inside

  devices_fill : Fills 0 (Next Devices Ends)
  devices_fill = fills_each 0 Ends ends_fill SpellsDevice

  pub no_devices : (halt : Halt) → IsMissing tokens (is_symbol s.SEMICOLON) (from + 1) from halt → HaltsBehind 16
      SpellsSystem tokens from 0 halt
  no_devices halt h =
      halt_token 16 SpellsSystem tokens from 0 1 (BehindSymbol s.SEMICOLON (Next Devices Ends))
      (fills_symbol 0 (Next Devices Ends) devices_fill s.SEMICOLON (omega arith)) (omega arith)
      (is_symbol s.SEMICOLON)
      (from + 1) from halt system_begun h

  pub system_goes : HasSymbol tokens (from + 1) s.SEMICOLON → from + 1 < length tokens → (xs : List Device)
      (end stop : ℕ) → Devices tokens (from + 2) xs end → from + 2 ≤ end → end ≤ stop → stop ≤ length tokens →
      GoesIn 24 Devices tokens (from + 2) end stop → GoesIn 16 SpellsSystem tokens from end stop
  system_goes symbol within xs end stop h ahead near reach g =
      goes_in_told 16 SpellsSystem tokens from 0 (omega arith) end stop (omega arith)
      (done 16 SpellsSystem tokens from 0 end stop stop
      (past_first 16 SpellsSystem tokens from 0 0 24 Devices Ends devices_are_local ends_fill (omega arith) (from + 2)
      from (omega arith)
      (past_symbol 16 SpellsSystem tokens from 0 s.SEMICOLON (Next Devices Ends) (from + 1) from (from + 2)
      (omega arith) system_begun symbol within) xs end stop h ahead reach (omega arith) near g) (omega arith))

-- ---- [ system ] PROBLEM ";"

system_is_local : IsLocal (Maybe SpellsSystem)
system_is_local = local_of 0 (Maybe SpellsSystem) (λ tokens others k alike. maybe_keeps tokens others k alike 2
    SpellsSystem (system_keeps tokens others k alike))

abbrev pub problem_begins : Rest
problem_begins = BehindWord w.PROBLEM (BehindSymbol s.SEMICOLON Ends)

abbrev pub last_symbol : Rest
last_symbol = BehindSymbol s.SEMICOLON Ends

last_fills : Fills 1 last_symbol
last_fills = fills_symbol 0 Ends ends_fill s.SEMICOLON (omega arith)

problem_fills : Fills 2 problem_begins
problem_fills = fills_word 1 last_symbol last_fills w.PROBLEM (omega arith)

opened_made : Makes SpellsOpening (Next (Maybe SpellsSystem) problem_begins)
opened_made others from to small h = (h.0, (h.1, h.2, h.3.0, h.3.1.0, omega (arith, h.3.1.1)))

module _ (tokens : List Token) (from : ℕ) (inside : from ≤ length tokens) (few : length tokens < 2 ^ 55) where
  abbrev pub Opening : Rest → ℕ → ℕ → Type 0
  Opening = State 24 SpellsOpening tokens from 0

  opening_first : Opening (Next (Maybe SpellsSystem) problem_begins) from from
  opening_first = first 24 SpellsOpening tokens from 0 (Next (Maybe SpellsSystem) problem_begins) from from opened_made
      (omega arith) (omega arith) (omega arith) inside few

  pub no_system : (halt : Halt) → IsHalted SpellsOptionalSystem tokens from halt → HaltsIn 16 (Maybe SpellsSystem)
      tokens from halt → HaltsBehind 24 SpellsOpening tokens from 0 halt
  no_system halt h r =
      halt_first 24 SpellsOpening tokens from 0 2 16 (Maybe SpellsSystem) problem_begins system_is_local problem_fills
      (omega arith) from from (omega arith) opening_first SpellsOptionalSystem halt (omega arith) h r

  pub past_system : (x : Reading (Option (Parts Device))) →
      ReadsMaybe 16 SpellsOptionalSystem SpellsOptionalSystem (Maybe SpellsSystem) is_name tokens from (Ok x) →
      Stands 24 SpellsOpening tokens from 0 from problem_rest problem_begins x.end x.stop
  past_system x read = record {
    goes = past SpellsOpening tokens from SpellsOptionalSystem is_name problem_rest from from x.end x.stop
        (opening_goes tokens from) read.bounds.2 read.longest problem_stops;
    level = past_first 24 SpellsOpening tokens from 0 2 16 (Maybe SpellsSystem) problem_begins system_is_local
        problem_fills (omega arith) from from (omega arith) opening_first x.part x.end x.stop
        (maybe_of (is_word w.SYSTEM) SpellsSystem tokens from x.part x.end read.spells) read.bounds.0 read.bounds.3
        (omega arith) read.bounds.1 read.least;
    ahead = read.bounds.0;
    near = read.bounds.2;
    inside = read.bounds.3;
  }

  module _ (at stop : ℕ) (a : Opening problem_begins at stop) where
    pub no_problem : (halt : Halt) → IsMissing tokens (is_word w.PROBLEM) at stop halt → HaltsBehind 24 SpellsOpening
        tokens from 0 halt
    no_problem halt h = halt_token 24 SpellsOpening tokens from 0 2 problem_begins problem_fills (omega arith)
        (is_word w.PROBLEM) at stop halt a h

    module _ (word : HasWord tokens at w.PROBLEM) (within : at < length tokens) where
      problem_past : Opening last_symbol (at + 1) stop
      problem_past = past_word 24 SpellsOpening tokens from 0 w.PROBLEM last_symbol at stop (at + 1) (omega arith) a
          word within

      pub no_last : (halt : Halt) → IsMissing tokens (is_symbol s.SEMICOLON) (at + 1) stop halt → HaltsBehind 24
          SpellsOpening tokens from 0 halt
      no_last halt h = halt_token 24 SpellsOpening tokens from 0 1 last_symbol last_fills (omega arith)
          (is_symbol s.SEMICOLON) (at + 1) stop halt problem_past h

      pub opened_so_far : (new : ℕ) → HasSymbol tokens (at + 1) s.SEMICOLON → at + 1 < length tokens → new ≡ max stop
          (at + 2) → GoesIn 24 SpellsOpening tokens from (at + 2) new
      opened_so_far new symbol inner is =
          goes_in_told 24 SpellsOpening tokens from 0 (omega arith) (at + 2) new (omega (arith, a.near))
          (done 24 SpellsOpening tokens from 0 (at + 2) stop new
          (past_symbol 24 SpellsOpening tokens from 0 s.SEMICOLON Ends (at + 1) stop (at + 2) (omega arith) problem_past
          symbol inner) is)
