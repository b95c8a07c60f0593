-- Declarations and modules, made of what their rules say, one token or part after the other.
use Rattle.std.proofs.Common.{◌≡◌, ◌⊎◌, ℕ, ◌+◌, ◌<◌, ◌≤◌, ◌^◌, Bool, List, All, length, get_or, slice_get, IfSome}
use Rattle.std.proofs.Common.{Option, Some, refl, sym, ◌∙◌, ap, subst, inl, inr, arith}
use Rattle.std.proofs.lemmas.Option.{slice_get-get_or, slice_get_within, get_or_from_slice_get}
use Rattle.std.specs.Option.{option_map}
use Rattle.pearl_tree.specs.declared.typing.Basic.{Basic}
use Rattle.pearl_tree.specs.declared.tree.Decl.TheVariants as decl
use Rattle.pearl_tree.specs.declared.token.What.TheVariants as what
use Rattle.pearl_tree.specs.declared.token.Token.{Token}
use Rattle.pearl_tree.specs.declared.limit.TheConstants as limit
use Rattle.pearl_tree.specs.Standing.{Spelling, HasWord, HasSymbol, SpellsName}
use Rattle.pearl_tree.specs.Standing.{SpellsList, SpellsMaybeBracketed, SpellsEach, SpellsSymbolFlag}
use Rattle.pearl_tree.specs.Stops.{SomeBegins}
use Rattle.pearl_tree.specs.Tokens.{AreLawful, IsLawfulWhat}
use Rattle.pearl_tree.specs.Declarations.{SpellsSpec, SpellsParam}
use Rattle.pearl_tree.specs.Modules.{SpellsTaskHead, SpellsReturns, SpellsBlock, SpellsDecl, SpellsModuleName}
use Rattle.pearl_tree.specs.Modules.{SpellsSystem, SpellsTree}
use Rattle.pearl_tree.specs.declared.symbol.TheConstants as s
use Rattle.pearl_tree.specs.declared.word_code.TheConstants as w
use Rattle.pearl_parse.specs.Refusals.{Begins}
use Rattle.pearl_parse_expr.specs.Least.{AlikeBefore, LawfulFrom, ReachesIn}
use Rattle.pearl_parse_expr.proofs.Offered.{order, placed, placed_within, parts_of}
use Rattle.pearl_parse_decl.proofs.Offered.{after_of, each_long, list_long, maybe_bracketed_long, spec_keeps}
use Rattle.pearl_parse_decl.proofs.Offered.{param_keeps, returns_keep}
use Rattle.pearl_parse_decl.proofs.Offered as lists
use Rattle.pearl_parse.specs.Bodies.{SpellsInner}
use Rattle.pearl_parse.specs.Modules.{SpellsSource}
use Rattle.pearl_grammar.proofs.Offered.{Ends, Next, Makes}
use Rattle.pearl_parse.proofs.Comes.{BehindWord, BehindSymbol, Maybe}
use Rattle.pearl_parse.proofs.Made.{semicolon, word_within}
use Rattle.pearl_parse.proofs.NestedRests.{closing_rest}
use Rattle.pearl_parse.proofs.NestedMade.{body_made}
use Rattle.pearl_parse.proofs.LocalRests.{inner_keeps}
use Rattle.pearl_parse.proofs.LocalModules.{block_keeps, decl_keeps}

one_long : {X : Type 0} (n : ℕ) (spells : Spelling X) → ((from : ℕ) (x : X) (to : ℕ) → spells from x to →
    from + (n + 1) ≤ to) →
    (from : ℕ) (x : X) (to : ℕ) → spells from x to → from + 1 ≤ to
one_long n spells after from x to h = omega (arith, after from x to h)

returns_after : (others : List Token) (from : ℕ) (x : Option Basic) (to : ℕ) → Maybe SpellsReturns others from x to →
    from ≤ to
returns_after others from x to h =
    let far = lists.maybe_keeps others others to (λ j below. refl) 4 SpellsReturns
    (returns_keep others others to (λ j below. refl)) from x to h (omega arith) in
    omega (arith, far.0)

flag_after : (others : List Token) (from : ℕ) (x : Bool) (to : ℕ) → SpellsSymbolFlag others s.SEMICOLON from x to →
    from ≤ to
flag_after others from x to h =
    let far = lists.symbol_flag_keeps others others to (λ j below. refl) s.SEMICOLON from x to h (omega arith) in
    omega (arith, far.0)

-- ";" body END ";"
pub block_made : Makes SpellsBlock (BehindSymbol s.SEMICOLON (Next (SpellsInner limit.NESTED_MAX) (closing_rest w.END)))
block_made others from to small h =
    let a = h.1.1 in
    let close = h.1.3 in
    let last = word_within others a (what.Word w.END) close.2.0 in
    let ahead = inner_keeps others others a (λ j below. refl) limit.NESTED_MAX (from + 1) h.1.0 a h.1.2 (omega arith) in
    let inside = placed_within others (from + 1) (omega (arith, ahead.0)) in
    let body = body_made others limit.NESTED_MAX (from + 1) a inside.0 (omega (arith, close.2.2, close.3)) inside.1
    h.1.0 h.1.2 in
    (body.0, (a, h.0, body.1, close.2.0, close.2.1, omega (arith, close.2.2, close.3)))

pub specify_made : Makes SpellsDecl (BehindWord w.SPC (Next (λ tokens. SpellsList tokens (SpellsSpec tokens))
    semicolon))
specify_made others from to small h =
    let at = placed others from (what.Word w.SPC) h.0 in
    let long = list_long others (SpellsSpec others) (one_long 1 (SpellsSpec others)
    (after_of 2 SpellsSpec spec_keeps others)) (from + 1) h.1.0 h.1.1 h.1.2 in
    let few : length h.1.0 < 2 ^ 63 = omega (arith, long, h.1.3.1) in
    (decl.Specify (parts_of h.1.0 few) at.0, (h.1.1, at.1, h.0, h.1.2, h.1.3.0, h.1.3.1))

pub task_made : Makes SpellsDecl (Next SpellsName
    (BehindSymbol s.COLON (BehindWord w.TASK (Next SpellsTaskHead (Next SpellsBlock Ends)))))
task_made others from to small h =
    let name = h.2 in
    let rest = h.3.1.1 in
    let block = rest.3 in
    let two : h.1 + 1 ≡ from + 2 = omega (arith, name.1) in
    let three : h.1 + 1 + 1 ≡ from + 3 = omega (arith, name.1) in
    let end : block.1 ≡ to = sym block.3 in (
      decl.Task h.0 rest.0 block.0 h.0.place,
      (
        rest.1,
        name.0.1,
        name.0,
        subst (λ k. HasSymbol others k s.COLON) name.1 h.3.0,
        subst (λ k. HasWord others k w.TASK) two h.3.1.0,
        subst (λ k. SpellsTaskHead others k rest.0 rest.1) three rest.2,
        subst (λ k. SpellsBlock others rest.1 block.0 k) end block.2,
      ),
    )

pub procedure_made : Makes SpellsDecl (Next SpellsName
    (BehindSymbol s.COLON (BehindWord w.PROC (Next (λ tokens. SpellsMaybeBracketed tokens (SpellsParam tokens))
    (Next (Maybe SpellsReturns) (Next SpellsBlock Ends))))))
procedure_made others from to small h =
    let name = h.2 in
    let params = h.3.1.1 in
    let returns = params.3 in
    let block = returns.3 in
    let two : h.1 + 1 ≡ from + 2 = omega (arith, name.1) in
    let three : h.1 + 1 + 1 ≡ from + 3 = omega (arith, name.1) in
    let end : block.1 ≡ to = sym block.3 in
    let list = subst (λ k. SpellsMaybeBracketed others (SpellsParam others) k params.0 params.1) three params.2 in
    let long = maybe_bracketed_long others (SpellsParam others) (one_long 1 (SpellsParam others)
    (after_of 2 SpellsParam param_keeps others)) (from + 3) params.0 params.1 list in
    let after = after_of 3 SpellsBlock block_keeps others returns.1 block.0 block.1 block.2 in
    let between = returns_after others params.1 returns.0 returns.1 returns.2 in
    let few : length params.0 < 2 ^ 63 = omega arith in (
      decl.Proc h.0 (parts_of params.0 few) returns.0 block.0 h.0.place,
      (
        params.1,
        returns.1,
        name.0.1,
        name.0,
        subst (λ k. HasSymbol others k s.COLON) name.1 h.3.0,
        subst (λ k. HasWord others k w.PROC) two h.3.1.0,
        list,
        returns.2,
        subst (λ k. SpellsBlock others returns.1 block.0 k) end block.2,
      ),
    )

-- MODULE [ name ] ";" [ system ] PROBLEM ";" { decl } MODEND [ ";" ]
pub module_made : Makes SpellsTree
    (BehindWord w.MODULE (Next (Maybe SpellsModuleName) (BehindSymbol s.SEMICOLON (Next (Maybe SpellsSystem)
    (BehindWord w.PROBLEM (BehindSymbol s.SEMICOLON (Next (λ tokens. SpellsEach (SpellsDecl tokens))
    (BehindWord w.MODEND (Next (λ tokens. SpellsSymbolFlag tokens s.SEMICOLON) Ends)))))))))
module_made others from to small h =
    let at = placed others from (what.Word w.MODULE) h.0 in
    let name = h.1 in
    let system = name.3.1 in
    let list = system.3.1.1 in
    let flag = list.3.1 in
    let two : system.1 + 1 + 1 ≡ system.1 + 2 = omega arith in
    let end : flag.1 ≡ to = sym flag.3 in
    let declarations = subst (λ k. SpellsEach (SpellsDecl others) k list.0 list.1) two list.2 in
    let long = each_long others (SpellsDecl others) (one_long 3 (SpellsDecl others)
    (after_of 4 SpellsDecl decl_keeps others)) (system.1 + 2) list.0 list.1 declarations in
    let modend = placed others list.1 (what.Word w.MODEND) list.3.0 in
    let after = flag_after others (list.1 + 1) flag.0 flag.1 flag.2 in
    let few : length list.0 < 2 ^ 63 = omega arith in (
      record {
        name = name.0;
        system = system.0;
        declarations = parts_of list.0 few;
        modend = modend.0;
        semicolon = flag.0;
        place = at.0;
      },
      (
        name.1,
        system.1,
        list.1,
        at.1,
        h.0,
        name.2,
        name.3.0,
        system.2,
        system.3.0,
        system.3.1.0,
        declarations,
        list.3.0,
        modend.1,
        subst (λ k. SpellsSymbolFlag others s.SEMICOLON (list.1 + 1) flag.0 k) end flag.2,
      ),
    )

-- a module that goes on as far as a stop begins with the tokens before it
pub begins : (tokens : List Token) (room stop : ℕ) → ReachesIn room SpellsSource tokens 0 stop → Begins tokens stop
begins tokens room stop r = (
  r.part,
  r.others,
  (λ j below. ap (option_map (λ token. token.what)) (r.alike j below)),
  record { spells = r.spelled.0 },
)

-- tokens are lawful where they are lawful ones before some number, and lawful from there on
all_lawful : (tokens others : List Token) (stop : ℕ) → All (λ token. IsLawfulWhat token.what) tokens →
    AlikeBefore tokens others stop →
    LawfulFrom others stop → All (λ token. IsLawfulWhat token.what) others
all_lawful tokens others stop lawful alike rest k other within = by (order k stop)
  where
    is : slice_get others k ≡ Some (get_or others k other)
    is = slice_get-get_or others k other within

    by : (k < stop) ⊎ (stop ≤ k) → IsLawfulWhat (get_or others k other).what
    by (inl below) =
        let same : slice_get tokens k ≡ Some (get_or others k other) = alike k below ∙ is in
        let inside = slice_get_within tokens k (get_or others k other) same in
        subst (λ token. IsLawfulWhat token.what) (get_or_from_slice_get tokens k (get_or others k other) other same)
        (lawful k other inside)
    by (inr behind) = subst (λ found. IfSome (option_map (λ token. token.what) found) IsLawfulWhat) is (rest k behind)

-- and it does so with lawful tokens where these are lawful
pub some_begins : (tokens : List Token) (room stop : ℕ) → AreLawful tokens → ReachesIn room SpellsSource tokens 0 stop →
    SomeBegins tokens stop
some_begins tokens room stop lawful r = (
  r.part,
  r.others,
  (λ j below. ap (option_map (λ token. token.what)) (r.alike j below)),
  all_lawful tokens r.others stop lawful.spelled r.alike r.lawful,
  record { spells = r.spelled.0 },
)
