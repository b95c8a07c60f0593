-- Modules and their declarations stand at the tokens that printing gives them. So the text of a lawful tree has tokens that
-- a tree spells which says the same.
use Rattle.std.proofs.Common.{◌≡◌, ℕ, suc, ◌+◌, List, [], ◌∷◌, ◌++◌, length, map, true, Some, slice_get, refl, sym, subst, ap, ◌∙◌, append_assoc, arith, length-append}
use Rattle.std.specs.List.{flat_map}
use Rattle.std.proofs.lemmas.Option.{slice_get-map}
use Rattle.std.proofs.lemmas.List.{length-map}
use Rattle.pearl_tree.specs.declared.name.Name.{Name}
use Rattle.pearl_tree.specs.declared.name.Number.{Number}
use Rattle.pearl_tree.specs.declared.declaration.Prio.{Prio}
use Rattle.pearl_tree.specs.declared.tree.TaskHead.{TaskHead}
use Rattle.pearl_tree.specs.declared.tree.TaskHead.TheVariants.{PrioFirst, MainFirst}
use Rattle.pearl_tree.specs.declared.tree.Decl.{Decl}
use Rattle.pearl_tree.specs.declared.tree.Decl.TheVariants as decl
use Rattle.pearl_tree.specs.declared.tree.ModuleName.{ModuleName}
use Rattle.pearl_tree.specs.declared.tree.ModuleName.TheVariants.{Bracketed, Bare}
use Rattle.pearl_tree.specs.declared.tree.Tree.{Tree}
use Rattle.pearl_tree.specs.declared.token.What.{What}
use Rattle.pearl_tree.specs.declared.token.What.TheVariants as what
use Rattle.pearl_tree.specs.declared.token.Token.{Token}
use Rattle.pearl_tree.specs.Lawful.{IsLawful}
use Rattle.pearl_tree.specs.Standing.{what_at, HasWord, HasSymbol, IsNumber, SpellsEach, SpellsMaybeBracketed}
use Rattle.pearl_tree.specs.Types.{SpellsBasic, SpellsWholeTyping}
use Rattle.pearl_tree.specs.Declarations.{SpellsDevice, SpellsParam}
use Rattle.pearl_tree.specs.Modules.{SpellsTaskHead, SpellsReturns, SpellsBlock, SpellsDecl, SpellsModuleName, SpellsSystem, SpellsTree, Spells}
use Rattle.pearl_tree.specs.ShownDeclarations.{shown_declared, shown_spec, shown_param}
use Rattle.pearl_tree.specs.ShownModules.{OfType, OfDeclare, OfSpecify, OfTask, OfProc, shown_body, shown_decl, shown_devices, shown_tree}
use Rattle.pearl_tree.specs.declared.symbol.TheConstants as s
use Rattle.pearl_tree.specs.declared.word_code.TheConstants as w
use Rattle.pearl_print.specs.Lists.{word, symbol, listed, maybe_bracketed, maybe, flag}
use Rattle.pearl_print.specs.Types.{basic_tokens, typing_tokens}
use Rattle.pearl_print.specs.Declarations.{prio_tokens, declared_tokens, spec_tokens, param_tokens}
use Rattle.pearl_print.specs.Statements.{body_tokens}
use Rattle.pearl_print.specs.Modules.{head_tokens, returns_tokens, task_body_tokens, decl_tokens, bracketed_name, module_name_tokens, system_tokens, front_tokens, tokens_of}
use Rattle.pearl_print.specs.Reading.{FitsHours}
use Rattle.pearl_print.specs.Spelled.{text_of_tokens}
use Rattle.pearl_print.specs.Plain.{plain_name, plain_device, plain_basic, plain_declared, plain_spec, plain_param, plain_body, plain_task_head, plain_decl, plain_module_name, plain, IsPrintOf}
use Rattle.pearl_print.proofs.TokenRanges.{place_of, here, HasTokens, cut, cut3, cut_token, plus_two, plus_three}
use Rattle.pearl_print.proofs.PlainLists.{Placed, Places, in_parts, each_at, list_at, maybe_bracketed_at, maybe_at, seen, seen_option, flag_at}
use Rattle.pearl_print.proofs.PlainLiterals.{typing_places, basic_places}
use Rattle.pearl_print.proofs.PlainDeclarations.{prio_places, device_places, declared_places, spec_places, param_places}
use Rattle.pearl_print.proofs.PlainStatements.{body_places}
use Rattle.pearl_print.proofs.LawfulParts.{printed_reads}

module _ (before tokens : List Token) where
  head_at : (a : ℕ) (part : TaskHead) (b : ℕ) → SpellsTaskHead before a part b → (from to : ℕ) → HasTokens tokens from (head_tokens part) to →
      Placed (SpellsTaskHead tokens) plain_task_head from part to
  head_at a (PrioFirst prio main) b h from to g =
      let p = cut tokens from (maybe prio_tokens prio) (flag w.MAIN main) to g in
      let first = maybe_at before tokens (prio_places before tokens) prio a h.0 h.1 from p.0 p.1 in
      record {
        copy = PrioFirst first.copy main;
        spelled = (p.0, first.spelled, flag_at tokens w.MAIN main p.0 to p.2);
        same = ap (λ prio. PrioFirst prio main) first.same;
      }
  head_at a (MainFirst prio) b h from to g =
      let p = cut tokens from (prio_tokens prio) (word w.MAIN) to g in
      let first = (prio_places before tokens).at (a + 1) prio b h.1 from p.0 p.1 in
      record {
        copy = PrioFirst (Some first.copy) true;
        spelled = (p.0, first.spelled, (p.2.0, p.2.1.0));
        same = ap (λ (prio : Prio). PrioFirst (Some prio) true) first.same;
      }

  returns_places : Places tokens (SpellsReturns before) (SpellsReturns tokens) returns_tokens plain_basic
  returns_places = record {
    at = λ a part b h from to g.
        let k = from + 1 + 1 in
        let p = cut tokens k (basic_tokens part) (symbol s.RIGHT_ROUND) to g.1.1 in
        let inner = (basic_places before tokens).at (a + 2) part h.0 h.3 k p.0 p.1 in
        record {
          copy = inner.copy;
          spelled = (p.0, g.0, g.1.0, plus_two (λ k. SpellsBasic tokens k inner.copy p.0) from inner.spelled, p.2.0, p.2.1.0);
          same = inner.same;
        };
  }

  block_places : Places tokens (SpellsBlock before) (SpellsBlock tokens) task_body_tokens (λ body. plain_body (shown_body body))
  block_places = record {
    at = λ a body b h from to g.
        let p = cut_token tokens (from + 1) (body_tokens body) (what.Word w.END) (symbol s.SEMICOLON) to g.1 in
        let inner = (body_places before tokens).at (a + 1) body h.0 h.2 (from + 1) p.0 p.1 in
        record {
          copy = inner.copy;
          spelled = (p.0, g.0, inner.spelled, p.2, p.3.0, plus_two (λ k. to ≡ k) p.0 p.3.1.0);
          same = inner.same;
        };
  }

  decl_at : (a : ℕ) (part : Decl) (b : ℕ) → SpellsDecl before a part b → (from to : ℕ) → HasTokens tokens from (decl_tokens part) to →
      Placed (SpellsDecl tokens) (λ part. plain_decl (shown_decl part)) from part to
  decl_at a (decl.Length sort number place) b h from to g =
      let k = from + 1 + 1 + 1 in
      let copy : Number = record { value = number.value; place = place_of tokens k } in
      let is : IsNumber tokens k copy = (g.1.1.1.0, here tokens k _ g.1.1.1.0) in
      let close : k + 1 ≡ from + 4 = omega arith in
      let last : k + 1 + 1 ≡ from + 5 = omega arith in
      record {
        copy = decl.Length sort copy (place_of tokens from);
        spelled = (
          here tokens from _ g.0,
          g.0,
          g.1.0,
          plus_two (λ n. HasSymbol tokens n s.LEFT_ROUND) from g.1.1.0,
          plus_three (λ n. IsNumber tokens n copy) from is,
          subst (λ n. HasSymbol tokens n s.RIGHT_ROUND) close g.1.1.1.1.0,
          subst (λ n. HasSymbol tokens n s.SEMICOLON) last g.1.1.1.1.1.0,
          omega (arith, g.1.1.1.1.1.1.0),
        );
        same = refl;
      }
  decl_at a (decl.Type name part place) b h from to g =
      let k = from + 1 + 1 in
      let p = cut tokens k (typing_tokens part) (symbol s.SEMICOLON) to g.1.1 in
      let inner = (typing_places before tokens).at (a + 2) part h.0 h.4 k p.0 p.1 in
      record {
        copy = decl.Type (record { text = name.text; place = place_of tokens (from + 1) }) inner.copy (place_of tokens from);
        spelled = (
          p.0,
          here tokens from _ g.0,
          g.0,
          (g.1.0, here tokens (from + 1) _ g.1.0),
          plus_two (λ k. SpellsWholeTyping tokens k inner.copy p.0) from inner.spelled,
          p.2.0,
          p.2.1.0,
        );
        same = ap (λ part. OfType (plain_name name) part 0) inner.same;
      }
  decl_at a (decl.Declare parts place) b h from to g =
      let p = cut tokens (from + 1) (listed declared_tokens parts.items.items) (symbol s.SEMICOLON) to g.1 in
      let list = in_parts (from + 1) parts p.0
      (list_at before tokens (declared_places before tokens) parts.items.items (a + 1) h.0 h.3 (from + 1) p.0 p.1) in
      record {
        copy = decl.Declare list.copy (place_of tokens from);
        spelled = (p.0, here tokens from _ g.0, g.0, list.spelled, p.2.0, p.2.1.0);
        same = ap (λ parts. OfDeclare parts 0) (seen shown_declared plain_declared list.copy.items.items parts.items.items list.same);
      }
  decl_at a (decl.Specify parts place) b h from to g =
      let p = cut tokens (from + 1) (listed spec_tokens parts.items.items) (symbol s.SEMICOLON) to g.1 in
      let list = in_parts (from + 1) parts p.0
      (list_at before tokens (spec_places before tokens) parts.items.items (a + 1) h.0 h.3 (from + 1) p.0 p.1) in
      record {
        copy = decl.Specify list.copy (place_of tokens from);
        spelled = (p.0, here tokens from _ g.0, g.0, list.spelled, p.2.0, p.2.1.0);
        same = ap (λ parts. OfSpecify parts 0) (seen shown_spec plain_spec list.copy.items.items parts.items.items list.same);
      }
  decl_at a (decl.Task name head body place) b h from to g =
      let k = from + 1 + 1 + 1 in
      let p = cut tokens k (head_tokens head) (task_body_tokens body) to g.1.1.1 in
      let first = head_at (a + 3) head h.0 h.5 k p.0 p.1 in
      let second = block_places.at h.0 body b h.6 p.0 to p.2 in
      record {
        copy = decl.Task (record { text = name.text; place = place_of tokens from }) first.copy second.copy (place_of tokens from);
        spelled = (
          p.0,
          here tokens from _ g.0,
          (g.0, here tokens from _ g.0),
          g.1.0,
          plus_two (λ k. HasWord tokens k w.TASK) from g.1.1.0,
          plus_three (λ k. SpellsTaskHead tokens k first.copy p.0) from first.spelled,
          second.spelled,
        );
        same = λ i. OfTask (plain_name name) (first.same i) (second.same i) 0;
      }
  decl_at a (decl.Proc name params returns body place) b h from to g =
      let k = from + 1 + 1 + 1 in
      let p = cut3 tokens k (maybe_bracketed param_tokens params.items.items) (maybe returns_tokens returns) (task_body_tokens body) to g.1.1.1 in
      let list = in_parts k params p.0
      (maybe_bracketed_at before tokens (param_places before tokens) params.items.items (a + 3) h.0 h.6 k p.0 p.2) in
      let second = maybe_at before tokens returns_places returns h.0 h.1 h.7 p.0 p.1 p.3 in
      let third = block_places.at h.1 body b h.8 p.1 to p.4 in
      record {
        copy = decl.Proc (record { text = name.text; place = place_of tokens from }) list.copy second.copy third.copy (place_of tokens from);
        spelled = (
          p.0,
          p.1,
          here tokens from _ g.0,
          (g.0, here tokens from _ g.0),
          g.1.0,
          plus_two (λ k. HasWord tokens k w.PROC) from g.1.1.0,
          plus_three (λ k. SpellsMaybeBracketed tokens (SpellsParam tokens) k list.copy.items.items p.0) from list.spelled,
          second.spelled,
          third.spelled,
        );
        same = λ i. OfProc (plain_name name) (seen shown_param plain_param list.copy.items.items params.items.items list.same i) (second.same i) (third.same i) 0;
      }

  decl_places : Places tokens (SpellsDecl before) (SpellsDecl tokens) decl_tokens (λ part. plain_decl (shown_decl part))
  decl_places = record { at = decl_at }

  in_brackets : (name : Name) (from to : ℕ) → HasTokens tokens from (bracketed_name name) to →
      Placed (SpellsModuleName tokens) plain_module_name from (Bracketed name) to
  in_brackets name from to g = record {
    copy = Bracketed (record { text = name.text; place = place_of tokens (from + 1) });
    spelled = (
      g.0,
      (g.1.0, here tokens (from + 1) _ g.1.0),
      plus_two (λ k. HasSymbol tokens k s.RIGHT_ROUND) from g.1.1.0,
      plus_three (λ k. to ≡ k) from g.1.1.1.0,
    );
    same = refl;
  }

  module_name_at : (a : ℕ) (part : ModuleName) (b : ℕ) → SpellsModuleName before a part b → (from to : ℕ) → HasTokens tokens from (module_name_tokens part) to →
      Placed (SpellsModuleName tokens) plain_module_name from part to
  module_name_at a (Bracketed name) b h from to g = in_brackets name from to g
  module_name_at a (Bare name) b h from to g =
      let p = in_brackets name from to g in
      record { copy = p.copy; spelled = p.spelled; same = p.same }

  module_name_places : Places tokens (SpellsModuleName before) (SpellsModuleName tokens) module_name_tokens plain_module_name
  module_name_places = record { at = module_name_at }

  system_places : Places tokens (SpellsSystem before) (SpellsSystem tokens) system_tokens (λ devices. map plain_device (shown_devices devices))
  system_places = record {
    at = λ a devices b h from to g.
        let k = from + 1 + 1 in
        let list = in_parts k devices to
        (each_at before tokens (device_places before tokens) devices.items.items (a + 2) b h.2 k to g.1.1) in
        record {
          copy = list.copy;
          spelled = (g.0, g.1.0, plus_two (λ k. SpellsEach (SpellsDevice tokens) k list.copy.items.items to) from list.spelled);
          same = list.same;
        };
  }

  -- a module, but for the last semicolon
  tree_at : (tree : Tree) (end : ℕ) → SpellsTree before 0 tree end → (n : ℕ) →
      HasTokens tokens 0 (front_tokens tree ++ flat_map decl_tokens tree.declarations.items.items ++ word w.MODEND) n → HasSymbol tokens n s.SEMICOLON →
      Placed (SpellsTree tokens) (λ tree. plain (shown_tree tree)) 0 tree (n + 1)
  tree_at tree end h n g last =
      let decls = tree.declarations in
      let p = cut3 tokens 0 (front_tokens tree) (flat_map decl_tokens decls.items.items) (word w.MODEND) n g in
      let f = cut_token tokens 1 (maybe module_name_tokens tree.name ++ symbol s.SEMICOLON ++ maybe system_tokens tree.system) (what.Word w.PROBLEM) (symbol s.SEMICOLON) p.0 p.2.1 in
      let k = cut_token tokens 1 (maybe module_name_tokens tree.name) (what.Symbol s.SEMICOLON) (maybe system_tokens tree.system) f.0 f.1 in
      let first = maybe_at before tokens module_name_places tree.name 1 h.0 h.5 1 k.0 k.1 in
      let second = maybe_at before tokens system_places tree.system (h.0 + 1) h.1 h.7 (k.0 + 1) f.0 k.3 in
      let third = in_parts p.0 decls p.1
      (each_at before tokens decl_places decls.items.items (h.1 + 2) h.2 h.10 p.0 p.1 p.3) in
      record {
        copy = record { name = first.copy; system = second.copy; declarations = third.copy; modend = place_of tokens p.1; semicolon = true; place = place_of tokens 0 };
        spelled = (
          k.0,
          f.0,
          p.1,
          here tokens 0 _ p.2.0,
          p.2.0,
          first.spelled,
          k.2,
          second.spelled,
          f.2,
          f.3.0,
          subst (λ k. SpellsEach (SpellsDecl tokens) k third.copy.items.items p.1) (plus_two (λ k. p.0 ≡ k) f.0 f.3.1.0) third.spelled,
          p.4.0,
          here tokens p.1 _ p.4.0,
          (subst (λ k. HasSymbol tokens k s.SEMICOLON) p.4.1.0 last, ap (λ k. k + 1) p.4.1.0),
        );
        same = λ i. record {
          name = first.same i;
          system = seen_option shown_devices (map plain_device) second.copy tree.system second.same i;
          declarations = seen shown_decl plain_decl third.copy.items.items decls.items.items third.same i;
          modend = 0;
          semicolon = true;
          place = 0;
        };
      }

-- tokens that have all of these whats, from behind the first ones
module _ (tokens : List Token) where
  one_at : (xs : List What) (y : What) (ys : List What) → slice_get (xs ++ y ∷ ys) (length xs) ≡ Some y
  one_at [] y ys = refl
  one_at (x ∷ xs) y ys = one_at xs y ys

  what_is : (xs : List What) (y : What) (ys : List What) → map (λ token. token.what) tokens ≡ xs ++ y ∷ ys → what_at tokens (length xs) ≡ Some y
  what_is xs y ys are =
      sym (slice_get-map (λ (token : Token). token.what) tokens (length xs)) ∙ ap (λ whats. slice_get whats (length xs)) are ∙ one_at xs y ys

  has_tokens : (before xs : List What) (y : What) → map (λ token. token.what) tokens ≡ before ++ (xs ++ y ∷ []) →
      HasTokens tokens (length before) xs (length before + length xs)
  has_tokens before [] y are = (omega arith, here tokens (length before) y (what_is before y [] are))
  has_tokens before (x ∷ xs) y are =
      let longer = before ++ x ∷ [] in
      let size : length longer ≡ length before + 1 = length-append before (x ∷ []) in
      let rest : HasTokens tokens (length longer) xs (length longer + length xs) = has_tokens longer xs y (are ∙ sym (append_assoc before (x ∷ []) (xs ++ y ∷ []))) in
      let end : length longer + length xs ≡ length before + suc (length xs) = omega (arith, size) in
      (what_is before x (xs ++ y ∷ []) are, subst (λ n. HasTokens tokens n xs (length before + suc (length xs))) size (subst (λ n. HasTokens tokens (length longer) xs n) end rest))

pub placed_tree : (tree : Tree) (before tokens : List Token) → Spells tree before → map (λ token. token.what) tokens ≡ tokens_of tree →
    (copy : Tree) × Spells copy tokens × (plain (shown_tree copy) ≡ plain (shown_tree tree))
unfolding tokens_of
placed_tree tree before tokens h are =
    let xs = front_tokens tree ++ flat_map decl_tokens tree.declarations.items.items ++ word w.MODEND in
    let end = what.Symbol s.SEMICOLON in
    let none : 0 + length xs ≡ length xs = omega arith in
    let span : HasTokens tokens 0 xs (length xs) = subst (λ n. HasTokens tokens 0 xs n) none (has_tokens tokens [] xs end are) in
    let p = tree_at before tokens tree (length before) h.spells (length xs) span (what_is tokens xs end [] are) in
    let all : length xs + 1 ≡ length tokens = sym (length-append xs (end ∷ [])) ∙ ap length (sym are) ∙ length-map tokens (λ (token : Token). token.what) in
    (p.copy, record { spells = subst (λ n. SpellsTree tokens 0 p.copy n) all p.spelled }, p.same)

-- a text that has the tokens of a lawful tree
pub printed_says : (tree : Tree) (text : List ℕ) → text ≡ text_of_tokens (tokens_of tree) → IsLawful tree → FitsHours tree → (before : List Token) → Spells tree before →
    IsPrintOf tree text
printed_says tree text spelled is fits before h =
    let reads = printed_reads tree text spelled is fits in
    let p = placed_tree tree before reads.tokens h reads.are in
    record { tokens = reads.tokens; copy = p.0; lexes = reads.lexes; spells = p.1; same = p.2 }
