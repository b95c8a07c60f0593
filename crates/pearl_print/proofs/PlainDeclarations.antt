-- Devices, and declarations without a body, stand at the tokens that printing gives them.
use Rattle.std.proofs.Common.{◌≡◌, ℕ, ◌+◌, List, ◌++◌, false, refl, ap, arith, subst}
use Rattle.pearl_tree.specs.declared.name.Number.{Number}
use Rattle.pearl_tree.specs.declared.declaration.DeviceWord.{DeviceWord}
use Rattle.pearl_tree.specs.declared.declaration.DeviceWord.TheVariants as device
use Rattle.pearl_tree.specs.declared.declaration.Declared.{Declared}
use Rattle.pearl_tree.specs.declared.declaration.Declared.TheVariants as declared
use Rattle.pearl_tree.specs.declared.declaration.Class.{Class}
use Rattle.pearl_tree.specs.declared.declaration.Class.TheVariants as class
use Rattle.pearl_tree.specs.declared.declaration.Spec.{Spec}
use Rattle.pearl_tree.specs.declared.declaration.Spec.TheVariants as spec
use Rattle.pearl_tree.specs.declared.token.What.TheVariants as what
use Rattle.pearl_tree.specs.declared.token.Token.{Token}
use Rattle.pearl_tree.specs.Standing.{HasWord, HasSymbol, IsNumber}
use Rattle.pearl_tree.specs.Declarations.{IsDeviceWord, SpellsDevice, SpellsPrio, SpellsItem, SpellsSema, SpellsDeclared, direction_word, SpellsClass, SpellsSpec, SpellsParam}
use Rattle.pearl_tree.specs.ShownLiterals.{shown_const}
use Rattle.pearl_tree.specs.ShownDeclarations.{OfItem, OfSema, OfInterrupt, OfDation, shown_item, shown_sema, shown_declared, shown_spec, shown_param}
use Rattle.pearl_tree.specs.declared.symbol.TheConstants as s
use Rattle.pearl_tree.specs.declared.word_code.TheConstants as w
use Rattle.pearl_print.specs.Lists.{word, symbol, number_tokens, maybe_headed, flag, bracketed_number}
use Rattle.pearl_print.specs.Expressions.{const_tokens}
use Rattle.pearl_print.specs.Types.{names_tokens, bounds_tokens, basic_tokens, typing_tokens}
use Rattle.pearl_print.specs.Declarations.{device_word_tokens, device_tokens, prio_tokens, item_tokens, sema_tokens, declared_tokens, class_tokens, spec_tokens, param_tokens}
use Rattle.pearl_print.specs.Plain.{plain_name, plain_number, plain_device_word, plain_device, plain_prio, plain_const, plain_item, plain_sema, plain_declared, plain_class, plain_spec, plain_param}
use Rattle.pearl_print.proofs.TokenRanges.{place_of, here, starts, HasTokens, cut, cut3, cut5, cut_token, plus_two}
use Rattle.pearl_print.proofs.PlainLists.{Placed, Places, in_parts, maybe_headed_at, flag_at, number_places, seen}
use Rattle.pearl_print.proofs.PlainLiterals.{const_places, names_places, bounds_places, typing_places, basic_places}

module _ (before tokens : List Token) where
  pub prio_places : Places tokens (SpellsPrio before) (SpellsPrio tokens) prio_tokens plain_prio
  prio_places = record {
    at = λ a prio b h from to g. record {
      copy = record { number = record { value = prio.number.value; place = place_of tokens (from + 1) }; place = place_of tokens from };
      spelled = (here tokens from _ g.0, g.0, (g.1.0, here tokens (from + 1) _ g.1.0), plus_two (λ k. to ≡ k) from g.1.1.0);
      same = refl;
    };
  }

  device_word_at : (part : DeviceWord) (from to : ℕ) → HasTokens tokens from (device_word_tokens part) to →
      (copy : DeviceWord) × IsDeviceWord tokens from copy × (to ≡ from + 1) × (plain_device_word copy ≡ plain_device_word part)
  device_word_at (device.Id name) from to g =
      (device.Id (record { text = name.text; place = place_of tokens from }), (g.0, here tokens from _ g.0), g.1.0, refl)
  device_word_at (device.Interrupt place) from to g =
      (device.Interrupt (place_of tokens from), (here tokens from _ g.0, g.0), g.1.0, refl)

  pub device_places : Places tokens (SpellsDevice before) (SpellsDevice tokens) device_tokens plain_device
  device_places = record {
    at = λ a part b h from to g.
        let p = cut3 tokens (from + 1 + 1) (device_word_tokens part.word) (bracketed_number part.number) (symbol s.SEMICOLON) to g.1.1 in
        let word = device_word_at part.word (from + 1 + 1) p.0 p.2 in
        let left : p.0 ≡ from + 3 = omega (arith, word.2) in
        let number : Number = record { value = part.number.value; place = place_of tokens (p.0 + 1) } in
        let is_number : IsNumber tokens (p.0 + 1) number = (p.3.1.0, here tokens (p.0 + 1) _ p.3.1.0) in
        let inner : p.0 + 1 ≡ from + 4 = omega (arith, left) in
        let close : p.0 + 1 + 1 ≡ from + 5 = omega (arith, left) in
        let last : p.1 ≡ from + 6 = omega (arith, left, p.3.1.1.1.0) in
        record {
          copy = record { name = record { text = part.name.text; place = place_of tokens from }; word = word.0; number = number; place = place_of tokens from };
          spelled = (
            here tokens from _ g.0,
            (g.0, here tokens from _ g.0),
            g.1.0,
            plus_two (λ k. IsDeviceWord tokens k word.0) from word.1,
            subst (λ k. HasSymbol tokens k s.LEFT_ROUND) left p.3.0,
            subst (λ k. IsNumber tokens k number) inner is_number,
            subst (λ k. HasSymbol tokens k s.RIGHT_ROUND) close p.3.1.1.0,
            subst (λ k. HasSymbol tokens k s.SEMICOLON) last p.4.0,
            omega (arith, last, p.4.1.0),
          );
          same = λ i. record { name = plain_name part.name; word = word.3 i; number = plain_number part.number; place = 0 };
        };
  }

  pub item_places : Places tokens (SpellsItem before) (SpellsItem tokens) item_tokens (λ item. plain_item (shown_item item))
  item_places = record {
    at = λ a item b h from to g.
        let p = cut5 tokens from (names_tokens item.names) (bounds_tokens item.bounds.items.items) (flag w.INV item.inv) (typing_tokens item.typing)
        (maybe_headed w.INIT const_tokens item.init.items.items) to g in
        let first = (names_places before tokens).at a item.names h.0 h.5 from p.0 p.4 in
        let second = (bounds_places before tokens).at h.0 item.bounds h.1 h.6 p.0 p.1 p.5 in
        let third = (typing_places before tokens).at h.2 item.typing h.3 h.8 p.2 p.3 p.7 in
        let fourth = in_parts p.3 item.init to
        (maybe_headed_at before tokens (const_places before tokens) w.INIT item.init.items.items h.3 b h.9 p.3 to p.8) in
        record {
          copy = record { names = first.copy; bounds = second.copy; inv = item.inv; typing = third.copy; init = fourth.copy; place = place_of tokens from };
          spelled = (p.0, p.1, p.2, p.3, starts tokens from _ to g, first.spelled, second.spelled, flag_at tokens w.INV item.inv p.1 p.2 p.6, third.spelled, fourth.spelled);
          same = λ i. record {
            names = first.same i;
            bounds = second.same i;
            inv = item.inv;
            part = third.same i;
            init = seen shown_const plain_const fourth.copy.items.items item.init.items.items fourth.same i;
            place = 0;
          };
        };
  }

  sema_places : Places tokens (SpellsSema before) (SpellsSema tokens) sema_tokens (λ sema. plain_sema (shown_sema sema))
  sema_places = record {
    at = λ a sema b h from to g.
        let p = cut_token tokens from (names_tokens sema.names) (what.Word w.SEMA) (maybe_headed w.PRESET number_tokens sema.preset.items.items) to g in
        let first = (names_places before tokens).at a sema.names h.0 h.2 from p.0 p.1 in
        let second = in_parts (p.0 + 1) sema.preset to
        (maybe_headed_at before tokens (number_places before tokens) w.PRESET sema.preset.items.items (h.0 + 1) b h.4 (p.0 + 1) to p.3) in
        record {
          copy = record { names = first.copy; preset = second.copy; place = place_of tokens from };
          spelled = (p.0, starts tokens from _ to g, first.spelled, p.2, second.spelled);
          same = λ i. record { names = first.same i; preset = second.same i; place = 0 };
        };
  }

  declared_at : (a : ℕ) (part : Declared) (b : ℕ) → SpellsDeclared before a part b → (from to : ℕ) → HasTokens tokens from (declared_tokens part) to →
      Placed (SpellsDeclared tokens) (λ part. plain_declared (shown_declared part)) from part to
  declared_at a (declared.Item item) b h from to g =
      let p = item_places.at a item b h from to g in
      record { copy = declared.Item p.copy; spelled = p.spelled; same = ap OfItem p.same }
  declared_at a (declared.Sema sema) b h from to g =
      let p = sema_places.at a sema b h from to g in
      record { copy = declared.Sema p.copy; spelled = p.spelled; same = ap OfSema p.same }

  pub declared_places : Places tokens (SpellsDeclared before) (SpellsDeclared tokens) declared_tokens (λ part. plain_declared (shown_declared part))
  declared_places = record { at = declared_at }

  class_at : (a : ℕ) (part : Class) (b : ℕ) → SpellsClass before a part b → (from to : ℕ) → HasTokens tokens from (class_tokens part) to →
      Placed (SpellsClass tokens) plain_class from part to
  class_at a (class.Alphic place) b h from to g =
      record { copy = class.Alphic (place_of tokens from); spelled = (here tokens from _ g.0, g.0, g.1.0); same = refl }
  class_at a (class.Basic part place) b h from to g =
      let p = (basic_places before tokens).at (a + 1) part b h.2 (from + 1) to g.1 in
      record {
        copy = class.Basic p.copy (place_of tokens from);
        spelled = (here tokens from _ g.0, g.0, p.spelled);
        same = ap (λ part. class.Basic part 0) p.same;
      }

  spec_at : (a : ℕ) (part : Spec) (b : ℕ) → SpellsSpec before a part b → (from to : ℕ) → HasTokens tokens from (spec_tokens part) to →
      Placed (SpellsSpec tokens) (λ part. plain_spec (shown_spec part)) from part to
  spec_at a (spec.Interrupt names place) b h from to g =
      let p = cut tokens from (names_tokens names) (word w.INTERRUPT) to g in
      let first = (names_places before tokens).at a names h.0 h.2 from p.0 p.1 in
      record {
        copy = spec.Interrupt first.copy (place_of tokens from);
        spelled = (p.0, starts tokens from _ to g, first.spelled, p.2.0, p.2.1.0);
        same = ap (λ names. OfInterrupt names 0) first.same;
      }
  spec_at a (spec.Dation names direction class control place) b h from to g =
      let p = cut_token tokens from (names_tokens names ++ word w.DATION) (what.Word (direction_word direction)) (class_tokens class) to g in
      let q = cut tokens from (names_tokens names) (word w.DATION) p.0 p.1 in
      let first = (names_places before tokens).at a names h.0 h.3 from q.0 q.1 in
      let second = class_at (h.0 + 2) class h.1 h.6 (p.0 + 1) to p.3 in
      record {
        copy = spec.Dation first.copy direction second.copy false (place_of tokens from);
        spelled = (
          q.0,
          to,
          starts tokens from _ to g,
          first.spelled,
          q.2.0,
          subst (λ k. HasWord tokens k (direction_word direction)) q.2.1.0 p.2,
          plus_two (λ k. SpellsClass tokens k second.copy to) q.0 (subst (λ k. SpellsClass tokens (k + 1) second.copy to) q.2.1.0 second.spelled),
          refl,
        );
        same = λ i. OfDation (first.same i) direction (second.same i) false 0;
      }

  pub spec_places : Places tokens (SpellsSpec before) (SpellsSpec tokens) spec_tokens (λ part. plain_spec (shown_spec part))
  spec_places = record { at = spec_at }

  pub param_places : Places tokens (SpellsParam before) (SpellsParam tokens) param_tokens (λ param. plain_param (shown_param param))
  param_places = record {
    at = λ a param b h from to g.
        let p = cut3 tokens from (names_tokens param.names) (basic_tokens param.basic) (flag w.IDENT param.ident) to g in
        let first = (names_places before tokens).at a param.names h.0 h.3 from p.0 p.2 in
        let second = (basic_places before tokens).at h.0 param.basic h.1 h.4 p.0 p.1 p.3 in
        record {
          copy = record { names = first.copy; basic = second.copy; ident = param.ident; place = place_of tokens from };
          spelled = (p.0, p.1, starts tokens from _ to g, first.spelled, second.spelled, flag_at tokens w.IDENT param.ident p.1 to p.4);
          same = λ i. record { names = first.same i; basic = second.same i; ident = param.ident; place = 0 };
        };
  }
