-- What tokens spell is one declaration, and one module.
use Rattle.std.proofs.Common.{◌≡◌, ℕ, ◌+◌, ◌<◌, ◌==◌, if◌then◌else◌, Bool, true, false, List, [], ◌∷◌, length, Option, Some, None, option_and_then, codes, T, eqb, refl, sym, ap, subst, ◌∙◌, arith}
use Rattle.std.proofs.Math.Facts.{yes_eqb}
use Rattle.pearl_tree.specs.declared.parts.Parts.{Parts}
use Rattle.pearl_tree.specs.declared.name.Name.{Name}
use Rattle.pearl_tree.specs.declared.name.Number.{Number}
use Rattle.pearl_tree.specs.declared.typing.Basic.{Basic}
use Rattle.pearl_tree.specs.declared.typing.Bound.{Bound}
use Rattle.pearl_tree.specs.declared.typing.Typing.{Typing}
use Rattle.pearl_tree.specs.declared.typing.Typing as typing
use Rattle.pearl_tree.specs.declared.declaration.DeviceWord.{DeviceWord}
use Rattle.pearl_tree.specs.declared.declaration.DeviceWord.TheVariants as device
use Rattle.pearl_tree.specs.declared.declaration.Device.{Device}
use Rattle.pearl_tree.specs.declared.declaration.Prio.{Prio}
use Rattle.pearl_tree.specs.declared.declaration.Item.{Item}
use Rattle.pearl_tree.specs.declared.declaration.Sema.{Sema}
use Rattle.pearl_tree.specs.declared.declaration.Declared.{Declared}
use Rattle.pearl_tree.specs.declared.declaration.Declared.TheVariants as declared
use Rattle.pearl_value.specs.declared.device.Direction.{Direction}
use Rattle.pearl_value.specs.declared.device.Direction.TheVariants.{In, Out, InOut}
use Rattle.pearl_tree.specs.declared.declaration.Class.{Class}
use Rattle.pearl_tree.specs.declared.declaration.Class.TheVariants as class
use Rattle.pearl_tree.specs.declared.declaration.Spec.{Spec}
use Rattle.pearl_tree.specs.declared.declaration.Spec.TheVariants as spec
use Rattle.pearl_tree.specs.declared.declaration.Param.{Param}
use Rattle.pearl_tree.specs.declared.statement.Body.{Body}
use Rattle.pearl_tree.specs.declared.tree.TaskHead.{TaskHead}
use Rattle.pearl_tree.specs.declared.tree.TaskHead.TheVariants.{PrioFirst, MainFirst}
use Rattle.pearl_tree.specs.declared.tree.Decl.{Decl}
use Rattle.pearl_tree.specs.declared.tree.Decl.TheVariants as decl
use Rattle.pearl_tree.specs.declared.tree.ModuleName.{ModuleName}
use Rattle.pearl_tree.specs.declared.tree.ModuleName.TheVariants.{Bracketed, Bare}
use Rattle.pearl_tree.specs.declared.tree.Tree.{Tree}
use Rattle.pearl_tree.specs.declared.token.What.{What}
use Rattle.pearl_tree.specs.declared.token.What.TheVariants as what
use Rattle.pearl_tree.specs.declared.token.Token.{Token}
use Rattle.pearl_tree.specs.Standing.{IsAt, HasWord, HasSymbol, HasId, IsName, SpellsEach, SpellsNumber, SpellsMaybe, SpellsMaybeBracketed, SpellsMaybeHeaded, SpellsFlag, SpellsSymbolFlag, what_at}
use Rattle.pearl_tree.specs.Types.{SpellsBound, SpellsBounds, SpellsBasic, SpellsTyping, SpellsWholeTyping}
use Rattle.pearl_tree.specs.Declarations.{IsDeviceWord, SpellsDevice, SpellsPrio, SpellsItem, SpellsSema, SpellsDeclared, direction_word, SpellsClass, SpellsControl, SpellsSpec, SpellsParam}
use Rattle.pearl_tree.specs.Statements.{SpellsBodyDecl, SpellsStmt, SpellsWholeBody}
use Rattle.pearl_tree.specs.Modules.{SpellsTaskHead, SpellsReturns, SpellsBlock, SpellsDecl, SpellsModuleName, SpellsSystem, SpellsTree, Spells}
use Rattle.pearl_tree.specs.ShownDeclarations.{shown_sema, OfItem, OfSema, shown_declared, OfInterrupt, OfDation, shown_spec, shown_param}
use Rattle.pearl_tree.specs.ShownStatements.{shown_body_decl, shown_stmt}
use Rattle.pearl_tree.specs.ShownModules.{shown_body, OfLength, OfType, OfDeclare, OfSpecify, OfTask, OfProc, shown_decl, shown_devices, shown_tree}
use Rattle.pearl_tree.specs.declared.symbol.TheConstants as s
use Rattle.pearl_tree.specs.declared.word_code.TheConstants as w
use Rattle.pearl_tree.proofs.Meeting.{same_word, same_symbol}
use Rattle.pearl_tree.proofs.OneLiteral.{same_place, same_name, same_number}
use Rattle.pearl_tree.proofs.OneList.{symbol_no_word, each_one, list_one, maybe_one, maybe_bracketed_one, maybe_headed_one, flag_one, as_they_are, option_as_it_is}
use Rattle.pearl_tree.proofs.OneType.{NoBracket, ItemStops, one_names, one_number, one_item, one_basic, one_typing, same_sort, basic_word}
use Rattle.pearl_tree.proofs.OneStatement.{Begins, no_begin, no_bracket, ends_no_comma, stmt_begins, one_stmt, one_body_decl}

module _ (tokens : List Token) where
  -- ---- devices and semaphores

  same_device_word : (k : ℕ) (a b : DeviceWord) → IsDeviceWord tokens k a → IsDeviceWord tokens k b → a ≡ b
  same_device_word k (device.Id a) (device.Id b) h g = ap device.Id (same_name tokens k a b h g)
  same_device_word k (device.Interrupt p) (device.Interrupt q) h g = ap device.Interrupt (same_place tokens k p q h.0 g.0)
  same_device_word k (device.Id a) (device.Interrupt q) h g = absurd (let e = sym h.0 ∙ g.1 in cc e)
  same_device_word k (device.Interrupt p) (device.Id b) h g = absurd (let e = sym h.1 ∙ g.0 in cc e)

  one_device : (from : ℕ) (a b : Device) (to end : ℕ) → SpellsDevice tokens from a to → SpellsDevice tokens from b end → (a ≡ b) × (to ≡ end)
  one_device from a b to end h g =
      let name = same_name tokens from a.name b.name h.1 g.1 in
      let word = same_device_word (from + 2) a.word b.word h.3 g.3 in
      let number = same_number tokens (from + 4) a.number b.number h.5 g.5 in
      let place = same_place tokens from a.place b.place h.0 g.0 in
      ((λ i. record { name = name i; word = word i; number = number i; place = place i }), h.8 ∙ sym g.8)

  abbrev NoPreset : ℕ → Type 0
  NoPreset k = HasWord tokens k w.PRESET → ⊥

  abbrev Preset : ℕ → List Number → ℕ → Type 0
  Preset k xs to = SpellsMaybeHeaded tokens w.PRESET (SpellsNumber tokens) k xs to

  one_sema : (from : ℕ) (a b : Sema) (to end : ℕ) → SpellsSema tokens from a to → NoPreset to → SpellsSema tokens from b end → NoPreset end →
      (shown_sema a ≡ shown_sema b) × (to ≡ end)
  one_sema from a b to end h i g j =
      let names = one_names tokens from a.names b.names h.0 g.0 h.2 g.2 in
      let all = maybe_headed_one tokens (SpellsNumber tokens) (λ x. x) (λ k. Unit {0}) (λ k _. tt) (λ k _. tt) (λ k x y m n h _ g _. one_number tokens k x y m n h g)
      w.PRESET a.preset.items.items b.preset.items.items (g.0 + 1) to end (subst (λ k. Preset (k + 1) a.preset.items.items to) names.1 h.4) i g.4 j in
      let preset = as_they_are a.preset.items.items b.preset.items.items all.0 in
      let place = same_place tokens from a.place b.place h.1 g.1 in
      ((λ i. record { names = names.0 i; preset = preset i; place = place i }), all.1)

  abbrev BoundsAt : ℕ → List Bound → ℕ → Type 0
  BoundsAt a xs b = SpellsMaybeBracketed tokens (SpellsBound tokens) a xs b

  -- what stands behind the names of an item is not SEMA
  item_no_sema : (a b c d : ℕ) (bounds : Parts Bound) (inv : Bool) (part : Typing) → SpellsBounds tokens a bounds b → SpellsFlag tokens w.INV b inv c →
      SpellsWholeTyping tokens c part d → HasWord tokens a w.SEMA → ⊥
  item_no_sema a b c d bounds inv part h i j g = by_bounds bounds.items.items h
    where
      by_type : (part : Typing) → SpellsTyping tokens 8 c part d → HasWord tokens c w.SEMA → ⊥
      by_type (typing.Basic x) h g = by (basic_word tokens c x d h)
        where
          by : (code : ℕ) × HasWord tokens c code × ((w.STRUCT < code) × (code < w.SEMA)) → ⊥
          by (code, i, less) = absurd (omega (arith, less.1, same_word tokens c code w.SEMA i g))
      by_type (typing.Struct' _ fields p) h g = absurd (omega (arith, same_word tokens c w.STRUCT w.SEMA h.2 g))
      by_type (typing.Named name) h g = absurd (let e = sym h.0.0 ∙ g in cc e)

      by_flag : (inv : Bool) → SpellsFlag tokens w.INV b inv c → HasWord tokens b w.SEMA → ⊥
      by_flag false h g = by_type part j (subst (λ k. HasWord tokens k w.SEMA) (sym h) g)
      by_flag true h g = absurd (omega (arith, same_word tokens b w.INV w.SEMA h.0 g))

      by_bounds : (xs : List Bound) → BoundsAt a xs b → ⊥
      by_bounds [] h = by_flag inv i (subst (λ k. HasWord tokens k w.SEMA) (sym h) g)
      by_bounds (x ∷ xs) h = symbol_no_word tokens a s.LEFT_ROUND w.SEMA h.1 g

  item_is_no_sema : (from : ℕ) (a : Item) (b : Sema) (to end : ℕ) → SpellsItem tokens from a to → SpellsSema tokens from b end → ⊥
  item_is_no_sema from a b to end h g =
      let names = one_names tokens from a.names b.names h.0 g.0 h.5 g.2 in
      item_no_sema h.0 h.1 h.2 h.3 a.bounds a.inv a.typing h.6 h.7 h.8 (subst (λ k. HasWord tokens k w.SEMA) (sym names.1) g.3)

  abbrev DeclaredStops : ℕ → Type 0
  DeclaredStops k = ItemStops tokens k × NoPreset k

  one_declared : (from : ℕ) (a b : Declared) (to end : ℕ) → SpellsDeclared tokens from a to → DeclaredStops to → SpellsDeclared tokens from b end → DeclaredStops end →
      (shown_declared a ≡ shown_declared b) × (to ≡ end)
  one_declared from (declared.Item a) (declared.Item b) to end h i g j = let same = one_item tokens from a b to end h i.0 g j.0 in (ap OfItem same.0, same.1)
  one_declared from (declared.Sema a) (declared.Sema b) to end h i g j = let same = one_sema from a b to end h i.1 g j.1 in (ap OfSema same.0, same.1)
  one_declared from (declared.Item a) (declared.Sema b) to end h i g j = absurd (item_is_no_sema from a b to end h g)
  one_declared from (declared.Sema b) (declared.Item a) to end h i g j = absurd (item_is_no_sema from a b end to g h)

  -- ---- specifications and parameters

  same_direction : (k : ℕ) (a b : Direction) → T (eqb (direction_word a) (direction_word b)) → a ≡ b
  same_direction k In In e = refl
  same_direction k Out Out e = refl
  same_direction k InOut InOut e = refl
  same_direction k a b e = absurd e

  one_class : (from : ℕ) (a b : Class) (to end : ℕ) → SpellsClass tokens from a to → NoBracket tokens to → SpellsClass tokens from b end → NoBracket tokens end →
      (a ≡ b) × (to ≡ end)
  one_class from (class.Alphic p) (class.Alphic q) to end h i g j = (ap class.Alphic (same_place tokens from p q h.0 g.0), h.2 ∙ sym g.2)
  one_class from (class.Basic a p) (class.Basic b q) to end h i g j =
      let same = one_basic tokens (from + 1) a b to end h.2 i g.2 j in
      let place = same_place tokens from p q h.0 g.0 in
      ((λ i. class.Basic (same.0 i) (place i)), same.1)
  one_class from (class.Alphic p) (class.Basic b q) to end h i g j = absurd (omega (arith, same_word tokens from w.ALPHIC w.BASIC h.1 g.1))
  one_class from (class.Basic b q) (class.Alphic p) to end h i g j = absurd (omega (arith, same_word tokens from w.BASIC w.ALPHIC h.1 g.1))

  -- where a specification ends there is no bracket and no CONTROL
  abbrev SpecStops : ℕ → Type 0
  SpecStops k = NoBracket tokens k × (HasId tokens k (codes "CONTROL") → ⊥)

  one_control : (from : ℕ) (a b : Bool) (to end : ℕ) → SpellsControl tokens from a to → SpecStops to → SpellsControl tokens from b end → SpecStops end →
      (a ≡ b) × (to ≡ end)
  one_control from false false to end h i g j = (refl, h ∙ sym g)
  one_control from true true to end h i g j = (refl, h.4 ∙ sym g.4)
  one_control from false true to end h i g j = absurd (i.1 (subst (λ k. HasId tokens k (codes "CONTROL")) (sym h) g.0))
  one_control from true false to end h i g j = absurd (j.1 (subst (λ k. HasId tokens k (codes "CONTROL")) (sym g) h.0))

  before_control : (from : ℕ) (a : Bool) (to : ℕ) → SpellsControl tokens from a to → SpecStops to → NoBracket tokens from
  before_control from false to h i e = subst (NoBracket tokens) h i.0 e
  before_control from true to h i e = absurd (let e = sym e ∙ h.0 in cc e)

  one_spec : (from : ℕ) (a b : Spec) (to end : ℕ) → SpellsSpec tokens from a to → SpecStops to → SpellsSpec tokens from b end → SpecStops end →
      (shown_spec a ≡ shown_spec b) × (to ≡ end)
  one_spec from (spec.Interrupt x p) (spec.Interrupt y q) to end h i g j =
      let names = one_names tokens from x y h.0 g.0 h.2 g.2 in
      let place = same_place tokens from p q h.1 g.1 in
      ((λ i. OfInterrupt (names.0 i) (place i)), omega (arith, h.4, g.4, names.1))
  one_spec from (spec.Dation x d c m p) (spec.Dation y e k n q) to end h i g j =
      let names = one_names tokens from x y h.0 g.0 h.3 g.3 in
      let direction = same_direction from d e (yes_eqb (same_word tokens (g.0 + 1) (direction_word d) (direction_word e) (subst (λ k. HasWord tokens (k + 1) (direction_word d)) names.1 h.5) g.5)) in
      let class = one_class (g.0 + 2) c k h.1 g.1 (subst (λ k. SpellsClass tokens (k + 2) c h.1) names.1 h.6) (before_control h.1 m to h.7 i) g.6 (before_control g.1 n end g.7 j) in
      let control = one_control g.1 m n to end (subst (λ k. SpellsControl tokens k m to) class.1 h.7) i g.7 j in
      let place = same_place tokens from p q h.2 g.2 in
      ((λ i. OfDation (names.0 i) (direction i) (class.0 i) (control.0 i) (place i)), control.1)
  one_spec from (spec.Interrupt x p) (spec.Dation y e k n q) to end h i g j =
      let names = one_names tokens from x y h.0 g.0 h.2 g.3 in
      absurd (omega (arith, same_word tokens g.0 w.INTERRUPT w.DATION (subst (λ k. HasWord tokens k w.INTERRUPT) names.1 h.3) g.4))
  one_spec from (spec.Dation y e k n q) (spec.Interrupt x p) to end h i g j =
      let names = one_names tokens from y x h.0 g.0 h.3 g.2 in
      absurd (omega (arith, same_word tokens g.0 w.DATION w.INTERRUPT (subst (λ k. HasWord tokens k w.DATION) names.1 h.4) g.3))

  abbrev ParamStops : ℕ → Type 0
  ParamStops k = NoBracket tokens k × (HasWord tokens k w.IDENT → ⊥)

  before_ident : (from : ℕ) (a : Bool) (to : ℕ) → SpellsFlag tokens w.IDENT from a to → ParamStops to → NoBracket tokens from
  before_ident from false to h i e = subst (NoBracket tokens) h i.0 e
  before_ident from true to h i e = symbol_no_word tokens from s.LEFT_ROUND w.IDENT e h.0

  one_param : (from : ℕ) (a b : Param) (to end : ℕ) → SpellsParam tokens from a to → ParamStops to → SpellsParam tokens from b end → ParamStops end →
      (shown_param a ≡ shown_param b) × (to ≡ end)
  one_param from a b to end h i g j =
      let names = one_names tokens from a.names b.names h.0 g.0 h.3 g.3 in
      let basic = one_basic tokens g.0 a.basic b.basic h.1 g.1 (subst (λ k. SpellsBasic tokens k a.basic h.1) names.1 h.4) (before_ident h.1 a.ident to h.5 i)
      g.4 (before_ident g.1 b.ident end g.5 j) in
      let ident = flag_one tokens w.IDENT g.1 a.ident b.ident to end (subst (λ k. SpellsFlag tokens w.IDENT k a.ident to) basic.1 h.5) i.1 g.5 j.1 in
      let place = same_place tokens from a.place b.place h.2 g.2 in
      ((λ i. record { names = names.0 i; basic = basic.0 i; ident = ident.0 i; place = place i }), ident.1)

  -- ---- tasks and procedures

  one_prio : (from : ℕ) (a b : Prio) (to end : ℕ) → SpellsPrio tokens from a to → SpellsPrio tokens from b end → (a ≡ b) × (to ≡ end)
  one_prio from a b to end h g =
      let number = same_number tokens (from + 1) a.number b.number h.2 g.2 in
      let place = same_place tokens from a.place b.place h.0 g.0 in
      ((λ i. record { number = number i; place = place i }), h.3 ∙ sym g.3)

  abbrev Ends : ℕ → Type 0
  Ends k = HasSymbol tokens k s.SEMICOLON

  before_main : (m : ℕ) (a : Bool) (to : ℕ) → SpellsFlag tokens w.MAIN m a to → Ends to → HasWord tokens m w.PRIO → ⊥
  before_main m false to h i e = symbol_no_word tokens m s.SEMICOLON w.PRIO (subst Ends h i) e
  before_main m true to h i e = absurd (omega (arith, same_word tokens m w.MAIN w.PRIO h.0 e))

  not_main_first : (from : ℕ) (a : Option Prio) (main : Bool) (m to : ℕ) (b : Prio) (end : ℕ) → SpellsMaybe (SpellsPrio tokens) from a m →
      SpellsFlag tokens w.MAIN m main to → Ends to → HasWord tokens from w.MAIN → SpellsPrio tokens (from + 1) b end → ⊥
  not_main_first from (Some a) main m to b end h g i j k = absurd (omega (arith, same_word tokens from w.PRIO w.MAIN h.1 j))
  not_main_first from None false m to b end h g i j k = symbol_no_word tokens from s.SEMICOLON w.MAIN (subst Ends (g ∙ h) i) j
  not_main_first from None true m to b end h g i j k =
      let at : to ≡ from + 1 = omega (arith, g.1, h) in symbol_no_word tokens (from + 1) s.SEMICOLON w.PRIO (subst Ends at i) k.1

  one_head : (from : ℕ) (a b : TaskHead) (to end : ℕ) → SpellsTaskHead tokens from a to → Ends to → SpellsTaskHead tokens from b end → Ends end → (a ≡ b) × (to ≡ end)
  one_head from (PrioFirst a x) (PrioFirst b y) to end h i g j =
      let prio = maybe_one (SpellsPrio tokens) (λ x. x) (λ k. HasWord tokens k w.PRIO) (λ k. Unit {0}) (λ k x m h. h.1) (λ k x y m n h _ g _. one_prio k x y m n h g)
      a b from h.0 g.0 h.1 (before_main h.0 x to h.2 i) tt g.1 (before_main g.0 y end g.2 j) tt in
      let main = flag_one tokens w.MAIN g.0 x y to end (subst (λ k. SpellsFlag tokens w.MAIN k x to) prio.1 h.2) (symbol_no_word tokens to s.SEMICOLON w.MAIN i)
      g.2 (symbol_no_word tokens end s.SEMICOLON w.MAIN j) in
      let same = option_as_it_is a b prio.0 in
      ((λ i. PrioFirst (same i) (main.0 i)), main.1)
  one_head from (MainFirst a) (MainFirst b) to end h i g j = let same = one_prio (from + 1) a b to end h.1 g.1 in (ap MainFirst same.0, same.1)
  one_head from (PrioFirst a x) (MainFirst b) to end h i g j = absurd (not_main_first from a x h.0 to b end h.1 h.2 i g.0 g.1)
  one_head from (MainFirst b) (PrioFirst a x) to end h i g j = absurd (not_main_first from a x g.0 end b to g.1 g.2 j h.0 h.1)

  one_returns : (from : ℕ) (a b : Basic) (to end : ℕ) → SpellsReturns tokens from a to → SpellsReturns tokens from b end → (a ≡ b) × (to ≡ end)
  one_returns from a b to end h g =
      let same = one_basic tokens (from + 2) a b h.0 g.0 h.3 (no_bracket tokens h.0 s.RIGHT_ROUND h.4 (λ e. absurd (omega (arith, e)))) g.3
      (no_bracket tokens g.0 s.RIGHT_ROUND g.4 (λ e. absurd (omega (arith, e)))) in
      (same.0, omega (arith, same.1, h.5, g.5))

  one_whole_body : (from : ℕ) (a b : Body) (to end : ℕ) → SpellsWholeBody tokens from a to → HasWord tokens to w.END → SpellsWholeBody tokens from b end →
      HasWord tokens end w.END → (shown_body a ≡ shown_body b) × (to ≡ end)
  one_whole_body from a b to end h i g j =
      let first = each_one (SpellsBodyDecl tokens) shown_body_decl (λ k. HasWord tokens k w.DCL) (λ k x m h. h.2) (one_body_decl tokens) a.declarations.items.items b.declarations.items.items
      from h.0 g.0 h.2 (no_dcl h.0 a.statements.items.items to h.3 i) g.2 (no_dcl g.0 b.statements.items.items end g.3 j) in
      let rest = each_one (SpellsStmt tokens 32) shown_stmt (Begins tokens) (stmt_begins tokens 32) (one_stmt tokens 32) a.statements.items.items b.statements.items.items g.0 to end
      (subst (λ k. SpellsEach (SpellsStmt tokens 32) k a.statements.items.items to) first.1 h.3) (no_begin tokens to w.END i refl) g.3 (no_begin tokens end w.END j refl) in
      let place = same_place tokens from a.place b.place h.1 g.1 in
      ((λ i. record { declarations = first.0 i; statements = rest.0 i; place = place i }), rest.1)
    where
      no_dcl : (m : ℕ) (xs : List _) (to : ℕ) → SpellsEach (SpellsStmt tokens 32) m xs to → HasWord tokens to w.END → HasWord tokens m w.DCL → ⊥
      no_dcl m [] to h i g = absurd (omega (arith, same_word tokens m w.END w.DCL (subst (λ k. HasWord tokens k w.END) h i) g))
      no_dcl m (x ∷ xs) to h i g = no_begin tokens m w.DCL g refl (stmt_begins tokens 32 m x h.0 h.1)

  one_block : (from : ℕ) (a b : Body) (to end : ℕ) → SpellsBlock tokens from a to → SpellsBlock tokens from b end → (shown_body a ≡ shown_body b) × (to ≡ end)
  one_block from a b to end h g =
      let same = one_whole_body (from + 1) a b h.0 g.0 h.2 h.3 g.2 g.3 in
      (same.0, omega (arith, same.1, h.5, g.5))

  -- ---- declarations

  abbrev decl_words : What → Option ℕ
  decl_words (what.Id _) = Some 4
  decl_words (what.Word code) =
      if code == w.LENGTH then Some 0 else (if code == w.TYPE then Some 1 else (if code == w.DCL then Some 2 else (if code == w.SPC then Some 3 else None)))
  decl_words _ = None

  abbrev decl_group : Decl → ℕ
  decl_group (decl.Length _ _ _) = 0
  decl_group (decl.Type _ _ _) = 1
  decl_group (decl.Declare _ _) = 2
  decl_group (decl.Specify _ _) = 3
  decl_group (decl.Task _ _ _ _) = 4
  decl_group (decl.Proc _ _ _ _ _) = 4

  decl_leads : (from : ℕ) (a : Decl) (to : ℕ) → SpellsDecl tokens from a to → option_and_then decl_words (what_at tokens from) ≡ Some (decl_group a)
  decl_leads from (decl.Length x n p) to h = ap (option_and_then decl_words) h.1
  decl_leads from (decl.Type n x p) to h = ap (option_and_then decl_words) h.2
  decl_leads from (decl.Declare xs p) to h = ap (option_and_then decl_words) h.2
  decl_leads from (decl.Specify xs p) to h = ap (option_and_then decl_words) h.2
  decl_leads from (decl.Task n x b p) to h = ap (option_and_then decl_words) h.2.0
  decl_leads from (decl.Proc n xs r b p) to h = ap (option_and_then decl_words) h.3.0

  semicolon_stops : (k : ℕ) → HasSymbol tokens k s.SEMICOLON → NoBracket tokens k
  semicolon_stops k h = no_bracket tokens k s.SEMICOLON h (λ e. absurd (omega (arith, e)))

  comma_stops : (k : ℕ) → HasSymbol tokens k s.COMMA → NoBracket tokens k
  comma_stops k h = no_bracket tokens k s.COMMA h (λ e. absurd (omega (arith, e)))

  no_control : (k symbol : ℕ) → HasSymbol tokens k symbol → HasId tokens k (codes "CONTROL") → ⊥
  no_control k symbol h g = absurd (let e = sym h ∙ g in cc e)

  -- what follows the head of a procedure: RETURNS or a semicolon
  before_block : (a : ℕ) (r : Option Basic) (b : ℕ) (body : Body) (to : ℕ) → SpellsMaybe (SpellsReturns tokens) a r b → SpellsBlock tokens b body to → NoBracket tokens a
  before_block a None b body to h g e = subst (NoBracket tokens) h (semicolon_stops b g.1) e
  before_block a (Some r) b body to h g e = symbol_no_word tokens a s.LEFT_ROUND w.RETURNS e h.1

  one_decl : (from : ℕ) (a b : Decl) (to end : ℕ) → SpellsDecl tokens from a to → SpellsDecl tokens from b end → (shown_decl a ≡ shown_decl b) × (to ≡ end)
  one_decl from a b to end h g = by a b (yes_eqb groups) h g
    where
      groups : decl_group a ≡ decl_group b
      groups = let e = sym (decl_leads from a to h) ∙ decl_leads from b end g in cc e

      by : (a b : Decl) → T (eqb (decl_group a) (decl_group b)) → SpellsDecl tokens from a to → SpellsDecl tokens from b end →
          (shown_decl a ≡ shown_decl b) × (to ≡ end)
      by (decl.Length x n p) (decl.Length y m q) e h g =
          let sort = same_sort tokens (from + 1) x y h.2 g.2 in
          let number = same_number tokens (from + 3) n m h.4 g.4 in
          let place = same_place tokens from p q h.0 g.0 in
          ((λ i. OfLength (sort i) (number i) (place i)), h.7 ∙ sym g.7)
      by (decl.Type n x p) (decl.Type m y q) e h g =
          let name = same_name tokens (from + 1) n m h.3 g.3 in
          let part = one_typing tokens 8 (from + 2) x y h.0 g.0 h.4 (semicolon_stops h.0 h.5) g.4 (semicolon_stops g.0 g.5) in
          let place = same_place tokens from p q h.1 g.1 in
          ((λ i. OfType (name i) (part.0 i) (place i)), omega (arith, h.6, g.6, part.1))
      by (decl.Declare xs p) (decl.Declare ys q) e h g =
          let all = list_one tokens (SpellsDeclared tokens) shown_declared DeclaredStops Ends
          (λ k h. ((comma_stops k h, symbol_no_word tokens k s.COMMA w.INIT h), symbol_no_word tokens k s.COMMA w.PRESET h))
          (λ k h. ((semicolon_stops k h, symbol_no_word tokens k s.SEMICOLON w.INIT h), symbol_no_word tokens k s.SEMICOLON w.PRESET h)) (ends_no_comma tokens) one_declared
          xs.items.items ys.items.items (from + 1) h.0 g.0 h.3 h.4 g.3 g.4 in
          let place = same_place tokens from p q h.1 g.1 in
          ((λ i. OfDeclare (all.0 i) (place i)), omega (arith, h.5, g.5, all.1))
      by (decl.Specify xs p) (decl.Specify ys q) e h g =
          let all = list_one tokens (SpellsSpec tokens) shown_spec SpecStops Ends (λ k h. (comma_stops k h, no_control k s.COMMA h))
          (λ k h. (semicolon_stops k h, no_control k s.SEMICOLON h)) (ends_no_comma tokens) one_spec xs.items.items ys.items.items (from + 1) h.0 g.0 h.3 h.4 g.3 g.4 in
          let place = same_place tokens from p q h.1 g.1 in
          ((λ i. OfSpecify (all.0 i) (place i)), omega (arith, h.5, g.5, all.1))
      by (decl.Task n x b p) (decl.Task m y c q) e h g =
          let name = same_name tokens from n m h.2 g.2 in
          let head = one_head (from + 3) x y h.0 g.0 h.5 h.6.1 g.5 g.6.1 in
          let body = one_block g.0 b c to end (subst (λ k. SpellsBlock tokens k b to) head.1 h.6) g.6 in
          let place = same_place tokens from p q h.1 g.1 in
          ((λ i. OfTask (name i) (head.0 i) (body.0 i) (place i)), body.1)
      by (decl.Proc n xs r b p) (decl.Proc m ys u c q) e h g =
          let name = same_name tokens from n m h.3 g.3 in
          let all = maybe_bracketed_one tokens (SpellsParam tokens) shown_param ParamStops (λ k h. (comma_stops k h, symbol_no_word tokens k s.COMMA w.IDENT h))
          (λ k h. (no_bracket tokens k s.RIGHT_ROUND h (λ e. absurd (omega (arith, e))), symbol_no_word tokens k s.RIGHT_ROUND w.IDENT h)) one_param
          xs.items.items ys.items.items (from + 3) h.0 g.0 h.6 (before_block h.0 r h.1 b to h.7 h.8) g.6 (before_block g.0 u g.1 c end g.7 g.8) in
          let returns = maybe_one (SpellsReturns tokens) (λ x. x) (λ k. HasWord tokens k w.RETURNS) (λ k. Unit {0}) (λ k x m h. h.1) (λ k x y m n h _ g _. one_returns k x y m n h g)
          r u g.0 h.1 g.1 (subst (λ k. SpellsMaybe (SpellsReturns tokens) k r h.1) all.1 h.7) (symbol_no_word tokens h.1 s.SEMICOLON w.RETURNS h.8.1) tt
          g.7 (symbol_no_word tokens g.1 s.SEMICOLON w.RETURNS g.8.1) tt in
          let result = option_as_it_is r u returns.0 in
          let body = one_block g.1 b c to end (subst (λ k. SpellsBlock tokens k b to) returns.1 h.8) g.8 in
          let place = same_place tokens from p q h.2 g.2 in
          ((λ i. OfProc (name i) (all.0 i) (result i) (body.0 i) (place i)), body.1)
      by (decl.Task n x b p) (decl.Proc m ys u c q) e h g = absurd (omega (arith, same_word tokens (from + 2) w.TASK w.PROC h.4 g.5))
      by (decl.Proc m ys u c q) (decl.Task n x b p) e h g = absurd (omega (arith, same_word tokens (from + 2) w.PROC w.TASK h.5 g.4))
      by a b e h g = absurd e

  -- ---- modules

  one_module_name : (from : ℕ) (a b : ModuleName) (to end : ℕ) → SpellsModuleName tokens from a to → SpellsModuleName tokens from b end → (a ≡ b) × (to ≡ end)
  one_module_name from (Bracketed a) (Bracketed b) to end h g = (ap Bracketed (same_name tokens (from + 1) a b h.1 g.1), h.3 ∙ sym g.3)
  one_module_name from (Bare a) (Bare b) to end h g = (ap Bare (same_name tokens from a b h.0 g.0), h.1 ∙ sym g.1)
  one_module_name from (Bracketed a) (Bare b) to end h g = absurd (let e = sym h.0 ∙ g.0.0 in cc e)
  one_module_name from (Bare b) (Bracketed a) to end h g = absurd (let e = sym g.0 ∙ h.0.0 in cc e)

  name_no_end : (from : ℕ) (a : ModuleName) (to : ℕ) → SpellsModuleName tokens from a to → Ends from → ⊥
  name_no_end from (Bracketed a) to h e = absurd (omega (arith, same_symbol tokens from s.LEFT_ROUND s.SEMICOLON h.0 e))
  name_no_end from (Bare a) to h e = absurd (let e = sym h.0.0 ∙ e in cc e)

  one_system : (from : ℕ) (a b : Parts Device) (to end : ℕ) → SpellsSystem tokens from a to → HasWord tokens to w.PROBLEM → SpellsSystem tokens from b end →
      HasWord tokens end w.PROBLEM → (shown_devices a ≡ shown_devices b) × (to ≡ end)
  one_system from a b to end h i g j =
      let all = each_one (SpellsDevice tokens) (λ x. x) (λ k. (name : Name) × IsName tokens k name) (λ k x m h. (x.name, h.1)) one_device a.items.items b.items.items (from + 2) to end
      h.2 (λ e. absurd (let e = sym i ∙ e.1.0 in cc e)) g.2 (λ e. absurd (let e = sym j ∙ e.1.0 in cc e)) in
      (as_they_are a.items.items b.items.items all.0, all.1)

  decl_begins : (k : ℕ) → HasWord tokens k w.MODEND → ((n : ℕ) × (option_and_then decl_words (what_at tokens k) ≡ Some n)) → ⊥
  decl_begins k h g = absurd (let e = sym g.1 ∙ ap (option_and_then decl_words) h in cc e)

  same_semicolon : (from : ℕ) (a b : Bool) (to : ℕ) → SpellsSymbolFlag tokens s.SEMICOLON from a to → SpellsSymbolFlag tokens s.SEMICOLON from b to → a ≡ b
  same_semicolon from false false to h g = refl
  same_semicolon from true true to h g = refl
  same_semicolon from false true to h g = absurd (omega (arith, h, g.1))
  same_semicolon from true false to h g = absurd (omega (arith, g, h.1))

  same_tree : (from : ℕ) (a b : Tree) (to : ℕ) → SpellsTree tokens from a to → SpellsTree tokens from b to → shown_tree a ≡ shown_tree b
  same_tree from a b to h g =
      let naming = maybe_one (SpellsModuleName tokens) (λ x. x) (λ k. (x : ModuleName) × (to : ℕ) × SpellsModuleName tokens k x to) (λ k. Unit {0}) (λ k x m h. (x, m, h))
      (λ k x y m n h _ g _. one_module_name k x y m n h g) a.name b.name (from + 1) h.0 g.0
      h.5 (λ e. name_no_end h.0 e.0 e.1 e.2 h.6) tt g.5 (λ e. name_no_end g.0 e.0 e.1 e.2 g.6) tt in
      let name = option_as_it_is a.name b.name naming.0 in
      let system = maybe_one (SpellsSystem tokens) shown_devices (λ k. HasWord tokens k w.SYSTEM) (λ k. HasWord tokens k w.PROBLEM) (λ k x m h. h.0) one_system
      a.system b.system (g.0 + 1) h.1 g.1 (subst (λ k. SpellsMaybe (SpellsSystem tokens) (k + 1) a.system h.1) naming.1 h.7)
      (λ e. absurd (omega (arith, same_word tokens h.1 w.PROBLEM w.SYSTEM h.8 e))) h.8 g.7 (λ e. absurd (omega (arith, same_word tokens g.1 w.PROBLEM w.SYSTEM g.8 e))) g.8 in
      let all = each_one (SpellsDecl tokens) shown_decl (λ k. (n : ℕ) × (option_and_then decl_words (what_at tokens k) ≡ Some n)) (λ k x m h. (decl_group x, decl_leads k x m h)) one_decl
      a.declarations.items.items b.declarations.items.items (g.1 + 2) h.2 g.2
      (subst (λ k. SpellsEach (SpellsDecl tokens) (k + 2) a.declarations.items.items h.2) system.1 h.10) (decl_begins h.2 h.11) g.10 (decl_begins g.2 g.11) in
      let semicolon = same_semicolon (g.2 + 1) a.semicolon b.semicolon to (subst (λ k. SpellsSymbolFlag tokens s.SEMICOLON (k + 1) a.semicolon to) all.1 h.13) g.13 in
      let modend = same_place tokens g.2 a.modend b.modend (subst (λ k. IsAt tokens k a.modend) all.1 h.12) g.12 in
      let place = same_place tokens from a.place b.place h.3 g.3 in
      λ i. record { name = name i; system = system.0 i; declarations = all.0 i; modend = modend i; semicolon = semicolon i; place = place i }

-- two trees of the same tokens say the same
pub one_tree : (tokens : List Token) (a b : Tree) → Spells a tokens → Spells b tokens → shown_tree a ≡ shown_tree b
one_tree tokens a b h g = same_tree tokens 0 a b (length tokens) h.spells g.spells
