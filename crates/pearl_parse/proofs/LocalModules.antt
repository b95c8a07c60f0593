-- Which tokens declarations with a body and modules depend on: those before their end alone.
use Rattle.std.proofs.Common.{◌≡◌, ℕ, ◌+◌, ◌<◌, List, ◌∙◌, arith}
use Rattle.pearl_tree.specs.declared.name.Name.{Name}
use Rattle.pearl_tree.specs.declared.name.Number.{Number}
use Rattle.pearl_tree.specs.declared.tree.Decl.TheVariants as decl
use Rattle.pearl_tree.specs.declared.tree.ModuleName.TheVariants.{Bracketed, Bare}
use Rattle.pearl_tree.specs.declared.token.Token.{Token}
use Rattle.pearl_tree.specs.Standing.{what_at, place_at, IsName, IsNumber}
use Rattle.pearl_tree.specs.Declarations.{SpellsDevice, SpellsDeclared, SpellsSpec, SpellsParam}
use Rattle.pearl_tree.specs.Modules.{SpellsReturns, SpellsBlock, SpellsDecl, SpellsModuleName, SpellsSystem}
use Rattle.pearl_parse_expr.specs.Least.{AlikeBefore}
use Rattle.pearl_parse_expr.proofs.Offered as local
use Rattle.pearl_parse_decl.proofs.Offered.{Keeps}
use Rattle.pearl_parse_decl.proofs.Offered as offered
use Rattle.pearl_parse.proofs.LocalStatements.{whole_body_keeps}

module _ (tokens others : List Token) (k : ℕ) (alike : AlikeBefore tokens others k) where
  what : (j : ℕ) → j < k → what_at others j ≡ what_at tokens j
  what = local.what tokens others k alike

  place : (j : ℕ) → j < k → place_at others j ≡ place_at tokens j
  place = local.place tokens others k alike

  name : (j : ℕ) (x : Name) → j < k → IsName tokens j x → IsName others j x
  name = local.name tokens others k alike

  number : (j : ℕ) (x : Number) → j < k → IsNumber tokens j x → IsNumber others j x
  number = local.number tokens others k alike

  pub block_keeps : Keeps tokens others k 3 SpellsBlock
  block_keeps from x to h near =
      let below : h.0 + 1 < k = omega (arith, h.5) in
      let inner = whole_body_keeps tokens others k alike (from + 1) x h.0 h.2 (omega arith) in
      let behind : from < h.0 = omega (arith, inner.0) in (
        omega (arith, h.5),
        (
          h.0,
          what from (omega arith) ∙ h.1,
          inner.1,
          what h.0 (omega arith) ∙ h.3,
          what (h.0 + 1) below ∙ h.4,
          h.5,
        ),
      )

  pub decl_keeps : Keeps tokens others k 4 SpellsDecl
  decl_keeps from (decl.Length sort size at) to h near =
      let below : from + 5 < k = omega (arith, h.7) in (
        omega (arith, h.7),
        (
          place from (omega arith) ∙ h.0,
          what from (omega arith) ∙ h.1,
          what (from + 1) (omega arith) ∙ h.2,
          what (from + 2) (omega arith) ∙ h.3,
          number (from + 3) size (omega arith) h.4,
          what (from + 4) (omega arith) ∙ h.5,
          what (from + 5) below ∙ h.6,
          h.7,
        ),
      )
  decl_keeps from (decl.Type x typing at) to h near =
      let below : h.0 < k = omega (arith, h.6) in
      let part = offered.whole_typing_keeps tokens others k alike (from + 2) typing h.0 h.4 (omega arith) in
      let behind : from + 2 < h.0 = omega (arith, part.0) in (
        omega (arith, h.6),
        (
          h.0,
          place from (omega arith) ∙ h.1,
          what from (omega arith) ∙ h.2,
          name (from + 1) x (omega arith) h.3,
          part.1,
          what h.0 below ∙ h.5,
          h.6,
        ),
      )
  decl_keeps from (decl.Declare declared at) to h near =
      let below : h.0 < k = omega (arith, h.5) in
      let list = offered.list_keeps tokens others k alike 2 SpellsDeclared
      (offered.declared_keeps tokens others k alike) (from + 1) declared.items.items h.0 h.3 (omega arith) in
      let behind : from + 2 < h.0 = omega (arith, list.0) in (
        omega (arith, h.5),
        (
          h.0,
          place from (omega arith) ∙ h.1,
          what from (omega arith) ∙ h.2,
          list.1,
          what h.0 below ∙
              h.4,
          h.5,
        ),
      )
  decl_keeps from (decl.Specify specs at) to h near =
      let below : h.0 < k = omega (arith, h.5) in
      let list = offered.list_keeps tokens others k alike 2 SpellsSpec (offered.spec_keeps tokens others k alike)
      (from + 1) specs.items.items h.0 h.3 (omega arith) in
      let behind : from + 2 < h.0 = omega (arith, list.0) in (
        omega (arith, h.5),
        (
          h.0,
          place from (omega arith) ∙ h.1,
          what from (omega arith) ∙ h.2,
          list.1,
          what h.0 below ∙
              h.4,
          h.5,
        ),
      )
  decl_keeps from (decl.Task x head body at) to h near =
      let last = block_keeps h.0 body to h.6 near in
      let first = offered.task_head_keeps tokens others k alike (from + 3) head h.0 h.5 (omega (arith, last.0)) in
      let behind : from + 2 < h.0 = omega (arith, first.0) in
      let below : h.0 < k = omega (arith, last.0) in (
        omega (arith, last.0),
        (
          h.0,
          place from (omega arith) ∙ h.1,
          name from x (omega arith) h.2,
          what (from + 1) (omega arith) ∙ h.3,
          what (from + 2) (omega arith) ∙ h.4,
          first.1,
          last.1,
        ),
      )
  decl_keeps from (decl.Proc x params returns body at) to h near =
      let last = block_keeps h.1 body to h.8 near in
      let second = offered.maybe_keeps tokens others k alike 4 SpellsReturns
      (offered.returns_keep tokens others k alike) h.0 returns h.1 h.7 (omega (arith, last.0)) in
      let first = offered.maybe_bracketed_keeps tokens others k alike 2 SpellsParam
      (offered.param_keeps tokens others k alike) (from + 3) params.items.items h.0 h.6
      (omega (arith, last.0, second.0)) in
      let behind : from + 2 < h.1 = omega (arith, first.0, second.0) in
      let below : h.1 < k = omega (arith, last.0) in (
        omega (arith, last.0),
        (
          h.0,
          h.1,
          place from (omega arith) ∙ h.2,
          name from x (omega arith) h.3,
          what (from + 1) (omega arith) ∙ h.4,
          what (from + 2) (omega arith) ∙ h.5,
          first.1,
          second.1,
          last.1,
        ),
      )

  pub module_name_keeps : Keeps tokens others k 1 SpellsModuleName
  module_name_keeps from (Bracketed x) to h near =
      let below : from + 2 < k = omega (arith, h.3) in (
        omega (arith, h.3),
        (
          what from (omega arith) ∙ h.0,
          name (from + 1) x (omega arith) h.1,
          what (from + 2) below ∙
              h.2,
          h.3,
        ),
      )
  module_name_keeps from (Bare x) to h near = offered.name_keeps tokens others k alike from x to h near

  pub system_keeps : Keeps tokens others k 2 SpellsSystem
  system_keeps from x to h near =
      let list = offered.each_keeps tokens others k alike 7 SpellsDevice (offered.device_keeps tokens others k alike)
      (from + 2) x.items.items to h.2 near in
      let below : from + 1 < k = omega (arith, list.0) in
      (omega (arith, list.0), (what from (omega arith) ∙ h.0, what (from + 1) below ∙ h.1, list.1))
