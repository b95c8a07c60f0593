-- What `names` answers where no single name stands there: names in brackets are read, or aren't.
use Rattle.std.proofs.Common.{rules, ℕ, ◌<◌, ◌≤◌, ◌^◌, ◌≡◌, List, length, false, refl, arith}
use Rattle.pearl_tree.specs.declared.token.Token.{Token}
use Rattle.pearl_tree.specs.Standing.{what_at}
use Rattle.pearl_tree.specs.Types.{SpellsNames}
use Rattle.pearl_parse_expr.specs.Stops.{is_name}
use Rattle.pearl_grammar.specs.Rules.{Bracketed, Then, End}
use Rattle.pearl_grammar.specs.Declarations.{id}
use Rattle.pearl_grammar.specs.Reached.{never}
use Rattle.pearl_grammar.proofs.Offered as leaf
use Rattle.pearl_grammar.proofs.Offered.{names_start, Walk, mark_read, second_chosen, only_read, part_missing}
use Rattle.pearl_grammar.proofs.Offered.{took_only_list, lacks_first, only, none_only}
use Rattle.pearl_parse_decl.proofs.name.names.Goals as goal

-- where no single name stands
opened : (tokens : List Token) (from : ℕ) → from ≤ length tokens → length tokens < 2 ^ 55 →
    is_name (what_at tokens from) ≡ false →
    Walk 9 SpellsNames tokens from 0 (Then (Bracketed id) End) (leaf.id, tt) never from from
opened tokens from within few none =
    mark_read (second_chosen false is_name (names_start tokens from within few) (omega arith) none ((λ name. refl), tt)
    (omega arith))

pub returns-in-Ok : goal.returns-in-Ok
returns-in-Ok c =
    let read = c.in-Ok.ensures in
    only _ (only_read (opened c.args.tokens.now c.args.from c.requires (search rules) (c.in-None.ensures.none refl))
    (took_only_list {new = c.in-Ok.list.stop} read (omega (arith, read.ahead)) c.requires) (omega arith) (omega arith))
    (omega (arith, read.ahead)) (omega (arith, read.ahead)) (search rules)

pub returns-in-Err : goal.returns-in-Err
returns-in-Err c =
    none_only _ (part_missing (opened c.args.tokens.now c.args.from c.requires (search rules) (c.in-None.ensures.none refl))
    (lacks_first c.in-Err.halt c.in-Err.ensures.refused c.in-Err.ensures.least (omega arith)) (omega arith) (omega arith))
