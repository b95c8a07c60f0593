-- That the declaration is read that the first token begins, or the least stop is told.
use Rattle.std.proofs.Common.{sym, ◌<◌, ◌^◌, length, rules, arith}
use Rattle.pearl_tree.specs.Standing.{what_at}
use Rattle.pearl_parse.proofs.DeclarationRests.{no_first, no_declaration}
use Rattle.pearl_tree.specs.Modules.{SpellsDecl}
use Rattle.pearl_parse.proofs.DeclarationLeast.{reaches_wider, least_wider}
use Rattle.pearl_parse.proofs.Beginnings.{declaration_begins}
use Rattle.pearl_parse.proofs.Unread.{none_read}
use Rattle.pearl_parse.proofs.module.declaration.Goals as goal

pub returns-in-None : goal.returns-in-None
returns-in-None c =
    let tokens = c.args.tokens.now in
    let from = c.args.from in
    let none = no_first (what_at tokens from) (c.name_at.ensures.none c.in-None.is) (sym c.if-is_word.ensures.value)
    (sym c.if-is_word-2.ensures.value)
    (sym c.if-is_word-3.ensures.value) (sym c.if-is_word-4.ensures.value) in
    let few : length c.args.tokens.now < 2 ^ 55 = search rules in
    none_read 24 SpellsDecl tokens from _ (no_declaration tokens from none, omega arith, c.requires)
    (reaches_wider 16 24 SpellsDecl c.args.tokens.now c.args.from (omega arith) c.args.from
    (declaration_begins c.args.tokens.now c.args.from c.requires few))

pub returns-then-is_word : goal.returns-then-is_word
returns-then-is_word c =
    let read = c.length_of.ensures.reads in
    record {
      spells = read.spells;
      only = read.only;
      ahead = read.ahead;
      refused = read.refused;
      least = least_wider 16 24 SpellsDecl c.args.tokens.now c.args.from (omega arith) c.length_of.result read.least;
    }

pub returns-then-is_word-2 : goal.returns-then-is_word-2
returns-then-is_word-2 c =
    let read = c.type_of.ensures in
    record {
      spells = read.spells;
      only = read.only;
      ahead = read.ahead;
      refused = read.refused;
      least = least_wider 16 24 SpellsDecl c.args.tokens.now c.args.from (omega arith) c.type_of.result read.least;
    }

pub returns-then-is_word-3 : goal.returns-then-is_word-3
returns-then-is_word-3 c =
    let read = c.declare.ensures in
    record {
      spells = read.spells;
      only = read.only;
      ahead = read.ahead;
      refused = read.refused;
      least = least_wider 16 24 SpellsDecl c.args.tokens.now c.args.from (omega arith) c.declare.result read.least;
    }

pub returns-then-is_word-4 : goal.returns-then-is_word-4
returns-then-is_word-4 c =
    let read = c.specify.ensures in
    record {
      spells = read.spells;
      only = read.only;
      ahead = read.ahead;
      refused = read.refused;
      least = least_wider 16 24 SpellsDecl c.args.tokens.now c.args.from (omega arith) c.specify.result read.least;
    }
