-- What other crates may cite of this crate's proofs.

-- what is left of a part
pub use Rattle.pearl_grammar.proofs.Rests.{Rest, Ends, Next, Fills, Makes, ends_fill, fills_as, fills_token, Comes}
pub use Rattle.pearl_grammar.proofs.Rests.{state_reaches}
-- how far a reader has come
pub use Rattle.pearl_grammar.proofs.States.{State, first, moved, raised, halt_token, halt_part, past_part}
pub use Rattle.pearl_grammar.proofs.States.{done, halts_in, goes_in_told}
-- on which tokens joined parts depend: those before their end alone; and how long lists are
pub use Rattle.pearl_grammar.proofs.Joins.{flag_keeps, symbol_flag_keeps, maybe_keeps, maybe_bracketed_keeps}
pub use Rattle.pearl_grammar.proofs.Joins.{maybe_bracketed_long}
-- kinds of tokens, and a test of each of some kinds
pub use Rattle.pearl_grammar.proofs.Tokens.{Among, AllAnswer, answers, neither}
-- what holds of each rule because it holds of its parts
pub use Rattle.pearl_grammar.proofs.RuleFacts.{Left, Leaf, Facts, IsFirm, least_of, fill_of, firsts_of, rule_fills}
pub use Rattle.pearl_grammar.proofs.RuleFacts.{rule_begins}
-- how far a reader has come in a rule: its steps, and what is refused where a token or a part is missing
pub use Rattle.pearl_grammar.proofs.Walk.{opened, mark_read, token_read, one_read, part_read, part_read_as, part_taken}
pub use Rattle.pearl_grammar.proofs.Walk.{only_read}
pub use Rattle.pearl_grammar.proofs.Walk.{first_chosen, second_chosen, lacking, missing, part_missing, part_missing_as, as_one}
pub use Rattle.pearl_grammar.proofs.Walk.{Walk, TookAs, Took, Lacks}
-- what a part's reader says, as a step takes it, and what a reader says at the end
pub use Rattle.pearl_grammar.proofs.Told.{took_only, only, took_longest, longest, took_maybe, maybe, took_once}
pub use Rattle.pearl_grammar.proofs.Told.{took_only_list, took_list, took_maybe_list, took_symbol, took_flag, lacks}
pub use Rattle.pearl_grammar.proofs.Told.{lacks_past, lacks_first, none_only, none_longest}
-- a reader of one kind of a whole, as one of the whole
pub use Rattle.pearl_grammar.proofs.Alternatives.{OfKind, of_one_kind, no_other_kind}
-- the tokens that a production spells are those that its definition says
pub use Rattle.pearl_grammar.proofs.Said.{item_said, control_said, activate_said, continue_said, resume_said}
-- parts of one token, expressions and references
pub use Rattle.pearl_grammar.proofs.Leaves.{name_keeps, id, number_keeps, number, a_literal, expr_keeps, own_ref_keeps}
-- where a reader of a part begins
pub use Rattle.pearl_grammar.proofs.Productions.{leaf_starts, begins}
-- the facts of names, bounds, basic types, specifications, devices and heads, and where their readers begin
pub use Rattle.pearl_grammar.proofs.DeclarationFacts.{bracketed_number, bracketed_number_start, constant}
pub use Rattle.pearl_grammar.proofs.DeclarationFacts.{constant_start, int_start, upper_start, bound, bound_start}
pub use Rattle.pearl_grammar.proofs.DeclarationFacts.{bounds, sort, basic, names_start, bounds_start, class}
pub use Rattle.pearl_grammar.proofs.DeclarationFacts.{class_start, control, direction, spec, spec_start, device_word}
pub use Rattle.pearl_grammar.proofs.DeclarationFacts.{close_facts, device, device_start, param, param_start, prio}
pub use Rattle.pearl_grammar.proofs.DeclarationFacts.{prio_start, returns, returns_start}
-- the same of types, and of declarations that have them
pub use Rattle.pearl_grammar.proofs.TypeFacts.{typing, whole_typing, field, field_start, item, item_start, sema_start}
pub use Rattle.pearl_grammar.proofs.TypeFacts.{declared, length_start, type_start, declare_start, specify_start}
-- the facts of values, times and statements, where the readers of these begin, and on which tokens these depend
pub use Rattle.pearl_grammar.proofs.StatementFacts.{after, value_start, period_end, period}
pub use Rattle.pearl_grammar.proofs.StatementFacts.{empty_keeps, empty_begins, exit_keeps, exit_facts}
pub use Rattle.pearl_grammar.proofs.StatementFacts.{exit_begins, assign_keeps, assign_facts, assign_starts, call_keeps, call_facts}
pub use Rattle.pearl_grammar.proofs.StatementFacts.{call_starts, return_keeps, return_facts, return_begins}
pub use Rattle.pearl_grammar.proofs.StatementFacts.{activate_keeps, activate_facts, continue_keeps, continue_facts}
pub use Rattle.pearl_grammar.proofs.StatementFacts.{resume_keeps, resume_facts}
pub use Rattle.pearl_grammar.proofs.StatementFacts.{on_task_keeps, on_task_facts, on_task_begins, on_semas_keeps}
pub use Rattle.pearl_grammar.proofs.StatementFacts.{on_semas_facts, on_semas_begins, on_interrupt_keeps}
pub use Rattle.pearl_grammar.proofs.StatementFacts.{on_interrupt_facts, on_interrupt_begins, fmt_keeps, transfer_facts}
pub use Rattle.pearl_grammar.proofs.StatementFacts.{put_keeps, put_facts, put_begins, get_keeps, get_facts, get_begins}
pub use Rattle.pearl_grammar.proofs.StatementFacts.{send_keeps, send_facts}
pub use Rattle.pearl_grammar.proofs.StatementFacts.{send_begins, take_keeps, take_facts, take_begins}
pub use Rattle.pearl_grammar.proofs.StatementFacts.{for_name, body_declaration_start}
