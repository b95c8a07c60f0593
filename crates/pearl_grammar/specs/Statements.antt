-- The productions of statements that hold no others, of parts of those that do, and how a tree holds their parts.
use Rattle.std.specs.Prelude.{◌≡◌, ℕ, ◌+◌, List}
use Rattle.pearl_tree.specs.declared.name.Name.{Name}
use Rattle.pearl_tree.specs.declared.declaration.Item.{Item}
use Rattle.pearl_tree.specs.declared.token.Token.{Token}
use Rattle.pearl_tree.specs.declared.statement.BodyDecl.{BodyDecl}
use Rattle.pearl_tree.specs.declared.statement.PeriodEnd.{PeriodEnd}
use Rattle.pearl_tree.specs.declared.statement.PeriodEnd.TheVariants.{Until, During}
use Rattle.pearl_tree.specs.declared.statement.Period.{Period}
use Rattle.pearl_tree.specs.declared.statement.Start.{Start}
use Rattle.pearl_tree.specs.declared.statement.Start.TheVariants as start_tree
use Rattle.pearl_tree.specs.declared.statement.Once.{Once}
use Rattle.pearl_tree.specs.declared.statement.Once.TheVariants as once_tree
use Rattle.pearl_tree.specs.declared.statement.Assign.{Assign}
use Rattle.pearl_tree.specs.declared.statement.Call.{Call}
use Rattle.pearl_tree.specs.declared.statement.Activate.{Activate}
use Rattle.pearl_tree.specs.declared.statement.Continue.{Continue}
use Rattle.pearl_tree.specs.declared.statement.Resume.{Resume}
use Rattle.pearl_tree.specs.declared.expression.Expr.{Expr}
use Rattle.pearl_tree.specs.declared.expression.Ref.{Ref}
use Rattle.pearl_tree.specs.declared.format.Fmt.{Fmt}
use Rattle.pearl_tree.specs.declared.statement.TaskWord.{TaskWord}
use Rattle.pearl_tree.specs.declared.statement.SemaWord.{SemaWord}
use Rattle.pearl_tree.specs.declared.statement.InterruptWord.{InterruptWord}
use Rattle.pearl_tree.specs.declared.statement.OnTask.{OnTask}
use Rattle.pearl_tree.specs.declared.statement.OnSemas.{OnSemas}
use Rattle.pearl_tree.specs.declared.statement.OnInterrupt.{OnInterrupt}
use Rattle.pearl_tree.specs.declared.statement.Return.{Return}
use Rattle.pearl_tree.specs.declared.statement.Put.{Put}
use Rattle.pearl_tree.specs.declared.statement.Get.{Get}
use Rattle.pearl_tree.specs.declared.statement.Send.{Send}
use Rattle.pearl_tree.specs.declared.statement.Take.{Take}
use Rattle.pearl_tree.specs.Expressions.{SpellsWhole, SpellsOwnRef}
use Rattle.pearl_tree.specs.Standing.{Spelling}
use Rattle.pearl_tree.specs.Formats.{SpellsFmt}
use Rattle.pearl_tree.specs.Declarations.{SpellsItem}
use Rattle.pearl_tree.specs.Statements.{task_word, sema_word, interrupt_word, SpellsValue, SpellsAfter, SpellsPeriodEnd}
use Rattle.pearl_tree.specs.Statements.{SpellsPeriod, SpellsStart, SpellsOnce, HasBecomes}
use Rattle.pearl_tree.specs.declared.symbol.TheConstants as s
use Rattle.pearl_tree.specs.declared.word_code.TheConstants as w
use Rattle.pearl_grammar.specs.Rules.{First, Second, Part, One, Flag, Maybe, Listed, MaybeListed, MaybeBracketed, Rule, End, Mark, Then, Or, Held}
use Rattle.pearl_grammar.specs.Rules.{word, symbol, SpellsOneWord}
use Rattle.pearl_grammar.specs.Declarations.{id, close}

abbrev pub expression : Part
expression = One Expr SpellsWhole

abbrev pub reference : Part
reference = One Ref SpellsOwnRef

abbrev pub fmt : Part
fmt = One Fmt SpellsFmt

abbrev pub after : ℕ → Part
after code = One Expr (λ tokens. SpellsAfter tokens code)

abbrev pub period : Part
period = One Period SpellsPeriod

-- `:=` and `=` mean the same
abbrev pub SpellsBecomes : List Token → Spelling (Unit {0})
SpellsBecomes tokens from x to = HasBecomes tokens from × (to ≡ from + 1)

-- ---- parts

-- word expr
abbrev pub after_rule : ℕ → Rule
after_rule code = word code (Then expression End)

abbrev pub after_parts : (code : ℕ) → Expr → Held (after_rule code)
after_parts code x = (x, tt)

-- "(" expr ")"
abbrev pub value_rule : Rule
value_rule = symbol s.LEFT_ROUND (Then expression (symbol s.RIGHT_ROUND End))

abbrev pub value_parts : Expr → Held value_rule
value_parts x = (x, tt)

-- UNTIL expr | DURING expr
abbrev pub period_end_rule : Rule
period_end_rule = Or (Mark (Then (after w.UNTIL) End)) (Mark (Then (after w.DURING) End))

abbrev pub period_end_parts : PeriodEnd → Held period_end_rule
period_end_parts (Until time place) = First (place, (time, tt))
period_end_parts (During duration place) = Second (place, (duration, tt))

-- all = ALL expr [ UNTIL expr | DURING expr ]
abbrev pub period_rule : Rule
period_rule = Mark (Then (after w.ALL) (Then (Maybe (One PeriodEnd SpellsPeriodEnd)) End))

abbrev pub period_parts : Period → Held period_rule
period_parts x = (x.place, (x.duration, (x.end, tt)))

-- start = AT expr [ all ] | AFTER expr [ all ] | WHEN id [ AFTER expr ] [ all ] | all
abbrev pub start_rule : Rule
start_rule = Or (Mark (Then (after w.AT) (Then (Maybe period) End))) (Or (Mark (Then (after w.AFTER) (Then (Maybe period) End)))
    (Or (Mark (word w.WHEN (Then id (Then (Maybe (after w.AFTER)) (Then (Maybe period) End))))) (Then period End)))

abbrev pub start_parts : Start → Held start_rule
start_parts (start_tree.At time period place) = First (place, (time, (period, tt)))
start_parts (start_tree.After duration period place) = Second (First (place, (duration, (period, tt))))
start_parts (start_tree.When interrupt after period place) =
    Second (Second (First (place, (interrupt, (after, (period, tt))))))
start_parts (start_tree.All period) = Second (Second (Second (period, tt)))

-- once = AT expr | AFTER expr | WHEN id
abbrev pub once_rule : Rule
once_rule = Or (Mark (Then (after w.AT) End)) (Or (Mark (Then (after w.AFTER) End)) (Mark (word w.WHEN (Then id End))))

abbrev pub once_parts : Once → Held once_rule
once_parts (once_tree.At time place) = First (place, (time, tt))
once_parts (once_tree.After duration place) = Second (First (place, (duration, tt)))
once_parts (once_tree.When interrupt place) = Second (Second (place, (interrupt, tt)))

-- ---- statements

-- ";"
abbrev pub empty_rule : Rule
empty_rule = Mark close

abbrev pub empty_parts : ℕ → Held empty_rule
empty_parts place = (place, tt)

-- ref ":=" expr ";"
abbrev pub assign_rule : Rule
assign_rule = Mark (Then reference (Then (One (Unit {0}) SpellsBecomes) (Then expression close)))

abbrev pub assign_parts : Assign → Held assign_rule
assign_parts x = (x.place, (x.target, (tt, (x.value, tt))))

-- [ CALL ] id [ "(" expr { "," expr } ")" ] ";"
abbrev pub call_rule : Rule
call_rule = Mark (Then (Flag w.CALL) (Then id (Then (MaybeBracketed expression) close)))

abbrev pub call_parts : Call → Held call_rule
call_parts x = (x.place, (x.call, (x.name, (x.arguments.items.items, tt))))

-- ACTIVATE id [ PRIO expr ] ";"
abbrev pub activation_rule : Rule
activation_rule = word w.ACTIVATE (Then id (Then (Maybe (after w.PRIO)) close))

-- [ all ] ACTIVATE id [ PRIO expr ] ";"
abbrev pub begun_rule : Rule
begun_rule = Then (Maybe period) activation_rule

-- [ start ] ACTIVATE id [ PRIO expr ] ";"
abbrev pub activate_rule : Rule
activate_rule = Mark (Then (Maybe (One Start SpellsStart)) activation_rule)

abbrev pub activate_parts : Activate → Held activate_rule
activate_parts x = (x.place, (x.start, (x.task, (x.priority, tt))))

-- id ";"
abbrev pub station : Rule
station = Then id close

-- [ once ] CONTINUE id ";"
abbrev pub continue_rule : Rule
continue_rule = Mark (Then (Maybe (One Once SpellsOnce)) (word w.CONTINUE station))

abbrev pub continue_parts : Continue → Held continue_rule
continue_parts x = (x.place, (x.once, (x.task, tt)))

-- once RESUME ";"
abbrev pub resume_rule : Rule
resume_rule = Mark (Then (One Once SpellsOnce) (word w.RESUME close))

abbrev pub resume_parts : Resume → Held resume_rule
resume_parts x = (x.place, (x.once, tt))

-- EXIT ";"
abbrev pub exit_rule : Rule
exit_rule = Mark (word w.EXIT close)

abbrev pub exit_parts : ℕ → Held exit_rule
exit_parts place = (place, tt)

-- ( SUSPEND | TERMINATE | PREVENT ) [ id ] ";"
abbrev pub on_task_rule : Rule
on_task_rule = Mark (Then (One TaskWord (SpellsOneWord task_word)) (Then (Maybe id) close))

abbrev pub on_task_parts : OnTask → Held on_task_rule
on_task_parts x = (x.place, (x.word, (x.task, tt)))

-- ( REQUEST | RELEASE ) id { "," id } ";"
abbrev pub on_semas_rule : Rule
on_semas_rule = Mark (Then (One SemaWord (SpellsOneWord sema_word)) (Then (Listed id) close))

abbrev pub on_semas_parts : OnSemas → Held on_semas_rule
on_semas_parts x = (x.place, (x.word, (x.names.items.items, tt)))

-- ( ENABLE | DISABLE | TRIGGER ) id ";"
abbrev pub on_interrupt_rule : Rule
on_interrupt_rule = Mark (Then (One InterruptWord (SpellsOneWord interrupt_word)) station)

abbrev pub on_interrupt_parts : OnInterrupt → Held on_interrupt_rule
on_interrupt_parts x = (x.place, (x.word, (x.name, tt)))

-- id BY fmt { "," fmt } ";"
abbrev pub transfer_rule : Rule
transfer_rule = Then id (word w.BY (Then (Listed fmt) close))

-- PUT [ expr { "," expr } ] TO id BY fmt { "," fmt } ";"
abbrev pub put_rule : Rule
put_rule = Mark (word w.PUT (Then (MaybeListed expression) (word w.TO transfer_rule)))

abbrev pub put_parts : Put → Held put_rule
put_parts x = (x.place, (x.values.items.items, (x.dation, (x.formats.items.items, tt))))

-- GET [ ref { "," ref } ] FROM id BY fmt { "," fmt } ";"
abbrev pub get_rule : Rule
get_rule = Mark (word w.GET (Then (MaybeListed reference) (word w.FROM transfer_rule)))

abbrev pub get_parts : Get → Held get_rule
get_parts x = (x.place, (x.targets.items.items, (x.dation, (x.formats.items.items, tt))))

-- SEND expr TO id ";"
abbrev pub send_rule : Rule
send_rule = Mark (word w.SEND (Then expression (word w.TO station)))

abbrev pub send_parts : Send → Held send_rule
send_parts x = (x.place, (x.value, (x.dation, tt)))

-- TAKE ref FROM id ";"
abbrev pub take_rule : Rule
take_rule = Mark (word w.TAKE (Then reference (word w.FROM station)))

abbrev pub take_parts : Take → Held take_rule
take_parts x = (x.place, (x.target, (x.dation, tt)))

-- RETURN [ "(" expr ")" ] ";"
abbrev pub return_rule : Rule
return_rule = Mark (word w.RETURN (Then (Maybe (One Expr SpellsValue)) close))

abbrev pub return_parts : Return → Held return_rule
return_parts x = (x.place, (x.value, tt))

-- ---- parts of statements that hold others

-- FOR id
abbrev pub for_rule : Rule
for_rule = word w.FOR (Then id End)

abbrev pub for_parts : Name → Held for_rule
for_parts x = (x, tt)

-- DCL item { "," item } ";"
abbrev pub body_declaration_rule : Rule
body_declaration_rule = Mark (word w.DCL (Then (Listed (One Item SpellsItem)) close))

abbrev pub body_declaration_parts : BodyDecl → Held body_declaration_rule
body_declaration_parts x = (x.place, (x.items.items.items, tt))
