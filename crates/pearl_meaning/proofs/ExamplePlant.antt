-- The tasks of a plant: one that starts the others, one that samples a probe and raises an alarm, one that shuts a valve, one that logs,
-- and one that talks to an operator.
use Rattle.std.specs.Prelude.{◌≡◌, ℕ, pos, List, [], ◌∷◌, Some, None, codes, true, false}
use Rattle.std.specs.Fmt.{digits}
use Rattle.std.proofs.Common.{refl}
use Rattle.pearl_value.specs.declared.kind.Kind.{Kind}
use Rattle.pearl_value.specs.declared.kind.Kind.TheVariants as kind
use Rattle.pearl_value.specs.declared.kind.CellKind.{CellKind}
use Rattle.pearl_value.specs.declared.kind.CellKind.TheVariants.{Plain}
use Rattle.pearl_value.specs.declared.cell.Cell.{Cell}
use Rattle.pearl_value.specs.declared.cell.Cell.TheVariants.{Fixed, Bits, Clock, Span}
use Rattle.pearl_value.specs.declared.operator.Dyad.TheVariants.{Gt}
use Rattle.pearl_format.specs.declared.item.Item.{Item}
use Rattle.pearl_format.specs.declared.item.ItemCode.{ItemCode}
use Rattle.pearl_format.specs.declared.item.ItemCode.TheVariants.{F, T, X, Skip}
use Rattle.pearl_rules.specs.declared.action.Action.TheVariants as action
use Rattle.pearl_rules.specs.declared.action.Answer.TheVariants.{Nothing, One, Many}
use Rattle.pearl_rules.specs.declared.action.Start.TheVariants as start
use Rattle.pearl_rules.specs.declared.action.Repeat.TheVariants as repeat
use Rattle.pearl_value.specs.declared.device.Direction.TheVariants.{InOut}
use Rattle.pearl_value.specs.declared.device.Device.TheVariants.{Interrupt, Terminal, Input, Output}
use Rattle.pearl_program.specs.PlainExpressions.{PlainExpr, OfLiteral, OfRead, OfDyadic, OfNow}
use Rattle.pearl_program.specs.PlainStatements.{OfRenew, OfAssign, OfIf, OfRepeat, OfActivate, OfAfter, OfWhen, OfUntil, OfRequest, OfRelease, OfEnable, OfTrigger, OfPut, OfGet, OfSend, OfTake, PlainStmts, NoStmts, MoreStmts}
use Rattle.pearl_program.specs.PlainPrograms.{PlainTask, PlainProg}
use Rattle.pearl_meaning.specs.Programs.{offer}
use Rattle.pearl_meaning.proofs.Examples.{both, whole, own, literal, only, two, offers}

abbrev short : Kind
short = kind.Fixed 15

abbrev pub degrees : ℕ → Cell
degrees n = Fixed 15 (pos n)

abbrev second : PlainExpr
second = OfLiteral (Span (pos 1000))

abbrev task : List ℕ → ℕ → List CellKind → PlainStmts → PlainTask
task name priority cells body = record { name = name; priority = priority; main = false; routine = record { cells = cells; body = body } }

-- ENABLE alarm; WHEN alarm ACTIVATE shut PRIO 2; AFTER 1 SEC ALL 1 SEC UNTIL 12:00:03 ACTIVATE logger; ACTIVATE sampler; ACTIVATE operator;
abbrev starting : PlainTask
starting = record (task (codes "init") 1 [] (MoreStmts (OfEnable 0) (MoreStmts (OfActivate 2 (Some (OfWhen 0)) None (Some (literal 2)))
    (MoreStmts (OfActivate 3 (Some (OfAfter second)) (Some (record { duration = second; end = Some (OfUntil (OfLiteral (Clock 43203000))) })) None)
    (two (OfActivate 1 None None None) (OfActivate 4 None None None)))))) { main = true }

-- REPEAT DCL v FIXED(15); TAKE v FROM probe; REQUEST guard; temp := v; RELEASE guard; IF v > limit THEN TRIGGER alarm; FIN; END;
abbrev sampler : PlainTask
sampler = task (codes "sampler") 10 (Plain short ∷ []) (only (OfRepeat None None
    (MoreStmts (OfRenew 0 (record { kind = short; count = 1; constants = [] })) (MoreStmts (OfTake (own 0) 2)
    (MoreStmts (OfRequest (0 ∷ [])) (MoreStmts (OfAssign (whole 0) (OfRead (own 0))) (two (OfRelease (0 ∷ []))
    (OfIf (OfDyadic Gt (OfRead (own 0)) (OfRead (whole 1))) (only (OfTrigger 0)) NoStmts))))))))

-- SEND '0011'B TO valve;
abbrev shut : PlainTask
shut = task (codes "shut") 3 [] (only (OfSend (OfLiteral (Bits 4 3)) 3))

-- PUT NOW, temp TO term BY T(8), X, F(4), SKIP;
abbrev logger : PlainTask
logger = task (codes "logger") 20 [] (only (OfPut (both OfNow (OfRead (whole 0))) 1 0))

-- REPEAT GET limit FROM term BY F(4), SKIP; END;
abbrev operator : PlainTask
operator = task (codes "operator") 30 (Plain short ∷ Plain (kind.Fixed 31) ∷ []) (only (OfRepeat None None (only (OfGet (whole 1 ∷ []) 1 1 0))))

abbrev item : ItemCode → ℕ → Item
item code width = record { code = code; width = width }

abbrev pub plant : PlainProg
plant = record {
  leaves = record { name = codes "temp"; values = record { kind = short; count = 1; constants = [] } }
      ∷ record { name = codes "limit"; values = record { kind = short; count = 1; constants = degrees 80 ∷ [] } } ∷ [];
  semaphores = 1 ∷ [];
  devices = Interrupt 4 ∷ Terminal 1 InOut ∷ Input 2 short ∷ Output 7 (kind.Bits 4) ∷ [];
  formats = (item T 8 ∷ item X 0 ∷ item F 4 ∷ item Skip 0 ∷ []) ∷ (item F 4 ∷ item Skip 0 ∷ []) ∷ [];
  procedures = [];
  tasks = starting ∷ sampler ∷ shut ∷ logger ∷ operator ∷ [];
}

starts_the_others : offers (offer plant 0) (Nothing ∷ Nothing ∷ Nothing ∷ Nothing ∷ Nothing ∷ [])
    ≡ action.Enable 0 ∷ action.Activate 2 (start.When 0) repeat.Once (Some 2) ∷ action.Activate 3 (start.After (pos 1000)) (repeat.Until (pos 1000) 43203000) None
    ∷ action.Activate 1 start.Free repeat.Once None ∷ action.Activate 4 start.Free repeat.Once None ∷ action.End ∷ []
unfolding offer
starts_the_others = refl

-- 75 degrees, the limit being 80 first and then 70
raises_the_alarm : offers (offer plant 1) (Nothing ∷ One (degrees 75) ∷ Nothing ∷ Nothing ∷ Nothing ∷ One (degrees 80)
    ∷ Nothing ∷ One (degrees 75) ∷ Nothing ∷ Nothing ∷ Nothing ∷ One (degrees 70) ∷ Nothing ∷ [])
    ≡ action.Turn ∷ action.Take 2 ∷ action.Request (record { items = 0 ∷ [] }) ∷ action.Write 0 (degrees 75) ∷ action.Release (record { items = 0 ∷ [] }) ∷ action.Read 1
    ∷ action.Turn ∷ action.Take 2 ∷ action.Request (record { items = 0 ∷ [] }) ∷ action.Write 0 (degrees 75) ∷ action.Release (record { items = 0 ∷ [] }) ∷ action.Read 1
    ∷ action.Trigger 0 ∷ action.Turn ∷ []
unfolding offer
raises_the_alarm = refl

shuts_the_valve : offers (offer plant 2) (Nothing ∷ []) ≡ action.Send 3 (Bits 4 3) ∷ action.End ∷ []
unfolding offer
shuts_the_valve = refl

-- 12:00:01   75
logs : offers (offer plant 3) (One (Clock 43201000) ∷ One (degrees 75) ∷ Nothing ∷ [])
    ≡ action.Now ∷ action.Read 0
    ∷ action.Put 1 (record { items = 49 ∷ 50 ∷ 58 ∷ 48 ∷ 48 ∷ 58 ∷ 48 ∷ 49 ∷ 32 ∷ 32 ∷ 32 ∷ 55 ∷ 53 ∷ 10 ∷ [] }) ∷ action.End ∷ []
unfolding offer digits
logs = refl

hears_the_operator : offers (offer plant 4) (Nothing ∷ Many (record { items = degrees 70 ∷ [] }) ∷ Nothing ∷ [])
    ≡ action.Turn ∷ action.Get 1 1 (record { items = short ∷ [] }) ∷ action.Write 1 (degrees 70) ∷ action.Turn ∷ []
unfolding offer
hears_the_operator = refl
