-- What is heard, as the rules name it.
use Rattle.pearl_rules.specs.declared.action.Answer.{Answer}
use Rattle.pearl_rules.specs.declared.action.Answer.TheVariants as answer
use Rattle.pearl_exchange.specs.declared.heard.Heard.{Heard}
use Rattle.pearl_exchange.specs.declared.heard.Heard.TheVariants.{Nothing, One, Many}
use Rattle.pearl_exchange.specs.declared.heard.Beside.{Beside}

-- the answer, where these values lie beside what is heard
abbrev pub answer_of : Heard → Beside → Answer
answer_of Nothing beside = answer.Nothing
answer_of One beside = answer.One beside.one
answer_of Many beside = answer.Many beside.many
