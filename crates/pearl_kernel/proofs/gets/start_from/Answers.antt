use Rattle.pearl_kernel.proofs.gets.start_from.Goals as goal

pub returns-then-anew : goal.returns-then-anew
returns-then-anew c = λ items kinds bytes given. c.start.ensures items kinds bytes
