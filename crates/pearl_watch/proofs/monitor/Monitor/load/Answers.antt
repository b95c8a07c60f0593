use Rattle.std.proofs.Common.{map, refl, string_bytes}
use Rattle.pearl_watch.proofs.Entering.{core_is, rests_first, starts}
use Rattle.pearl_watch.proofs.monitor.Monitor.load.Goals as goal

pub invariant_of-result : goal.invariant_of-result
invariant_of-result c =
    rests_first c.args.code (map string_bytes c.args.names.now) c.in_ok-machine.machine c.begin.new.machine c.idle.new.self c.in_ok-watch.watch
    c.in_ok-machine.ensures.object c.in_ok-machine.ensures.start c.begin.ensures c.idle.ensures.object c.idle.ensures.core c.in_ok-watch.ensures.begun
    c.idle.ensures.settled

pub returns-clause-core : goal.returns-clause-core
returns-clause-core c =
    core_is c.args.code (map string_bytes c.args.names.now) c.in_ok-machine.machine c.begin.new.machine c.idle.new.self c.in_ok-watch.watch
    c.in_ok-machine.ensures.object c.in_ok-machine.ensures.start c.begin.ensures c.idle.ensures.object c.idle.ensures.core c.in_ok-watch.ensures.begun

pub returns-clause-start : goal.returns-clause-start
returns-clause-start c = λ from.
    starts c.args.code (map string_bytes c.args.names.now) c.in_ok-machine.machine c.begin.new.machine c.idle.new.self c.in_ok-watch.watch
    c.in_ok-machine.ensures.object c.in_ok-machine.ensures.start c.begin.ensures c.idle.ensures.object c.idle.ensures.core c.in_ok-watch.ensures.begun
    c.settles_without_a_mark.ensures c.idle.ensures.handles c.idle.ensures.still from

pub returns-clause-watch : goal.returns-clause-watch
returns-clause-watch c = c.in_ok-watch.ensures.begun

pub returns-clause-marks : goal.returns-clause-marks
returns-clause-marks c = refl

pub returns-clause-settled : goal.returns-clause-settled
returns-clause-settled c = c.idle.ensures.settled

pub returns-clause-accepted : goal.returns-clause-accepted
returns-clause-accepted c = c.in_ok-watch.ensures.accepted
