-- That a device is no empty part, and depends on its own tokens alone.
use Rattle.std.proofs.Common.{arith}
use Rattle.pearl_tree.specs.Declarations.{SpellsDevice}
use Rattle.pearl_parse_decl.proofs.Offered.{contained_of, device_keeps}
use Rattle.pearl_parse.proofs.DeclarationLeast.{least_wider}
use Rattle.pearl_parse.proofs.system.DeviceRepeated.read.Goals as goal

pub returns-clause-contained : goal.returns-clause-contained
returns-clause-contained c =
    contained_of 7 SpellsDevice (omega arith) device_keeps

pub returns-clause-reads : goal.returns-clause-reads
returns-clause-reads c =
    let read = c.device.ensures.reads in
    record {
      spells = read.spells;
      only = read.only;
      ahead = read.ahead;
      refused = read.refused;
      least = least_wider 16 24 SpellsDevice c.args.tokens.now c.args.from (omega arith) c.device.result read.least;
    }
