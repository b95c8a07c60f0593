use Rattle.pearl_kernel.proofs.gets.ask_first.Goals as goal

pub go_on-requires-clause-goes_on : goal.go_on-requires-clause-goes_on
go_on-requires-clause-goes_on c = c.start.ensures c.items_of-items.result.now c.as_slice-kinds.result.now c.bytes_of-bytes.result.now
