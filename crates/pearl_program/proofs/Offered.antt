-- What other crates may cite of this crate's proofs.

-- a whole program that is sound, with an array, a procedure, a task and a GET
pub use Rattle.pearl_program.proofs.WholeProgram.{short, number, alone, program, free, around_task, counter}
pub use Rattle.pearl_program.proofs.WholeProgram.{around_procedure, program_sound}
