-- What other crates may cite of this crate's proofs.

-- what names stand for is sound
pub use Rattle.pearl_sound.proofs.SoundForms.{all_append}
-- a statement that has none within it and breaks no rule becomes a sound one
pub use Rattle.pearl_sound.proofs.SimpleStatements.{left_none}
-- the numbers that procedures get by the rule are below their count, and all different
pub use Rattle.pearl_sound.proofs.RuleNumbers.{numbers_given}
-- the tasks and procedures of a module that breaks no static rule are sound in its program
pub use Rattle.pearl_sound.proofs.SoundRoutines.{routines_sound}
-- in a tree that spells tokens each REQUEST and RELEASE names a semaphore
pub use Rattle.pearl_sound.proofs.NamedSemaphores.{semaphores_named}
-- two values that are there and are the same
pub use Rattle.pearl_sound.proofs.SoundParts.{some_one}
-- the second of two lists of faults that have none, a test that isn't broken, and what holds of all of two lists
pub use Rattle.pearl_sound.proofs.SimpleStatements.{right_none, not_broken, really, split_all}
-- two truth values that both hold
pub use Rattle.pearl_sound.proofs.Subscripting.{both}
-- each of some lists of faults that have none, and what declarations hold
pub use Rattle.pearl_sound.proofs.KeptStatements.{each_none, decls_hold}
-- parts that break no rule
pub use Rattle.pearl_sound.proofs.CompleteForms.{IsUnbroken, AreUnbroken, all_unbroken}
-- which default lengths are set
pub use Rattle.pearl_sound.proofs.Literals.{all_set}
-- values that a format takes, default lengths that are lengths, and the kind of a basic type
pub use Rattle.pearl_sound.proofs.SoundForms.{all_taken, AreSet, basic_there}
-- a walk over statements: what holds of the parts holds of the whole, and what a passage brings
pub use Rattle.pearl_sound.proofs.Walk.{Passage, One, Each, Branches, Otherwise, PartsKeep, walk, Pieces, in_turn, pieces, summed}
-- sums that are the same, how many slots and cells there are, and how many cells a text goes past
pub use Rattle.pearl_sound.proofs.Going.{same_sums, slots_length, get_length, goes}
-- how many scopes a declaration opens
pub use Rattle.pearl_sound.proofs.ScopesThere.{decl_next}
-- what names of the module mean
pub use Rattle.pearl_sound.proofs.ModuleEntries.{no_fault, neither, module_meant}
-- how many things of a sort there are
pub use Rattle.pearl_sound.proofs.Counting.{counted, both_counted, none_counted, AddsNothing, specs_counted, all_semaphores, all_tasks, all_procedures}
-- what is found in inner scopes, and what in the module's own
pub use Rattle.pearl_sound.proofs.InnerScopes.{HasFound, found_text, IsInner, IsOfModule, scope_of_module}
-- things that stand at a number of their own
pub use Rattle.pearl_sound.proofs.ByNumber.{IsSome, something, all_at, Passes, any_passes, given, first_at, position_is}
-- the order in which procedures get their numbers: each is new, placed, below the count and unlike the others
pub use Rattle.pearl_sound.proofs.RuleNumbers.{order_new, each_passes, placed, numbers_below, numbers_differ}
