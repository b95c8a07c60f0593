mod Rests
mod States
mod Joins
mod Tokens
mod RuleFacts
mod Walk
mod Told
mod Said
mod Leaves
mod Productions
mod DeclarationFacts
mod TypeFacts
mod Alternatives
mod StatementFacts
pub mod Offered
