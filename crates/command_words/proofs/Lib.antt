mod Verdict
mod Look
mod Positionals
mod Uses
mod Actions
