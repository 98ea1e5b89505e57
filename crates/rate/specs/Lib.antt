-- The definitions that the contracts of `rate` cite, its theorems, and how the code computes.
pub mod Rate
pub mod Facts
pub mod How
