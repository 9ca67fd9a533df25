-- The proofs of module `bits` share these facts.
mod Nans
