-- The proofs of the root's functions use these facts.
mod Digits
mod Fields
mod Rounded
mod Cases
