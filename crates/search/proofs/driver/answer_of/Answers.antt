-- The answer goes by whether one had no room, and by how many there are.
-- Assumes nothing.
use Rattle.std.specs.Prelude.{Ok}
use mathlib.Core.Path.{◌≡◌, refl}
use Prim.Native.Nat.{ℕ, zero, suc}
use mathlib.Core.Bool.{false}
use Rattle.symmetry.specs.Listing.{answer_of}
use Rattle.search.proofs.driver.answer_of.Goals as goal

done_is : (n : ℕ) → (n ≡ 0 → ⊥) → Ok n ≡ answer_of false n
unfolding answer_of
done_is zero z = absurd (z refl)
done_is (suc n) z = refl

pub returns-in-Err : goal.returns-in-Err
unfolding answer_of
returns-in-Err c = rw c.in-Err.is

pub returns-in-Ok-eq0 : goal.returns-in-Ok-eq0
unfolding answer_of
returns-in-Ok-eq0 c =
    let z : c.in-Ok-eq0.field-0 ≡ 0 = rw c.in-Ok-eq0.is at c.in-Ok-eq0.field-0-test in
    rw (c.into.ensures, c.in-Ok-eq0.is, z)

pub returns-in-Ok : goal.returns-in-Ok
returns-in-Ok c =
    let z : c.in-Ok.n ≡ 0 → ⊥ = rw c.in-Ok.is at c.in-Ok.n-test.1 in
    rw c.in-Ok.is (done_is c.in-Ok.n z)
