-- Demand 3's theorem about the calls is carried over to the cells that a types call writes.
-- Assumes nothing.
use Rattle.std.specs.Prelude.{Ok}
use mathlib.Core.Path.{◌≡◌, sym, ap, ◌∙◌}
use mathlib.Core.List.{List, ◌++◌, map, append_assoc}
use Prim.Native.Nat.{ℕ, zero, suc, ◌+◌, ◌-◌, ◌<◌}
use native.Mathlib.Omega.{arith}
use native.Mathlib.Nat.{add-zero}
use lib.ListN.{length, get_or, drop, get_or-append}
use lib.Seq.{get_or-append-add}
use Rattle.spec.specs.Refusal.{Answer}
use Rattle.spec.specs.Lists.{range, sum, join, written}
use Rattle.spec.specs.Mark.{goes}
use Rattle.spec.specs.Types.{Solid, top, size, proper_ranks, State, types_at, type_of, given}
use Rattle.spec.specs.Demand.{Proper}
use Rattle.spec.specs.Calls.{TypesOut, types_call}
use Rattle.spec.specs.Demand3Calls.{Demand3Call}
use Rattle.laws.proofs.Lists.{map_same}
use Rattle.laws.proofs.TypeLaws.{type_laws}
use Rattle.laws.proofs.Demand3Calls.{demand3_calls}
use Rattle.geometry.specs.Solids.{before_in}
use Rattle.types.specs.Demand3.{type_cell, Demand3Cells, Demand3Outputs}

-- Where lists stand one after another, member e of list k stands behind all members of the lists before it.
join-cell : (g : ℕ → List ℕ) (rest : List ℕ) (a n k e : ℕ) → k < n → e < length (g (a + k))
    → get_or (join (map g (range a n)) ++ rest) (sum (map (λ q. length (g q)) (range a k)) + e) 0 ≡ get_or (g (a + k)) e 0
unfolding join range sum
join-cell g rest a zero k e h m = absurd (omega arith)
join-cell g rest a (suc n) zero e h m =
    let i : 0 + e ≡ e = omega arith in
    let m' : e < length (g a) = rw add-zero at m in
    rw (add-zero a, i, append_assoc (g a) (join (map g (range (suc a) n))) rest) (get_or-append (g a) (join (map g (range (suc a) n)) ++ rest) 0 e m')
join-cell g rest a (suc n) (suc k) e h m =
    let q : a + suc k ≡ suc a + k = omega arith in
    let m' : e < length (g (suc a + k)) = rw q at m in
    let z = sum (map (λ q. length (g q)) (range (suc a) k)) in
    let i : length (g a) + z + e ≡ length (g a) + (z + e) = omega arith in
    rw (q, i, append_assoc (g a) (join (map g (range (suc a) n))) rest)
    (get_or-append-add (g a) (join (map g (range (suc a) n)) ++ rest) (z + e) 0 ∙ join-cell g rest (suc a) n k e (omega arith) m')

-- Where the given types are written, each proper element's cell holds its type.
cell_is : (s : Solid) (z : State) → ((q : ℕ) → length (types_at z q) ≡ size s q) → (old : List ℕ) (r e : ℕ) → Proper s r → e < size s r
    → type_cell s (written (given s z) old) r e ≡ type_of z r e
unfolding written given proper_ranks before_in
cell_is s z each old r e p h =
    let q : 1 + (r - 1) ≡ r = omega (arith, p) in
    let below = map_same (λ k. size s k) (λ k. length (types_at z k)) (range 1 (r - 1)) (λ k m. sym (each k)) in
    ap (λ (l : List ℕ). get_or (written (given s z) old) (sum l + e) 0) below
    ∙ join-cell (types_at z) (drop (length (given s z)) old) 1 (top s - 1) (r - 1) e (omega (arith, p)) (rw q (omega (arith, each r)))
    ∙ ap (λ (k : ℕ). get_or (types_at z k) e 0) q

-- The cells that a types call leaves hold the types of its result, so a claim about the result is one about the cells.
pub call-cell : (b : List ℕ) (words floats : ℕ) (old new : TypesOut) (n : ℕ) (t : Answer) → (t, new) ≡ types_call b words floats old
    → (d : Demand3Call b words floats old n) (r e : ℕ) → Proper d.solid.abs r → e < size d.solid.abs r
    → type_cell d.solid.abs new.elements r e ≡ type_of d.result r e
call-cell b words floats old new n t done d r e p h =
    let s = d.solid.abs in
    let z = d.result in
    let cells : new.elements ≡ written (given s z) old.elements = ap (λ (x : Answer × TypesOut). x.1.elements) done ∙ d.elements in
    let each : (q : ℕ) → length (types_at z q) ≡ size s q = λ q. (type_laws.ranks d.solid z d.ended q).numbered.each in
    ap (λ (l : List ℕ). type_cell s l r e) cells ∙ cell_is s z each old.elements r e p h

pub demand3_outputs : Demand3Outputs
demand3_outputs b words floats old new n done =
    let d = demand3_calls b words floats old n (sym (ap (λ (x : Answer × TypesOut). x.0) done)) in
    let s = d.solid.abs in
    let at : (r e : ℕ) → Proper s r → e < size s r → type_cell s new.elements r e ≡ type_of d.result r e =
    call-cell b words floats old new n (Ok n) done d in
    record {
      solid = d.solid;
      read = d.read;
      steps = λ xs a.
          let g = (d.steps xs a).agree in
          record {
            finer = λ r e f p h k apart same. g.finer r e f h k apart (sym (at r e p h) ∙ same ∙ at r f p k);
            final = λ still r e p h. at r e p h ∙ sym (g.final still r e p h);
            confirmed = λ row m r e p h.
                let k = g.confirmed row m r e h in
                record { rank = k.0; after = k.1; cell = at r (goes s row r e) p k.0 ∙ k.2 ∙ sym (at r e p h) };
          };
    }

-- The call's contract makes both claims whatever its answer is.
pub told : (b : List ℕ) (words floats : ℕ) (old new : TypesOut) (r : Answer) → (r, new) ≡ types_call b words floats old
    → ((r, new) ≡ types_call b words floats old) × ((n : ℕ) → r ≡ Ok n → Demand3Cells b words floats new.elements)
told b words floats old new r e = (e, λ n done. demand3_outputs b words floats old new n (ap (λ (x : Answer). (x, new)) (sym done) ∙ e))
