-- The parts of a sheet are put together.
-- Assumes nothing.
use Rattle.std.specs.Prelude.{Err, Ok, is_ok}
use mathlib.Core.Path.{◌≡◌, refl, sym, ◌∙◌, ap}
use Prim.Native.Nat.{ℕ, zero, suc, ◌+◌, ◌-◌, ◌*◌, ◌≤◌}
use native.Mathlib.Nat.{zero-add, suc-add, suc-mul, add_comm, zero-mul, mul-le-mul}
use mathlib.Core.Bool.{Bool, true, false, ◌&&◌, false≢true}
use mathlib.Core.List.{List}
use lib.ListN.{length, get_or}
use lib.Dec.{ltb, eqb}
use Rattle.spec.specs.declared.Refusal.{Refusal}
use Rattle.spec.specs.declared.Refusal.TheVariants.{CutSheet}
use Rattle.spec.specs.Limits.{max_dimension, max_count, max_entries}
use Rattle.spec.specs.Bits.{field}
use Rattle.spec.specs.Judged.{Judged}
use Rattle.spec.specs.Sheet.{Reader, ◌>>=◌, ◌>>◌, done, judge, times, coordinate, lists, end}
use Rattle.sheet.specs.Judge.{all_entries, map_ok}
use Rattle.sheet.specs.Reading.{with_bit, kept, forgotten, body_at}
use Rattle.sheet.proofs.Readers.{kept-refused, kept-passed, stop, on, stop_too, on_too, after, times_stop, times_on_lem, coordinates-size, ranks-size}
use Rattle.sheet.proofs.Turns.{map_after}

-- ---- the end

end_refused : (b : List ℕ) (i : ℕ) → false ≡ is_ok (end b i) → end b i ≡ Err CutSheet
unfolding end judge
end_refused b i = go (ltb (8 * length b - i) 8 && eqb (field b i (8 * length b - i)) 0)
  where
    go : (t : Bool) → false ≡ is_ok (judge CutSheet t i) → judge CutSheet t i ≡ Err CutSheet
    go true e = absurd (false≢true e)
    go false e = refl

end_passed : (b : List ℕ) (i : ℕ) → true ≡ is_ok (end b i) → end b i ≡ Ok (tt, i)
unfolding end judge
end_passed b i = go (ltb (8 * length b - i) 8 && eqb (field b i (8 * length b - i)) 0)
  where
    go : (t : Bool) → true ≡ is_ok (judge CutSheet t i) → judge CutSheet t i ≡ Ok (tt, i)
    go true e = refl
    go false e = absurd (false≢true (sym e))

-- ---- the coordinates, one after another

-- One reading comes first, and then one that goes by where it ends.
then_place : {A : Type 0} → Judged (A × ℕ) → Reader (Unit {0}) → Judged (Unit {0} × ℕ)
then_place (Err why) f = Err why
then_place (Ok x) f = f x.1

place_after : {A : Type 0} (a : A) (o : Judged (List A × ℕ)) → map_ok (with_bit forgotten) (after a o) ≡ map_ok (with_bit forgotten) o
place_after a = map_after forgotten forgotten a (λ l. refl)

module _ {A : Type 0} (m : Reader A) where
  then-after : (a : A) (o : Judged (List A × ℕ)) (f : Reader (Unit {0})) → then_place (after a o) f ≡ then_place o f
  unfolding then_place after
  then-after a (Err why) f = refl
  then-after a (Ok x) f = refl

  -- After d readings, n more make d + n.
  times-add : (n d i : ℕ) → kept forgotten (times (d + n) m) i ≡ then_place (times d m i) (λ j. kept forgotten (times n m) j)
  unfolding then_place times done
  times-add n zero i = rw zero-add
  times-add n (suc d) i = ap (λ z. kept forgotten (times z m) i) (suc-add d n) ∙ go (m i) refl (times-add n d)
    where
      go : (o : Judged (A × ℕ)) → m i ≡ o → ((j : ℕ) → kept forgotten (times (d + n) m) j ≡ then_place (times d m j) (λ j. kept forgotten (times n m) j))
          → kept forgotten (times (suc (d + n)) m) i ≡ then_place (times (suc d) m i) (λ j. kept forgotten (times n m) j)
      go (Err why) e f = ap (map_ok (with_bit forgotten)) (times_stop m (d + n) i e) ∙ sym (ap (λ z. then_place z (λ j. kept forgotten (times n m) j)) (times_stop m d i e))
      go (Ok x) e f =
          ap (map_ok (with_bit forgotten)) (times_on_lem m (d + n) i e) ∙ place_after x.0 (times (d + n) m x.1) ∙ f x.1
          ∙ sym (ap (λ z. then_place z (λ j. kept forgotten (times n m) j)) (times_on_lem m d i e) ∙ then-after x.0 (times d m x.1) (λ j. kept forgotten (times n m) j))

  -- Reading d at a time, n times, makes n * d readings.
  pub flat : (n d i : ℕ) → kept forgotten (times n (times d m)) i ≡ kept forgotten (times (n * d) m) i
  unfolding then_place times done
  flat zero d i = rw zero-mul
  flat (suc n) d i = go (times d m i) refl (flat n d) ∙ sym (times-add (n * d) d i) ∙ ap (λ z. kept forgotten (times z m) i) (add_comm d (n * d) ∙ sym (suc-mul n d))
    where
      go : (o : Judged (List A × ℕ)) → times d m i ≡ o → ((j : ℕ) → kept forgotten (times n (times d m)) j ≡ kept forgotten (times (n * d) m) j)
          → kept forgotten (times (suc n) (times d m)) i ≡ then_place (times d m i) (λ j. kept forgotten (times (n * d) m) j)
      go (Err why) e f = ap (map_ok (with_bit forgotten)) (times_stop (times d m) n i e) ∙ sym (ap (λ z. then_place z (λ j. kept forgotten (times (n * d) m) j)) e)
      go (Ok x) e f =
          ap (map_ok (with_bit forgotten)) (times_on_lem (times d m) n i e) ∙ place_after x.0 (times n (times d m) x.1) ∙ f x.1
          ∙ sym (ap (λ z. then_place z (λ j. kept forgotten (times (n * d) m) j)) e)

-- ---- the coordinates, the lists and the end

module _ (b : List ℕ) (n D : ℕ) (counts : List ℕ) (i : ℕ) where
  -- This is what is read after the coordinates.
  tail : Reader (List (List (List ℕ)))
  tail = lists b counts >>= λ ls. end b >> done ls

  abbrev body : Judged (ℕ × ℕ)
  body = kept all_entries (body_at b n D counts) i

  pub body_refuses : {why : Refusal} → Err why ≡ kept forgotten (times (n * D) (coordinate b)) i → Err why ≡ body
  unfolding body_at tail
  body_refuses e =
      sym (ap (map_ok (with_bit all_entries)) (stop_too (times n (times D (coordinate b))) i tail
      (kept-refused forgotten (times n (times D (coordinate b))) i (e ∙ sym (flat (coordinate b) n D i)))))

  module _ {p : ℕ} (e : Ok (tt, p) ≡ kept forgotten (times (n * D) (coordinate b)) i) where
    to_tail : body_at b n D counts i ≡ tail p
    unfolding body_at tail
    to_tail = on_too (times n (times D (coordinate b))) i tail (kept-passed forgotten (times n (times D (coordinate b))) i (e ∙ sym (flat (coordinate b) n D i))).1

    pub lists_refuse : {why : Refusal} → Err why ≡ kept all_entries (lists b counts) p → Err why ≡ body
    unfolding tail
    lists_refuse f = sym (ap (map_ok (with_bit all_entries)) (to_tail ∙ stop (lists b counts) p _ (kept-refused all_entries (lists b counts) p f)))

    module _ {u q : ℕ} (f : Ok (u, q) ≡ kept all_entries (lists b counts) p) where
      to_end : (x : List (List (List ℕ))) × (u ≡ all_entries x) × (body_at b n D counts i ≡ (end b >> done x) q)
      unfolding tail
      to_end = let x = kept-passed all_entries (lists b counts) p f in (x.0, x.2, to_tail ∙ on (lists b counts) p _ x.1)

      pub end_refuses : false ≡ is_ok (end b q) → Err CutSheet ≡ body
      end_refuses g = let x = to_end in sym (ap (map_ok (with_bit all_entries)) (x.2 ∙ stop_too (end b) q (done x.0) (end_refused b q g)))

      pub body-passes : true ≡ is_ok (end b q) → Ok (u, q) ≡ body
      unfolding done
      body-passes g =
          let x = to_end in
          ap (λ u. Ok (u, q)) x.1 ∙ sym (ap (map_ok (with_bit all_entries)) (x.2 ∙ on_too (end b) q (done x.0) (end_passed b q g)))

-- ---- how far they go

pub area : (n D : ℕ) → n ≤ max_count → D ≤ max_dimension → n * D ≤ max_count * max_dimension
area n D h g = mul-le-mul h g

pub points-end : (b : List ℕ) (n i : ℕ) {p : ℕ} → Ok (tt, p) ≡ kept forgotten (times n (coordinate b)) i → p ≡ i + 64 * n
points-end b n i e = coordinates-size b n i _ (kept-passed forgotten (times n (coordinate b)) i e).1

pub lists-end : (b l : List ℕ) (p : ℕ) {u q : ℕ} → ((k : ℕ) → get_or l k 0 ≤ max_count) → Ok (u, q) ≡ kept all_entries (lists b l) p
    → q ≤ p + (12 * max_count + 11 * max_entries) * length l
lists-end b l p h e = ranks-size b l p _ h (kept-passed all_entries (lists b l) p e).1
