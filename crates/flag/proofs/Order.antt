-- In `flags`, the lowest rank whose element is not the last sub of the next moves on, and below it the first subs are taken.
-- Assumes nothing.
use mathlib.Core.Path.{◌≡◌, refl, sym, ◌∙◌, ap}
use mathlib.Core.Logic.{inl}
use mathlib.Core.List.{List, [], ◌∷◌, ◌++◌, map, map-append, append_assoc, append-nil}
use Prim.Native.Nat.{ℕ, zero, suc, ◌+◌, ◌<◌}
use native.Mathlib.Omega.{arith}
use lib.ListN.{length, get_or, length-append}
use Rattle.spec.specs.Lists.{join}
use Rattle.spec.specs.Types.{Solid, size, subs}
use Rattle.spec.specs.Demand.{Sound}
use Rattle.spec.specs.Flags.{Flag, first_to, flags_to, flags}
use Rattle.laws.proofs.FlagList.{every_flag_once}

-- The last of L is F.
pub record Last {A : Type 0} (F : A) (L : List A) : Type 0 where
  pub front : List A
  pub is : L ≡ front ++ (F ∷ [])

-- In L, G stands right after F.
pub record After {A : Type 0} (F G : A) (L : List A) : Type 0 where
  pub front : List A
  pub back : List A
  pub is : L ≡ front ++ (F ∷ G ∷ back)

-- The first of L is G.
pub record Starts {A : Type 0} (G : A) (L : List A) : Type 0 where
  pub back : List A
  pub is : L ≡ G ∷ back

-- ---- through a map

module _ {A B : Type 0} (k : A → B) (F G : A) (L : List A) where
  last-map : Last F L → Last (k F) (map k L)
  last-map t = record { front = map k t.front; is = ap (map k) t.is ∙ map-append k t.front (F ∷ []) }

  after_map : After F G L → After (k F) (k G) (map k L)
  after_map t = record { front = map k t.front; back = map k t.back; is = ap (map k) t.is ∙ map-append k t.front (F ∷ G ∷ t.back) }

  starts_map : Starts G L → Starts (k G) (map k L)
  starts_map t = record { back = map k t.back; is = ap (map k) t.is }

-- ---- through a join

join-append : {A : Type 0} (h : ℕ → List A) (a b : List ℕ) → join (map h (a ++ b)) ≡ join (map h a) ++ join (map h b)
unfolding join
join-append h [] b = refl
join-append h (x ∷ a) b = ap (λ l. h x ++ l) (join-append h a b) ∙ sym (append_assoc (h x) (join (map h a)) (join (map h b)))

-- The step is made at entry f of the list, with a before it and b after it.
module _ {A : Type 0} (h : ℕ → List A) (a : List ℕ) (f : ℕ) (b : List ℕ) (F G : A) where
  abbrev all : List A
  all = join (map h (a ++ (f ∷ b)))

  parts : all ≡ join (map h a) ++ (h f ++ join (map h b))
  unfolding join
  parts = join-append h a (f ∷ b)

  after-join : After F G (h f) → After F G all
  after-join t = record {
    front = join (map h a) ++ t.front;
    back = t.back ++ join (map h b);
    is =
        parts
        ∙ ap (λ l. join (map h a) ++ l) (ap (λ l. l ++ join (map h b)) t.is ∙ append_assoc t.front (F ∷ G ∷ t.back) (join (map h b)))
        ∙ sym (append_assoc (join (map h a)) t.front (F ∷ G ∷ (t.back ++ join (map h b))));
  }

  last-join : Last F (h f) → b ≡ [] → Last F all
  unfolding join
  last-join t q = record {
    front = join (map h a) ++ t.front;
    is =
        parts
        ∙ ap (λ l. join (map h a) ++ (h f ++ join (map h l))) q
        ∙ ap (λ l. join (map h a) ++ l) (append-nil (h f) ∙ t.is)
        ∙ sym (append_assoc (join (map h a)) t.front (F ∷ []));
  }

  cross_join : (g : ℕ) (c : List ℕ) → b ≡ g ∷ c → Last F (h f) → Starts G (h g) → After F G all
  unfolding join
  cross_join g c q t u = record {
    front = join (map h a) ++ t.front;
    back = u.back ++ join (map h c);
    is =
        parts
        ∙ ap (λ l. join (map h a) ++ (h f ++ join (map h l))) q
        ∙ ap (λ l. join (map h a) ++ (h f ++ (l ++ join (map h c)))) u.is
        ∙ ap (λ l. join (map h a) ++ l) (ap (λ l. l ++ (G ∷ (u.back ++ join (map h c)))) t.is ∙ append_assoc t.front (F ∷ []) (G ∷ (u.back ++ join (map h c))))
        ∙ sym (append_assoc (join (map h a)) t.front (F ∷ G ∷ (u.back ++ join (map h c))));
  }

-- ---- flags up to an element

module _ (s : Solid) (ok : Sound s) (filled : (r e : ℕ) → e < size s (suc r) → 0 < length (subs s (suc r) e)) where
  pub starts_to : (r e : ℕ) → e < size s r → Starts (first_to s r e) (flags_to s r e)
  unfolding flags_to first_to join
  starts_to zero e k = record { back = []; is = refl }
  starts_to (suc r) e k = go (subs s (suc r) e) refl (filled r e k) (λ x low. starts_to r x low)
    where
      go : (l : List ℕ) → subs s (suc r) e ≡ l → 0 < length l → ((x : ℕ) → x < size s r → Starts (first_to s r x) (flags_to s r x))
          → Starts (first_to s r (get_or (subs s (suc r) e) 0 0) ++ (e ∷ [])) (join (map (λ f. map (λ F. F ++ (e ∷ [])) (flags_to s r f)) (subs s (suc r) e)))
      go [] q m ih = absurd (omega arith)
      go (x ∷ l) q m ih =
          let t = starts_map (λ (F : Flag). F ++ (e ∷ [])) (first_to s r x) (first_to s r x) (flags_to s r x) (ih x (ok.below r e x (rw q (inl refl)))) in
          rw q (record { back = t.back ++ join (map (λ f. map (λ F. F ++ (e ∷ [])) (flags_to s r f)) l); is = ap (λ m. m ++ join (map (λ f. map (λ F. F ++ (e ∷ [])) (flags_to s r f)) l)) t.is })

-- The step is made at entry f of the subs of e.
module _ (s : Solid) (r e : ℕ) (a : List ℕ) (f : ℕ) (b : List ℕ) (q : subs s (suc r) e ≡ a ++ (f ∷ b)) (F G : Flag) where
  abbrev up : Flag → Flag
  up H = H ++ (e ∷ [])

  abbrev ups : ℕ → List Flag
  ups x = map (λ H. H ++ (e ∷ [])) (flags_to s r x)

  -- The same step is made one rank up.
  pub after-up : After F G (flags_to s r f) → After (F ++ (e ∷ [])) (G ++ (e ∷ [])) (flags_to s (suc r) e)
  unfolding flags_to
  after-up t = rw q (after-join ups a f b (up F) (up G) (after_map up F G (flags_to s r f) t))

  -- The last of the last sub's flags is the last.
  pub last_up : b ≡ [] → Last F (flags_to s r f) → Last (F ++ (e ∷ [])) (flags_to s (suc r) e)
  unfolding flags_to
  last_up z t = rw q (last-join ups a f b (up F) (up G) (last-map up F G (flags_to s r f) t) z)

  -- After the last of another sub's flags comes the first of the next sub's.
  pub cross_up : (g : ℕ) (c : List ℕ) → b ≡ g ∷ c → Last F (flags_to s r f) → Starts G (flags_to s r g)
      → After (F ++ (e ∷ [])) (G ++ (e ∷ [])) (flags_to s (suc r) e)
  unfolding flags_to
  cross_up g c z t u = rw q (cross_join ups a f b (up F) (up G) g c z (last-map up F G (flags_to s r f) t) (starts_map up F G (flags_to s r g) u))

-- ---- by number: no flag is listed twice

module _ (s : Solid) (ok : Sound s) (F G : Flag) where
  spot : (xs ys : List Flag) → get_or (xs ++ (F ∷ ys)) (length xs) [] ≡ F
  spot [] ys = refl
  spot (x ∷ xs) ys = spot xs ys

  past : (xs ys : List Flag) → get_or (xs ++ (F ∷ G ∷ ys)) (suc (length xs)) [] ≡ G
  past [] ys = refl
  past (x ∷ xs) ys = past xs ys

  pub after_is : After F G (flags s) → (i : ℕ) → i < length (flags s) → F ≡ get_or (flags s) i [] → (suc i < length (flags s)) × (G ≡ get_or (flags s) (suc i) [])
  after_is t i k q =
      let n = length t.front in
      let m : length (flags s) ≡ n + suc (suc (length t.back)) = ap length t.is ∙ length-append t.front (F ∷ G ∷ t.back) in
      let here : get_or (flags s) n [] ≡ F = ap (λ (l : List Flag). get_or l n []) t.is ∙ spot t.front (G ∷ t.back) in
      let e : i ≡ n = (every_flag_once s ok).once i n k (omega arith) (sym q ∙ sym here) in
      (omega arith, rw e (sym (ap (λ (l : List Flag). get_or l (suc n) []) t.is ∙ past t.front t.back)))

  pub last_is : Last F (flags s) → (i : ℕ) → i < length (flags s) → F ≡ get_or (flags s) i [] → suc i ≡ length (flags s)
  last_is t i k q =
      let n = length t.front in
      let m : length (flags s) ≡ n + 1 = ap length t.is ∙ length-append t.front (F ∷ []) in
      let here : get_or (flags s) n [] ≡ F = ap (λ (l : List Flag). get_or l n []) t.is ∙ spot t.front [] in
      let e : i ≡ n = (every_flag_once s ok).once i n k (omega arith) (sym q ∙ sym here) in
      omega arith
