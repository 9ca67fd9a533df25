-- `flags` lists the maximal chains of a solid, each once, in order.
-- Assumes nothing.
use mathlib.Core.Path.{◌≡◌, refl, sym, ◌∙◌, ap, subst}
use mathlib.Core.Logic.{◌⊎◌, inl, inr}
use Prim.Native.Nat.{ℕ, zero, suc, ◌+◌, ◌-◌, ◌≤◌, ◌<◌}
use mathlib.Core.List.{List, [], ◌∷◌, ◌++◌, map}
use native.Mathlib.Omega.{arith}
use native.Mathlib.Decide.{ℕ_discrete, dec_lt}
use lib.ListN.{length, get_or, take, length-append, length-map, get_or-append, get_or-eq_default}
use lib.Seq.{get_or_at, get_or-append-add, take-suc, take_all, length-take-le, get_or-take}
use Rattle.spec.specs.Lists.{In, join}
use Rattle.spec.specs.Types.{Solid, top, size, subs}
use Rattle.spec.specs.Demand.{RisingAbove, Rising, Sound}
use Rattle.spec.specs.Flags.{Flag, element_at, first_to, first_flag, flags_to, flags}
use Rattle.laws.specs.FlagLaws.{Before, EveryFlagOnce, EveryFirst}
use Rattle.laws.proofs.Lists.{in_get_d, map_in, in_map, get_or-map}
use Rattle.laws.proofs.Carry.{above}

-- ---- lists one after another

module _ {A : Type 0} where
  pub in_left : (t : A) (a b : List A) → In t a → In t (a ++ b)
  in_left t (x ∷ a) b (inl q) = inl q
  in_left t (x ∷ a) b (inr m) = inr (in_left t a b m)
  in_left t [] b x' = elim x' [ ]

  pub in_right : (t : A) (a b : List A) → In t b → In t (a ++ b)
  in_right t [] b m = m
  in_right t (x ∷ a) b m = inr (in_right t a b m)

  pub in_either : (t : A) (a b : List A) → In t (a ++ b) → In t a ⊎ In t b
  in_either t [] b m = inr m
  in_either t (x ∷ a) b (inl q) = inl (inl q)
  in_either t (x ∷ a) b (inr m) = go (in_either t a b m)
    where
      go : In t a ⊎ In t b → In t (x ∷ a) ⊎ In t b
      go (inl h) = inl (inr h)
      go (inr h) = inr h

-- ---- lists in an order: each member stands before all that follow it

module _ {A : Type 0} (R : A → A → Type 0) where
  abbrev InThatOrder : List A → Type 0
  InThatOrder [] = Unit {0}
  InThatOrder (x ∷ l) = ((y : A) → In y l → R x y) × InThatOrder l

  ordered_append : (a b : List A) → InThatOrder a → InThatOrder b → ((x y : A) → In x a → In y b → R x y) → InThatOrder (a ++ b)
  ordered_append [] b oa ob d = ob
  ordered_append (x ∷ a) b oa ob d = (
    λ y m. go y (in_either y a b m),
    ordered_append a b oa.1 ob (λ z y h k. d z y (inr h) k),
  )
    where
      go : (y : A) → In y a ⊎ In y b → R x y
      go y (inl h) = oa.0 y h
      go y (inr h) = d x y (inl refl) h

  ordered_map : (f : A → A) (l : List A) → ((x y : A) → In x l → In y l → R x y → R (f x) (f y)) → InThatOrder l → InThatOrder (map f l)
  ordered_map f [] k o = tt
  ordered_map f (x ∷ l) k o = (
    λ y m. let h = in_map f y l m in rw h.2 (k x h.0 (inl refl) (inr h.1) (o.0 h.0 h.1)),
    ordered_map f l (λ y z hy hz. k y z (inr hy) (inr hz)) o.1,
  )

  ordered_at : (d : A) (l : List A) → InThatOrder l → (i j : ℕ) → i < j → j < length l → R (get_or l i d) (get_or l j d)
  ordered_at d l o i zero h k = absurd (omega arith)
  ordered_at d (x ∷ l) o zero (suc j) h k = o.0 (get_or l j d) (in_get_d d l j (omega arith))
  ordered_at d (x ∷ l) o (suc i) (suc j) h k = ordered_at d l o.1 i j (omega arith) (omega arith)
  ordered_at d [] o i (suc j) h k = elim k [ ]

module _ {A B : Type 0} (g : B → List A) where
  pub join_in : (t : A) (x : B) (l : List B) → In x l → In t (g x) → In t (join (map g l))
  unfolding join
  join_in t x (y ∷ l) (inl q) m = in_left t (g y) (join (map g l)) (rw (← q) m)
  join_in t x (y ∷ l) (inr h) m = in_right t (g y) (join (map g l)) (join_in t x l h m)
  join_in t x [] x3 m = elim x3 [ ]

  pub in_join : (t : A) (l : List B) → In t (join (map g l)) → (x : B) × In x l × In t (g x)
  unfolding join
  in_join t (y ∷ l) m = go (in_either t (g y) (join (map g l)) m) (λ h. in_join t l h)
    where
      go : In t (g y) ⊎ In t (join (map g l)) → (In t (join (map g l)) → (x : B) × In x l × In t (g x)) → (x : B) × In x (y ∷ l) × In t (g x)
      go (inl h) f = (y, inl refl, h)
      go (inr h) f = let r = f h in (r.0, inr r.1, r.2)
  in_join t [] m = elim m [ ]

module _ {A : Type 0} (g : ℕ → List A) where
  -- The joined lists are ordered where a lower number's list stands before a greater number's.
  ordered_join : (R : A → A → Type 0) (l : List ℕ) → Rising l → ((x : ℕ) → InThatOrder R (g x))
      → ((x y : ℕ) (t u : A) → x < y → In t (g x) → In u (g y) → R t u) → InThatOrder R (join (map g l))
  unfolding join
  ordered_join R [] w each apart = tt
  ordered_join R (x ∷ l) w each apart = ordered_append R (g x) (join (map g l)) (each x) (ordered_join R l (rest x l w) each apart)
      (λ t u h m. let k = in_join g u l m in apart x k.0 t u (above x k.0 l w k.1) h k.2)
    where
      rest : (x : ℕ) (l : List ℕ) → RisingAbove x l → Rising l
      rest x [] v = tt
      rest x (y ∷ l) v = v.1

-- ---- the order of flags

-- Past two flags' ends, what follows both is at the same places.
past : (F G t : Flag) (n q : ℕ) → length F ≡ n → length G ≡ n → n ≤ q → element_at (F ++ t) q ≡ element_at (G ++ t) q
past F G t n q hF hG h = at F hF ∙ sym (at G hG)
  where
    at : (H : Flag) → length H ≡ n → get_or (H ++ t) q 0 ≡ get_or t (q - n) 0
    at H k = let e : q ≡ length H + (q - n) = omega arith in ap (λ (i : ℕ). get_or (H ++ t) i 0) e ∙ get_or-append-add H t (q - n) 0

-- What is put after both leaves their order.
before_more : (F G t : Flag) (n : ℕ) → length F ≡ n → length G ≡ n → Before F G → Before (F ++ t) (G ++ t)
before_more F G t n hF hG b = record {
  rank = b.rank;
  lower = rw (kept F hF b.rank inside, kept G hG b.rank inside) b.lower;
  above = λ q h. go q h (dec_lt q n);
}
  where
    kept : (H : Flag) → length H ≡ n → (q : ℕ) → q < n → get_or (H ++ t) q 0 ≡ get_or H q 0
    kept H k q h = get_or-append H t 0 q (omega arith)

    inside : b.rank < n
    inside = at (dec_lt b.rank n)
      where
        at : Dec (b.rank < n) → b.rank < n
        at (yes h) = h
        at (no h) = absurd (omega (arith, b.lower, get_or-eq_default G 0 {n = b.rank} (omega arith)))

    go : (q : ℕ) → b.rank < q → Dec (q < n) → get_or (F ++ t) q 0 ≡ get_or (G ++ t) q 0
    go q h (yes k) = kept F hF q k ∙ b.above q h ∙ sym (kept G hG q k)
    go q h (no k) = past F G t n q hF hG (omega arith)

-- ---- chains up to an element

module _ (s : Solid) where
  -- The list F is a chain of ranks 0 to r, and e is its element of rank r.
  pub record To (r e : ℕ) (F : Flag) : Type 0 where
    pub long : length F ≡ suc r
    pub end : element_at F r ≡ e
    pub chain : (q : ℕ) → q < r → In (element_at F q) (subs s (suc q) (element_at F (suc q)))

  pub more : (r f e : ℕ) (G : Flag) → To r f G → In f (subs s (suc r) e) → To (suc r) e (G ++ (e ∷ []))
  more r f e G w m = record {
    long = rw length-append (omega (arith, w.long));
    end = last;
    chain = λ q h. go q h (ℕ_discrete q r);
  }
    where
      last : get_or (G ++ (e ∷ [])) (suc r) 0 ≡ e
      last = get_or_at G e [] 0 (suc r) w.long

      kept : (q : ℕ) → q ≤ r → get_or (G ++ (e ∷ [])) q 0 ≡ get_or G q 0
      kept q h = get_or-append G (e ∷ []) 0 q (omega (arith, w.long))

      go : (q : ℕ) → q < suc r → Dec (q ≡ r) → In (get_or (G ++ (e ∷ [])) q 0) (subs s (suc q) (get_or (G ++ (e ∷ [])) (suc q) 0))
      go q h (yes p) = rw (p, kept r (omega arith), last, w.end) m
      go q h (no n) = rw (kept q (omega arith), kept (suc q) (omega arith)) (w.chain q (omega arith))

  less : (r e : ℕ) (F : Flag) → To (suc r) e F → To r (element_at F r) (take (suc r) F)
  less r e F w = record {
    long = length-take-le (suc r) F (omega (arith, w.long));
    end = get_or-take (suc r) F r 0 (omega arith);
    chain = λ q h. rw (get_or-take (suc r) F q 0 (omega arith), get_or-take (suc r) F (suc q) 0 (omega arith)) (w.chain q (omega arith));
  }

  whole : (r e : ℕ) (F : Flag) → To (suc r) e F → F ≡ take (suc r) F ++ (e ∷ [])
  whole r e F w = sym (take_all (suc (suc r)) F (omega (arith, w.long))) ∙ take-suc F (suc r) 0 (omega (arith, w.long)) ∙ ap (λ (x : ℕ). take (suc r) F ++ (x ∷ [])) w.end

  ups : ℕ → ℕ → ℕ → List Flag
  ups r e f = map (λ F. F ++ (e ∷ [])) (flags_to s r f)

  to_of : (r e : ℕ) (F : Flag) → In F (flags_to s r e) → To r e F
  unfolding flags_to ups
  to_of zero e F (inl q) = rw q (record { long = refl; end = refl; chain = λ p h. absurd (omega arith) })
  to_of (suc r) e F m =
      let h = in_join (ups r e) F (subs s (suc r) e) m in
      let k = in_map (λ (G : Flag). G ++ (e ∷ [])) F (flags_to s r h.0) h.2 in
      rw k.2 (more r h.0 e k.0 (to_of r h.0 k.0 k.1) h.1)
  to_of zero e F (inr x'') = elim x'' [ ]

  of_to : (r e : ℕ) (F : Flag) → To r e F → In F (flags_to s r e)
  unfolding flags_to ups
  of_to zero e [] w = absurd (omega (arith, w.long))
  of_to zero e (x ∷ []) w = inl (ap (λ (y : ℕ). y ∷ []) w.end)
  of_to zero e (x ∷ y ∷ F) w = absurd (omega (arith, w.long))
  of_to (suc r) e F w =
      let f = element_at F r in
      join_in (ups r e) F f (subs s (suc r) e) (rw w.end at (w.chain r (omega arith)))
      (subst (λ (K : Flag). In K (ups r e f)) (sym (whole r e F w)) (map_in (λ (G : Flag). G ++ (e ∷ [])) (take (suc r) F) (flags_to s r f) (of_to r f (take (suc r) F) (less r e F w))))

  order_to : Sound s → (r e : ℕ) → InThatOrder Before (flags_to s r e)
  unfolding flags_to ups
  order_to v zero e = (λ F m. absurd m, tt)
  order_to v (suc r) e = ordered_join (ups r e) Before (subs s (suc r) e) (v.rising (suc r) e) (λ f. each f (order_to v r f)) apart
    where
      each : (f : ℕ) → InThatOrder Before (flags_to s r f) → InThatOrder Before (ups r e f)
      each f o = ordered_map Before (λ (G : Flag). G ++ (e ∷ [])) (flags_to s r f)
          (λ G H g h b. before_more G H (e ∷ []) (suc r) (to_of r f G g).long (to_of r f H h).long b) o

      apart : (f g : ℕ) (F G : Flag) → f < g → In F (ups r e f) → In G (ups r e g) → Before F G
      apart f g F G l m n =
          let h = in_map (λ (K : Flag). K ++ (e ∷ [])) F (flags_to s r f) m in
          let k = in_map (λ (K : Flag). K ++ (e ∷ [])) G (flags_to s r g) n in
          let a = to_of r f h.0 h.1 in
          let b = to_of r g k.0 k.1 in
          rw (h.2, k.2) (record {
            rank = r;
            lower = rw (
              get_or-append h.0 (e ∷ []) 0 r (omega (arith, a.long)),
              get_or-append k.0 (e ∷ []) 0 r (omega (arith, b.long)),
              a.end,
              b.end,
            ) l;
            above = λ q w. past h.0 k.0 (e ∷ []) (suc r) q a.long b.long w;
          })

-- A flag does not stand before itself, so that nothing is listed twice.
once_at : (d : Flag) (l : List Flag) → InThatOrder Before l → (i j : ℕ) → i < length l → j < length l → get_or l i d ≡ get_or l j d → i ≡ j
once_at d l o i j hi hj e = go (dec_lt i j) (dec_lt j i)
  where
    not_same : (F G : Flag) → Before F G → F ≡ G → ⊥
    not_same F G b p = omega (arith, b.lower, ap (λ (H : Flag). element_at H b.rank) p)

    go : Dec (i < j) → Dec (j < i) → i ≡ j
    go (yes h) b = absurd (not_same (get_or l i d) (get_or l j d) (ordered_at Before d l o i j h hj) e)
    go (no h) (yes k) = absurd (not_same (get_or l j d) (get_or l i d) (ordered_at Before d l o j i k hi) (sym e))
    go (no h) (no k) = omega arith

pub every_flag_once : EveryFlagOnce
unfolding flags
every_flag_once s v = record {
  exact = λ F. (
    λ m. let w = to_of s (top s) 0 F m in record { ranks = w.long; peak = w.end; chain = w.chain },
    λ w. of_to s (top s) 0 F (record { long = w.ranks; end = w.peak; chain = w.chain }),
  );
  once = once_at [] (flags s) (order_to s v (top s) 0);
  order = ordered_at Before [] (flags s) (order_to s v (top s) 0);
}

-- ---- the first flag

some_in : {A : Type 0} (x : A) (l : List A) → In x l → 0 < length l
some_in x (y ∷ l) m = omega arith
some_in {A = A} x [] m = elim m [ ]

module _ (s : Solid) (v : Sound s) (f : (r e : ℕ) → e < size s (suc r) → 0 < length (subs s (suc r) e)) where
  first_in_lem : (r e : ℕ) → e < size s (suc r) → In (get_or (subs s (suc r) e) 0 0) (subs s (suc r) e)
  first_in_lem r e h = in_get_d 0 (subs s (suc r) e) 0 (f r e h)

  first_to_lem : (r e : ℕ) → e < size s r → To s r e (first_to s r e)
  unfolding first_to
  first_to_lem zero e h = record { long = refl; end = refl; chain = λ p k. absurd (omega arith) }
  first_to_lem (suc r) e h =
      let x = get_or (subs s (suc r) e) 0 0 in
      more s r x e (first_to s r x) (first_to_lem r x (v.below r e x (first_in_lem r e h))) (first_in_lem r e h)

  first_of_lem : (g : ℕ → List Flag) (l : List ℕ) → 0 < length l → 0 < length (g (get_or l 0 0)) → get_or (join (map g l)) 0 [] ≡ get_or (g (get_or l 0 0)) 0 []
  unfolding join
  first_of_lem g [] h k = absurd (omega arith)
  first_of_lem g (x ∷ l) h k = get_or-append (g x) (join (map g l)) [] 0 k

  first-listed : (r e : ℕ) → e < size s r → get_or (flags_to s r e) 0 [] ≡ first_to s r e
  unfolding flags_to first_to ups
  first-listed zero e h = refl
  first-listed (suc r) e h =
      let x = get_or (subs s (suc r) e) 0 0 in
      let low = v.below r e x (first_in_lem r e h) in
      let any = some_in (first_to s r x) (flags_to s r x) (of_to s r x (first_to s r x) (first_to_lem r x low)) in
      first_of_lem (ups s r e) (subs s (suc r) e) (f r e h) (rw length-map any)
      ∙ get_or-map (λ (F : Flag). F ++ (e ∷ [])) [] [] (flags_to s r x) 0 any
      ∙ ap (λ (F : Flag). F ++ (e ∷ [])) (first-listed r x low)

pub every_first : EveryFirst
unfolding flags first_flag
every_first s v f =
    let h : 0 < size s (top s) = omega (arith, v.one) in
    let w = first_to_lem s v f (top s) 0 h in
    (record { ranks = w.long; peak = w.end; chain = w.chain }, first-listed s v f (top s) 0 h)
