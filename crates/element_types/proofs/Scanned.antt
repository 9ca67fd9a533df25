-- The elements of a rank are numbered by their keys one after another, and this file says what holds when e are done.
-- Assumes nothing.
use Rattle.std.specs.Prelude.{Option, Some, None, position, All}
use borrow.Rule.Slice.PartMut.{put_mid, post_of}
use Rattle.std.proofs.lemmas.Slice.{take-put_mid_below}
use mathlib.Core.Path.{◌≡◌, refl, sym, ◌∙◌, ap, ap₂}
use mathlib.Core.Logic.{◌≢◌, ◌⊎◌, inl, inr}
use mathlib.Core.List.{List, [], ◌∷◌, ◌++◌, map, map-append, append_assoc}
use Prim.Native.Nat.{ℕ, zero, suc, ◌+◌, ◌-◌, ◌^◌, ◌≤◌, ◌<◌}
use native.Mathlib.Omega.{arith}
use native.Mathlib.Nat.{add-zero}
use native.Mathlib.Numerals.{add-one}
use lib.ListN.{length, get_or, set, take, drop, length-map, length-append, length-take, length-drop}
use lib.Seq.{take_all, take-suc-set, take_at, length-take-le, get_or-drop, drop-drop, drop_at}
use Rattle.spec.specs.Lists.{In, distinct, place, renumber, eq_list, range, written}
use Rattle.laws.proofs.Lists.{map_same}
use Rattle.laws.proofs.Counts.{lists}
use Rattle.laws.proofs.FlagList.{in_either}
use Rattle.ranked.specs.Words.{list_at, list_word}
use Rattle.element_types.specs.Runs.{key_of, key_at, Keyed, Writable}
use Rattle.element_types.specs.Numbers.{key_in, numbers_of, space_to, Numberable}
use Rattle.element_types.proofs.Appeared.{table_snoc, numbered_next, kind_old, kind_new}
use Rattle.element_types.proofs.Keys.{length-sorted}
use Rattle.element_types.proofs.Parts.{get_d_kept, run-kept}
use Rattle.element_types.proofs.Places.{all_in, position-map, found_place, unfound_place}
use Rattle.element_types.proofs.Sorts.{length-under}

-- ---- room

space_le : (l : List ℕ) (base k e n : ℕ) → e + k ≡ n → space_to l base e ≤ space_to l base n
unfolding space_to
space_le l base zero e n h = let q : e ≡ n = omega arith in rw q (omega arith)
space_le l base (suc k) e n h = omega (arith, space_le l base k (suc e) n (omega arith))

space_in : (l : List ℕ) (base e n : ℕ) → e < n → space_to l base e + 2 + length (list_at l (list_word base e)) ≤ space_to l base n
unfolding space_to
space_in l base e n h = omega (arith, space_le l base (n - suc e) (suc e) n (omega arith))

-- ---- a key that is written

-- The keys below word q are kept.
key-kept : (u v : List ℕ) (q p : ℕ) → take q u ≡ take q v → length u ≡ length v → q ≤ length v → p + 2 + get_or v p 0 ≤ q → key_at u p ≡ key_at v p
unfolding key_at
key-kept u v q p e g b h =
    ap (λ (n : ℕ). take (n + 1) (drop (p + 1) u)) (get_d_kept u v q p e (omega arith))
    ∙ run-kept u v q (p + 1) (get_or v p 0 + 1) e g b (omega arith)

-- The key that was written with its length before it stands there.
module _ (v : List ℕ) (q n : ℕ) (k r : List ℕ) (e : drop q v ≡ n ∷ (k ++ r)) where
  count-read : get_or v q 0 ≡ n
  count-read = ap (λ (i : ℕ). get_or v i 0) (sym (add-zero q)) ∙ sym (get_or-drop q v 0 0) ∙ ap (λ (l : List ℕ). get_or l 0 0) e

  key-read : length k ≡ n + 1 → key_at v q ≡ k
  unfolding key_at
  key-read m = ap₂ (λ (i : ℕ) (l : List ℕ). take (i + 1) l) count-read (sym (drop-drop 1 q v) ∙ ap (drop 1) e) ∙ take_at k r (n + 1) m

-- ---- the loop

-- The first e of the numbers v are those of the elements' keys. The first m of the places x are below q and have one key of each kind.
pub record KeysScan (l : List ℕ) (base : ℕ) (own next v x keys : List ℕ) (m q e : ℕ) : Type 0 where
  pub few : m ≤ e
  pub numbers : take e v ≡ renumber eq_list (map (key_in l base own next) (range 0 e))
  pub kinds : map (key_at keys) (take m x) ≡ distinct eq_list (map (key_in l base own next) (range 0 e))
  pub low : (p : ℕ) → In p (take m x) → p + 2 + get_or keys p 0 ≤ q
  pub high : q ≤ space_to l base e

module _ (l : List ℕ) (base : ℕ) (own next : List ℕ) where
  abbrev Key : ℕ → List ℕ
  Key = key_in l base own next

  pub scan-first : (v x keys : List ℕ) → KeysScan l base own next v x keys 0 0 0
  unfolding renumber distinct range space_to
  scan-first v x keys = record { few = omega arith; numbers = refl; kinds = refl; low = λ p h. absurd h; high = omega arith }

  pub scan-end : (v x keys : List ℕ) (m q e : ℕ) → KeysScan l base own next v x keys m q e → length own ≤ e → e ≤ length own → length v ≡ length own → v ≡ numbers_of l base own next
  unfolding numbers_of
  scan-end v x keys m q e s h k long =
      let z : e ≡ length own = omega arith in
      sym (take_all e v (omega arith)) ∙ s.numbers ∙ ap (λ (n : ℕ). renumber eq_list (map Key (range 0 n))) z

  module _ (v x keys : List ℕ) (m q e : ℕ) (s : KeysScan l base own next v x keys m q e) (h : e < length own) (f : Numberable l base own next v x keys) where
    abbrev es : List ℕ
    es = list_at l (list_word base e)

    abbrev done : List (List ℕ)
    done = map Key (range 0 e)

    tall : q + 2 + length es ≤ space_to l base (length own)
    tall = omega (arith, s.high, space_in l base e (length own) h)

    pub q-small : q + (2 + length es) < 2 ^ 32
    q-small = omega (arith, tall, f.neighbours.small)

    pub q-in : q ≤ length keys
    q-in = omega (arith, tall, f.room)

    -- The key is written behind those that were met.
    abbrev rest : List ℕ
    rest = take (length keys - q) (drop q keys)

    rest_long : length rest ≡ length keys - q
    rest_long = simp (length-take, length-drop) (omega arith)

    pub writable : Writable es next rest
    writable = record {
      members = λ y i. f.neighbours.members e y h i;
      room = omega (arith, tall, f.room, rest_long);
      small = omega (arith, tall, f.neighbours.small);
    }

    -- This is what stands there then, and where the keys are.
    module _ (fresh : List ℕ) (long : length fresh ≡ length rest) (fresh_is : fresh ≡ written (length es ∷ key_of next (get_or own e 0) es) rest) where
      abbrev u : List ℕ
      u = put_mid q (length keys - q) keys fresh

      u_long : length u ≡ length keys
      u_long = simp (length-append, length-take, length-drop) (omega (arith, long, rest_long, q-in))

      u-front : take q u ≡ take q keys
      u-front = take-put_mid_below q (length keys - q) keys fresh q (omega arith) q-in

      key-long : length (Key e) ≡ length es + 1
      unfolding key_in key_of
      key-long = omega (arith, length-sorted _ ∙ length-under next es)

      behind : drop q u ≡ length es ∷ (Key e ++ (drop (length (length es ∷ Key e)) rest ++ post_of q (length keys - q) keys))
      unfolding key_in written
      behind =
          drop_at (take q keys) (fresh ++ post_of q (length keys - q) keys) q (length-take-le q keys q-in)
          ∙ ap (λ (r : List ℕ). r ++ post_of q (length keys - q) keys) fresh_is
          ∙ append_assoc (length es ∷ Key e) (drop (length (length es ∷ Key e)) rest) (post_of q (length keys - q) keys)

      u-key : key_at u q ≡ Key e
      u-key = key-read u q (length es) (Key e) _ behind key-long

      u-count : get_or u q 0 ≡ length es
      u-count = count-read u q (length es) (Key e) _ behind

      pub keyed : Keyed u q
      keyed = omega (arith, u-count, u_long, tall, f.room)

      u-kinds : map (key_at u) (take m x) ≡ distinct eq_list done
      u-kinds = map_same (key_at u) (key_at keys) (take m x) (λ p i. key-kept u keys q p u-front u_long q-in (s.low p i)) ∙ s.kinds

      u-low : (p : ℕ) → In p (take m x) → p + 2 + get_or u p 0 ≤ q
      u-low p i = omega (arith, s.low p i, get_d_kept u keys q p u-front (omega (arith, s.low p i)))

      pub places_keyed : All (Keyed u) (take m x)
      places_keyed = all_in (Keyed u) (take m x) (λ p i. omega (arith, u-low p i, u_long, q-in))

      m-in : m < length x
      m-in = omega (arith, s.few, f.placed)

      many : length (distinct eq_list done) ≡ m
      many = ap length (sym u-kinds) ∙ length-map (take m x) (key_at u) ∙ length-take-le m x (omega (arith, m-in))

      -- ---- its number

      module _ (found : Option ℕ) (o : found ≡ position (λ p. eq_list (key_at u p) (key_at u q)) (take m x)) where
        among : found ≡ position (λ k. eq_list k (Key e)) (distinct eq_list done)
        among =
            o ∙ position-map (λ k. eq_list k (key_at u q)) (key_at u) (take m x)
            ∙ ap₂ (λ (k : List ℕ) (ks : List (List ℕ)). position (λ z. eq_list z k) ks) u-key u-kinds

        pub key_old : (p : ℕ) → found ≡ Some p → (p ≡ place eq_list (Key e) (distinct eq_list done)) × (p < m)
        key_old p k =
            let both = found_place eq_list (Key e) (distinct eq_list done) found among p k in
            (both.0, omega (arith, both.1, many))

        pub key_new : found ≡ None → m ≡ place eq_list (Key e) (distinct eq_list done)
        key_new k = sym (unfound_place eq_list (Key e) (distinct eq_list done) found among k ∙ many)

      module _ (p : ℕ) (number : p ≡ place eq_list (Key e) (distinct eq_list done)) where
        more : map Key (range 0 (e + 1)) ≡ done ++ Key e ∷ []
        more = ap (λ (i : ℕ). map Key (range 0 i)) (add-one e) ∙ table_snoc Key 0 e e (omega arith)

        numbers-next : take (e + 1) (set v e p) ≡ renumber eq_list (map Key (range 0 (e + 1)))
        numbers-next = numbered_next eq_list lists done (Key e) m p many number v e (omega (arith, f.numbered)) s.numbers ∙ ap (renumber eq_list) (sym more)

        -- The key was met before.
        pub scan_old : p ≢ m → KeysScan l base own next (set v e p) x u m q (e + 1)
        scan_old z = record {
          few = omega (arith, s.few);
          numbers = numbers-next;
          kinds = u-kinds ∙ sym (ap (distinct eq_list) more ∙ kind_old eq_list lists done (Key e) m p many number z);
          low = u-low;
          high = rw (add-one e) (omega (arith, s.high, space_le l base 1 e (suc e) (omega arith)));
        }

        -- The key is new, and stays.
        places : take (m + 1) (set x m q) ≡ take m x ++ q ∷ []
        places = ap (λ (i : ℕ). take i (set x m q)) (add-one m) ∙ take-suc-set x m q m-in

        pub scan_new : p ≡ m → (k : ℕ) → k ≡ 2 + length es → KeysScan l base own next (set v e p) (set x m q) u (m + 1) (q + k) (e + 1)
        scan_new z k k_is = record {
          few = omega (arith, s.few);
          numbers = numbers-next;
          kinds =
              ap (map (key_at u)) places ∙ map-append (key_at u) (take m x) (q ∷ [])
              ∙ ap₂ (λ (ks : List (List ℕ)) (z : List ℕ). ks ++ z ∷ []) u-kinds u-key
              ∙ sym (ap (distinct eq_list) more ∙ kind_new eq_list lists done (Key e) m p many number z);
          low = λ g i. side g (in_either g (take m x) (q ∷ []) (rw places at i));
          high = rw (add-one e) (omega (arith, s.high, space_in l base e (suc e) (omega arith)));
        }
          where
            side : (g : ℕ) → In g (take m x) ⊎ In g (q ∷ []) → g + 2 + get_or u g 0 ≤ q + k
            side g (inl i) = omega (arith, u-low g i)
            side g (inr (inl i)) = rw i (omega (arith, u-count))
            side g (inr (inr i)) = elim i [ ]
