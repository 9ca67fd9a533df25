-- These are laws of finding and copying: what is found is near, and nothing lower is; copies only join at the end; how long copies and their table
-- are; that the table says whether every image is among the copies; and that there is a copy.
-- Assumes nothing.
use mathlib.Core.Path.{◌≡◌, refl, sym, ap, ◌∙◌}
use Prim.Native.Nat.{ℕ, zero, suc, ◌+◌, ◌*◌, ◌/◌, ◌%◌, ◌≤◌, ◌<◌, suc-le-suc}
use native.Mathlib.Nat.{zero-lt-suc, le_trans, mul-le-mul_right, div-add-mod', suc-mul, zero-mul, not-suc-le-zero, le_of_suc-le-suc}
use native.Mathlib.Omega.{arith}
use mathlib.Core.Bool.{Bool, true, false, true≢false, false≢true}
use mathlib.Core.List.{List, [], ◌∷◌, ◌++◌, map, append_assoc, append-nil}
use lib.ListN.{length, get_or, take, drop, length-append, length-drop, length-take, length-map}
use lib.Dec.{eqb}
use lib.Ieee.{Float}
use Rattle.spec.specs.Lists.{In, place, holds, join, parts, written}
use Rattle.spec.specs.Float.{dot}
use Rattle.spec.specs.Matrix.{Vector, Matrix, mul_vec}
use Rattle.spec.specs.Copying.{spread, copies_from, copies, copy_table, points, matrices}
use Rattle.spec.specs.Points.{near, found, find, row_of}
use Rattle.laws.specs.CallLaws.{Closed, NotClosed, EveryFind}
use Rattle.laws.proofs.Lists.{map_in, in_map}
use Rattle.laws.proofs.Counts.{holds_in, in_holds}
use Rattle.laws.proofs.FlagList.{join_in, in_join}

-- ---- finding

pub found-near : (ps : List Vector) (q : Vector) → found ps q ≡ true → (find ps q < length ps) × (near (get_or ps (find ps q) []) q ≡ true)
unfolding found find holds place
found-near [] q h = absurd (false≢true h)
found-near (p ∷ ps) q h = go (near p q) refl h (found-near ps q)
  where
    go : (b : Bool) → near p q ≡ b → elim b [ true ↦ true | false ↦ holds near q ps ] ≡ true
        → (holds near q ps ≡ true → (place near q ps < length ps) × (near (get_or ps (place near q ps) []) q ≡ true))
        → (elim b [ true ↦ zero | false ↦ suc (place near q ps) ] < length (p ∷ ps)) × (near (get_or (p ∷ ps) (elim b [ true ↦ zero | false ↦ suc (place near q ps) ]) []) q ≡ true)
    go true e t ih = (zero-lt-suc (length ps), e)
    go false e t ih = let r = ih t in (suc-le-suc r.0, r.1)

pub not_lower : (ps : List Vector) (q : Vector) (i : ℕ) → i < find ps q → near (get_or ps i []) q ≡ false
unfolding find place
not_lower [] q i h = absurd (not-suc-le-zero h)
not_lower (p ∷ ps) q i h = go (near p q) refl i h (not_lower ps q)
  where
    go : (b : Bool) → near p q ≡ b → (i : ℕ) → i < elim b [ true ↦ zero | false ↦ suc (place near q ps) ] → ((i : ℕ) → i < place near q ps → near (get_or ps i []) q ≡ false)
        → near (get_or (p ∷ ps) i []) q ≡ false
    go true e i h ih = absurd (not-suc-le-zero h)
    go false e zero h ih = e
    go false e (suc i) h ih = ih i (le_of_suc-le-suc h)

pub not_found : (ps : List Vector) (q : Vector) → found ps q ≡ false → find ps q ≡ length ps
unfolding found find holds place
not_found [] q h = refl
not_found (p ∷ ps) q h = go (near p q) h (not_found ps q)
  where
    go : (b : Bool) → elim b [ true ↦ true | false ↦ holds near q ps ] ≡ false → (holds near q ps ≡ false → place near q ps ≡ length ps)
        → elim b [ true ↦ zero | false ↦ suc (place near q ps) ] ≡ suc (length ps)
    go true h ih = absurd (true≢false h)
    go false h ih = ap suc (ih h)

pub every-find : EveryFind
every-find ps q = record { found-near = found-near ps q; not_lower = not_lower ps q; not_found = not_found ps q }

-- ---- copies join at the end, so those that fit are the first

pub spread_adds : (ms : List Matrix) (p : Vector) (cs : List Vector) → (new : List Vector) × (spread ms p cs ≡ cs ++ new)
unfolding spread
spread_adds [] p cs = ([], sym (append-nil cs))
spread_adds (m ∷ ms) p cs = go (found cs (mul_vec m p)) (spread_adds ms p cs) (spread_adds ms p (cs ++ mul_vec m p ∷ []))
  where
    go : (b : Bool) → (new : List Vector) × (spread ms p cs ≡ cs ++ new) → (new : List Vector) × (spread ms p (cs ++ mul_vec m p ∷ []) ≡ (cs ++ mul_vec m p ∷ []) ++ new)
        → (new : List Vector) × (elim b [ true ↦ spread ms p cs | false ↦ spread ms p (cs ++ mul_vec m p ∷ []) ] ≡ cs ++ new)
    go true f g = f
    go false f g = (mul_vec m p ∷ g.0, g.1 ∙ append_assoc cs (mul_vec m p ∷ []) g.0)

pub copies-add : (ms : List Matrix) (ps cs : List Vector) → (new : List Vector) × (copies_from ms ps cs ≡ cs ++ new)
unfolding copies_from
copies-add ms [] cs = ([], sym (append-nil cs))
copies-add ms (p ∷ ps) cs = go (found cs p) (copies-add ms ps cs) (spread_adds ms p cs) (copies-add ms ps (spread ms p cs))
  where
    go : (b : Bool) → (new : List Vector) × (copies_from ms ps cs ≡ cs ++ new) → (new : List Vector) × (spread ms p cs ≡ cs ++ new)
        → (new : List Vector) × (copies_from ms ps (spread ms p cs) ≡ spread ms p cs ++ new)
        → (new : List Vector) × (elim b [ true ↦ copies_from ms ps cs | false ↦ copies_from ms ps (spread ms p cs) ] ≡ cs ++ new)
    go true f g h = f
    go false f g h = (g.0 ++ h.0, h.1 ∙ ap (λ (l : List Vector). l ++ h.0) g.1 ∙ append_assoc cs g.0 h.0)

-- ---- lengths

-- Every list of ls has length d.
abbrev pub Wide {ℓ} : {A : Type ℓ} → ℕ → List (List A) → Type 0
Wide d [] = Unit {0}
Wide d (l ∷ ls) = (length l ≡ d) × Wide d ls

wide-append : {A : Type 0} (d : ℕ) (ls ks : List (List A)) → Wide d ls → Wide d ks → Wide d (ls ++ ks)
wide-append d [] ks h k = k
wide-append d (l ∷ ls) ks h k = (h.0, wide-append d ls ks h.1 k)

wide-take : {A : Type 0} (d n : ℕ) (ls : List (List A)) → Wide d ls → Wide d (take n ls)
wide-take d zero ls h = tt
wide-take d (suc n) [] h = tt
wide-take d (suc n) (l ∷ ls) h = (h.0, wide-take d n ls h.1)

pub wide-join : {A : Type 0} (d : ℕ) (ls : List (List A)) → Wide d ls → length (join ls) ≡ length ls * d
unfolding join
wide-join d [] h = sym (zero-mul d)
wide-join d (l ∷ ls) h =
    let e = wide-join d ls h.1 in
    let f = h.0 in
    let g = length-append l (join ls) in
    let m = suc-mul (length ls) d in
    omega arith

parts-length : {A : Type 0} (k n : ℕ) (l : List A) → length (parts k n l) ≡ k
unfolding parts
parts-length zero n l = refl
parts-length (suc k) n l = ap suc (parts-length k n (drop n l))

-- Each of the matrices has d rows.
matrices-wide : (d : ℕ) (ls : List (List Float)) → Wide d (map (parts d d) ls)
matrices-wide d [] = tt
matrices-wide d (l ∷ ls) = (parts-length d d l, matrices-wide d ls)

spread-wide : (d : ℕ) (ms : List Matrix) (p : Vector) (cs : List Vector) → Wide d ms → Wide d cs → Wide d (spread ms p cs)
unfolding spread mul_vec
spread-wide d [] p cs w h = h
spread-wide d (m ∷ ms) p cs w h = go (found cs (mul_vec m p)) (spread-wide d ms p cs w.1 h) (spread-wide d ms p (cs ++ mul_vec m p ∷ []) w.1 (wide-append d cs (mul_vec m p ∷ []) h (length-map m (λ r. dot r p) ∙ w.0, tt)))
  where
    go : (b : Bool) → Wide d (spread ms p cs) → Wide d (spread ms p (cs ++ mul_vec m p ∷ [])) → Wide {A = Float} d (elim b [ true ↦ spread ms p cs | false ↦ spread ms p (cs ++ mul_vec m p ∷ []) ])
    go true f g = f
    go false f g = g

pub copies-wide : (d : ℕ) (ms : List Matrix) (ps cs : List Vector) → Wide d ms → Wide d cs → Wide d (copies_from ms ps cs)
unfolding copies_from
copies-wide d ms [] cs w h = h
copies-wide d ms (p ∷ ps) cs w h = go (found cs p) (copies-wide d ms ps cs w h) (copies-wide d ms ps (spread ms p cs) w (spread-wide d ms p cs w h))
  where
    go : (b : Bool) → Wide d (copies_from ms ps cs) → Wide d (copies_from ms ps (spread ms p cs)) → Wide {A = Float} d (elim b [ true ↦ copies_from ms ps cs | false ↦ copies_from ms ps (spread ms p cs) ])
    go true f g = f
    go false f g = g

pub written-length : {A : Type 0} (new old : List A) → length new ≤ length old → length (written new old) ≡ length old
unfolding written
written-length new old h = rw (length-append, length-drop) (omega arith)

pub table_length : (ms : List Matrix) (cs : List Vector) → length (copy_table ms cs) ≡ length ms * length cs
unfolding copy_table row_of
table_length ms cs = wide-join (length cs) (map (row_of cs) ms) (rows ms) ∙ ap (λ (x : ℕ). x * length cs) (length-map ms (row_of cs))
  where
    rows : (ms : List Matrix) → Wide (length cs) (map (row_of cs) ms)
    rows [] = tt
    rows (m ∷ ms) = (length-map cs (λ c. find cs (mul_vec m c)), rows ms)

-- Every copy has d coordinates.
pub all-wide : (d : ℕ) (ps ts : List Float) → Wide d (copies (matrices d ts) (points d ps))
unfolding copies matrices
all-wide d ps ts = copies-wide d (matrices d ts) (points d ps) [] (matrices-wide d (parts (length ts / (d * d)) (d * d) ts)) tt

-- Where there is room for n points, the first n of cs fit.
pub kept_fit : (n d l : ℕ) (cs : List Vector) → Wide d cs → n * d ≤ l → length (join (take n cs)) ≤ l
kept_fit n d l cs w h =
    let k : length (take n cs) ≤ n = rw length-take (omega arith) in
    rw (wide-join d (take n cs) (wide-take d n cs w)) (le_trans (mul-le-mul_right d k) h)

-- ---- the table says whether every image is among the copies

module _ (ms : List Matrix) (cs : List Vector) where
  -- An image that is not found has the number of copies for its entry.
  missing_in_table : (m : Matrix) (c : Vector) → In m ms → In c cs → found cs (mul_vec m c) ≡ false → In (length cs) (copy_table ms cs)
  unfolding copy_table row_of
  missing_in_table m c hm hc e = join_in (row_of cs) (length cs) m ms hm (rw (← not_found cs (mul_vec m c) e) (map_in (λ x. find cs (mul_vec m x)) c cs hc))

  pub closed_table : holds eqb (length cs) (copy_table ms cs) ≡ false → Closed ms cs
  closed_table h m c hm hc = go (found cs (mul_vec m c)) refl
    where
      go : (b : Bool) → found cs (mul_vec m c) ≡ b → b ≡ true
      go true e = refl
      go false e = absurd (true≢false (sym (holds_in (length cs) (copy_table ms cs) (missing_in_table m c hm hc e)) ∙ h))

  pub open_table : holds eqb (length cs) (copy_table ms cs) ≡ true → NotClosed ms cs
  unfolding copy_table row_of
  open_table h =
      let r = in_join (row_of cs) (length cs) ms (in_holds (length cs) (copy_table ms cs) h) in
      let i = in_map (λ x. find cs (mul_vec r.0 x)) (length cs) cs r.2 in
      (r.0, i.0, r.1, i.1, go r.0 i.0 i.2 (found cs (mul_vec r.0 i.0)) refl)
    where
      go : (m : Matrix) (c : Vector) → length cs ≡ find cs (mul_vec m c) → (b : Bool) → found cs (mul_vec m c) ≡ b → b ≡ false
      go m c q true e = let k = found-near cs (mul_vec m c) e in absurd (omega (arith, k.0))
      go m c q false e = refl

-- ---- there is a copy

-- Cells that make up whole parts make up at least one.
some_part : (l n : ℕ) → 0 < l → l % n ≡ 0 → 0 < l / n
some_part l n h q = go (l / n) (div-add-mod' l n)
  where
    go : (k : ℕ) → k * n + l % n ≡ l → 0 < k
    go zero e = absurd (omega (arith, zero-mul n))
    go (suc k) e = zero-lt-suc k

one-copy : (ms : List Matrix) (ps : List Vector) → 0 < length ms → 0 < length ps → 0 < length (copies ms ps)
unfolding copies copies_from spread found holds
one-copy [] ps hm hp = absurd (not-suc-le-zero hm)
one-copy (m ∷ ms) [] hm hp = absurd (not-suc-le-zero hp)
one-copy (m ∷ ms) (p ∷ ps) hm hp =
    let a = spread_adds ms p (mul_vec m p ∷ []) in
    let b = copies-add (m ∷ ms) ps (spread ms p (mul_vec m p ∷ [])) in
    rw (b.1, a.1) (zero-lt-suc _)

pub some_copy : (d : ℕ) (ps ts : List Float) → 0 < length ps → length ps % d ≡ 0 → 0 < length ts → length ts % (d * d) ≡ 0 → 0 < length (copies (matrices d ts) (points d ps))
unfolding points matrices
some_copy d ps ts hp p ht t =
    one-copy (matrices d ts) (points d ps) (rw (length-map, parts-length) (some_part (length ts) (d * d) ht t)) (rw parts-length (some_part (length ps) d hp p))
