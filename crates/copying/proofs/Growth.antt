-- The copies in a lent buffer grow at the end, so the cells that hold them are written over with themselves and what joins.
-- Assumes nothing.
use mathlib.Core.Path.{◌≡◌, refl, sym, ap, ap₂, ◌∙◌}
use mathlib.Core.Bool.{Bool, true, false}
use mathlib.Core.List.{List, [], ◌∷◌, ◌++◌, map, append_assoc, append-nil}
use Prim.Native.Nat.{ℕ, suc, ◌+◌, ◌-◌, ◌*◌, ◌/◌, ◌≤◌, ◌<◌}
use native.Mathlib.Nat.{mul-le-mul_right, add-div_left, div-eq_of_lt}
use native.Mathlib.Numerals.{add-one}
use native.Mathlib.Omega.{arith}
use lib.ListN.{length, get_or, take, drop, length-append, length-map, take-append-drop}
use lib.Seq.{take_at, drop_at, drop-cons, drop-drop, drop-length, drop-append-add, take-append-add, take-append-le, length-take-le}
use lib.Ieee.{Float}
use Rattle.spec.specs.Lists.{join, parts, written}
use Rattle.spec.specs.Matrix.{Vector, Matrix, mul_vec}
use Rattle.spec.specs.Copying.{spread, copies_from, matrices}
use Rattle.spec.specs.Points.{found}
use Rattle.laws.proofs.Lists.{get_or-map}
use Rattle.laws.proofs.CopyLaws.{spread_adds}
use Rattle.points.proofs.Parts.{length-parts, part_at, parts_more, parts_same, join-parts}
use Rattle.points.proofs.Laid.{join-append}
use Rattle.copying.specs.Post.{Fitting, Overfull, with_image, with_point}

-- ---- what is written over

module _ {A : Type 0} where
  written_over : (a b old : List A) → written (a ++ b) (written a old) ≡ written (a ++ b) old
  unfolding written
  written_over a b old =
      ap (λ (x : List A). (a ++ b) ++ x)
      (rw length-append (drop-append-add a (drop (length a) old) (length b) ∙ drop-drop (length b) (length a) old))

  join-over : (a b : List (List A)) (old : List A) → written (join (a ++ b)) (written (join a) old) ≡ written (join (a ++ b)) old
  join-over a b old = rw join-append (written_over (join a) (join b) old)

-- The first n parts of a buffer are what it holds there.
same : (n d : ℕ) (l : List Float) → n * d ≤ length l → l ≡ written (join (parts n d l)) l
unfolding written
same n d l h = rw (join-parts n d l, length-take-le (n * d) l h) (sym (take-append-drop (n * d) l))

-- ---- a buffer with copies in it, to which others join

-- The list `all` begins with cs.
abbrev pub Longer : List Vector → List Vector → Type 0
Longer cs all = (new : List Vector) × (all ≡ cs ++ new)

pub fitting_first : {d limit n : ℕ} {before : List Float} → n ≤ limit → limit * d ≤ length before → Fitting d limit (parts n d before) before before n
fitting_first {d} {limit} {n} {before} h k = record { room = h; read = refl; is = same n d before (omega (arith, mul-le-mul_right d h)) }

module _ {d limit n : ℕ} {before buffer : List Float} {cs all : List Vector} (g : Fitting d limit cs before buffer n) (new : Longer cs all) where
  over : written (join all) buffer ≡ written (join all) before
  over =
      ap (written (join all)) g.is
      ∙ ap (λ (x : List Vector). written (join x) (written (join cs) before)) new.1
      ∙ join-over cs new.0 before
      ∙ ap (λ (x : List Vector). written (join x) before) (sym new.1)

  pub fitting_next : {after : List Float} {m : ℕ} → Fitting d limit all buffer after m → Fitting d limit all before after m
  fitting_next k = record { room = k.room; read = k.read; is = k.is ∙ over }

  first_ones : limit ≤ length all → Longer cs (take limit all)
  first_ones h =
      let k : limit ≡ length cs + (limit - n) = omega (arith, ap length g.read, length-parts n d buffer, g.room) in
      (take (limit - n) new.0, ap (take limit) new.1 ∙ ap (λ (x : ℕ). take x (cs ++ new.0)) k ∙ take-append-add cs new.0 (limit - n))

  -- Where these are more than there is room for, so is the whole.
  pub fitting_full : {after : List Float} {whole : List Vector} → Longer all whole → Overfull limit all buffer after → Overfull limit whole before after
  fitting_full more k =
      let one = first_ones (omega (arith, k.more)) in
      record {
        more = omega (arith, k.more, ap length more.1, length-append all more.0);
        is =
            k.is
            ∙ ap (λ (x : List Vector). written (join x) buffer) one.1
            ∙ ap (written (join (cs ++ one.0))) g.is
            ∙ join-over cs one.0 before
            ∙ ap
            (λ (x : List Vector). written (join x) before)
            (sym one.1 ∙ sym (ap (take limit) more.1 ∙ take-append-le limit all more.0 (omega (arith, k.more))));
      }

-- ---- one image, and one point

module _ (cs : List Vector) (q : Vector) where
  image_old : found cs q ≡ true → with_image cs q ≡ cs
  unfolding with_image
  image_old t = rw (t, with_image)

  image_new : found cs q ≡ false → with_image cs q ≡ cs ++ (q ∷ [])
  unfolding with_image
  image_new t = rw (t, with_image)

module _ (ms : List Matrix) (cs : List Vector) (p : Vector) where
  pub point_old : found cs p ≡ true → with_point ms cs p ≡ cs
  unfolding with_point
  point_old t = rw (t, with_point)

  pub point_new : found cs p ≡ false → with_point ms cs p ≡ spread ms p cs
  unfolding with_point
  point_new t = rw (t, with_point)

module _ (d limit n : ℕ) (before : List Float) (q : Vector) (h : n ≤ limit) (k : limit * d ≤ length before) where
  held : n * d ≤ length before
  held = omega (arith, mul-le-mul_right d h)

  pub image-found : found (parts n d before) q ≡ true → Fitting d limit (with_image (parts n d before) q) before before n
  image-found t = rw (image_old (parts n d before) q t) (fitting_first h k)

  pub image-full : limit ≤ n → found (parts n d before) q ≡ false → Overfull limit (with_image (parts n d before) q) before before
  image-full g t =
      let cs = parts n d before in
      let e : limit ≡ length cs = omega (arith, length-parts n d before) in
      let f : take limit (cs ++ (q ∷ [])) ≡ cs = take_at cs (q ∷ []) limit (sym e) in
      rw (image_new cs q t) (record { more = omega (arith, length-append cs (q ∷ []), e); is = rw f (same n d before held) })

  pub image_joined : (after : List Float) → length q ≡ d → n < limit → found (parts n d before) q ≡ false → after ≡ take (n * d) before ++ (q ++ drop d (drop (n * d) before))
      → Fitting d limit (with_image (parts n d before) q) before after (n + 1)
  unfolding written join
  image_joined after w g t e =
      let cs = parts n d before in
      let b = take (n * d) before in
      let rest = drop d (drop (n * d) before) in
      let b_long : length b ≡ n * d = length-take-le (n * d) before held in
      let ends : drop (n * d) after ≡ q ++ rest = ap (drop (n * d)) e ∙ drop_at b (q ++ rest) (n * d) b_long in
      let front : take (n * d) after ≡ b = ap (take (n * d)) e ∙ take_at b (q ++ rest) (n * d) b_long in
      let last : take d (drop (n * d) after) ≡ q = ap (take d) ends ∙ take_at q rest d w in
      let all : join (cs ++ (q ∷ [])) ≡ b ++ q = join-append cs (q ∷ []) ∙ ap₂ ◌++◌ (join-parts n d before) (append-nil q) in
      let long : length (b ++ q) ≡ n * d + d = length-append b q ∙ ap₂ ◌+◌ b_long w in
      rw (image_new cs q t)
      (record {
        room = omega arith;
        read = rw (add-one, parts_more n d after, last) (ap (λ (x : List Vector). x ++ (q ∷ [])) (parts_same n d after before front));
        is = rw (all, long) (e ∙ ap (λ (x : List Float). b ++ (q ++ x)) (drop-drop d (n * d) before) ∙ sym (append_assoc b q (drop (n * d + d) before)));
      })

pub image_longer : (cs : List Vector) (q : Vector) → Longer cs (with_image cs q)
unfolding with_image
image_longer cs q = go (found cs q)
  where
    go : (b : Bool) → Longer cs (elim b as (λ _. List Vector) [ true ↦ cs | false ↦ cs ++ (q ∷ []) ])
    go true = ([], sym (append-nil cs))
    go false = (q ∷ [], refl)

pub point_longer : (ms : List Matrix) (cs : List Vector) (p : Vector) → Longer cs (with_point ms cs p)
unfolding with_point
point_longer ms cs p = go (found cs p)
  where
    go : (b : Bool) → Longer cs (elim b as (λ _. List Vector) [ true ↦ cs | false ↦ spread ms p cs ])
    go true = ([], sym (append-nil cs))
    go false = spread_adds ms p cs

-- ---- the loops: what is left to do gives what the whole gives

-- The elements of xs before j have been dealt with, by which cs came of start.
pub record Done {X : Type 0} (rest : List X → List Vector → List Vector) (xs : List X) (start : List Vector) (j : ℕ) (cs : List Vector) : Type 0 where
  pub is : rest (drop j xs) cs ≡ rest xs start

module _ {X : Type 0} {rest : List X → List Vector → List Vector} {xs : List X} {start : List Vector} where
  pub done_first : Done rest xs start 0 start
  done_first = record { is = refl }

  pub done_end : ((cs : List Vector) → rest [] cs ≡ cs) → {j : ℕ} {cs : List Vector} → j ≤ length xs → length xs ≤ j → Done rest xs start j cs → cs ≡ rest xs start
  done_end nothing {j} {cs} g h s =
      let e : j ≡ length xs = omega arith in
      sym (nothing cs) ∙ (rw (e, drop-length) at s.is)

  module _ (step : List Vector → X → List Vector) (turn : (x : X) (ys : List X) (cs : List Vector) → rest (x ∷ ys) cs ≡ rest ys (step cs x)) (x₀ : X) where
    pub done_next : {j : ℕ} {cs all : List Vector} → j < length xs → all ≡ step cs (get_or xs j x₀) → Done rest xs start j cs → Done rest xs start (j + 1) all
    done_next {j} {cs} h e s = rw (add-one, e) (record { is = sym (ap (λ (ys : List X). rest ys cs) (drop-cons xs j x₀ h) ∙ turn (get_or xs j x₀) (drop (suc j) xs) cs) ∙ s.is })

    -- The whole has all that is there after one element more.
    pub done_longer : ((ys : List X) (cs : List Vector) → Longer cs (rest ys cs)) → {j : ℕ} {cs all : List Vector} → j < length xs → all ≡ step cs (get_or xs j x₀) → Done rest xs start j cs
        → Longer all (rest xs start)
    done_longer adds {j} {cs} {all} h e s =
        let a = adds (drop (j + 1) xs) all in
        (a.0, sym (done_next h e s).is ∙ a.1)

pub spread_nothing : (p : Vector) (cs : List Vector) → spread [] p cs ≡ cs
unfolding spread
spread_nothing p cs = refl

pub copies_nothing : (ms : List Matrix) (cs : List Vector) → copies_from ms [] cs ≡ cs
unfolding copies_from
copies_nothing ms cs = refl

-- Spreading a point over one matrix more adds its image to the copies.
pub spread_turn : (p : Vector) (m : Matrix) (ms : List Matrix) (cs : List Vector) → spread (m ∷ ms) p cs ≡ spread ms p (with_image cs (mul_vec m p))
unfolding spread
spread_turn p m ms cs = go (found cs (mul_vec m p)) refl
  where
    go : (b : Bool) → found cs (mul_vec m p) ≡ b
        → elim (found cs (mul_vec m p)) as (λ _. List Vector) [ true ↦ spread ms p cs | false ↦ spread ms p (cs ++ (mul_vec m p ∷ [])) ]
        ≡ spread ms p (with_image cs (mul_vec m p))
    go true t = rw (image_old cs (mul_vec m p) t, t)
    go false t = rw (image_new cs (mul_vec m p) t, t)

-- Copying one point more adds the point's images to the copies.
pub copies_turn : (ms : List Matrix) (p : Vector) (ps cs : List Vector) → copies_from ms (p ∷ ps) cs ≡ copies_from ms ps (with_point ms cs p)
unfolding copies_from
copies_turn ms p ps cs = go (found cs p) refl
  where
    go : (b : Bool) → found cs p ≡ b
        → elim (found cs p) as (λ _. List Vector) [ true ↦ copies_from ms ps cs | false ↦ copies_from ms ps (spread ms p cs) ]
        ≡ copies_from ms ps (with_point ms cs p)
    go true t = rw (point_old ms cs p t, t)
    go false t = rw (point_new ms cs p t, t)

-- ---- the matrices of a slice

-- Matrix j of a slice stands in d rows from cell j * (d * d) on.
pub matrix_is : (d : ℕ) (l : List Float) (j : ℕ) → j < length l / (d * d) → get_or (matrices d l) j [] ≡ parts d d (take (d * d) (drop (j * (d * d)) l))
unfolding matrices
matrix_is d l j h =
    let n = length l / (d * d) in
    get_or-map (parts d d) [] [] (parts n (d * d) l) j (omega (arith, length-parts n (d * d) l)) ∙ ap (parts d d) (part_at n (d * d) l j h)

pub length-matrices : (d : ℕ) (l : List Float) → length (matrices d l) ≡ length l / (d * d)
unfolding matrices
length-matrices d l = length-map (parts (length l / (d * d)) (d * d) l) (parts d d) ∙ length-parts (length l / (d * d)) (d * d) l

-- The matrices of a slice are its first one and those of what is left.
pub matrices_next : (d : ℕ) (m rest : List Float) → 0 < d * d → length m ≡ d * d → matrices d (m ++ rest) ≡ parts d d m ∷ matrices d rest
unfolding matrices parts
matrices_next d m rest h e =
    let n = length rest / (d * d) in
    let k : length (m ++ rest) / (d * d) ≡ suc n = rw (length-append m rest, e) (add-div_left (length rest) h ∙ add-one n) in
    ap (λ (x : ℕ). map (parts d d) (parts x (d * d) (m ++ rest))) k
    ∙ ap₂ (λ (x y : List Float). parts d d x ∷ map (parts d d) (parts n (d * d) y)) (take_at m rest (d * d) e) (drop_at m rest (d * d) e)

pub matrices_none : (d : ℕ) (l : List Float) → length l < d * d → matrices d l ≡ []
unfolding matrices parts
matrices_none d l h = rw (div-eq_of_lt h) refl
