-- Every sheet that passes gives a solid that section 2 allows: `Sound`, of the rank that the sheet says, within the limits.
-- Assumes nothing.
use Rattle.std.specs.Prelude.{Err, Ok}
use mathlib.Core.Path.{◌≡◌, refl, sym, ◌∙◌, ap, subst}
use mathlib.Core.Logic.{◌⊎◌, inl, inr}
use Prim.Native.Nat.{ℕ, zero, suc, ◌+◌, ◌-◌, ◌*◌, ◌≤◌, ◌<◌}
use mathlib.Core.Bool.{Bool, true, false, ◌&&◌}
use mathlib.Core.List.{List, [], ◌∷◌, ◌++◌}
use native.Mathlib.Omega.{arith}
use lib.ListN.{length, get_or, replicate, length-append, length-replicate, get_or-append}
use lib.Seq.{get_or-append_seam}
use lib.Dec.{leb, ltb, leb→le, T}
use lib.Ieee.{Float, binary64, of_bits}
use Rattle.spec.specs.declared.Refusal.{Refusal}
use Rattle.spec.specs.Limits.{max_rank, max_dimension, max_count, max_entries}
use Rattle.spec.specs.declared.Refusal.TheVariants.{CutSheet, Format, OffTheBoard, BadList, Loose, Mitre, Bench}
use Rattle.spec.specs.Bits.{field}
use Rattle.spec.specs.Float.{in_range}
use Rattle.spec.specs.Lists.{In, range}
use Rattle.spec.specs.Types.{Solid, top, size, subs}
use Rattle.spec.specs.Demand.{RisingAbove, Rising, Sound}
use Rattle.spec.specs.Judged as Judging
use Rattle.spec.specs.Judged.{Judged}
use Rattle.spec.specs.Sheet.{Parsed, Reader, ◌>>=◌, ◌>>◌, done, judge, times, bits, rank, dimension, count, coordinate, sub_list, list, lists_at, lists, end, sheet, read_sheet, vertex_count}
use Rattle.spec.specs.Solid.{Concrete, proper_lists, with_top, solid_of, roomy, bound, diamond, preflight}
use Rattle.laws.proofs.Lists.{length-range, in_get_d}
use Rattle.laws.proofs.FlagList.{in_either}
use Rattle.laws.proofs.Marked.{both, lt_test}
use Rattle.laws.proofs.Soundness.{point_sound}
use Rattle.laws.specs.Passed.{EveryPassed}

-- ---- what a passed reading passed through

pub never : {A : Type 0} (why : Refusal) (y : A) → ◌≡◌ {A = Judged A} (Err why) (Ok y) → ⊥
never why y e = let z : ◌≡◌ {A = ℕ} 0 1 = cc in omega arith

pub same : {A : Type 0} (x y : A) → ◌≡◌ {A = Judged A} (Ok x) (Ok y) → x ≡ y
same x y e = cc

module _ {A B : Type 0} where
  pub bound_by : (m : Reader A) (k : A → Reader B) (i : ℕ) (y : B × ℕ) → (m >>= k) i ≡ Ok y → (x : A × ℕ) × (m i ≡ Ok x) × (k x.0 x.1 ≡ Ok y)
  unfolding ◌>>=◌
  bound_by m k i y = go (m i) refl
    where
      go : (o : Judged (A × ℕ)) → m i ≡ o → elim o as (λ z. Judged (B × ℕ)) [ Err why ↦ Err why | Ok x ↦ k x.0 x.1 ] ≡ Ok y → (x : A × ℕ) × (m i ≡ Ok x) × (k x.0 x.1 ≡ Ok y)
      go (Err why) q e = absurd (never why y e)
      go (Ok x) q e = (x, q, e)

  pub after : (m : Reader A) (k : Reader B) (i : ℕ) (y : B × ℕ) → (m >> k) i ≡ Ok y → (x : A × ℕ) × (m i ≡ Ok x) × (k x.1 ≡ Ok y)
  unfolding ◌>>◌
  after m k i y = go (m i) refl
    where
      go : (o : Judged (A × ℕ)) → m i ≡ o → elim o as (λ z. Judged (B × ℕ)) [ Err why ↦ Err why | Ok x ↦ k x.1 ] ≡ Ok y → (x : A × ℕ) × (m i ≡ Ok x) × (k x.1 ≡ Ok y)
      go (Err why) q e = absurd (never why y e)
      go (Ok x) q e = (x, q, e)

pub judged : (why : Refusal) (ok : Bool) (i : ℕ) (y : Unit {0} × ℕ) → judge why ok i ≡ Ok y → ok ≡ true
unfolding judge
judged why true i y e = refl
judged why false i y e = absurd (never why y e)

pub le_test : (m n : ℕ) → leb m n ≡ true → m ≤ n
le_test m n e = leb→le m n (subst T (sym e) tt)

-- ---- what the lists hold

-- The list is strictly rising, from `low` on, and below c.
unfoldable pub From : ℕ → ℕ → List ℕ → Type 0
From low c [] = Unit {0}
From low c (x ∷ l) = (low ≤ x) × (x < c) × From (suc x) c l

AllFrom : ℕ → List (List ℕ) → Type 0
AllFrom c [] = Unit {0}
AllFrom c (l ∷ ls) = From 0 c l × AllFrom c ls

-- No list is empty.
NoneEmpty : List (List ℕ) → Type 0
NoneEmpty [] = Unit {0}
NoneEmpty (l ∷ ls) = (0 < length l) × NoneEmpty ls

-- The ranks' sizes are `sizes`, and no list is empty.
Sized : List ℕ → List (List (List ℕ)) → Type 0
Sized [] [] = Unit {0}
Sized [] (ls ∷ more) = ⊥
Sized (n ∷ sizes) [] = ⊥
Sized (n ∷ sizes) (ls ∷ more) = (length ls ≡ n) × NoneEmpty ls × Sized sizes more

-- Each rank's lists lie below the size of the rank before, and the first's below c.
Stack : ℕ → List (List (List ℕ)) → Type 0
Stack c [] = Unit {0}
Stack c (ls ∷ more) = AllFrom c ls × Stack (length ls) more

module _ (b : List ℕ) where
  pub sub_read : (c n low i : ℕ) (y : List ℕ × ℕ) → sub_list b c n low i ≡ Ok y → (length y.0 ≡ n) × From low c y.0
  unfolding sub_list done From
  sub_read c zero low i y e = subst (λ (z : List ℕ × ℕ). (length z.0 ≡ 0) × From low c z.0) (same ([], i) y e) (refl, tt)
  sub_read c (suc n) low i y e =
      let h₁ = bound_by (bits b 11) _ i y e in
      let x = h₁.0.0 in
      let h₂ = after (judge BadList (ltb x c && leb low x)) _ _ y h₁.2 in
      let ok = both (ltb x c) (leb low x) (judged BadList (ltb x c && leb low x) _ _ h₂.1) in
      let h₃ = bound_by (sub_list b c n (suc x)) _ _ y h₂.2 in
      let r = sub_read c n (suc x) _ h₃.0 h₃.1 in
      subst (λ (z : List ℕ × ℕ). (length z.0 ≡ suc n) × From low c z.0) (same _ y h₃.2) (ap suc r.0, (le_test low x ok.1, lt_test x c ok.0, r.1))

  list_read : (c used i : ℕ) (y : List ℕ × ℕ) → list b c used i ≡ Ok y → (0 < length y.0) × From 0 c y.0
  unfolding list
  list_read c used i y e =
      let h₁ = bound_by (bits b 12) _ i y e in
      let h₂ = after (judge Format (leb (used + h₁.0.0) max_entries)) _ _ y h₁.2 in
      let h₃ = after (judge BadList (ltb 0 h₁.0.0)) _ _ y h₂.2 in
      let r = sub_read c h₁.0.0 0 _ y h₃.2 in
      let k = lt_test 0 h₁.0.0 (judged BadList (ltb 0 h₁.0.0) _ _ h₃.1) in
      (rw r.0 k, r.1)

  lists_at_lem : (c n used i : ℕ) (y : List (List ℕ) × ℕ) → lists_at b c n used i ≡ Ok y → (length y.0 ≡ n) × AllFrom c y.0 × NoneEmpty y.0
  unfolding lists_at done AllFrom NoneEmpty
  lists_at_lem c zero used i y e = subst (λ (z : List (List ℕ) × ℕ). (length z.0 ≡ 0) × AllFrom c z.0 × NoneEmpty z.0) (same ([], i) y e) (refl, tt, tt)
  lists_at_lem c (suc n) used i y e =
      let h₁ = bound_by (list b c used) _ i y e in
      let h₂ = bound_by (lists_at b c n (used + length h₁.0.0)) _ _ y h₁.2 in
      let r = lists_at_lem c n (used + length h₁.0.0) _ h₂.0 h₂.1 in
      let l = list_read c used i h₁.0 h₁.1 in
      subst (λ (z : List (List ℕ) × ℕ). (length z.0 ≡ suc n) × AllFrom c z.0 × NoneEmpty z.0) (same _ y h₂.2) (ap suc r.0, (l.1, r.1), (l.0, r.2))

  lists-read : (c : ℕ) (counts : List ℕ) (i : ℕ) (y : List (List (List ℕ)) × ℕ) → lists b (c ∷ counts) i ≡ Ok y → Sized counts y.0 × Stack c y.0
  unfolding lists done Stack Sized
  lists-read c [] i y e = subst (λ (z : List (List (List ℕ)) × ℕ). Sized [] z.0 × Stack c z.0) (same ([], i) y e) (tt, tt)
  lists-read c (d ∷ counts) i y e =
      let h₁ = bound_by (lists_at b c d 0) _ i y e in
      let r₁ = lists_at_lem c d 0 i h₁.0 h₁.1 in
      let h₂ = bound_by (lists b (d ∷ counts)) _ _ y h₁.2 in
      let r₂ = lists-read d counts _ h₂.0 h₂.1 in
      subst (λ (z : List (List (List ℕ)) × ℕ). Sized (d ∷ counts) z.0 × Stack c z.0) (same _ y h₂.2)
      ((r₁.0, r₁.2, r₂.0), (r₁.1, rw r₁.0 r₂.1))

sized-length : (sizes : List ℕ) (lists : List (List (List ℕ))) → Sized sizes lists → length lists ≡ length sizes
unfolding Sized
sized-length [] [] h = refl
sized-length (n ∷ sizes) (ls ∷ more) h = ap suc (sized-length sizes more h.2)
sized-length [] (ls ∷ more) h = elim h [ ]
sized-length (n ∷ sizes) [] h = elim h [ ]

pub times-read : {A : Type 0} (n : ℕ) (m : Reader A) (i : ℕ) (y : List A × ℕ) → times n m i ≡ Ok y → length y.0 ≡ n
unfolding times done
times-read zero m i y e = ap (λ (z : List _ × ℕ). length z.0) (sym (same ([], i) y e))
times-read (suc n) m i y e =
    let h₁ = bound_by m _ i y e in
    let h₂ = bound_by (times n m) _ _ y h₁.2 in
    ap (λ (z : List _ × ℕ). length z.0) (sym (same _ y h₂.2)) ∙ ap suc (times-read n m _ h₂.0 h₂.1)

pub one_or : {A : Type 0} (P : A → Type 0) (x a : A) (l : List A) → In x (a ∷ l) → P a → (In x l → P x) → P x
one_or P x a l (inl q) k r = rw q k
one_or P x a l (inr m) k r = r m

pub times-each : {A : Type 0} (P : A → Type 0) (m : Reader A) → ((i : ℕ) (y : A × ℕ) → m i ≡ Ok y → P y.0) → (n i : ℕ) (y : List A × ℕ) → times n m i ≡ Ok y → (x : A) → In x y.0 → P x
unfolding times done
times-each P m f zero i y e x h = absurd (subst (λ (z : List _ × ℕ). In x z.0) (sym (same ([], i) y e)) h)
times-each P m f (suc n) i y e x h =
    let h₁ = bound_by m _ i y e in
    let h₂ = bound_by (times n m) _ _ y h₁.2 in
    one_or P x h₁.0.0 h₂.0.0 (subst (λ (z : List _ × ℕ). In x z.0) (sym (same _ y h₂.2)) h) (f i h₁.0 h₁.1) (times-each P m f n h₁.0.1 h₂.0 h₂.1 x)

-- A field is judged, and a value is worked out from it.
judged-field : {A : Type 0} (b : List ℕ) (w : ℕ) (k : Refusal) (t : ℕ → Bool) (f : ℕ → A) (i : ℕ) (y : A × ℕ)
    → (bits b w >>= λ n. judge k (t n) >> done (f n)) i ≡ Ok y → (n : ℕ) × (t n ≡ true) × (y.0 ≡ f n)
unfolding done
judged-field b w k t f i y e =
    let h₁ = bound_by (bits b w) _ i y e in
    let h₂ = after (judge k (t h₁.0.0)) _ _ y h₁.2 in
    (h₁.0.0, judged k (t h₁.0.0) h₁.0.1 h₂.0 h₂.1, ap (λ z. z.0) (sym (same _ y h₂.2)))

module _ (b : List ℕ) (i : ℕ) where
  pub rank-read : (y : ℕ × ℕ) → rank b i ≡ Ok y → y.0 ≤ max_rank
  unfolding rank
  rank-read y e = let h = judged-field b 3 Format (λ n. leb n max_rank) (λ n. n) i y e in rw h.2 (le_test h.0 max_rank h.1)

  pub dimension-read : (y : ℕ × ℕ) → dimension b i ≡ Ok y → y.0 ≤ max_dimension
  unfolding dimension
  dimension-read y e = let h = judged-field b 3 Format (λ n. leb n max_dimension) (λ n. n) i y e in rw h.2 (le_test h.0 max_dimension h.1)

  pub count-read : (y : ℕ × ℕ) → count b i ≡ Ok y → (0 < y.0) × (y.0 ≤ max_count)
  unfolding count
  count-read y e =
      let h = judged-field b 12 Format (λ n. ltb 0 n && leb n max_count) (λ n. n) i y e in
      let k = both (ltb 0 h.0) (leb h.0 max_count) h.1 in
      rw h.2 (lt_test 0 h.0 k.0, le_test h.0 max_count k.1)

  -- The bits that were read are whole, and the next field starts behind them.
  bits-read : (w : ℕ) (y : ℕ × ℕ) → bits b w i ≡ Ok y → (i + w ≤ 8 * length b) × (y ≡ (field b i w, i + w))
  unfolding bits
  bits-read w y e = go (leb (i + w) (8 * length b)) refl e
    where
      go : (t : Bool) → leb (i + w) (8 * length b) ≡ t
          → elim t as (λ z. Judged (ℕ × ℕ)) [ true ↦ Ok (field b i w, i + w) | false ↦ Err CutSheet ] ≡ Ok y
          → (i + w ≤ 8 * length b) × (y ≡ (field b i w, i + w))
      go true q e = (le_test (i + w) (8 * length b) q, sym (same (field b i w, i + w) y e))
      go false q e = absurd (never CutSheet y e)

  -- A field of w bits that no test refused is what those bits say.
  field-read : (w : ℕ) (k : Refusal) (t : ℕ → Bool) (y : ℕ × ℕ) → (bits b w >>= λ n. judge k (t n) >> done n) i ≡ Ok y
      → (i + w ≤ 8 * length b) × (y ≡ (field b i w, i + w))
  unfolding done judge
  field-read w k t y e =
      let h₁ = bound_by (bits b w) _ i y e in
      let h₂ = after (judge k (t h₁.0.0)) _ _ y h₁.2 in
      let r = bits-read w h₁.0 h₁.1 in
      (r.0, sym (same (h₁.0.0, h₂.0.1) y h₂.2) ∙ ap (λ (n : ℕ). (h₁.0.0, n)) (stays (t h₁.0.0) h₂.0 h₂.1) ∙ r.1)
    where
      stays : (ok : Bool) {j : ℕ} (z : Unit {0} × ℕ) → judge k ok j ≡ Ok z → z.1 ≡ j
      stays true {j} z q = ap (λ (u : Unit {0} × ℕ). u.1) (sym (same (tt, j) z q))
      stays false z q = absurd (never k z q)

  coordinate-read : (y : Float × ℕ) → coordinate b i ≡ Ok y → in_range y.0 ≡ true
  unfolding coordinate
  coordinate-read y e = let h = judged-field b 64 OffTheBoard (λ n. in_range (of_bits binary64 n)) (λ n. of_bits binary64 n) i y e in rw h.2 h.1

-- ---- lists that lie so make a solid as section 2 allows it

pub from_in : (low c : ℕ) (l : List ℕ) → From low c l → (x : ℕ) → In x l → x < c
unfolding From
from_in low c (y ∷ l) w x (inl q) = rw q w.1
from_in low c (y ∷ l) w x (inr m) = from_in (suc y) c l w.2 x m
from_in low c [] w x x4 = elim x4 [ ]

from-above : (y c : ℕ) (l : List ℕ) → From (suc y) c l → RisingAbove y l
unfolding From
from-above y c [] w = tt
from-above y c (x ∷ l) w = (w.0, from-above x c l w.2)

pub from_rising : (low c : ℕ) (l : List ℕ) → From low c l → Rising l
unfolding From
from_rising low c [] w = tt
from_rising low c (x ∷ l) w = from-above x c l w.2

all-at : (c : ℕ) (ls : List (List ℕ)) → AllFrom c ls → (e : ℕ) → From 0 c (get_or ls e [])
unfolding AllFrom From
all-at c [] w e = tt
all-at c (l ∷ ls) w zero = w.0
all-at c (l ∷ ls) w (suc e) = all-at c ls w.1 e

stack_below : (c : ℕ) (s : Solid) → Stack c s → (r e x : ℕ) → In x (get_or (get_or s (suc r) []) e []) → x < length (get_or s r [])
unfolding Stack
stack_below c (a ∷ b ∷ s) w zero e x m = from_in 0 (length a) (get_or b e []) (all-at (length a) b w.1.0 e) x m
stack_below c (a ∷ b ∷ s) w (suc r) e x m = stack_below (length a) (b ∷ s) w.1 r e x m
stack_below c [] w r e x m = elim m [ ]
stack_below c (a ∷ []) w r e x m = elim m [ ]

stack_rising : (c : ℕ) (s : Solid) → Stack c s → (r e : ℕ) → Rising (get_or (get_or s r []) e [])
unfolding Stack
stack_rising c [] w r e = tt
stack_rising c (a ∷ s) w zero e = from_rising 0 c (get_or a e []) (all-at c a w.0 e)
stack_rising c (a ∷ s) w (suc r) e = stack_rising (length a) s w.1 r e

-- Gives the size of the last rank, or c.
last : ℕ → Solid → ℕ
last c [] = c
last c (a ∷ s) = last (length a) s

stack_more : (c : ℕ) (s : Solid) (t : List (List ℕ)) → Stack c s → AllFrom (last c s) t → Stack c (s ++ (t ∷ []))
unfolding Stack last
stack_more c [] t w h = (h, tt)
stack_more c (a ∷ s) t w h = (w.0, stack_more (length a) s t w.1 h)

last-size : (a : List (List ℕ)) (s : Solid) → length (get_or (a ∷ s) (length s) []) ≡ last (length a) s
unfolding last
last-size a [] = refl
last-size a (b ∷ s) = last-size b s

range-from : (a n c : ℕ) → a + n ≤ c → From a c (range a n)
unfolding From range
range-from a zero c h = tt
range-from a (suc n) c h = (omega arith, omega arith, range-from (suc a) n c (omega arith))

all_replicate : (n c : ℕ) (l : List ℕ) → From 0 c l → AllFrom c (replicate n l)
unfolding AllFrom
all_replicate zero c l h = tt
all_replicate (suc n) c l h = (h, all_replicate n c l h)

module _ (s : Solid) (w : Stack 1 s) where
  under : Solid
  under = ([] ∷ []) ∷ s

  under_stack : Stack 0 under
  unfolding Stack AllFrom From under
  under_stack = ((tt, tt), w)

  last_of : size under (top under) ≡ last 0 under
  unfolding last under
  last_of =
      let h : suc (length s) - 1 ≡ length s = omega arith in
      ap (λ (i : ℕ). length (get_or (([] ∷ []) ∷ s) i [])) h ∙ last-size ([] ∷ []) s

  crown : List (List ℕ)
  crown = range 0 (size under (top under)) ∷ []

  whole : Stack 0 (with_top under)
  unfolding with_top AllFrom crown
  whole = stack_more 0 under crown under_stack (range-from 0 (size under (top under)) (last 0 under) (omega (arith, last_of)), tt)

  height : top (with_top under) ≡ length under
  unfolding with_top crown
  height =
      let h : length (with_top under) ≡ length under + 1 = length-append under (crown ∷ []) in
      omega arith

  at_top : get_or (with_top under) (top (with_top under)) [] ≡ crown
  unfolding with_top crown
  at_top = rw height (get_or-append_seam under crown [] [])

  next_down : get_or (with_top under) (top (with_top under) - 1) [] ≡ get_or under (top under) []
  unfolding with_top under crown
  next_down = rw height (get_or-append under (crown ∷ []) [] (top under) (omega arith))

  with_top_lem : Sound (with_top under)
  unfolding with_top under subs crown
  with_top_lem = record {
    least = refl;
    below = stack_below 0 (with_top under) whole;
    rising = stack_rising 0 (with_top under) whole;
    one = ap length at_top;
    all = λ h. ap (λ (t : List (List ℕ)). get_or t 0 []) at_top ∙ ap (λ (t : List (List ℕ)). range 0 (length t)) (sym next_down);
  }

-- ---- the sheet

-- These are the parts of a sheet that was read, each with the bit at which it starts.
pub record PartsRead (b : List ℕ) (p : Parsed) : Type 0 where
  pub dimension-at : ℕ
  pub counts-at : ℕ
  pub points-at : ℕ
  pub lists_at : ℕ
  pub end-at : ℕ
  pub rank_is : rank b 0 ≡ Ok (p.rank, dimension-at)
  pub dimension_is : dimension b dimension-at ≡ Ok (p.dimension, counts-at)
  pub counts_are : times (p.rank - 1) (count b) counts-at ≡ Ok (p.counts, points-at)
  pub points_are : times (vertex_count p.rank p.counts) (times p.dimension (coordinate b)) points-at ≡ Ok (p.points, lists_at)
  pub lists_are : lists b p.counts lists_at ≡ Ok (p.lists, end-at)

sheet-parts : (b : List ℕ) (y : Parsed × ℕ) → sheet b 0 ≡ Ok y → PartsRead b y.0
unfolding sheet done
sheet-parts b y e =
    let h₁ = bound_by (rank b) _ 0 y e in
    let h₂ = bound_by (dimension b) _ _ y h₁.2 in
    let h₃ = bound_by (times (h₁.0.0 - 1) (count b)) _ _ y h₂.2 in
    let h₄ = bound_by (times (vertex_count h₁.0.0 h₃.0.0) (times h₂.0.0 (coordinate b))) _ _ y h₃.2 in
    let h₅ = bound_by (lists b h₃.0.0) _ _ y h₄.2 in
    let h₆ = after (end b) _ _ y h₅.2 in
    subst (λ (z : Parsed × ℕ). PartsRead b z.0) (same _ y h₆.2) (record {
      dimension-at = h₁.0.1;
      counts-at = h₂.0.1;
      points-at = h₃.0.1;
      lists_at = h₄.0.1;
      end-at = h₅.0.1;
      rank_is = h₁.1;
      dimension_is = h₂.1;
      counts_are = h₃.1;
      points_are = h₄.1;
      lists_are = h₅.1;
    })

pub parts-read : (b : List ℕ) (p : Parsed) → read_sheet b ≡ Ok p → PartsRead b p
unfolding read_sheet
parts-read b p = go (sheet b 0) refl
  where
    go : (o : Judged (Parsed × ℕ)) → sheet b 0 ≡ o → elim o as (λ z. Judged Parsed) [ Err why ↦ Err why | Ok x ↦ Ok x.0 ] ≡ Ok p
        → PartsRead b p
    go (Err why) q e = absurd (never why p e)
    go (Ok x) q e = rw (← same x.0 p e) (sheet-parts b x q)

record Read (p : Parsed) : Type 0 where
  tall : p.rank ≤ max_rank
  wide : p.dimension ≤ max_dimension
  counted : length p.counts ≡ p.rank - 1
  counts : (n : ℕ) → In n p.counts → (0 < n) × (n ≤ max_count)
  coordinates : (x : List Float) → In x p.points → (length x ≡ p.dimension) × ((y : Float) → In y x → in_range y ≡ true)
  pointed : length p.points ≡ vertex_count p.rank p.counts
  low : (c : ℕ) (counts : List ℕ) → p.counts ≡ c ∷ counts → Sized counts p.lists × Stack c p.lists

whole-sheet : (b : List ℕ) (p : Parsed) → read_sheet b ≡ Ok p → Read p
whole-sheet b p e =
    let h = parts-read b p e in
    let v = vertex_count p.rank p.counts in
    record {
      tall = rank-read b 0 (p.rank, h.dimension-at) h.rank_is;
      wide = dimension-read b h.dimension-at (p.dimension, h.counts-at) h.dimension_is;
      counted = times-read (p.rank - 1) (count b) h.counts-at (p.counts, h.points-at) h.counts_are;
      counts = times-each (λ n. (0 < n) × (n ≤ max_count)) (count b) (count-read b) (p.rank - 1) h.counts-at (p.counts, h.points-at) h.counts_are;
      coordinates = times-each (λ x. (length x ≡ p.dimension) × ((y : Float) → In y x → in_range y ≡ true)) (times p.dimension (coordinate b))
          (λ i z k. (times-read p.dimension (coordinate b) i z k, times-each (λ y. in_range y ≡ true) (coordinate b) (coordinate-read b) p.dimension i z k))
          v h.points-at (p.points, h.lists_at) h.points_are;
      pointed = times-read v (times p.dimension (coordinate b)) h.points-at (p.points, h.lists_at) h.points_are;
      low = λ c counts q. lists-read b c counts h.lists_at (p.lists, h.end-at) (subst (λ (l : List ℕ). lists b l h.lists_at ≡ Ok (p.lists, h.end-at)) q h.lists_are);
    }

module _ (p : Parsed) (w : Read p) where
  proper_stack : (counts : List ℕ) → p.counts ≡ counts → Stack 1 (proper_lists counts p.lists)
  unfolding proper_lists Stack From
  proper_stack [] q = tt
  proper_stack (c ∷ counts) q = (all_replicate c 1 (0 ∷ []) (omega arith, omega arith, tt), rw length-replicate (w.low c counts q).1)

  sound_of : Sound (solid_of p)
  unfolding solid_of under
  sound_of = go p.rank
    where
      go : (r : ℕ) → Sound (elim r as (λ q. Solid) [ zero ↦ ([] ∷ []) ∷ [] | suc q ↦ with_top (([] ∷ []) ∷ proper_lists p.counts p.lists) ])
      go zero = point_sound
      go (suc r) = with_top_lem (proper_lists p.counts p.lists) (proper_stack p.counts refl)

  Fine : List (List ℕ) → Type 0
  Fine ls = (0 < length ls) × (length ls ≤ max_count)

  sized_fine : (sizes : List ℕ) (more : List (List (List ℕ))) → Sized sizes more → ((n : ℕ) → In n sizes → (0 < n) × (n ≤ max_count)) → (ls : List (List ℕ)) → In ls more → Fine ls × NoneEmpty ls
  unfolding Sized Fine
  sized_fine [] [] h k ls m = absurd m
  sized_fine (n ∷ sizes) (a ∷ more) h k ls (inl q) = rw (q, h.0) (k n (inl refl), h.1)
  sized_fine (n ∷ sizes) (a ∷ more) h k ls (inr m) = sized_fine sizes more h.2 (λ n i. k n (inr i)) ls m
  sized_fine [] (a ∷ more) h k ls m = elim h [ ]
  sized_fine (n ∷ sizes) [] h k ls m = elim h [ ]

  filled_replicate : (n : ℕ) → NoneEmpty (replicate n (0 ∷ []))
  unfolding NoneEmpty
  filled_replicate zero = tt
  filled_replicate (suc n) = (omega arith, filled_replicate n)

  proper_fine : (counts : List ℕ) → p.counts ≡ counts → (ls : List (List ℕ)) → In ls (proper_lists counts p.lists) → Fine ls × NoneEmpty ls
  unfolding proper_lists Fine
  proper_fine [] q ls m = absurd m
  proper_fine (c ∷ counts) q ls (inl h) = rw (h, length-replicate) (w.counts c (rw q (inl refl)), filled_replicate c)
  proper_fine (c ∷ counts) q ls (inr m) = sized_fine counts p.lists (w.low c counts q).0 (λ n i. w.counts n (rw q (inr i))) ls m

  rest : Solid
  rest = proper_lists p.counts p.lists

  -- The ranks under the top are fine, and so is the top.
  under_fine : (ls : List (List ℕ)) → In ls (([] ∷ []) ∷ rest) → Fine ls
  unfolding Fine rest
  under_fine ls (inl q) = rw q (omega arith, omega arith)
  under_fine ls (inr m) = (proper_fine p.counts refl ls m).0

  last_fine : 0 < size (([] ∷ []) ∷ rest) (top (([] ∷ []) ∷ rest))
  unfolding Fine
  last_fine = (under_fine (get_or (([] ∷ []) ∷ rest) (top (([] ∷ []) ∷ rest)) []) (in_get_d [] (([] ∷ []) ∷ rest) (top (([] ∷ []) ∷ rest)) (omega arith))).0

  crowned : List (List ℕ)
  crowned = range 0 (size (([] ∷ []) ∷ rest) (top (([] ∷ []) ∷ rest))) ∷ []

  crown_filled : NoneEmpty crowned
  unfolding NoneEmpty crowned
  crown_filled = (rw length-range last_fine, tt)

  more_filled : (ls : List (List ℕ)) → In ls (rest ++ (crowned ∷ [])) → NoneEmpty ls
  unfolding rest
  more_filled ls m = go (in_either ls rest (crowned ∷ []) m)
    where
      go : In ls rest ⊎ In ls (crowned ∷ []) → NoneEmpty ls
      go (inr (inr x'')) = elim x'' [ ]
      go (inl h) = (proper_fine p.counts refl ls h).1
      go (inr (inl q)) = rw q crown_filled

  all_fine : (ls : List (List ℕ)) → In ls (([] ∷ []) ∷ (rest ++ (crowned ∷ []))) → Fine ls
  unfolding Fine crowned
  all_fine ls m = go (in_either ls (([] ∷ []) ∷ rest) (crowned ∷ []) m)
    where
      go : In ls (([] ∷ []) ∷ rest) ⊎ In ls (crowned ∷ []) → Fine ls
      go (inr (inr x'')) = elim x'' [ ]
      go (inl h) = under_fine ls h
      go (inr (inl q)) = rw q (omega arith, omega arith)

  filled_at : (ls : List (List ℕ)) → NoneEmpty ls → (e : ℕ) → e < length ls → 0 < length (get_or ls e [])
  unfolding NoneEmpty
  filled_at [] f e h = absurd (omega arith)
  filled_at (l ∷ ls) f zero h = f.0
  filled_at (l ∷ ls) f (suc e) h = filled_at ls f.1 e (omega arith)

  filled_in : (s : List (List (List ℕ))) → ((ls : List (List ℕ)) → In ls s → NoneEmpty ls) → (r e : ℕ) → e < length (get_or s r []) → 0 < length (get_or (get_or s r []) e [])
  filled_in [] f r e h = absurd (omega arith)
  filled_in (a ∷ s) f zero e h = filled_at a (f a (inl refl)) e h
  filled_in (a ∷ s) f (suc r) e h = filled_in s (λ ls m. f ls (inr m)) r e h

  sizes_of : (r : ℕ) → r ≤ top (solid_of p) → (0 < size (solid_of p) r) × (size (solid_of p) r ≤ max_count)
  unfolding solid_of with_top Fine rest crowned
  sizes_of r h = go p.rank r h
    where
      at : (s : Solid) → 0 < length s → ((ls : List (List ℕ)) → In ls s → Fine ls) → (r : ℕ) → r ≤ top s → Fine (get_or s r [])
      at s k f r h = f (get_or s r []) (in_get_d [] s r (omega arith))

      go : (q : ℕ) (r : ℕ) → r ≤ top (elim q as (λ z. Solid) [ zero ↦ ([] ∷ []) ∷ [] | suc z ↦ with_top (([] ∷ []) ∷ proper_lists p.counts p.lists) ])
          → Fine (get_or (elim q as (λ z. Solid) [ zero ↦ ([] ∷ []) ∷ [] | suc z ↦ with_top (([] ∷ []) ∷ proper_lists p.counts p.lists) ]) r [])
      go zero r h = at (([] ∷ []) ∷ []) (omega arith) first r h
        where
          first : (ls : List (List ℕ)) → In ls (([] ∷ []) ∷ []) → Fine ls
          first ls (inl e) = rw e (omega arith, omega arith)
          first ls (inr x'') = elim x'' [ ]
      go (suc q) r h = at (([] ∷ []) ∷ (rest ++ (crowned ∷ []))) (omega arith) all_fine r h

  filled_of : (r e : ℕ) → e < size (solid_of p) (suc r) → 0 < length (subs (solid_of p) (suc r) e)
  unfolding solid_of with_top rest crowned subs
  filled_of r e h = go p.rank h
    where
      go : (q : ℕ) → e < size (elim q as (λ z. Solid) [ zero ↦ ([] ∷ []) ∷ [] | suc z ↦ with_top (([] ∷ []) ∷ proper_lists p.counts p.lists) ]) (suc r)
          → 0 < length (subs (elim q as (λ z. Solid) [ zero ↦ ([] ∷ []) ∷ [] | suc z ↦ with_top (([] ∷ []) ∷ proper_lists p.counts p.lists) ]) (suc r) e)
      go zero h = absurd (omega arith)
      go (suc q) h = filled_in (rest ++ (crowned ∷ [])) more_filled r e h

  -- The rank of the solid's top is R.
  rank-of : top (solid_of p) ≡ p.rank
  unfolding solid_of under proper_lists
  rank-of = go p.rank refl
    where
      tall : (counts : List ℕ) → p.counts ≡ counts → (r : ℕ) → p.rank ≡ suc r → suc (length (proper_lists counts p.lists)) ≡ suc r
      tall [] q r k = let h = ap length q in omega (arith, w.counted)
      tall (c ∷ counts) q r k = let h : length p.counts ≡ suc (length counts) = ap length q in omega (arith, w.counted, sized-length counts p.lists (w.low c counts q).0)

      go : (r : ℕ) → p.rank ≡ r → top (elim r as (λ q. Solid) [ zero ↦ ([] ∷ []) ∷ [] | suc q ↦ with_top (([] ∷ []) ∷ proper_lists p.counts p.lists) ]) ≡ r
      go zero k = refl
      go (suc r) k = height (proper_lists p.counts p.lists) (proper_stack p.counts refl) ∙ tall p.counts refl r k

  -- Its vertices are the sheet's points.
  points-of : length p.points ≡ size (solid_of p) 1
  unfolding solid_of vertex_count proper_lists with_top range
  points-of = w.pointed ∙ go p.rank refl
    where
      some_points : (counts : List ℕ) → p.counts ≡ counts → (r : ℕ) → p.rank ≡ suc r → get_or counts 0 (suc r) ≡ size (with_top (([] ∷ []) ∷ proper_lists counts p.lists)) 1
      some_points [] q r k = let h : length p.counts ≡ 0 = ap length q in omega (arith, w.counted)
      some_points (c ∷ counts) q r k = sym (length-replicate c (0 ∷ []))

      go : (r : ℕ) → p.rank ≡ r → get_or p.counts 0 p.rank ≡ size (elim r as (λ q. Solid) [ zero ↦ ([] ∷ []) ∷ [] | suc q ↦ with_top (([] ∷ []) ∷ proper_lists p.counts p.lists) ]) 1
      go zero k = none p.counts refl
        where
          none : (counts : List ℕ) → p.counts ≡ counts → get_or counts 0 p.rank ≡ 0
          none [] q = k
          none (c ∷ counts) q = let h : length p.counts ≡ suc (length counts) = ap length q in absurd (omega (arith, w.counted))
      go (suc r) k = rw k (some_points p.counts refl r k)

-- ---- preflight

module _ {A B : Type 0} where
  pub bound_to : (m : Judged A) (k : A → Judged B) (y : B) → Judging.◌>>=◌ m k ≡ Ok y → (x : A) × (m ≡ Ok x) × (k x ≡ Ok y)
  unfolding Judging.◌>>=◌
  bound_to (Err why) k y e = absurd (never why y e)
  bound_to (Ok x) k y e = (x, refl, e)

  pub then_to : (m : Judged A) (k : Judged B) (y : B) → Judging.◌>>◌ m k ≡ Ok y → (x : A) × (m ≡ Ok x) × (k ≡ Ok y)
  unfolding Judging.◌>>◌
  then_to (Err why) k y e = absurd (never why y e)
  then_to (Ok x) k y e = (x, refl, e)

pub tested : (why : Refusal) (ok : Bool) (y : Unit {0}) → Judging.judge why ok ≡ Ok y → ok ≡ true
unfolding Judging.judge
tested why true y e = refl
tested why false y e = absurd (never why y e)

-- This is the solid of a sheet that was read, whatever workspaces are lent.
module _ (b : List ℕ) (p : Parsed) (e : read_sheet b ≡ Ok p) where
  pub read-rank : top (solid_of p) ≡ p.rank
  read-rank = rank-of p (whole-sheet b p e)

  -- R and D come first, 3 bits each, so D is what the three bits behind R say.
  pub read-dimension : (6 ≤ 8 * length b) × (p.dimension ≡ field b 3 3)
  unfolding rank dimension
  read-dimension =
      let h = parts-read b p e in
      let at : h.dimension-at ≡ 3 = ap (λ (z : ℕ × ℕ). z.1) (field-read b 0 3 Format (λ n. leb n max_rank) (p.rank, h.dimension-at) h.rank_is).1 in
      let r = field-read b h.dimension-at 3 Format (λ n. leb n max_dimension) (p.dimension, h.counts-at) h.dimension_is in
      (rw at at r.0, ap (λ (z : ℕ × ℕ). z.0) r.1 ∙ ap (λ (n : ℕ). field b n 3) at)

  pub read_sound : Sound (solid_of p)
  read_sound = sound_of p (whole-sheet b p e)

  pub read_sizes : (r : ℕ) → r ≤ top (solid_of p) → (0 < size (solid_of p) r) × (size (solid_of p) r ≤ max_count)
  read_sizes = sizes_of p (whole-sheet b p e)

  pub read_filled : (r f : ℕ) → f < size (solid_of p) (suc r) → 0 < length (subs (solid_of p) (suc r) f)
  read_filled = filled_of p (whole-sheet b p e)

-- Gives the solid of what was read.
abbrev read-solid : Parsed → Concrete
read-solid p = record { dimension = p.dimension; points = p.points; abs = solid_of p }

-- A passed preflight passed through these, and the workspace has no part in the solid.
record Through (b : List ℕ) (c : Concrete) : Type 0 where
  parsed : Parsed
  read : read_sheet b ≡ Ok parsed
  solid : read-solid parsed ≡ c
  joined : bound c.abs ≡ true
  diamonds : diamond c.abs ≡ true

through : (b : List ℕ) (words floats : ℕ) (c : Concrete) → preflight b words floats ≡ Ok c → Through b c
unfolding preflight
through b words floats c e =
    let h₁ = bound_to (read_sheet b) _ c e in
    let h₂ = bound_to (Ok (read-solid h₁.0)) _ c h₁.2 in
    let d = h₂.0 in
    let h₃ = then_to (Judging.judge Bench (roomy d.abs words floats)) _ c h₂.2 in
    let h₄ = then_to (Judging.judge Loose (bound d.abs)) _ c h₃.2 in
    let h₅ = then_to (Judging.judge Mitre (diamond d.abs)) _ c h₄.2 in
    let q = same d c h₅.2 in
    record {
      parsed = h₁.0;
      read = h₁.1;
      solid = same (read-solid h₁.0) d h₂.1 ∙ q;
      joined = subst (λ (x : Concrete). bound x.abs ≡ true) q (tested Loose _ _ h₄.1);
      diamonds = subst (λ (x : Concrete). diamond x.abs ≡ true) q (tested Mitre _ _ h₅.1);
    }

-- One sheet has one solid, whatever workspaces are lent.
pub one-solid : (b : List ℕ) (words floats words' floats' : ℕ) (c d : Concrete) → preflight b words floats ≡ Ok c → preflight b words' floats' ≡ Ok d → c ≡ d
one-solid b words floats words' floats' c d e f =
    let t = through b words floats c e in
    let u = through b words' floats' d f in
    sym t.solid ∙ ap read-solid (same t.parsed u.parsed (sym t.read ∙ u.read)) ∙ u.solid

pub every_passed : EveryPassed
every_passed b words floats c e =
    let t = through b words floats c e in
    let p = t.parsed in
    let q = t.solid in
    let w = whole-sheet b p t.read in
    record {
      parsed = p;
      read = t.read;
      solid = ap (λ (x : Concrete). x.abs) (sym q);
      rank = subst (λ (x : Concrete). top x.abs ≡ p.rank) q (rank-of p w);
      dimension = ap (λ (x : Concrete). x.dimension) (sym q);
      same_points = ap (λ (x : Concrete). x.points) (sym q);
      tall = subst (λ (x : Concrete). top x.abs ≤ max_rank) q (rw (rank-of p w) w.tall);
      wide = subst (λ (x : Concrete). x.dimension ≤ max_dimension) q w.wide;
      sizes = subst (λ (x : Concrete). (r : ℕ) → r ≤ top x.abs → (0 < size x.abs r) × (size x.abs r ≤ max_count)) q (sizes_of p w);
      coordinates = subst (λ (x : Concrete). (v : List Float) → In v x.points → (length v ≡ x.dimension) × ((y : Float) → In y v → in_range y ≡ true)) q w.coordinates;
      filled = subst (λ (x : Concrete). (r e : ℕ) → e < size x.abs (suc r) → 0 < length (subs x.abs (suc r) e)) q (filled_of p w);
      sound = subst (λ (x : Concrete). Sound x.abs) q (sound_of p w);
      points = subst (λ (x : Concrete). length x.points ≡ size x.abs 1) q (points-of p w);
      joined = t.joined;
      diamonds = t.diamonds;
    }
