-- A loop that writes one cell a turn, in arrays of any width, leaves a map over the cells' numbers or over lists.
-- Assumes nothing.
use mathlib.Core.Path.{◌≡◌, refl, sym, ap, ap₂, ◌∙◌}
use mathlib.Core.List.{List, [], ◌∷◌, ◌++◌, map, map-append, map-id}
use Prim.Native.Nat.{ℕ, zero, suc, ◌+◌, ◌-◌, ◌≤◌, ◌<◌}
use native.Mathlib.Numerals.{add-one}
use native.Mathlib.Nat.{add-zero, zero-add, suc-add, sub-zero, zero-sub, suc-sub-suc}
use native.Mathlib.Omega.{arith}
use lib.ListN.{get_or, take, drop, set, length, length-set, take-append-drop, replicate}
use lib.Seq.{take_all, take-nil, take-suc-set, drop-nil, drop-set-lt, drop-drop}
use Rattle.spec.specs.Lists.{range}
use Rattle.spec.specs.Float.{zip}

pub range_snoc : {B : Type 0} (g : ℕ → B) (a n b : ℕ) → b ≡ a + n → map g (range a n) ++ (g b ∷ []) ≡ map g (range a (suc n))
unfolding range
range_snoc g a zero b e = ap (λ x. g x ∷ []) (e ∙ add-zero a)
range_snoc {B} g a (suc n) b e = ap (λ (x : List B). g a ∷ x) (range_snoc g (suc a) n b (omega arith))

-- The loop's invariant is that r is l but for its first n cells, and that what f reads of those is g's. Here f serves where a callee says only a part
-- of what it hands back.
pub record Written {A B : Type 0} (f : A → B) (g : ℕ → B) (l r : List A) (n : ℕ) : Type 0 where
  pub long : length r ≡ length l
  pub read : map f (take n r) ≡ map g (range 0 n)
  pub rest : drop n r ≡ drop n l

module _ {A B : Type 0} {f : A → B} {g : ℕ → B} {l : List A} where
  pub none : Written f g l l 0
  unfolding range
  none = record { long = refl; read = refl; rest = refl }

  pub next : {r : List A} {n : ℕ} (x : A) → n < length l → f x ≡ g n → Written f g l r n → Written f g l (set r n x) (n + 1)
  next {r} {n} x h e w = record {
    long = length-set r n x ∙ w.long;
    read =
        rw (add-one, take-suc-set r n x (omega (arith, w.long)), map-append f (take n r) (x ∷ []))
        (ap₂ (λ (y : List B) (z : B). y ++ (z ∷ [])) w.read e ∙ range_snoc g 0 n n (omega arith));
    rest = drop-set-lt (n + 1) r n x (omega arith) ∙ sym (drop-drop 1 n r) ∙ ap (drop 1) w.rest ∙ drop-drop 1 n l;
  }

  -- As the loop ends, its count is n.
  pub end : {r : List A} {i : ℕ} (n : ℕ) → i ≤ n → n ≤ i → Written f g l r i → map f (take n r) ≡ map g (range 0 n)
  end {r} {i} n p q w = let k : i ≡ n = omega arith in rw k at w.read

module _ {A : Type 0} {g : ℕ → A} {l : List A} where
  pub end_plain : {r : List A} {i : ℕ} (n : ℕ) → i ≤ n → n ≤ i → Written (λ x. x) g l r i → take n r ≡ map g (range 0 n)
  end_plain {r} n p q w = sym (map-id (take n r)) ∙ end n p q w

  -- The loop went through every cell.
  pub all : {r : List A} {i : ℕ} (n : ℕ) → length l ≡ n → i ≤ n → n ≤ i → Written (λ x. x) g l r i → r ≡ map g (range 0 n)
  all {r} {i} n h p q w = sym (take_all n r (omega (arith, w.long))) ∙ end_plain n p q w

  pub whole : {r : List A} {i : ℕ} (n : ℕ) → i ≤ n → n ≤ i → Written (λ x. x) g l r i → r ≡ map g (range 0 n) ++ drop n l
  whole {r} {i} n p q w =
      let k : i ≡ n = omega arith in
      sym (take-append-drop n r) ∙ ap₂ ◌++◌ (end_plain n p q w) (rw k at w.rest)

pub drop_replicate : {A : Type 0} (n k : ℕ) (x : A) → drop n (replicate k x) ≡ replicate (k - n) x
drop_replicate zero k x = rw sub-zero
drop_replicate (suc n) zero x = rw zero-sub
drop_replicate (suc n) (suc k) x = drop_replicate n k x ∙ rw suc-sub-suc

module _ {A : Type 0} where
  pub take_replicate : (d n : ℕ) (x : A) → d ≤ n → take d (replicate n x) ≡ replicate d x
  take_replicate zero n x h = refl
  take_replicate (suc d) zero x h = absurd (omega arith)
  take_replicate (suc d) (suc n) x h = ap (λ (z : List A). x ∷ z) (take_replicate d n x (omega arith))

  pub drop-take : (d n : ℕ) (l : List A) → drop d (take (d + n) l) ≡ take n (drop d l)
  drop-take zero n l = rw zero-add
  drop-take (suc d) n [] = ap (drop (suc d)) (take-nil (suc d + n)) ∙ drop-nil (suc d) ∙ sym (take-nil n)
  drop-take (suc d) n (x ∷ l) = rw suc-add (drop-take d n l)

-- ---- a map over the cells' numbers is a map over the lists that the values come from

shift : {B : Type 0} (g : ℕ → B) (a n : ℕ) → map g (range (suc a) n) ≡ map (λ i. g (suc i)) (range a n)
unfolding range
shift g a zero = refl
shift {B} g a (suc n) = ap (λ (x : List B). g (suc a) ∷ x) (shift g (suc a) n)

pub table_map : {A B : Type 0} (f : A → B) (x : A) (l : List A) (n : ℕ) → n ≤ length l →
    map (λ i. f (get_or l i x)) (range 0 n) ≡ map f (take n l)
unfolding range
table_map f x l zero h = refl
table_map f x [] (suc n) h = absurd (omega arith)
table_map {B = B} f x (y ∷ l) (suc n) h =
    ap (λ (z : List B). f y ∷ z) (shift (λ i. f (get_or (y ∷ l) i x)) 0 n ∙ table_map f x l n (omega arith))

pub table_zip : {A B C : Type 0} (f : A → B → C) (x : A) (y : B) (a : List A) (b : List B) (n : ℕ) → n ≤ length a → n ≤ length b →
    map (λ i. f (get_or a i x) (get_or b i y)) (range 0 n) ≡ zip f (take n a) (take n b)
unfolding range zip
table_zip f x y a b zero h k = refl
table_zip f x y [] b (suc n) h k = absurd (omega arith)
table_zip f x y (u ∷ a) [] (suc n) h k = absurd (omega arith)
table_zip {C = C} f x y (u ∷ a) (v ∷ b) (suc n) h k =
    ap (λ (z : List C). f u v ∷ z) (shift (λ i. f (get_or (u ∷ a) i x) (get_or (v ∷ b) i y)) 0 n ∙ table_zip f x y a b n (omega arith) (omega arith))

zip_shift : {B C : Type 0} (f : ℕ → B → C) (a n : ℕ) (l : List B) → zip f (range (suc a) n) l ≡ zip (λ i. f (suc i)) (range a n) l
unfolding range zip
zip_shift f a zero l = refl
zip_shift f a (suc n) [] = refl
zip_shift {C = C} f a (suc n) (y ∷ l) = ap (λ (z : List C). f (suc a) y ∷ z) (zip_shift f (suc a) n l)

-- The same holds with the cell's number as an argument.
pub table_count : {B C : Type 0} (f : ℕ → B → C) (y : B) (l : List B) (n : ℕ) → n ≤ length l →
    map (λ i. f i (get_or l i y)) (range 0 n) ≡ zip f (range 0 n) (take n l)
unfolding range zip
table_count f y l zero h = refl
table_count f y [] (suc n) h = absurd (omega arith)
table_count {C = C} f y (x ∷ l) (suc n) h =
    ap
    (λ (z : List C). f 0 x ∷ z)
    (shift (λ i. f i (get_or (x ∷ l) i y)) 0 n ∙ table_count (λ i. f (suc i)) y l n (omega arith) ∙ sym (zip_shift f 0 n (take n l)))

-- A list is copied into an array of k equal cells.
pub copied : {A : Type 0} (p r : List A) (x z : A) (k i n : ℕ) → n ≤ length p → i ≤ n → n ≤ i → Written (λ y. y) (λ j. get_or p j x) (replicate k z) r i →
    r ≡ take n p ++ replicate (k - n) z
copied p r x z k i n h a b w =
    whole n a b w ∙ ap₂ ◌++◌ (table_map (λ y. y) x p n h ∙ map-id (take n p)) (drop_replicate n k z)
