-- The bytes of what a sheet says are the sheet's, and whatever may be packed is read back from its bytes.
-- Assumes nothing.
use Rattle.std.specs.Prelude.{Err, Ok}
use mathlib.Core.Path.{◌≡◌, refl, sym, ◌∙◌, ap, subst}
use Prim.Native.Nat.{ℕ, zero, suc, ◌+◌, ◌-◌, ◌*◌, ◌/◌, ◌%◌, ◌^◌, ◌≤◌, ◌<◌}
use mathlib.Core.List.{List, [], ◌∷◌, ◌++◌, map}
use native.Mathlib.Nat.{pow-suc, pow-succ', div-div-eq-div-mul, div-eq_of_lt, div-one}
use native.Mathlib.Decide.{dec_lt, ℕ_discrete}
use native.Mathlib.Omega.{arith}
use lib.ListN.{length, get_or, drop, get_or-eq_default}
use lib.Seq.{get_or-drop, ext_get_or}
use lib.Ieee.{binary64, to_bits}
use Rattle.spec.specs.Lists.{join}
use Rattle.spec.specs.Bits.{bit, field}
use Rattle.spec.specs.Judged.{Judged}
use Rattle.spec.specs.Sheet.{Parsed, sheet, read_sheet}
use Rattle.spec.specs.Pack.{bits_of, point_bits, list_bits, rank_bits, pack_bits, number, bytes_from, bytes_of, pack, Bytes}
use Rattle.laws.specs.RoundTrip.{RoundTrip, PackedAllowed, ReadAllowed}
use Rattle.laws.proofs.Lists.{in_get_d, in_place}
use Rattle.laws.proofs.Accepted.{never, same}
use Rattle.laws.proofs.SheetBits.{BitsAre, BitsEnded, sheet_reads, sheet_writes}

-- ---- lists of bits

abbrev Binary : List ℕ → Type 0
Binary [] = Unit {0}
Binary (x ∷ l) = (x < 2) × Binary l

binary_join : (l m : List ℕ) → Binary l → Binary m → Binary (l ++ m)
binary_join [] m p q = q
binary_join (x ∷ l) m p q = (p.0, binary_join l m p.1 q)

binary_each : {A : Type 0} (f : A → List ℕ) → ((x : A) → Binary (f x)) → (l : List A) → Binary (join (map f l))
unfolding join
binary_each f h [] = tt
binary_each f h (x ∷ l) = binary_join (f x) (join (map f l)) (h x) (binary_each f h l)

binary_bits : (w n : ℕ) → Binary (bits_of w n)
unfolding bits_of
binary_bits zero n = tt
binary_bits (suc w) n = binary_join (bits_of w (n / 2)) (n % 2 ∷ []) (binary_bits w (n / 2)) (omega arith, tt)

binary_list : (l : List ℕ) → Binary (list_bits l)
unfolding list_bits
binary_list l = binary_join (bits_of 12 (length l)) (join (map (bits_of 11) l)) (binary_bits 12 (length l)) (binary_each (bits_of 11) (binary_bits 11) l)

binary_pack : (p : Parsed) → Binary (pack_bits p)
unfolding pack_bits point_bits rank_bits
binary_pack p =
    let ranks = binary_each rank_bits (binary_each list_bits binary_list) p.lists in
    let points = binary_each point_bits (binary_each (λ x. bits_of 64 (to_bits binary64 x)) (λ x. binary_bits 64 (to_bits binary64 x))) p.points in
    let counts = binary_each (bits_of 12) (binary_bits 12) p.counts in
    binary_join (bits_of 3 p.rank) _ (binary_bits 3 p.rank)
    (binary_join (bits_of 3 p.dimension) _ (binary_bits 3 p.dimension)
    (binary_join (join (map (bits_of 12) p.counts)) _ counts
    (binary_join (join (map point_bits p.points)) _ points ranks)))

binary_at : (l : List ℕ) → Binary l → (t : ℕ) → get_or l t 0 < 2
binary_at [] h t = omega arith
binary_at (x ∷ l) h zero = h.0
binary_at (x ∷ l) h (suc t) = binary_at l h.1 t

-- ---- the number of some bits, and its bits

half : (x s : ℕ) → x / 2 ^ suc s ≡ x / 2 ^ s / 2
half x s = ap (λ (z : ℕ). x / z) (pow-suc 2 s) ∙ sym (div-div-eq-div-mul x (2 ^ s) 2)

half-first : (x s : ℕ) → x / 2 ^ suc s ≡ x / 2 / 2 ^ s
half-first x s = ap (λ (z : ℕ). x / z) (pow-succ' 2 s) ∙ sym (div-div-eq-div-mul x 2 (2 ^ s))

number_small : (l : List ℕ) → Binary l → (i w : ℕ) → number l i w < 2 ^ w
unfolding number
number_small l h i zero = omega arith
number_small l h i (suc w) = omega (arith, number_small l h i w, binary_at l h (i + w), pow-suc 2 w)

-- Bit r of a number is read by dividing by 2 ^ s, where s bits follow it.
number_bit : (l : List ℕ) → Binary l → (i r s w : ℕ) → w ≡ r + suc s → number l i w / 2 ^ s % 2 ≡ get_or l (i + r) 0
unfolding number
number_bit l h i r s zero e = absurd (omega arith)
number_bit l h i r zero (suc w) e =
    let d = binary_at l h (i + w) in
    let q : w ≡ r = omega arith in
    rw (← q) (ap (λ (z : ℕ). z % 2) (div-one (2 * number l i w + get_or l (i + w) 0)) ∙ omega arith)
number_bit l h i r (suc s) (suc w) e =
    let d = binary_at l h (i + w) in
    let q : (2 * number l i w + get_or l (i + w) 0) / 2 ≡ number l i w = omega arith in
    rw (half-first, q) (number_bit l h i r s w (omega arith))

-- ---- bytes

bytes-length : (n : ℕ) (l : List ℕ) → length (bytes_from n l) ≡ n
unfolding bytes_from
bytes-length zero l = refl
bytes-length (suc n) l = ap suc (bytes-length n (drop 8 l))

number-drop : (a : ℕ) (l : List ℕ) (i w : ℕ) → number (drop a l) i w ≡ number l (a + i) w
unfolding number
number-drop a l i zero = refl
number-drop a l i (suc w) =
    let q : a + (i + w) ≡ a + i + w = omega arith in
    let d : get_or (drop a l) (i + w) 0 ≡ get_or l (a + i + w) 0 = get_or-drop a l (i + w) 0 ∙ ap (λ (z : ℕ). get_or l z 0) q in
    rw (number-drop a l i w, d)

bytes-at : (n : ℕ) (l : List ℕ) (k : ℕ) → k < n → get_or (bytes_from n l) k 0 ≡ number l (8 * k) 8
unfolding bytes_from
bytes-at zero l k h = absurd (omega arith)
bytes-at (suc n) l zero h = refl
bytes-at (suc n) l (suc k) h =
    let q : 8 + 8 * k ≡ 8 * suc k = omega arith in
    bytes-at n (drop 8 l) k (omega arith) ∙ number-drop 8 l (8 * k) 8 ∙ ap (λ (z : ℕ). number l z 8) q

bytes-bytes : (n : ℕ) (l : List ℕ) → Binary l → Bytes (bytes_from n l)
bytes-bytes n l h x m =
    let g = in_place 0 x (bytes_from n l) m in
    let q = bytes-at n l g.0 (rw bytes-length at g.1) in
    rw (← g.2, q) (number_small l h (8 * g.0) 8)

-- ---- the bits of a list of bytes

module _ (b : List ℕ) where
  -- The first w bits of a byte are what is left of it when s bits are dropped.
  byte_field : Bytes b → (k w s : ℕ) → k < length b → w + s ≡ 8 → field b (8 * k) w ≡ get_or b k 0 / 2 ^ s
  unfolding field bit
  byte_field y k zero s h e =
      let q : s ≡ 8 = omega arith in
      rw q (sym (div-eq_of_lt (y (get_or b k 0) (in_get_d 0 b k h))))
  byte_field y k (suc w) s h e =
      let x = get_or b k 0 in
      let f = byte_field y k w (suc s) h (omega arith) in
      let q : (8 * k + w) / 8 ≡ k = omega arith in
      let r : 7 - (8 * k + w) % 8 ≡ s = omega arith in
      rw (q, r, f, half) (omega arith)

  -- The number of a list and the field of the bytes go alike.
  number-field : (l : List ℕ) (i w : ℕ) → ((t : ℕ) → t < w → get_or l (i + t) 0 ≡ bit b (i + t)) → number l i w ≡ field b i w
  unfolding number field
  number-field l i zero h = refl
  number-field l i (suc w) h = rw (number-field l i w (λ t k. h t (omega arith)), h w (omega arith))

  zero_bit : (i w : ℕ) → field b i w ≡ 0 → (t : ℕ) → t < w → bit b (i + t) ≡ 0
  unfolding field
  zero_bit i zero e t h = absurd (omega arith)
  zero_bit i (suc w) e t h = go (ℕ_discrete t w) (zero_bit i w (omega arith) t)
    where
      go : Dec (t ≡ w) → (t < w → bit b (i + t) ≡ 0) → bit b (i + t) ≡ 0
      go (yes q) r = rw q (omega arith)
      go (no q) r = r (omega arith)

  zero_field : (i w : ℕ) → ((t : ℕ) → t < w → bit b (i + t) ≡ 0) → field b i w ≡ 0
  unfolding field
  zero_field i zero h = refl
  zero_field i (suc w) h = omega (arith, zero_field i w (λ t k. h t (omega arith)), h w (omega arith))

  pub holds-length : (l : List ℕ) (i j : ℕ) → BitsAre b i l j → i + length l ≡ j
  unfolding BitsAre
  holds-length [] i j h = omega arith
  holds-length (x ∷ l) i j h = omega (arith, holds-length l (suc i) j h.2)

  holds-most : (l : List ℕ) (i j : ℕ) → i ≤ 8 * length b → BitsAre b i l j → j ≤ 8 * length b
  unfolding BitsAre
  holds-most [] i j s h = omega arith
  holds-most (x ∷ l) i j s h = holds-most l (suc i) j h.0 h.2

  holds_at : (l : List ℕ) (i j : ℕ) → BitsAre b i l j → (t : ℕ) → t < length l → get_or l t 0 ≡ bit b (i + t)
  unfolding BitsAre
  holds_at [] i j h t k = absurd (omega arith)
  holds_at (x ∷ l) i j h zero k = let q : i + 0 ≡ i = omega arith in rw q (sym h.1)
  holds_at (x ∷ l) i j h (suc t) k = let q : i + suc t ≡ suc i + t = omega arith in rw q (holds_at l (suc i) j h.2 t (omega arith))

  holds_by : (l : List ℕ) (i : ℕ) → i + length l ≤ 8 * length b → ((t : ℕ) → t < length l → bit b (i + t) ≡ get_or l t 0) → BitsAre b i l (i + length l)
  unfolding BitsAre
  holds_by [] i s h = omega arith
  holds_by (x ∷ l) i s h =
      let q : i + 0 ≡ i = omega arith in
      let r : suc i + length l ≡ i + suc (length l) = omega arith in
      (omega arith, rw q at (h 0 (omega arith)), subst (BitsAre b (suc i) l) r (holds_by l (suc i) (omega arith) (λ t k. let z : suc i + t ≡ i + suc t = omega arith in rw z (h (suc t) (omega arith)))))

-- ---- a sheet that was read

pub sheet-of : (b : List ℕ) (p : Parsed) → read_sheet b ≡ Ok p → (j : ℕ) × (sheet b 0 ≡ Ok (p, j))
unfolding read_sheet
sheet-of b p = go (sheet b 0) refl
  where
    go : (o : Judged (Parsed × ℕ)) → sheet b 0 ≡ o → elim o as (λ z. Judged Parsed) [ Err why ↦ Err why | Ok x ↦ Ok x.0 ] ≡ Ok p → (j : ℕ) × (sheet b 0 ≡ Ok (p, j))
    go (Err why) q e = absurd (never why p e)
    go (Ok x) q e = (x.1, rw (← same x.0 p e) q)

module _ (b l : List ℕ) (j : ℕ) (h : BitsAre b 0 l j) (z : BitsEnded b j) where
  -- The bits are those of b, and 0 past their end, where b's are too.
  same_bits : (t : ℕ) → t < 8 * length b → get_or l t 0 ≡ bit b t
  same_bits t k = go (dec_lt t (length l))
    where
      go : Dec (t < length l) → get_or l t 0 ≡ bit b t
      go (yes q) = let e : 0 + t ≡ t = omega arith in rw e at (holds_at b l 0 j h t q)
      go (no q) =
          let e : j + (t - j) ≡ t = omega (arith, holds-length b l 0 j h) in
          get_or-eq_default l 0 (omega arith) ∙ sym (rw e at (zero_bit b j (8 * length b - j) z.zeros (t - j) (omega (arith, holds-length b l 0 j h))))

  -- So are the bytes.
  same_bytes : Bytes b → bytes_of l ≡ b
  unfolding bytes_of
  same_bytes y =
      let n : (length l + 7) / 8 ≡ length b = omega (arith, holds-length b l 0 j h, holds-most b l 0 j (omega arith) h, z.short) in
      let e = bytes-length ((length l + 7) / 8) l in
      ext_get_or 0 (bytes_from ((length l + 7) / 8) l) b (e ∙ n) λ k s.
      let f : k < length b = omega arith in
      bytes-at ((length l + 7) / 8) l k (omega arith)
      ∙ number-field b l (8 * k) 8 (λ t r. same_bits (8 * k + t) (omega arith))
      ∙ byte_field b y k 8 0 f refl
      ∙ div-one (get_or b k 0)

packs : (b : List ℕ) (p : Parsed) → Bytes b → read_sheet b ≡ Ok p → pack p ≡ b
unfolding pack
packs b p y e =
    let s = sheet-of b p e in
    let r = sheet_reads b (p, s.0) s.1 in
    same_bytes b (pack_bits p) s.0 r.1 r.2 y

-- Packing an accepted solid and reading it gives it back, and no other bytes read alike.
pub round_trip : RoundTrip
round_trip = record {
  packs = packs;
  again = λ b p y e. rw (packs b p y e) e;
  once = λ a b p x y e f. sym (packs a p x e) ∙ packs b p y f;
}

pub read_allowed : ReadAllowed
read_allowed b p e = let s = sheet-of b p e in (sheet_reads b (p, s.0) s.1).0

-- ---- what was packed

module _ (l : List ℕ) (h : Binary l) where
  size : length (bytes_of l) ≡ (length l + 7) / 8
  unfolding bytes_of
  size = bytes-length ((length l + 7) / 8) l

  packed_bit : (t : ℕ) → t < 8 * length (bytes_of l) → bit (bytes_of l) t ≡ get_or l t 0
  unfolding bit bytes_of
  packed_bit t s =
      let e : 8 * (t / 8) + t % 8 ≡ t = omega arith in
      ap (λ (x : ℕ). x / 2 ^ (7 - t % 8) % 2) (bytes-at ((length l + 7) / 8) l (t / 8) (omega (arith, size)))
      ∙ number_bit l h (8 * (t / 8)) (t % 8) (7 - t % 8) 8 (omega arith)
      ∙ ap (λ (z : ℕ). get_or l z 0) e

  packed_holds : BitsAre (bytes_of l) 0 l (length l)
  packed_holds =
      let e : 0 + length l ≡ length l = omega arith in
      rw e at (holds_by (bytes_of l) l 0 (omega (arith, size)) (λ t k. let q : 0 + t ≡ t = omega arith in rw q (packed_bit t (omega (arith, size)))))

  packed_ended : BitsEnded (bytes_of l) (length l)
  packed_ended = record {
    short = omega (arith, size);
    zeros = zero_field (bytes_of l) (length l) (8 * length (bytes_of l) - length l) (λ t k. packed_bit (length l + t) (omega arith) ∙ get_or-eq_default l 0 (omega arith));
  }

packed_bytes : (l : List ℕ) → Binary l → Bytes (bytes_of l)
unfolding bytes_of
packed_bytes l h = bytes-bytes ((length l + 7) / 8) l h

pub packed_allowed : PackedAllowed
unfolding read_sheet pack
packed_allowed p w =
    let h = binary_pack p in
    let q = sheet_writes (pack p) p (length (pack_bits p)) w (packed_holds (pack_bits p) h) (packed_ended (pack_bits p) h) in
    (rw (q, read_sheet), packed_bytes (pack_bits p) h)
