-- This file has all that comes after R and D, and the whole sheet.
-- Assumes nothing.
use Rattle.std.specs.Prelude.{Err, Ok}
use mathlib.Core.Path.{◌≡◌, refl, sym, ◌∙◌, ap}
use mathlib.Core.Logic.{inl, inr}
use Prim.Native.Nat.{ℕ, zero, suc, ◌+◌, ◌-◌, ◌*◌, ◌≤◌, ◌<◌, zero-le}
use native.Mathlib.Omega.{arith}
use mathlib.Core.List.{List, [], ◌∷◌, ◌++◌}
use lib.ListN.{get_or, take, replicate}
use lib.Seq.{take_at}
use lib.Dec.{leb}
use lib.Ieee.{Float}
use borrow.Author.Tests.{le-leb, lt-leb}
use Rattle.spec.specs.declared.Refusal.{Refusal}
use Rattle.spec.specs.declared.Refusal.TheVariants.{Format}
use Rattle.spec.specs.Limits.{max_rank, max_dimension, max_count}
use Rattle.spec.specs.Lists.{In}
use Rattle.spec.specs.Judged.{Judged}
use Rattle.laws.proofs.Accepted.{same, times-read, times-each, count-read}
use Rattle.spec.specs.Sheet.{Parsed, Reader, ◌>>=◌, ◌>>◌, done, times, bits, count, coordinate, lists, end, vertex_count, rank, dimension, sheet, read_sheet}
use Rattle.sheet.specs.declared.Header.{Header}
use Rattle.sheet.specs.declared.CountsRead.{CountsRead}
use Rattle.sheet.specs.Judge.{padded, all_entries, map_ok, header_of}
use Rattle.sheet.specs.Reading.{ends_at, with_bit, kept, counts_read, body_at, rest_at}
use Rattle.sheet.proofs.Readers.{kept-refused, kept-passed, stop, on, stop_too, on_too, judged_bad, judged_good, counts-size}

-- ---- the counts

pub padded_small : (m k : ℕ) (l : List ℕ) → ((x : ℕ) → In x l → x ≤ m) → (j : ℕ) → get_or (l ++ replicate k 0) j 0 ≤ m
padded_small m zero [] h j = zero-le
padded_small m (suc k) [] h zero = zero-le
padded_small m (suc k) [] h (suc j) = padded_small m k [] h j
padded_small m k (x ∷ l) h zero = h x (inl refl)
padded_small m k (x ∷ l) h (suc j) = padded_small m k l (λ y i. h y (inr i)) j

vertices_small : (R : ℕ) (l : List ℕ) → R ≤ max_rank → ((x : ℕ) → In x l → x ≤ max_count) → vertex_count R l ≤ max_count
unfolding vertex_count
vertices_small R [] g h = omega arith
vertices_small R (x ∷ l) g h = h x (inl refl)

-- The counts that were read are a list l, which tells the array and the sum.
module _ (b : List ℕ) (R i : ℕ) {r : CountsRead} {p : ℕ} (e : Ok (r, p) ≡ kept counts_read (times (R - 1) (count b)) i) where
  abbrev known : (l : List ℕ) × (times (R - 1) (count b) i ≡ Ok (l, p)) × (r ≡ counts_read l)
  known = kept-passed counts_read (times (R - 1) (count b)) i e

  each : (y : ℕ) → In y known.0 → y ≤ max_count
  each y m = (times-each (λ n. (0 < n) × (n ≤ max_count)) (count b) (count-read b) (R - 1) i (known.0, p) known.1 y m).1

  pub counts-near : p ≡ i + 12 * (R - 1)
  counts-near = counts-size b (R - 1) i (known.0, p) known.1

  pub counts_taken : take (R - 1) r.counts ≡ known.0
  unfolding padded
  counts_taken = ap (λ (z : CountsRead). take (R - 1) z.counts) known.2 ∙ take_at known.0 _ (R - 1) (times-read (R - 1) (count b) i (known.0, p) known.1)

  pub counts_small : (k : ℕ) → get_or (take (R - 1) r.counts) k 0 ≤ max_count
  counts_small k = rw counts_taken (small_at known.0 each k)
    where
      small_at : (l : List ℕ) → ((y : ℕ) → In y l → y ≤ max_count) → (k : ℕ) → get_or l k 0 ≤ max_count
      small_at [] h k = zero-le
      small_at (x ∷ l) h zero = h x (inl refl)
      small_at (x ∷ l) h (suc k) = small_at l (λ y m. h y (inr m)) k

  pub counts-vertices : R ≤ max_rank → vertex_count R (take (R - 1) r.counts) ≤ max_count
  counts-vertices tall = rw counts_taken (vertices_small R known.0 tall each)

-- ---- the header that the counts and the body's entries make

abbrev pub header_with : ℕ → ℕ → CountsRead → ℕ → Header
header_with R D r u = record { rank = R; dimension = D; counts = r.counts; elements = r.elements; entries = u }

module _ (b : List ℕ) (R D : ℕ) (l : List ℕ) where
  parsed : List (List Float) → List (List (List ℕ)) → Parsed
  parsed points ls = record { rank = R; dimension = D; counts = l; points = points; lists = ls }

  abbrev made : Judged (List (List (List ℕ)) × ℕ) → Judged (Header × ℕ)
  made o = map_ok (with_bit (header_with R D (counts_read l))) (map_ok (with_bit all_entries) o)

  -- The end, the lists and the coordinates are taken from the last to the first.
  end_made : (points : List (List Float)) (ls : List (List (List ℕ))) (i : ℕ) → made ((end b >> done ls) i) ≡ kept header_of (end b >> done (parsed points ls)) i
  unfolding parsed header_of ◌>>◌ done
  end_made points ls i = go (end b i)
    where
      go : (o : Judged (Unit {0} × ℕ)) → made (elim o as (λ z. Judged (List (List (List ℕ)) × ℕ)) [ Err why ↦ Err why | Ok x ↦ Ok (ls, x.1) ])
          ≡ map_ok (with_bit header_of) (elim o as (λ z. Judged (Parsed × ℕ)) [ Err why ↦ Err why | Ok x ↦ Ok (parsed points ls, x.1) ])
      go (Err why) = refl
      go (Ok x) = refl

  lists_made : (points : List (List Float)) (i : ℕ) → made ((lists b l >>= λ ls. end b >> done ls) i) ≡ kept header_of (lists b l >>= λ ls. end b >> done (parsed points ls)) i
  lists_made points i = go (lists b l i) refl
    where
      go : (o : Judged (List (List (List ℕ)) × ℕ)) → lists b l i ≡ o → made ((lists b l >>= λ ls. end b >> done ls) i) ≡ kept header_of (lists b l >>= λ ls. end b >> done (parsed points ls)) i
      go (Err why) e = ap made (stop (lists b l) i (λ ls. end b >> done ls) e) ∙ sym (ap (map_ok (with_bit header_of)) (stop (lists b l) i (λ ls. end b >> done (parsed points ls)) e))
      go (Ok x) e =
          ap made (on (lists b l) i (λ ls. end b >> done ls) e) ∙ end_made points x.0 x.1
          ∙ sym (ap (map_ok (with_bit header_of)) (on (lists b l) i (λ ls. end b >> done (parsed points ls)) e))

  body_made : (i : ℕ) → made (body_at b (vertex_count R l) D l i) ≡ kept header_of (times (vertex_count R l) (times D (coordinate b)) >>= λ points. lists b l >>= λ ls. end b >> done (parsed points ls)) i
  unfolding body_at
  body_made i = go (m i) refl
    where
      m : Reader (List (List Float))
      m = times (vertex_count R l) (times D (coordinate b))

      k : List (List Float) → Reader Parsed
      k points = lists b l >>= λ ls. end b >> done (parsed points ls)

      go : (o : Judged (List (List Float) × ℕ)) → m i ≡ o → made (body_at b (vertex_count R l) D l i) ≡ kept header_of (m >>= k) i
      go (Err why) e = ap made (stop_too m i (lists b l >>= λ ls. end b >> done ls) e) ∙ sym (ap (map_ok (with_bit header_of)) (stop m i k e))
      go (Ok x) e = ap made (on_too m i (lists b l >>= λ ls. end b >> done ls) e) ∙ lists_made x.0 x.1 ∙ sym (ap (map_ok (with_bit header_of)) (on m i k e))

-- ---- all that comes after R and D

module _ (b : List ℕ) (R D i : ℕ) where
  after-counts : List ℕ → Reader Parsed
  after-counts l = times (vertex_count R l) (times D (coordinate b)) >>= λ points. lists b l >>= λ ls. end b >> done (parsed b R D l points ls)

  pub rest_refuses : {why : Refusal} → Err why ≡ kept counts_read (times (R - 1) (count b)) i → Err why ≡ kept header_of (rest_at b R D) i
  unfolding rest_at
  rest_refuses e = sym (ap (map_ok (with_bit header_of)) (stop (times (R - 1) (count b)) i _ (kept-refused counts_read (times (R - 1) (count b)) i e)))

  -- The body's answer makes the header.
  pub rest_told : {r : CountsRead} {p : ℕ} → Ok (r, p) ≡ kept counts_read (times (R - 1) (count b)) i
      → {o : Judged (ℕ × ℕ)} → o ≡ kept all_entries (body_at b (vertex_count R (take (R - 1) r.counts)) D (take (R - 1) r.counts)) p
      → map_ok (with_bit (header_with R D r)) o ≡ kept header_of (rest_at b R D) i
  unfolding rest_at after-counts parsed
  rest_told {r} {p} e q =
      let k = kept-passed counts_read (times (R - 1) (count b)) i e in
      ap (map_ok (with_bit (header_with R D r))) (q ∙ ap (λ l. kept all_entries (body_at b (vertex_count R l) D l) p) (counts_taken b R i e))
      ∙ ap (λ (z : CountsRead). map_ok (with_bit (header_with R D z)) (kept all_entries (body_at b (vertex_count R k.0) D k.0) p)) k.2
      ∙ body_made b R D k.0 p
      ∙ sym (ap (map_ok (with_bit header_of)) (on (times (R - 1) (count b)) i after-counts k.1))

-- ---- the whole sheet

module _ (b : List ℕ) where
  -- A refusal of the reader is one of the sheet.
  refused_sheet : {why : Refusal} → sheet b 0 ≡ Err why → Err why ≡ map_ok header_of (read_sheet b)
  unfolding read_sheet
  refused_sheet e = rw (e, map_ok)

  after-rank : ℕ → Reader Parsed
  after-rank R = dimension b >>= λ D. rest_at b R D

  no_rank : {why : Refusal} → rank b 0 ≡ Err why → Err why ≡ map_ok header_of (read_sheet b)
  unfolding sheet after-rank rest_at
  no_rank e = refused_sheet (stop (rank b) 0 after-rank e)

  pub rank_cut : {why : Refusal} → bits b 3 0 ≡ Err why → Err why ≡ map_ok header_of (read_sheet b)
  unfolding rank
  rank_cut e = no_rank (stop (bits b 3) 0 _ e)

  module _ {R i : ℕ} (e : bits b 3 0 ≡ Ok (R, i)) where
    pub rank_high : max_rank < R → Err Format ≡ map_ok header_of (read_sheet b)
    unfolding rank
    rank_high h = no_rank (judged_bad (bits b 3) 0 Format (λ n. leb n max_rank) done e (lt-leb R max_rank h))

    module _ (h : R ≤ max_rank) where
      with_rank : sheet b 0 ≡ after-rank R i
      unfolding sheet rank after-rank rest_at done
      with_rank = on (rank b) 0 after-rank (judged_good (bits b 3) 0 Format (λ n. leb n max_rank) done e (le-leb R max_rank h))

      no_dimension : {why : Refusal} → dimension b i ≡ Err why → Err why ≡ map_ok header_of (read_sheet b)
      unfolding after-rank
      no_dimension f = refused_sheet (with_rank ∙ stop (dimension b) i (λ D. rest_at b R D) f)

      pub dimension_cut : {why : Refusal} → bits b 3 i ≡ Err why → Err why ≡ map_ok header_of (read_sheet b)
      unfolding dimension
      dimension_cut f = no_dimension (stop (bits b 3) i _ f)

      module _ {D j : ℕ} (f : bits b 3 i ≡ Ok (D, j)) where
        pub dimension_high : max_dimension < D → Err Format ≡ map_ok header_of (read_sheet b)
        unfolding dimension
        dimension_high g = no_dimension (judged_bad (bits b 3) i Format (λ n. leb n max_dimension) done f (lt-leb D max_dimension g))

        -- What the rest is read as is what the sheet is.
        pub to_rest : D ≤ max_dimension → (p : ℕ) (r : Judged Header) → ends_at p r ≡ kept header_of (rest_at b R D) j → r ≡ map_ok header_of (read_sheet b)
        unfolding dimension done after-rank read_sheet
        to_rest g p r q = go r (sheet b 0) (q ∙ sym (ap (map_ok (with_bit header_of)) (with_rank ∙ on (dimension b) i (λ D. rest_at b R D) (judged_good (bits b 3) i Format (λ n. leb n max_dimension) done f (le-leb D max_dimension g)))))
          where
            go : (r : Judged Header) (o : Judged (Parsed × ℕ)) → ends_at p r ≡ map_ok (with_bit header_of) o
                → r ≡ map_ok header_of (elim o as (λ z. Judged Parsed) [ Err why ↦ Err why | Ok x ↦ Ok x.0 ])
            go (Err why) (Err other) e = cc
            go (Err why) (Ok x) e = cc
            go (Ok h) (Err why) e = cc
            go (Ok h) (Ok x) e = ap (λ (z : Header × ℕ). Ok z.0) (same (h, p) (with_bit header_of x) e)
