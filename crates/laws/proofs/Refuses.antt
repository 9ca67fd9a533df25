-- What holds of every refusal that a judgement or a reading names holds of the one that it gives. So nothing that is judged before the outputs are
-- looked at, the sheet, preflight or the search, ends with 13.
-- Assumes nothing.
use Rattle.std.specs.Prelude.{Err, None, Ok, Option, Some}
use mathlib.Core.Path.{subst}
use mathlib.Core.Logic.{◌≢◌}
use Prim.Native.Nat.{ℕ, zero, suc, ◌+◌, ◌-◌, ◌*◌}
use mathlib.Core.Bool.{Bool, true, false, not}
use mathlib.Core.List.{List, [], ◌∷◌}
use lib.ListN.{length}
use lib.Dec.{leb, eqb, eqb_refl, T, T_not}
use lib.Ieee.{binary64, of_bits}
use Rattle.spec.specs.declared.Refusal.{Refusal}
use Rattle.spec.specs.declared.Refusal.TheVariants.{CutSheet, Format, OffTheBoard, BadList, Loose, Mitre, Bench, NotFull, DoubleCorner, Centred, Flat, ShortSheet, Unsettled}
use Rattle.spec.specs.Refusal.{number}
use Rattle.spec.specs.Bits.{field}
use Rattle.spec.specs.Judged as Judging
use Rattle.spec.specs.Judged.{Judged}
use Rattle.spec.specs.Sheet.{Parsed, Reader, ◌>>=◌, ◌>>◌, done, judge, times, bits, rank, dimension, count, coordinate, sub_list, list, lists_at, lists, end, sheet, read_sheet}
use Rattle.spec.specs.Solid.{Concrete, preflight}
use Rattle.spec.specs.Search.{setting, search}
use Rattle.spec.specs.Calls.{members_in, rotations_in}

module _ (P : Refusal → Type 0) where
  -- Where o is a refusal, P holds of it.
  abbrev pub Refuses : {A : Type 0} → Judged A → Type 0
  Refuses (Err why) = P why
  Refuses (Ok x) = Unit {0}

  pub by-judge : (why : Refusal) (ok : Bool) → P why → Refuses (Judging.judge why ok)
  unfolding Judging.judge
  by-judge why true h = tt
  by-judge why false h = h

  pub by-wanted : {A : Type 0} (why : Refusal) (o : Option A) → P why → Refuses (Judging.wanted why o)
  unfolding Judging.wanted
  by-wanted why None h = h
  by-wanted why (Some x) h = tt

  pub by_bind : {A B : Type 0} (m : Judged A) (k : A → Judged B) → Refuses m → ((x : A) → Refuses (k x)) → Refuses (Judging.◌>>=◌ m k)
  unfolding Judging.◌>>=◌
  by_bind (Err why) k h f = h
  by_bind (Ok x) k h f = f x

  pub by-then : {A B : Type 0} (m : Judged A) (k : Judged B) → Refuses m → Refuses k → Refuses (Judging.◌>>◌ m k)
  unfolding Judging.◌>>◌
  by-then (Err why) k h f = h
  by-then (Ok x) k h f = f

  -- ---- readings

  -- The same holds of a reading, at whatever bit it starts.
  abbrev pub Reads : {A : Type 0} → Reader A → Type 0
  Reads m = (i : ℕ) → Refuses (m i)

  read-judge : (why : Refusal) (ok : Bool) → P why → Reads (judge why ok)
  unfolding judge
  read-judge why true h i = tt
  read-judge why false h i = h

  read_done : {A : Type 0} (x : A) → Reads (done x)
  unfolding done
  read_done x i = tt

  read_bind : {A B : Type 0} (m : Reader A) (k : A → Reader B) → Reads m → ((x : A) → Reads (k x)) → Reads (m >>= k)
  unfolding ◌>>=◌
  read_bind {A} {B} m k h f i = go (m i) (h i)
    where
      go : (o : Judged (A × ℕ)) → Refuses o → Refuses {A = B × ℕ} (elim o [ Err why ↦ Err why | Ok x ↦ k x.0 x.1 ])
      go (Err why) g = g
      go (Ok x) g = f x.0 x.1

  read-then : {A B : Type 0} (m : Reader A) (k : Reader B) → Reads m → Reads k → Reads (m >> k)
  unfolding ◌>>◌
  read-then {A} {B} m k h f i = go (m i) (h i)
    where
      go : (o : Judged (A × ℕ)) → Refuses o → Refuses {A = B × ℕ} (elim o [ Err why ↦ Err why | Ok x ↦ k x.1 ])
      go (Err why) g = g
      go (Ok x) g = f x.1

  read-times : {A : Type 0} (n : ℕ) (m : Reader A) → Reads m → Reads (times n m)
  unfolding times
  read-times zero m h = read_done []
  read-times (suc n) m h = read_bind m _ h (λ x. read_bind (times n m) _ (read-times n m h) (λ l. read_done (x ∷ l)))

  -- ---- the sheet: 1 to 4

  module _ (cut : P CutSheet) (format : P Format) (board : P OffTheBoard) (bad : P BadList) (b : List ℕ) where
    read-bits : (w : ℕ) → Reads (bits b w)
    unfolding bits
    read-bits w i = go (leb (i + w) (8 * length b)) (field b i w, i + w)
      where
        go : (ok : Bool) (x : ℕ × ℕ) → Refuses {A = ℕ × ℕ} (elim ok [ true ↦ Ok x | false ↦ Err CutSheet ])
        go true x = tt
        go false x = cut

    read-rank : Reads (rank b)
    unfolding rank
    read-rank = read_bind (bits b 3) _ (read-bits 3) (λ n. read-then _ _ (read-judge Format _ format) (read_done n))

    read-dimension : Reads (dimension b)
    unfolding dimension
    read-dimension = read_bind (bits b 3) _ (read-bits 3) (λ n. read-then _ _ (read-judge Format _ format) (read_done n))

    read_count : Reads (count b)
    unfolding count
    read_count = read_bind (bits b 12) _ (read-bits 12) (λ n. read-then _ _ (read-judge Format _ format) (read_done n))

    read-coordinate : Reads (coordinate b)
    unfolding coordinate
    read-coordinate = read_bind (bits b 64) _ (read-bits 64) (λ n. read-then _ _ (read-judge OffTheBoard _ board) (read_done (of_bits binary64 n)))

    read-sub-list : (c n low : ℕ) → Reads (sub_list b c n low)
    unfolding sub_list
    read-sub-list c zero low = read_done []
    read-sub-list c (suc n) low =
        read_bind (bits b 11) _ (read-bits 11) (λ x.
        read-then _ _ (read-judge BadList _ bad) (read_bind (sub_list b c n (suc x)) _ (read-sub-list c n (suc x)) (λ l. read_done (x ∷ l))))

    read-list : (c used : ℕ) → Reads (list b c used)
    unfolding list
    read-list c used = read_bind (bits b 12) _ (read-bits 12) (λ n. read-then _ _ (read-judge Format _ format) (read-then _ _ (read-judge BadList _ bad) (read-sub-list c n 0)))

    read-lists-at : (c n used : ℕ) → Reads (lists_at b c n used)
    unfolding lists_at
    read-lists-at c zero used = read_done []
    read-lists-at c (suc n) used =
        read_bind (list b c used) _ (read-list c used) (λ l. read_bind (lists_at b c n (used + length l)) _ (read-lists-at c n (used + length l)) (λ ls. read_done (l ∷ ls)))

    read-lists : (counts : List ℕ) → Reads (lists b counts)
    unfolding lists
    read-lists [] = read_done []
    read-lists (c ∷ []) = read_done []
    read-lists (c ∷ d ∷ counts) = read_bind (lists_at b c d 0) _ (read-lists-at c d 0) (λ ls. read_bind (lists b (d ∷ counts)) _ (read-lists (d ∷ counts)) (λ more. read_done (ls ∷ more)))

    read-end : Reads (end b)
    unfolding end
    read-end i = read-judge CutSheet _ cut i

    whole : Reads (sheet b)
    unfolding sheet
    whole =
        read_bind (rank b) _ read-rank (λ R.
        read_bind (dimension b) _ read-dimension (λ D.
        read_bind (times (R - 1) (count b)) _ (read-times (R - 1) (count b) read_count) (λ counts.
        read_bind _ _ (read-times _ _ (read-times D (coordinate b) read-coordinate)) (λ points.
        read_bind (lists b counts) _ (read-lists counts) (λ ls. read-then _ _ read-end (read_done _))))))

    pub by-sheet : Refuses (read_sheet b)
    unfolding read_sheet
    by-sheet = go (sheet b 0) (whole 0)
      where
        go : (o : Judged (Parsed × ℕ)) → Refuses o → Refuses {A = Parsed} (elim o [ Err why ↦ Err why | Ok x ↦ Ok x.0 ])
        go (Err why) g = g
        go (Ok x) g = tt

-- ---- what comes before 13

-- A refusal with another number is another refusal.
pub unlike : (why other : Refusal) → T (not (eqb (number why) (number other))) → why ≢ other
unlike why other t e = T_not (eqb (number why) (number other)) t (subst (λ (o : Refusal). T (eqb (number why) (number o))) e (eqb_refl (number why)))

abbrev pub not13 : Refusal → Type 0
not13 why = why ≢ ShortSheet

-- The judgement o does not end with 13.
abbrev pub Spares : {A : Type 0} → Judged A → Type 0
Spares o = Refuses not13 o

pub spares_preflight : (b : List ℕ) (words floats : ℕ) → Spares (preflight b words floats)
unfolding preflight
spares_preflight b words floats =
    by_bind not13 (read_sheet b) _ (by-sheet not13 (unlike CutSheet ShortSheet tt) (unlike Format ShortSheet tt) (unlike OffTheBoard ShortSheet tt) (unlike BadList ShortSheet tt) b) (λ p.
    by_bind not13 (Ok _) _ tt (λ c.
    by-then not13 _ _ (by-judge not13 Bench _ (unlike Bench ShortSheet tt))
    (by-then not13 _ _ (by-judge not13 Loose _ (unlike Loose ShortSheet tt))
    (by-then not13 _ _ (by-judge not13 Mitre _ (unlike Mitre ShortSheet tt)) tt))))

pub spares_search : (c : Concrete) → Spares (search c)
unfolding search setting
spares_search c = by_bind not13 (setting c) _ settings (λ w. tt)
  where
    settings : Spares (setting c)
    settings =
        by-then not13 _ _ (by-judge not13 NotFull _ (unlike NotFull ShortSheet tt))
        (by-then not13 _ _ (by-judge not13 DoubleCorner _ (unlike DoubleCorner ShortSheet tt))
        (by_bind not13 _ _ (by-wanted not13 Centred _ (unlike Centred ShortSheet tt)) (λ f.
        by_bind not13 (Ok _) _ tt (λ d.
        by_bind not13 _ _ (by-wanted not13 Unsettled _ (unlike Unsettled ShortSheet tt)) (λ z.
        by_bind not13 _ _ (by-wanted not13 Flat _ (unlike Flat ShortSheet tt)) (λ i. by-then not13 _ _ (by-judge not13 Flat _ (unlike Flat ShortSheet tt)) tt))))))

pub spares_members : (b : List ℕ) (words floats : ℕ) → Spares (members_in b words floats)
unfolding members_in
spares_members b words floats = by_bind not13 (preflight b words floats) _ (spares_preflight b words floats) (λ c. by_bind not13 (search c) _ (spares_search c) (λ ms. tt))

pub spares_rotations : (b : List ℕ) (words floats : ℕ) → Spares (rotations_in b words floats)
unfolding rotations_in
spares_rotations b words floats = by_bind not13 (members_in b words floats) _ (spares_members b words floats) (λ x. tt)
