-- Refusal 15 comes from no solid, and so from no call, because of all the refusals that a call can meet, 15 alone stands behind the sweeps, and these
-- always settle.
-- Assumes nothing.
use Rattle.std.specs.Prelude.{Err, None, Ok, Option, Some}
use mathlib.Core.Path.{refl, subst}
use mathlib.Core.Logic.{◌≢◌}
use Prim.Native.Nat.{ℕ, zero, suc, ◌+◌, ◌-◌, ◌*◌, ◌<◌}
use mathlib.Core.Bool.{Bool, true, false, ◌&&◌}
use mathlib.Core.List.{List, [], ◌∷◌}
use native.Mathlib.Omega.{arith}
use lib.ListN.{length, take, replicate}
use lib.Dec.{leb, ltb, eqb, lit<}
use lib.Ieee.{Float}
use Rattle.spec.specs.declared.Refusal.{Refusal}
use Rattle.spec.specs.declared.Refusal.TheVariants.{CutSheet, Format, OffTheBoard, BadList, Loose, Mitre, Bench, NotFull, DoubleCorner, Centred, Flat, Blank, ShortSheet, Open, Unsettled}
use Rattle.spec.specs.Refusal.{number, Answer, refused_with}
use Rattle.spec.specs.Bits.{field}
use Rattle.spec.specs.Lists.{holds, join, written}
use Rattle.spec.specs.Matrix.{Vector, Matrix}
use Rattle.spec.specs.Judged as Judging
use Rattle.spec.specs.Judged.{Judged}
use Rattle.spec.specs.Sheet.{Parsed, Reader, ◌>>=◌, ◌>>◌, done, judge, times, bits, rank, dimension, count, coordinate, sub_list, list, lists_at, lists, end, sheet, read_sheet, vertex_count}
use Rattle.spec.specs.Solid.{Concrete, preflight}
use Rattle.spec.specs.Classes.{by_table, class_table, types_of}
use Rattle.spec.specs.Copying.{copy_table, judge_copy, copy_out, copy_call, no_image}
use Rattle.spec.specs.Search.{Member, setting, search}
use Rattle.spec.specs.Calls.{Given, TypesOut, types_given, types_written, types_call, Room, Outcome, kept_of, outcome, members_in, rotations_in, room_of, search_written, search_call, rotations_call}
use Rattle.laws.specs.TypeLaws.{NotUnsettled, NeverUnsettled}
use Rattle.laws.proofs.Settled.{settled}

-- ---- judgements that refuse with 1 to 14 only

-- Every other refusal has a lower number than 15.
abbrev Low : Refusal → Type 0
Low why = number why < 15

abbrev LowIfRefused : {A : Type 0} → Judged A → Type 0
LowIfRefused (Err why) = Low why
LowIfRefused (Ok x) = Unit {0}

clear_bind : {A B : Type 0} (m : Judged A) (k : A → Judged B) → LowIfRefused m → ((x : A) → LowIfRefused (k x)) → LowIfRefused (Judging.◌>>=◌ m k)
unfolding Judging.◌>>=◌
clear_bind (Err why) k h f = h
clear_bind (Ok x) k h f = f x

clear-then : {A B : Type 0} (m : Judged A) (k : Judged B) → LowIfRefused m → LowIfRefused k → LowIfRefused (Judging.◌>>◌ m k)
unfolding Judging.◌>>◌
clear-then (Err why) k h f = h
clear-then (Ok x) k h f = f

clear-judge : (why : Refusal) (ok : Bool) → Low why → LowIfRefused (Judging.judge why ok)
unfolding Judging.judge
clear-judge why true h = tt
clear-judge why false h = h

clear-wanted : {A : Type 0} (why : Refusal) (o : Option A) → Low why → LowIfRefused (Judging.wanted why o)
unfolding Judging.wanted
clear-wanted why None h = h
clear-wanted why (Some a) h = tt

-- What is there is not refused at all.
clear_there : {A : Type 0} (why : Refusal) (o : Option A) → o ≢ None → LowIfRefused (Judging.wanted why o)
unfolding Judging.wanted
clear_there why None n = absurd (n refl)
clear_there why (Some a) n = tt

clear_not : {A : Type 0} (m : Judged A) → LowIfRefused m → m ≢ Err Unsettled
clear_not m h e = let k : Low Unsettled = subst LowIfRefused e h in omega arith

-- ---- reading a sheet

abbrev ClearReader : {A : Type 0} → Reader A → Type 0
ClearReader m = (i : ℕ) → LowIfRefused (m i)

module _ {A B : Type 0} where
  reads_bind : (m : Reader A) (k : A → Reader B) → ClearReader m → ((x : A) → ClearReader (k x)) → ClearReader (m >>= k)
  unfolding ◌>>=◌
  reads_bind m k h f i = go (m i) (h i)
    where
      go : (o : Judged (A × ℕ)) → LowIfRefused o → LowIfRefused {A = B × ℕ} (elim o as (λ z. Judged (B × ℕ)) [ Err why ↦ Err why | Ok x ↦ k x.0 x.1 ])
      go (Err why) l = l
      go (Ok x) l = f x.0 x.1

  reads_then : (m : Reader A) (k : Reader B) → ClearReader m → ClearReader k → ClearReader (m >> k)
  unfolding ◌>>◌
  reads_then m k h f i = go (m i) (h i)
    where
      go : (o : Judged (A × ℕ)) → LowIfRefused o → LowIfRefused {A = B × ℕ} (elim o as (λ z. Judged (B × ℕ)) [ Err why ↦ Err why | Ok x ↦ k x.1 ])
      go (Err why) l = l
      go (Ok x) l = f x.1

reads_done : {A : Type 0} (a : A) → ClearReader (done a)
unfolding done
reads_done a i = tt

reads_judge : (why : Refusal) (ok : Bool) → Low why → ClearReader (judge why ok)
unfolding judge
reads_judge why true h i = tt
reads_judge why false h i = h

reads_times : {A : Type 0} (n : ℕ) (m : Reader A) → ClearReader m → ClearReader (times n m)
unfolding times
reads_times zero m h = reads_done []
reads_times (suc n) m h = reads_bind _ _ h (λ a. reads_bind _ _ (reads_times n m h) (λ l. reads_done (a ∷ l)))

module _ (b : List ℕ) where
  reads_bits : (w : ℕ) → ClearReader (bits b w)
  unfolding bits
  reads_bits w i = go (leb (i + w) (8 * length b))
    where
      go : (o : Bool) → LowIfRefused {A = ℕ × ℕ} (elim o as (λ z. Judged (ℕ × ℕ)) [ true ↦ Ok (field b i w, i + w) | false ↦ Err CutSheet ])
      go true = tt
      go false = lit< tt

  -- A field is some bits, a judgement of them, and what they stand for.
  reads_field : {A : Type 0} (w : ℕ) (why : Refusal) (ok : ℕ → Bool) (a : ℕ → A) → Low why → ClearReader (bits b w >>= (λ n. judge why (ok n) >> done (a n)))
  reads_field w why ok a h = reads_bind _ _ (reads_bits w) (λ n. reads_then _ _ (reads_judge why (ok n) h) (reads_done (a n)))

  reads_subs : (c n low : ℕ) → ClearReader (sub_list b c n low)
  unfolding sub_list
  reads_subs c zero low = reads_done []
  reads_subs c (suc n) low =
      reads_bind _ _ (reads_bits 11) (λ x. reads_then _ _ (reads_judge BadList _ (lit< tt)) (reads_bind _ _ (reads_subs c n (suc x)) (λ l. reads_done (x ∷ l))))

  reads_list : (c used : ℕ) → ClearReader (list b c used)
  unfolding list
  reads_list c used =
      reads_bind _ _ (reads_bits 12) (λ n. reads_then _ _ (reads_judge Format _ (lit< tt)) (reads_then _ _ (reads_judge BadList _ (lit< tt)) (reads_subs c n 0)))

  reads_lists-at : (c n used : ℕ) → ClearReader (lists_at b c n used)
  unfolding lists_at
  reads_lists-at c zero used = reads_done []
  reads_lists-at c (suc n) used = reads_bind _ _ (reads_list c used) (λ l. reads_bind _ _ (reads_lists-at c n (used + length l)) (λ ls. reads_done (l ∷ ls)))

  reads_lists : (counts : List ℕ) → ClearReader (lists b counts)
  unfolding lists
  reads_lists [] = reads_done []
  reads_lists (c ∷ []) = reads_done []
  reads_lists (c ∷ d ∷ counts) = reads_bind _ _ (reads_lists-at c d 0) (λ ls. reads_bind _ _ (reads_lists (d ∷ counts)) (λ more. reads_done (ls ∷ more)))

  reads_sheet : ClearReader (sheet b)
  unfolding sheet rank dimension count coordinate end
  reads_sheet =
      reads_bind _ _ (reads_field 3 Format _ _ (lit< tt)) (λ R.
      reads_bind _ _ (reads_field 3 Format _ _ (lit< tt)) (λ D.
      reads_bind _ _ (reads_times (R - 1) _ (reads_field 12 Format _ _ (lit< tt))) (λ counts.
      reads_bind _ _ (reads_times (vertex_count R counts) _ (reads_times D _ (reads_field 64 OffTheBoard _ _ (lit< tt)))) (λ points.
      reads_bind _ _ (reads_lists counts) (λ ls.
      reads_then _ _ (λ i. reads_judge CutSheet _ (lit< tt) i) (reads_done _))))))

  clear-sheet : LowIfRefused (read_sheet b)
  unfolding read_sheet
  clear-sheet = go (sheet b 0) (reads_sheet 0)
    where
      go : (o : Judged (Parsed × ℕ)) → LowIfRefused o → LowIfRefused {A = Parsed} (elim o as (λ z. Judged Parsed) [ Err why ↦ Err why | Ok x ↦ Ok x.0 ])
      go (Err why) l = l
      go (Ok x) l = tt

  clear-preflight : (words floats : ℕ) → LowIfRefused (preflight b words floats)
  unfolding preflight
  clear-preflight words floats =
      clear_bind _ _ clear-sheet (λ p.
      clear_bind _ _ tt (λ c.
      clear-then _ _ (clear-judge Bench _ (lit< tt))
      (clear-then _ _ (clear-judge Loose _ (lit< tt))
      (clear-then _ _ (clear-judge Mitre _ (lit< tt)) tt))))

-- ---- types, search, rotations

have_types : (c : Concrete) → types_of c ≢ None
unfolding types_of
have_types c = settled c.abs (by_table (class_table c))

clear-setting : (c : Concrete) → LowIfRefused (setting c)
unfolding setting
clear-setting c =
    clear-then _ _ (clear-judge NotFull _ (lit< tt))
    (clear-then _ _ (clear-judge DoubleCorner _ (lit< tt))
    (clear_bind _ _ (clear-wanted Centred _ (lit< tt)) (λ f.
    clear_bind _ _ tt (λ d.
    clear_bind _ _ (clear_there Unsettled _ (have_types d)) (λ z.
    clear_bind _ _ (clear-wanted Flat _ (lit< tt)) (λ i.
    clear-then _ _ (clear-judge Flat _ (lit< tt)) tt))))))

clear-given : (b : List ℕ) (words floats n m : ℕ) → LowIfRefused (types_given b words floats n m)
unfolding types_given
clear-given b words floats n m =
    clear_bind _ _ (clear-preflight b words floats) (λ c.
    clear_bind _ _ (clear_there Unsettled _ (have_types c)) (λ z.
    clear_bind _ _ tt (λ g.
    clear-then _ _ (clear-judge ShortSheet _ (lit< tt)) tt)))

clear-members : (b : List ℕ) (words floats : ℕ) → LowIfRefused (members_in b words floats)
unfolding members_in search
clear-members b words floats =
    clear_bind _ _ (clear-preflight b words floats) (λ c.
    clear_bind _ _ (clear_bind _ _ (clear-setting c) (λ w. tt)) (λ ms. tt))

clear-rotations : (b : List ℕ) (words floats : ℕ) → LowIfRefused (rotations_in b words floats)
unfolding rotations_in
clear-rotations b words floats = clear_bind _ _ (clear-members b words floats) (λ x. tt)

-- ---- answers

abbrev ClearAnswer : Answer → Type 0
ClearAnswer (Ok n) = Unit {0}
ClearAnswer (Err r) = Low r.why

clear-answer : (a : Answer) → ClearAnswer a → NotUnsettled a
clear-answer a h k e = let l : Low Unsettled = subst ClearAnswer e h in omega arith

types-answer : (o : Judged Given) (old : TypesOut) → LowIfRefused o → ClearAnswer (types_written o old).0
unfolding types_written
types-answer (Err why) old h = h
types-answer (Ok g) old h = tt

kept-answer : (l kept : List Member) → ClearAnswer (kept_of l kept).answer
unfolding kept_of
kept-answer [] kept = lit< tt
kept-answer (x ∷ l) kept = go (ltb (length kept) (length (x ∷ l)))
  where
    go : (b : Bool) → ClearAnswer (elim b as (λ z. Outcome) [ true ↦ record { answer = refused_with ShortSheet (length kept); members = kept } | false ↦ record { answer = Ok (length kept); members = kept } ]).answer
    go true = lit< tt
    go false = tt

found-answer : (o : Judged (Concrete × List Member)) (m : Room) → LowIfRefused o → ClearAnswer (outcome o m).answer
unfolding outcome
found-answer (Err why) m h = h
found-answer (Ok x) m h = kept-answer x.1 _

-- ---- copying

clear_copying : (d : ℕ) (ps ts : List Float) → LowIfRefused (judge_copy d ps ts)
unfolding judge_copy
clear_copying d ps ts =
    clear-then _ _ (clear-judge Format _ (lit< tt))
    (clear-then _ _ (clear-judge CutSheet _ (lit< tt))
    (clear-then _ _ (clear-judge OffTheBoard _ (lit< tt)) (clear-judge Blank _ (lit< tt))))

abbrev CopySettles : Type 0
CopySettles = Answer × List Float × List ℕ

copy-out : (n : ℕ) (ms : List Matrix) (cs : List Vector) (out_points : List Float) (out_table : List ℕ) → ClearAnswer (copy_out n ms cs out_points out_table).0
unfolding copy_out
copy-out n ms cs out_points out_table = go (leb (length cs) n && leb (length ms * length cs) (length out_table)) (holds eqb (length cs) (copy_table ms cs))
  where
    go : (a c : Bool) → ClearAnswer (elim a as (λ z. CopySettles) [
      | false ↦ (refused_with ShortSheet (length (take n cs)), written (join (take n cs)) out_points, out_table)
      | true ↦ elim c as (λ z. CopySettles) [
        | true ↦ (refused_with Open (length (take n cs)), written (join (take n cs)) out_points, written (replicate (length ms * length cs) no_image) out_table)
        | false ↦ (Ok (length cs), written (join (take n cs)) out_points, written (copy_table ms cs) out_table)
      ]
    ]).0
    go false c = lit< tt
    go true true = lit< tt
    go true false = tt

copy-answer : (o : Judged (Unit {0})) (out_points : List Float) (out_table : List ℕ) (x : CopySettles) → LowIfRefused o → ClearAnswer x.0
    → ClearAnswer (elim o as (λ z. CopySettles) [ Err why ↦ (refused_with why 0, out_points, out_table) | Ok u ↦ x ]).0
copy-answer (Err why) out_points out_table x h k = h
copy-answer (Ok u) out_points out_table x h k = k

pub never_unsettled : NeverUnsettled
unfolding types_call search_call rotations_call search_written copy_call
never_unsettled = record {
  settles = settled;
  types = have_types;
  searching = λ c. clear_not (setting c) (clear-setting c);
  types-call = λ b words floats old. clear-answer _ (types-answer _ old (clear-given b words floats (length old.elements) (length old.types)));
  search-call = λ b words floats old. clear-answer _ (found-answer _ (room_of old) (clear-members b words floats));
  rotations-call = λ b words floats old. clear-answer _ (found-answer _ (room_of old) (clear-rotations b words floats));
  copy-call = λ d ps ts out_points out_table. clear-answer _ (copy-answer (judge_copy d ps ts) out_points out_table _ (clear_copying d ps ts) (copy-out _ _ _ out_points out_table));
}
