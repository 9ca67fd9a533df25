-- Each turn of the loops keeps "what is left gives what the whole gives", which is w: a turn that reads on keeps it, one that refuses ends with it,
-- and so does the loop's end.
-- Assumes nothing.
use Rattle.std.specs.Prelude.{Err, Ok}
use mathlib.Core.Path.{◌≡◌, refl, sym, ◌∙◌, ap, subst}
use Prim.Native.Nat.{ℕ, zero, suc, ◌+◌, ◌-◌, ◌*◌, ◌≤◌, ◌<◌}
use native.Mathlib.Nat.{sub-zero, zero-sub, add-zero, zero-add, add_assoc}
use native.Mathlib.Numerals.{add-one}
use native.Mathlib.Omega.{arith}
use mathlib.Core.Logic.{◌⊎◌}
use mathlib.Core.List.{List, [], ◌∷◌, ◌++◌}
use lib.ListN.{length, get_or, set, replicate, take, drop, length-drop, take-append-drop}
use lib.Seq.{sets, sets-eq, drop-cons, set-append_left}
use lib.Dec.{lit≤}
use Rattle.spec.specs.declared.Refusal.{Refusal}
use Rattle.spec.specs.declared.Refusal.TheVariants.{BadList}
use Rattle.spec.specs.Lists.{sum}
use Rattle.spec.specs.Judged.{Judged}
use Rattle.spec.specs.Limits.{max_entries}
use Rattle.spec.specs.Sheet.{Reader, done, times, bits, sub_list, list, lists_at, lists}
use Rattle.sheet.specs.declared.CountsRead.{CountsRead}
use Rattle.sheet.specs.declared.Cursor.{Cursor}
use Rattle.sheet.specs.Judge.{proper, padded, rank_entries, all_entries, map_ok}
use Rattle.sheet.specs.Reading.{ends_at, with_bit, kept, forgotten, counts_read, CursorReads}
use Rattle.sheet.proofs.Readers.{kept-refused, kept-passed, after, times_stop, times_on_lem, sub_cut, sub_bad, sub_on, rank_stop, rank_on, ranks_stop, ranks_on, list-size, rank-size}

-- A refusal is all that is read, wherever the cursor stands then.
pub refuses : {A : Type 0} {m : Reader A} {before after : Cursor} {r : Judged A} {why : Refusal} → r ≡ Err why → Err why ≡ m before.at → after.sheet.now ≡ before.sheet.now
    → CursorReads m before after r
refuses {after = after} e q s = record { value = ap (ends_at after.at) e ∙ q; sheet = s }

-- One turn less is left.
less : (n k : ℕ) → k < n → n - k ≡ suc (n - (k + 1))
less n k h = omega arith

none : (n k : ℕ) → n ≤ k → n - k ≡ 0
none n k h = omega arith

-- What is kept as f of a list, and as g of the rest of it, is the same.
pub map_after : {A B : Type 0} (f g : List A → B) (a : A) → ((l : List A) → f (a ∷ l) ≡ g l) → (o : Judged (List A × ℕ))
    → map_ok (with_bit f) (after a o) ≡ map_ok (with_bit g) o
unfolding after
map_after f g a h (Err why) = refl
map_after f g a h (Ok x) = ap (λ y. Ok (y, x.1)) (h x.0)

-- What is kept is the same where f and g are.
same_kept : {A B : Type 0} (f g : A → B) → ((x : A) → f x ≡ g x) → (o : Judged (A × ℕ)) → map_ok (with_bit f) o ≡ map_ok (with_bit g) o
same_kept f g h (Err why) = refl
same_kept f g h (Ok x) = ap (λ y. Ok (y, x.1)) (h x.0)

-- ---- a reading n times

module _ {A B : Type 0} (m : Reader A) (n k i : ℕ) (f : List A → B) {w : Judged (B × ℕ)} (left : kept f (times (n - k) m) i ≡ w) where
  pub times_refuses : k < n → {why : Refusal} → m i ≡ Err why → Err why ≡ w
  times_refuses h e = sym (ap (λ z. kept f (times z m) i) (less n k h) ∙ ap (map_ok (with_bit f)) (times_stop m (n - (k + 1)) i e)) ∙ left

  pub times-goes_on : k < n → {x : A × ℕ} → m i ≡ Ok x → (g : List A → B) → ((l : List A) → f (x.0 ∷ l) ≡ g l) → kept g (times (n - (k + 1)) m) x.1 ≡ w
  times-goes_on h {x} e g q =
      sym (ap (λ z. kept f (times z m) i) (less n k h) ∙ ap (map_ok (with_bit f)) (times_on_lem m (n - (k + 1)) i e) ∙ map_after f g x.0 q (times (n - (k + 1)) m x.1)) ∙ left

  pub times-ends : n ≤ k → Ok (f [], i) ≡ w
  unfolding times done
  times-ends h = sym (ap (λ z. kept f (times z m) i) (none n k h)) ∙ left

-- ---- subs

module _ (b : List ℕ) (c n k low i : ℕ) {w : Judged (Unit {0} × ℕ)} (left : kept forgotten (sub_list b c (n - k) low) i ≡ w) where
  to_turn : k < n → {o : Judged (List ℕ × ℕ)} → sub_list b c (suc (n - (k + 1))) low i ≡ o → map_ok (with_bit forgotten) o ≡ w
  to_turn h e = sym (ap (λ z. kept forgotten (sub_list b c z low) i) (less n k h) ∙ ap (map_ok (with_bit forgotten)) e) ∙ left

  pub subs_cut : k < n → {why : Refusal} → bits b 11 i ≡ Err why → Err why ≡ w
  subs_cut h e = to_turn h (sub_cut b c (n - (k + 1)) low i e)

  pub subs_bad : k < n → {x : ℕ × ℕ} → bits b 11 i ≡ Ok x → (c ≤ x.0) ⊎ (x.0 < low) → Err BadList ≡ w
  subs_bad h e f = to_turn h (sub_bad b c (n - (k + 1)) low i e f)

  pub subs_go_on : k < n → {x : ℕ × ℕ} → bits b 11 i ≡ Ok x → x.0 < c → low ≤ x.0 → kept forgotten (sub_list b c (n - (k + 1)) (x.0 + 1)) x.1 ≡ w
  subs_go_on h {x} e f g =
      rw (add-one x.0) (sym (map_after forgotten forgotten x.0 (λ l. refl) (sub_list b c (n - (k + 1)) (suc x.0) x.1))
      ∙ to_turn h (sub_on b c (n - (k + 1)) low i e f g))

  pub subs-end : n ≤ k → Ok (tt, i) ≡ w
  unfolding sub_list done
  subs-end h = sym (ap (λ z. kept forgotten (sub_list b c z low) i) (none n k h)) ∙ left

-- ---- counts: those read so far stand in the array a, and their sum is e

abbrev pub counts_from : List ℕ → ℕ → ℕ → List ℕ → CountsRead
counts_from a e k l = record { counts = sets a k l; elements = e + sum l }

counts_more : (a : List ℕ) (e k x : ℕ) (l : List ℕ) → counts_from a e k (x ∷ l) ≡ counts_from (set a k x) (e + x) (k + 1) l
unfolding sum
counts_more a e k x l = rw (add-one, add_assoc e x (sum l))

-- The part of the array that is filled has n cells, and zeros stand behind it.
abbrev pub among : ℕ → List ℕ → List ℕ
among n cells = cells ++ drop n (replicate proper 0)

pub among_first : (n : ℕ) → among n (take n (replicate proper 0)) ≡ replicate proper 0
among_first n = take-append-drop n (replicate proper 0)

pub among_more : (n e k x : ℕ) (cells l : List ℕ) → k < length cells → counts_from (among n cells) e k (x ∷ l) ≡ counts_from (among n (set cells k x)) (e + x) (k + 1) l
among_more n e k x cells l h =
    counts_more (among n cells) e k x l ∙ ap (λ z. counts_from z (e + x) (k + 1) l) (set-append_left cells (drop n (replicate proper 0)) k x h)

pub counts_done : (a : List ℕ) (e k : ℕ) → record { counts = a; elements = e } ≡ counts_from a e k []
unfolding sum
counts_done a e k = rw add-zero

-- The loop begins with zeros, and with no more counts than they have room for.
drop_replicate : {A : Type 0} (n k : ℕ) (a : A) → drop k (replicate n a) ≡ replicate (n - k) a
drop_replicate n zero a = rw sub-zero
drop_replicate zero (suc k) a = rw zero-sub
drop_replicate (suc n) (suc k) a = let e : suc n - suc k ≡ n - k = omega arith in drop_replicate n k a ∙ rw e

pub filled : (l : List ℕ) → length l ≤ proper → sets (replicate proper 0) 0 l ≡ padded l
unfolding padded
filled l h = sets-eq l (replicate proper 0) 0 (rw zero-add h) ∙ rw (zero-add (length l), drop_replicate {A = ℕ} proper (length l) 0)

pub counts-begin : (o : Judged (List ℕ × ℕ)) → ((x : List ℕ × ℕ) → o ≡ Ok x → length x.0 ≤ proper)
    → map_ok (with_bit (counts_from (replicate proper 0) 0 0)) o ≡ map_ok (with_bit counts_read) o
counts-begin (Err why) f = refl
counts-begin (Ok x) f = rw (zero-add (sum x.0), filled x.0 (f x refl))

-- ---- lists: those read so far have e entries

abbrev pub more : {A : Type 0} → ℕ → (A → ℕ) → A → ℕ
more e f x = e + f x

pub none_before : {A : Type 0} (f : A → ℕ) (m : Reader A) (i : ℕ) → kept (more 0 f) m i ≡ kept f m i
none_before f m i = same_kept (more 0 f) f (λ x. zero-add (f x)) (m i)

rank_more : (e : ℕ) (l : List ℕ) (ls : List (List ℕ)) → more e rank_entries (l ∷ ls) ≡ more (e + length l) rank_entries ls
unfolding rank_entries sum
rank_more e l ls = rw (add_assoc e (length l) (rank_entries ls))

all_more : (e : ℕ) (ls : List (List ℕ)) (rs : List (List (List ℕ))) → more e all_entries (ls ∷ rs) ≡ more (e + rank_entries ls) all_entries rs
unfolding all_entries sum
all_more e ls rs = rw (add_assoc e (rank_entries ls) (all_entries rs))

-- This is the loop over the lists of a rank.
module _ (b : List ℕ) (c n k used i : ℕ) {w : Judged (ℕ × ℕ)} (left : kept (more used rank_entries) (lists_at b c (n - k) used) i ≡ w) where
  turned : k < n → {o : Judged (List (List ℕ) × ℕ)} → lists_at b c (suc (n - (k + 1))) used i ≡ o → map_ok (with_bit (more used rank_entries)) o ≡ w
  turned h e = sym (ap (λ z. kept (more used rank_entries) (lists_at b c z used) i) (less n k h) ∙ ap (map_ok (with_bit (more used rank_entries))) e) ∙ left

  pub rank_refuses : k < n → {why : Refusal} → Err why ≡ kept length (list b c used) i → Err why ≡ w
  rank_refuses h e = turned h (rank_stop b c (n - (k + 1)) used i (kept-refused length (list b c used) i e))

  pub rank-goes_on : k < n → {l j : ℕ} → Ok (l, j) ≡ kept length (list b c used) i → kept (more (used + l) rank_entries) (lists_at b c (n - (k + 1)) (used + l)) j ≡ w
  rank-goes_on h {l} {j} e =
      let x = kept-passed length (list b c used) i e in
      subst (λ (l : ℕ). kept (more (used + l) rank_entries) (lists_at b c (n - (k + 1)) (used + l)) j ≡ w) (sym x.2)
      (sym (map_after (more used rank_entries) (more (used + length x.0) rank_entries) x.0 (rank_more used x.0) (lists_at b c (n - (k + 1)) (used + length x.0) j))
      ∙ turned h (rank_on b c (n - (k + 1)) used i x.1))

  pub rank-ends : n ≤ k → Ok (used, i) ≡ w
  unfolding lists_at done rank_entries sum
  rank-ends h = sym (ap (λ z. kept (more used rank_entries) (lists_at b c z used) i) (none n k h) ∙ rw add-zero) ∙ left

pub list-fits : (b : List ℕ) (c used i : ℕ) {l j : ℕ} → Ok (l, j) ≡ kept length (list b c used) i → (used + l ≤ max_entries) × (j ≡ i + 12 + 11 * l)
list-fits b c used i e =
    let x = kept-passed length (list b c used) i e in
    rw x.2 (list-size b c used i _ x.1)

pub rank-fits : (b : List ℕ) (c n i : ℕ) {u j : ℕ} → Ok (u, j) ≡ kept rank_entries (lists_at b c n 0) i → (u ≤ max_entries) × (j ≡ i + 12 * n + 11 * u)
rank-fits b c n i e =
    let x = kept-passed rank_entries (lists_at b c n 0) i e in
    let s = rank-size b c n 0 i _ (lit≤ tt) x.1 in
    (omega (arith, s.0, x.2), omega (arith, s.1, x.2))

-- This is the loop over the lists of all ranks.
module _ (b l : List ℕ) (k e i : ℕ) {w : Judged (ℕ × ℕ)} (left : kept (more e all_entries) (lists b (drop (k - 1) l)) i ≡ w) where
  -- The counts that are left are those that the list holds.
  taken : (j : ℕ) → j < length l → drop j l ≡ get_or l j 0 ∷ drop (j + 1) l
  taken j h = drop-cons l j 0 h ∙ rw (add-one j)

  module _ (h : 1 ≤ k) (g : k < length l) where
    here : drop (k - 1) l ≡ get_or l (k - 1) 0 ∷ get_or l k 0 ∷ drop (k + 1) l
    here = let q : k - 1 + 1 ≡ k = omega arith in taken (k - 1) (omega arith) ∙ rw (q, taken k g)

    in_turn : {o : Judged (List (List (List ℕ)) × ℕ)} → lists b (get_or l (k - 1) 0 ∷ get_or l k 0 ∷ drop (k + 1) l) i ≡ o → map_ok (with_bit (more e all_entries)) o ≡ w
    in_turn q = sym (ap (λ z. kept (more e all_entries) (lists b z) i) here ∙ ap (map_ok (with_bit (more e all_entries))) q) ∙ left

    abbrev reads : Reader (List (List ℕ))
    reads = lists_at b (get_or l (k - 1) 0) (get_or l k 0) 0

    pub ranks_refuse : {why : Refusal} → Err why ≡ kept rank_entries reads i → Err why ≡ w
    ranks_refuse q = in_turn (ranks_stop b (get_or l (k - 1) 0) (get_or l k 0) i (drop (k + 1) l) (kept-refused rank_entries reads i q))

    pub ranks_go_on : {u j : ℕ} → Ok (u, j) ≡ kept rank_entries reads i → kept (more (e + u) all_entries) (lists b (drop (k + 1 - 1) l)) j ≡ w
    ranks_go_on {u} {j} q =
        let x = kept-passed rank_entries reads i q in
        let s : k + 1 - 1 ≡ k = omega arith in
        subst (λ (u : ℕ). kept (more (e + u) all_entries) (lists b (drop (k + 1 - 1) l)) j ≡ w) (sym x.2)
        (rw (s, taken k g)
        (sym (map_after (more e all_entries) (more (e + rank_entries x.0) all_entries) x.0 (all_more e x.0) (lists b (get_or l k 0 ∷ drop (k + 1) l) j))
        ∙ in_turn (ranks_on b (get_or l (k - 1) 0) (get_or l k 0) i (drop (k + 1) l) x.1)))

  -- One count is left at most.
  pub ranks-end : length l ≤ k → Ok (e, i) ≡ w
  unfolding lists done all_entries sum
  ranks-end h = go (drop (k - 1) l) (omega (arith, length-drop (k - 1) l)) left
    where
      go : (m : List ℕ) → length m ≤ 1 → kept (more e all_entries) (lists b m) i ≡ w → Ok (e, i) ≡ w
      go [] q p = rw add-zero at p
      go (x ∷ []) q p = rw add-zero at p
      go (x ∷ y ∷ m) q p = absurd (omega arith)
