-- The readers of section 2 go one field at a time.
-- Assumes nothing.
use Rattle.std.specs.Prelude.{Err, Ok, IsErrAnd}
use mathlib.Core.Path.{◌≡◌, refl, sym, ◌∙◌, ap, subst}
use Prim.Native.Nat.{ℕ, zero, suc, ◌+◌, ◌*◌, ◌/◌, ◌^◌, ◌≤◌, ◌<◌}
use native.Mathlib.Nat.{add-zero, add_comm, add_assoc, mul-zero, mul-suc, le_trans, le_of_eq}
use native.Mathlib.Omega.{arith}
use mathlib.Core.Logic.{◌⊎◌, inl, inr}
use mathlib.Core.Bool.{Bool, true, false, ◌&&◌}
use mathlib.Core.List.{List, [], ◌∷◌}
use lib.ListN.{length, get_or}
use lib.Dec.{leb, ltb, lit≤}
use borrow.Author.Tests.{lt-ltb, le-ltb, le-leb, lt-leb, leb-true}
use lib.Ieee.{Float, binary64, of_bits}
use Rattle.spec.specs.declared.Refusal.{Refusal}
use Rattle.spec.specs.declared.Refusal.TheVariants.{CutSheet, Format, OffTheBoard, BadList}
use Rattle.spec.specs.Limits.{max_count, max_entries}
use Rattle.spec.specs.Float.{in_range}
use Rattle.spec.specs.Lists.{sum}
use Rattle.spec.specs.Bits.{field}
use Rattle.spec.specs.Judged.{Judged}
use Rattle.laws.proofs.Accepted.{never, same, bound_by, judged}
use Rattle.laws.proofs.Accepted as accepted
use Rattle.spec.specs.Sheet.{Reader, ◌>>=◌, ◌>>◌, done, judge, times, bits, count, coordinate, sub_list, list, lists_at, lists}
use Rattle.sheet.specs.Judge.{rank_entries, map_ok}
use Rattle.sheet.specs.Reading.{with_bit, kept}
use Rattle.sheet.proofs.Fields.{field_lt}

-- ---- what is kept of a judgement tells the judgement

module _ {A B : Type 0} (f : A → B) where
  pub refused_of : {why : Refusal} (o : Judged A) → Err why ≡ map_ok f o → o ≡ Err why
  refused_of (Err y) e = cc
  refused_of (Ok x) e = cc

  pub passed_of : {y : B} (o : Judged A) → Ok y ≡ map_ok f o → (x : A) × (o ≡ Ok x) × (y ≡ f x)
  passed_of {y} (Err why) e = absurd (never why y (sym e))
  passed_of (Ok x) e = (x, refl, cc)

-- So does what is kept of a reading.
module _ {A B : Type 0} (f : A → B) (m : Reader A) (i : ℕ) where
  pub kept-refused : {why : Refusal} → Err why ≡ kept f m i → m i ≡ Err why
  kept-refused e = refused_of (with_bit f) (m i) e

  pub kept-passed : {y : B} {j : ℕ} → Ok (y, j) ≡ kept f m i → (x : A) × (m i ≡ Ok (x, j)) × (y ≡ f x)
  kept-passed e =
      let x = passed_of (with_bit f) (m i) e in
      (x.0.0, x.1 ∙ ap (λ (j : ℕ). Ok (x.0.0, j)) (sym (ap (λ (z : B × ℕ). z.1) x.2)), ap (λ (z : B × ℕ). z.0) x.2)

-- What `?` returns is the refusal that it meets.
pub stopped_by : {B : Type 0} {why : Refusal} (r : Judged B) → IsErrAnd r (λ y. y ≡ why) → r ≡ Err why
stopped_by (Ok x) h = absurd h
stopped_by (Err y) h = ap Err h

-- ---- one reading and then another

module _ {A B : Type 0} (m : Reader A) (i : ℕ) where
  pub stop : (k : A → Reader B) {why : Refusal} → m i ≡ Err why → (m >>= k) i ≡ Err why
  unfolding ◌>>=◌
  stop k e = rw (e, ◌>>=◌)

  pub on : (k : A → Reader B) {x : A × ℕ} → m i ≡ Ok x → (m >>= k) i ≡ k x.0 x.1
  unfolding ◌>>=◌
  on k e = rw (e, ◌>>=◌)

  -- The value that was read does not matter here.
  pub stop_too : (k : Reader B) {why : Refusal} → m i ≡ Err why → (m >> k) i ≡ Err why
  unfolding ◌>>◌
  stop_too k e = rw (e, ◌>>◌)

  pub on_too : (k : Reader B) {x : A × ℕ} → m i ≡ Ok x → (m >> k) i ≡ k x.1
  unfolding ◌>>◌
  on_too k e = rw (e, ◌>>◌)

-- What was read before a list joins it.
unfoldable pub after : {A : Type 0} → A → Judged (List A × ℕ) → Judged (List A × ℕ)
after a (Err why) = Err why
after a (Ok x) = Ok (a ∷ x.0, x.1)

then-after : {A : Type 0} (r : Reader (List A)) (a : A) (i : ℕ) → (r >>= λ l. done (a ∷ l)) i ≡ after a (r i)
unfolding ◌>>=◌ done after
then-after {A = A} r a i = go (r i)
  where
    go : (o : Judged (List A × ℕ)) → elim o as (λ z. Judged (List A × ℕ)) [ Err why ↦ Err why | Ok x ↦ Ok (a ∷ x.0, x.1) ] ≡ after a o
    go (Err why) = refl
    go (Ok x) = refl

-- ---- a field

module _ (b : List ℕ) (w i : ℕ) where
  -- It is whole by as many bytes as its last bit needs.
  pub bits_cut : length b < (i + w + 7) / 8 → bits b w i ≡ Err CutSheet
  unfolding bits
  bits_cut h = rw (lt-leb (i + w) (8 * length b) (omega arith), bits)

  pub bits-whole : (i + w + 7) / 8 ≤ length b → bits b w i ≡ Ok (field b i w, i + w)
  unfolding bits
  bits-whole h = rw (le-leb (i + w) (8 * length b) (omega arith), bits)

-- A reading is judged, and something comes after it.
module _ {A B : Type 0} (m : Reader A) (i : ℕ) (why : Refusal) (t : A → Bool) (k : A → Reader B) where
  pub judged_bad : {x : A × ℕ} → m i ≡ Ok x → t x.0 ≡ false → (m >>= λ n. judge why (t n) >> k n) i ≡ Err why
  unfolding judge ◌>>◌
  judged_bad e f = on m i _ e ∙ rw f

  pub judged_good : {x : A × ℕ} → m i ≡ Ok x → t x.0 ≡ true → (m >>= λ n. judge why (t n) >> k n) i ≡ k x.0 x.1
  unfolding judge ◌>>◌
  judged_good e f = on m i _ e ∙ rw f

-- A test is made, and something comes after it.
module _ {B : Type 0} (why : Refusal) (k : Reader B) (i : ℕ) where
  judge_bad : (t : Bool) → t ≡ false → (judge why t >> k) i ≡ Err why
  unfolding judge ◌>>◌
  judge_bad t e = rw e

  judge_good : (t : Bool) → t ≡ true → (judge why t >> k) i ≡ k i
  unfolding judge ◌>>◌
  judge_good t e = rw e

module _ (b : List ℕ) (i : ℕ) where
  pub coordinate_cut : {why : Refusal} → bits b 64 i ≡ Err why → coordinate b i ≡ Err why
  unfolding coordinate
  coordinate_cut e = stop (bits b 64) i _ e

  pub coordinate_off : {x : ℕ × ℕ} → bits b 64 i ≡ Ok x → in_range (of_bits binary64 x.0) ≡ false → coordinate b i ≡ Err OffTheBoard
  unfolding coordinate
  coordinate_off e f = judged_bad (bits b 64) i OffTheBoard (λ n. in_range (of_bits binary64 n)) _ e f

  pub coordinate_on : {x : ℕ × ℕ} → bits b 64 i ≡ Ok x → in_range (of_bits binary64 x.0) ≡ true → coordinate b i ≡ Ok (of_bits binary64 x.0, x.1)
  unfolding coordinate done
  coordinate_on e f = judged_good (bits b 64) i OffTheBoard (λ n. in_range (of_bits binary64 n)) _ e f

  pub count_cut : {why : Refusal} → bits b 12 i ≡ Err why → count b i ≡ Err why
  unfolding count
  count_cut e = stop (bits b 12) i _ e

  pub count_bad : {x : ℕ × ℕ} → bits b 12 i ≡ Ok x → (x.0 ≡ 0) ⊎ (max_count < x.0) → count b i ≡ Err Format
  unfolding count
  count_bad {x} e f = judged_bad (bits b 12) i Format (λ n. ltb 0 n && leb n max_count) _ e (go f)
    where
      go : (x.0 ≡ 0) ⊎ (max_count < x.0) → (ltb 0 x.0 && leb x.0 max_count) ≡ false
      go (inl q) = rw q
      go (inr h) = rw (lt-ltb 0 x.0 (omega arith), lt-leb x.0 max_count h)

  pub count_on : {x : ℕ × ℕ} → bits b 12 i ≡ Ok x → (x.0 ≡ 0 → ⊥) → x.0 ≤ max_count → count b i ≡ Ok x
  unfolding count done
  count_on {x} e f g = judged_good (bits b 12) i Format (λ n. ltb 0 n && leb n max_count) _ e (rw (lt-ltb 0 x.0 (omega arith), le-leb x.0 max_count g))

-- ---- a reading again and again

module _ {A : Type 0} (m : Reader A) (n i : ℕ) where
  pub times_stop : {why : Refusal} → m i ≡ Err why → times (suc n) m i ≡ Err why
  unfolding times
  times_stop e = stop m i _ e

  pub times_on_lem : {x : A × ℕ} → m i ≡ Ok x → times (suc n) m i ≡ after x.0 (times n m x.1)
  unfolding times
  times_on_lem {x} e = on m i _ e ∙ then-after (times n m) x.0 x.1

-- ---- subs

module _ (b : List ℕ) (c n low i : ℕ) where
  pub sub_cut : {why : Refusal} → bits b 11 i ≡ Err why → sub_list b c (suc n) low i ≡ Err why
  unfolding sub_list
  sub_cut e = stop (bits b 11) i _ e

  pub sub_bad : {x : ℕ × ℕ} → bits b 11 i ≡ Ok x → (c ≤ x.0) ⊎ (x.0 < low) → sub_list b c (suc n) low i ≡ Err BadList
  unfolding sub_list
  sub_bad {x} e f = judged_bad (bits b 11) i BadList (λ x. ltb x c && leb low x) _ e (go f)
    where
      go : (c ≤ x.0) ⊎ (x.0 < low) → (ltb x.0 c && leb low x.0) ≡ false
      go (inl h) = rw (le-ltb x.0 c h)
      go (inr h) = rw (lt-leb low x.0 h) (none (ltb x.0 c))
        where
          none : (t : Bool) → (t && false) ≡ false
          none true = refl
          none false = refl

  pub sub_on : {x : ℕ × ℕ} → bits b 11 i ≡ Ok x → x.0 < c → low ≤ x.0 → sub_list b c (suc n) low i ≡ after x.0 (sub_list b c n (suc x.0) x.1)
  unfolding sub_list
  sub_on {x} e f g =
      judged_good (bits b 11) i BadList (λ x. ltb x c && leb low x) (λ x. sub_list b c n (suc x) >>= λ l. done (x ∷ l)) e (rw (lt-ltb x.0 c f, le-leb low x.0 g))
      ∙ then-after (sub_list b c n (suc x.0)) x.0 x.1

-- ---- a list

module _ (b : List ℕ) (c used i : ℕ) where
  rest : ℕ → Reader (List ℕ)
  rest n = judge BadList (ltb 0 n) >> sub_list b c n 0

  fits : ℕ → Bool
  fits n = leb (used + n) max_entries

  pub list_cut : {why : Refusal} → bits b 12 i ≡ Err why → list b c used i ≡ Err why
  unfolding list
  list_cut e = stop (bits b 12) i _ e

  module _ {x : ℕ × ℕ} (e : bits b 12 i ≡ Ok x) where
    pub list-many : max_entries < used + x.0 → list b c used i ≡ Err Format
    unfolding list rest fits
    list-many f = judged_bad (bits b 12) i Format fits rest e (lt-leb (used + x.0) max_entries f)

    module _ (f : used + x.0 ≤ max_entries) where
      to_rest : list b c used i ≡ rest x.0 x.1
      unfolding list rest fits
      to_rest = judged_good (bits b 12) i Format fits rest e (le-leb (used + x.0) max_entries f)

      pub list-empty : x.0 ≡ 0 → list b c used i ≡ Err BadList
      unfolding rest
      list-empty g = to_rest ∙ judge_bad BadList (sub_list b c x.0 0) x.1 (ltb 0 x.0) (rw g)

      pub list_on : (x.0 ≡ 0 → ⊥) → list b c used i ≡ sub_list b c x.0 0 x.1
      unfolding rest
      list_on g = to_rest ∙ judge_good BadList (sub_list b c x.0 0) x.1 (ltb 0 x.0) (lt-ltb 0 x.0 (omega arith))

-- ---- how far a passed reading goes

pub bits-size : (b : List ℕ) (w i : ℕ) (x : ℕ × ℕ) → bits b w i ≡ Ok x → x.1 ≡ i + w
unfolding bits
bits-size b w i x = go (leb (i + w) (8 * length b))
  where
    go : (t : Bool) → elim t as (λ z. Judged (ℕ × ℕ)) [ true ↦ Ok (field b i w, i + w) | false ↦ Err CutSheet ] ≡ Ok x → x.1 ≡ i + w
    go true e = ap (λ z. z.1) (sym (same (field b i w, i + w) x e))
    go false e = absurd (never CutSheet x e)

-- What was read is below 2 ^ w.
pub bits_lt : (b : List ℕ) (w i : ℕ) (x : ℕ × ℕ) → bits b w i ≡ Ok x → x.0 < 2 ^ w
unfolding bits
bits_lt b w i x = go (leb (i + w) (8 * length b))
  where
    go : (t : Bool) → elim t as (λ z. Judged (ℕ × ℕ)) [ true ↦ Ok (field b i w, i + w) | false ↦ Err CutSheet ] ≡ Ok x → x.0 < 2 ^ w
    go true e = subst (λ (z : ℕ × ℕ). z.0 < 2 ^ w) (same (field b i w, i + w) x e) (field_lt b i w)
    go false e = absurd (never CutSheet x e)

judge-size : (why : Refusal) (t : Bool) (i : ℕ) (x : Unit {0} × ℕ) → judge why t i ≡ Ok x → x.1 ≡ i
unfolding judge
judge-size why true i x e = ap (λ z. z.1) (sym (same (tt, i) x e))
judge-size why false i x e = absurd (never why x e)

-- There are as many subs as were asked for, 11 bits each.
pub sub-size : (b : List ℕ) (c n low i : ℕ) (y : List ℕ × ℕ) → sub_list b c n low i ≡ Ok y → (length y.0 ≡ n) × (y.1 ≡ i + 11 * n)
unfolding sub_list done
sub-size b c zero low i y e = subst (λ (z : List ℕ × ℕ). (length z.0 ≡ 0) × (z.1 ≡ i + 11 * 0)) (same ([], i) y e) (refl, omega arith)
sub-size b c (suc n) low i y e =
    let h₁ = bound_by (bits b 11) _ i y e in
    let x = h₁.0.0 in
    let h₂ = accepted.after (judge BadList (ltb x c && leb low x)) _ _ y h₁.2 in
    let h₃ = bound_by (sub_list b c n (suc x)) _ _ y h₂.2 in
    let r = sub-size b c n (suc x) _ h₃.0 h₃.1 in
    let p = bits-size b 11 i h₁.0 h₁.1 in
    let q = judge-size BadList (ltb x c && leb low x) h₁.0.1 h₂.0 h₂.1 in
    subst (λ (z : List ℕ × ℕ). (length z.0 ≡ suc n) × (z.1 ≡ i + 11 * suc n)) (same _ y h₃.2) (ap suc r.0, far i h₁.0.1 h₂.0.1 h₃.0.1 n p q r.1)
  where
    far : (i j k l n : ℕ) → j ≡ i + 11 → k ≡ j → l ≡ k + 11 * n → l ≡ i + 11 * suc n
    far i j k l n p q r = omega arith

-- A list has its length and its subs, and the rank's entries stay within the limit.
pub list-size : (b : List ℕ) (c used i : ℕ) (y : List ℕ × ℕ) → list b c used i ≡ Ok y → (used + length y.0 ≤ max_entries) × (y.1 ≡ i + 12 + 11 * length y.0)
unfolding list
list-size b c used i y e =
    let h₁ = bound_by (bits b 12) _ i y e in
    let n = h₁.0.0 in
    let h₂ = accepted.after (judge Format (leb (used + n) max_entries)) _ _ y h₁.2 in
    let h₃ = accepted.after (judge BadList (ltb 0 n)) _ _ y h₂.2 in
    let r = sub-size b c n 0 _ y h₃.2 in
    let p = bits-size b 12 i h₁.0 h₁.1 in
    let q = judge-size Format (leb (used + n) max_entries) h₁.0.1 h₂.0 h₂.1 in
    let s = judge-size BadList (ltb 0 n) h₂.0.1 h₃.0 h₃.1 in
    let g = leb-true (used + n) max_entries (judged Format (leb (used + n) max_entries) _ _ h₂.1) in
    (rw r.0 g, rw r.0 (far i h₁.0.1 h₂.0.1 h₃.0.1 y.1 n p q s r.1))
  where
    far : (i j k l m n : ℕ) → j ≡ i + 12 → k ≡ j → l ≡ k → m ≡ l + 11 * n → m ≡ i + 12 + 11 * n
    far i j k l m n p q s r = omega arith

-- ---- the lists of a rank

module _ (b : List ℕ) (c n used i : ℕ) where
  pub rank_stop : {why : Refusal} → list b c used i ≡ Err why → lists_at b c (suc n) used i ≡ Err why
  unfolding lists_at
  rank_stop e = stop (list b c used) i _ e

  pub rank_on : {x : List ℕ × ℕ} → list b c used i ≡ Ok x → lists_at b c (suc n) used i ≡ after x.0 (lists_at b c n (used + length x.0) x.1)
  unfolding lists_at
  rank_on {x} e = on (list b c used) i _ e ∙ then-after (lists_at b c n (used + length x.0)) x.0 x.1

pub rank-size : (b : List ℕ) (c n used i : ℕ) (y : List (List ℕ) × ℕ) → used ≤ max_entries → lists_at b c n used i ≡ Ok y
    → (used + rank_entries y.0 ≤ max_entries) × (y.1 ≡ i + 12 * n + 11 * rank_entries y.0)
unfolding lists_at done rank_entries sum
rank-size b c zero used i y h e = subst (λ (z : List (List ℕ) × ℕ). (used + rank_entries z.0 ≤ max_entries) × (z.1 ≡ i + 12 * 0 + 11 * rank_entries z.0)) (same ([], i) y e) (omega arith, omega arith)
rank-size b c (suc n) used i y h e =
    let h₁ = bound_by (list b c used) _ i y e in
    let l = h₁.0.0 in
    let h₂ = bound_by (lists_at b c n (used + length l)) _ _ y h₁.2 in
    let p = list-size b c used i h₁.0 h₁.1 in
    let r = rank-size b c n (used + length l) h₁.0.1 h₂.0 p.0 h₂.1 in
    subst (λ (z : List (List ℕ) × ℕ). (used + rank_entries z.0 ≤ max_entries) × (z.1 ≡ i + 12 * suc n + 11 * rank_entries z.0)) (same _ y h₂.2)
    (subst (λ (z : ℕ). z ≤ max_entries) (add_assoc used (length l) (rank_entries h₂.0.0)) r.0, far i h₁.0.1 h₂.0.1 (length l) (rank_entries h₂.0.0) n p.1 r.1)
  where
    far : (i j k l m n : ℕ) → j ≡ i + 12 + 11 * l → k ≡ j + 12 * n + 11 * m → k ≡ i + 12 * suc n + 11 * (l + m)
    far i j k l m n p r = omega arith

-- ---- the lists of all ranks

module _ (b : List ℕ) (c d i : ℕ) (l : List ℕ) where
  pub ranks_stop : {why : Refusal} → lists_at b c d 0 i ≡ Err why → lists b (c ∷ d ∷ l) i ≡ Err why
  unfolding lists
  ranks_stop e = stop (lists_at b c d 0) i _ e

  pub ranks_on : {x : List (List ℕ) × ℕ} → lists_at b c d 0 i ≡ Ok x → lists b (c ∷ d ∷ l) i ≡ after x.0 (lists b (d ∷ l) x.1)
  unfolding lists
  ranks_on {x} e = on (lists_at b c d 0) i _ e ∙ then-after (lists b (d ∷ l)) x.0 x.1

-- ---- n readings of w bits each

pub times-size : {A : Type 0} (m : Reader A) (w : ℕ) → ((i : ℕ) (x : A × ℕ) → m i ≡ Ok x → x.1 ≡ i + w) → (n i : ℕ) (y : List A × ℕ) → times n m i ≡ Ok y → y.1 ≡ i + w * n
unfolding times done
times-size m w f zero i y e = ap (λ z. z.1) (sym (same ([], i) y e)) ∙ rw (mul-zero, add-zero)
times-size m w f (suc n) i y e =
    let h₁ = bound_by m _ i y e in
    let h₂ = bound_by (times n m) _ _ y h₁.2 in
    ap (λ z. z.1) (sym (same _ y h₂.2)) ∙ times-size m w f n h₁.0.1 h₂.0 h₂.1
    ∙ ap (λ (z : ℕ). z + w * n) (f i h₁.0 h₁.1) ∙ add_assoc i w (w * n) ∙ ap (λ (z : ℕ). i + z) (add_comm w (w * n) ∙ sym (mul-suc w n))

-- A judged field is as wide as the field.
field-size : {A : Type 0} (b : List ℕ) (w : ℕ) (why : Refusal) (t : ℕ → Bool) (f : ℕ → A) (i : ℕ) (y : A × ℕ) → (bits b w >>= λ n. judge why (t n) >> done (f n)) i ≡ Ok y → y.1 ≡ i + w
unfolding done
field-size b w why t f i y e =
    let h₁ = bound_by (bits b w) _ i y e in
    let h₂ = accepted.after (judge why (t h₁.0.0)) _ _ y h₁.2 in
    ap (λ z. z.1) (sym (same _ y h₂.2)) ∙ judge-size why (t h₁.0.0) h₁.0.1 h₂.0 h₂.1 ∙ bits-size b w i h₁.0 h₁.1

pub counts-size : (b : List ℕ) (n i : ℕ) (y : List ℕ × ℕ) → times n (count b) i ≡ Ok y → y.1 ≡ i + 12 * n
unfolding count
counts-size b n i y e = times-size (count b) 12 (field-size b 12 Format (λ n. ltb 0 n && leb n max_count) (λ n. n)) n i y e

pub coordinates-size : (b : List ℕ) (n i : ℕ) (y : List Float × ℕ) → times n (coordinate b) i ≡ Ok y → y.1 ≡ i + 64 * n
unfolding coordinate
coordinates-size b n i y e = times-size (coordinate b) 64 (field-size b 64 OffTheBoard (λ n. in_range (of_bits binary64 n)) (λ n. of_bits binary64 n)) n i y e

-- ---- the lists of all ranks: at most 2,048 lists and 8,192 entries a rank

pub ranks-size : (b l : List ℕ) (i : ℕ) (y : List (List (List ℕ)) × ℕ) → ((k : ℕ) → get_or l k 0 ≤ max_count) → lists b l i ≡ Ok y → y.1 ≤ i + (12 * max_count + 11 * max_entries) * length l
unfolding lists done
ranks-size b [] i y h e = le_trans (le_of_eq (ap (λ z. z.1) (sym (same ([], i) y e)))) (omega arith)
ranks-size b (c ∷ []) i y h e = le_trans (le_of_eq (ap (λ z. z.1) (sym (same ([], i) y e)))) (omega arith)
ranks-size b (c ∷ d ∷ l) i y h e =
    let h₁ = bound_by (lists_at b c d 0) _ i y e in
    let h₂ = bound_by (lists b (d ∷ l)) _ _ y h₁.2 in
    let p = rank-size b c d 0 i h₁.0 (lit≤ tt) h₁.1 in
    let r = ranks-size b (d ∷ l) h₁.0.1 h₂.0 (λ k. h (suc k)) h₂.1 in
    le_trans (le_of_eq (ap (λ z. z.1) (sym (same _ y h₂.2)))) (far i h₁.0.1 h₂.0.1 d (rank_entries h₁.0.0) (length l) (h 1) p.0 p.1 r)
  where
    far : (i j k d u n : ℕ) → d ≤ max_count → 0 + u ≤ max_entries → j ≡ i + 12 * d + 11 * u → k ≤ j + (12 * max_count + 11 * max_entries) * suc n
        → k ≤ i + (12 * max_count + 11 * max_entries) * suc (suc n)
    far i j k d u n a b p q = omega arith
