-- A loop over the flags knows what stands of the flags that are to come, and how many they are.
-- Assumes nothing.
use Rattle.std.specs.Prelude.{Option, None, Some}
use mathlib.Core.Path.{◌≡◌, refl, sym, ap, subst, ◌∙◌}
use mathlib.Core.Bool.{Bool, true, false}
use mathlib.Core.List.{List, [], ◌∷◌}
use Prim.Native.Nat.{ℕ, zero, suc, ◌-◌, ◌<◌}
use native.Mathlib.Omega.{arith}
use lib.ListN.{length, get_or, drop, drop_of_length-le}
use lib.Seq.{drop-cons}
use Rattle.spec.specs.Lists.{eq_list, place}
use Rattle.spec.specs.Types.{Solid}
use Rattle.spec.specs.Flags.{Flag, flags}
use Rattle.laws.proofs.Counts.{lists}
use Rattle.laws.proofs.FlagList.{every_flag_once}
use Rattle.ranked.specs.declared.Shape.{Shape}
use Rattle.ranked.specs.Words.{abs_in, Held}
use Rattle.flag.specs.Reading.{Follows, Nth}
use Rattle.flag.proofs.Numbered.{nth_next, nth_last}

-- Flag number `from` is F, and P holds of the flags from it on.
pub record FlagsFrom (s : Solid) (F : Flag) (P : List Flag → Type 0) : Type 0 where
  pub from : ℕ
  pub flag : Nth s F from
  pub stands : P (drop from (flags s))

pub flags-first : (s : Solid) (P : List Flag → Type 0) (F : Flag) → Nth s F 0 → P (flags s) → FlagsFrom s F P
flags-first s P F n p = record { from = 0; flag = n; stands = p }

-- The measure is how many flags are to come.
unfoldable pub to_come : Solid → Flag → ℕ
to_come s F = length (flags s) - place eq_list F (flags s)

-- Where x stands at i and nowhere before, its place is i.
place-first : (x : List ℕ) (l : List (List ℕ)) (i : ℕ) → i < length l → x ≡ get_or l i [] → ((j : ℕ) → j < i → x ≡ get_or l j [] → ⊥) → place eq_list x l ≡ i
unfolding place
place-first x [] i h e f = absurd (omega arith)
place-first x (y ∷ l) zero h e f = ap (λ b. elim b as (λ t. ℕ) [ true ↦ zero | false ↦ suc (place eq_list x l) ]) same
  where
    same : eq_list y x ≡ true
    same = rw e (lists.pass y)
place-first x (y ∷ l) (suc i) h e f = go (eq_list y x) refl (place-first x l i (omega arith) e (λ j k q. f (suc j) (omega arith) q))
  where
    go : (b : Bool) → eq_list y x ≡ b → place eq_list x l ≡ i → elim b as (λ t. ℕ) [ true ↦ zero | false ↦ suc (place eq_list x l) ] ≡ suc i
    go true q p = absurd (f 0 (omega arith) (sym (lists.sound y x q)))
    go false q p = ap suc p

module _ (sh : Shape) (w : List ℕ) (h : Held sh w) (P : List Flag → Type 0) (F : Flag) (t : FlagsFrom (abs_in sh w) F P) where
  abbrev s : Solid
  s = abs_in sh w

  -- These are the flags after F.
  abbrev pub later : List Flag
  later = drop (suc t.from) (flags s)

  pub flags-at : P (F ∷ later)
  flags-at = let n = t.flag in subst P (drop-cons (flags s) t.from [] n.low ∙ ap (λ G. G ∷ later) (sym n.is)) t.stands

  place_is : (G : Flag) (i : ℕ) → Nth s G i → place eq_list G (flags s) ≡ i
  place_is G i n =
      place-first G (flags s) i n.low n.is
      (λ j k e. let q = (every_flag_once s h.sound).once j i (omega (arith, k, n.low)) n.low (sym e ∙ n.is) in omega (arith, q, k))

  module _ (after : Option Flag) (f : Follows s F after) where
    -- The flag after F is G.
    pub flags-next : (G : Flag) → after ≡ Some G → (Q : List Flag → Type 0) → Q later → FlagsFrom s G Q
    flags-next G e Q q = record { from = suc t.from; flag = nth_next sh w h F after f t.from t.flag G e; stands = q }

    pub fewer : (G : Flag) → after ≡ Some G → to_come s G < to_come s F
    unfolding to_come place_is
    fewer G e =
        let n = t.flag in
        let m = nth_next sh w h F after f t.from n G e in
        omega (arith, place_is F t.from n, place_is G (suc t.from) m, m.low)

    -- The last flag is F.
    pub flags-end : after ≡ None → (Q : List Flag → Type 0) → Q later → Q []
    flags-end e Q q = subst Q (drop_of_length-le (flags s) {i = suc t.from} (omega (arith, nth_last sh w h F after f t.from t.flag e))) q
