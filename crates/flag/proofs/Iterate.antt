-- The flag after a flag is found in the words that hold the solid, by a move at a rank and the loop over the ranks.
-- Assumes nothing.
use Rattle.std.specs.Prelude.{Option, None, Some, MatchOption, option_map}
use mathlib.Core.Path.{◌≡◌, refl, sym, ◌∙◌, ap, subst}
use mathlib.Core.List.{List, [], ◌∷◌, ◌++◌}
use Prim.Native.Nat.{ℕ, zero, suc, ◌+◌, ◌-◌, ◌≤◌, ◌<◌}
use native.Mathlib.Numerals.{add-one}
use native.Mathlib.Omega.{arith}
use lib.ListN.{length, get_or, set, take, drop}
use lib.Seq.{take-suc, drop-set-lt, get_or-take, get_or-set_same}
use lib.Dec.{eqb}
use Rattle.spec.specs.Limits.{max_rank}
use Rattle.spec.specs.Lists.{In, place}
use Rattle.spec.specs.Types.{Solid, size, subs}
use Rattle.spec.specs.Flags.{Flag, IsFlag, element_at, first_to, flags_to, flags}
use Rattle.laws.proofs.Lists.{in_get_d}
use Rattle.ranked.specs.declared.Shape.{Shape}
use Rattle.ranked.specs.Words.{size_at, abs_in, Held}
use Rattle.ranked.proofs.Solids.{top_is, sub_in}
use Rattle.flag.specs.declared.Flag as declared
use Rattle.flag.specs.Reading.{flag_in, Follows, Moved, next_place}
use Rattle.flag.proofs.Flags.{flag_in_lem}
use Rattle.flag.proofs.Order.{Last, after_is, last_is}
use Rattle.flag.proofs.Steps.{last_step, next_flag}

-- ---- a move

-- Below the top an element stands under the one of the next rank, whose subs are l.
pub record SubsUnder (sh : Shape) (w els : List ℕ) (r : ℕ) (l : List ℕ) : Type 0 where
  pub held : Held sh w
  pub low : r < sh.rank
  pub long : length els ≡ suc max_rank
  pub subs : l ≡ subs (abs_in sh w) (r + 1) (get_or els (r + 1) 0)

module _ {sh : Shape} {w els : List ℕ} {r : ℕ} {l : List ℕ} (u : SubsUnder sh w els r l) where
  listed : l ≡ subs (abs_in sh w) (suc r) (get_or els (suc r) 0)
  listed = rw add-one at u.subs

  next_is : suc (place eqb (get_or els r 0) l) ≡ next_place (abs_in sh w) els r
  next_is = ap (λ (m : List ℕ). suc (place eqb (get_or els r 0) m)) listed

  -- No sub stands after the element's place.
  pub moved-none : length l ≤ suc (place eqb (get_or els r 0) l) → Moved (abs_in sh w) sh.rank els r None
  moved-none m = record { next = λ f z. cc; end = λ _. omega (arith, next_is, m, ap length listed) }

  -- The element has place k in that list, and the sub x stands after it.
  module _ (k x : ℕ) (at : k ≡ place eqb (get_or els r 0) l) (more : k + 1 < length l) (is : x ≡ get_or l (k + 1) 0) where
    set_is : get_or (set els r x) r 0 ≡ x
    set_is = get_or-set_same els r x 0 (omega (arith, u.held.tall, u.low, u.long))

    pub moved_in : get_or (set els r x) r 0 < size_at sh r
    moved_in = rw set_is (sub_in sh w u.held r (get_or els (suc r) 0) x u.low (rw is (subst (λ (m : List ℕ). In (get_or l (k + 1) 0) m) listed (in_get_d 0 l (k + 1) more))))

    pub moved-some : (f : declared.Flag)
        → flag_in sh.rank f ≡ first_to (abs_in sh w) r (get_or (set els r x) r 0) ++ take (sh.rank - r) (drop (suc r) (set els r x))
        → Moved (abs_in sh w) sh.rank els r (Some f)
    moved-some f q =
        let n : k + 1 ≡ next_place (abs_in sh w) els r = omega (arith, at, next_is) in
        record {
          next = λ g e. let same : g ≡ f = cc in (
            omega (arith, n, more, ap length listed),
            ap (flag_in sh.rank) same ∙ rw (set_is, drop-set-lt (suc r) els r x (omega arith), is, listed, n) at q,
          );
          end = λ z. cc;
        }

-- ---- the loop over the ranks

-- The elements are a flag of the solid.
pub record Standing (sh : Shape) (w els : List ℕ) : Type 0 where
  pub held : Held sh w
  pub long : length els ≡ suc max_rank
  pub flag : IsFlag (abs_in sh w) (take (suc sh.rank) els)

module _ {sh : Shape} {w els : List ℕ} (t : Standing sh w els) where
  abbrev s : Solid
  s = abs_in sh w

  abbrev F : Flag
  F = take (suc sh.rank) els

  -- The elements up to rank r are the last flag of the one at r.
  abbrev Ended : ℕ → Type 0
  Ended r = Last (take (suc r) els) (flags_to s r (get_or els r 0))

  fits : sh.rank < length els
  fits = omega (arith, t.long, t.held.tall)

  at_is : (r : ℕ) → r ≤ sh.rank → element_at F r ≡ get_or els r 0
  at_is r q = get_or-take (suc sh.rank) els r 0 (omega arith)

  chain : (r : ℕ) → r < sh.rank → In (get_or els r 0) (subs s (suc r) (get_or els (suc r) 0))
  chain r q = rw (at_is r (omega arith), at_is (suc r) q) at (t.flag.chain r (omega (arith, top_is sh w)))

  ended-first : Ended 0
  unfolding flags_to
  ended-first = record { front = []; is = ap (λ (l : Flag). l ∷ []) (sym (take-suc els 0 0 (omega (arith, fits)))) }

  -- The flags are those up to the top, whose only element is 0.
  flags_are : flags_to s sh.rank (get_or els sh.rank 0) ≡ flags s
  unfolding flags
  flags_are =
      ap (flags_to s sh.rank) (sym (at_is sh.rank (omega arith)) ∙ ap (element_at F) (sym (top_is sh w)) ∙ t.flag.peak)
      ∙ ap (λ (n : ℕ). flags_to s n 0) (sym (top_is sh w))

  pub above_in : (r : ℕ) → r < sh.rank → get_or els (suc r) 0 < size_at sh (suc r)
  above_in r q = flag_in_lem sh w t.held els t.flag (suc r) q

  -- No rank below r has moved, so the elements up to r are the last flag of the one there.
  ended : (r : ℕ) → r ≤ sh.rank → ((q : ℕ) → q < r → Moved s sh.rank els q None) → Ended r
  ended zero b m = ended-first
  ended (suc r) b m = last_step s t.held.sound t.held.filled els sh.rank fits chain r b (ended r (omega arith) (λ q k. m q (omega arith))) ((m r (omega arith)).end refl)

  -- The lowest rank that can move on gives the flag after this one.
  pub follows : (o : Option declared.Flag)
      → MatchOption o ((r : ℕ) → r < sh.rank → Moved s sh.rank els r None)
      (λ f. (r : ℕ) × (r < sh.rank) × Moved s sh.rank els r (Some f) × ((q : ℕ) → q < r → Moved s sh.rank els q None))
      → Follows s F (option_map (flag_in sh.rank) o)
  follows None m =
      let last = ended sh.rank (omega arith) m in
      record { next = λ G z. cc; end = λ _. last_is s t.held.sound F F (rw flags_are at last) }
  follows (Some f) m =
      let r = m.0 in
      let k = next_place s els r in
      let l = subs s (suc r) (get_or els (suc r) 0) in
      let n = m.2.next f refl in
      let low : get_or l k 0 < size s r = t.held.sound.below r (get_or els (suc r) 0) (get_or l k 0) (in_get_d 0 l k n.0) in
      let a = next_flag s t.held.sound t.held.filled els sh.rank fits chain r m.1 (ended r (omega (arith, m.1)) m.3) k refl n.0 low in
      record {
        next = λ G e. let same : G ≡ flag_in sh.rank f = cc in rw same (after_is s t.held.sound F (flag_in sh.rank f) (rw (flags_are, ← n.1) at a));
        end = λ y. cc;
      }
