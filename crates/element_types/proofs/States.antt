-- A step in the words is a step of the state that they hold.
-- Assumes nothing.
use mathlib.Core.Path.{◌≡◌, refl, sym, ◌∙◌, ap, ap₂, subst}
use mathlib.Core.Bool.{true}
use mathlib.Core.List.{List, [], ◌∷◌, ◌++◌, map}
use Prim.Native.Nat.{ℕ, zero, suc, pred, ◌+◌, ◌*◌, ◌-◌, ◌≤◌, ◌<◌}
use native.Mathlib.Omega.{arith}
use native.Mathlib.Numerals.{add-one}
use native.Mathlib.Decide.{ℕ_discrete}
use lib.ListN.{length, get_or, set, take, drop, length-take, length-drop, length-set}
use lib.Seq.{ext_get_or, get_or-take, get_or-drop, get_or-set_same, get_or-set_other}
use Rattle.spec.specs.Lists.{In, renumber, eq_list, range, sum}
use Rattle.spec.specs.Types.{Solid, State, types_at, type_of, Step, up, down, at, next, neighbours, key, keys, step}
use Rattle.spec.specs.Search.{sorted}
use Rattle.laws.proofs.Lists.{in_get_d, map_same, get_d_table, length_table, of_range}
use Rattle.laws.proofs.Renumber.{length-renumber, renumber-pattern}
use Rattle.laws.proofs.Counts as counts
use Rattle.ranked.specs.declared.Shape.{Shape}
use Rattle.ranked.specs.Words.{first_at, size_at, lists_of, list_at, list_word, abs_in, subs_word, sups_word}
use Rattle.ranked.specs.Layout as layout
use Rattle.ranked.specs.Reading.{Lies}
use Rattle.ranked.proofs.Solids.{size_is, subs_lie, sups_lie, subs-listed, sups-listed, sub_in, sup_in}
use Rattle.element_types.specs.Runs.{over, under, key_of}
use Rattle.element_types.specs.Numbers.{key_in, numbers_of, space_to, Neighbouring}
use Rattle.element_types.specs.State.{types_in, state_in, entries, needed, Steppable, Stepping, stepped_at}
use Rattle.element_types.proofs.Keys.{TypesUsed, key_same}
use Rattle.element_types.proofs.Replaced.{rank-within, replaced, other, lists-kept}
use Rattle.element_types.proofs.Appeared.{table_snoc}

-- ---- lists

sum-snoc : (l : List ℕ) (x : ℕ) → sum (l ++ x ∷ []) ≡ sum l + x
unfolding sum
sum-snoc [] x = omega arith
sum-snoc (y ∷ l) x = omega (arith, sum-snoc l x)

-- The keys take two words each, and one for each entry of their lists.
space_is : (l : List ℕ) (base n : ℕ) → space_to l base n ≡ 2 * n + sum (map (λ e. length (list_at l (list_word base e))) (range 0 n))
unfolding space_to sum range
space_is l base zero = refl
space_is l base (suc n) =
    omega (
      arith,
      space_is l base n,
      ap sum (table_snoc (λ e. length (list_at l (list_word base e))) 0 n n (omega arith)),
      sum-snoc (map (λ e. length (list_at l (list_word base e))) (range 0 n)) (length (list_at l (list_word base n))),
    )

carry : (a b c d : List ℕ) → eq_list a b ≡ eq_list c d → a ≡ b → c ≡ d
carry a b c d e p = (counts.lists).sound c d (sym e ∙ subst (λ (z : List ℕ). eq_list a z ≡ true) p ((counts.lists).pass a))

-- Keys that a test cannot tell from others are numbered as those are.
renumber_tables : (f g : ℕ → List ℕ) (n : ℕ) → ((i j : ℕ) → i < n → j < n → eq_list (f i) (f j) ≡ eq_list (g i) (g j))
    → renumber eq_list (map f (range 0 n)) ≡ renumber eq_list (map g (range 0 n))
renumber_tables f g n h =
    renumber-pattern eq_list counts.lists eq_list counts.lists [] [] (map g (range 0 n)) (map f (range 0 n)) (length_table f n ∙ sym (length_table g n))
    (λ i j a b e. let i' : i < n = rw length_table at a in
    let j' : j < n = rw length_table at b in
    turn g f i j i' j' (sym (h i j i' j')) e)
    (λ i j a b e. let i' : i < n = rw length_table at a in
    let j' : j < n = rw length_table at b in
    turn f g i j i' j' (h i j i' j') e)
  where
    turn : (p q : ℕ → List ℕ) (i j : ℕ) → i < n → j < n → eq_list (p i) (p j) ≡ eq_list (q i) (q j)
        → get_or (map p (range 0 n)) i [] ≡ get_or (map p (range 0 n)) j [] → get_or (map q (range 0 n)) i [] ≡ get_or (map q (range 0 n)) j []
    turn p q i j a b k e =
        get_d_table q [] n i a
        ∙ carry (p i) (p j) (q i) (q j) k (sym (get_d_table p [] n i a) ∙ e ∙ get_d_table p [] n j b)
        ∙ sym (get_d_table q [] n j b)

-- ---- a type

module _ (sh : Shape) (w : List ℕ) (r : ℕ) (within : r ≤ sh.rank) where
  pub types-at : types_at (state_in sh w) r ≡ types_in sh w r
  unfolding state_in
  types-at = get_d_table (types_in sh w) [] (suc sh.rank) r (omega arith)

  -- The type of an element is the word that stands for it.
  pub type_read : (e : ℕ) → e < size_at sh r → type_of (state_in sh w) r e ≡ get_or w (layout.types_at sh r + e) 0
  unfolding types_in
  type_read e h =
      ap (λ (l : List ℕ). get_or l e 0) types-at ∙ get_or-take (size_at sh r) (drop (layout.types_at sh r) w) e 0 h ∙ get_or-drop (layout.types_at sh r) w e 0

-- ---- a step

-- A step's elements look to these neighbours, and their lists are here.
pub record Looks (sh : Shape) (w : List ℕ) (x : Step) (base : ℕ) : Type 0 where
  pub next_in : next x ≤ sh.rank
  pub listed : (e : ℕ) → e < size_at sh (at x) → list_at (lists_of sh w) (list_word base e) ≡ neighbours (abs_in sh (lists_of sh w)) x e
  pub lie : (e : ℕ) → e < size_at sh (at x) → Lies (lists_of sh w) (list_word base e)
  pub inside : (e y : ℕ) → e < size_at sh (at x) → In y (neighbours (abs_in sh (lists_of sh w)) x e) → y < size_at sh (next x)

module _ (sh : Shape) (w : List ℕ) (x : Step) (t : Steppable sh w x) (listing : ℕ) (o : Looks sh w x listing) where
  abbrev L : List ℕ
  L = lists_of sh w

  abbrev s : Solid
  s = abs_in sh L

  abbrev S : State
  S = state_in sh w

  abbrev n : ℕ
  n = size_at sh (at x)

  abbrev own : List ℕ
  own = types_in sh w (at x)

  abbrev beside : List ℕ
  beside = types_in sh w (next x)

  abbrev from : ℕ
  from = layout.types_at sh (at x)

  abbrev out : ℕ
  out = layout.scratch_at sh

  -- ---- there is room

  at-in : at x ≤ sh.rank
  at-in = omega (arith, t.under)

  out_in : out ≤ length w
  unfolding needed
  out_in = omega (arith, t.room)

  length_types : (q : ℕ) → q ≤ sh.rank → length (types_in sh w q) ≡ size_at sh q
  unfolding types_in
  length_types q h = simp (length-take, length-drop) (omega (arith, rank-within sh w t.held q h, out_in))

  count_is : entries s x ≡ sum (map (λ e. length (list_at L (list_word listing e))) (range 0 n))
  unfolding entries
  count_is =
      ap (λ (m : ℕ). sum (map (λ e. length (neighbours s x e)) (range 0 m))) (size_is sh L (at x) at-in)
      ∙ ap sum
      (map_same (λ e. length (neighbours s x e)) (λ e. length (list_at L (list_word listing e))) (range 0 n)
      (λ e m. ap length (sym (o.listed e (omega (arith, of_range 0 n e m))))))

  need_is : needed sh w x ≡ out + n + n + space_to L listing n
  unfolding needed
  need_is = omega (arith, count_is, space_is L listing n)

  ready : Neighbouring L listing own beside
  ready = record {
    lie = λ e h. o.lie e (rw (length_types (at x) at-in) at h);
    members = λ e y h m. let k : e < n = rw (length_types (at x) at-in) at h in
        rw (length_types (next x) o.next_in) (o.inside e y k (rw (o.listed e k) at m));
    small = rw (length_types (at x) at-in) (omega (arith, need_is, t.small));
  }

  -- ---- the keys

  -- The keys are given as the paper has them, and as the program does.
  paper : ℕ → List ℕ
  paper e = key (types_at S (next x)) (type_of S (at x) e) (neighbours s x e)

  held : ℕ → List ℕ
  held = key_in L listing own beside

  typed : (e : ℕ) → e < n → TypesUsed beside (neighbours s x e)
  typed e h y m = in_get_d 0 beside y (rw (length_types (next x) o.next_in) (o.inside e y h m))

  held_is : (e : ℕ) → e < n → held e ≡ get_or own e 0 ∷ sorted (map (λ y. get_or beside y 0) (neighbours s x e))
  unfolding held key_in key_of under
  held_is e h = ap (λ (l : List ℕ). get_or own e 0 ∷ sorted (map (λ y. get_or beside y 0) l)) (o.listed e h)

  paper_is : (e : ℕ) → paper e ≡ key beside (get_or own e 0) (neighbours s x e)
  unfolding paper
  paper_is e = ap₂ (λ (ts us : List ℕ). key ts (get_or us e 0) (neighbours s x e)) (types-at sh w (next x) o.next_in) (types-at sh w (at x) at-in)

  same_test : (e f : ℕ) → e < n → f < n → eq_list (held e) (held f) ≡ eq_list (paper e) (paper f)
  unfolding eq_list
  same_test e f h k =
      ap₂ eq_list (held_is e h) (held_is f k)
      ∙ sym (ap₂ eq_list (paper_is e) (paper_is f) ∙ key_same beside (get_or own e 0) (get_or own f 0) (neighbours s x e) (neighbours s x f) (typed e h) (typed f k))

  numbers_are : numbers_of L listing own beside ≡ renumber eq_list (keys s S x)
  unfolding numbers_of keys paper held
  numbers_are =
      ap (λ (m : ℕ). renumber eq_list (map held (range 0 m))) (length_types (at x) at-in)
      ∙ renumber_tables held paper n same_test
      ∙ ap (λ (m : ℕ). renumber eq_list (map paper (range 0 m))) (sym (size_is sh L (at x) at-in))

  -- ---- the state

  module _ (v : List ℕ) (R : List ℕ) (many : length R ≡ n) (e : take out v ≡ over (take out w) from (from + n) R) where
    pub state_new : state_in sh v ≡ set S (at x) R
    unfolding state_in
    state_new =
        ext_get_or [] (state_in sh v) (set S (at x) R)
        (length_table (types_in sh v) (suc sh.rank) ∙ sym (length-set S (at x) R ∙ length_table (types_in sh w) (suc sh.rank)))
        (λ q h. let b : q < suc sh.rank = rw (length_table (types_in sh v) (suc sh.rank)) at h in
        get_d_table (types_in sh v) [] (suc sh.rank) q b ∙ go q (omega arith) (ℕ_discrete q (at x)))
      where
        go : (q : ℕ) → q ≤ sh.rank → Dec (q ≡ at x) → types_in sh v q ≡ get_or (set S (at x) R) q []
        go q b (yes p) =
            ap (types_in sh v) p ∙ replaced sh w t.held out_in (at x) at-in v R many e
            ∙ sym (ap (λ (k : ℕ). get_or (set S (at x) R) k []) p ∙ get_or-set_same S (at x) R [] (rw (length_table (types_in sh w) (suc sh.rank)) (omega (arith, t.under))))
        go q b (no p) = other sh w t.held out_in (at x) at-in v R many e q b p ∙ sym (get_or-set_other S (at x) q R [] p ∙ types-at sh w q b)

  -- ---- as the code has it, with the word that it worked out

  module _ (lists : ℕ) (e : lists ≡ listing) where
    pub stepping : Stepping sh w (at x) lists (next x)
    stepping = record {
      held = t.held;
      within = at-in;
      beside = o.next_in;
      ready = rw e ready;
      room = rw e (omega (arith, need_is, t.room));
    }

    pub stepped : (v : List ℕ) → take out v ≡ stepped_at sh w (at x) lists (next x) → (lists_of sh v ≡ L) × (state_in sh v ≡ step s S x)
    unfolding step stepped_at numbers_of held
    stepped v z = (lists-kept sh w t.held out_in (at x) at-in v R many (rw e at z), state_new v R many (rw e at z) ∙ ap (set S (at x)) numbers_are)
      where
        R : List ℕ
        R = numbers_of L listing own beside

        many : length R ≡ n
        many =
            length-renumber eq_list counts.lists (map held (range 0 (length own))) ∙ length_table held (length own) ∙ length_types (at x) at-in

-- ---- up and down

looks_up : (sh : Shape) (w : List ℕ) (r : ℕ) → Steppable sh w (up r) → Looks sh w (up r) (subs_word (first_at sh r) 0)
looks_up sh w zero t = absurd (omega (arith, t.above))
looks_up sh w (suc r) t =
    let b : suc r ≤ sh.rank = omega (arith, t.under) in
    let place : (e : ℕ) → subs_word (first_at sh (suc r)) 0 + 4 * e ≡ subs_word (first_at sh (suc r)) e = λ e. omega arith in
    record {
      next_in = omega arith;
      listed = λ e h. ap (list_at (lists_of sh w)) (place e) ∙ subs-listed sh (lists_of sh w) t.held (suc r) e b h;
      lie = λ e h. rw (place e) (subs_lie sh (lists_of sh w) t.held (suc r) e b h);
      inside = λ e y h m. sub_in sh (lists_of sh w) t.held r e y b m;
    }

looks_down : (sh : Shape) (w : List ℕ) (r : ℕ) → Steppable sh w (down r) → Looks sh w (down r) (sups_word (first_at sh r) 0)
looks_down sh w r t =
    let b : r ≤ sh.rank = omega (arith, t.under) in
    let place : (e : ℕ) → sups_word (first_at sh r) 0 + 4 * e ≡ sups_word (first_at sh r) e = λ e. omega arith in
    record {
      next_in = t.under;
      listed = λ e h. ap (list_at (lists_of sh w)) (place e) ∙ sups-listed sh (lists_of sh w) t.held r e b h;
      lie = λ e h. rw (place e) (sups_lie sh (lists_of sh w) t.held r e b h);
      inside = λ e y h m. sup_in sh (lists_of sh w) t.held r e y t.under m;
    }

one_less : (r : ℕ) → 1 ≤ r → r - 1 ≡ pred r
one_less zero h = absurd (omega arith)
one_less (suc r) h = omega arith

-- ---- the two steps

module _ (sh : Shape) (w : List ℕ) (r : ℕ) (t : Steppable sh w (up r)) where
  module _ (lists : ℕ) (e : lists ≡ 4 * (first_at sh r + 0)) where
    pub up_ready : Stepping sh w r lists (r - 1)
    up_ready = rw (one_less r t.above) (stepping sh w (up r) t (subs_word (first_at sh r) 0) (looks_up sh w r t) lists e)

    pub up_stepped : (v : List ℕ) → take (layout.scratch_at sh) v ≡ stepped_at sh w r lists (r - 1)
        → (lists_of sh v ≡ lists_of sh w) × (state_in sh v ≡ step (abs_in sh (lists_of sh w)) (state_in sh w) (up r))
    up_stepped v z = stepped sh w (up r) t (subs_word (first_at sh r) 0) (looks_up sh w r t) lists e v (rw (one_less r t.above) at z)

module _ (sh : Shape) (w : List ℕ) (r : ℕ) (t : Steppable sh w (down r)) where
  module _ (lists : ℕ) (e : lists ≡ 4 * (first_at sh r + 0) + 2) where
    pub down_ready : Stepping sh w r lists (r + 1)
    down_ready = rw (add-one r) (stepping sh w (down r) t (sups_word (first_at sh r) 0) (looks_down sh w r t) lists e)

    pub down_stepped : (v : List ℕ) → take (layout.scratch_at sh) v ≡ stepped_at sh w r lists (r + 1)
        → (lists_of sh v ≡ lists_of sh w) × (state_in sh v ≡ step (abs_in sh (lists_of sh w)) (state_in sh w) (down r))
    down_stepped v z = stepped sh w (down r) t (sups_word (first_at sh r) 0) (looks_down sh w r t) lists e v (rw (add-one r) at z)
