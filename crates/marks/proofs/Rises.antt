-- The mark's clause on elements goes up rank by rank: an element goes to the one whose subs are the images of its own, if there is one.
-- Assumes nothing.
use Rattle.std.specs.Prelude.{Some}
use mathlib.Core.Path.{◌≡◌, refl, sym, ◌∙◌, ap, subst}
use mathlib.Core.Logic.{inl, inr}
use Prim.Native.Nat.{ℕ, suc, ◌<◌}
use mathlib.Core.Bool.{Bool, true, false, ◌&&◌, false≢true}
use mathlib.Core.List.{List, [], ◌∷◌, map}
use native.Mathlib.Omega.{arith}
use native.Mathlib.Nat.{not-suc-le-zero}
use lib.ListN.{length, get_or}
use lib.Dec.{eqb, ltb}
use borrow.Author.Tests.{lt-ltb}
use Rattle.spec.specs.Lists.{In, place, eq_list, keep, in_order}
use Rattle.spec.specs.Types.{Solid, size, subs, sups, Classes, reach, vertices, vertex_sets}
use Rattle.spec.specs.Demand.{Rising, Sound, Proper}
use Rattle.spec.specs.Mark.{image, goes, carries_element}
use Rattle.laws.proofs.Distinct.{Once}
use Rattle.laws.proofs.Lists.{in_get_d, map_in, in_map, map_same, once_map}
use Rattle.laws.proofs.Counts.{lists, keep_in, in_keep}
use Rattle.laws.proofs.Carry.{rising_once}
use Rattle.laws.proofs.FlagList.{join_in, in_join}
use Rattle.laws.proofs.Marked.{in_order_lem, of_order, order_same, goes-proper, goes_improper, goes-vertices, set-place, Permutes, row_low, goes-apart, fit_of}
use Rattle.points.specs.Finding.{first_of}
use Rattle.ranked.proofs.Between.{sup_means, means_sup}
use Rattle.marks.specs.Rises.{onto, rises_to, Reached}
use Rattle.marks.proofs.Sets.{not_passed, order_self, SameNumbers, sets_same, onto_same, same_onto}

-- ---- vertices of an element and of its subs

module _ (s : Solid) where
  over : (q e v : ℕ) → In v (vertices s (suc (suc q)) e) → (f : ℕ) × In f (subs s (suc (suc q)) e) × In v (vertices s (suc q) f)
  unfolding vertices reach
  over q e v m =
      let k = of_order (size s 1) (reach s (suc (suc q)) e) v m in
      let j = in_join (reach s (suc q)) v (subs s (suc (suc q)) e) k.1 in
      (j.0, j.1, in_order_lem (size s 1) (reach s (suc q) j.0) v k.0 j.2)

  under : (q e f v : ℕ) → In f (subs s (suc (suc q)) e) → In v (vertices s (suc q) f) → In v (vertices s (suc (suc q)) e)
  unfolding vertices reach
  under q e f v i m =
      let k = of_order (size s 1) (reach s (suc q) f) v m in
      in_order_lem (size s 1) (reach s (suc (suc q)) e) v k.0 (join_in (reach s (suc q)) v f (subs s (suc (suc q)) e) i k.1)

three : (a b c : Bool) → a ≡ true → c ≡ true → a && b && c ≡ b
three true true true p q = refl
three true false true p q = refl
three true b false p q = absurd (false≢true q)
three false b c p q = absurd (false≢true p)

module _ (s : Solid) (ok : Sound s) (filled : (r e : ℕ) → e < size s (suc r) → 0 < length (subs s (suc r) e))
    (cls : Classes) (row : List ℕ) (a : Permutes s row) where
  image_in : (r e x : ℕ) → In x (vertices s r e) → In (get_or row x 0) (image s row r e)
  unfolding image vertices
  image_in r e x m =
      in_order_lem (size s 1) (map (λ v. get_or row v 0) (vertices s r e)) (get_or row x 0) (row_low s row a x (of_order (size s 1) (reach s r e) x m).0)
      (map_in (λ v. get_or row v 0) x (vertices s r e) m)

  in_image : (r e v : ℕ) → In v (image s row r e) → (x : ℕ) × In x (vertices s r e) × (v ≡ get_or row x 0)
  unfolding image
  in_image r e v m =
      in_map (λ u. get_or row u 0) v (vertices s r e) (of_order (size s 1) (map (λ u. get_or row u 0) (vertices s r e)) v m).1

  -- Where e goes to g, whose subs are the images, it is a matter of class whether it is carried.
  class_left : (r e g : ℕ) → g < size s (suc r) → goes s row (suc r) e ≡ g → subs s (suc r) g ≡ in_order (size s r) (map (goes s row r) (subs s (suc r) e))
      → carries_element s cls row (suc r) e ≡ eqb (cls (suc r) g) (cls (suc r) e)
  unfolding carries_element
  class_left r e g h q l =
      rw q (three (ltb g (size s (suc r))) (eqb (cls (suc r) g) (cls (suc r) e)) _ (lt-ltb g (size s (suc r)) h) (rw (← l) (lists.pass (subs s (suc r) g))))

  -- ---- vertices

  alone : (v : ℕ) → v < size s 1 → vertices s 1 v ≡ v ∷ []
  unfolding vertices reach
  alone v h = order_self (size s 1) (v ∷ []) tt low
    where
      low : (x : ℕ) → In x (v ∷ []) → x < size s 1
      low x (inr x'') = elim x'' [ ]
      low x (inl q) = omega arith

  vertex_goes : Proper s 1 → Once (vertex_sets s 1) → (v : ℕ) → v < size s 1 → goes s row 1 v ≡ get_or row v 0
  unfolding image
  vertex_goes p o v h =
      let k = row_low s row a v h in
      let i : image s row 1 v ≡ vertices s 1 (get_or row v 0) = rw (alone v h, alone (get_or row v 0) k) (order_self (size s 1) (get_or row v 0 ∷ []) tt (low k)) in
      goes-proper s row 1 v p ∙ ap (λ (l : List ℕ). place eq_list l (vertex_sets s 1)) i ∙ set-place s 1 o (get_or row v 0) k
    where
      low : get_or row v 0 < size s 1 → (x : ℕ) → In x (get_or row v 0 ∷ []) → x < size s 1
      low k x (inr x'') = elim x'' [ ]
      low k x (inl q) = omega arith

  -- "A vertex has the least element as sub."
  least_only : (v : ℕ) → v < size s 1 → subs s 1 v ≡ 0 ∷ []
  least_only v h = go (subs s 1 v) (filled 0 v h) (ok.rising 1 v) (λ x m. let k = ok.below 0 v x m in let one : size s 0 ≡ 1 = ap length ok.least in omega arith)
    where
      go : (l : List ℕ) → 0 < length l → Rising l → ((x : ℕ) → In x l → x < 1) → l ≡ 0 ∷ []
      go [] n r b = absurd (not-suc-le-zero n)
      go (x ∷ []) n r b = let z : x ≡ 0 = omega (arith, b x (inl refl)) in rw z
      go (x ∷ (y ∷ l)) n r b = absurd (omega (arith, b y (inr (inl refl)), r.0))

  pub vertex_reached : Proper s 1 → Once (vertex_sets s 1) → (v : ℕ) → v < size s 1 → Reached s cls row 1 v (Some (get_or row v 0))
  vertex_reached p o v h =
      let g = vertex_goes p o v h in
      let k = row_low s row a v h in
      let z : goes s row 0 0 ≡ 0 = goes_improper s row 0 0 (λ n. not-suc-le-zero n.0) in
      let l : subs s 1 (get_or row v 0) ≡ in_order (size s 0) (map (goes s row 0) (subs s 1 v)) =
      rw (least_only (get_or row v 0) k, least_only v h, z) (sym (order_self (size s 0) (0 ∷ []) tt low)) in
      (sym g, k, class_left 0 v (get_or row v 0) k g l)
    where
      low : (x : ℕ) → In x (0 ∷ []) → x < size s 0
      low x (inr x'') = elim x'' [ ]
      low x (inl q) = let one : size s 0 ≡ 1 = ap length ok.least in omega arith

  -- ---- one rank up

  module _ (q : ℕ) (p : Proper s (suc q)) (low : (f : ℕ) → f < size s (suc q) → goes s row (suc q) f < size s (suc q)) where
    -- Where the subs of g are the images of e's, its vertices are the image of e's.
    up : (e g : ℕ) → SameNumbers (subs s (suc (suc q)) g) (map (goes s row (suc q)) (subs s (suc (suc q)) e)) → vertices s (suc (suc q)) g ≡ image s row (suc (suc q)) e
    unfolding vertices image
    up e g h = sets_same (size s 1) (reach s (suc (suc q)) g) (map (λ v. get_or row v 0) (vertices s (suc (suc q)) e)) (λ v. (to v, from v))
      where
        lands : (u : ℕ) → In u (subs s (suc (suc q)) e) → vertices s (suc q) (goes s row (suc q) u) ≡ image s row (suc q) u
        lands u i = goes-vertices s row (suc q) u p (low u (ok.below (suc q) e u i))

        to : (v : ℕ) → In v (vertices s (suc (suc q)) g) → In v (image s row (suc (suc q)) e)
        to v m =
            let f = over s q g v m in
            let u = in_map (goes s row (suc q)) f.0 (subs s (suc (suc q)) e) ((h f.0).0 f.1) in
            let x = in_image (suc q) u.0 v (subst (λ (l : List ℕ). In v l) (ap (vertices s (suc q)) u.2 ∙ lands u.0 u.1) f.2) in
            rw x.2 (image_in (suc (suc q)) e x.0 (under s q e u.0 x.0 u.1 x.1))

        from : (v : ℕ) → In v (image s row (suc (suc q)) e) → In v (vertices s (suc (suc q)) g)
        from v m =
            let x = in_image (suc (suc q)) e v m in
            let u = over s q e x.0 x.1 in
            let k = subst (λ (l : List ℕ). In (get_or row x.0 0) l) (sym (lands u.0 u.1)) (image_in (suc q) u.0 x.0 u.2) in
            rw x.2 (under s q g (goes s row (suc q) u.0) (get_or row x.0 0) ((h (goes s row (suc q) u.0)).1 (map_in (goes s row (suc q)) u.0 (subs s (suc (suc q)) e) u.1)) k)

    module _ (p' : Proper s (suc (suc q))) (o : Once (vertex_sets s (suc q))) (o' : Once (vertex_sets s (suc (suc q))))
        (to : ℕ → ℕ) (is : (f : ℕ) → f < size s (suc q) → to f ≡ goes s row (suc q) f) (e : ℕ) where
      images : map to (subs s (suc (suc q)) e) ≡ map (goes s row (suc q)) (subs s (suc (suc q)) e)
      images = map_same to (goes s row (suc q)) (subs s (suc (suc q)) e) (λ f m. is f (ok.below (suc q) e f m))

      once : Once (map to (subs s (suc (suc q)) e))
      once =
          rw images (once_map (goes s row (suc q)) (subs s (suc (suc q)) e)
          (λ x y i j z. let hx = ok.below (suc q) e x i in goes-apart s row a (suc q) x y p o hx (ok.below (suc q) e y j) (low x hx) z)
          (rising_once (subs s (suc (suc q)) e) (ok.rising (suc (suc q)) e)))

      found : (g : ℕ) → g < size s (suc (suc q)) → onto to (subs s (suc (suc q)) e) (subs s (suc (suc q)) g) ≡ true → Reached s cls row (suc (suc q)) e (Some g)
      found g k t =
          let h : SameNumbers (subs s (suc (suc q)) g) (map (goes s row (suc q)) (subs s (suc (suc q)) e)) = rw images at (onto_same to (subs s (suc (suc q)) e) (subs s (suc (suc q)) g) once t) in
          let z : goes s row (suc (suc q)) e ≡ g = goes-proper s row (suc (suc q)) e p' ∙ ap (λ (l : List ℕ). place eq_list l (vertex_sets s (suc (suc q)))) (sym (up e g h)) ∙ set-place s (suc (suc q)) o' g k in
          let l : subs s (suc (suc q)) g ≡ in_order (size s (suc q)) (map (goes s row (suc q)) (subs s (suc (suc q)) e)) =
          sym (order_self (size s (suc q)) (subs s (suc (suc q)) g) (ok.rising (suc (suc q)) g) (λ x m. ok.below (suc q) g x m))
          ∙ order_same (size s (suc q)) (subs s (suc (suc q)) g) (map (goes s row (suc q)) (subs s (suc (suc q)) e)) (λ v b m. (h v).0 m) (λ v b m. (h v).1 m) in
          (sym z, k, class_left (suc q) e g k z l)

      -- What a carried element goes to passes the test.
      passes : carries_element s cls row (suc (suc q)) e ≡ true → (g : ℕ) × (g < size s (suc (suc q))) × SameNumbers (subs s (suc (suc q)) g) (map to (subs s (suc (suc q)) e))
      passes c =
          let f = fit_of s cls row (suc (suc q)) e c in
          let es = subs s (suc (suc q)) e in (
            goes s row (suc (suc q)) e,
            f.inside,
            (λ x. rw images (
              (λ m. (of_order (size s (suc q)) (map (goes s row (suc q)) es) x (rw f.onto at m)).1),
              (λ m. rw f.onto (in_order_lem (size s (suc q)) (map (goes s row (suc q)) es) x (inside x m) m)),
            )),
          )
        where
          inside : (x : ℕ) → In x (map (goes s row (suc q)) (subs s (suc (suc q)) e)) → x < size s (suc q)
          inside x m = let u = in_map (goes s row (suc q)) x (subs s (suc (suc q)) e) m in rw u.2 (low u.0 (ok.below (suc q) e u.0 u.1))

      pub reached : e < size s (suc (suc q)) → Reached s cls row (suc (suc q)) e (rises_to s to (suc q) e)
      unfolding rises_to
      reached he = go (keep test ups) refl
        where
          test : ℕ → Bool
          test g = onto to (subs s (suc (suc q)) e) (subs s (suc (suc q)) g)

          ups : List ℕ
          ups = sups s (suc q) (to (get_or (subs s (suc (suc q)) e) 0 0))

          missed : keep test ups ≡ [] → carries_element s cls row (suc (suc q)) e ≡ true → ⊥
          missed z c =
              let g = passes c in
              let first = map_in to (get_or (subs s (suc (suc q)) e) 0 0) (subs s (suc (suc q)) e) (in_get_d 0 (subs s (suc (suc q)) e) 0 (filled (suc q) e he)) in
              let above = means_sup s (suc q) g.0 (to (get_or (subs s (suc (suc q)) e) 0 0)) g.1 ((g.2 (to (get_or (subs s (suc (suc q)) e) 0 0))).1 first) in
              let t : test g.0 ≡ true = same_onto to (subs s (suc (suc q)) e) (subs s (suc (suc q)) g.0) once (rising_once (subs s (suc (suc q)) g.0) (ok.rising (suc (suc q)) g.0)) g.2 in
              subst (λ (l : List ℕ). In g.0 l) z (keep_in test g.0 ups above t)

          go : (l : List ℕ) → keep test ups ≡ l → Reached s cls row (suc (suc q)) e (first_of (keep test ups))
          go [] z = rw z (not_passed _ (missed z))
          go (g ∷ l) z =
              let m = in_keep test g ups (subst (λ (k : List ℕ). In g k) (sym z) (inl refl)) in
              rw z (found g (sup_means s (suc q) g (to (get_or (subs s (suc (suc q)) e) 0 0)) m.0).0 m.1)
