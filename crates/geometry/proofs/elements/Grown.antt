-- Distances are taken one after another, and the list and the values that are taken grow by this.
-- Assumes nothing.
use mathlib.Core.Path.{◌≡◌, refl, sym, ap, ap₂, ◌∙◌}
use mathlib.Core.List.{List, [], ◌∷◌, ◌++◌}
use Prim.Native.Nat.{ℕ}
use native.Mathlib.Omega.{arith}
use lib.ListN.{take, length-append}
use lib.Ieee.{Float}
use Rattle.spec.specs.Hull.{listing, classes_from}
use Rattle.geometry.specs.declared.classes.ListedValue.{ListedValue}
use Rattle.geometry.specs.Classes.{Takes}
use Rattle.geometry.specs.Listed.{list_after, ListGrown}

after-append : (l xs ys : List Float) → list_after l (xs ++ ys) ≡ list_after (list_after l xs) ys
unfolding list_after
after-append l [] ys = refl
after-append l (x ∷ xs) ys = after-append (listing l x).1 xs ys

classes-append : (l xs ys : List Float) → classes_from l (xs ++ ys) ≡ classes_from l xs ++ classes_from (list_after l xs) ys
unfolding classes_from list_after
classes-append l [] ys = refl
classes-append l (x ∷ xs) ys = ap (λ (c : List Float). (listing l x).0 ∷ c) (classes-append (listing l x).1 xs ys)

-- At first no distance was taken.
pub grown_none : (old : List Float) (n : ℕ) → ListGrown old old n n [] []
unfolding list_after classes_from
grown_none old n = record { few = omega arith; list = refl; taken = refl }

-- One distance is taken.
pub grown_one : {old new : List Float} {n : ℕ} {x : Float} {t : ListedValue} → Takes old new n x t → ListGrown old new n t.count (x ∷ []) (t.value ∷ [])
unfolding list_after classes_from
grown_one took = record {
  few = took.room;
  list = ap (λ (q : Float × List Float). q.1) took.is;
  taken = ap (λ (q : Float × List Float). q.0 ∷ []) took.is;
}

-- The distances xs, and then ys, are taken.
pub grown_more : {a b c : List Float} {n m p : ℕ} {xs ys us vs : List Float} → ListGrown a b n m xs us → ListGrown b c m p ys vs → ListGrown a c n p (xs ++ ys) (us ++ vs)
grown_more {a = a} {n = n} {xs = xs} {ys = ys} f g =
    let l = take n a in
    record {
      few = omega (arith, length-append xs ys, f.few, g.few);
      list = g.list ∙ ap (λ (m : List Float). list_after m ys) f.list ∙ sym (after-append l xs ys);
      taken = ap₂ ◌++◌ f.taken (g.taken ∙ ap (λ (m : List Float). classes_from m ys) f.list) ∙ sym (classes-append l xs ys);
    }
