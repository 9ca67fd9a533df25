-- The members are listed, after the last flag, or at the first member that has no room.
-- Assumes nothing.
use Rattle.std.specs.Prelude.{Result, Ok, Err}
use Rattle.std.specs.Result.{is_err}
use mathlib.Core.Path.{◌≡◌, refl, sym, ap, ap₂, ◌∙◌}
use mathlib.Core.Bool.{Bool, true}
use mathlib.Core.List.{List, []}
use Prim.Native.Nat.{ℕ}
use native.Mathlib.Omega.{arith}
use lib.ListN.{length}
use lib.Dec.{ltb}
use lib.Ieee.{Float}
use borrow.Author.Tests.{le-ltb}
use Rattle.spec.specs.Lists.{written}
use Rattle.spec.specs.Flags.{Flag}
use Rattle.spec.specs.Search.{Member, Setting}
use Rattle.spec.specs.Calls.{Room, fitting}
use Rattle.laws.proofs.Shapes.{SettingFit}
use Rattle.symmetry.specs.Listing.{members_given, matrix_cells, row_cells, kept_in, number_of, MembersListed}
use Rattle.symmetry.specs.declared.listing.Full.{Full}
use Rattle.symmetry.proofs.Running.{running-end}
use Rattle.symmetry.proofs.Going.{Going}

module _ (w : Setting) (rot : Bool) (m : Room) (d v : ℕ) (shape : SettingFit d v w) (Fs : List Flag) (ms ms' : List Float) (rs rs' : List ℕ) (n : ℕ) where
  -- The members `done` are those that fit.
  ended : (done : List Member) → fitting m d v 0 (members_given w rot Fs) ≡ done → n ≡ length done → (r : Result ℕ Full) → number_of r ≡ n → is_err r ≡ ltb n (length (members_given w rot Fs))
      → ms' ≡ written (matrix_cells done) ms → rs' ≡ written (row_cells done) rs → MembersListed w rot m Fs r ms ms' rs rs'
  unfolding kept_in
  ended done k e r told q a c =
      let kept : done ≡ kept_in w rot m Fs = sym k ∙ ap₂ (λ x y. fitting m x y 0 (members_given w rot Fs)) (sym shape.wide) (sym shape.many) in
      let count : n ≡ length (kept_in w rot m Fs) = e ∙ ap length kept in
      record {
        count = told ∙ count;
        short = q ∙ ap (λ x. ltb x (length (members_given w rot Fs))) count;
        matrices = a ∙ ap (λ l. written (matrix_cells l) ms) kept;
        rows = c ∙ ap (λ l. written (row_cells l) rs) kept;
      }

  pub all_listed : Going w rot m d v Fs [] ms ms' rs rs' n → MembersListed w rot m Fs (Ok n) ms ms' rs rs'
  all_listed g =
      let e = running-end w rot m d v Fs g.done g.running in
      ended g.done e.0 g.count (Ok n) refl (sym (le-ltb n (length (members_given w rot Fs)) (omega (arith, e.1, g.count)))) g.matrices g.rows

  pub short_listed : (left : List Flag) (ms'' : List Float) (rs'' : List ℕ) (g : Going w rot m d v Fs left ms ms'' rs rs'' n) → fitting m d v 0 (members_given w rot Fs) ≡ g.done
      → ltb n (length (members_given w rot Fs)) ≡ true → ms' ≡ ms'' → rs' ≡ rs'' → MembersListed w rot m Fs (Err (record { 0 = n })) ms ms' rs rs'
  short_listed left ms'' rs'' g k q a b = ended g.done k g.count (Err (record { 0 = n })) refl (sym q) (a ∙ g.matrices) (b ∙ g.rows)
