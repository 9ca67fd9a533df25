-- The whole text goes by the sheet's length and the types call's answer.
-- Assumes nothing.
use Rattle.std.specs.Prelude.{Err, Ok}
use mathlib.Core.Path.{◌≡◌, refl, sym, ap, ◌∙◌}
use mathlib.Core.List.{List, ◌++◌, map}
use Prim.Native.Nat.{ℕ, ◌*◌, ◌≤◌, ◌<◌}
use native.Mathlib.Omega.{arith}
use borrow.Author.Tests.{lt-ltb, le-ltb}
use lib.ListN.{length, take}
use Rattle.spec.specs.declared.Refused.{Refused}
use Rattle.spec.specs.declared.Refusal.TheVariants.{CutSheet}
use Rattle.spec.specs.Refusal.{Answer, refused_with}
use Rattle.spec.specs.Lists.{join, written}
use Rattle.spec.specs.Types.{ElementType}
use Rattle.spec.specs.Judged.{Judged}
use Rattle.spec.specs.Calls.{Given, type_cells, TypesOut, types_given, types_written, types_call, outcome, members_in}
use Rattle.spec.specs.KitText.{refused_line, types_lines, last_line, after_types, kit_text, element_cells, type_records, lent, work_words, work_floats, longest}
use Rattle.laws.proofs.CallProofs.{behind}
use Rattle.text.specs.Cells.{types_from}
use Rattle.text.proofs.Outputs.{types-out}

pub cut_text : (b : List ℕ) → longest < length b → refused_line CutSheet ≡ kit_text b
unfolding kit_text
cut_text b h = rw (lt-ltb longest (length b) h, kit_text) refl

-- The sheet is not too long, and its types call answered a.
module _ (b : List ℕ) (old new : TypesOut) (a : Answer) (words floats : ℕ) (e : (a, new) ≡ types_call b words floats old) (short : length b ≤ longest)
    (w : words ≡ work_words) (f : floats ≡ work_floats) (m : length old.elements ≡ element_cells) (t : length old.types ≡ type_records) where
  abbrev judged : Judged Given
  judged = types_given b work_words work_floats element_cells type_records

  abbrev last : List ℕ
  last = last_line (outcome (members_in b work_words work_floats) lent)

  part_text : after_types judged b ≡ kit_text b
  unfolding kit_text
  part_text = rw (le-ltb longest (length b) short, kit_text) refl

  wrote : (a, new) ≡ types_written judged old
  unfolding types_call
  wrote = rw (w, f, m, t) at e

  pub done_text : (n : ℕ) → a ≡ Ok n → (4 * n ≤ type_records) × (types_lines (types_from (take (4 * n) new.types)) ++ last ≡ kit_text b)
  unfolding types_written after_types
  done_text n d = let r = go judged refl wrote in (r.0, r.1 ∙ part_text)
    where
      go : (j : Judged Given) → judged ≡ j → (a, new) ≡ types_written j old → (4 * n ≤ type_records) × (types_lines (types_from (take (4 * n) new.types)) ++ last ≡ after_types j b)
      go (Err why) q p =
          let r : Ok n ≡ refused_with why 0 = sym d ∙ ap (λ (x : Answer × TypesOut). x.0) p in
          let z : ◌≡◌ {A = ℕ} 0 1 = cc in
          absurd (omega arith)
      go (Ok g) q p =
          let r : Ok n ≡ Ok (length g.types) = sym d ∙ ap (λ (x : Answer × TypesOut). x.0) p in
          let k : n ≡ length g.types = cc in
          let l : new.types ≡ written (join (map type_cells g.types)) old.types = ap (λ (x : Answer × TypesOut). x.1.types) p in (
            omega (arith, (behind b work_words work_floats element_cells type_records g q).types),
            rw (k, l) (ap (λ (ks : List ElementType). types_lines ks ++ last) (types-out g.types old.types)),
          )

  pub refused_text : (r : Refused) → a ≡ Err r → refused_line r.why ≡ kit_text b
  unfolding types_written after_types
  refused_text r d = go judged wrote ∙ part_text
    where
      go : (j : Judged Given) → (a, new) ≡ types_written j old → refused_line r.why ≡ after_types j b
      go (Err why) p =
          let q : ◌≡◌ {A = Answer} (Err r) (refused_with why 0) = sym d ∙ ap (λ (x : Answer × TypesOut). x.0) p in
          let z : r ≡ record { why = why; kept = 0 } = cc in
          ap (λ (x : Refused). refused_line x.why) z
      go (Ok g) p =
          let q : ◌≡◌ {A = Answer} (Err r) (Ok (length g.types)) = sym d ∙ ap (λ (x : Answer × TypesOut). x.0) p in
          let z : ◌≡◌ {A = ℕ} 0 1 = cc in
          absurd (omega arith)
