-- The lines are pieces that are put one after another, and there is room for each where there is room for the line.
-- Assumes nothing.
use mathlib.Core.Path.{◌≡◌}
use mathlib.Core.List.{List, ◌++◌, append_assoc}
use Prim.Native.Nat.{ℕ, ◌^◌, ◌≤◌, ◌<◌}
use native.Mathlib.Omega.{arith}
use lib.ListN.{length, length-append}
use Rattle.spec.specs.declared.Refusal.{Refusal}
use Rattle.spec.specs.declared.Refusal.TheVariants.{CutSheet, Format, OffTheBoard, BadList, Loose, Mitre, Bench, NotFull, DoubleCorner, Centred, Flat, Blank, ShortSheet, Open, Unsettled}
use Rattle.spec.specs.Refusal.{number}
use Rattle.spec.specs.Ascii.{ascii}
use Rattle.spec.specs.KitText.{decimal, refused_line, type_line}
use Rattle.text.specs.declared.writing.Text.{Text}
use Rattle.text.specs.Members.{members_text}
use Rattle.text.specs.Growing.{HasRoom}
use Rattle.text.proofs.Decimals.{decimal_long, decimal-word}
use Rattle.text.proofs.Growing.{less}

-- This is a number behind its label.
abbrev pub part : List ℕ → ℕ → List ℕ
part label n = label ++ decimal n

module _ (why : Refusal) (n : ℕ) (e : n ≡ number why) where
  pub refused_pieces : refused_line why ≡ part (ascii "refused ") n ++ ascii "\n"
  unfolding refused_line
  refused_pieces = rw e

  module _ (s : Text) (h : HasRoom s (refused_line why)) where
    pub refused_rooms : HasRoom s (part (ascii "refused ") n) × HasRoom s (part (ascii "refused ") n ++ ascii "\n")
    refused_rooms =
        let r = rw refused_pieces at h in
        (less s (part (ascii "refused ") n) (ascii "\n") r, r)

module _ (r n e c : ℕ) where
  pub type_pieces : type_line (record { rank = r; number = n; example = e; count = c })
      ≡ decimal r ++ part (ascii " ") n ++ part (ascii " ") e ++ part (ascii " ") c ++ ascii "\n"
  unfolding type_line
  type_pieces = simp append_assoc

  module _ (s : Text) (h : HasRoom s (type_line (record { rank = r; number = n; example = e; count = c }))) where
    pub type-rooms :
        HasRoom s (decimal r)
        × HasRoom s (decimal r ++ part (ascii " ") n)
        × HasRoom s (decimal r ++ part (ascii " ") n ++ part (ascii " ") e)
        × HasRoom s (decimal r ++ part (ascii " ") n ++ part (ascii " ") e ++ part (ascii " ") c)
        × HasRoom s (decimal r ++ part (ascii " ") n ++ part (ascii " ") e ++ part (ascii " ") c ++ ascii "\n")
    type-rooms =
        let a = decimal r in
        let b = a ++ part (ascii " ") n in
        let d = b ++ part (ascii " ") e in
        let f = d ++ part (ascii " ") c in
        let r4 : HasRoom s (f ++ ascii "\n") = rw type_pieces at h in
        let r3 = less s f (ascii "\n") r4 in
        let r2 = less s d (part (ascii " ") c) r3 in
        let r1 = less s b (part (ascii " ") e) r2 in
        (less s a (part (ascii " ") n) r1, r1, r2, r3, r4)

module _ (n c k : ℕ) where
  pub member_pieces : members_text n c k
      ≡ part (ascii "members ") n ++ part (ascii " confirmed ") c ++ part (ascii " rotations ") k ++ ascii "\n"
  unfolding members_text
  member_pieces = simp append_assoc

  module _ (s : Text) (h : HasRoom s (members_text n c k)) where
    pub member-rooms :
        HasRoom s (part (ascii "members ") n)
        × HasRoom s (part (ascii "members ") n ++ part (ascii " confirmed ") c)
        × HasRoom s (part (ascii "members ") n ++ part (ascii " confirmed ") c ++ part (ascii " rotations ") k)
        × HasRoom s (part (ascii "members ") n ++ part (ascii " confirmed ") c ++ part (ascii " rotations ") k ++ ascii "\n")
    member-rooms =
        let a = part (ascii "members ") n in
        let b = a ++ part (ascii " confirmed ") c in
        let d = b ++ part (ascii " rotations ") k in
        let r3 : HasRoom s (d ++ ascii "\n") = rw member_pieces at h in
        let r2 = less s d (ascii "\n") r3 in
        let r1 = less s b (part (ascii " rotations ") k) r2 in
        (less s a (part (ascii " confirmed ") c) r1, r1, r2, r3)

-- ---- how long they are, in bytes

number_small : (why : Refusal) → number why < 10 ^ 2
number_small CutSheet = omega arith
number_small Format = omega arith
number_small OffTheBoard = omega arith
number_small BadList = omega arith
number_small Loose = omega arith
number_small Mitre = omega arith
number_small Bench = omega arith
number_small NotFull = omega arith
number_small DoubleCorner = omega arith
number_small Centred = omega arith
number_small Flat = omega arith
number_small Blank = omega arith
number_small ShortSheet = omega arith
number_small Open = omega arith
number_small Unsettled = omega arith

pub refused_long : (why : Refusal) → length (refused_line why) ≤ 11
unfolding refused_line ascii
refused_long why = simp length-append (omega (arith, decimal_long 1 (number why) (number_small why)))

pub members_long : (n c k : ℕ) → n < 2 ^ 64 → c < 2 ^ 64 → k < 2 ^ 64 → length (members_text n c k) ≤ 91
unfolding members_text ascii
members_long n c k f g h = simp length-append (omega (arith, decimal-word n f, decimal-word c g, decimal-word k h))
