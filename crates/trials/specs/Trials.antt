-- This file has section "Trial solids": "Cases marked P are proved jointly, one theorem over the lot." The theorem says of each sheet which solid it
-- holds, by what reading it gives, and what the calls and the program `kit` answer for it. The calls are lent what `kit` lends.
-- Assumes nothing.
use Rattle.std.specs.Prelude.{◌≡◌, refl, ℕ, ◌*◌, ◌≤◌, ◌<◌, false, List, [], ◌∷◌, ◌++◌, length, replicate, Float, pos, Ok}
use Rattle.std.proofs.Common.{ap, arith}
use Rattle.std.specs.Float.{fin, binary64}
use Rattle.std.specs.Float.Ieee.{of_bits, neg}
use Rattle.spec.specs.declared.Refusal.TheVariants.{NotFull, DoubleCorner, Centred, Flat, Open}
use Rattle.spec.specs.Refusal.{Answer, refused_with}
use Rattle.spec.specs.Ascii.{ascii}
use Rattle.spec.specs.Float.{zero_f, one_f, root}
use Rattle.spec.specs.Lists.{join}
use Rattle.spec.specs.Sheet.{Parsed, read_sheet}
use Rattle.spec.specs.Copying.{axis_orders, copy_call}
use Rattle.spec.specs.Calls.{TypesOut, types_call, SearchOut, search_call, rotations_call}
use Rattle.laws.specs.CallLaws.{NoProperRank}
use Rattle.spec.specs.KitText.{element_cells, type_records, lent, work_words, work_floats, longest, kit_text}
use Rattle.spec.specs.Eval.{evaluate}
use Rattle.spec.specs.NumberExamples.{all}
use Rattle.spec.specs.CallExamples.{dyad, lopsided, tiny, close}
use Rattle.laws.proofs.LowSheets.{every-low-sheet, kit_laws}
use Rattle.trials.specs.Sheets.{square, doubled, rhombus, single}
use Rattle.trials.specs.AxisOrders.{forty_eight}

-- ---- the numbers and the solids that the cases speak of

-- A float `fin s m e` is m times 2 ^ e, and negative where s is true; `neg` changes its sign.
abbrev zero : Float
zero = fin false 0 (pos 0)

abbrev one : Float
one = fin false 1 (pos 0)

abbrev two : Float
two = fin false 1 (pos 1)

abbrev three : Float
three = fin false 3 (pos 0)

abbrev four : Float
four = fin false 1 (pos 2)

-- This is the binary64 nearest to 1e-7, by its bit pattern.
abbrev ten_millionth : Float
ten_millionth = of_bits binary64 0x3e7a_d7f2_9abc_af48

-- Here R = 3 in two dimensions, with four vertices, and the edges 01, 12, 23, 03.
abbrev quadrangle : List (List Float) → Parsed
quadrangle vertices = record {
  rank = 3;
  dimension = 2;
  counts = 4 ∷ 4 ∷ [];
  points = vertices;
  lists = ((0 ∷ 1 ∷ []) ∷ (1 ∷ 2 ∷ []) ∷ (2 ∷ 3 ∷ []) ∷ (0 ∷ 3 ∷ []) ∷ []) ∷ [];
}

-- Here R = 2 in one dimension, with two vertices, and no list.
abbrev segment : Float → Float → Parsed
segment x y = record { rank = 2; dimension = 1; counts = 2 ∷ []; points = (x ∷ []) ∷ (y ∷ []) ∷ []; lists = [] }

-- ---- the calls as `kit` makes them

-- The outputs hold 7 before the call, so that the cells past an answer are seen to stay.
abbrev types_lent : TypesOut
types_lent = record { elements = replicate element_cells 7; types = replicate type_records 7 }

abbrev search_lent : SearchOut
search_lent = record { matrices = replicate lent.floats one_f; rows = replicate lent.entries 7; marks = replicate lent.marks 7 }

abbrev types_in : List ℕ → Answer × TypesOut
types_in b = types_call b work_words work_floats types_lent

abbrev members : List ℕ → Answer
members b = (search_call b work_words work_floats search_lent).0

abbrev rotations : List ℕ → Answer
rotations b = (rotations_call b work_words work_floats search_lent).0

-- This is what copying answers for the point p under some turns in d dimensions, with room for n points.
abbrev copies : ℕ → ℕ → List Float → List Float → Answer
copies d n p turns = (copy_call d p turns (replicate (d * n) zero_f) (replicate (48 * n) 0)).0

-- These are the 48 signed axis orders, as a caller lends them.
abbrev turns48 : List Float
turns48 = join (join axis_orders)

-- ---- the cases

pub record Trials : Type 0 where
  -- The first case is "square (1,1), (−1,1), (−1,−1), (1,−1), edges 01, 12, 23, 03: 85 bytes".
  pub square-bytes : length square ≡ 85
  pub square_reads : read_sheet square ≡ Ok (quadrangle ((one ∷ one ∷ []) ∷ (neg one ∷ one ∷ []) ∷ (neg one ∷ neg one ∷ []) ∷ (one ∷ neg one ∷ []) ∷ []))
  pub square_kit : kit_text square ≡ ascii "types 2\n1 0 0 4\n2 0 0 4\nmembers 8 confirmed 8 rotations 4\n"
  -- The program's case is "input past 8,192 bytes is refused 1".
  pub long_kit : (b : List ℕ) → longest < length b → kit_text b ≡ ascii "refused 1\n"
  -- The next case is "that square, first coordinates doubled: edge types 0 and 1, two each; 4 members, 2 rotations".
  pub doubled_reads : read_sheet doubled ≡ Ok (quadrangle ((two ∷ one ∷ []) ∷ (neg two ∷ one ∷ []) ∷ (neg two ∷ neg one ∷ []) ∷ (two ∷ neg one ∷ []) ∷ []))
  pub doubled-types : types_in doubled
      ≡ (Ok 3, record { elements = (0 ∷ 0 ∷ 0 ∷ 0 ∷ 0 ∷ 1 ∷ 0 ∷ 1 ∷ []) ++ replicate 248 7; types = (1 ∷ 0 ∷ 0 ∷ 4 ∷ 2 ∷ 0 ∷ 0 ∷ 2 ∷ 2 ∷ 1 ∷ 1 ∷ 2 ∷ []) ++ replicate 1012 7 })
  pub doubled-members : members doubled ≡ Ok 4
  pub doubled-rotations : rotations doubled ≡ Ok 2
  -- The next case is "(2,0), (0,1), (−2,0), (0,−1): vertex types two and two, one edge type; 4 members".
  pub rhombus_reads : read_sheet rhombus ≡ Ok (quadrangle ((two ∷ zero ∷ []) ∷ (zero ∷ one ∷ []) ∷ (neg two ∷ zero ∷ []) ∷ (zero ∷ neg one ∷ []) ∷ []))
  pub rhombus-types : types_in rhombus
      ≡ (Ok 3, record { elements = (0 ∷ 1 ∷ 0 ∷ 1 ∷ 0 ∷ 0 ∷ 0 ∷ 0 ∷ []) ++ replicate 248 7; types = (1 ∷ 0 ∷ 0 ∷ 2 ∷ 1 ∷ 1 ∷ 1 ∷ 2 ∷ 2 ∷ 0 ∷ 0 ∷ 4 ∷ []) ++ replicate 1012 7 })
  pub rhombus-members : members rhombus ≡ Ok 4
  -- The next case is "R = 2 at −1 and 1: 2 members, 1 rotation."
  pub dyad_reads : read_sheet dyad ≡ Ok (segment (neg one) one)
  pub dyad-members : members dyad ≡ Ok 2
  pub dyad-rotations : rotations dyad ≡ Ok 1
  -- The next case is "At 0 and 1: 11."
  pub lopsided_reads : read_sheet lopsided ≡ Ok (segment zero one)
  pub lopsided-members : members lopsided ≡ refused_with Flat 0
  -- The next case is "At −1e-7 and 1e-7: 10."
  pub tiny_reads : read_sheet tiny ≡ Ok (segment (neg ten_millionth) ten_millionth)
  pub tiny-members : members tiny ≡ refused_with Centred 0
  -- The next case is "At 0 and 1e-7: 9, yet two vertex types".
  pub close_reads : read_sheet close ≡ Ok (segment zero ten_millionth)
  pub close-members : members close ≡ refused_with DoubleCorner 0
  pub close-types : types_in close
      ≡ (Ok 2, record { elements = (0 ∷ 1 ∷ []) ++ replicate 254 7; types = (1 ∷ 0 ∷ 0 ∷ 1 ∷ 1 ∷ 1 ∷ 1 ∷ 1 ∷ []) ++ replicate 1016 7 })
  -- "R = 1: no types; search 8" holds of every accepted sheet of that rank, on any workspace of at least 64 words and 64 floats, with any outputs.
  -- The second field says what `kit` prints for such a sheet.
  pub rank-one_calls : (b : List ℕ) (p : Parsed) → read_sheet b ≡ Ok p → p.rank ≡ 1 → (words floats : ℕ) → 64 ≤ words → 64 ≤ floats → NoProperRank b words floats
  pub rank-one_kit : (b : List ℕ) (p : Parsed) → read_sheet b ≡ Ok p → p.rank ≡ 1 → kit_text b ≡ ascii "types 0\nrefused 8\n"
  -- The sheet of the one vertex (1,2) is among them.
  pub single_reads : read_sheet single ≡ Ok (record { rank = 1; dimension = 2; counts = []; points = (one ∷ two ∷ []) ∷ []; lists = [] })
  pub single-types : types_in single ≡ (Ok 0, types_lent)
  pub single-members : members single ≡ refused_with NotFull 0
  -- The case of roots is "root of 4 is 2; of 2 is 0x3FF6A09E667F3BCD".
  pub root-of_4 : root four ≡ two
  pub root-of_2 : root two ≡ of_bits binary64 0x3FF6_A09E_667F_3BCD
  -- The cases of copying are "under the 48, (1,0,0) has 6 copies, (1,1,1) 8, (1,2,3) 48. A quarter turn alone on (1,0): 14".
  pub six_copies : copies 3 6 (one ∷ zero ∷ zero ∷ []) turns48 ≡ Ok 6
  pub eight_copies : copies 3 8 (one ∷ one ∷ one ∷ []) turns48 ≡ Ok 8
  pub forty_eight_copies : copies 3 48 (one ∷ two ∷ three ∷ []) turns48 ≡ Ok 48
  pub quarter_turn : copies 2 1 (one ∷ zero ∷ []) (zero ∷ neg one ∷ one ∷ zero ∷ []) ≡ refused_with Open 1

pub trials : Trials
unfolding evaluate all
trials = record {
  square-bytes = refl;
  square_reads = refl;
  square_kit = refl;
  long_kit = kit_laws.long;
  doubled_reads = refl;
  doubled-types = refl;
  doubled-members = refl;
  doubled-rotations = refl;
  rhombus_reads = refl;
  rhombus-types = refl;
  rhombus-members = refl;
  dyad_reads = refl;
  dyad-members = refl;
  dyad-rotations = refl;
  lopsided_reads = refl;
  lopsided-members = refl;
  tiny_reads = refl;
  tiny-members = refl;
  close_reads = refl;
  close-members = refl;
  close-types = refl;
  rank-one_calls = λ b p e r. every-low-sheet b p e (omega arith);
  rank-one_kit = λ b p e r. kit_laws.low b p e (omega arith);
  single_reads = refl;
  single-types = refl;
  single-members = refl;
  root-of_4 = refl;
  root-of_2 = refl;
  six_copies = refl;
  eight_copies = refl;
  forty_eight_copies = ap (λ t. t.0) forty_eight;
  quarter_turn = refl;
}
