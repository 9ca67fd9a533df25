-- The last line goes by the search's answer, and says what the search wrote.
-- Assumes nothing.
use Rattle.std.specs.Prelude.{Err, Ok, IsOk, IfOk}
use mathlib.Core.Path.{◌≡◌, refl, sym, ap, ◌∙◌, subst}
use mathlib.Core.Logic.{inl, inr}
use mathlib.Core.Bool.{Bool, true, false}
use mathlib.Core.List.{List, [], ◌∷◌, map}
use Prim.Native.Nat.{ℕ, ◌*◌, ◌≤◌}
use native.Mathlib.Omega.{arith}
use lib.ListN.{length, take, length-map}
use lib.Dec.{ltb}
use Rattle.spec.specs.declared.Refused.{Refused}
use Rattle.spec.specs.declared.Refusal.TheVariants.{Blank, ShortSheet}
use Rattle.spec.specs.Refusal.{Answer}
use Rattle.spec.specs.Limits.{max_dimension}
use Rattle.spec.specs.Lists.{In, sum, join, parts}
use Rattle.spec.specs.Judged.{Judged}
use Rattle.spec.specs.Sheet.{Parsed, read_sheet}
use Rattle.spec.specs.Solid.{Concrete}
use Rattle.spec.specs.Search.{Member}
use Rattle.spec.specs.Calls.{Room, Outcome, fitting, kept_of, outcome, members_in, SearchOut, room_of, search_written, search_call}
use Rattle.spec.specs.KitText.{refused_line, members_line, last_line, lent, work_words, work_floats}
use Rattle.laws.proofs.Accepted.{every_passed}
use Rattle.laws.proofs.CallProofs.{apart, counted, choose}
use Rattle.laws.proofs.CopyLaws.{Wide, wide-join}
use Rattle.laws.proofs.Listed.{found_in, members_confirm}
use Rattle.laws.proofs.Shapes.{Square, square_long, MembersShaped, members-shaped, found-cells}
use Rattle.text.specs.Members.{members_text, rotation_count}
use Rattle.text.proofs.Outputs.{members-out}

-- ---- a search that was done

kept-done : (l kept : List Member) (n : ℕ) → (kept_of l kept).answer ≡ Ok n → length (kept_of l kept).members ≡ n
unfolding kept_of choose
kept-done [] kept n e = absurd (apart Blank 0 n e)
kept-done (x ∷ l) kept n e = go (ltb (length kept) (length (x ∷ l))) e
  where
    go : (b : Bool) → (choose kept b).answer ≡ Ok n → length (choose kept b).members ≡ n
    go true e = absurd (apart ShortSheet (length kept) n e)
    go false e = counted (length kept) n e

-- The sheet passed, and n members are written.
found-done : (o : Judged (Concrete × List Member)) (m : Room) (n : ℕ) → (outcome o m).answer ≡ Ok n
    → (y : Concrete × List Member) × (o ≡ Ok y) × (length (outcome o m).members ≡ n)
unfolding outcome
found-done (Err why) m n e = absurd (apart why 0 n e)
found-done (Ok y) m n e = (y, refl, kept-done y.1 (fitting m y.0.dimension (length y.0.points) 0 y.1) n e)

done_line : (f : Outcome) (n : ℕ) → f.answer ≡ Ok n → last_line f ≡ members_line f.members
unfolding last_line
done_line f n e = rw (e, last_line) refl

refused_line_lem : (f : Outcome) (r : Refused) → f.answer ≡ Err r → last_line f ≡ refused_line r.why
unfolding last_line
refused_line_lem f r e = rw (e, last_line) refl

-- The sheet was read, and the solid's D is the sheet's.
read_as : (b : List ℕ) (words floats : ℕ) (y : Concrete × List Member) → members_in b words floats ≡ Ok y
    → (p : Parsed) × (read_sheet b ≡ Ok p) × (y.0.dimension ≡ p.dimension) × (y.0.dimension ≤ max_dimension)
read_as b words floats y e = let p = every_passed b words floats y.0 ((members_confirm b words floats).read y e) in (p.parsed, p.read, p.dimension, p.wide)

dimension_is : (b : List ℕ) (words floats : ℕ) (y : Concrete × List Member) → members_in b words floats ≡ Ok y → (d : ℕ) → IfOk (read_sheet b) (λ p. d ≡ p.dimension)
    → d ≡ y.0.dimension
dimension_is b words floats y e d s = let p = read_as b words floats y e in (rw p.1 at s) ∙ sym p.2

-- Each member takes d * d cells.
squares_wide : (d : ℕ) (ms : List Member) → ((x : Member) → In x ms → Square d x.matrix) → Wide (d * d) (map (λ x. join x.matrix) ms)
squares_wide d [] s = tt
squares_wide d (x ∷ ms) s = (square_long d x.matrix (s x (inl refl)), squares_wide d ms (λ z i. s z (inr i)))

-- ---- the call

module _ (b : List ℕ) (old new : SearchOut) (a : Answer) (words floats : ℕ) (e : (a, new) ≡ search_call b words floats old) (w : words ≡ work_words) (f : floats ≡ work_floats)
    (h : length old.matrices ≡ lent.floats) (i : length old.rows ≡ lent.entries) (j : length old.marks ≡ lent.marks) where
  abbrev members : Judged (Concrete × List Member)
  members = members_in b work_words work_floats

  abbrev found : Outcome
  found = outcome members lent

  room : room_of old ≡ lent
  unfolding room_of
  room = rw (h, i, j) refl

  wrote : (a, new) ≡ search_written found old
  unfolding search_call
  wrote = rw (w, f, room) at e

  answered : a ≡ found.answer
  unfolding search_written
  answered = ap (λ (x : Answer × SearchOut). x.0) wrote

  pub refused-last : (r : Refused) → a ≡ Err r → refused_line r.why ≡ last_line found
  refused-last r d = sym (refused_line_lem found r (sym answered ∙ d))

  solid : (n : ℕ) → a ≡ Ok n → (y : Concrete × List Member) × (members ≡ Ok y) × (length found.members ≡ n)
  solid n q = found-done members lent n (sym answered ∙ q)

  -- A sheet whose search is done was accepted, so its D can be read from its bits.
  pub accepted : (n : ℕ) → a ≡ Ok n → IsOk (read_sheet b)
  accepted n q = let y = solid n q in rw (read_as b work_words work_floats y.0 y.1).1

  module _ (n : ℕ) (q : a ≡ Ok n) (d : ℕ) (s : IfOk (read_sheet b) (λ p. d ≡ p.dimension)) where
    pub flat : d ≤ max_dimension
    flat = let y = solid n q in omega (arith, dimension_is b work_words work_floats y.0 y.1 d s, (read_as b work_words work_floats y.0 y.1).3)

    square : (x : Member) → In x found.members → Square d x.matrix
    unfolding MembersShaped
    square x i =
        let h = found_in members lent x i in
        rw (dimension_is b work_words work_floats h.0 h.1 d s) (members-shaped b work_words work_floats h.0 h.1 x h.2).matrix

    pub marks_hold : n ≤ lent.marks
    marks_hold = omega (arith, (found-cells members (members-shaped b work_words work_floats) lent).marks, length-map found.members (λ x. x.mark), (solid n q).2)

    pub matrices-hold : n * (d * d) ≤ lent.floats
    matrices-hold =
        let c = (found-cells members (members-shaped b work_words work_floats) lent).matrices in
        let j = wide-join (d * d) (map (λ x. join x.matrix) found.members) (squares_wide d found.members square) in
        let l = length-map found.members (λ x. join x.matrix) in
        let k : length (map (λ (x : Member). join x.matrix) found.members) ≡ n = l ∙ (solid n q).2 in
        subst (λ (i : ℕ). i ≤ lent.floats) (j ∙ ap (λ (i : ℕ). i * (d * d)) k) c

    pub done-last : members_text n (sum (take n new.marks)) (rotation_count (map (parts d d) (parts n (d * d) new.matrices))) ≡ last_line found
    unfolding search_written
    done-last =
        let m = ap (λ (x : Answer × SearchOut). x.1.marks) wrote in
        let t = ap (λ (x : Answer × SearchOut). x.1.matrices) wrote in
        rw (m, t, ← (solid n q).2) (members-out d found.members old.marks old.matrices square) ∙ sym (done_line found n (sym answered ∙ q))
