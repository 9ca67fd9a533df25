-- Demand 3 holds of the calls. A search writes out its members in order: cell k of the marks and part k of the rows are member k's.
-- Assumes nothing.
use Rattle.std.specs.Prelude.{Err, Ok}
use mathlib.Core.Path.{◌≡◌, refl, sym, ◌∙◌, ap, subst}
use mathlib.Core.Logic.{inl, inr}
use Prim.Native.Nat.{ℕ, zero, suc, ◌+◌, ◌*◌, ◌<◌}
use mathlib.Core.Bool.{Bool, true, false}
use mathlib.Core.List.{List, [], ◌∷◌, ◌++◌, map, append_assoc}
use native.Mathlib.Nat.{suc-mul, zero-mul}
use native.Mathlib.Omega.{arith}
use lib.ListN.{length, get_or, take, drop, length-map, get_or-append}
use lib.Seq.{take_at, drop-append-add}
use lib.Dec.{ltb}
use Rattle.spec.specs.Lists.{In, join, written}
use Rattle.spec.specs.Types.{State, start, play}
use Rattle.spec.specs.Mark.{marked}
use Rattle.spec.specs.Demand.{Agree}
use Rattle.spec.specs.Judged.{Judged}
use Rattle.spec.specs.Solid.{Concrete, preflight}
use Rattle.spec.specs.Classes.{class_table, by_table, types_of}
use Rattle.spec.specs.Search.{Member}
use Rattle.spec.specs.Calls.{Given, type_cells, TypesOut, types_given, types_written, types_call, Room, fitting, kept_of, outcome, members_in, rotations_in, SearchOut, room_of, search_written, search_call, rotations_call}
use Rattle.spec.specs.Refusal.{answer_count}
use Rattle.spec.specs.Demand3Calls.{row_at, ListedMembers}
use Rattle.laws.specs.Demand3.{Demand3Calls}
use Rattle.laws.proofs.Lists.{in_get_d, in_map, get_or-map}
use Rattle.laws.proofs.Accepted.{one-solid, every_passed}
use Rattle.laws.proofs.Demand3.{demand3}
use Rattle.laws.proofs.Listed.{found_in, Confirms, members_confirm, rotations_confirm}
use Rattle.laws.proofs.Shapes.{MembersShaped, members-shaped, rotations-shaped}
use Rattle.laws.proofs.CallProofs.{apart, counted, choose, behind}

-- ---- part k of lists of one length

drop_past : {A : Type 0} (l m : List A) (v n : ℕ) → length l ≡ v → drop (n + v) (l ++ m) ≡ drop n m
drop_past l m v n e = let q : n + v ≡ length l + n = omega arith in rw q (drop-append-add l m n)

part_of : {A : Type 0} (v : ℕ) (ls : List (List A)) → ((l : List A) → In l ls → length l ≡ v) → (rest : List A) (k : ℕ) → k < length ls → take v (drop (k * v) (join ls ++ rest)) ≡ get_or ls k []
unfolding join
part_of v [] f rest k h = absurd (omega arith)
part_of v (l ∷ ls) f rest zero h = rw (zero-mul, append_assoc) (take_at l (join ls ++ rest) v (f l (inl refl)))
part_of v (l ∷ ls) f rest (suc k) h =
    rw (suc-mul k v, append_assoc l (join ls) rest, drop_past l (join ls ++ rest) v (k * v) (f l (inl refl)))
    (part_of v ls (λ m i. f m (inr i)) rest k (omega arith))

-- ---- the members that a search writes out

kept-count : (l kept : List Member) → answer_count (kept_of l kept).answer ≡ length (kept_of l kept).members
unfolding kept_of choose
kept-count [] kept = refl
kept-count (x ∷ l) kept = go (ltb (length kept) (length (x ∷ l)))
  where
    go : (b : Bool) → answer_count (choose kept b).answer ≡ length (choose kept b).members
    go true = refl
    go false = refl

found-count : (o : Judged (Concrete × List Member)) (m : Room) → answer_count (outcome o m).answer ≡ length (outcome o m).members
unfolding outcome
found-count (Err why) m = refl
found-count (Ok x) m = kept-count x.1 (fitting m x.0.dimension (length x.0.points) 0 x.1)

-- This is what is read past the last member.
no_member : Member
no_member = record { matrix = []; row = []; mark = 0 }

-- The members of the call are o, and the solid of the sheet is c.
module _ (b : List ℕ) (words floats : ℕ) (o : Judged (Concrete × List Member)) (shaped : MembersShaped o) (w : Confirms b words floats o)
    (words' floats' : ℕ) (c : Concrete) (e : preflight b words' floats' ≡ Ok c) (old : SearchOut) where
  ms : List Member
  ms = (outcome o (room_of old)).members

  row-length : (x : Member) → In x ms → length x.row ≡ length c.points
  unfolding ms MembersShaped
  row-length x m =
      let f = found_in o (room_of old) x m in
      (shaped f.0 f.1 x f.2).row ∙ ap (λ (d : Concrete). length d.points) (one-solid b words floats words' floats' f.0.0 c (w.read f.0 f.1) e)

  row_rule : (x : Member) → In x ms → x.mark ≡ 1 → marked c.abs (by_table (class_table c)) x.row ≡ true
  unfolding ms
  row_rule x m h =
      let f = found_in o (room_of old) x m in
      subst (λ (d : Concrete). marked d.abs (by_table (class_table d)) x.row ≡ true) (one-solid b words floats words' floats' f.0.0 c (w.read f.0 f.1) e)
      (w.rule f.0 f.1 x f.2 h)

  module _ (k : ℕ) (h : k < answer_count (search_written (outcome o (room_of old)) old).0) where
    one : Member
    one = get_or ms k no_member

    there : k < length ms
    unfolding ms search_written
    there = rw (← found-count o (room_of old)) h

    mark_is : get_or (search_written (outcome o (room_of old)) old).1.marks k 0 ≡ one.mark
    unfolding ms one search_written written
    mark_is = get_or-append (map (λ x. x.mark) ms) _ 0 k (rw length-map there) ∙ get_or-map (λ x. x.mark) no_member 0 ms k there

    row_is : row_at (length c.points) k (search_written (outcome o (room_of old)) old).1.rows ≡ one.row
    unfolding ms one search_written written row_at
    row_is =
        part_of (length c.points) (map (λ x. x.row) ms) (λ l m. let i = in_map (λ (x : Member). x.row) l ms m in ap length i.2 ∙ row-length i.0 i.1) _ k (rw length-map there)
        ∙ get_or-map (λ x. x.row) no_member [] ms k there

    confirmed : get_or (search_written (outcome o (room_of old)) old).1.marks k 0 ≡ 1
        → marked c.abs (by_table (class_table c)) (row_at (length c.points) k (search_written (outcome o (room_of old)) old).1.rows) ≡ true
    unfolding one
    confirmed q = rw row_is (row_rule one (in_get_d no_member ms k there) (sym mark_is ∙ q))

listed : (inside : List ℕ → ℕ → ℕ → Judged (Concrete × List Member)) → ((b : List ℕ) (words floats : ℕ) → MembersShaped (inside b words floats)) → ((b : List ℕ) (words floats : ℕ) → Confirms b words floats (inside b words floats))
    → (b : List ℕ) (words floats : ℕ) (c : Concrete) → preflight b words floats ≡ Ok c → (S z : State) → Agree c.abs (by_table (class_table c)) S z
    → ListedMembers (λ b words floats old. search_written (outcome (inside b words floats) (room_of old)) old) b c S z
listed inside shaped confirms b words floats c e S z a = record {
  confirmed = λ words' floats' old k h q r i l.
      let t = a.confirmed _ (confirmed b words' floats' (inside b words' floats') (shaped b words' floats') (confirms b words' floats') words floats c e old k h q) r i l in
      record { rank = t.0; after = t.1; result = t.2 };
}

-- ---- the types call

types-done : (o : Judged Given) (old : TypesOut) (n : ℕ) → (types_written o old).0 ≡ Ok n → (g : Given) × (o ≡ Ok g) × (n ≡ length g.types)
unfolding types_written
types-done (Err why) old n e = absurd (apart why 0 n e)
types-done (Ok g) old n e = (g, refl, sym (counted (length g.types) n e))

pub demand3_calls : Demand3Calls
unfolding types_call types_written types_of search_call rotations_call
demand3_calls b words floats old n e =
    let d = types-done (types_given b words floats (length old.elements) (length old.types)) old n e in
    let h = behind b words floats (length old.elements) (length old.types) d.0 d.1 in
    let c = h.solid in
    let z = h.result in
    let cls = by_table (class_table c) in
    record {
      solid = c;
      result = z;
      read = h.read;
      ended = h.ended;
      elements = ap (λ (o : Judged Given). (types_written o old).1.elements) d.1 ∙ ap (λ (g : Given). written g.elements old.elements) h.out;
      types = ap (λ (o : Judged Given). (types_written o old).1.types) d.1 ∙ ap (λ (g : Given). written (join (map type_cells g.types)) old.types) h.out;
      count = d.2 ∙ ap (λ (g : Given). length g.types) h.out;
      steps = λ xs p.
          let S = play c.abs (start c.abs cls) xs in
          let a = demand3 c.abs (every_passed b words floats c h.read).sound cls z h.ended xs p in
          record {
            agree = a;
            searches = listed members_in members-shaped members_confirm b words floats c h.read S z a;
            rotations = listed rotations_in rotations-shaped rotations_confirm b words floats c h.read S z a;
          };
    }
