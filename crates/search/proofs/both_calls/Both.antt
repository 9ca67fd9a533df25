-- The promises of both calls are put together here. The workspace keeps its lengths from the first call to the second.
-- Assumes nothing.
use Rattle.std.specs.Prelude.{Ok}
use mathlib.Core.Path.{◌≡◌, sym, ap, ◌∙◌}
use mathlib.Core.List.{List}
use Prim.Native.Nat.{ℕ}
use lib.ListN.{length}
use lib.Ieee.{Float}
use Rattle.spec.specs.Refusal.{answer_count, Answer}
use Rattle.spec.specs.Mark.{goes}
use Rattle.spec.specs.Calls.{TypesOut, types_call, SearchOut}
use Rattle.spec.specs.Demand3Calls.{row_at}
use Rattle.spec.specs.Workspace.{Free}
use Rattle.types.specs.Demand3.{Demand3Cells}
use Rattle.types.proofs.Demand3.{call-cell}
use Rattle.search.specs.Demand3.{Demand3Rows, Demand3Told}
use Rattle.search.specs.Both.{BothCalls}

-- The words and floats are ws and fs before the first call, and ws' and fs' between the two.
pub both : (call : List ℕ → ℕ → ℕ → SearchOut → Answer × SearchOut) (b ws ws' : List ℕ) (fs fs' : List Float) (old new : TypesOut) (before after : SearchOut) (t m : Answer)
    → (t, new) ≡ types_call b (length ws) (length fs) old
    → ((n : ℕ) → t ≡ Ok n → Demand3Cells b (length ws) (length fs) new.elements)
    → Free ws ws' fs fs'
    → (m, after) ≡ call b (length ws') (length fs') before
    → Demand3Told b (answer_count m) after.rows after.marks
    → BothCalls call b (length ws) (length fs) (record { types = t; members = m }) old new before after
both call b ws ws' fs fs' old new before after t m p cells free q told =
    let rows : (n : ℕ) → t ≡ Ok n → Demand3Rows b (length ws) (length fs) old n (answer_count m) after.rows after.marks =
    λ n d. told _ _ _ n (sym (ap (λ (x : Answer × TypesOut). x.0) p) ∙ d) in
    record {
      types = p;
      members = rw (free.words, free.floats) at q;
      cells = cells;
      rows = rows;
      kept = λ n d xs a k h one r e w i.
          let c = (rows n d).types.solid in
          let l = (rows n d).listed xs a k h one r e i in
          let row = row_at (length c.points) k after.rows in
          let at = call-cell b (length ws) (length fs) old new n t p (rows n d).types r in
          record { rank = l.rank; after = l.after; cell = at (goes c.abs row r e) w l.rank ∙ l.result ∙ sym (at e w i) };
    }
