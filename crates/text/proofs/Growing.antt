-- A text grows by nothing, and by one text after another.
-- Assumes nothing.
use mathlib.Core.Path.{◌≡◌, refl, sym, ap, ap₂, ◌∙◌}
use mathlib.Core.List.{List, [], ◌++◌, append_assoc, append-nil}
use Prim.Native.Nat.{ℕ, ◌+◌, ◌≤◌}
use native.Mathlib.Nat.{add-zero}
use native.Mathlib.Omega.{arith}
use lib.ListN.{length, take, drop, length-append, take-append-drop, length-drop}
use lib.Seq.{length-take-le, take_at, drop_at, drop-drop}
use Rattle.text.specs.declared.writing.Text.{Text}
use Rattle.text.specs.Puts.{Puts}
use Rattle.text.specs.Growing.{HasRoom, Grown}

puts_none : (from : ℕ) (old : List ℕ) → from ≤ length old → Puts from [] old old from
puts_none from old h = record { room = omega arith; bytes = rw (add-zero, append-nil) (sym (take-append-drop from old)); stop = omega arith }

module _ {from end : ℕ} {l old new : List ℕ} (p : Puts from l old new end) where
  -- The buffer up to the text's end is what stood there, and the text.
  front : length (take from old ++ l) ≡ end
  front = length-append (take from old) l ∙ ap (λ (k : ℕ). k + length l) (length-take-le from old (omega (arith, p.room))) ∙ sym p.stop

  split : new ≡ take from old ++ l ++ drop end old
  split = p.bytes ∙ ap (λ (k : ℕ). take from old ++ l ++ drop k old) (sym p.stop)

  puts_long : length new ≡ length old
  puts_long =
      ap length split ∙ length-append (take from old ++ l) (drop end old)
      ∙ omega (arith, front, length-drop end old, p.stop, p.room)

  room-then : (m : List ℕ) → from + length (l ++ m) ≤ length old → end + length m ≤ length new
  room-then m h = omega (arith, length-append l m, p.stop, puts_long)

  puts_then : {m out : List ℕ} {stop : ℕ} → Puts end m new out stop → Puts from (l ++ m) old out stop
  puts_then {m} {out} {stop} q =
      let e : end + length m ≡ from + length (l ++ m) = omega (arith, length-append l m, p.stop) in
      record {
        room = omega (arith, length-append l m, q.room, p.stop, puts_long);
        bytes =
            q.bytes
            ∙ ap₂ (λ (x y : List ℕ). x ++ m ++ y)
            (ap (take end) split ∙ take_at (take from old ++ l) (drop end old) end front)
            (sym (drop-drop (length m) end new) ∙ ap (drop (length m)) (ap (drop end) split ∙ drop_at (take from old ++ l) (drop end old) end front)
            ∙ drop-drop (length m) end old ∙ ap (λ (k : ℕ). drop k old) e)
            ∙ ap (λ (x : List ℕ). x ++ drop (from + length (l ++ m)) old) (append_assoc (take from old) l m);
        stop = omega (arith, length-append l m, p.stop, q.stop);
      }

-- A text that nothing is put behind is as it was.
pub grown_none : (s : Text) → Grown s [] s
grown_none s = record { buffer = refl; puts = puts_none s.end s.out.now s.fits }

module _ {before now : Text} {l : List ℕ} (g : Grown before l now) where
  pub grown_is : {m : List ℕ} → l ≡ m → Grown before m now
  grown_is e = rw e at g

  pub grown_long : length now.out.now ≡ length before.out.now
  grown_long = puts_long g.puts

  -- There is room for what follows.
  pub then-room : (m : List ℕ) → HasRoom before (l ++ m) → HasRoom now m
  then-room m h = room-then g.puts m h

  pub grown_then : {m : List ℕ} {after : Text} → Grown now m after → Grown before (l ++ m) after
  grown_then e = record { buffer = e.buffer ∙ g.buffer; puts = puts_then g.puts e.puts }

-- Where there is room for two texts one after another, there is room for the first.
pub less : (s : Text) (a b : List ℕ) → HasRoom s (a ++ b) → HasRoom s a
less s a b h = omega (arith, length-append a b)
