-- The search's judgements are taken one at a time: where a tail goes on, and what a call gives where it stops.
-- Assumes nothing.
use Rattle.std.specs.Prelude.{Err, None, Ok, Option, Some}
use mathlib.Core.Path.{◌≡◌, refl, ap}
use Prim.Native.Nat.{ℕ}
use mathlib.Core.Bool.{Bool, true, false}
use mathlib.Core.List.{List, []}
use Rattle.spec.specs.declared.Refusal.{Refusal}
use Rattle.spec.specs.declared.Refusal.TheVariants.{NotFull}
use Rattle.spec.specs.Refusal.{Answer, refused_with}
use Rattle.spec.specs.Lists.{join, written}
use Rattle.spec.specs.Judged.{Judged, ◌>>=◌, ◌>>◌, judge, wanted}
use Rattle.spec.specs.Solid.{Concrete, preflight}
use Rattle.spec.specs.Search.{Member, Setting, full, setting, search, rotations_of}
use Rattle.spec.specs.Calls.{SearchOut, room_of, outcome, members_in, rotations_in, search_written, search_call, rotations_call}
use Rattle.symmetry.specs.Tails.{wanted_of, setting_of, from9, from10, from15, from11, listed, call_from}

pub judge_no : {A : Type 0} (why : Refusal) (b : Bool) (k : Judged A) → b ≡ false → judge why b >> k ≡ Err why
unfolding judge ◌>>◌
judge_no why b k e = rw e refl

pub judge_yes : {A : Type 0} (why : Refusal) (b : Bool) (k : Judged A) → b ≡ true → judge why b >> k ≡ k
unfolding judge ◌>>◌
judge_yes why b k e = rw e refl

pub wanted_no : {A B : Type 0} (why : Refusal) (o : Option A) (k : A → Judged B) → o ≡ None → wanted why o >>= k ≡ Err why
unfolding wanted ◌>>=◌
wanted_no why o k e = rw e refl

pub wanted_yes : {A B : Type 0} (why : Refusal) (o : Option A) (k : A → Judged B) (a : A) → o ≡ Some a → wanted why o >>= k ≡ k a
unfolding wanted ◌>>=◌
wanted_yes why o k a e = rw e refl

-- The judgement behind refusal 8 comes first, and then 9.
pub from8 : (c : Concrete) → setting c ≡ judge NotFull (full c) >> from9 c
unfolding setting from9 from10 from15 from11 setting_of ◌>>=◌
from8 c = refl

-- A refusal leaves every output as it was.
pub refused-call : (rot : Bool) (c : Concrete) (why : Refusal) (old : SearchOut) → call_from rot c (Err why) old ≡ (refused_with why 0, old)
unfolding call_from listed outcome search_written written join ◌>>=◌
refused-call rot c why old = refl

-- Gives the answer and the outputs of either call, by what preflight says of the sheet.
unfoldable pub after : Bool → Judged Concrete → SearchOut → Answer × SearchOut
after rot (Err why) old = (refused_with why 0, old)
after rot (Ok c) old = call_from rot c (setting c) old

-- The members of a solid go by the setting that its search has.
from-setting : (c : Concrete) (j : Judged Setting) → setting c ≡ j → (search c >>= (λ ms. Ok (c, ms))) ≡ listed false c (setting c)
unfolding search listed wanted_of ◌>>=◌
from-setting c (Err why) e = rw e refl
from-setting c (Ok w) e = rw e refl

-- The search call goes by preflight, and so does the rotations call.
pub search-after : (b : List ℕ) (words floats : ℕ) (old : SearchOut) → search_call b words floats old ≡ after false (preflight b words floats) old
unfolding search_call members_in after call_from listed ◌>>=◌
search-after b words floats old = go (preflight b words floats) refl
  where
    go : (p : Judged Concrete) → preflight b words floats ≡ p → search_written (outcome (members_in b words floats) (room_of old)) old ≡ after false p old
    go (Err why) e = rw e (refused-call false (record { dimension = 0; points = []; abs = [] }) why old)
    go (Ok c) e = rw e (ap (λ (o : Judged (Concrete × List Member)). search_written (outcome o (room_of old)) old) (from-setting c (setting c) refl))

rotations-from : (c : Concrete) (j : Judged Setting) → setting c ≡ j
    → ◌>>=◌ {A = Concrete × List Member} {B = Concrete × List Member} (search c >>= (λ ms. Ok (c, ms))) (λ x. Ok (x.0, rotations_of x.1)) ≡ listed true c (setting c)
unfolding search listed wanted_of ◌>>=◌
rotations-from c (Err why) e = rw e refl
rotations-from c (Ok w) e = rw e refl

pub rotations-after : (b : List ℕ) (words floats : ℕ) (old : SearchOut) → rotations_call b words floats old ≡ after true (preflight b words floats) old
unfolding rotations_call rotations_in members_in after call_from listed ◌>>=◌
rotations-after b words floats old = go (preflight b words floats) refl
  where
    go : (p : Judged Concrete) → preflight b words floats ≡ p → search_written (outcome (rotations_in b words floats) (room_of old)) old ≡ after true p old
    go (Err why) e = rw e (refused-call true (record { dimension = 0; points = []; abs = [] }) why old)
    go (Ok c) e = rw e (ap (λ (o : Judged (Concrete × List Member)). search_written (outcome o (room_of old)) old) (rotations-from c (setting c) refl))
