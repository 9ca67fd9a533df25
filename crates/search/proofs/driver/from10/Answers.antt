-- The judgement behind refusal 10, the exchange, and what follows give the rest of the call.
-- Assumes nothing.
use mathlib.Core.Path.{◌≡◌, sym, ◌∙◌}
use Prim.Native.Nat.{◌-◌, ◌≤◌, ◌<◌}
use Rattle.std.specs.Prelude.{Some}
use Rattle.laws.proofs.Stopped.{stopped}
use Rattle.spec.specs.declared.Refusal.TheVariants.{Centred}
use Rattle.spec.specs.Lists.{range}
use Rattle.spec.specs.Search.{first_far}
use Rattle.ranked.specs.Words.{size_at}
use Rattle.ranked.specs.Layout.{solid_in}
use Rattle.preflight.proofs.Benches.{laid}
use Rattle.search.proofs.Benched.{coordinates_in}
use Rattle.search.proofs.Steps.{missing, given, centred, facet_in, exchanged_bench, exchanged_parted, far_off}
use Rattle.search.proofs.driver.from10.Goals.{After-first_far, In_ok-f}
use Rattle.search.proofs.driver.from10.Goals as goal

-- What is found is the first far facet of the solid, if it has one.
far-is : (c : After-first_far) → let a = c.args in
    c.first_far.result ≡ first_far (solid_in a.sh a.words.now a.floats.now) (range 0 (size_at a.sh (a.sh.rank - 1)))
far-is c = rw (c.solid.ensures.shape, c.solid.ensures.lists) at c.first_far.ensures

some-is : (c : In_ok-f) → c.first_far.result ≡ Some c.in_ok-f.f
some-is c = given c.first_far.result Centred (sym c.ok_or.ensures.value ∙ c.in_ok-f.was)

-- The facet that is found is one of the solid's.
found : (c : In_ok-f) → let sh = c.args.sh in (2 ≤ sh.rank) × (c.in_ok-f.f < size_at sh (sh.rank - 1))
found c =
    let a = c.args in
    facet_in a.sh a.words.now a.floats.now c.requires.le_rank _ (rw (c.solid.ensures.shape, c.solid.ensures.lists) at c.first_far.ensures) _ (some-is c)

pub invariant_of-realized : goal.invariant_of-realized
invariant_of-realized c = record { room = rw c.solid.ensures.shape (coordinates_in c.requires.bench) }

pub first_far-requires : goal.first_far-requires
first_far-requires c = rw c.solid.ensures.shape c.requires.le_rank

pub returns-in_err-f : goal.returns-in_err-f
returns-in_err-f c =
    let a = c.args in
    let none = missing c.first_far.result Centred (sym c.ok_or.ensures.value ∙ c.in_err-f.was) in
    rw (stopped _ _ c.from_residual.ensures.1, none.1) (centred a.sh a.words.now a.floats.now c.requires.le_rank _ (far-is (goal.at.returns-in_err-f c).After-first_far) _ _ none.0)

pub exchange-requires : goal.exchange-requires
exchange-requires c = record {
  laid = laid c.requires.bench;
  le_rank = found (goal.at.exchange-requires c).In_ok-f;
}

pub from15-requires : goal.from15-requires
from15-requires c =
    let a = c.args in
    let far = far-is (goal.at.from15-requires c).After-first_far in
    let some = some-is (goal.at.from15-requires c).In_ok-f in
    record {
      bench = exchanged_bench a.sh a.words.now a.floats.now c.requires.le_rank _ far _ some c.requires.bench _ c.exchange.ensures.words_after c.exchange.ensures.laid_after;
      le_rank = found (goal.at.from15-requires c).In_ok-f;
      parted = exchanged_parted a.sh a.words.now a.floats.now c.requires.le_rank _ far _ some c.requires.bench _ c.exchange.ensures.words_after c.requires.parted;
    }

pub returns : goal.returns
returns c =
    let a = c.args in
    far_off a.sh a.words.now a.floats.now c.requires.le_rank _ (far-is (goal.at.returns c).After-first_far) _ (some-is (goal.at.returns c).In_ok-f) c.requires.bench _ c.exchange.ensures.words_after _ _ _ c.from15.ensures
