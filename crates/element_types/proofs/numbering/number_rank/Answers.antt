use mathlib.Core.Path.{refl, ◌∙◌}
use native.Mathlib.Omega.{arith}
use Prim.Native.Nat.{◌+◌, ◌^◌, ◌≤◌, ◌<◌}
use lib.ListN.{length}
use Rattle.ranked.specs.Words.{list_at, list_word}
use Rattle.element_types.specs.Numbers.{Numberable}
use Rattle.element_types.proofs.Scanned.{scan-first, scan-end, q-small, q-in, writable, keyed, places_keyed, key_old, key_new, scan_old, scan_new}
use Rattle.element_types.proofs.numbering.number_rank.Goals.{In-loop-e, in-Some, in-None}
use Rattle.element_types.proofs.numbering.number_rank.Goals as goal

-- There is still room.
fit : (c : In-loop-e)
    → let a = c.args in
    Numberable a.lists.now a.base a.own.now a.next.now c.loop-e.numbers c.loop-e.places c.loop-e.keys
fit c = record {
  neighbours = c.requires.neighbours;
  numbered = c.loop-e.auto.numbers ∙ c.requires.numbered;
  placed = omega (arith, c.loop-e.auto.places, c.requires.placed);
  room = omega (arith, c.loop-e.auto.keys, c.requires.room);
}

pub loop-e-init : goal.loop-e-init
loop-e-init c = scan-first _ _ _ _ _ _ _

-- The key fits behind those that were met.
inside : (c : In-loop-e) → c.loop-e.q ≤ length c.loop-e.keys
inside c = q-in _ _ _ _ _ _ _ _ _ _ c.loop-e.invariant c.loop-e-test.true (fit c)

small : (c : In-loop-e) → c.loop-e.q + (2 + length (list_at c.args.lists.now (list_word c.args.base c.loop-e.e))) < 2 ^ 32
small c = q-small _ _ _ _ _ _ _ _ _ _ c.loop-e.invariant c.loop-e-test.true (fit c)

pub offset_bounds-keys-q : goal.offset_bounds-keys-q
offset_bounds-keys-q c = omega (arith, small (goal.at.offset_bounds-keys-q c).In-loop-e)

pub slice_bounds-write_key-count : goal.slice_bounds-write_key-count
slice_bounds-write_key-count c = inside (goal.at.slice_bounds-write_key-count c).In-loop-e

pub slice_bounds-write_key-start : goal.slice_bounds-write_key-start
slice_bounds-write_key-start c = inside (goal.at.slice_bounds-write_key-start c).In-loop-e

pub write_key-k-requires : goal.write_key-k-requires
write_key-k-requires c = rw (c.entries_at-list.ensures, c.list_word.ensures) (writable _ _ _ _ _ _ _ _ _ _ c.loop-e.invariant c.loop-e-test.true (fit (goal.at.write_key-k-requires c).In-loop-e))

pub find_key-requires-clause-by_index : goal.find_key-requires-clause-by_index
find_key-requires-clause-by_index c =
    places_keyed _ _ _ _ _ _ _ _ _ _ c.loop-e.invariant c.loop-e-test.true (fit (goal.at.find_key-requires-clause-by_index c).In-loop-e) _ c.write_key-k.auto.out
    (rw (c.entries_at-list.ensures, c.list_word.ensures) at c.write_key-k.ensures.out_after)

pub find_key-requires-clause-keyed : goal.find_key-requires-clause-keyed
find_key-requires-clause-keyed c =
    keyed _ _ _ _ _ _ _ _ _ _ c.loop-e.invariant c.loop-e-test.true (fit (goal.at.find_key-requires-clause-keyed c).In-loop-e) _ c.write_key-k.auto.out
    (rw (c.entries_at-list.ensures, c.list_word.ensures) at c.write_key-k.ensures.out_after)

pub overflow_cast-places : goal.overflow_cast-places
overflow_cast-places c = omega (arith, small (goal.at.overflow_cast-places c).In-loop-e)

pub overflow_add-q : goal.overflow_add-q
overflow_add-q c = omega (arith, small (goal.at.overflow_add-q c).In-loop-e, rw (c.entries_at-list.ensures, c.list_word.ensures) at c.write_key-k.ensures.value)

pub loop-e-preserved : goal.loop-e-preserved
loop-e-preserved c =
    let f = fit (goal.at.loop-e-preserved c).In-loop-e in
    let k = rw (c.entries_at-list.ensures, c.list_word.ensures) at c.write_key-k.ensures.out_after in
    elim c.match-find_key.branch [
      | in-Some w ↦ let both = key_old _ _ _ _ _ _ _ _ _ _ c.loop-e.invariant c.loop-e-test.true f _ c.write_key-k.auto.out k _ c.find_key.ensures _ w.in-Some.is in
          rw (w.numbers-is, w.places-is, w.m-is, w.q-is) (scan_old _ _ _ _ _ _ _ _ _ _ c.loop-e.invariant c.loop-e-test.true f _ c.write_key-k.auto.out k _ both.0 (λ e. omega (arith, both.1)))
      | in-None w ↦ let e = key_new _ _ _ _ _ _ _ _ _ _ c.loop-e.invariant c.loop-e-test.true f _ c.write_key-k.auto.out k _ c.find_key.ensures w.in-None.is in
          rw (w.numbers-is, w.places-is, w.m-is, w.q-is) (scan_new _ _ _ _ _ _ _ _ _ _ c.loop-e.invariant c.loop-e-test.true f _ c.write_key-k.auto.out k _ e refl _ (rw (c.entries_at-list.ensures, c.list_word.ensures) at c.write_key-k.ensures.value))
    ]

pub returns : goal.returns
returns c = scan-end _ _ _ _ _ _ _ _ _ _ c.loop-e.invariant c.loop-e-test.false c.loop-e.auto.e-end (c.loop-e.auto.numbers ∙ c.requires.numbered)
