-- The judgements behind refusal 11, and then the members and their marks, give the rest of the call.
-- Assumes nothing.
use mathlib.Core.Path.{◌≡◌, sym, ap, ◌∙◌}
use Prim.Native.Nat.{ℕ}
use Rattle.std.specs.Prelude.{Some, Result, Ok, Err, MatchResult}
use borrow.Author.Rules.{rules}
use Rattle.symmetry.specs.declared.listing.Full.{Full}
use Rattle.std.specs.Option.{option_map}
use Rattle.laws.proofs.Stopped.{stopped}
use Rattle.spec.specs.declared.Refusal.TheVariants.{Flat}
use Rattle.spec.specs.Matrix.{inverse}
use Rattle.spec.specs.Flags.{first_flag}
use Rattle.spec.specs.Search.{flag_columns}
use Rattle.spec.specs.Calls.{SearchOut}
use Rattle.matrix.specs.Reading.{corner}
use Rattle.ranked.specs.Layout.{solid_in}
use Rattle.symmetry.specs.Tails.{out_of}
use Rattle.symmetry.specs.Listing.{number_of}
use Rattle.search.proofs.Benched.{fingerprints_in, searching, marks_ready}
use Rattle.search.proofs.Steps.{missing, given, singular, not_finite, not_flat}
use Rattle.search.proofs.Kept.{marks_asked, all_listed}
use Rattle.search.proofs.driver.from11.Goals.{After-first_inverse, In_ok-inverse, After-unwrap_or_else-n, Start}
use Rattle.search.proofs.driver.from11.Goals as goal

abbrev old : Start → SearchOut
old s = out_of s.args.matrices.now s.args.rows.now s.args.marks.now

-- What is found is the inverse of the first flag's columns in the solid.
inverse-is : (c : After-first_inverse) → let a = c.args in
    let d = solid_in a.sh a.words.now a.floats.now in
    option_map (corner a.sh.dimension) c.first_inverse.result ≡ inverse (flag_columns d (first_flag d.abs))
inverse-is c = rw (c.solid.ensures.shape, c.solid.ensures.lists) at c.first_inverse.ensures

-- There is an inverse.
some-is : (c : In_ok-inverse) → let a = c.args in
    let d = solid_in a.sh a.words.now a.floats.now in
    inverse (flag_columns d (first_flag d.abs)) ≡ Some (corner a.sh.dimension c.in_ok-inverse.inverse)
some-is c =
    sym (inverse-is (goal.at.all_finite-requires c).After-first_inverse)
    ∙ ap (option_map (corner c.args.sh.dimension)) (given c.first_inverse.result Flat (sym c.ok_or.ensures.value ∙ c.in_ok-inverse.was))

told : (r : Result ℕ Full) (n : ℕ) → MatchResult r (λ x. n ≡ x) (λ e. n ≡ e.0) → n ≡ number_of r
told (Ok x) n h = h
told (Err e) n h = h

-- So many members are listed.
number : (c : After-unwrap_or_else-n) → c.unwrap_or_else-n.result ≡ number_of c.list_members-listed.result
number c = told c.list_members-listed.result _ (search rules)

pub returns-in_err-inverse : goal.returns-in_err-inverse
returns-in_err-inverse c =
    let a = c.args in
    let none = missing c.first_inverse.result Flat (sym c.ok_or.ensures.value ∙ c.in_err-inverse.was) in
    rw (stopped _ _ c.from_residual.ensures.1, none.1)
    (singular _ (solid_in a.sh a.words.now a.floats.now) _ a.rotations (old (goal.at.returns-in_err-inverse c).Start)
    (sym (inverse-is (goal.at.returns-in_err-inverse c).After-first_inverse) ∙ ap (option_map (corner a.sh.dimension)) none.0))

pub all_finite-requires : goal.all_finite-requires
all_finite-requires c = c.requires.bench.held.wide

pub returns-then-not-all_finite : goal.returns-then-not-all_finite
returns-then-not-all_finite c =
    let a = c.args in
    rw c.into.ensures (not_finite _ (solid_in a.sh a.words.now a.floats.now) _ a.rotations (old (goal.at.returns-then-not-all_finite c).Start) _ (some-is (goal.at.returns-then-not-all_finite c).In_ok-inverse)
    (sym c.all_finite.ensures ∙ c.if-not-all_finite.true))

pub write_fingerprints-requires : goal.write_fingerprints-requires
write_fingerprints-requires c = let b = c.requires.bench in record {
  held = b.held;
  rank_in_bounds = fingerprints_in b;
}

pub invariant_of-prepared : goal.invariant_of-prepared
invariant_of-prepared c = record { searching = searching _ _ _ c.write_fingerprints.auto.words c.write_fingerprints.ensures.words_unchanged c.requires.countable.0 c.requires.bench c.write_fingerprints.ensures.fingerprinted c.requires.le_rank.0 c.requires.parted }

pub mark_members-requires : goal.mark_members-requires
mark_members-requires c =
    let a = c.args in
    let n = number (goal.at.mark_members-requires c).After-unwrap_or_else-n in
    record {
      marks_ready = marks_ready _ _ _ c.write_fingerprints.auto.words c.write_fingerprints.ensures.words_unchanged c.requires.countable.0 c.requires.bench c.write_fingerprints.ensures.fingerprinted c.requires.countable.1;
      le_rank = c.requires.le_rank;
      sh_in_bounds = rw n (marks_asked _ _ _ c.write_fingerprints.auto.words c.write_fingerprints.ensures.words_unchanged c.requires.countable.0 _ a.f _ a.rotations (old (goal.at.mark_members-requires c).Start) _ _ _ c.list_members-listed.ensures c.list_members-listed.auto.rows);
    }

pub returns : goal.returns
returns c =
    let a = c.args in
    let n = number (goal.at.returns c).After-unwrap_or_else-n in
    not_flat _ (solid_in a.sh a.words.now a.floats.now) _ a.rotations (old (goal.at.returns c).Start) _ (some-is (goal.at.returns c).In_ok-inverse) (sym c.all_finite.ensures ∙ c.if-not-all_finite.false) _
    (all_listed _ _ _ c.write_fingerprints.auto.words c.write_fingerprints.ensures.words_unchanged c.requires.countable.0 _ a.f _ a.rotations (old (goal.at.returns c).Start) _ _ _ c.list_members-listed.ensures
    _ c.answer_of.ensures _ (rw n at c.mark_members.ensures))
