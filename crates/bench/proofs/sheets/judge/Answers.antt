-- The words' array is as long as it was made. Assumes nothing.
use Rattle.std.proofs.Common.{ℕ, sym}
use Rattle.std.proofs.lemmas.List.{length-replicate}
use Rattle.spec.specs.declared.TheConstants.{MAX_WORDS}
use Rattle.bench.proofs.sheets.judge.Goals as goal

pub slice_bounds-judge_in-end-2 : goal.slice_bounds-judge_in-end-2
slice_bounds-judge_in-end-2 c = sym (length-replicate {0} {A = ℕ} MAX_WORDS 0)
