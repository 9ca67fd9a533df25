-- A copy of four cells is four stores.
-- Assumes nothing.
use Rattle.std.proofs.Common.{[], ◌∷◌, ◌∙◌, refl, sym, arith}
use Rattle.std.proofs.lemmas.Slice.{put_mid-paste}
use lib.Seq.{sets-eq}
use Rattle.types.proofs.giving.open_type.Goals as goal

pub returns : goal.returns
returns c =
    let a = c.args in
    put_mid-paste _ _ _ _ (a.r ∷ a.t ∷ a.e ∷ 1 ∷ []) 4 c.copy_from_slice.ensures.after (omega arith) refl
    ∙ sym (sets-eq (a.r ∷ a.t ∷ a.e ∷ 1 ∷ []) a.table.now a.cell c.requires)
