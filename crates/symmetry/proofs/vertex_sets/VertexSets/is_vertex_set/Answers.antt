-- The sets from `from` on are looked at with their fingerprints.
-- Assumes nothing.
use Rattle.std.proofs.Common.{rules, tests, arith, ◌≡◌, ◌∙◌, ap, sym, ℕ, ◌+◌, ◌-◌, ◌<◌, List, drop, length}
use lib.ListN.{length-drop}
use lib.Seq.{take_all}
use Rattle.std.specs.Iterator.Adapters.{enumerate_source}
use Rattle.std.specs.Slice.Iter.{iter_rest}
use Rattle.std.specs.List.{list_any, enumerate_from}
use Rattle.std.proofs.lemmas.Iterator.{YieldsList-from_slice}
use Rattle.std.proofs.lemmas.Iterator.Adapters.{serves_from_places}
use Rattle.std.proofs.lemmas.Iterator.Consumers.{YieldsList-from_enumerate}
use Rattle.std.proofs.lemmas.Iterator.Search.{any_from_yields_List}
use Rattle.spec.specs.Lists.{holds, eq_list}
use Rattle.spec.specs.Types.{size, vertices}
use Rattle.ranked.specs.Words.{size_at}
use Rattle.ranked.specs.Lying.{abs_of}
use Rattle.ranked.proofs.Solids.{size_is}
use Rattle.symmetry.proofs.vertex_sets.Sets.{looked, looked_at, sets_from}
use Rattle.symmetry.proofs.vertex_sets.Looks.{of_rank_is, inside}
use Rattle.symmetry.proofs.vertex_sets.VertexSets.is_vertex_set.Goals.{After-enumerate}
use Rattle.symmetry.proofs.vertex_sets.VertexSets.is_vertex_set.Goals as goal

-- Those are what the chain goes over.
rest : (e : After-enumerate) → iter_rest (enumerate_source e.enumerate.result) ≡ drop e.args.from e.of_rank.result.now
rest e =
    let l = e.of_rank.result.now in
    ap iter_rest e.enumerate.ensures.source ∙ e.iter.ensures.rest ∙ take_all (length l - e.args.from) (drop e.args.from l) (omega (arith, length-drop e.args.from l))

pub any-requires-clause-callable : goal.any-requires-clause-callable
any-requires-clause-callable c =
    let a = c.args in let s = a.self.now.solid in
    serves_from_places (YieldsList-from_enumerate (YieldsList-from_slice (drop a.from c.of_rank.result.now) (rest (goal.at.any-requires-clause-callable c).After-enumerate)) c.enumerate.ensures.count) (λ x q k. search (rules, tests)) (λ x k h at.
    let in_r : a.from + x.0 < size_at s.shape a.r = inside s.held a.self.now.stand a.r c.requires.le_r.0 c.requires.le_r.1 a.from c.of_rank.result.now c.of_rank.ensures x.0 k _ h (ap (λ (p : ℕ × ℕ). p.0) at) in search (rules, tests))

pub returns : goal.returns
returns c =
    let a = c.args in let s = a.self.now.solid in
    let f = λ (e : ℕ). vertices (abs_of s) a.r (a.from + e) in
    let n = size (abs_of s) a.r - a.from in
    let prints = drop a.from c.of_rank.result.now in
    any_from_yields_List (looked a.list.now f) _ _ c.any.result c.any.ensures.ran (YieldsList-from_enumerate (YieldsList-from_slice prints (rest (goal.at.returns c).After-enumerate)) c.enumerate.ensures.count) (λ x b q k. search (rules, tests))
    ∙ ap (λ (l : List ℕ). list_any (looked a.list.now f) (enumerate_from 0 l)) (ap (drop a.from) c.of_rank.ensures ∙ of_rank_is s.held a.self.now.stand a.r c.requires.le_r.0 c.requires.le_r.1 a.from c.requires.le_r.2)
    ∙ looked_at a.list.now f 0 n
    ∙ ap (holds eq_list a.list.now) (sym (sets_from (abs_of s) a.r a.from (rw (size_is s.shape s.lists.now a.r (omega (arith, c.requires.le_r.1))) c.requires.le_r.2)))
