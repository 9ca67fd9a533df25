use Rattle.spec.specs.Limits.{max_count}
use Rattle.marks.proofs.Rows.{seen_none, seen_high, seen_twice, seen_all}
use Rattle.marks.proofs.is_permutation.Goals.{then-row-v-via-then-row-v, then-row-v-via-else-row-v+then-seen-v}
use Rattle.marks.proofs.is_permutation.Goals as goal

pub loop-v-init : goal.loop-v-init
loop-v-init c = seen_none c.args.row.now max_count c.requires

pub returns-then-row-v : goal.returns-then-row-v
returns-then-row-v c =
    elim c.then-row-v.branch [
      | then-row-v-via-then-row-v w ↦ seen_high c.loop-v.invariant _ c.from-v.ensures c.loop-v-test.true w.if-row-v.true
      | then-row-v-via-else-row-v+then-seen-v w ↦ seen_twice c.loop-v.invariant _ c.from-v.ensures c.loop-v-test.true w.if-seen-v.true
    ]

pub returns : goal.returns
returns c = seen_all c.loop-v.invariant c.loop-v-test.false
