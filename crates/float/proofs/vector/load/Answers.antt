use mathlib.Core.Path.{ap₂}
use mathlib.Core.List.{◌++◌}
use lib.ListN.{length}
use Rattle.spec.specs.Limits.{max_dimension}
use Rattle.spec.specs.Float.{zero_f}
use Rattle.float.specs.Reading.{padded}
use Rattle.float.proofs.Written.{drop_replicate}
use Rattle.float.proofs.vector.load.Goals as goal

pub returns : goal.returns
unfolding zero_f padded
returns c = ap₂ ◌++◌ c.copy_from_slice.ensures.after (drop_replicate (length c.args.p.now) max_dimension zero_f)
