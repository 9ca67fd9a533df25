-- On each way the refusal is known, and its word can be spelt out.
-- Assumes nothing.
use Rattle.std.specs.Prelude.{ℕ, List, codes}
use Rattle.std.proofs.Common.{ap, sym}
use Rattle.spec.specs.declared.Refusal.{Refusal}
use Rattle.spec.specs.Refusal.{word}
use Rattle.spec.proofs.Refusal.word.Goals as goal

abbrev spelt : Refusal → List ℕ
spelt why = codes (word why)

pub returns-in-CutSheet : goal.returns-in-CutSheet
returns-in-CutSheet c = sym (ap spelt c.in-CutSheet.is)

pub returns-in-Format : goal.returns-in-Format
returns-in-Format c = sym (ap spelt c.in-Format.is)

pub returns-in-OffTheBoard : goal.returns-in-OffTheBoard
returns-in-OffTheBoard c = sym (ap spelt c.in-OffTheBoard.is)

pub returns-in-BadList : goal.returns-in-BadList
returns-in-BadList c = sym (ap spelt c.in-BadList.is)

pub returns-in-Loose : goal.returns-in-Loose
returns-in-Loose c = sym (ap spelt c.in-Loose.is)

pub returns-in-Mitre : goal.returns-in-Mitre
returns-in-Mitre c = sym (ap spelt c.in-Mitre.is)

pub returns-in-Bench : goal.returns-in-Bench
returns-in-Bench c = sym (ap spelt c.in-Bench.is)

pub returns-in-NotFull : goal.returns-in-NotFull
returns-in-NotFull c = sym (ap spelt c.in-NotFull.is)

pub returns-in-DoubleCorner : goal.returns-in-DoubleCorner
returns-in-DoubleCorner c = sym (ap spelt c.in-DoubleCorner.is)

pub returns-in-Centred : goal.returns-in-Centred
returns-in-Centred c = sym (ap spelt c.in-Centred.is)

pub returns-in-Flat : goal.returns-in-Flat
returns-in-Flat c = sym (ap spelt c.in-Flat.is)

pub returns-in-Blank : goal.returns-in-Blank
returns-in-Blank c = sym (ap spelt c.in-Blank.is)

pub returns-in-ShortSheet : goal.returns-in-ShortSheet
returns-in-ShortSheet c = sym (ap spelt c.in-ShortSheet.is)

pub returns-in-Open : goal.returns-in-Open
returns-in-Open c = sym (ap spelt c.in-Open.is)

pub returns-in-Unsettled : goal.returns-in-Unsettled
returns-in-Unsettled c = sym (ap spelt c.in-Unsettled.is)
