-- The measure is the number, since a tenth is less.
-- Assumes nothing.
use Rattle.text.proofs.writing.Text.+put_decimal.Given as goal

abbrev pub decreases-put_decimal : goal.decreases-put_decimal
decreases-put_decimal l = l.n
