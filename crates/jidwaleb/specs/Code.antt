-- An answer goes over C's interface as one number of 64 bits.
-- Assumes nothing.
use Rattle.std.specs.Prelude.{◌≡◌, ℕ, ◌+◌, ◌*◌, ◌/◌, ◌%◌, ◌^◌}
use Rattle.spec.specs.Refusal.{answer_number, answer_count, Answer}

-- Gives the code of an answer: the refusal's number, or 0 where the call gave its result, stands above the low 32 bits, which hold the count.
abbrev pub code_of : Answer → ℕ
code_of a = answer_number a * 2 ^ 32 + answer_count a

-- Gives a call's answer and its two outputs, with the answer as its code.
abbrev pub coded : {A B : Type 0} → Answer × A × B → ℕ × A × B
coded x = (code_of x.0, x.1, x.2)

-- Gives the same for a call whose outputs are one record.
abbrev pub coded_out : {A : Type 0} → Answer × A → ℕ × A
coded_out x = (code_of x.0, x.1)

-- ---- what the caller reads from the number

abbrev pub refusal_in : ℕ → ℕ
refusal_in r = r / 2 ^ 32

abbrev pub count_in : ℕ → ℕ
count_in r = r % 2 ^ 32

-- Nothing of the answer a is lost, since no count reaches 2^32.
pub record Decoded (r : ℕ) (a : Answer) : Type 0 where
  pub refusal : refusal_in r ≡ answer_number a
  pub count : count_in r ≡ answer_count a
