-- This file has the table "Preflight answers": "Where an answer is an enum, a definition gives this paper's number and values for each of its cases."
-- Assumes nothing.
use Rattle.std.specs.Prelude.{ℕ, Result, Ok, Err}
use Prim.Native.String.{String}
use Rattle.spec.specs.declared.Refusal.{Refusal}
use Rattle.spec.specs.declared.Refusal.TheVariants.{CutSheet, Format, OffTheBoard, BadList, Loose, Mitre, Bench, NotFull, DoubleCorner, Centred, Flat, Blank, ShortSheet, Open, Unsettled}
use Rattle.spec.specs.declared.Refused.{Refused}

-- This is the column "No.".
abbrev pub number : Refusal → ℕ
number CutSheet = 1
number Format = 2
number OffTheBoard = 3
number BadList = 4
number Loose = 5
number Mitre = 6
number Bench = 7
number NotFull = 8
number DoubleCorner = 9
number Centred = 10
number Flat = 11
number Blank = 12
number ShortSheet = 13
number Open = 14
number Unsettled = 15

-- The answer of a call is a number, or a refusal with a number beside it.
abbrev pub Answer : Type 0
Answer = Result ℕ Refused

abbrev pub refused_with : Refusal → ℕ → Answer
refused_with why n = Err (record { why = why; kept = n })

-- This is the number of an answer, which is the refusal's, or 0 where the call gave its result.
abbrev pub answer_number : Answer → ℕ
answer_number (Ok n) = 0
answer_number (Err r) = number r.why

-- This is the value of an answer: how many types, members or copies there are; at 13, how many members or points fitted; at 14, how many copies; and
-- otherwise 0.
abbrev pub answer_count : Answer → ℕ
answer_count (Ok n) = n
answer_count (Err r) = r.kept

-- This is the column "Word".
abbrev pub word : Refusal → String
word CutSheet = "cut sheet"
word Format = "format"
word OffTheBoard = "off the board"
word BadList = "bad list"
word Loose = "loose"
word Mitre = "mitre"
word Bench = "bench"
word NotFull = "not full"
word DoubleCorner = "double corner"
word Centred = "centred"
word Flat = "flat"
word Blank = "blank"
word ShortSheet = "short sheet"
word Open = "open"
word Unsettled = "unsettled"
