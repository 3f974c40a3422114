-- The row that an arc stands for.
use Rattle.charts.specs.Views.{Row}
use Rattle.std.specs.Prelude.{ℕ, Some, None, Option}
use Rattle.std.specs.Int.NonZero.{non_zero_u8_get}
use Rattle.std.specs.declared.num.NonZeroU8.{NonZeroU8}
use Rattle.charts.specs.declared.arcs.Arc.{Arc}

-- the number of the letter that is spelled, where 0 is silent
abbrev pub letter_number : Option NonZeroU8 → ℕ
letter_number None = 0
letter_number (Some letter) = non_zero_u8_get letter

abbrev pub row_of_arc : Arc → Row
row_of_arc a = record {
  from = a.from;
  to = a.to;
  letter = letter_number a.letter;
  blank = 0;
  minutes = a.«record».minutes;
  grade = a.«record».grade;
  parts = a.«record».parts;
}
