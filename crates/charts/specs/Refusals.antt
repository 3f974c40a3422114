-- The numbers and places of the refusals.
use Rattle.std.specs.Prelude.{ℕ}
use Rattle.charts.specs.declared.refusals.Refusal.{Refusal}
use Rattle.charts.specs.declared.refusals.Refusal.TheVariants.{ShortFile, Total, Limits, Tables, StateRow, ArcRow, Memory, LetterCounts, TooManyStates, OtherShape, NoSuchLetter, LogFull, NothingToTakeBack, NoPath}

abbrev pub number_of : Refusal → ℕ
number_of ShortFile = 1
number_of Total = 2
number_of Limits = 3
number_of Tables = 4
number_of (StateRow place) = 5
number_of (ArcRow place) = 6
number_of Memory = 7
number_of LetterCounts = 8
number_of TooManyStates = 9
number_of OtherShape = 10
number_of (NoSuchLetter place) = 11
number_of (LogFull place) = 12
number_of NothingToTakeBack = 13
number_of NoPath = 14

-- the state, the arc or the letter that a refusal is about; 0 where none is named
abbrev pub place_of : Refusal → ℕ
place_of ShortFile = 0
place_of Total = 0
place_of Limits = 0
place_of Tables = 0
place_of (StateRow place) = place
place_of (ArcRow place) = place
place_of Memory = 0
place_of LetterCounts = 0
place_of TooManyStates = 0
place_of OtherShape = 0
place_of (NoSuchLetter place) = place
place_of (LogFull place) = place
place_of NothingToTakeBack = 0
place_of NoPath = 0
