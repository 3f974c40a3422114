-- What a chart holds: its states, letters, state rows and arc rows.
use Rattle.std.specs.Prelude.{ℕ, ◌+◌, ◌*◌, ◌/◌, ◌%◌, Bool, ◌&&◌, List, [], ◌==◌, nat_le, nat_lt, slice_index, slice_index_or}

-- an arc row: the arc's states and letter, where 0 is silent, a byte that is left blank, and what it is weighed from
pub record Row : Type 0 where
  pub from : ℕ
  pub to : ℕ
  pub letter : ℕ
  pub blank : ℕ
  pub minutes : ℕ
  pub grade : ℕ
  pub parts : ℕ

-- a chart of so many states and letters, with a byte for each state and a row for each arc
pub record View : Type 0 where
  pub states : ℕ
  pub letters : ℕ
  pub state_rows : List ℕ
  pub arc_rows : List Row

-- the number of two bytes, and of four, from place i on, high byte first
abbrev pub two : List ℕ → ℕ → ℕ
two bs i = slice_index bs i * 256 + slice_index bs (i + 1)

abbrev pub four : List ℕ → ℕ → ℕ
four bs i = two bs i * 65536 + two bs (i + 2)

-- the row of twelve bytes
abbrev pub row_of : List ℕ → Row
row_of bs = record {
  from = slice_index bs 0;
  to = slice_index bs 1;
  letter = slice_index bs 2;
  blank = slice_index bs 3;
  minutes = two bs 4;
  grade = two bs 6;
  parts = four bs 8;
}

-- a chart has 1 to 32 states, 1 to 15 letters and at most 512 arcs
abbrev pub within_limits : (states letters arcs : ℕ) → Bool
within_limits states letters arcs =
    nat_le 1 states && nat_le states 32 && nat_le 1 letters && nat_le letters 15 && nat_le arcs 512

-- a state row is 0 to 3
abbrev pub state_row_fits : ℕ → Bool
state_row_fits mark = nat_le mark 3

-- an arc row has states below the number of states, a letter up to the number of letters, a zero byte, minutes up to
-- 60,000, a grade from 1 to 100, and parts below hex 80000000
abbrev pub arc_row_fits : (states letters : ℕ) → Row → Bool
arc_row_fits states letters r =
    nat_lt r.from states && nat_lt r.to states && nat_le r.letter letters && r.blank == 0
    && nat_le r.minutes 60000 && nat_le 1 r.grade && nat_le r.grade 100 && nat_lt r.parts 0x8000_0000

-- the row of an arc; past the last arc a blank row, which no path has
abbrev pub arc_row : View → ℕ → Row
arc_row v e = slice_index_or v.arc_rows e (row_of [])

-- does bit 0 of the state's row mark a start? A state that there is not is none
abbrev pub starts : View → ℕ → Bool
starts v i = slice_index v.state_rows i % 2 == 1

-- does bit 1 mark an end?
abbrev pub ends : View → ℕ → Bool
ends v i = slice_index v.state_rows i / 2 % 2 == 1
