-- What the kind of days says of its cells and codes. Assumes nothing.
use Rattle.std.specs.Prelude.{ℕ, min, ◌+◌, ◌*◌, ◌/◌, ◌%◌, Bool, cond, ◌&&◌, Some, None, Option, nat_le, nat_lt}
use Rattle.cells.specs.Giving.{given_by}
use Rattle.cells.specs.declared.day.Day.{Day}

-- The blank has four zeros. It is not printable.
abbrev pub blank_day : Day
blank_day = record { day = 0; weekday = 0; mark = 0; note = 0 }

-- A day is printable when it is a day of a month, 1 to 31, and its weekday a day of a week, 1 to 7. Every
-- mark in a program has 8 bits; the last test is there because laws speak of larger numbers too.
abbrev pub day_printable : Day → Bool
day_printable x = nat_le 1 x.day && (nat_le x.day 31 && (nat_le 1 x.weekday && (nat_le x.weekday 7 && nat_lt x.mark 256)))

-- The code of a printable day: the mark in the lowest 8 bits, the weekday in the 3 above them, the day above those.
abbrev pub day_code : Day → Option ℕ
day_code x = cond (day_printable x) (Some ((x.day * 8 + x.weekday) * 256 + x.mark)) None

-- The day that a number spells in this way, printable or not. It has no note. A day past 255 is spelled as 255, which
-- is no day of a month either.
abbrev pub spelled_day : ℕ → Day
spelled_day n = record { day = min (n / 256 / 8) 255; weekday = n / 256 % 8; mark = n % 256; note = 0 }

-- The codes of days are the numbers that spell a printable one.
abbrev pub day_known : ℕ → Bool
day_known n = day_printable (spelled_day n)

-- The day given back for a code, and the blank for a number that is no code.
abbrev pub day_given : ℕ → Day
day_given = given_by day_known spelled_day blank_day
