-- The number and the place that each refusal answers, and its words.
use Rattle.std.specs.Prelude.{ℕ, List, ◌++◌, codes, decimal}
use Rattle.rules.specs.declared.fault.Fault.{Fault}
use Rattle.rules.specs.declared.fault.Fault.TheVariants.{ColumnCount, NoColumn, UnlawfulWindow, NothingShared, MarksFull, NoMark, ListTooShort, WindowCount, ListLength, ColumnTwice, OutOfRange, NegativeRing, TiedSummands}

abbrev pub number : Fault → ℕ
number ColumnCount = 1
number (NoColumn i) = 2
number (UnlawfulWindow i) = 3
number NothingShared = 4
number MarksFull = 5
number NoMark = 6
number ListTooShort = 7
number WindowCount = 8
number ListLength = 9
number (ColumnTwice i) = 10
number (OutOfRange i) = 11
number (NegativeRing i) = 12
number (TiedSummands i) = 13

abbrev pub place : Fault → ℕ
place ColumnCount = 0
place (NoColumn i) = i
place (UnlawfulWindow i) = i
place NothingShared = 0
place MarksFull = 0
place NoMark = 0
place ListTooShort = 0
place WindowCount = 0
place ListLength = 0
place (ColumnTwice i) = i
place (OutOfRange i) = i
place (NegativeRing i) = i
place (TiedSummands i) = i

-- what is printed of it
abbrev pub words : Fault → List ℕ
words ColumnCount = codes "the number of columns is not from 1 to 32"
words (NoColumn i) = codes "entry " ++ (decimal i ++ codes " names a column that is not there")
words (UnlawfulWindow i) = codes "window " ++ (decimal i ++ codes " is unlawful: its ends are no values, or its first is above its last")
words NothingShared = codes "the hold shares nothing with the asked window"
words MarksFull = codes "sixteen marks stand already"
words NoMark = codes "no mark stands"
words ListTooShort = codes "the work list or the plan list is too short"
words WindowCount = codes "the number of windows is not the number of columns"
words ListLength = codes "the list is too long or too short"
words (ColumnTwice i) = codes "entry " ++ (decimal i ++ codes " names a column a second time")
words (OutOfRange i) = codes "entry " ++ (decimal i ++ codes " is outside its range")
words (NegativeRing i) = codes "column " ++ (decimal i ++ codes " lies on a ring of links below 0")
words (TiedSummands i) = codes "summand " ++ (decimal i ++ codes " is tied to another summand")
