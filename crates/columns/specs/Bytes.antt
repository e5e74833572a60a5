-- The bytes that a number is read and printed in, by name.
use Rattle.std.specs.Prelude.{ℕ}

-- 'blanks', in front of a number
abbrev pub blank : ℕ
blank = 32

-- the least and the greatest 'digit'
abbrev pub digit_0 : ℕ
digit_0 = 48

abbrev pub digit_9 : ℕ
digit_9 = 57
