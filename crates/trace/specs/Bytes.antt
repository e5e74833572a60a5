-- The letters that a trace's lines begin with, by name; a line's end is the paper's 'byte 10'.
use Rattle.std.specs.Prelude.{ℕ}

-- `A`, an activation
abbrev pub letter_A : ℕ
letter_A = 65

-- `F`, a remap
abbrev pub letter_F : ℕ
letter_F = 70

-- `H`, an activation held open
abbrev pub letter_H : ℕ
letter_H = 72

-- `R`, a refresh event
abbrev pub letter_R : ℕ
letter_R = 82

-- `S`, settings
abbrev pub letter_S : ℕ
letter_S = 83
