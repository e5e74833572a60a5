-- Files by the numbers that the system gives them.
use Rattle.std.specs.Prelude.{Bool, true, false, ℤ, pos, negsuc, Option, Some, None}
use Rattle.std.specs.Fd.{file_raw_fd}
use Rattle.std.specs.declared.io.Stdin.{Stdin}
use Rattle.input.specs.declared.File.{File}
use Rattle.input.specs.declared.Errno.{Errno}
use Rattle.input.specs.declared.Source.{Source}
use Rattle.input.specs.declared.Source.TheVariants.{Named, Standard}

-- a number that stands for an open file: one that is not below 0
abbrev pub is_descriptor : ℤ → Bool
is_descriptor (pos n) = true
is_descriptor (negsuc k) = false

-- the number of what is read: the system's of a named file, 0 of standard input, and -1 where there is nothing
abbrev pub number_of : Option Source → ℤ
number_of (Some (Named f)) = file_raw_fd f
number_of (Some (Standard input)) = pos 0
number_of None = negsuc 0

-- the number of a file, and whether it is open
abbrev pub descriptor : File → ℤ
descriptor f = number_of f.source

abbrev pub opened : File → Bool
opened f = is_descriptor (descriptor f)

-- nothing went wrong
abbrev pub no_error : Errno
no_error = record { 0 = pos 0 }

-- no file: number -1, not open
abbrev pub no_file : File
no_file = record { source = None; reason = no_error }

-- standard input: number 0, open from the start
abbrev pub standard_input : Stdin → File
standard_input input = record { source = Some (Standard input); reason = no_error }
