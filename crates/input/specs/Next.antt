-- What comes next, by two questions.
use Rattle.std.specs.Prelude.{Bool, true, false}
use Rattle.input.specs.declared.Next.{Next}
use Rattle.input.specs.declared.Next.TheVariants.{More, Done, Broken}

-- whether there is more to read
abbrev pub reads_on : Next → Bool
reads_on More = true
reads_on Done = false
reads_on Broken = false

-- whether the last read failed
abbrev pub has_failed : Next → Bool
has_failed More = false
has_failed Done = false
has_failed Broken = true
