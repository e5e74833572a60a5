-- Whether there is more to read, by the test on what comes next.
use mathlib.Core.Path.{◌≡◌, refl, ◌∙◌}
use mathlib.Core.Bool.{true, false, not}
use borrow.Author.Tests.{not-true, not-false}
use denote.Enum.Bare.{sameb}
use Rattle.input.specs.contracts.Next.{the_type}
use Rattle.input.specs.declared.Next.{Next}
use Rattle.input.specs.declared.Next.TheVariants.{More, Done, Broken}
use Rattle.input.specs.Next.{reads_on}

same_more : (next : Next) → reads_on next ≡ sameb the_type next More
same_more More = refl
same_more Done = refl
same_more Broken = refl

pub more : (next : Next) → not (sameb the_type next More) ≡ false → reads_on next ≡ true
more next same = same_more next ∙ not-false _ same

pub no_more : (next : Next) → not (sameb the_type next More) ≡ true → reads_on next ≡ false
no_more next other = same_more next ∙ not-true _ other
