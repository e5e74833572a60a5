-- `lines::main` meets its contract: the text's lines, counted by the definition.
use Rattle.lines.specs.Lines.{line_count}
use Rattle.lines.proofs.main.Goals as goal

pub expect-requires : goal.expect-requires
unfolding line_count
expect-requires c = rw c.all_lines-count.ensures
