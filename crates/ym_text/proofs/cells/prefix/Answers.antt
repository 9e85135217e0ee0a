-- Nothing fits everywhere.
use Rattle.std.proofs.Common.{rules}
use Rattle.ym_text.proofs.CellLemmas.{nothing_fits}
use Rattle.ym_text.proofs.cells.prefix.Goals as goal

pub loop-end-init : goal.loop-end-init
loop-end-init c = let fits = nothing_fits c.args.cells in search rules
