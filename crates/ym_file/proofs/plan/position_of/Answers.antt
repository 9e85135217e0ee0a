use Rattle.std.proofs.Common.{sym, arith}
use Rattle.ym_file.proofs.Plans.{size_at-long, size_at-short}
use Rattle.ym_file.proofs.Pieces.{piece_at-long, piece_at-short}
use Rattle.ym_file.proofs.plan.position_of.Goals as goal

pub returns-then-k-long-clause-plan : goal.returns-then-k-long-clause-plan
returns-then-k-long-clause-plan c = sym (size_at-long c.args.shape c.args.length c.args.k (omega arith) (omega arith))

pub returns-then-k-long-clause-piece : goal.returns-then-k-long-clause-piece
returns-then-k-long-clause-piece c = piece_at-long c.args.shape c.args.length c.args.k (omega arith) (omega arith)

pub returns-else-k-long-clause-plan : goal.returns-else-k-long-clause-plan
returns-else-k-long-clause-plan c = sym (size_at-short c.args.shape c.args.length c.args.k (omega arith) (omega arith))

pub returns-else-k-long-clause-piece : goal.returns-else-k-long-clause-piece
returns-else-k-long-clause-piece c = rw c.long_count-long.ensures (piece_at-short c.args.shape c.args.length c.args.k (omega arith) (omega arith))
