-- Where a call fails, what was taken is a front of the bytes that waited and of those behind them.
use Rattle.std.proofs.lemmas.Result.{on_err_weaker}
use Rattle.ym_folder.proofs.PutSoFarLemmas.{GrowsByPrefix-longer, GrowsByPrefix-prefix, GrowsByPrefix-behind, OnErr-of}
use Rattle.ym_folder.proofs.write_behind.WriteBehind.put.Goals as goal

pub returns-in_err-flush-clause-prefix : goal.returns-in_err-flush-clause-prefix
returns-in_err-flush-clause-prefix g c =
    OnErr-of c.from_residual-in_err-flush.result _ (GrowsByPrefix-longer _ _ c.args.self.now c.args.bytes.now c.in_err-flush.ensures.prefix)

pub returns-then-bytes-gt-BEHIND-clause-prefix : goal.returns-then-bytes-gt-BEHIND-clause-prefix
returns-then-bytes-gt-BEHIND-clause-prefix g c =
    on_err_weaker c.append.result (GrowsByPrefix-behind _ _ _ c.args.self.now c.args.bytes.now c.in_ok-flush.ensures.written) c.append.ensures.prefix

pub returns-in_err-extend_from_slice-2-clause-prefix : goal.returns-in_err-extend_from_slice-2-clause-prefix
returns-in_err-extend_from_slice-2-clause-prefix g c =
    OnErr-of c.from_residual-in_err-extend_from_slice-2.result _ (GrowsByPrefix-prefix _ _ c.args.self.now c.args.bytes.now c.in_ok-flush.ensures.written)
