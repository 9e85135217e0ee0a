use Rattle.std.proofs.Common.{subst, sym}
use Rattle.ym_link.proofs.Names.{reply_bytes, controls_in}
use Rattle.ym_frame.specs.Control.{IsSubsequence}
use Rattle.ym_link.proofs.Controls.{control_bytes, reply_is_whole}
use Rattle.ym_link.proofs.laws.sender.what_came_back_is_of_the_reply.Goals as goal

pub returns-clause-whole : goal.returns-clause-whole
returns-clause-whole c = reply_is_whole

pub returns-clause-damaged : goal.returns-clause-damaged
returns-clause-damaged c = λ reply bytes within.
    c.what_comes_back.ensures.subsequence reply (controls_in bytes) (subst (λ xs. IsSubsequence xs (reply_bytes reply)) (sym (control_bytes bytes)) within)

pub returns-clause-remnants : goal.returns-clause-remnants
returns-clause-remnants c = c.what_comes_back.ensures.remnants
