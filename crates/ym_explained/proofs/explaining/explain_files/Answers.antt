-- Both files were opened, and what was told of them is answered.
use Rattle.std.proofs.Common.{inl}
use Rattle.ym_explained.specs.Explaining.{untold_words}
use Rattle.ym_explained.proofs.explaining.explain_files.Goals as goal

pub returns-clause-gives : goal.returns-clause-gives
returns-clause-gives g c =
    let it = c.explain_pair-told.ensures in
    inl (record {
      told = c.explain_pair-told.result;
      why_there = c.seen.result.why;
      why_back = c.seen-2.result.why;
      unread = untold_words c.unread_of-unread.result;
      names = c.unread_of-unread.ensures;
      last = it.last;
      writes = it.wrote;
      answers = c.answer.ensures.gives;
    })
