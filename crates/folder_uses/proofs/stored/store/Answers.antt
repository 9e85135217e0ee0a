use Rattle.std.proofs.Common.{[], ◌∷◌, rules}
use Rattle.folder_uses.proofs.StoredLemmas.{whole_name}
use Rattle.folder_uses.proofs.stored.store.Goals as goal

pub returns-in_err-begin-clause-stays : goal.returns-in_err-begin-clause-stays
returns-in_err-begin-clause-stays c =
    c.nothing_is_overwritten.ensures c.args.sink.now (c.begin.new.self ∷ []) (c.begin.ensures.keeps, c.begin.ensures.adds, tt) c.requires.without_part

pub returns-in_err-add-clause-stays : goal.returns-in_err-add-clause-stays
returns-in_err-add-clause-stays c =
    c.nothing_is_overwritten.ensures c.args.sink.now (c.begin.new.self ∷ c.add.new.self ∷ [])
    (c.begin.ensures.keeps, c.begin.ensures.adds, (c.add.ensures.keeps, c.add.ensures.adds, tt)) c.requires.without_part

pub returns-in_err-commit-clause-stays : goal.returns-in_err-commit-clause-stays
returns-in_err-commit-clause-stays c =
    c.nothing_is_overwritten.ensures c.args.sink.now (c.begin.new.self ∷ c.add.new.self ∷ c.commit.new.self ∷ [])
    (c.begin.ensures.keeps, c.begin.ensures.adds, (c.add.ensures.keeps, c.add.ensures.adds, (c.commit.ensures.keeps, c.commit.ensures.adds, tt))) c.requires.without_part

pub returns-clause-stays : goal.returns-clause-stays
returns-clause-stays c =
    c.nothing_is_overwritten.ensures c.args.sink.now (c.begin.new.self ∷ c.add.new.self ∷ c.commit.new.self ∷ [])
    (c.begin.ensures.keeps, c.begin.ensures.adds, (c.add.ensures.keeps, c.add.ensures.adds, (c.commit.ensures.keeps, c.commit.ensures.adds, tt))) c.requires.without_part

pub returns-clause-whole : goal.returns-clause-whole
returns-clause-whole c =
    whole_name _ c.args.header c.args.bytes.now c.begin.new.self c.add.new.self c.commit.new.self c.folder.ensures c.in_ok-begin.ensures.empty
    c.in_ok-add.ensures.all (search rules) c.in_ok-commit.ensures.stored
