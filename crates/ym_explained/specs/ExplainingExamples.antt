-- Lines that say why no more is told, computed.
use Rattle.std.specs.Prelude.{◌≡◌, Some, None, codes, refl}
use Rattle.ym_text.specs.declared.reason.Reason.TheVariants.{Denied, NoRegularFile}
use Rattle.ym_explained.specs.Explaining.{unread_pair, unread_words, unturned_words}

a_folder :
    unread_words (codes "logs") (Some NoRegularFile)
    ≡ codes "cannot read 'logs': not a regular file"
a_folder = refl

no_reason : unread_words (codes "standard input") None ≡ codes "cannot read 'standard input'"
no_reason = refl

-- of two files the first that cannot be read
the_first :
    unread_pair (codes "a") (codes "b") (Some Denied) (Some NoRegularFile)
    ≡ codes "cannot read 'a': permission denied"
the_first = refl

the_second :
    unread_pair (codes "a") (codes "b") None (Some NoRegularFile)
    ≡ codes "cannot read 'b': not a regular file"
the_second = refl

a_record :
    unturned_words (codes "a.record")
    ≡ codes "'a.record' is a record, which says its ways: --turned changed nothing"
a_record = refl
