-- A printed reply begins with what it is.
use Rattle.std.proofs.Common.{◌≡◌, ℕ, List, [], ◌++◌, refl}
use Rattle.std.specs.Prelude.{codes}
use Rattle.std.specs.Fmt.{decimal}
use Rattle.poets_value.specs.Civil.{day_text}
use Rattle.poets_command.specs.Plain.{Reply}
use Rattle.poets_print.specs.Texts.{name_text}
use Rattle.poets_print.specs.Lines.{yes_text, parts_text, total_text}
use Rattle.poets_books.specs.Replies.{RepliesBeginWithKinds}

pub replies_begin_with_kinds : RepliesBeginWithKinds
replies_begin_with_kinds names (Reply.Registered n) told = (codes " " ++ decimal n, refl)
replies_begin_with_kinds names (Reply.NameTaken n) told = (codes " by " ++ decimal n, refl)
replies_begin_with_kinds names Reply.Hopeless told = ([], refl)
replies_begin_with_kinds names Reply.TooLarge told = ([], refl)
replies_begin_with_kinds names (Reply.Recorded n may_end) told =
    (codes " " ++ decimal n ++ codes ", may end " ++ yes_text may_end, refl)
replies_begin_with_kinds names (Reply.Voided n may_end) told =
    (codes ", events " ++ decimal n ++ codes ", may end " ++ yes_text may_end, refl)
replies_begin_with_kinds names (Reply.NoEvent k) told = (codes " " ++ decimal k, refl)
replies_begin_with_kinds names (Reply.NoContract x) told = (codes " " ++ name_text names x, refl)
replies_begin_with_kinds names Reply.Ended told = ([], refl)
replies_begin_with_kinds names (Reply.Late d) told = (codes " " ++ day_text d, refl)
replies_begin_with_kinds names Reply.Unmatched told = ([], refl)
replies_begin_with_kinds names Reply.EndedNow told = ([], refl)
replies_begin_with_kinds names Reply.AlreadyEnded told = ([], refl)
replies_begin_with_kinds names Reply.NotPerformed told = ([], refl)
replies_begin_with_kinds names (Reply.Shown c n may_end ended) told = elim told [ ]
replies_begin_with_kinds names (Reply.Answered a) told = elim told [ ]
replies_begin_with_kinds names (Reply.Folio rows total) told =
    (codes " " ++ parts_text names rows ++ total_text names total, refl)
replies_begin_with_kinds names (Reply.Watching n) told = (codes " " ++ decimal n, refl)
replies_begin_with_kinds names (Reply.NoWatch n) told = (codes " " ++ decimal n, refl)
