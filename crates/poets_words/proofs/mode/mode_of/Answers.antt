use Rattle.std.proofs.Common.{rules, map}
use Rattle.std.specs.Prelude.{string_bytes}
use Rattle.clap.specs.Words.{app_of}
use Rattle.clap.specs.Matches.{found_of}
use Rattle.poets_words.proofs.Forms.{plain_form}
use Rattle.poets_words.proofs.PlainWords.{words_are_found}
use Rattle.poets_words.proofs.mode.mode_of.Goals as goal

pub returns-then-not-is_plain-clause-none : goal.returns-then-not-is_plain-clause-none
returns-then-not-is_plain-clause-none c = λ form. let plain = plain_form _ form in search rules

pub returns-in-Ok : goal.returns-in-Ok
returns-in-Ok c =
    let finds = c.in_ok-command.ensures in
    let rows = (c.in-Ok.ensures.matches finds.simple).0 in
    let same = words_are_found (found_of c.in-Ok.found) (app_of c.in_ok-command.command) (map string_bytes c.args.words.now) _ _ finds (search rules) rows c.get_str-first.ensures c.get_str-second.ensures in
    record { some = rw same at c.mode_from.ensures.some; none = rw same at c.mode_from.ensures.none }
