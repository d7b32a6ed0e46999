use Rattle.std.proofs.Common.{sym, ◌∙◌, append-nil}
use Rattle.poets_session.proofs.Scripting.{scripts_kept, no_call}
use Rattle.poets_session.proofs.scripts.Calls.add.Goals as goal

pub returns : goal.returns
returns c = record {
  scripts = λ before e. e ∙ sym (scripts_kept before c.args.statement c.in_default.not-Clerk c.in_default.not-Command);
  journal = rw (no_call c.args.statement c.in_default.not-Numbered) (sym (append-nil _));
}
