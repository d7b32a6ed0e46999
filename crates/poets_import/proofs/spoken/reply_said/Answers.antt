use Rattle.std.proofs.Common.{Err, ap, sym, subst}
use Rattle.std.specs.Prelude.{codes}
use Rattle.std.proofs.lemmas.Result.{err_from_is_err_and}
use Rattle.serde_json.specs.View.{view}
use Rattle.poets_lex.specs.Table.{Table}
use Rattle.poets_import.specs.code.Members.{items_at, text_at}
use Rattle.poets_import.specs.code.Spoken.{OwedSaid, RowsSaid}
use Rattle.poets_import.proofs.OneWay.{one_name_said, one_rows_said}
use Rattle.poets_import.proofs.Unsaid.{handed_on}
use Rattle.poets_import.proofs.spoken.reply_said.Goals as goal

pub returns-in_err-enter_rows-clause-none : goal.returns-in_err-enter_rows-clause-none
returns-in_err-enter_rows-clause-none c = λ e owed after h.
    let told = err_from_is_err_and c.from_residual-in_err-enter_rows.result c.from_residual-in_err-enter_rows.ensures.1 in
    let d = view c.args.reply.now in
    let named = one_name_said c.args.names.now c.enter_name.new.names h.named (text_at (codes "name") d) c.in_ok-enter_name.ensures.said h.name in
    c.in_err-enter_rows.ensures.none (ap Err (handed_on told.1 told.2 e)) h.listed
    (subst (λ (t : Table). RowsSaid t (items_at (codes "rows") d) h.listed) (sym named) h.rows)

pub returns-clause-none : goal.returns-clause-none
returns-clause-none c = λ e owed after h.
    let d = view c.args.reply.now in
    let named = one_name_said c.args.names.now c.enter_name.new.names h.named (text_at (codes "name") d) c.in_ok-enter_name.ensures.said h.name in
    let rows = subst (λ (t : Table). RowsSaid t (items_at (codes "rows") d) h.listed) (sym named) h.rows in
    let listed = one_rows_said c.enter_name.new.names c.enter_rows.new.names h.listed (items_at (codes "rows") d) c.in_ok-enter_rows.ensures.said rows in
    c.owed_at.ensures.none e owed after
    (subst (λ (t : Table). OwedSaid t (text_at (codes "residual") d) owed after) (sym listed) h.residual)
