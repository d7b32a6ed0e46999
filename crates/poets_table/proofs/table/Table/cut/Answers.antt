use Rattle.std.proofs.Common.{◌∙◌, refl, subst, sym}
use Rattle.std.proofs.lemmas.Option.{same_Some}
use Rattle.poets_table.specs.TableView.{IsRowCut, row_view}
use Rattle.poets_table.proofs.Pieces.{without-joined, without-starts}
use Rattle.poets_table.proofs.table.Table.cut.Goals as goal

pub without-requires : goal.without-requires
without-requires g c = c.requires.place _ c.row.ensures

pub returns : goal.returns
returns g c =
    let r = row_view c.row.result.now in
    let old = c.row.result.now.events.pieces in
    let new = c.in_ok-rest.rest.pieces in
    record {
      number = refl;
      place = refl;
      fits = record {
        live = c.requires.live;
        row = λ q e. subst (IsRowCut _) (same_Some r q (sym c.row.ensures ∙ e)) (record {
          place = c.requires.place r c.row.ensures;
          events = without-joined c.args.place old new c.in_ok-rest.ensures;
          starts = without-starts c.args.place old new c.in_ok-rest.ensures;
        });
        log_place = c.log_place-log_place.ensures;
      };
    }
