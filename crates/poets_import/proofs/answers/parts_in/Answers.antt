use Rattle.std.proofs.Common.{◌≡◌, ◌+◌, [], ◌∷◌, map, take, drop, sym, ap, ◌∙◌}
use Rattle.std.proofs.lemmas.List.{map-append}
use Rattle.std.proofs.lemmas.List.Elements.{All-push}
use Rattle.std.proofs.lemmas.Result.{err_from_is_err_and}
use Rattle.serde_json.specs.View.{view}
use Rattle.poets_expr.specs.Env.{declared_of}
use Rattle.poets_command.specs.Calls.{folio_row_of}
use Rattle.poets_json.specs.Document.{part_data}
use Rattle.poets_import.specs.code.Finding.{IsPart}
use Rattle.poets_parse.specs.declared.fault.Unread.TheVariants as U
use Rattle.poets_import.proofs.Lists.{comes_of, map_cut, map_more, one_more, so_nothing}
use Rattle.poets_import.proofs.Unsaid.{finds_handed}
use Rattle.poets_import.proofs.answers.parts_in.Goals as goal

pub loop-value-init : goal.loop-value-init
loop-value-init c =
    let IsSo = IsPart c.args.names.now (declared_of c.args.decls.now.names) in
    let data_of = part_data c.args.names.now in
    record {
      told = so_nothing data_of IsSo (map folio_row_of c.new-parts.result.items) (ap (map folio_row_of) c.new-parts.ensures);
      only = λ ys so e. sym (ap (map data_of) (ap (map folio_row_of) c.new-parts.ensures));
    }

pub returns-in_err-part-clause-only : goal.returns-in_err-part-clause-only
returns-in_err-part-clause-only c = λ ys so e.
    let told = err_from_is_err_and c.from_residual.result c.from_residual.ensures.1 in
    let data_of = part_data c.args.names.now in
    let i = c.loop-value.value-index in
    let values = c.args.values.now in
    let item = c.value-item.result in
    let fault = c.in_err-part.field-0.0 in
    finds_handed (λ l. map folio_row_of l.items) (map data_of) (map view values) told.1 told.2
    (comes_of data_of (IsPart c.args.names.now (declared_of c.args.decls.now.names)) (fault ≡ U.Memory)
    (map view (take i values)) (view item) (map view (drop (i + 1) values)) ys so
    (sym (map_cut view values i item c.loop-value-test.true c.value-item.is) ∙ e)
    (λ y is_so same. c.in_err-part.ensures.only y is_so same))

pub loop-value-preserved : goal.loop-value-preserved
loop-value-preserved c =
    let IsSo = IsPart c.args.names.now (declared_of c.args.decls.now.names) in
    let data_of = part_data c.args.names.now in
    let i = c.loop-value.value-index in
    let values = c.args.values.now in
    let item = c.value-item.result in
    let old = (map folio_row_of c.loop-value.parts.items) in
    let x = (folio_row_of c.in_ok-part.part) in
    let pushed = ap (map folio_row_of) c.in_ok-push.ensures.items ∙ map-append folio_row_of c.loop-value.parts.items (c.in_ok-part.part ∷ []) in
    record {
      told = rw pushed (All-push IsSo old x c.loop-value.invariant.told c.in_ok-part.ensures.told);
      only = λ ys so e.
          let here = comes_of data_of IsSo (view item ≡ data_of x) (map view (take i values)) (view item) (map view (drop (i + 1) values)) ys so
          (sym (map_cut view values i item c.loop-value-test.true c.value-item.is) ∙ e) c.in_ok-part.ensures.only in
          map_more view values i item c.loop-value-test.true c.value-item.is
          ∙ one_more data_of IsSo (map view (take i values)) (view item) old (map folio_row_of c.push.new.list.items) x
          (c.loop-value.invariant.only ys so e) here pushed;
    }
