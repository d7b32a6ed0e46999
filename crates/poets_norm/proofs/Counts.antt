-- Normal forms, and contracts whose names were replaced, apply templates to as many arguments as the contracts do.
use Rattle.std.proofs.Common.{sym, ◌∙◌}
use Rattle.poets_expr.specs.Subst.{Givens}
use Rattle.poets_syntax.specs.Contract.{Contract, Success, Failure, Transmit, Plus, Par, Seq, App}
use Rattle.poets_syntax.specs.Plain.{Book}
use Rattle.poets_syntax.specs.Replace.{without, replace}
use Rattle.poets_syntax.proofs.Replacing.{args_count}
use Rattle.poets_meaning.specs.Marks.{Marks}
use Rattle.poets_calculus.specs.Normal.{params_in, normal}
pub use Rattle.poets_calculus.proofs.Exposures.{length-folded}
use Rattle.poets_norm.specs.Laws.{CountsFit}
use Rattle.poets_norm.proofs.Parts.{IsOfParts, kept_by_normal}

module _ (book : Book) where
  pub CountsFit-of_parts : IsOfParts (CountsFit book)
  CountsFit-of_parts = record {
    failure = tt;
    plus = λ a b h k. (h, k);
    par = λ a b h k. (h, k);
    seq = λ a b h k. (h, k);
    plus_parts = λ a b h. h;
    par_parts = λ a b h. h;
    seq_parts = λ a b h. h;
  }

  pub CountsFit-replace : (given : Givens) (c : Contract) → CountsFit book c → CountsFit book (replace given c)
  CountsFit-replace given Success h = tt
  CountsFit-replace given Failure h = tt
  CountsFit-replace given (Transmit b p c) h = CountsFit-replace (without b given) c h
  CountsFit-replace given (Plus a b) h = (CountsFit-replace given a h.0, CountsFit-replace given b h.1)
  CountsFit-replace given (Par a b) h = (CountsFit-replace given a h.0, CountsFit-replace given b h.1)
  CountsFit-replace given (Seq a b) h = (CountsFit-replace given a h.0, CountsFit-replace given b h.1)
  CountsFit-replace given (App f args) h = λ t q. h t q ∙ sym (args_count given args)

pub CountsFit-normal : (book : Book) (marks : Marks) (c : Contract) → CountsFit book c → CountsFit book (normal book marks c)
CountsFit-normal book marks = kept_by_normal book marks (CountsFit book) (record {
  of_parts = CountsFit-of_parts book;
  below = λ b p c h. h;
  before = λ b p c d h k. k;
  folded = λ f args h t q. h t q ∙ sym (length-folded book.declared (params_in book f) args);
})
