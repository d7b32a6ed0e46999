-- Where each application is of a template with as many parameters, the numbers of arguments fit.
use Rattle.std.proofs.Common.{◌≡◌, length, subst, Option, Some}
use Rattle.poets_syntax.specs.Contract.{Contract}
use Rattle.poets_syntax.specs.Plain.{Book, Template}
use Rattle.poets_syntax.specs.Applied.{ApplicationsFit, CountsFit}

one_template : {o : Option Template} {t u : Template} → o ≡ Some t → o ≡ Some u → t ≡ u
one_template i j = cc

pub CountsFit-fit : (book : Book) (c : Contract) → ApplicationsFit book c → CountsFit book c
CountsFit-fit book Contract.Success h = tt
CountsFit-fit book Contract.Failure h = tt
CountsFit-fit book (Contract.Transmit b p c) h = CountsFit-fit book c h
CountsFit-fit book (Contract.Plus c d) h = (CountsFit-fit book c h.0, CountsFit-fit book d h.1)
CountsFit-fit book (Contract.Par c d) h = (CountsFit-fit book c h.0, CountsFit-fit book d h.1)
CountsFit-fit book (Contract.Seq c d) h = (CountsFit-fit book c h.0, CountsFit-fit book d h.1)
CountsFit-fit book (Contract.App f args) h = λ t i. subst (λ u. length u.params ≡ length args) (one_template h.1 i) h.2
