-- Contracts in normal form, and their parts.
use Rattle.std.proofs.Common.{◌≡◌, List, length, sym, ◌∙◌, ap, subst, Some, inl, inr, arith}
use Rattle.poets_value.specs.declared.value.Name.{Name}
use Rattle.poets_value.specs.declared.event.Event.{Event}
use Rattle.poets_expr.specs.Expression.{Expression}
use Rattle.poets_syntax.specs.Applied.{CountsFit}
use Rattle.poets_syntax.specs.Contract.{Contract, Success, Plus, Par, Seq, App}
use Rattle.poets_syntax.specs.Plain.{Book, Template}
use Rattle.poets_syntax.specs.Book.{template_in}
use Rattle.poets_syntax.specs.Replace.{replace}
use Rattle.poets_syntax.specs.Givens.{argument_givens}
use Rattle.poets_syntax.specs.WellFormed.{IsWellFormed, IsDeclaredEvent}
use Rattle.poets_syntax.proofs.Givens.{HaveDeclaredNames-arguments}
use Rattle.poets_meaning.specs.Marks.{Marks}
use Rattle.poets_meaning.specs.Width.{size}
use Rattle.poets_calculus.specs.Normal.{normal, seq}
use Rattle.poets_calculus.specs.Residual.{after}
use Rattle.poets_norm.specs.Choices.{regrouped}
use Rattle.poets_norm.proofs.Counts.{CountsFit-normal, CountsFit-replace}
use Rattle.poets_norm.proofs.NormalForms.{IsBuilt, built-normal, built_of_normal, normal_of_built}
use Rattle.poets_norm.proofs.Parts.{FailureOr, IsProper, proper}
use Rattle.poets_norm.proofs.WellFormedness.{IsWellFormed-normal}
use Rattle.poets_syntax.proofs.WellFormedness.{IsWellFormed-replace}
use Rattle.poets_residue.specs.Unfolding.{IsStudied}
use Rattle.poets_residue.proofs.Kept.{IsWellFormed-after_at, CountsFit-after_at, built-after_at}
use Rattle.poets_route.specs.code.Back.{IsReady}
use Rattle.poets_route.specs.code.Undone.{IsFormed}
use Rattle.poets_route.proofs.Joined.{seq-second}
use Rattle.poets_route.proofs.Regrouped.{regrouped_normal}

-- a proper contract is neither
pub not_success : (c : Contract) → IsProper c → c ≡ Success → ⊥
not_success c h e = subst IsProper e h

module _ (book : Book) (marks : Marks) where
  -- the parts of a well-formed contract
  pub formed_plus : (a b : Contract) → IsFormed book marks (Plus a b) → IsFormed book marks a × IsFormed book marks b
  formed_plus a b f = (
    record { studied = f.studied; formed = f.formed.0; fits = f.fits.0 },
    record { studied = f.studied; formed = f.formed.1; fits = f.fits.1 },
  )

  -- what is built is its normal form
  normal_of : (c : Contract) → IsBuilt book marks c → normal book marks c ≡ c
  normal_of c h = normal_of_built book marks c (inr h)

  built_plus : (a b : Contract) → FailureOr (IsBuilt book marks) (Plus a b) → IsBuilt book marks (Plus a b)
  built_plus a b (inl e) = absurd cc
  built_plus a b (inr h) = h

  built_par : (a b : Contract) → FailureOr (IsBuilt book marks) (Par a b) → IsBuilt book marks (Par a b)
  built_par a b (inl e) = absurd cc
  built_par a b (inr h) = h

  built_seq : (a b : Contract) → FailureOr (IsBuilt book marks) (Seq a b) → IsBuilt book marks (Seq a b)
  built_seq a b (inl e) = absurd cc
  built_seq a b (inr h) = h

  part : (c : Contract) → IsStudied book marks → IsBuilt book marks c → IsWellFormed book.declared c → CountsFit book c → IsReady book marks c
  part c study h formed fits = record {
    normal = normal_of c h;
    formed = record { studied = study; formed = formed; fits = fits };
  }

  pub ready_plus : (a b : Contract) → IsReady book marks (Plus a b) → IsReady book marks a × IsReady book marks b
  ready_plus a b r =
      let h = built_plus a b (built_of_normal book marks (Plus a b) r.normal) in
      let f = r.formed in
      (part a f.studied h.0 f.formed.0 f.fits.0, part b f.studied h.1 f.formed.1 f.fits.1)

  pub ready_par : (a b : Contract) → IsReady book marks (Par a b) → IsReady book marks a × IsReady book marks b × IsProper a × IsProper b
  ready_par a b r =
      let h = built_par a b (built_of_normal book marks (Par a b) r.normal) in
      let f = r.formed in
      (part a f.studied h.0 f.formed.0 f.fits.0, part b f.studied h.1 f.formed.1 f.fits.1, h.2, h.3)

  -- no normal form ends with `Success`
  joined_seq : (a b : Contract) → seq a b ≡ Seq a b → b ≡ Success → ⊥
  joined_seq a b e q =
      let k : a ≡ Seq a Success = sym (seq-second a) ∙ (rw q at e) in
      absurd (omega (arith, ap size k))

  pub ready_seq : (a b : Contract) → IsReady book marks (Seq a b) → IsReady book marks a × IsReady book marks b × (b ≡ Success → ⊥)
  ready_seq a b r =
      let h = built_seq a b (built_of_normal book marks (Seq a b) r.normal) in
      let f = r.formed in
      (part a f.studied h.0 f.formed.0 f.fits.0, part b f.studied h.1 f.formed.1 f.fits.1, joined_seq a b h.2)

  -- the parallel parts are grouped to the left
  pub ready_grouped : (c : Contract) → IsReady book marks c → regrouped c ≡ c
  ready_grouped c r = ap regrouped (sym r.normal) ∙ regrouped_normal book marks c ∙ r.normal

  -- the residual, and the normal form
  pub ready_after : (e : Event) → IsDeclaredEvent book.declared e → (c : Contract) → IsReady book marks c → IsReady book marks (after book marks e c)
  ready_after e declared c r =
      let f = r.formed in
      let d = length book.templates in record {
        normal = normal_of_built book marks (after book marks e c) (built-after_at book marks e d c (built_of_normal book marks c r.normal));
        formed = record {
          studied = f.studied;
          formed = IsWellFormed-after_at book marks f.studied.formed e declared d c f.formed;
          fits = CountsFit-after_at book marks f.studied.fit e d c f.fits;
        };
      }

  pub ready_normal : (c : Contract) → IsFormed book marks c → IsReady book marks (normal book marks c)
  ready_normal c f = record {
    normal = normal_of_built book marks (normal book marks c) (built-normal book marks c);
    formed = record {
      studied = f.studied;
      formed = IsWellFormed-normal book marks c f.formed;
      fits = CountsFit-normal book marks c f.fits;
    };
  }

  -- a template's body with its parameters replaced
  pub formed_body : (f : Name) (args : List Expression) (t : Template) → template_in book.templates f ≡ Some t → IsFormed book marks (App f args) →
      IsFormed book marks (replace (argument_givens book.declared t.params args) t.body)
  formed_body f args t q r =
      let given = argument_givens book.declared t.params args in record {
        studied = r.studied;
        formed = IsWellFormed-replace book.declared given (HaveDeclaredNames-arguments book.declared t.params args r.formed) t.body (r.studied.formed f t q);
        fits = CountsFit-replace book given t.body (r.studied.fit f t q);
      }
