-- Residuals as a relation.
use Rattle.std.proofs.Common.{◌≡◌, refl, ap, ap₂, subst}
use Rattle.poets_value.specs.declared.event.Event.{Event}
use Rattle.poets_syntax.specs.Contract.{Contract}
use Rattle.poets_syntax.specs.Plain.{Book}
use Rattle.poets_syntax.specs.Replace.{replace}
use Rattle.poets_syntax.specs.WellFormed.{IsWellFormed, IsDeclaredEvent, AreWellFormed}
use Rattle.poets_syntax.specs.Givens.{argument_givens}
use Rattle.poets_meaning.specs.Marks.{Marks, AreRight}
use Rattle.poets_calculus.specs.Normal.{normal, plus, par, seq}
use Rattle.poets_calculus.specs.Residual.{After}
use Rattle.poets_norm.proofs.Parts.{kept_by_plus, kept_by_par, kept_by_seq}
use Rattle.poets_norm.proofs.WellFormedness.{IsWellFormed-of_parts}
use Rattle.poets_residue.proofs.Kept.{IsWellFormed-body, IsWellFormed-taken}
use Rattle.poets_residue.proofs.Following.{Follows, Follows-success, Follows-failure, Follows-taken, Follows-refused, Follows-plus, Follows-par, Follows-over, Follows-seq, Follows-body}

module _ (book : Book) (marks : Marks) (right : AreRight book marks) (formed : AreWellFormed book)
    (e : Event) (declared : IsDeclaredEvent book.declared e) where
  pub After-follows : {c r : Contract} → After book marks e c r → IsWellFormed book.declared c → Follows book e c r
  After-follows After.Success h = Follows-success book e
  After-follows After.Failure h = Follows-failure book e
  After-follows (After.Taken {b = b} {p = p} {c = c} q) h = Follows-taken book marks right e declared b p c h.1 q
  After-follows (After.Refused {b = b} {p = p} {c = c} q) h = Follows-refused book e b p c q
  After-follows (After.Plus a b) h = Follows-plus book e (After-follows a h.0) (After-follows b h.1)
  After-follows (After.Par a b) h = Follows-par book e (After-follows a h.0) (After-follows b h.1)
  After-follows (After.Over o a b) h = Follows-over book e o (After-follows a h.0) (After-follows b h.1)
  After-follows (After.Seq o a) h = Follows-seq book e o (After-follows a h.0)
  After-follows (After.Body {f = f} {args = args} {t = t} q l a) h =
      Follows-body book marks right e f args t (formed f t q) h q l (After-follows a (IsWellFormed-body book marks t args (formed f t q) h))

-- it is well-formed
pub IsWellFormed-After : (book : Book) (marks : Marks) → AreWellFormed book → (e : Event) → IsDeclaredEvent book.declared e →
    {c r : Contract} → After book marks e c r → IsWellFormed book.declared c → IsWellFormed book.declared r
IsWellFormed-After book marks formed e declared After.Success h = tt
IsWellFormed-After book marks formed e declared After.Failure h = tt
IsWellFormed-After book marks formed e declared (After.Taken {b = b} {c = c} q) h = IsWellFormed-taken book marks e declared b c h.1
IsWellFormed-After book marks formed e declared (After.Refused q) h = tt
IsWellFormed-After book marks formed e declared (After.Plus {r₁ = r₁} {r₂ = r₂} a b) h =
    kept_by_plus (IsWellFormed book.declared) (IsWellFormed-of_parts book.declared) r₁ r₂
    (IsWellFormed-After book marks formed e declared a h.0) (IsWellFormed-After book marks formed e declared b h.1)
IsWellFormed-After book marks formed e declared (After.Par {c₁ = c₁} {c₂ = c₂} {r₁ = r₁} {r₂ = r₂} a b) h =
    kept_by_plus (IsWellFormed book.declared) (IsWellFormed-of_parts book.declared) (par r₁ c₂) (par c₁ r₂)
    (kept_by_par (IsWellFormed book.declared) (IsWellFormed-of_parts book.declared) r₁ c₂ (IsWellFormed-After book marks formed e declared a h.0) h.1)
    (kept_by_par (IsWellFormed book.declared) (IsWellFormed-of_parts book.declared) c₁ r₂ h.0 (IsWellFormed-After book marks formed e declared b h.1))
IsWellFormed-After book marks formed e declared (After.Over {c₂ = c₂} {r₁ = r₁} {r₂ = r₂} o a b) h =
    kept_by_plus (IsWellFormed book.declared) (IsWellFormed-of_parts book.declared) (seq r₁ c₂) r₂
    (kept_by_seq (IsWellFormed book.declared) (IsWellFormed-of_parts book.declared) r₁ c₂ (IsWellFormed-After book marks formed e declared a h.0) h.1)
    (IsWellFormed-After book marks formed e declared b h.1)
IsWellFormed-After book marks formed e declared (After.Seq {c₂ = c₂} {r₁ = r₁} o a) h =
    kept_by_seq (IsWellFormed book.declared) (IsWellFormed-of_parts book.declared) r₁ c₂ (IsWellFormed-After book marks formed e declared a h.0) h.1
IsWellFormed-After book marks formed e declared (After.Body {f = f} {args = args} {t = t} q l a) h =
    IsWellFormed-After book marks formed e declared a (IsWellFormed-body book marks t args (formed f t q) h)

-- there is one residual at most
pub After-one : {book : Book} {marks : Marks} {e : Event} {c r r' : Contract} → After book marks e c r → After book marks e c r' → r ≡ r'
After-one After.Success After.Success = refl
After-one After.Failure After.Failure = refl
After-one (After.Taken q) (After.Taken k) = refl
After-one (After.Taken q) (After.Refused k) = absurd (k q)
After-one (After.Refused q) (After.Taken k) = absurd (q k)
After-one (After.Refused q) (After.Refused k) = refl
After-one (After.Plus a b) (After.Plus c d) = ap₂ plus (After-one a c) (After-one b d)
After-one (After.Par {c₁ = c₁} {c₂ = c₂} a b) (After.Par c d) = ap₂ (λ x y. plus (par x c₂) (par c₁ y)) (After-one a c) (After-one b d)
After-one (After.Over {c₂ = c₂} o a b) (After.Over p c d) = ap₂ (λ x y. plus (seq x c₂) y) (After-one a c) (After-one b d)
After-one (After.Over o a b) (After.Seq p c) = absurd (p o)
After-one (After.Seq o a) (After.Over p c d) = absurd (o p)
After-one (After.Seq {c₂ = c₂} o a) (After.Seq p c) = ap (λ x. seq x c₂) (After-one a c)
After-one {book} {marks} {e} (After.Body {args = args} {t = t} q l a) (After.Body {t = u} {r = r} k _ b) =
    let same : u ≡ t = cc in
    After-one a (subst (λ v. After book marks e (normal book marks (replace (argument_givens book.declared v.params args) v.body)) r) same b)
