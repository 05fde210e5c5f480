-- What is noted of a term.
use Rattle.std.specs.Prelude.{◌≡◌, refl, Bool, true, false, List, [], ◌∷◌}
use Rattle.std.proofs.Common.{sym, ◌∙◌, ap, ⊎_elim}
use Rattle.std.proofs.Math.Option.{Option, none, some}
use Rattle.terms.specs.Lists.{here, there, not-in-nil, cons-cases, Distinct}
use Rattle.terms.specs.Term.{Term, same}
use Rattle.terms.specs.Theory.Reflects.{Reflects}
use Rattle.terms.specs.Theory.TermOrder.{same_reflects}
use Rattle.weigh.specs.Weigh.{Weighed, terms}
use Rattle.weigh.specs.Outcome.{held}
use Rattle.weigh.specs.Hand.{Holds, Noted}
use Rattle.weigh.specs.Theory.Noting.{same_entry}

abbrev pub IsHeld : Term → List Weighed → Option Weighed → Type 0
IsHeld t zs none = Noted zs t → ⊥
IsHeld t zs (some z) = Holds zs t z

pub held_is : (t : Term) (zs : List Weighed) → IsHeld t zs (held t zs)
unfolding held
held_is t [] = λ (z, (m, e)). not-in-nil m
held_is t (x ∷ xs) = go (same t x.term) (same_reflects t x.term) (held t xs) (held_is t xs)
  where
    go : (b : Bool) → Reflects (t ≡ x.term) b → (o : Option Weighed) → IsHeld t xs o → IsHeld t (x ∷ xs) (elim b [ true ↦ some x | false ↦ o ])
    go true e o h = (here refl, sym e)
    go false e none h = λ (z, (m, p)). ⊎_elim (λ q. e (sym p ∙ ap (λ y. y.term) q)) (λ n. h (z, (n, p))) (cons-cases m)
    go false e (some z) (m, p) = (there m, p)

-- of distinct terms it is what has the term, or nothing
pub held_once : (t : Term) (zs : List Weighed) → Distinct (terms zs) → (z : Weighed) → Holds zs t z → held t zs ≡ some z
held_once t zs d z (i, e) = go (held t zs) (held_is t zs)
  where
    go : (o : Option Weighed) → IsHeld t zs o → o ≡ some z
    go none h = absurd (h (z, (i, e)))
    go (some y) (j, p) = ap some (same_entry zs d y z j i (p ∙ sym e))

pub held_none : (t : Term) (zs : List Weighed) → (Noted zs t → ⊥) → held t zs ≡ none
held_none t zs h = go (held t zs) (held_is t zs)
  where
    go : (o : Option Weighed) → IsHeld t zs o → o ≡ none
    go none k = refl
    go (some y) k = absurd (h (y, k))
