-- What `?` hands on of an `ok_or`: its refusal, where there is nothing.
use Rattle.std.proofs.Common.{◌≡◌, refl, ap, ◌∙◌, Some, None, Result, Err}
use Rattle.std.specs.Prelude as answered
use Rattle.std.specs.Option.{ok_or}
use Rattle.std.specs.Result.{IsErrAnd}
use Rattle.std.proofs.lemmas.Result.{err_from_is_err_and}

pub refused_by : {A T E : Type 0} (o : answered.Option A) (e : E) {x : E} (r : Result T E) → IsErrAnd r (λ y. y ≡ x) → Err x ≡ ok_or o e → (o ≡ None) × (r ≡ Err e)
refused_by {A} {T} {E} o e {x} r h f =
    let p = err_from_is_err_and r h in
    let q = go o f in
    (q.0, p.1 ∙ ap Err (p.2 ∙ q.1))
  where
    go : (o : answered.Option A) → Err x ≡ ok_or o e → (o ≡ None) × (x ≡ e)
    go None f = (refl, cc)
    go (Some a) f = absurd (cc)
