-- What may be missing, and is refused by `ok_or` where it is.
use Rattle.std.proofs.Common.{◌≡◌, arith, ap, ◌∙◌, None, Ok, Err}
use Rattle.std.specs.Prelude.{Option, Result, MatchOption}
use Rattle.std.specs.Option.{ok_or}
use Rattle.std.specs.Result.{result_ok}
use Rattle.std.proofs.lemmas.Option.{MatchOption-at_some, MatchOption-at_none}
use Rattle.text.specs.declared.refusal.Refusal.{Refusal}

module _ {A : Type 0} (P : Type 0) (Q : A → Type 0) (o : Option A) (h : MatchOption o P Q) {r : Result A Refusal} where
  -- what is not refused is there
  pub there : o ≡ result_ok r → {x : A} → r ≡ Ok x → Q x
  there e k = MatchOption-at_some _ _ _ (e ∙ ap result_ok k) h

  -- what is refused is missing, and the refusal is the one that was given
  pub missing : {given refusal : Refusal} → r ≡ ok_or o given → r ≡ Err refusal → (refusal ≡ given) × P
  missing {given} {refusal} e k =
      let none : o ≡ None = grind arith in
      let same : refusal ≡ given = grind arith in
      (same, MatchOption-at_none _ _ none h)
