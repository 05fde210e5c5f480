-- The outcome that noted terms say.
use Rattle.std.specs.Prelude.{◌≡◌, Bool, true, false, List, length}
use Rattle.std.proofs.Common.{◌∙◌}
use Rattle.std.proofs.Math.Path.{refl}
use Rattle.std.proofs.Math.Option.{none, some}
use Rattle.terms.specs.Lists.{◌∈◌}
use Rattle.terms.specs.Term.{Term, same}
use Rattle.terms.specs.Theory.Reflects.{Reflects}
use Rattle.terms.specs.Theory.TermOrder.{same_reflects}
use Rattle.weigh.specs.Weigh.{Weighed, least, Turn, ends, arrives, opens, turn, opened_count, left_unopened}
use Rattle.weigh.specs.Outcome.{Outcome, proved, atmost, unproved, held, without_path, in_hand, outcome}
use Rattle.weigh.specs.Claims.{LeftUnopened}
use Rattle.weigh.specs.Theory.Least.{Turned, turn_is}
use Rattle.weigh.specs.Theory.Spread.{left_unopened_reflects}

-- the outcome where nothing waits
pub outcome_ends : (right : Term) (es : List Weighed) → ((z : Weighed) → z ∈ es → z.opened ≡ false → ⊥) → outcome right es ≡ unproved (opened_count es) (length es) false
unfolding outcome without_path
outcome_ends right es nothing = go (turn right es) (turn_is right es)
  where
    uncut : (b : Bool) → Reflects (LeftUnopened es) b → unproved (opened_count es) (length es) b ≡ unproved (opened_count es) (length es) false
    uncut true (z, i, o) = absurd (nothing z i o)
    uncut false h = refl

    go : (u : Turn) → Turned right es u
        → elim u [
          | ends ↦ without_path es
          | arrives x ↦ proved x.trail (opened_count es) (length es)
          | opens x ↦ in_hand right x es
        ] ≡ unproved (opened_count es) (length es) false
    go ends h = uncut (left_unopened es) (left_unopened_reflects es)
    go (arrives x) ((i, o, h), e) = absurd (nothing x i o)
    go (opens x) ((i, o, h), e) = absurd (nothing x i o)

-- what the outcome is where x is the least that waits
module _ (right : Term) (es : List Weighed) (x : Weighed) (e : least es ≡ some x) where
  outcome_cases : (P : Outcome → Type 0) → (x.term ≡ right → P (proved x.trail (opened_count es) (length es)))
      → ((x.term ≡ right → ⊥) → P (in_hand right x es)) → P (outcome right es)
  unfolding outcome turn
  outcome_cases P came other = rw (e, turn, outcome) (go (same x.term right) (same_reflects x.term right))
    where
      go : (b : Bool) → Reflects (x.term ≡ right) b
          → P (elim (elim b as (λ _. Turn) [ true ↦ arrives x | false ↦ opens x ]) [
            | ends ↦ without_path es
            | arrives y ↦ proved y.trail (opened_count es) (length es)
            | opens y ↦ in_hand right y es
          ])
      go true h = came h
      go false h = other h

  pub outcome_arrives : x.term ≡ right → outcome right es ≡ proved x.trail (opened_count es) (length es)
  outcome_arrives p = outcome_cases (λ o. o ≡ proved x.trail (opened_count es) (length es)) (λ q. refl) (λ h. absurd (h p))

  outcome_opens : (x.term ≡ right → ⊥) → outcome right es ≡ in_hand right x es
  outcome_opens other = outcome_cases (λ o. o ≡ in_hand right x es) (λ p. absurd (other p)) (λ h. refl)

  -- right is noted, or it is not
  pub outcome_held : (x.term ≡ right → ⊥) → (z : Weighed) → held right es ≡ some z → outcome right es ≡ atmost z.trail x.total (opened_count es) (length es)
  unfolding in_hand
  outcome_held other z h = outcome_opens other ∙ rw (h, in_hand) refl

  pub outcome_cut : (x.term ≡ right → ⊥) → held right es ≡ none → outcome right es ≡ without_path es
  unfolding in_hand
  outcome_cut other h = outcome_opens other ∙ rw (h, in_hand) refl
