-- Where no more terms may be opened: right is looked for among the noted terms.
use Rattle.std.specs.Prelude.{ℕ, ◌<◌, List, length, Some, None}
use Rattle.std.proofs.Common.{arith, sym, ◌∙◌}
use Rattle.std.proofs.Math.Path.{refl}
use Rattle.terms.specs.Lists.{in-cast, in_map}
use Rattle.terms.specs.Term.{zero}
use Rattle.terms.specs.Theory.Members.{getD_in}
use Rattle.search.specs.Runs.{Seeks}
use Rattle.weigh.specs.Weigh.{Weighed, terms, start}
use Rattle.weigh.specs.Slots.{weighed_at}
use Rattle.weigh.specs.Layered.{RunsOut}
use Rattle.weigh.specs.declared.layers.Stop.TheVariants.{InHand, Cut}
use Rattle.weigh.specs.Theory.Held.{held_once, held_none}
use Rattle.weigh.proofs.Noting.{counted, weighed_term}

module _ {ws xs : List ℕ} {noted : ℕ} (l : ℕ) where
  pub holding : {k : ℕ} → Seeks ws noted xs (Some k) → RunsOut ws noted xs l (InHand k l)
  holding {k} F =
      record {
        exact = λ t es S c d R.
            let within : k < length es = omega (arith, c, F.within) in (
              refl,
              within,
              held_once t es d (weighed_at es k) (
                getD_in (start zero) es k within,
                sym (weighed_term es k) ∙ F.exact (terms es) t S.runs (counted es ∙ c) R,
              ),
            );
      }

  pub holding_none : Seeks ws noted xs None → RunsOut ws noted xs l Cut
  holding_none F =
      record {
        exact = λ t es S c d R.
            held_none t es (λ (z, (i, e)). F.exact (terms es) t S.runs (counted es ∙ c) R (in-cast (sym e) (in_map (λ (x : Weighed). x.term) i)));
      }
