-- Whether a search that is over was cut, from its slots.
use Prim.Native.Nat.{ℕ, min, ◌≤◌, ◌<◌}
use native.Mathlib.Omega.{arith}
use mathlib.Core.Path.{◌≡◌, sym, ◌∙◌, ap}
use mathlib.Core.Bool.{false}
use mathlib.Core.List.{List}
use lib.ListN.{length, drop}
use lib.Dec.{ltb}
use Rattle.terms.specs.Term.{Term}
use Rattle.search.specs.Law.{Law}
use Rattle.search.specs.Serve.{serve}
use Rattle.search.specs.Cut.{cut}
use Rattle.search.specs.Runs.{value_of}
use Rattle.search.specs.Searched.{limits_of, slots_of, stop_of, Ends, Cuts}
use Rattle.search.specs.Theory.Serve.{serve_few}
use Rattle.search.specs.Theory.Cut.{first_near, first_near_end, first_near_slot, served_cut}
use Rattle.search.specs.declared.bounded_search.Limits.{Limits}
use Rattle.search.specs.declared.bounded_search.Stop.TheVariants.{Over}
use Rattle.search.specs.declared.bounded_search.Ended.{Ended}

module _ (ws : List ℕ) (r : Ended) (m : Limits) where
  module _ (laws : List Law) (slots : ℕ) (s : Term) (ts : List Term) (E : Ends r ws (serve laws (limits_of m) slots s ts)) (is : r.stop ≡ Over) where
    -- by the next noted term
    by_next : cut laws (limits_of m) s ≡ first_near m.steps (drop r.opened (serve laws (limits_of m) slots s ts).noted)
    by_next =
        served_cut laws (limits_of m) s slots ts (sym E.stop ∙ ap stop_of is)
        ∙ ap (λ i. first_near m.steps (drop i (serve laws (limits_of m) slots s ts).noted)) (sym E.opened)

  -- none is left, and none is noted past the slots
  pub cuts_end : min r.noted (slots_of (length ws)) ≤ r.opened → Cuts ws r m false
  cuts_end h =
      record {
        exact = λ laws slots s ts few E is.
            sym (by_next laws slots s ts E is ∙ first_near_end m.steps _ r.opened (omega (arith, E.noted, serve_few laws (limits_of m) slots s ts)));
      }

  pub cuts_next : r.opened < r.noted → Cuts ws r m (ltb (value_of ws r.opened) m.steps)
  cuts_next h =
      record {
        exact = λ laws slots s ts few E is.
            sym (by_next laws slots s ts E is ∙ first_near_slot m.steps _ r.opened ws E.slots (omega (arith, E.noted)));
      }
