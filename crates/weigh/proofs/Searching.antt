-- The search from left on: layer after layer is gathered and opened, until right comes up, a limit is met or nothing waits.
use Rattle.std.specs.Prelude.{ℕ, ◌+◌, ◌-◌, ◌≤◌, ◌<◌, ◌≡◌, false, List, [], ◌∷◌, length, take, drop}
use Rattle.std.proofs.Common.{arith, sym, ◌∙◌, ap, ⊎_elim}
use Rattle.std.proofs.Math.Path.{refl, subst}
use Rattle.std.proofs.lemmas.Bool.{false≢true}
use native.Mathlib.Nat.{sub-zero}
use lib.ListN.{drop_of_length-le}
use Rattle.std.proofs.lemmas.List.{take-append-drop, length-take-le}
use Rattle.terms.specs.Lists.{◌∈◌, only_one}
use Rattle.terms.specs.Term.{Term}
use Rattle.terms.specs.Held.{IsRun}
use Rattle.terms.specs.Theory.Held.{size_of}
use Rattle.search.specs.Law.{semiring}
use Rattle.search.specs.Searched.{limits_of, slots_of}
use Rattle.search.specs.Slots.{Starts}
use Rattle.search.specs.declared.bounded_search.Limits.{Limits}
use Rattle.weigh.specs.Weigh.{Weighed, weights_of, start, opened_count, weighed}
use Rattle.weigh.specs.Claims.{Heavy}
use Rattle.weigh.specs.Layer.{layer_at}
use Rattle.weigh.specs.Slots.{WeighSlots}
use Rattle.weigh.specs.Gathered.{Gathers}
use Rattle.weigh.specs.Searched.{Why, Searches}
use Rattle.weigh.specs.Layered.{next, Stands, Awaits, Below, Goes, OpensLayer, OpensLayers}
use Rattle.weigh.specs.declared.layers.Stop.{Stop}
use Rattle.weigh.specs.declared.layers.Stop.TheVariants.{Right, InHand, Cut, Over, Full}
use Rattle.weigh.specs.declared.layers.Ended.{Ended}
use Rattle.weigh.specs.Theory.State.{opened_or_not, starts}
use Rattle.weigh.specs.Theory.Steps.{spread_length}
use Rattle.weigh.specs.Theory.Layers.{Layer, layer_is, spread_nothing}
use Rattle.weigh.proofs.Noting.{start_slots}
use Rattle.weigh.proofs.Outcomes.{outcome_ends}

-- where each search stands that starts with what ws₀ has: the layers below total l are opened
pub record Onward (weights : List ℕ) (cost : ℕ) (m : Limits) (right ws₀ ws : List ℕ) (noted opened l : ℕ) : Type 0 where
  pub exact : (s t : Term) → WeighSlots ws₀ (start s ∷ []) → IsRun right t → Heavy (weights_of weights)
      → (es : List Weighed) × Stands weights cost m s t (weighed semiring (weights_of weights) cost (limits_of m) s t) ws noted opened es × Below l es

-- left is noted
pub onward_starts : (weights : List ℕ) (cost : ℕ) (m : Limits) (right ws : List ℕ) → Onward weights cost m right ws ws 1 0 0
unfolding weighed opened_count
onward_starts weights cost m right ws = record { exact = λ s t S R H. (start s ∷ [], stands s t S, below s) }
  where
    stands : (s t : Term) → WeighSlots ws (start s ∷ [])
        → Stands weights cost m s t (weighed semiring (weights_of weights) cost (limits_of m) s t) ws 1 0 (start s ∷ [])
    stands s t S =
        record {
          held = S;
          counted = refl;
          count = refl;
          most = omega arith;
          state = starts s t;
          is = rw (sub-zero m.nodes) refl;
        }

    below : (s : Term) → Below 0 (start s ∷ [])
    below s =
        record { light = λ z i o. absurd (false≢true (sym (ap (λ x. x.opened) (only_one i)) ∙ o)); heavy = λ z i o. omega arith }

-- a layer is gathered
awaits : {weights : List ℕ} {cost : ℕ} {m : Limits} {s t : Term} {v : List Weighed} {ws : List ℕ} {noted opened : ℕ} {es : List Weighed}
    → Stands weights cost m s t v ws noted opened es → {l : ℕ} → Below l es → {order : List ℕ} {r : ℕ} → Gathers ws noted l (m.nodes - opened + 1) order r
    → m.nodes - opened + 1 ≤ length order → Awaits l (m.nodes - opened) (take r order) es
awaits {es = es} St {l} B {order} {r} G long =
    let (named, whole) =
    G.exact es St.held St.counted St.state.distinct
    (λ z i e. ⊎_elim (λ o. let h = B.light z i o in absurd (omega arith)) (λ o. o) (opened_or_not z.opened)) in
    record {
      xs = take r (layer_at l es);
      others = drop r (layer_at l es);
      layer = subst (λ zs. Layer l zs es) (sym (take-append-drop r (layer_at l es))) (layer_is l es St.state.distinct B.heavy);
      named = named;
      all = λ h.
          let few = length-take-le r order (omega (arith, G.few)) in
          let e = whole (omega arith) in
          drop_of_length-le (layer_at l es) (omega arith);
      light = λ z i o. let h = B.light z i o in omega arith;
    }

module _ {weights : List ℕ} {cost : ℕ} {m : Limits} {right ws₀ ws : List ℕ} {noted opened l : ℕ} (On : Onward weights cost m right ws₀ ws noted opened l) where
  -- the layer of total l is gathered and opened
  module _ {order : List ℕ} {n : ℕ} (G : Gathers ws noted l (m.nodes - opened + 1) order n) (long : m.nodes - opened + 1 ≤ length order) {slots : ℕ} {stop : Stop} {ws' : List ℕ}
      {r : Ended} (L : OpensLayer weights cost m slots right (take n order) l (record { stop = stop; opened = opened; noted = noted }) ws ws' r) where
    went : (s t : Term) → WeighSlots ws₀ (start s ∷ []) → IsRun right t → Heavy (weights_of weights)
        → Goes r.stop weights cost m slots (l + 1) s t (weighed semiring (weights_of weights) cost (limits_of m) s t) ws' r.noted r.opened
    went s t S R H =
        let (es, St, B) = On.exact s t S R H in
        L.exact s t (weighed semiring (weights_of weights) cost (limits_of m) s t) es R H St (awaits St B G long)

    pub onward_next : r.stop ≡ Over → Onward weights cost m right ws₀ ws' r.noted r.opened (l + 1)
    onward_next e = record { exact = λ s t S R H. rw e at (went s t S R H) }

    pub onward_stops : (r.stop ≡ Over → ⊥) → OpensLayers weights cost m slots right ws₀ ws' r
    onward_stops h = record { exact = λ s t S R H. ended r.stop h s t (weighed semiring (weights_of weights) cost (limits_of m) s t) (went s t S R H) }
      where
        ended : (stop : Stop) → (stop ≡ Over → ⊥) → (s t : Term) (v : List Weighed) → Goes stop weights cost m slots (l + 1) s t v ws' r.noted r.opened
            → Why stop r.opened r.noted slots ws' t v
        ended Over h s t v g = absurd (h refl)
        ended (Right k) h s t v g = g
        ended (InHand k b) h s t v g = g
        ended Cut h s t v g = g
        ended Full h s t v g = g

  -- all layers up to cost are opened
  pub onward_ends : cost < l → {slots : ℕ} → noted ≤ slots → OpensLayers weights cost m slots right ws₀ ws (record { stop = Over; opened = opened; noted = noted })
  onward_ends h {slots} fits =
      record {
        exact = λ s t S R H.
            let (es, St, B) = On.exact s t S R H in
            ends s t (weighed semiring (weights_of weights) cost (limits_of m) s t) es St (λ z i o. omega (arith, B.heavy z i o, St.state.allowed z i));
      }
    where
      ends : (s t : Term) (v es : List Weighed) → Stands weights cost m s t v ws noted opened es → ((z : Weighed) → z ∈ es → z.opened ≡ false → ⊥)
          → Why Over opened noted slots ws t v
      ends s t v es St nothing =
          rw (St.is ∙ spread_nothing (next m) (weights_of weights) cost t es (m.nodes - opened) nothing) (
            St.counted,
            fits,
            rw (← St.count, ← St.counted) (outcome_ends t es nothing),
          )

-- the whole search: there is no slot for left, or it is noted

abbrev unsearched : Ended
unsearched = record { stop = Full; opened = 0; noted = 0 }

module _ {weights : List ℕ} {cost : ℕ} {left right : List ℕ} {m : Limits} {ws : List ℕ} where
  pub searches_none : {slots : ℕ} → slots ≡ slots_of (length ws) → slots ≡ 0 → Searches weights cost left right m ws ws unsearched
  unfolding weighed
  searches_none c e =
      record {
        exact = λ s t L R p k n H.
            omega (arith, c, e, spread_length (next m) (weights_of weights) cost t m.nodes (start s ∷ []));
      }

  pub searches_wide : 31 < m.size → Searches weights cost left right m ws ws unsearched
  searches_wide h = record { exact = λ s t L R p k n H. absurd (omega arith) }

  pub searches_many : 4096 < m.nodes → Searches weights cost left right m ws ws unsearched
  searches_many h = record { exact = λ s t L R p k n H. absurd (omega arith) }

  pub searches_long : 31 < length left → Searches weights cost left right m ws ws unsearched
  searches_long h = record { exact = λ s t L R p k n H. absurd (omega (arith, size_of L)) }

  pub searches_begun : {slots : ℕ} {xs ws₁ ws' : List ℕ} {r : Ended} → slots ≡ slots_of (length ws) → xs ≡ left → Starts ws₁ xs
      → OpensLayers weights cost m slots right ws₁ ws' r → Searches weights cost left right m ws ws' r
  searches_begun {ws₁} c e S O =
      record {
        exact = λ s t L R p k n H. rw (← c) (O.exact s t (start_slots ws₁ s (S.slots s (rw e L))) R H);
      }
