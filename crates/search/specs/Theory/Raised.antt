-- With a larger node limit a none that is not cut stays as it is, and one that is cut does not.
use Rattle.std.specs.Prelude.{ℕ, suc, ◌≤◌, ◌<◌, ◌≡◌, Bool, true, false, List, [], ◌∷◌, drop, ltb}
use native.Mathlib.Omega.{arith}
use Rattle.std.proofs.Math.Path.{refl, subst}
use Rattle.std.proofs.Common.{sym, ◌∙◌, ap}
use Rattle.std.proofs.Math.ListN.{length}
use Rattle.terms.specs.Lists.{here}
use Rattle.terms.specs.Sort.{lost, sort}
use Rattle.terms.specs.Term.{Term}
use Rattle.terms.specs.Theory.Reflects.{Reflects, leb_reflects}
use Rattle.search.specs.Law.{Law}
use Rattle.search.specs.Line.{Line, Limits, lines, within, allowed, by_result, results}
use Rattle.search.specs.Path.{Searchable}
use Rattle.search.specs.Search.{Noted, unproved, search}
use Rattle.search.specs.Explore.{start, grow, Explored, at_end, explore, explored}
use Rattle.search.specs.Cut.{left_unopened, cut}
use Rattle.search.specs.Claims.{with_nodes}
use Rattle.search.specs.Theory.Frontier.{distance, Tries}
use Rattle.search.specs.Theory.Reach.{reachable}
use Rattle.search.specs.Theory.Explore.{Ends, explore_cases, explore_ends}
use Rattle.search.specs.Theory.LookUp.{meets_knows, search_explored}
use Rattle.search.specs.Theory.Tries.{tries}
use Rattle.search.specs.Theory.None.{unproved_none}
use Rattle.search.specs.Theory.Cut.{any_near_reflects, explored_ends, unopened_counts}

-- ---- the results do not depend on the node limit

allowed_nodes : (k : ℕ) (m : Limits) (xs : List Line) → allowed (with_nodes k m) xs ≡ allowed m xs
unfolding allowed within
allowed_nodes k m [] = refl
allowed_nodes k m (x ∷ xs) = ap (λ ys. elim (within m x.result) [ true ↦ x ∷ ys | false ↦ ys ]) (allowed_nodes k m xs)

results_nodes : (ws : List Law) (k : ℕ) (m : Limits) (t : Term) → results ws (with_nodes k m) t ≡ results ws m t
unfolding results
results_nodes ws k m t = ap (sort lost by_result) (allowed_nodes k m (lines ws t))

-- ---- a search that leaves nothing unopened stays as it is, if more may be opened

module _ (next next' : Term → List Line) (same : (t : Term) → next' t ≡ next t) (steps : ℕ) where
  explore_stays : (f g : ℕ) → f ≤ g → (i : ℕ) (noted : List Noted) → left_unopened steps (explore next steps f i noted) ≡ false
      → explore next' steps g i noted ≡ explore next steps f i noted
  unfolding explore left_unopened
  explore_stays ℕ.zero ℕ.zero h i noted c = refl
  explore_stays ℕ.zero (suc g) h i noted c =
      explore_cases next' steps (λ e. e ≡ at_end i noted) g i noted (λ _. refl) (λ _ _ _ _. refl)
      (λ x rest e near. absurd ((rw c at (any_near_reflects steps (drop i noted))) (x, rw e (here refl), near)))
  explore_stays (suc f) ℕ.zero h i noted c = absurd (omega (arith, h))
  explore_stays (suc f) (suc g) h i noted c = go (λ ns. explore_stays f g (omega (arith, h)) (suc i) ns) (drop i noted) c
    where
      opened : Noted → Explored
      opened x = explore next steps f (suc i) (grow x.trail (next x.term) noted)

      opened' : Noted → Explored
      opened' x = explore next' steps g (suc i) (grow x.trail (next' x.term) noted)

      On : Type 0
      On = (ns : List Noted) → left_unopened steps (explore next steps f (suc i) ns) ≡ false
          → explore next' steps g (suc i) ns ≡ explore next steps f (suc i) ns

      by : (Noted → Explored) → Noted → Bool → Explored
      by after x b = elim b [ false ↦ at_end i noted | true ↦ after x ]

      first : (Noted → Explored) → List Noted → Explored
      first after l = elim l [ [] ↦ at_end i noted | x ∷ rest ↦ by after x (ltb (distance x) steps) ]

      by_distance : On → (x : Noted) (b : Bool) → left_unopened steps (by opened x b) ≡ false → by opened' x b ≡ by opened x b
      by_distance on x true c = rw (same x.term) (on (grow x.trail (next x.term) noted) c)
      by_distance on x false c = refl

      go : On → (l : List Noted) → left_unopened steps (first opened l) ≡ false → first opened' l ≡ first opened l
      go on [] c = refl
      go on (x ∷ rest) c = by_distance on x (ltb (distance x) steps) c

module _ (ws : List Law) (m : Limits) (left right : Term) (differ : left ≡ right → ⊥) (k : ℕ) (larger : m.nodes < k) where
  abbrev raised : Limits
  raised = with_nodes k m

  -- the same lines are tried
  raised_tries : Tries (Searchable ws m) (results ws raised)
  raised_tries =
      record {
        sound = λ t x i. (tries ws m).sound t x (rw (results_nodes ws k m t) at i);
        complete = λ t x h. rw (results_nodes ws k m t) ((tries ws m).complete t x h);
      }

  raised_ends : Ends (Searchable ws m) m.steps k left (explored ws raised left)
  unfolding explored
  raised_ends = explore_ends raised_tries m.steps k left

  explored_stays : cut ws m left ≡ false → explored ws raised left ≡ explored ws m left
  unfolding explored cut
  explored_stays c = explore_stays (results ws m) (results ws raised) (results_nodes ws k m) m.steps m.nodes k (omega arith) 0 (start left) c

  -- where one is left, more are opened
  explored_more : cut ws m left ≡ true → (explored ws m left).opened < (explored ws raised left).opened
  unfolding cut
  explored_more c =
      let (ts, distinct, all, only) = reachable (tries ws m) m.steps left in
      let (is, count) = unopened_counts (explored_ends ws m left) ts distinct all only in
      let (is', count') = unopened_counts raised_ends ts distinct all only in
      let more = subst (Reflects (m.nodes < length ts)) (sym is ∙ c) (leb_reflects (suc m.nodes) (length ts)) in
      omega arith

  module _ (e n : ℕ) (eq : search ws m left right ≡ unproved e n) where
    pub stays : cut ws m left ≡ false → search ws raised left right ≡ unproved e n
    stays c =
        let none = unproved_none ws m left right differ e n eq in
        let same = explored_stays c in
        ((search_explored ws raised left right).looked_up none.no_direct).missed (λ z p j meets. none.unknown (rw same at (meets_knows meets)))
        ∙ rw (same, ← none.opened, ← none.count)

    pub opens_more : cut ws m left ≡ true → (e' n' : ℕ) → search ws raised left right ≡ unproved e' n' → e < e'
    opens_more c e' n' eq' =
        omega (
          arith,
          explored_more c,
          (unproved_none ws m left right differ e n eq).opened,
          (unproved_none ws raised left right differ e' n' eq').opened,
        )
