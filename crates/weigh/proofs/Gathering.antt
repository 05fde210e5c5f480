-- A layer gathered: its terms are put in one after another, and the first of them are kept.
use Prim.Native.Nat.{ℕ, suc, ◌+◌, ◌≤◌, ◌<◌, min}
use native.Mathlib.Omega.{arith}
use native.Mathlib.Numerals.{add-one}
use mathlib.Core.Path.{◌≡◌, refl, sym, ap, ◌∙◌}
use mathlib.Core.Bool.{false}
use mathlib.Core.List.{List, [], ◌∷◌, ◌++◌, foldl-append}
use lib.ListN.{length, take}
use lib.Seq.{take-suc, take_all, take-take, take-nil, length-take-le}
use Rattle.std.proofs.lemmas.List.{take_min, length-take}
use Rattle.terms.specs.Lists.{◌∈◌}
use Rattle.terms.specs.Compare.{Ordering}
use Rattle.terms.specs.Sort.{lost, insert, repeat, sort, Below, Sorted}
use Rattle.terms.specs.Term.{Term, order}
use Rattle.terms.specs.Theory.Order.{cases}
use Rattle.terms.specs.Theory.Members.{getD_in}
use Rattle.terms.specs.Theory.Insert.{insert_lt, insert_eq, insert_gt}
use Rattle.terms.specs.Theory.Sorted.{sort_sorted}
use Rattle.terms.specs.Theory.SortMembers.{sort_map}
use Rattle.terms.specs.Theory.TermOrder.{term_order}
use Rattle.search.specs.Runs.{value_of}
use Rattle.search.proofs.Rising.{rise_by_terms}
use Rattle.weigh.specs.Weigh.{Weighed, terms, start}
use Rattle.weigh.specs.Layer.{by_term, waiting_at, layer_at}
use Rattle.weigh.specs.Slots.{weighed_at, WeighSlots}
use Rattle.weigh.specs.Gathered.{SlotsOf, none, Inserts, Gathers}
use Rattle.weigh.specs.Theory.Layers.{waiting_more, waiting_same}
use Rattle.weigh.proofs.Inserting.{names_length}

-- the first of some items in order, and one more: only the first of those before can be among them
module _ {A : Type 0} (o : A → A → Ordering) where
  insert_front : (n : ℕ) (x : A) (ys : List A) → take n (insert lost o x (take n ys)) ≡ take n (insert lost o x ys)
  unfolding insert repeat
  insert_front ℕ.zero x ys = refl
  insert_front (suc n) x [] = refl
  insert_front (suc n) x (y ∷ ys) =
      cases (o x y)
      (λ e. rw (insert_lt lost o (take n ys) e, insert_lt lost o ys e) (ap (λ l. x ∷ l) (take-take n (suc n) (y ∷ ys) (omega arith))))
      (λ e. rw (insert_eq lost o (take n ys) e, insert_eq lost o ys e) (ap (λ l. y ∷ l) (take-take n n ys (omega arith))))
      (λ e. rw (insert_gt lost o (take n ys) e, insert_gt lost o ys e) (ap (λ l. y ∷ l) (insert_front n x ys)))

  below_front : (n : ℕ) (x : A) (ys : List A) → Below lost o x ys → Below lost o x (take n ys)
  below_front ℕ.zero x ys b = tt
  below_front (suc n) x [] b = tt
  below_front (suc n) x (y ∷ ys) b = b

  sorted_front : (n : ℕ) (ys : List A) → Sorted lost o ys → Sorted lost o (take n ys)
  sorted_front ℕ.zero ys s = tt
  sorted_front (suc n) [] s = tt
  sorted_front (suc n) (y ∷ ys) s = (below_front n y ys s.0, sorted_front n ys s.1)

abbrev pub sorted : List Weighed → List Weighed
sorted = sort lost by_term

sorted_rises : (zs : List Weighed) → Sorted lost by_term (sorted zs)
sorted_rises zs = rise_by_terms (λ x. x.term) (sorted zs) (rw (sort_map lost (λ x. x.term) order zs) (sort_sorted lost term_order (terms zs)))

-- of the first k slots' terms those of total l are put in
pub record Gathered (ws : List ℕ) (noted l most : ℕ) (order : List ℕ) (count k : ℕ) : Type 0 where
  pub few : count ≤ most
  pub exact : (es : List Weighed) → WeighSlots ws es → length es ≡ noted → ((z : Weighed) → z ∈ es → z.total ≡ l → z.opened ≡ false)
      → SlotsOf es (take count order) (take most (sorted (waiting_at l (take k es))))

module _ (ws : List ℕ) (noted l most : ℕ) where
  pub gathers_none : (order : List ℕ) → Gathered ws noted l most order 0 0
  unfolding waiting_at
  gathers_none order = record { few = omega arith; exact = λ es W c o. rw (take-nil most) none }

  module _ (order : List ℕ) (count k : ℕ) (G : Gathered ws noted l most order count k) where
    module _ (within : k < noted) where
      next : (es : List Weighed) → length es ≡ noted → take (k + 1) es ≡ take k es ++ (weighed_at es k ∷ [])
      next es c = rw add-one (take-suc es k (start Term.zero) (omega (arith, c)))

      pub gathers_passes : (value_of ws k ≡ l → ⊥) → Gathered ws noted l most order count (k + 1)
      gathers_passes h =
          record {
            few = G.few;
            exact = λ es W c o.
                rw (next es c, waiting_same l (take k es) (weighed_at es k) (λ e. h (W.total k (omega (arith, c)) ∙ e))) (G.exact es W c o);
          }

      pub gathers_takes : value_of ws k ≡ l → (order' : List ℕ) (r : ℕ) → Inserts ws k most order count order' r → Gathered ws noted l most order' r (k + 1)
      gathers_takes q order' r I =
          record {
            few = I.few;
            exact = λ es W c o.
                let h : k < length es = omega (arith, c) in
                let x = weighed_at es k in
                let e : x.total ≡ l = sym (W.total k h) ∙ q in
                let ys = sorted (waiting_at l (take k es)) in
                let put : sorted (waiting_at l (take (k + 1) es)) ≡ insert lost by_term x ys =
                rw (next es c, waiting_more l (take k es) x (o x (getD_in (start Term.zero) es k h) e) e) (foldl-append _ [] (waiting_at l (take k es)) (x ∷ [])) in
                rw (put, ← (insert_front by_term most x ys))
                (I.exact es (take most ys) W h (sorted_front by_term most ys (sorted_rises (waiting_at l (take k es)))) (G.exact es W c o));
          }

    pub gathers_all : most ≤ length order → k ≡ noted → Gathers ws noted l most order count
    unfolding layer_at
    gathers_all room e =
        record {
          few = G.few;
          exact = λ es W c d o.
              let named : SlotsOf es (take count order) (take most (layer_at l es)) = rw (take_all k es (omega (arith, c, e))) at (G.exact es W c o) in
              let n : count ≡ min most (length (layer_at l es)) =
              sym (length-take-le count order (omega (arith, G.few))) ∙ names_length named ∙ length-take most (layer_at l es) in
              let all : take count (layer_at l es) ≡ take most (layer_at l es) = ap (λ i. take i (layer_at l es)) n ∙ take_min most (layer_at l es) in
              (rw all named, λ h. omega (arith, n));
        }
