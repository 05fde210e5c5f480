-- The first term that the one search notes is left.
use Prim.Native.Nat.{ℕ, suc, ◌+◌, ◌<◌}
use native.Mathlib.Omega.{arith}
use mathlib.Core.Path.{◌≡◌, refl, ◌∙◌, ap}
use mathlib.Core.Logic.{⊎_elim}
use mathlib.Core.Bool.{Bool, true, false}
use mathlib.Core.List.{List, [], ◌∷◌, ◌++◌}
use lib.Dec.{ltb}
use lib.ListN.{length, length-append}
use Rattle.terms.specs.Term.{Term}
use Rattle.terms.specs.Theory.Order.{below?}
use Rattle.search.specs.Law.{Law}
use Rattle.search.specs.Line.{Line, Limits, results}
use Rattle.search.specs.Search.{Noted, is_noted, entry}
use Rattle.search.specs.Explore.{start}
use Rattle.search.specs.Serve.{unnoted, Taking, all_noted, no_slot, taken, take_results, all, full, Served, stopped, serve_on, waited, serve}
use Rattle.search.specs.Slots.{noted_at}
use Rattle.search.proofs.Noting.{noted_before}
use Rattle.search.proofs.Serving.{after, serve_end, serve_far, serve_opens}

-- what holds of the noted terms at first, and still where one more is noted, holds to the end
module _ (P : List Noted → Type 0) (one_more : (ns : List Noted) (n : Noted) → P ns → P (ns ++ (n ∷ []))) (slots : ℕ) (rights : List Term) where
  abbrev Took : Taking → Type 0
  Took (all_noted ys) = P ys
  Took (no_slot ys) = P ys
  Took (taken ys) = P ys

  takes : (trail xs : List Line) (ns : List Noted) → P ns → Took (take_results slots rights trail xs ns)
  unfolding take_results
  takes trail [] ns h = h
  takes trail (x ∷ xs) ns h =
      go (is_noted x.result ns) (ltb (length ns) slots) (unnoted rights more) (takes trail xs ns h) (takes trail xs more (one_more ns (entry trail x) h))
    where
      more : List Noted
      more = ns ++ (entry trail x ∷ [])

      go : (b c : Bool) (ts : List Term) → Took (take_results slots rights trail xs ns) → Took (take_results slots rights trail xs more)
          → Took (elim b [
            | true ↦ take_results slots rights trail xs ns
            | false ↦ elim c [ false ↦ no_slot ns | true ↦ elim ts [ [] ↦ all_noted more | t ∷ ts ↦ take_results slots rights trail xs more ] ]
          ])
      go true c ts p q = p
      go false false ts p q = h
      go false true [] p q = one_more ns (entry trail x) h
      go false true (t ∷ ts) p q = q

  module _ (next : Term → List Line) (steps : ℕ) where
    serves : (f i : ℕ) (ns : List Noted) → P ns → P (serve_on next steps slots rights f i ns).noted
    unfolding serve_on
    serves ℕ.zero i ns h = h
    serves (suc f) i ns h =
        ⊎_elim
        (λ within.
        ⊎_elim
        (λ near.
        rw (serve_opens next steps slots rights i ns within (suc f) f refl near)
        (go (λ ys. serves f (i + 1) ys) (take_results slots rights (noted_at ns i).trail (next (noted_at ns i).term) ns)
        (takes (noted_at ns i).trail (next (noted_at ns i).term) ns h)))
        (λ far. rw (serve_far next steps slots rights i ns within (suc f) far) h)
        (below? (length (noted_at ns i).trail) steps))
        (λ end. rw (serve_end next steps slots rights i ns (suc f) end) h)
        (below? i (length ns))
      where
        go : ((ys : List Noted) → P ys → P (serve_on next steps slots rights f (i + 1) ys).noted) → (t : Taking) → Took t
            → P (after next steps slots rights f (i + 1) t).noted
        go on (all_noted ys) p = p
        go on (no_slot ys) p = p
        go on (taken ys) p = on ys p

pub first_noted : (ws : List Law) (m : Limits) (slots : ℕ) (left : Term) (rights : List Term) → 0 < length (serve ws m slots left rights).noted
    → (noted_at (serve ws m slots left rights).noted 0).term ≡ left
unfolding serve
first_noted ws m slots left rights = go (waited ws left rights)
  where
    Starts : List Noted → Type 0
    Starts ns = (0 < length ns) × ((noted_at ns 0).term ≡ left)

    starts_still : (ns : List Noted) (n : Noted) → Starts ns → Starts (ns ++ (n ∷ []))
    starts_still ns n (some_noted, is) = (omega (arith, length-append ns (n ∷ [])), ap (λ y. y.term) (noted_before ns n 0 some_noted) ∙ is)

    Due : Served → Type 0
    Due v = 0 < length v.noted → (noted_at v.noted 0).term ≡ left

    on : List Term → Served
    on ts = serve_on (results ws m) m.steps slots ts m.nodes 0 (start left)

    go_room : (ts : List Term) (b : Bool) → Due (elim b [ false ↦ stopped full 0 [] | true ↦ on ts ])
    go_room ts true = λ _. (serves Starts starts_still slots ts (results ws m) m.steps m.nodes 0 (start left) (omega arith, refl)).1
    go_room ts false = λ h. absurd (omega (arith, h))

    go : (ts : List Term) → Due (elim ts [ [] ↦ stopped all 0 [] | t ∷ ts ↦ elim (ltb 0 slots) [ false ↦ stopped full 0 [] | true ↦ on (t ∷ ts) ] ])
    go [] = λ h. absurd (omega (arith, h))
    go (t ∷ ts) = go_room (t ∷ ts) (ltb 0 slots)
