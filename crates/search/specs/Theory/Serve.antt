-- One search for many right sides answers each as the search for it alone does.
use Prim.Native.Nat.{ℕ, suc, ◌≤◌, ◌<◌}
use Rattle.std.proofs.Common.{arith, sym, ◌∙◌, ⊎_elim}
use Rattle.std.specs.Prelude.{◌≡◌, Bool, true, false, drop, ltb}
use Rattle.std.proofs.Math.Path.{refl, ap}
use Rattle.std.proofs.Math.Option.{Option, none, some, none-ne-some}
use mathlib.Core.List.{List, [], ◌∷◌, ◌++◌}
use Rattle.std.proofs.Math.ListN.{length, length-append}
use Rattle.terms.specs.Lists.{◌∈◌, here, there, not-in-nil, cons-cases, in_left, Distinct}
use Rattle.terms.specs.Term.{Term}
use Rattle.terms.specs.Theory.Order.{below?}
use Rattle.terms.specs.Theory.Reflects.{Reflects, leb_reflects}
use Rattle.search.specs.Law.{Law, Name}
use Rattle.search.specs.Line.{Line, Limits, results}
use Rattle.search.specs.Search as search
use Rattle.search.specs.Search.{Noted, is_noted, entry, Outcome, proved, unproved, direct}
use Rattle.search.specs.Theory.Grows.{terms, Knows, is_noted_reflects}
use Rattle.search.specs.Theory.Frontier.{distance}
use Rattle.search.specs.Explore.{start, grow, Explored, at_end, explore, explored}
use Rattle.search.specs.Serve.{unnoted, Taking, all_noted, no_slot, taken, take_results, Stop, all, over, full, Served, stopped, serve_on, waited, serve}
use Rattle.search.specs.Theory.Stands.{Begins, begins_self, begins_trans, stands_still, in_stands, stands_within, stands_once}
use Rattle.search.specs.Theory.Explore.{grow_begins, explore_begins, explore_distinct}
use Rattle.search.specs.Theory.LookUp.{Meets, meets_knows, meets_still, meets_before, LookedUp, search_explored}

-- a right side is noted, or is one of those that are left
unnoted_cases : (P : List Term → Type 0) (r : Term) (rs : List Term) (noted : List Noted) → (Knows noted r → P (unnoted rs noted))
    → ((Knows noted r → ⊥) → P (r ∷ unnoted rs noted)) → P (unnoted (r ∷ rs) noted)
unfolding unnoted
unnoted_cases P r rs noted known new = go (is_noted r noted) (is_noted_reflects r noted)
  where
    go : (b : Bool) → Reflects (Knows noted r) b → P (elim b [ true ↦ unnoted rs noted | false ↦ r ∷ unnoted rs noted ])
    go true h = known h
    go false h = new h

-- where none is left, all are noted
pub all_known : (rights : List Term) (noted : List Noted) → unnoted rights noted ≡ [] → (t : Term) → t ∈ rights → Knows noted t
all_known [] noted e t m = absurd (not-in-nil m)
all_known (r ∷ rs) noted e t m =
    unnoted_cases (λ l. l ≡ [] → Knows noted t) r rs noted (λ h e. ⊎_elim (λ (p : t ≡ r). rw p h) (all_known rs noted e t) (cons-cases m))
    (λ h e. absurd (let z : ◌≡◌ {A = ℕ} 0 1 = cc in omega arith)) e

-- what is noted of one term's results, against what the search without a right side notes of them
record AllNoted (slots : ℕ) (rights : List Term) (grown ys : List Noted) : Type 0 where
  begins : Begins ys grown
  few : length ys ≤ slots
  none_left : unnoted rights ys ≡ []

record NoSlot (slots : ℕ) (grown ys : List Noted) : Type 0 where
  begins : Begins ys grown
  used : length ys ≡ slots
  more : length ys < length grown

record AllTaken (slots : ℕ) (grown ys : List Noted) : Type 0 where
  whole : grown ≡ ys
  few : length ys ≤ slots

abbrev Took : ℕ → List Term → List Noted → Taking → Type 0
Took slots rights grown (all_noted ys) = AllNoted slots rights grown ys
Took slots rights grown (no_slot ys) = NoSlot slots grown ys
Took slots rights grown (taken ys) = AllTaken slots grown ys

module _ (slots : ℕ) (rights : List Term) (trail : List Line) where
  take_cases : (P : List Noted → Taking → Type 0) (x : Line) (xs : List Line) (noted : List Noted)
      → P (grow trail xs noted) (take_results slots rights trail xs noted)
      → (slots ≤ length noted → P (grow trail xs (noted ++ (entry trail x ∷ []))) (no_slot noted))
      → (length noted < slots → unnoted rights (noted ++ (entry trail x ∷ [])) ≡ []
      → P (grow trail xs (noted ++ (entry trail x ∷ []))) (all_noted (noted ++ (entry trail x ∷ []))))
      → (length noted < slots → P (grow trail xs (noted ++ (entry trail x ∷ []))) (take_results slots rights trail xs (noted ++ (entry trail x ∷ []))))
      → P (grow trail (x ∷ xs) noted) (take_results slots rights trail (x ∷ xs) noted)
  unfolding grow take_results
  take_cases P x xs noted known none_free last on = go (is_noted x.result noted)
    where
      more : List Noted
      more = noted ++ (entry trail x ∷ [])

      by_rights : List Term → Taking
      by_rights ts = elim ts [ [] ↦ all_noted more | t ∷ ts ↦ take_results slots rights trail xs more ]

      go_rights : length noted < slots → (ts : List Term) → unnoted rights more ≡ ts → P (grow trail xs more) (by_rights ts)
      go_rights free [] e = last free e
      go_rights free (t ∷ ts) e = on free

      by_room : Bool → Taking
      by_room b = elim b [ false ↦ no_slot noted | true ↦ by_rights (unnoted rights more) ]

      go_room : (b : Bool) → Reflects (length noted < slots) b → P (grow trail xs more) (by_room b)
      go_room true free = go_rights free (unnoted rights more) refl
      go_room false used = none_free (omega arith)

      go : (b : Bool) → P (elim b [ true ↦ grow trail xs noted | false ↦ grow trail xs more ])
          (elim b [ true ↦ take_results slots rights trail xs noted | false ↦ by_room (ltb (length noted) slots) ])
      go true = known
      go false = go_room (ltb (length noted) slots) (leb_reflects (suc (length noted)) slots)

  took : (xs : List Line) (noted : List Noted) → length noted ≤ slots → Took slots rights (grow trail xs noted) (take_results slots rights trail xs noted)
  unfolding grow take_results
  took [] noted h = record { whole = refl; few = h }
  took (x ∷ xs) noted h =
      let more = noted ++ (entry trail x ∷ []) in
      let long : length (noted ++ (entry trail x ∷ [])) ≡ suc (length noted) = rw (length-append noted) (omega arith) in
      let grows = grow_begins trail xs more in
      take_cases (Took slots rights) x xs noted (took xs noted h)
      (λ used.
      record {
        begins = begins_trans (record { more = entry trail x ∷ []; parts = refl }) grows;
        used = omega arith;
        more = omega (arith, ap length grows.parts, length-append more grows.more, long);
      })
      (λ free e. record { begins = grows; few = omega arith; none_left = e })
      (λ free. took xs more (omega arith))

-- why the search stopped, and what that says
abbrev Because : Stop → ℕ → List Term → Explored → Served → Type 0
Because all slots rights e s = unnoted rights s.noted ≡ []
Because over slots rights e s = (e.noted ≡ s.noted) × (e.opened ≡ s.opened)
Because full slots rights e s = (length s.noted ≡ slots) × (length s.noted < length e.noted)

record Serves (slots : ℕ) (rights : List Term) (e : Explored) (s : Served) : Type 0 where
  begins : Begins s.noted e.noted
  few : length s.noted ≤ slots
  because : Because s.stop slots rights e s

module _ (next : Term → List Line) (steps slots : ℕ) (rights : List Term) where
  module _ (f i : ℕ) (noted : List Noted) (room : length noted ≤ slots) where
    abbrev later : List Noted → Explored
    later ys = explore next steps f (suc i) ys

    ends_here : Serves slots rights (at_end i noted) (stopped over i noted)
    ends_here = record { begins = begins_self noted; few = room; because = (refl, refl) }

    serves_cases : ((ys : List Noted) → length ys ≤ slots → Serves slots rights (later ys) (serve_on next steps slots rights f (suc i) ys))
        → Serves slots rights (explore next steps (suc f) i noted) (serve_on next steps slots rights (suc f) i noted)
    unfolding explore serve_on
    serves_cases on = go (drop i noted)
      where
        after : Taking → Served
        after t =
            elim t [
              | all_noted ys ↦ stopped all (suc i) ys
              | no_slot ys ↦ stopped full (suc i) ys
              | taken ys ↦ serve_on next steps slots rights f (suc i) ys
            ]

        by_taking : (grown : List Noted) (t : Taking) → Took slots rights grown t → Serves slots rights (later grown) (after t)
        by_taking grown (all_noted ys) t =
            record { begins = begins_trans t.begins (explore_begins next steps f (suc i) grown); few = t.few; because = t.none_left }
        by_taking grown (no_slot ys) t =
            let b = explore_begins next steps f (suc i) grown in
            record {
              begins = begins_trans t.begins b;
              few = omega (arith, t.used);
              because = (t.used, omega (arith, t.more, ap length b.parts, length-append grown b.more));
            }
        by_taking grown (taken ys) t = rw t.whole (on ys t.few)

        taking : Noted → Taking
        taking x = take_results slots rights x.trail (next x.term) noted

        by_distance : (x : Noted) (b : Bool)
            → Serves slots rights (elim b [ false ↦ at_end i noted | true ↦ later (grow x.trail (next x.term) noted) ])
            (elim b [ false ↦ stopped over i noted | true ↦ after (taking x) ])
        by_distance x true = by_taking (grow x.trail (next x.term) noted) (taking x) (took slots rights x.trail (next x.term) noted room)
        by_distance x false = ends_here

        go : (l : List Noted)
            → Serves slots rights
            (elim l [ [] ↦ at_end i noted | x ∷ rest ↦ elim (ltb (distance x) steps) [ false ↦ at_end i noted | true ↦ later (grow x.trail (next x.term) noted) ] ])
            (elim l [ [] ↦ stopped over i noted | x ∷ rest ↦ elim (ltb (distance x) steps) [ false ↦ stopped over i noted | true ↦ after (taking x) ] ])
        go [] = ends_here
        go (x ∷ rest) = by_distance x (ltb (distance x) steps)

  serves : (f i : ℕ) (noted : List Noted) → length noted ≤ slots → Serves slots rights (explore next steps f i noted) (serve_on next steps slots rights f i noted)
  unfolding explore serve_on
  serves ℕ.zero i noted h = record { begins = begins_self noted; few = h; because = (refl, refl) }
  serves (suc f) i noted h = serves_cases f i noted h (λ ys k. serves f (suc i) ys k)

waited_in : (ws : List Law) (left : Term) (rights : List Term) (t : Term) → t ∈ rights → direct ws left t ≡ none → t ∈ waited ws left rights
unfolding waited
waited_in ws left [] t m e = absurd (not-in-nil m)
waited_in ws left (r ∷ rs) t m e = go (direct ws left r) refl (λ n. waited_in ws left rs t n e)
  where
    first : (p : t ≡ r) → (o : Option Name) → direct ws left r ≡ o → t ∈ (elim o [ none ↦ r ∷ waited ws left rs | some n ↦ waited ws left rs ])
    first p none q = here p
    first p (some n) q = absurd (none-ne-some n (sym e ∙ ap (direct ws left) p ∙ q))

    later : t ∈ waited ws left rs → (o : Option Name) → t ∈ (elim o [ none ↦ r ∷ waited ws left rs | some n ↦ waited ws left rs ])
    later n none = there n
    later n (some _) = n

    go : (o : Option Name) → direct ws left r ≡ o → (t ∈ rs → t ∈ waited ws left rs)
        → t ∈ (elim o [ none ↦ r ∷ waited ws left rs | some n ↦ waited ws left rs ])
    go o q rest = ⊎_elim (λ p. first p o q) (λ n. later (rest n) o) (cons-cases m)

module _ (ws : List Law) (m : Limits) (slots : ℕ) (left : Term) (rights : List Term) where
  serve_serves : Serves slots (waited ws left rights) (explored ws m left) (serve ws m slots left rights)
  unfolding serve explored unnoted
  serve_serves = go (waited ws left rights)
    where
      e : Explored
      e = explore (results ws m) m.steps m.nodes 0 (start left)

      on : List Term → Served
      on ts = serve_on (results ws m) m.steps slots ts m.nodes 0 (start left)

      from_nothing : Begins [] e.noted
      from_nothing = record { more = e.noted; parts = refl }

      some_noted : 0 < length e.noted
      some_noted =
          let b = explore_begins (results ws m) m.steps m.nodes 0 (start left) in
          omega (arith, ap length b.parts, length-append (start left) b.more)

      go_room : (ts : List Term) (b : Bool) → Reflects (0 < slots) b → Serves slots ts e (elim b [ false ↦ stopped full 0 [] | true ↦ on ts ])
      go_room ts true free = serves (results ws m) m.steps slots ts m.nodes 0 (start left) free
      go_room ts false used = record { begins = from_nothing; few = omega arith; because = (omega arith, some_noted) }

      go : (ts : List Term) → Serves slots ts e (elim ts [ [] ↦ stopped all 0 [] | t ∷ ts ↦ elim (ltb 0 slots) [ false ↦ stopped full 0 [] | true ↦ on (t ∷ ts) ] ])
      go [] = record { begins = from_nothing; few = omega arith; because = refl }
      go (t ∷ ts) = go_room (t ∷ ts) (ltb 0 slots) (leb_reflects 1 slots)

-- a right side that is not noted: none is such where the search stopped for all; a none where it is over; and where it is out of slots, the
-- search for this one alone notes more terms than there are slots
abbrev pub Missing : Stop → ℕ → Served → Outcome → Type 0
Missing all slots s o = ⊥
Missing over slots s o = o ≡ unproved s.opened (length s.noted)
Missing full slots s o = slots < search.noted o

-- what the one search says of the outcome for a right side alone
pub record Replies (slots : ℕ) (right : Term) (s : Served) (o : Outcome) : Type 0 where
  pub few : length s.noted ≤ slots
  -- right is noted in slot j, with the term in slot p as its parent
  pub met : (n : Noted) (p j : ℕ) → Meets s.noted right n p j → o ≡ proved n.trail (suc p) (suc j)
  pub comes : Knows s.noted right → (n : Noted) × (p : ℕ) × (j : ℕ) × Meets s.noted right n p j
  -- it is not noted
  pub missed : (Knows s.noted right → ⊥) → Missing s.stop slots s o

knows_still : {ns ms : List Noted} {t : Term} → Begins ns ms → Knows ns t → Knows ms t
knows_still b (z, m, e) = (z, rw b.parts (in_left b.more m), e)

module _ (slots : ℕ) (left right : Term) (rights : List Term) (differ : left ≡ right → ⊥) (listed : right ∈ rights) (e : Explored) (s : Served) (o : Outcome)
    (distinct : Distinct (terms e.noted)) (looked_up : LookedUp left right e o) (v : Serves slots rights e s) where
  comes_before : Knows s.noted right → (n : Noted) × (p : ℕ) × (j : ℕ) × Meets s.noted right n p j
  comes_before (z, i, q) =
      let (n, p, j, m) = looked_up.comes differ (knows_still v.begins (z, i, q)) in
      let (k, at) = in_stands i in
      let same = stands_once distinct m.at (stands_still v.begins at) (ap (λ y. y.term) m.is ∙ m.met ∙ sym q) in
      (n, p, j, meets_before v.begins (omega (arith, stands_within at)) m)

  module _ (h : Knows s.noted right → ⊥) where
    later_slot : {n : Noted} {p j : ℕ} → Meets e.noted right n p j → length s.noted ≤ j
    later_slot {j} m = ⊎_elim (λ k. absurd (h (meets_knows (meets_before v.begins k m)))) (λ k. k) (below? j (length s.noted))

    too_many : length s.noted ≡ slots → length s.noted < length e.noted → slots < search.noted o
    too_many used more = go (is_noted right e.noted) (is_noted_reflects right e.noted)
      where
        go : (b : Bool) → Reflects (Knows e.noted right) b → slots < search.noted o
        go true k =
            let (n, p, j, m) = looked_up.comes differ k in
            rw (looked_up.met n p j m) (omega (arith, later_slot m))
        go false k = rw (looked_up.missed (λ n p j m. k (meets_knows m))) (omega arith)

    by_stop : (t : Stop) → Because t slots rights e s → Missing t slots s o
    by_stop all b = h (all_known rights s.noted b right listed)
    by_stop over (same_noted, same-opened) =
        rw (← same-opened, ← same_noted) (looked_up.missed (λ n p j m. h (rw same_noted at (meets_knows m))))
    by_stop full (used, more) = too_many used more

  replies : Replies slots right s o
  replies =
      record {
        few = v.few;
        met = λ n p j m. looked_up.met n p j (meets_still v.begins m);
        comes = comes_before;
        missed = λ h. by_stop h s.stop v.because;
      }

-- each right side of the list that does not match directly is answered as by the search for it alone
pub served : (ws : List Law) (m : Limits) (slots : ℕ) (left : Term) (rights : List Term) (right : Term) → right ∈ rights → (left ≡ right → ⊥)
    → direct ws left right ≡ none → Replies slots right (serve ws m slots left rights) (search.search ws m left right)
unfolding explored
served ws m slots left rights right i differ no_direct =
    replies slots left right (waited ws left rights) differ (waited_in ws left rights right i no_direct) (explored ws m left) (serve ws m slots left rights)
    (search.search ws m left right) (explore_distinct (results ws m) m.steps m.nodes left) ((search_explored ws m left right).looked_up no_direct)
    (serve_serves ws m slots left rights)

-- no more terms are noted than there are slots
pub serve_few : (ws : List Law) (m : Limits) (slots : ℕ) (left : Term) (rights : List Term) → length (serve ws m slots left rights).noted ≤ slots
serve_few ws m slots left rights = (serve_serves ws m slots left rights).few

-- a search that is over is the whole search without a right side
pub serve_over : (ws : List Law) (m : Limits) (slots : ℕ) (left : Term) (rights : List Term) → (serve ws m slots left rights).stop ≡ over
    → ((explored ws m left).noted ≡ (serve ws m slots left rights).noted) × ((explored ws m left).opened ≡ (serve ws m slots left rights).opened)
serve_over ws m slots left rights e = go (serve ws m slots left rights) (serve_serves ws m slots left rights) e
  where
    go : (s : Served) → Serves slots (waited ws left rights) (explored ws m left) s → s.stop ≡ over
        → ((explored ws m left).noted ≡ s.noted) × ((explored ws m left).opened ≡ s.opened)
    go s v e = rw e at v.because
