-- What each turn of the search's loops does.
use Prim.Native.Nat.{ℕ, ◌+◌, ◌-◌, ◌≤◌, ◌<◌}
use native.Mathlib.Omega.{arith}
use native.Mathlib.Numerals.{add-one}
use mathlib.Core.Path.{◌≡◌, refl, sym, ap, ◌∙◌}
use mathlib.Core.Logic.{⊎_elim}
use mathlib.Core.Bool.{false}
use mathlib.Core.List.{List, [], ◌∷◌, ◌++◌, map-append}
use lib.ListN.{length, take, drop, get_or, length-append, drop_of_length-le}
use lib.Seq.{drop-cons}
use Rattle.std.specs.Prelude.{Option, Some, None}
use Rattle.terms.specs.Lists.{append_cases, only_one}
use Rattle.terms.specs.Term.{Term}
use Rattle.terms.specs.Theory.Members.{getD_in}
use Rattle.search.specs.Law.{Law}
use Rattle.search.specs.Line.{Line}
use Rattle.search.specs.Search.{Noted, terms, is_noted, entry}
use Rattle.search.specs.Serve as serve
use Rattle.search.specs.Serve.{unnoted, take_results, Served, stopped}
use Rattle.search.specs.Runs.{value_of, HeldRuns}
use Rattle.search.specs.Slots.{noted_at, Slots}
use Rattle.search.specs.Ordered.{unknown}
use Rattle.search.specs.Resulted.{most_nodes}
use Rattle.search.specs.Replied.{waiting, Settled}
use Rattle.search.specs.Searched.{limits_of, Ends, Opens, Became, Takes, Concludes, Explores}
use Rattle.search.specs.Theory.Results.{results_sound}
use Rattle.search.specs.declared.bounded_search.Limits.{Limits}
use Rattle.search.specs.declared.replies.Reply.{Reply}
use Rattle.search.specs.declared.bounded_search.Stop.TheVariants.{All, Over, Full}
use Rattle.search.specs.declared.bounded_search.Ended.{Ended}
use Rattle.search.proofs.Noting.{counted, noted_run, noted_before}
use Rattle.search.proofs.Sorting.{line_at, ordered_length, ordered_at}
use Rattle.search.proofs.Unknown.{unknown_member, fresh_unknown, fresh_rest}
use Rattle.search.proofs.Serving.{take_full, take_last, take_new, serve_limit, serve_end, serve_far, serve_opens, unnoted_struck, take_unknown}
use Rattle.search.proofs.Settling.{settled_more, waiting_unnoted}
use Rattle.search.proofs.Standing.{Small, Asked, ended, next, going, following, Midway, whole, Standing, Opened, Progress, explores}

-- an end that is known, with its noted terms
ends_as : (r : Ended) (ws : List ℕ) {ts : List Term} {before fs : List Reply} {v w : Served} → v ≡ w → Ends r ws w → Settled (terms w.noted) ts before fs
    → Concludes r ws ts before fs v
ends_as r ws e E S = rw e (E, S)

module _ {laws : List Law} {m : Limits} {slots : ℕ} {rights : List ℕ} {before : List Reply} {waits most : ℕ} {ws₀ ws : List ℕ} {fs : List Reply} {missing count i : ℕ}
    (St : Standing laws m slots rights before waits most ws₀ ws fs missing count i) where
  -- it is over: all noted terms are opened, or as many as may be, or the next one is too far away

  abbrev Stops : Type 0
  Stops = Explores laws rights waits m slots most ws₀ ws before fs (ended Over i count)

  stops : ((ts : List Term) (ns : List Noted) → Slots ws ns → length ns ≡ count → going laws m slots ts (m.nodes - i) i ns ≡ stopped serve.over i ns) → Stops
  stops e =
      explores laws m slots rights before (ended Over i count)
      (λ s ts A.
      let g = St s ts A in
      ends_as (ended Over i count) ws (g.is ∙ e (waiting ts before) g.ns g.held g.counted)
      (record { stop = refl; opened = refl; noted = sym g.counted; slots = g.held })
      g.settled)

  pub ends : count ≤ i → Stops
  ends h = stops (λ ts ns S c. serve_end (next laws m) m.steps slots ts i ns (m.nodes - i) (omega arith))

  pub ends_limit : m.nodes ≤ i → Stops
  ends_limit h = stops (λ ts ns S c. serve_limit (next laws m) m.steps slots ts i ns (m.nodes - i) (omega arith))

  -- the term in slot i is at distance d
  module _ (h : i < count) {d : ℕ} (is : d ≡ value_of ws i) where
    distance_here : (ns : List Noted) → Slots ws ns → length ns ≡ count → d ≡ length (noted_at ns i).trail
    distance_here ns S c = is ∙ S.distance i (omega arith)

    pub ends_far : m.steps ≤ d → Stops
    ends_far far =
        stops (λ ts ns S c. serve_far (next laws m) m.steps slots ts i ns (omega arith) (m.nodes - i) (omega (arith, distance_here ns S c)))

    pub opened : i < m.nodes → d < m.steps → most ≤ 31 → {res order ks : List ℕ} {room n : ℕ} → most ≡ most_nodes room → ks ≡ take n order → Opens laws ws count i m room res order n
        → Opened laws m slots rights before waits most ws₀ ws fs missing count i d res ks
    opened q near low {n = n} fits named O s ts A =
        let g = St s ts A in
        let us = waiting ts before in
        let x = noted_at g.ns i in
        let e = distance_here g.ns g.held g.counted in
        let c = g.counted in
        let fit = g.small x (getD_in (noted_at [] 0) g.ns i (omega arith)) in
        let k = A.limit in
        record {
          ns = g.ns;
          held = g.held;
          counted = c;
          small = g.small;
          left = g.left;
          settled = g.settled;
          distance = e;
          lines = unknown g.ns (next laws m x.term);
          room = n;
          ordered = rw named (O.exact g.ns x.term g.held c (noted_run g.held i (omega arith)) (omega (arith, fit)) (omega arith));
          fresh = fresh_unknown g.ns (next laws m x.term);
          kept = λ y n. omega (arith, (results_sound laws (limits_of m) x.term y (unknown_member g.ns (next laws m x.term) n)).0.size);
          is = g.is
              ∙ serve_opens (next laws m) m.steps slots us i g.ns (omega arith) (m.nodes - i) (m.nodes - (i + 1)) (omega arith) (omega arith)
              ∙ ap (following laws m slots us i) (sym (take_unknown slots us x.trail g.ns (next laws m x.term) g.ns (λ u h. h)));
        }

-- the j-th result is taken
module _ {laws : List Law} {m : Limits} {slots : ℕ} {rights ws : List ℕ} {fs : List Reply} {missing count i d : ℕ} {res ks : List ℕ} {j : ℕ} {r : Option ℕ} {ws' : List ℕ} {fs' : List Reply}
    (inside : i < count) (h : j < length ks) (T : Takes ws count slots res (get_or ks j 0) d rights fs r ws' fs') where
  module _ (v : Served) (most : ℕ) (ts : List Term) (before : List Reply) (R : HeldRuns rights ts) (each : length ts ≡ length before)
      (g : Midway laws m slots v most ts before ws fs missing count i d res ks j) where
    abbrev us : List Term
    us = waiting ts before

    abbrev parent : Noted
    parent = noted_at g.ns i

    abbrev x : Line
    x = line_at g.lines j

    abbrev rest : List Line
    rest = drop (j + 1) g.lines

    abbrev more : List Noted
    more = g.ns ++ (entry parent.trail x ∷ [])

    among : j < length g.lines
    among = omega (arith, ordered_length g.ordered)

    next_line : drop j g.lines ≡ x ∷ rest
    next_line = rw add-one (drop-cons g.lines j (line_at [] 0) among)

    new : is_noted x.result g.ns ≡ false
    new = g.fresh j (omega arith) among

    goes : v ≡ following laws m slots us i (take_results slots us parent.trail (x ∷ rest) g.ns)
    goes = g.is ∙ ap (λ l. following laws m slots us i (take_results slots us parent.trail l g.ns)) next_line

    became : Became r slots ws' g.ns parent x ts fs fs'
    became =
        T.exact g.ns i x ts g.held g.counted inside (ordered_at g.ordered j h).1 g.distance R (each ∙ sym g.settled.kept)

    counted_more : length more ≡ count + 1
    counted_more = length-append g.ns (entry parent.trail x ∷ []) ∙ ap (λ k. k + 1) g.counted

    -- it strikes the right sides that are equal to it
    module _ {c : ℕ} (e : r ≡ Some c) where
      free : length g.ns < slots
      free = omega (arith, g.counted, (rw e at T).room)

      struck : length (unnoted us more) + c ≡ missing
      struck =
          rw ((rw e at became).1.counted, waiting_unnoted g.ns ts before fs each g.settled, g.left)
          (unnoted_struck us (entry parent.trail x) g.ns)

      settled : Settled (terms more) ts before fs'
      settled =
          rw (map-append (λ y. y.term) g.ns (entry parent.trail x ∷ []))
          (settled_more (terms g.ns) x.result {c = c} g.settled (rw (counted g.ns) (rw e at became).1))

      -- one more noted term leaves the parent as it is
      parent_still : noted_at more i ≡ parent
      parent_still = noted_before g.ns (entry parent.trail x) i (omega (arith, g.counted))

      small_more : Small most more
      small_more y k =
          ⊎_elim
          (g.small y)
          (λ n.
          let e : y ≡ entry parent.trail x = only_one n in
          rw e (g.kept x (getD_in (line_at [] 0) g.lines j among)))
          (append_cases g.ns k)

      noted : c < missing → Midway laws m slots v most ts before ws' fs' (missing - c) (count + 1) i d res ks (j + 1)
      noted some =
          record {
            ns = more;
            held = (rw e at became).0;
            counted = counted_more;
            small = small_more;
            left = omega (arith, struck);
            settled = settled;
            distance = rw parent_still g.distance;
            lines = g.lines;
            room = g.room;
            ordered = rw parent_still g.ordered;
            fresh = fresh_rest g.ns parent.trail g.lines j g.ordered.rising g.fresh;
            kept = g.kept;
            is = rw parent_still
                (goes ∙ ap (following laws m slots us i) (take_new slots us parent.trail x rest g.ns new free (omega (arith, struck))));
          }

      last : missing ≤ c → Concludes (ended All (i + 1) (count + 1)) ws' ts before fs' v
      last none =
          ends_as (ended All (i + 1) (count + 1)) ws'
          (goes ∙ ap (following laws m slots us i) (take_last slots us parent.trail x rest g.ns new free (omega (arith, struck))))
          (record { stop = refl; opened = refl; noted = sym counted_more; slots = (rw e at became).0 })
          settled

    full : r ≡ None → Concludes (ended Full (i + 1) count) ws' ts before fs' v
    full e =
        let (used, S, q) = rw e at became in
        ends_as (ended Full (i + 1) count) ws'
        (goes ∙ ap (following laws m slots us i) (take_full slots us parent.trail x rest g.ns new used))
        (record { stop = refl; opened = refl; noted = sym g.counted; slots = S })
        (rw q g.settled)

  module _ {ws₁ : List ℕ} {fs₁ : List Reply} {missing₁ count₁ : ℕ} (Tu : Progress laws m slots rights i d res ks ws₁ fs₁ missing₁ count₁ ws fs missing count j) where
    pub progress_noted : {c : ℕ} → r ≡ Some c → c < missing
        → Progress laws m slots rights i d res ks ws₁ fs₁ missing₁ count₁ ws' fs' (missing - c) (count + 1) (j + 1)
    progress_noted e some v most ts before R l g = noted v most ts before R l (Tu v most ts before R l g) e some

    module _ {before : List Reply} {waits most : ℕ} {ws₀ : List ℕ} (O : Opened laws m slots rights before waits most ws₀ ws₁ fs₁ missing₁ count₁ i d res ks) where
      now : (s : Term) (ts : List Term) → Asked rights before waits m most ws₀ s ts
          → Midway laws m slots (whole laws m slots rights before s ts) most ts before ws fs missing count i d res ks j
      now s ts A = Tu (whole laws m slots rights before s ts) most ts before A.listed A.each (O s ts A)

      pub ends_all : {c : ℕ} → r ≡ Some c → missing ≤ c
          → Explores laws rights waits m slots most ws₀ ws' before fs' (ended All (i + 1) (count + 1))
      ends_all e none =
          explores laws m slots rights before (ended All (i + 1) (count + 1))
          (λ s ts A. last (whole laws m slots rights before s ts) most ts before A.listed A.each (now s ts A) e none)

      pub ends_full : r ≡ None → Explores laws rights waits m slots most ws₀ ws' before fs' (ended Full (i + 1) count)
      ends_full e =
          explores laws m slots rights before (ended Full (i + 1) count)
          (λ s ts A. full (whole laws m slots rights before s ts) most ts before A.listed A.each (now s ts A) e)

-- all results are taken
pub all_taken : {laws : List Law} {m : Limits} {slots : ℕ} {rights : List ℕ} {before : List Reply} {waits most i d : ℕ} {res ks : List ℕ} {ws₁ : List ℕ} {fs₁ : List Reply}
    {missing₁ count₁ : ℕ} {ws : List ℕ} {fs : List Reply} {missing count j : ℕ} → Progress laws m slots rights i d res ks ws₁ fs₁ missing₁ count₁ ws fs missing count j
    → {ws₀ : List ℕ} → Opened laws m slots rights before waits most ws₀ ws₁ fs₁ missing₁ count₁ i d res ks → length ks ≤ j
    → Standing laws m slots rights before waits most ws₀ ws fs missing count (i + 1)
unfolding take_results
all_taken {laws} {m} {slots} {rights} {before} {most = most} {j = j} Tu O h s ts A =
    let g = Tu (whole laws m slots rights before s ts) most ts before A.listed A.each (O s ts A) in
    let e : length g.lines ≤ j = omega (arith, ordered_length g.ordered) in
    record {
      ns = g.ns;
      held = g.held;
      counted = g.counted;
      small = g.small;
      left = g.left;
      settled = g.settled;
      is = g.is ∙ rw (drop_of_length-le g.lines e);
    }
