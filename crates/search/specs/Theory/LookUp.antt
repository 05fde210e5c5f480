-- The search for a right side is looked up in the search without one: what is noted, and in which order, does not depend on right.
use Rattle.std.specs.Prelude.{ℕ, suc, ◌≤◌, ◌<◌, ◌≡◌, Bool, true, false, length, drop, ltb}
use Rattle.std.proofs.Common.{arith, sym, ◌∙◌, ap, ⊎_elim, length-append}
use Rattle.std.proofs.Math.Path.{refl}
use Rattle.std.proofs.Math.Option.{none, some}
use mathlib.Core.List.{List, [], ◌∷◌, ◌++◌}
use Rattle.terms.specs.Lists.{◌∈◌, only_one, append_cases, Distinct}
use Rattle.terms.specs.Term.{Term, same}
use Rattle.terms.specs.Theory.Reflects.{Reflects}
use Rattle.terms.specs.Theory.TermOrder.{same_reflects}
use Rattle.search.specs.Law.{Law, Name}
use Rattle.search.specs.Line.{Line, Limits, results}
use Rattle.search.specs.Path.{Path}
use Rattle.search.specs.Search.{Noted, is_noted, entry, Turn, ended, goes_on, note, Outcome, proved, unproved, noted, run, direct, whole_line, search}
use Rattle.search.specs.Slots.{noted_at}
use Rattle.search.specs.Theory.Grows.{terms, Knows, is_noted_reflects}
use Rattle.search.specs.Theory.Frontier.{distance}
use Rattle.search.specs.Explore.{start, grow, Explored, at_end, explore, explored}
use Rattle.search.specs.Theory.Stands.{Stands, Begins, begins_trans, stands_still, stands_in, stands_within, stands_before, stands_is, stands_next, stands_once, last_split, path_end}
use Rattle.search.specs.Theory.Explore.{grow_begins, explore_begins, Ends, explore_ends, tries_all, explore_distinct}

-- slot j has right, to which a line leads from the term in slot p
pub record Meets (ns : List Noted) (right : Term) (n : Noted) (p j : ℕ) : Type 0 where
  pub at : Stands ns j n
  pub parent : Noted
  pub from : Stands ns p parent
  pub line : Line
  pub is : n ≡ entry parent.trail line
  pub met : line.result ≡ right
  pub earlier : p < j

pub meets_knows : {ns : List Noted} {right : Term} {n : Noted} {p j : ℕ} → Meets ns right n p j → Knows ns right
meets_knows {n} m = (n, stands_in m.at, ap (λ y. y.term) m.is ∙ m.met)

-- a meeting in the longer list, and one in the shorter
pub meets_still : {ns ms : List Noted} {right : Term} {n : Noted} {p j : ℕ} → Begins ns ms → Meets ns right n p j → Meets ms right n p j
meets_still b m =
    record { at = stands_still b m.at; parent = m.parent; from = stands_still b m.from; line = m.line; is = m.is; met = m.met; earlier = m.earlier }

pub meets_before : {ns ms : List Noted} {right : Term} {n : Noted} {p j : ℕ} → Begins ns ms → j < length ns → Meets ms right n p j → Meets ns right n p j
meets_before b h m =
    record {
      at = stands_before b m.at h;
      parent = m.parent;
      from = stands_before b m.from (omega (arith, m.earlier));
      line = m.line;
      is = m.is;
      met = m.met;
      earlier = m.earlier;
    }

-- the results of one term, noted up to right
record Reaches (right : Term) (trail : List Line) (noted grown : List Noted) (n : Noted) (ys : List Noted) : Type 0 where
  line : Line
  is : n ≡ entry trail line
  met : line.result ≡ right
  before : List Noted
  last : ys ≡ before ++ (n ∷ [])
  longer : length noted ≤ length before
  begins : Begins ys grown

record Passes (right : Term) (noted grown ys : List Noted) : Type 0 where
  whole : grown ≡ ys
  misses : Knows ys right → Knows noted right

abbrev Turned : Term → List Line → List Noted → List Noted → Turn → Type 0
Turned right trail noted grown (ended n ys) = Reaches right trail noted grown n ys
Turned right trail noted grown (goes_on ys) = Passes right noted grown ys

module _ (right : Term) (trail : List Line) where
  both_cases : (P : List Noted → Turn → Type 0) (x : Line) (xs : List Line) (noted : List Noted)
      → (Knows noted x.result → P (grow trail xs noted) (note right trail xs noted))
      → (x.result ≡ right → P (grow trail xs (noted ++ (entry trail x ∷ []))) (ended (entry trail x) (noted ++ (entry trail x ∷ []))))
      → ((x.result ≡ right → ⊥) → P (grow trail xs (noted ++ (entry trail x ∷ []))) (note right trail xs (noted ++ (entry trail x ∷ []))))
      → P (grow trail (x ∷ xs) noted) (note right trail (x ∷ xs) noted)
  unfolding grow note
  both_cases P x xs noted known met fresh = go (is_noted x.result noted) (is_noted_reflects x.result noted)
    where
      more : List Noted
      more = noted ++ (entry trail x ∷ [])

      new : Bool → Turn
      new b = elim b [ true ↦ ended (entry trail x) more | false ↦ note right trail xs more ]

      go_new : (b : Bool) → Reflects (x.result ≡ right) b → P (grow trail xs more) (new b)
      go_new true e = met e
      go_new false e = fresh e

      go : (b : Bool) → Reflects (Knows noted x.result) b
          → P (elim b [ true ↦ grow trail xs noted | false ↦ grow trail xs more ])
          (elim b [ true ↦ note right trail xs noted | false ↦ new (same x.result right) ])
      go true h = known h
      go false h = go_new (same x.result right) (same_reflects x.result right)

  skips : (noted : List Noted) (x : Line) → (x.result ≡ right → ⊥) → (grown : List Noted) (turn : Turn)
      → Turned right trail (noted ++ (entry trail x ∷ [])) grown turn → Turned right trail noted grown turn
  skips noted x other grown (ended n ys) t =
      record {
        line = t.line;
        is = t.is;
        met = t.met;
        before = t.before;
        last = t.last;
        longer = omega (arith, length-append noted (entry trail x ∷ []), t.longer);
        begins = t.begins;
      }
  skips noted x other grown (goes_on ys) t =
      record {
        whole = t.whole;
        misses = λ k.
            let (z, m, e) = t.misses k in
            ⊎_elim (λ i. (z, i, e)) (λ i. absurd (other (sym (ap (λ y. y.term) (only_one i)) ∙ e))) (append_cases noted m);
      }

  turned : (xs : List Line) (noted : List Noted) → Turned right trail noted (grow trail xs noted) (note right trail xs noted)
  unfolding grow note
  turned [] noted = record { whole = refl; misses = λ k. k }
  turned (x ∷ xs) noted =
      let more = noted ++ (entry trail x ∷ []) in
      both_cases (Turned right trail noted) x xs noted (λ h. turned xs noted)
      (λ e. record { line = x; is = refl; met = e; before = noted; last = refl; longer = omega arith; begins = grow_begins trail xs more })
      (λ h. skips noted x h (grow trail xs more) (note right trail xs more) (turned xs more))

-- an outcome, looked up in what is noted without a right side
record Found (right : Term) (e : Explored) (xs : List Line) (a b : ℕ) : Type 0 where
  n : Noted
  p : ℕ
  j : ℕ
  meets : Meets e.noted right n p j
  path : xs ≡ n.trail
  opened : a ≡ suc p
  count : b ≡ suc j

record Missed (right : Term) (noted : List Noted) (e : Explored) (a b : ℕ) : Type 0 where
  opened : a ≡ e.opened
  count : b ≡ length e.noted
  misses : Knows e.noted right → Knows noted right

abbrev Compared : Term → List Noted → Explored → Outcome → Type 0
Compared right noted e (proved xs a b) = Found right e xs a b
Compared right noted e (unproved a b) = Missed right noted e a b

module _ (next : Term → List Line) (steps : ℕ) (right : Term) where
  module _ (f i : ℕ) (noted : List Noted) where
    abbrev later : List Noted → Explored
    later ys = explore next steps f (suc i) ys

    here_missed : Compared right noted (at_end i noted) (unproved i (length noted))
    here_missed = record { opened = refl; count = refl; misses = λ k. k }

    module _ (x : Noted) (rest : List Noted) (is-next : drop i noted ≡ x ∷ rest) where
      abbrev grown : List Noted
      grown = grow x.trail (next x.term) noted

      found_here : (n : Noted) (ys : List Noted) → Reaches right x.trail noted grown n ys → Found right (later grown) n.trail (suc i) (length ys)
      found_here n ys r =
          record {
            n = n;
            p = i;
            j = length r.before;
            meets = record {
              at = stands_still (begins_trans r.begins (explore_begins next steps f (suc i) grown))
                  (record { before = r.before; after = []; parts = r.last; count = refl });
              parent = x;
              from = stands_still (begins_trans (grow_begins x.trail (next x.term) noted) (explore_begins next steps f (suc i) grown))
                  (stands_next noted i is-next);
              line = r.line;
              is = r.is;
              met = r.met;
              earlier = omega (arith, r.longer, stands_within (stands_next noted i is-next));
            };
            path = refl;
            opened = refl;
            count = rw (r.last, length-append r.before) (omega arith);
          }

    -- as `explore_cases`, beside the search for right
    compared_cases : ((ys : List Noted) → Compared right ys (later ys) (run next steps right f (suc i) ys))
        → Compared right noted (explore next steps (suc f) i noted) (run next steps right (suc f) i noted)
    unfolding explore run
    compared_cases on = go (drop i noted) refl
      where
        passed : (ys : List Noted) → (Knows ys right → Knows noted right) → (o : Outcome) → Compared right ys (later ys) o → Compared right noted (later ys) o
        passed ys h (proved xs a b) c = c
        passed ys h (unproved a b) c = record { opened = c.opened; count = c.count; misses = λ k. h (c.misses k) }

        after : Turn → Outcome
        after turn = elim turn [ ended n ys ↦ proved n.trail (suc i) (length ys) | goes_on ys ↦ run next steps right f (suc i) ys ]

        by_turn : (x : Noted) (rest : List Noted) → drop i noted ≡ x ∷ rest → (turn : Turn)
            → Turned right x.trail noted (grow x.trail (next x.term) noted) turn
            → Compared right noted (later (grow x.trail (next x.term) noted)) (after turn)
        by_turn x rest e (ended n ys) t = found_here x rest e n ys t
        by_turn x rest e (goes_on ys) t = rw t.whole (passed ys t.misses (run next steps right f (suc i) ys) (on ys))

        turn_of : Noted → Turn
        turn_of x = note right x.trail (next x.term) noted

        by_distance : (x : Noted) (rest : List Noted) → drop i noted ≡ x ∷ rest → (b : Bool)
            → Compared right noted (elim b [ false ↦ at_end i noted | true ↦ later (grow x.trail (next x.term) noted) ])
            (elim b [ false ↦ unproved i (length noted) | true ↦ after (turn_of x) ])
        by_distance x rest e true = by_turn x rest e (turn_of x) (turned right x.trail (next x.term) noted)
        by_distance x rest e false = here_missed

        go : (l : List Noted) → drop i noted ≡ l
            → Compared right noted
            (elim l [ [] ↦ at_end i noted | x ∷ rest ↦ elim (ltb (distance x) steps) [ false ↦ at_end i noted | true ↦ later (grow x.trail (next x.term) noted) ] ])
            (elim l [ [] ↦ unproved i (length noted) | x ∷ rest ↦ elim (ltb (distance x) steps) [ false ↦ unproved i (length noted) | true ↦ after (turn_of x) ] ])
        go [] e = here_missed
        go (x ∷ rest) e = by_distance x rest e (ltb (distance x) steps)

  compared : (f i : ℕ) (noted : List Noted) → Compared right noted (explore next steps f i noted) (run next steps right f i noted)
  unfolding explore run
  compared ℕ.zero i noted = record { opened = refl; count = refl; misses = λ k. k }
  compared (suc f) i noted = compared_cases f i noted (λ ys. compared f (suc i) ys)

-- the search for right, looked up in the search without a right side
pub record LookedUp (left right : Term) (e : Explored) (o : Outcome) : Type 0 where
  -- right is noted in slot j, with the term in slot p as its parent
  pub met : (n : Noted) (p j : ℕ) → Meets e.noted right n p j → o ≡ proved n.trail (suc p) (suc j)
  -- it is not
  pub missed : ((n : Noted) (p j : ℕ) → Meets e.noted right n p j → ⊥) → o ≡ unproved e.opened (length e.noted)
  -- whatever is noted but left has a parent
  pub comes : (left ≡ right → ⊥) → Knows e.noted right → (n : Noted) × (p : ℕ) × (j : ℕ) × Meets e.noted right n p j

module _ (next : Term → List Line) (steps nodes : ℕ) (left right : Term) where
  abbrev whole : Explored
  whole = explore next steps nodes 0 (start left)

  ends : Ends (λ t x. x ∈ next t) steps nodes left whole
  ends = explore_ends (tries_all next) steps nodes left

  different : Distinct (terms whole.noted)
  different = explore_distinct next steps nodes left

  leads : {n : Noted} → n ∈ whole.noted → Path (λ t x. x ∈ next t) left n.trail n.term
  leads {n} m = ends.state.trail n (rw ends.parts at m)

  module _ (n : Noted) (p j : ℕ) (m : Meets whole.noted right n p j) where
    same_slot : {k : ℕ} {o : Noted} → Stands whole.noted k o → o.term ≡ right → (j ≡ k) × (n ≡ o)
    same_slot s e =
        let i = stands_once different m.at s (ap (λ y. y.term) m.is ∙ m.met ∙ sym e) in
        (i, sym (stands_is m.at) ∙ ap (noted_at whole.noted) i ∙ stands_is s)

    same_parent : {o : Noted} {q k : ℕ} (f : Meets whole.noted right o q k) → n ≡ o → p ≡ q
    same_parent f e =
        let trails : m.parent.trail ≡ f.parent.trail = last_split m.line f.line m.parent.trail f.parent.trail (ap (λ y. y.trail) (sym m.is ∙ e ∙ f.is)) in
        stands_once different m.from f.from (path_end (leads (stands_in m.from)) (rw trails (leads (stands_in f.from))))

    met_proved : (o : Outcome) → Compared right (start left) whole o → o ≡ proved n.trail (suc p) (suc j)
    met_proved (proved xs a b) f =
        let (i, e) = same_slot f.meets.at (ap (λ y. y.term) f.meets.is ∙ f.meets.met) in
        rw (f.path, f.opened, f.count, i, e, same_parent f.meets e)
    met_proved (unproved a b) f =
        let (z, k, e) = f.misses (n, stands_in m.at, ap (λ y. y.term) m.is ∙ m.met) in
        let (i, g) = same_slot (stands_still (explore_begins next steps nodes 0 (start left)) (record { before = []; after = []; parts = refl; count = refl })) (sym (ap (λ y. y.term) (only_one k)) ∙ e) in
        let long : length (m.parent.trail ++ (m.line ∷ [])) ≡ 0 = ap (λ y. length y.trail) (sym m.is ∙ g) in
        absurd (omega (arith, length-append m.parent.trail (m.line ∷ []), long))

  missed_unproved : (o : Outcome) → Compared right (start left) whole o → ((n : Noted) (p j : ℕ) → Meets whole.noted right n p j → ⊥)
      → o ≡ unproved whole.opened (length whole.noted)
  missed_unproved (proved xs a b) f h = absurd (h f.n f.p f.j f.meets)
  missed_unproved (unproved a b) f h = rw (f.opened, f.count)

  known_comes : (o : Outcome) → Compared right (start left) whole o → (left ≡ right → ⊥) → Knows whole.noted right
      → (n : Noted) × (p : ℕ) × (j : ℕ) × Meets whole.noted right n p j
  known_comes (proved xs a b) f h k = (f.n, f.p, f.j, f.meets)
  known_comes (unproved a b) f h k =
      let (z, m, e) = f.misses k in
      absurd (h (sym (ap (λ y. y.term) (only_one m)) ∙ e))

  pub run_looked_up : LookedUp left right whole (run next steps right nodes 0 (start left))
  run_looked_up =
      let o = run next steps right nodes 0 (start left) in
      let c = compared next steps right nodes 0 (start left) in
      record { met = λ n p j m. met_proved n p j m o c; missed = missed_unproved o c; comes = known_comes o c }

-- the search: a direct match, or what is looked up
pub record Searched (ws : List Law) (m : Limits) (left right : Term) : Type 0 where
  pub matched : (n : Name) → direct ws left right ≡ some n → search ws m left right ≡ proved (whole_line n right ∷ []) 0 0
  pub looked_up : direct ws left right ≡ none → LookedUp left right (explored ws m left) (search ws m left right)

pub search_explored : (ws : List Law) (m : Limits) (left right : Term) → Searched ws m left right
unfolding search explored
search_explored ws m left right =
    record {
      matched = λ n e. rw (e, search);
      looked_up = λ e. rw (e, search) (run_looked_up (results ws m) m.steps m.nodes left right);
    }
