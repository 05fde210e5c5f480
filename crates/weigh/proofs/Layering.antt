-- What each turn of a layer's loop does: the term that comes next is right, or meets the node limit, or is opened.
use Rattle.std.specs.Prelude.{ℕ, suc, ◌+◌, ◌-◌, ◌≤◌, ◌<◌, ◌≡◌, Bool, true, false, List, [], ◌∷◌, ◌++◌, length, drop, get_or, Option, Some, None}
use Rattle.std.proofs.Common.{arith, sym, ◌∙◌, ap, ⊎_elim}
use Rattle.std.proofs.Math.Path.{refl, subst}
use lib.ListN.{drop_of_length-le}
use lib.Seq.{drop-cons}
use native.Mathlib.Numerals.{add-one}
use Rattle.std.proofs.Math.Option.{some}
use Rattle.terms.specs.Lists.{◌∈◌, here, there, not-in-nil, in_left}
use Rattle.terms.specs.Term.{Term, same}
use Rattle.terms.specs.Held.{IsRun}
use Rattle.terms.specs.Promises.{Equals}
use Rattle.terms.specs.Theory.Order.{irreflexive}
use Rattle.terms.specs.Theory.Reflects.{Reflects}
use Rattle.terms.specs.Theory.TermOrder.{term_order, same_reflects}
use Rattle.search.specs.Law.{semiring}
use Rattle.search.specs.Searched.{limits_of}
use Rattle.search.specs.Runs.{Shows}
use Rattle.search.specs.declared.bounded_search.Limits.{Limits}
use Rattle.weigh.specs.Weigh.{Weights, Weighed, weights_of, least, mark, spread, opened_count, left_unopened}
use Rattle.weigh.specs.Outcome.{unproved, without_path}
use Rattle.weigh.specs.Claims.{Heavy, LeftUnopened}
use Rattle.weigh.specs.Slots.{weighed_at, WeighSlots}
use Rattle.weigh.specs.Opened.{Opened, Became, Opens}
use Rattle.weigh.specs.Gathered.{SlotsOf, none, more}
use Rattle.weigh.specs.Searched.{Why}
use Rattle.weigh.specs.Layered.{next, Stands, Awaits, Below, Goes, RanOut, RunsOut, OpensLayer}
use Rattle.weigh.specs.declared.layers.Ended.{Ended}
use Rattle.weigh.specs.declared.layers.Stop.{Stop}
use Rattle.weigh.specs.declared.layers.Stop.TheVariants.{Right, InHand, Cut, Over, Full}
use Rattle.weigh.specs.Theory.Least.{Leads}
use Rattle.weigh.specs.Theory.Noting.{mark_terms, opened}
use Rattle.weigh.specs.Theory.State.{after, marked_light, opened_light, opens_state, opens_count}
use Rattle.weigh.specs.Theory.Spread.{left_unopened_reflects}
use Rattle.weigh.specs.Theory.Steps.{mark_length, spread_length}
use Rattle.weigh.specs.Theory.Tries.{tries}
use Rattle.weigh.specs.Theory.Layers.{Layer, layer_leads, layer_opens, leads_least, first_below, spread_arrives, spread_opens}
use Rattle.weigh.proofs.Noting.{mark_slots}
use Rattle.weigh.proofs.Outcomes.{outcome_arrives, outcome_held, outcome_cut}
use Rattle.weigh.proofs.Naming.{weighed_run, lines_opened, marked_at, names_stay}

-- the first of the terms that wait in a layer
pub record First (l f k : ℕ) (ks : List ℕ) (es : List Weighed) : Type 0 where
  pub x : Weighed
  pub xs : List Weighed
  pub others : List Weighed
  pub within : k < length es
  pub is : weighed_at es k ≡ x
  pub layer : Layer l (x ∷ (xs ++ others)) es
  pub named : SlotsOf es ks xs
  pub all : suc (length ks) ≤ f → others ≡ []
  pub light : (z : Weighed) → z ∈ es → z.opened ≡ true → z.total ≤ l

pub first : {l f k : ℕ} {ks : List ℕ} {es : List Weighed} → Awaits l f (k ∷ ks) es → First l f k ks es
first {l} {f} {k} {ks} {es} A = go A.xs A.named A.layer
  where
    go : (xs : List Weighed) → SlotsOf es (k ∷ ks) xs → Layer l (xs ++ A.others) es → First l f k ks es
    go (x ∷ xs) (more h e n) y =
        record { x = x; xs = xs; others = A.others; within = h; is = e; layer = y; named = n; all = A.all; light = A.light }
    go [] n y = elim n [ ]

-- the layer is opened
pub passed : {l f : ℕ} {es : List Weighed} → Awaits l f [] es → Below (l + 1) es
passed {l} {f} {es} A = record { light = λ z i o. omega (arith, A.light z i o); heavy = λ z i o. go A.xs A.named A.layer z i o }
  where
    go : (xs : List Weighed) → SlotsOf es [] xs → Layer l (xs ++ A.others) es → (z : Weighed) → z ∈ es → z.opened ≡ false → l + 1 ≤ z.total
    go [] none y = λ z i o. ⊎_elim (λ m. absurd (not-in-nil (rw (A.all (omega arith)) at m))) (λ h. omega arith) (y.rest z i o)
    go (x ∷ xs) n y = elim n [ ]

-- the next term of the layer
module _ {weights : List ℕ} {cost : ℕ} {m : Limits} {s t : Term} {v : List Weighed} {ws : List ℕ} {noted opened' : ℕ} {es : List Weighed}
    (St : Stands weights cost m s t v ws noted opened' es) {l k : ℕ} {ks : List ℕ} (F : First l (m.nodes - opened') k ks es) where
  abbrev w : Weights
  w = weights_of weights

  pub leads : Leads es F.x
  leads = layer_leads F.layer

  leading : least es ≡ some F.x
  leading = leads_least es St.state.distinct F.x leads

  -- it is right
  pub arrived : (slots : ℕ) → noted ≤ slots → F.x.term ≡ t → Why (Right k) opened' noted slots ws t v
  arrived slots fits p =
      let e = St.is ∙ spread_arrives (next m) w cost t es (m.nodes - opened') F.x leading p in
      rw e (
        St.held,
        St.counted,
        fits,
        rw St.counted at F.within,
        rw (F.is, ← St.count, ← St.counted) (outcome_arrives t es F.x leading p),
      )

  module _ (other : F.x.term ≡ t → ⊥) where
    -- no more may be opened: right is noted, or it is not
    pub limited : (slots : ℕ) → noted ≤ slots → m.nodes ≤ opened' → {right : List ℕ} → IsRun right t → {r : Stop} → RunsOut ws noted right l r
        → Why r opened' noted slots ws t v × (r ≡ Over → ⊥)
    unfolding spread without_path
    limited slots fits h R {r} O =
        let f : m.nodes - opened' ≡ 0 = omega arith in
        let e : v ≡ es = St.is ∙ ap (λ g. spread (next m) w cost t g es) f in
        rw e (go r (O.exact t es St.held St.counted St.state.distinct R))
      where
        cut : (b : Bool) → Reflects (LeftUnopened es) b → unproved (opened_count es) (length es) b ≡ unproved (opened_count es) (length es) true
        cut true h = refl
        cut false h = absurd (h (F.x, leads.0, leads.1))

        weighs : F.x.total ≡ l
        weighs = (F.layer.own F.x (here refl)).2

        go : (r : Stop) → RanOut r l t es → Why r opened' noted slots ws t es × (r ≡ Over → ⊥)
        go (InHand k b) (is, within, h) = (
          (
            St.held,
            St.counted,
            fits,
            omega (arith, within, St.counted),
            rw (is, ← weighs, ← St.count, ← St.counted) (outcome_held t es F.x leading other (weighed_at es k) h),
          ),
          λ p. cc,
        )
        go Cut h = (
          (
            St.counted,
            fits,
            outcome_cut t es F.x leading other h ∙ rw (← St.count, ← St.counted) (cut (left_unopened es) (left_unopened_reflects es)),
          ),
          λ p. cc,
        )
        go (Right k) h = absurd h
        go Over h = absurd h
        go Full h = absurd h

    -- it is opened
    abbrev pub more_noted : List Weighed
    more_noted = after (tries semiring (limits_of m)) St.state leads

    module _ (h : opened' < m.nodes) where
      goes_on : v ≡ spread (next m) w cost t (m.nodes - (opened' + 1)) more_noted
      goes_on =
          let f : m.nodes - opened' ≡ suc (m.nodes - (opened' + 1)) = omega arith in
          St.is ∙ ap (λ g. spread (next m) w cost t g es) f ∙ spread_opens (next m) w cost t es (m.nodes - (opened' + 1)) F.x leading other

      weighs : F.x.total ≡ l
      weighs = (F.layer.own F.x (here refl)).2

      marked_opened : Opened (mark F.x.term es) k (opened F.x)
      marked_opened =
          record {
            within = omega (arith, F.within, mark_length F.x.term es);
            is = marked_at F.x es k F.within St.state.distinct leads.1 F.is;
            opened = refl;
            heaviest = marked_light (tries semiring (limits_of m)) St.state leads;
            distinct = rw (mark_terms F.x.term es) St.state.distinct;
          }

      -- what it leads to is noted, or there is no slot left
      module _ {slots : ℕ} {r : Option ℕ} {ws' : List ℕ} (O : Opens weights cost m ws noted slots k l r ws') (small : m.size ≤ 31) where
        became : Became r slots ws' more_noted
        became =
            subst (Became r slots ws') (lines_opened w cost F.x (next m F.x.term) (mark F.x.term es))
            (O.exact (mark F.x.term es) (opened F.x) (mark_slots F.x.term St.held) (mark_length F.x.term es ∙ St.counted) marked_opened weighs small)

        pub full : r ≡ None → Why Full opened' noted slots ws' t v
        full e =
            let u : slots < length more_noted = rw e at became in
            rw goes_on (omega (arith, spread_length (next m) w cost t (m.nodes - (opened' + 1)) more_noted))

        module _ {c : ℕ} (e : r ≡ Some c) where
          pub stands_next : Stands weights cost m s t v ws' c (opened' + 1) more_noted
          stands_next =
              let (held, counted) : WeighSlots ws' more_noted × (length more_noted ≡ c) = rw e at became in
              record {
                held = held;
                counted = counted;
                count = omega (arith, opens_count (tries semiring (limits_of m)) St.state leads, St.count);
                most = omega arith;
                state = opens_state (tries semiring (limits_of m)) St.state leads other;
                is = goes_on;
              }

          pub awaits_next : Heavy w → Awaits l (m.nodes - (opened' + 1)) ks more_noted
          awaits_next heavy =
              record {
                xs = F.xs;
                others = F.others;
                layer = layer_opens F.layer (tries semiring (limits_of m)) heavy St.state;
                named = names_stay w cost F.x (next m F.x.term) es F.named (λ a i.
                    let j = in_left F.others i in
                    (omega (arith, (F.layer.own a (there j)).2, weighs), λ p. irreflexive term_order (first_below F.layer a j) (sym p)));
                all = λ few. F.all (omega arith);
                light = λ z i o. omega (arith, opened_light (tries semiring (limits_of m)) St.state leads z i o, weighs);
              }

-- how a layer was opened since before: the slots ks' of its terms are left
pub record Midway (weights : List ℕ) (cost : ℕ) (m : Limits) (right ks : List ℕ) (l : ℕ) (before : Ended) (ws₀ ws : List ℕ) (noted opened' : ℕ) (ks' : List ℕ) : Type 0 where
  pub exact : (s t : Term) (v es : List Weighed) → IsRun right t → Heavy (weights_of weights) → Stands weights cost m s t v ws₀ before.noted before.opened es
      → Awaits l (m.nodes - before.opened) ks es → (zs : List Weighed) × Stands weights cost m s t v ws noted opened' zs × Awaits l (m.nodes - opened') ks' zs

-- the term in slot k comes next, which b tells whether it is right; the slots ks are left after it
record Comes (weights : List ℕ) (cost : ℕ) (m : Limits) (s t : Term) (v : List Weighed) (ws : List ℕ) (noted opened' l k : ℕ) (ks : List ℕ) (b : Bool) : Type 0 where
  zs : List Weighed
  stands : Stands weights cost m s t v ws noted opened' zs
  first : First l (m.nodes - opened') k ks zs
  tells : Reflects (first.x.term ≡ t) b

turned : (t u : Term) (b : Bool) → Reflects (t ≡ u) b → Reflects (u ≡ t) b
turned t u true e = sym e
turned t u false h = λ e. h (sym e)

pub midway_starts : (weights : List ℕ) (cost : ℕ) (m : Limits) (right ks : List ℕ) (l : ℕ) (before : Ended) (ws : List ℕ)
    → Midway weights cost m right ks l before ws ws before.noted before.opened ks
midway_starts weights cost m right ks l before ws = record { exact = λ s t v es R H St A. (es, St, A) }

module _ {weights : List ℕ} {cost : ℕ} {m : Limits} {right ks : List ℕ} {l : ℕ} {before : Ended} {ws₀ ws : List ℕ} {noted opened' j : ℕ}
    (M : Midway weights cost m right ks l before ws₀ ws noted opened' (drop j ks)) {slots : ℕ} (fits : noted ≤ slots) (few : opened' ≤ m.nodes) where
  -- all terms of the layer are opened
  pub layer_over : length ks ≤ j → OpensLayer weights cost m slots right ks l before ws₀ ws (record { stop = Over; opened = opened'; noted = noted })
  layer_over h =
      record {
        fits = fits;
        few = few;
        exact = λ s t v es R H St A.
            let (zs, S, B) = M.exact s t v es R H St A in
            (zs, S, passed (rw (drop_of_length-le ks h) at B));
      }

  -- the next one is compared with right
  module _ (h : j < length ks) {xs : List ℕ} {b : Bool} (Sh : Shows ws (get_or ks j 0) xs) (E : Equals right xs b) where
    meets : {b' : Bool} → b ≡ b' → (s t : Term) (v es : List Weighed) → IsRun right t → Heavy (weights_of weights) → Stands weights cost m s t v ws₀ before.noted before.opened es
        → Awaits l (m.nodes - before.opened) ks es → Comes weights cost m s t v ws noted opened' l (get_or ks j 0) (drop (j + 1) ks) b'
    meets {b'} e s t v es R H St A = let (zs, S, B) = M.exact s t v es R H St A in go zs S (first (rw split at B))
      where
        split : drop j ks ≡ get_or ks j 0 ∷ drop (j + 1) ks
        split = rw add-one (drop-cons ks j 0 h)

        go : (zs : List Weighed) → Stands weights cost m s t v ws noted opened' zs → First l (m.nodes - opened') (get_or ks j 0) (drop (j + 1) ks) zs
            → Comes weights cost m s t v ws noted opened' l (get_or ks j 0) (drop (j + 1) ks) b'
        go zs S F =
            let run : IsRun xs F.x.term = Sh.exact F.x.term (rw (← F.is) (weighed_run S.held (get_or ks j 0) F.within)) in
            record {
              zs = zs;
              stands = S;
              first = F;
              tells = subst (Reflects (F.x.term ≡ t)) (sym (E.terms t F.x.term R run) ∙ e) (turned t F.x.term (same t F.x.term) (same_reflects t F.x.term));
            }

    -- it is right
    pub layer_right : b ≡ true
        → OpensLayer weights cost m slots right ks l before ws₀ ws (record { stop = Right (get_or ks j 0); opened = opened'; noted = noted })
    layer_right e =
        record {
          fits = fits;
          few = few;
          exact = λ s t v es R H St A. let N = meets e s t v es R H St A in arrived N.stands N.first slots fits N.tells;
        }

    module _ (e : b ≡ false) where
      -- no more may be opened
      pub layer_out : m.nodes ≤ opened' → {r : Stop} → RunsOut ws noted right l r
          → OpensLayer weights cost m slots right ks l before ws₀ ws (record { stop = r; opened = opened'; noted = noted })
      layer_out u {r} O =
          record {
            fits = fits;
            few = few;
            exact = λ s t v es R H St A.
                let N = meets e s t v es R H St A in
                let (why, ended) = limited N.stands N.first N.tells slots fits u R O in stopped r ended s t v why;
          }
        where
          stopped : (r : Stop) → (r ≡ Over → ⊥) → (s t : Term) (v : List Weighed) → Why r opened' noted slots ws t v
              → Goes r weights cost m slots (l + 1) s t v ws noted opened'
          stopped (Right k) n s t v h = h
          stopped (InHand k b) n s t v h = h
          stopped Cut n s t v h = h
          stopped Over n s t v h = absurd (n refl)
          stopped Full n s t v h = h

      -- it is opened
      module _ (u : opened' < m.nodes) (small : m.size ≤ 31) {r : Option ℕ} {ws' : List ℕ} (O : Opens weights cost m ws noted slots (get_or ks j 0) l r ws') where
        pub layer_full : r ≡ None → OpensLayer weights cost m slots right ks l before ws₀ ws' (record { stop = Full; opened = opened'; noted = noted })
        layer_full f =
            record {
              fits = fits;
              few = few;
              exact = λ s t v es R H St A. let N = meets e s t v es R H St A in full N.stands N.first N.tells u O small f;
            }

        pub layer_next : {c : ℕ} → r ≡ Some c → Midway weights cost m right ks l before ws₀ ws' c (opened' + 1) (drop (j + 1) ks)
        layer_next f =
            record {
              exact = λ s t v es R H St A.
                  let N = meets e s t v es R H St A in (
                    more_noted N.stands N.first N.tells,
                    stands_next N.stands N.first N.tells u O small f,
                    awaits_next N.stands N.first N.tells u O small f H,
                  );
            }
