-- What the noted terms say at the end of a search.
use Rattle.std.specs.Prelude.{ℕ, ◌≤◌, ◌<◌, min, ◌≡◌, refl, ◌⊎◌, Bool, true, false, List, length, ltb}
use Rattle.std.proofs.Common.{arith, sym, subst, inl, inr, ⊎_elim, lt-ltb, le-ltb}
use Rattle.std.proofs.lemmas.List.{length-map}
use Rattle.terms.specs.Lists.{◌∈◌, Distinct, in-cast, of_map}
use Rattle.terms.specs.Term.{Term}
use Rattle.terms.specs.Theory.Order.{below?}
use Rattle.terms.specs.Theory.Reflects.{Reflects}
use Rattle.terms.specs.Theory.Distinct.{distinct_length}
use Rattle.search.specs.Law.{Law}
use Rattle.search.specs.Line.{Line, Limits}
use Rattle.search.specs.Path.{Searchable, Path}
use Rattle.weigh.specs.Weigh.{Weights, weight, Weighed, opened_count, weighed}
use Rattle.weigh.specs.Claims.{Heavy, Reachable, LeftUnopened}
use Rattle.weigh.specs.Hand.{Holds, Smallest}
use Rattle.weigh.specs.Theory.Least.{before_total, Leads}
use Rattle.weigh.specs.Theory.Noting.{Near}
use Rattle.weigh.specs.Theory.State.{Waits, opened_or_not, meets, passes, bounds}
use Rattle.weigh.specs.Theory.Spread.{Ended, spread_ended, opened_terms, opened_length, opened_member, opened_has, opened_distinct, opened_not_all}
use Rattle.weigh.specs.Theory.Light.{reachable}
use Rattle.weigh.specs.Theory.Tries.{tries}

module _ (ws : List Law) (w : Weights) (heavy : Heavy w) (cost : ℕ) (m : Limits) (left right : Term) where
  abbrev Ok : Term → Line → Type 0
  Ok = Searchable ws m

  abbrev final : List Weighed
  final = weighed ws w cost m left right

  pub ended : Ended Ok w cost left right m.nodes final
  unfolding weighed
  ended = spread_ended (tries ws m) w cost left right m.nodes

  -- a path that right has when it comes up is a lightest
  pub record Found (xs : List Line) : Type 0 where
    pub path : Path Ok left xs right
    pub allowed : weight w xs ≤ cost
    pub least : (ys : List Line) → Path Ok left ys right → weight w xs ≤ weight w ys

  pub found : (x : Weighed) → Leads final x → x.term ≡ right → Found x.trail
  found x leads e =
      let s = ended.state in
      let t = s.total x leads.0 in
      record {
        path = subst (Path Ok left x.trail) e (s.trail x leads.0);
        allowed = omega (arith, s.allowed x leads.0);
        least = λ ys path. omega (arith, bounds s leads path);
      }

  -- no more may be opened: xs is the path held for right, l the smallest total of a term that waits, e how many are opened
  pub record InHand (xs : List Line) (l e : ℕ) : Type 0 where
    pub held : (z : Weighed) × Holds final right z × (z.trail ≡ xs) × (z.total ≡ weight w xs)
    pub next : (x : Weighed) × Leads final x × (x.term ≡ right → ⊥)
    pub path : Path Ok left xs right
    pub allowed : weight w xs ≤ cost
    pub smallest : Smallest final l
    pub none_lighter : (ys : List Line) → Path Ok left ys right → l ≤ weight w ys
    pub limit : e ≡ m.nodes

  pub in_hand_is : (x : Weighed) → Leads final x → (x.term ≡ right → ⊥) → opened_count final ≡ m.nodes → (z : Weighed) → Holds final right z
      → InHand z.trail x.total (opened_count final)
  in_hand_is x leads other met z (i, e) =
      let s = ended.state in
      let t = s.total z i in
      record {
        held = (z, (i, e), refl, t);
        next = (x, leads, other);
        path = subst (Path Ok left z.trail) e (s.trail z i);
        allowed = omega (arith, s.allowed z i);
        smallest = record { one = (x, leads.0, leads.1, refl); least = λ a j o. before_total x a (leads.2 a j o) };
        none_lighter = λ ys path. bounds s leads path;
        limit = met;
      }

  -- nothing waits: all is opened that can be
  module _ (nothing : (z : Weighed) → z ∈ final → z.opened ≡ false → ⊥) where
    pub unreached : (ys : List Line) → Path Ok left ys right → cost < weight w ys
    unreached ys path = ⊎_elim (λ h. let (z, i, o, d) = passes ended.state path (omega arith) in absurd (nothing z i o)) (λ h. h) (below? (weight w ys) (ℕ.suc cost))

    all_opened : (t : Term) (ys : List Line) → Path Ok left ys t → weight w ys ≤ cost → t ∈ opened_terms final
    all_opened t ys path h = go (meets ended.state path h)
      where
        go : Near final t (weight w ys) ⊎ Waits final (weight w ys) → t ∈ opened_terms final
        go (inl (z, i, e, d)) = in-cast (sym e) (⊎_elim (opened_has final z i) (λ o. absurd (nothing z i o)) (opened_or_not z.opened))
        go (inr (z, i, o, d)) = absurd (nothing z i o)

  -- every opened term is reached
  only_reached : (t : Term) → t ∈ opened_terms final → (ys : List Line) × Path Ok left ys t × (weight w ys ≤ cost)
  only_reached t i =
      let (x, j, o, e) = opened_member final i in
      let s = ended.state in
      let k = s.total x j in
      (x.trail, subst (Path Ok left x.trail) e (s.trail x j), omega (arith, s.allowed x j))

  -- as many terms as are noted are reached
  noted_reached : (ts : List Term) → Reachable ws w cost m left ts → length final ≤ length ts
  noted_reached ts reached =
      let s = ended.state in
      omega (
        arith,
        length-map final (λ x. x.term),
        distinct_length s.distinct ts (λ t i.
            let (x, j, e) = of_map (λ x. x.term) final i in
            let k = s.total x j in
            reached.all t (x.trail, subst (Path Ok left x.trail) e (s.trail x j), omega (arith, s.allowed x j))),
      )

  -- the search is cut exactly when more are reached than may be opened
  pub cut_by_count : (o : Bool) → Reflects (LeftUnopened final) o → ((z : Weighed) → z ∈ final → z.opened ≡ false → ⊥) ⊎ (opened_count final ≡ m.nodes)
      → (ts : List Term) → Reachable ws w cost m left ts → o ≡ ltb m.nodes (length ts)
  cut_by_count true h (inl nothing) ts reached = absurd (nothing h.0 h.1 h.2)
  cut_by_count true h (inr full) ts reached = sym (lt-ltb m.nodes (length ts) (omega (arith, opened_not_all final h, noted_reached ts reached)))
  cut_by_count false h why ts reached =
      let nothing : (z : Weighed) → z ∈ final → z.opened ≡ false → ⊥ = λ z i e. h (z, i, e) in
      let fewer = distinct_length reached.distinct (opened_terms final) (λ t i. let (ys, path, k) = reached.only t i in all_opened nothing t ys path k) in
      sym (le-ltb m.nodes (length ts) (omega (arith, opened_length final, ended.most)))

  abbrev pub Counted : ℕ → Type 0
  Counted e = (ts : List Term) × Reachable ws w cost m left ts × (e ≡ min m.nodes (length ts))

  listed : (ts : List Term) → Distinct ts → ((t : Term) (ys : List Line) → Path Ok left ys t → weight w ys ≤ cost → t ∈ ts)
      → ((t : Term) → t ∈ ts → (ys : List Line) × Path Ok left ys t × (weight w ys ≤ cost)) → Reachable ws w cost m left ts
  listed ts d all only = record { distinct = d; all = λ t (ys, path, h). all t ys path h; only = only }

  -- all are opened that can be
  pub counted_all : ((z : Weighed) → z ∈ final → z.opened ≡ false → ⊥) → Counted (opened_count final)
  counted_all nothing = (
    opened_terms final,
    listed (opened_terms final) (opened_distinct final ended.state.distinct) (all_opened nothing) only_reached,
    omega (arith, opened_length final, ended.most),
  )

  -- as many are opened as may be
  pub counted_full : opened_count final ≡ m.nodes → Counted (opened_count final)
  counted_full full =
      let (ts, d, all, only) = reachable (tries ws m) w heavy cost left in
      let fewer = distinct_length (opened_distinct final ended.state.distinct) ts (λ t i. let (ys, path, h) = only_reached t i in all t ys path h) in
      (ts, listed ts d all only, omega (arith, opened_length final))
