-- The search by least total goes layer by layer: all terms of one total are known before the first of them is opened, and are opened in
-- term order. So a layer can be gathered and sorted once.
use Rattle.std.specs.Prelude.{ℕ, suc, ◌≤◌, ◌<◌, ◌≡◌, ◌⊎◌, Bool, T, eqb}
use Rattle.std.proofs.Common.{arith, ◌∙◌, ap, inl, inr}
use Rattle.std.proofs.Math.Path.{refl, sym}
use Rattle.std.proofs.Math.Logic.{⊎_elim}
use Rattle.std.proofs.Math.Bool.{true, false}
use Rattle.std.proofs.lemmas.Bool.{false≢true}
use Rattle.std.proofs.Math.Option.{Option, none, some}
use mathlib.Core.List.{List, [], ◌∷◌, ◌++◌, append-nil}
use Rattle.terms.specs.Lists.{◌∈◌, here, there, not-in-nil, cons-cases, in-cast, in_map, of_map, Distinct}
use Rattle.terms.specs.Compare.{Ordering, lt, eq, gt}
use Rattle.terms.specs.Sort.{lost, before, sort, Sorted}
use Rattle.terms.specs.Term.{Term, order, same}
use Rattle.terms.specs.Theory.Order.{irreflexive, below?}
use Rattle.terms.specs.Theory.Reflects.{Reflects, eqb_reflects}
use Rattle.terms.specs.Theory.Sorted.{sort_sorted, sorted_least}
use Rattle.terms.specs.Theory.SortMembers.{sort_member, sort_members, sort_map}
use Rattle.terms.specs.Theory.TermOrder.{term_order, same_reflects}
use Rattle.search.specs.Line.{Line}
use Rattle.weigh.specs.Weigh.{Weights, Weighed, note_lines, mark, least, Turn, ends, arrives, opens, turn, spread, terms}
use Rattle.weigh.specs.Layer.{by_term, waiting_at, layer_at}
use Rattle.weigh.specs.Claims.{Heavy}
use Rattle.weigh.specs.Theory.Least.{before_both, Leads, Least, least_is}
use Rattle.weigh.specs.Theory.Noting.{same_entry}
use Rattle.weigh.specs.Theory.State.{Tries, State, after, marking, taking, now_noted}

-- xs are the terms of total l that wait, in term order, and no lighter one waits
pub record Layer (l : ℕ) (xs noted : List Weighed) : Type 0 where
  pub own : (x : Weighed) → x ∈ xs → x ∈ noted × (x.opened ≡ false) × (x.total ≡ l)
  pub rising : Sorted lost order (terms xs)
  pub rest : (z : Weighed) → z ∈ noted → z.opened ≡ false → z ∈ xs ⊎ (l < z.total)

before_lost : (c : Ordering) → T (before lost c) → c ≡ lt
before_lost lt t = refl
before_lost eq t = absurd t
before_lost gt t = absurd t

-- only one leads
leads_once : (noted : List Weighed) → Distinct (terms noted) → (x y : Weighed) → Leads noted x → Leads noted y → x ≡ y
leads_once noted d x y (i, o, h) (j, p, k) = same_entry noted d x y i j (before_both x y (h y j p) (k x i o))

pub leads_least : (noted : List Weighed) → Distinct (terms noted) → (x : Weighed) → Leads noted x → least noted ≡ some x
leads_least noted d x leads = go (least noted) (least_is noted)
  where
    go : (o : Option Weighed) → Least noted o → o ≡ some x
    go none h = absurd (h x leads.0 leads.1)
    go (some y) h = ap some (leads_once noted d y x h leads)

module _ {l : ℕ} {x : Weighed} {xs noted : List Weighed} (layer : Layer l (x ∷ xs) noted) where
  -- the first comes before the others
  pub first_below : (z : Weighed) → z ∈ xs → order x.term z.term ≡ lt
  first_below z i =
      before_lost (order x.term z.term)
      (sorted_least lost term_order x.term (terms xs) layer.rising.0 layer.rising.1 (in_map (λ (y : Weighed). y.term) i))

  -- the first of the layer is opened next
  pub layer_leads : Leads noted x
  layer_leads =
      let (i, o, e) = layer.own x (here refl) in (
        i,
        o,
        λ z j p.
            ⊎_elim
            (λ k. let t = (layer.own z k).2 in inr (e ∙ sym t, λ c. ⊎_elim (λ (q : z ≡ x). irreflexive term_order c (ap (λ y. y.term) q)) (λ n. later z n c) (cons-cases k)))
            (λ h. inl (omega arith))
            (layer.rest z j p),
      )
    where
      later : (z : Weighed) → z ∈ xs → order z.term x.term ≡ lt → ⊥
      later z n c = irreflexive term_order (term_order.transitive c (first_below z n)) refl

  -- and then the layer has the others
  module _ {Ok : Term → Line → Type 0} {next : Term → List Line} (tries : Tries Ok next) {w : Weights} (heavy : Heavy w) {cost : ℕ} {left right : Term}
      (state : State Ok w cost left right noted) where
    pub layer_opens : Layer l xs (after tries state layer_leads)
    layer_opens =
        record {
          own = λ z i.
              let (j, o, e) = layer.own z (there i) in
              let t = (layer.own x (here refl)).2 in
              let m = (marking tries state layer_leads).kept z j (λ p. irreflexive term_order (first_below z i) (sym p)) in
              ((taking tries state layer_leads).kept z m (omega arith), o, e);
          rising = layer.rising.1;
          rest =
              now_noted tries state layer_leads (λ z. z.opened ≡ false → z ∈ xs ⊎ (l < z.total))
              (λ z i other o. ⊎_elim (λ j. ⊎_elim (λ (q : z ≡ x). absurd (other (ap (λ y. y.term) q))) inl (cons-cases j)) inr (layer.rest z i o))
              (λ o. absurd (false≢true (sym o)))
              (λ y i c o. let t = (layer.own x (here refl)).2 in let h = heavy y.law in inr (omega arith));
        }

waiting_cases : (P : List Weighed → Type 0) (l : ℕ) (x : Weighed) (xs : List Weighed) → (x.opened ≡ false → x.total ≡ l → P (x ∷ waiting_at l xs))
    → ((x.opened ≡ false → x.total ≡ l → ⊥) → P (waiting_at l xs)) → P (waiting_at l (x ∷ xs))
unfolding waiting_at
waiting_cases P l x xs waits other = go x.opened refl
  where
    weighs : x.opened ≡ false → (b : Bool) → Reflects (x.total ≡ l) b → P (elim b [ true ↦ x ∷ waiting_at l xs | false ↦ waiting_at l xs ])
    weighs o true e = waits o e
    weighs o false h = other (λ p e. h e)

    go : (b : Bool) → x.opened ≡ b → P (elim b [ true ↦ waiting_at l xs | false ↦ elim (eqb x.total l) [ true ↦ x ∷ waiting_at l xs | false ↦ waiting_at l xs ] ])
    go true o = other (λ p e. false≢true (sym p ∙ o))
    go false o = weighs o (eqb x.total l) (eqb_reflects x.total l)

-- one more that is noted waits with total l, or does not

module _ (l : ℕ) (x : Weighed) (xs : List Weighed) where
  waiting_in : x.opened ≡ false → x.total ≡ l → waiting_at l (x ∷ xs) ≡ x ∷ waiting_at l xs
  waiting_in o e = waiting_cases (λ zs. zs ≡ x ∷ waiting_at l xs) l x xs (λ p q. refl) (λ h. absurd (h o e))

  waiting_out : (x.opened ≡ false → x.total ≡ l → ⊥) → waiting_at l (x ∷ xs) ≡ waiting_at l xs
  waiting_out h = waiting_cases (λ zs. zs ≡ waiting_at l xs) l x xs (λ p q. absurd (h p q)) (λ f. refl)

waiting_append : (l : ℕ) (xs ys : List Weighed) → waiting_at l (xs ++ ys) ≡ waiting_at l xs ++ waiting_at l ys
unfolding waiting_at
waiting_append l [] ys = refl
waiting_append l (x ∷ xs) ys =
    waiting_cases (λ zs. waiting_at l (x ∷ (xs ++ ys)) ≡ zs ++ waiting_at l ys) l x xs
    (λ o e. waiting_in l x (xs ++ ys) o e ∙ ap (λ zs. x ∷ zs) (waiting_append l xs ys))
    (λ h. waiting_out l x (xs ++ ys) h ∙ waiting_append l xs ys)

pub waiting_more : (l : ℕ) (xs : List Weighed) (x : Weighed) → x.opened ≡ false → x.total ≡ l → waiting_at l (xs ++ (x ∷ [])) ≡ waiting_at l xs ++ (x ∷ [])
unfolding waiting_at
waiting_more l xs x o e = waiting_append l xs (x ∷ []) ∙ ap (λ zs. waiting_at l xs ++ zs) (waiting_in l x [] o e)

pub waiting_same : (l : ℕ) (xs : List Weighed) (x : Weighed) → (x.total ≡ l → ⊥) → waiting_at l (xs ++ (x ∷ [])) ≡ waiting_at l xs
unfolding waiting_at
waiting_same l xs x h = waiting_append l xs (x ∷ []) ∙ ap (λ zs. waiting_at l xs ++ zs) (waiting_out l x [] (λ o e. h e)) ∙ append-nil (waiting_at l xs)

waiting_member : (l : ℕ) (xs : List Weighed) (z : Weighed) → z ∈ waiting_at l xs → z ∈ xs × (z.opened ≡ false) × (z.total ≡ l)
unfolding waiting_at
waiting_member l [] z = λ m. absurd (not-in-nil m)
waiting_member l (x ∷ xs) z =
    waiting_cases (λ ys. z ∈ ys → z ∈ x ∷ xs × (z.opened ≡ false) × (z.total ≡ l)) l x xs
    (λ o e m. ⊎_elim (λ (q : z ≡ x). (here q, ap (λ y. y.opened) q ∙ o, ap (λ y. y.total) q ∙ e)) (λ i. later (waiting_member l xs z i)) (cons-cases m))
    (λ h m. later (waiting_member l xs z m))
  where
    later : z ∈ xs × (z.opened ≡ false) × (z.total ≡ l) → z ∈ x ∷ xs × (z.opened ≡ false) × (z.total ≡ l)
    later (i, o, e) = (there i, o, e)

waiting_has : (l : ℕ) (xs : List Weighed) (z : Weighed) → z ∈ xs → z.opened ≡ false → z.total ≡ l → z ∈ waiting_at l xs
waiting_has l [] z m o e = absurd (not-in-nil m)
waiting_has l (x ∷ xs) z m o e =
    waiting_cases (λ ys. z ∈ ys) l x xs
    (λ p q. ⊎_elim here (λ i. there (waiting_has l xs z i o e)) (cons-cases m))
    (λ h. ⊎_elim (λ q. absurd (h (sym (ap (λ y. y.opened) q) ∙ o) (sym (ap (λ y. y.total) q) ∙ e))) (λ i. waiting_has l xs z i o e) (cons-cases m))

-- it is one, if no lighter term waits
pub layer_is : (l : ℕ) (noted : List Weighed) → Distinct (terms noted) → ((z : Weighed) → z ∈ noted → z.opened ≡ false → l ≤ z.total)
    → Layer l (layer_at l noted) noted
unfolding layer_at
layer_is l noted d low =
    record {
      own = λ x i. waiting_member l noted x (sort_member lost by_term (waiting_at l noted) i);
      rising = rw (sort_map lost (λ x. x.term) order (waiting_at l noted)) (sort_sorted lost term_order (terms (waiting_at l noted)));
      rest = λ z i o. ⊎_elim (λ h. inr h) (λ h. inl (has z i o (omega (arith, low z i o)))) (below? l z.total);
    }
  where
    has : (z : Weighed) → z ∈ noted → z.opened ≡ false → z.total ≡ l → z ∈ sort lost by_term (waiting_at l noted)
    has z i o e =
        let k = in_map (λ (y : Weighed). y.term) (waiting_has l noted z i o e) in
        let sorted : z.term ∈ terms (sort lost by_term (waiting_at l noted)) =
        rw (sort_map lost (λ x. x.term) order (waiting_at l noted)) ((sort_members lost term_order (terms (waiting_at l noted)) z.term).1 k) in
        let (y, j, p) = of_map (λ y. y.term) (sort lost by_term (waiting_at l noted)) sorted in
        let y-noted = (waiting_member l noted y (sort_member lost by_term (waiting_at l noted) j)).0 in
        in-cast (sym (same_entry noted d y z y-noted i p)) j

module _ (next : Term → List Line) (w : Weights) (cost : ℕ) (right : Term) (noted : List Weighed) where
  abbrev opened_up : Weighed → List Weighed
  opened_up x = note_lines w cost x (next x.term) (mark x.term noted)

  -- the least that waits is right or is opened
  spread_cases : (P : List Weighed → Type 0) (f : ℕ) (x : Weighed) → least noted ≡ some x → (x.term ≡ right → P noted)
      → ((x.term ≡ right → ⊥) → P (spread next w cost right f (opened_up x))) → P (spread next w cost right (suc f) noted)
  unfolding spread turn
  spread_cases P f x e arrived other = rw (e, turn, spread) (go (same x.term right) (same_reflects x.term right))
    where
      go : (b : Bool) → Reflects (x.term ≡ right) b
          → P (elim (elim b as (λ _. Turn) [ true ↦ arrives x | false ↦ opens x ]) [
            | ends ↦ noted
            | arrives y ↦ noted
            | opens y ↦ spread next w cost right f (opened_up y)
          ])
      go true h = arrived h
      go false h = other h

  pub spread_arrives : (f : ℕ) (x : Weighed) → least noted ≡ some x → x.term ≡ right → spread next w cost right f noted ≡ noted
  unfolding spread
  spread_arrives ℕ.zero x e p = refl
  spread_arrives (suc f) x e p = spread_cases (λ l. l ≡ noted) f x e (λ _. refl) (λ h. absurd (h p))

  pub spread_opens : (f : ℕ) (x : Weighed) → least noted ≡ some x → (x.term ≡ right → ⊥)
      → spread next w cost right (suc f) noted ≡ spread next w cost right f (opened_up x)
  spread_opens f x e h = spread_cases (λ l. l ≡ spread next w cost right f (opened_up x)) f x e (λ p. absurd (h p)) (λ _. refl)

  pub spread_nothing : (f : ℕ) → ((z : Weighed) → z ∈ noted → z.opened ≡ false → ⊥) → spread next w cost right f noted ≡ noted
  unfolding spread turn
  spread_nothing ℕ.zero h = refl
  spread_nothing (suc f) h = let e = none_least (least noted) (least_is noted) in rw (e, turn, spread)
    where
      none_least : (o : Option Weighed) → Least noted o → o ≡ none
      none_least none k = refl
      none_least (some y) k = absurd (h y k.0 k.1)
