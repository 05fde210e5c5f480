-- The terms that lines of at most so much weight reach can be listed.
use Rattle.std.specs.Prelude.{ℕ, suc, ◌-◌, ◌≤◌, ◌<◌, ◌≡◌, Bool, true, false, List, [], ◌∷◌, ◌++◌, leb}
use Rattle.std.proofs.Common.{arith, subst}
use Rattle.std.proofs.Math.Path.{refl}
use Rattle.std.proofs.Math.Logic.{⊎_elim}
use Rattle.terms.specs.Lists.{◌∈◌, here, there, not-in-nil, cons-cases, append_cases, in_left, in_right, Distinct}
use Rattle.terms.specs.Sort.{lost, sort}
use Rattle.terms.specs.Term.{Term, order}
use Rattle.terms.specs.Theory.Reflects.{Reflects, leb_reflects}
use Rattle.terms.specs.Theory.Sorted.{sort_distinct}
use Rattle.terms.specs.Theory.SortMembers.{sort_members}
use Rattle.terms.specs.Theory.TermOrder.{term_order}
use Rattle.search.specs.Line.{Line}
use Rattle.search.specs.Path.{Path, end, step}
use Rattle.weigh.specs.Weigh.{Weights, weight}
use Rattle.weigh.specs.Claims.{Heavy}
use Rattle.weigh.specs.Theory.State.{Tries}

-- what f lists for the results of the lines that weigh at most k, with the rest of k, one after the other
gather : Weights → (ℕ → Term → List Term) → ℕ → List Line → List Term
gather w f k [] = []
gather w f k (x ∷ xs) = elim (leb (w x.law) k) [ true ↦ f (k - w x.law) x.result ++ gather w f k xs | false ↦ gather w f k xs ]

gather_cases : (P : List Term → Type 0) (w : Weights) (f : ℕ → Term → List Term) (k : ℕ) (x : Line) (xs : List Line)
    → (w x.law ≤ k → P (f (k - w x.law) x.result ++ gather w f k xs)) → ((w x.law ≤ k → ⊥) → P (gather w f k xs)) → P (gather w f k (x ∷ xs))
unfolding gather
gather_cases P w f k x xs light heavy = go (leb (w x.law) k) (leb_reflects (w x.law) k)
  where
    go : (b : Bool) → Reflects (w x.law ≤ k) b → P (elim b [ true ↦ f (k - w x.law) x.result ++ gather w f k xs | false ↦ gather w f k xs ])
    go true h = light h
    go false h = heavy h

gather_gives : (w : Weights) (f : ℕ → Term → List Term) (k : ℕ) (x : Line) (t : Term) (xs : List Line) → x ∈ xs → w x.law ≤ k
    → t ∈ f (k - w x.law) x.result → t ∈ gather w f k xs
gather_gives w f k x t xs (here {x = y} {xs = ys} e) h m =
    gather_cases (λ l. t ∈ l) w f k y ys (λ i. in_left (gather w f k ys) (rw e at m)) (λ i. absurd (i (rw e at h)))
gather_gives w f k x t xs (there {x = y} {xs = ys} n) h m =
    gather_cases (λ l. t ∈ l) w f k y ys (λ i. in_right (f (k - w y.law) y.result) (gather_gives w f k x t ys n h m)) (λ i. gather_gives w f k x t ys n h m)

abbrev Comes : Weights → (ℕ → Term → List Term) → ℕ → List Line → Term → Type 0
Comes w f k xs t = (x : Line) × x ∈ xs × (w x.law ≤ k) × t ∈ f (k - w x.law) x.result

gather_comes : (w : Weights) (f : ℕ → Term → List Term) (k : ℕ) (xs : List Line) (t : Term) → t ∈ gather w f k xs → Comes w f k xs t
unfolding gather
gather_comes w f k [] t = λ m. absurd (not-in-nil m)
gather_comes w f k (y ∷ ys) t =
    gather_cases (λ l. t ∈ l → Comes w f k (y ∷ ys) t) w f k y ys
    (λ h m. ⊎_elim (λ n. (y, here refl, h, n)) (λ n. later (gather_comes w f k ys t n)) (append_cases (f (k - w y.law) y.result) m))
    (λ h m. later (gather_comes w f k ys t m))
  where
    later : Comes w f k ys t → Comes w f k (y ∷ ys) t
    later (x, i, h, j) = (x, there i, h, j)

module _ {Ok : Term → Line → Type 0} {next : Term → List Line} (tries : Tries Ok next) (w : Weights) (heavy : Heavy w) where
  -- by fewer than n lines that weigh at most k
  reach : ℕ → ℕ → Term → List Term
  reach ℕ.zero k s = []
  reach (suc n) k s = s ∷ gather w (reach n) k (next s)

  reach_only : (n k : ℕ) (s t : Term) → t ∈ reach n k s → (ys : List Line) × Path Ok s ys t × (weight w ys ≤ k)
  unfolding reach weight
  reach_only ℕ.zero k s t m = absurd (not-in-nil m)
  reach_only (suc n) k s t m =
      ⊎_elim (λ (e : t ≡ s). ([], rw e end, omega arith))
      (λ i.
      let (x, j, h, c) = gather_comes w (reach n) k (next s) t i in
      let (ys, path, g) = reach_only n (k - w x.law) x.result t c in
      (x ∷ ys, step x (tries.sound s x j) path, omega arith))
      (cons-cases m)

  -- more lines and more weight reach no less
  reach_more : (n k l : ℕ) (s t : Term) → k ≤ l → t ∈ reach n k s → t ∈ reach (suc n) l s
  unfolding reach
  reach_more ℕ.zero k l s t h m = absurd (not-in-nil m)
  reach_more (suc n) k l s t h m =
      ⊎_elim here
      (λ i.
      let (x, j, c, g) = gather_comes w (reach n) k (next s) t i in
      there (gather_gives w (reach (suc n)) l x t (next s) j (omega arith) (reach_more n (k - w x.law) (l - w x.law) x.result t (omega arith) g)))
      (cons-cases m)

  reach_all : (n k : ℕ) (s t : Term) (ys : List Line) → Path Ok s ys t → weight w ys ≤ k → k < n → t ∈ reach n k s
  unfolding reach weight
  reach_all ℕ.zero k s t ys path h c = absurd (omega arith)
  reach_all (suc n) k s t ys end h c = here refl
  reach_all (suc n) k s t ys (step x {xs = xs} ok path) h c =
      let one = heavy x.law in
      let rest = reach_all n (k - w x.law) x.result t xs path (omega arith) (omega arith) in
      ⊎_elim
      (λ e. reach_more n (k - w x.law) k s t (omega arith) (subst (λ u. t ∈ reach n (k - w x.law) u) e rest))
      (λ m. there (gather_gives w (reach n) k x t (next s) m (omega arith) rest))
      (tries.complete s x ok)

-- the terms reached from s by lines that weigh at most k in all, each once
pub reachable : {Ok : Term → Line → Type 0} {next : Term → List Line} → Tries Ok next → (w : Weights) → Heavy w → (k : ℕ) (s : Term)
    → (ts : List Term) × Distinct ts × ((t : Term) (ys : List Line) → Path Ok s ys t → weight w ys ≤ k → t ∈ ts)
    × ((t : Term) → t ∈ ts → (ys : List Line) × Path Ok s ys t × (weight w ys ≤ k))
reachable tries w heavy k s =
    let all = reach tries w heavy (suc k) k s in
    let each-once = sort_members lost term_order all in (
      sort lost order all,
      sort_distinct term_order all,
      λ t ys path h. (each-once t).1 (reach_all tries w heavy (suc k) k s t ys path h (omega arith)),
      λ t m. reach_only tries w heavy (suc k) k s t ((each-once t).0 m),
    )
