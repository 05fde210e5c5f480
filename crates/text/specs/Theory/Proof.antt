-- The proof text of a line has no empty part: its law is called, and each node around its place is a sum or a product.
use Rattle.std.specs.Prelude.{ℕ, ◌≡◌, refl, ◌⊎◌, Bool, eqb}
use Rattle.std.proofs.Common.{sym, ap, inl, inr, ⊎_elim}
use Rattle.std.proofs.Math.Bool.{true, false}
use Rattle.std.proofs.Math.Option.{Option, none, some, none-ne-some, map-eq-some_iff}
use mathlib.Core.List.{List, [], ◌∷◌, map}
use Rattle.terms.specs.Lists.{◌∈◌, not-in-nil, cons-cases, in_map, Distinct, more}
use Rattle.terms.specs.Term.{Term, letter, zero, one, add, mul, subst}
use Rattle.terms.specs.Letters.{letters}
use Rattle.terms.specs.Theory.Reflects.{Reflects, eqb_reflects}
use Rattle.search.specs.Law.{Law, rank, semiring}
use Rattle.search.specs.Match.{Bindings, unbound, match}
use Rattle.search.specs.Line.{Line, Direction, forward, back, Side, l, r, from, to}
use Rattle.search.specs.Directly.{match_sides}
use Rattle.search.specs.Path.{subterm, replace, IsLine, Path, end, step}
use Rattle.search.specs.Theory.Bindings.{Agrees, Bound, nothing_agrees}
use Rattle.search.specs.Theory.Match.{Matching, Matched, match_matched}
use Rattle.text.specs.StepText.{law_name}
use Rattle.text.specs.Proof.{part, call, bound, applied}
use Rattle.text.specs.Theory.AtLeast.{rises_distinct}

-- no two of the laws have one name
abbrev pub Apart : List Law → Type 0
Apart ws = Distinct (map (λ w. rank w.name) ws)

pub semiring_apart : Apart semiring
unfolding semiring
semiring_apart = rises_distinct _ tt

module _ (names : List ℕ) where
  -- the text is the law's call by the terms of its letters
  pub record Called (w : Law) (σ : ℕ → Term) (p : List ℕ) : Type 0 where
    pub bindings : Bindings
    pub agree : Agrees σ bindings
    pub known : (n : ℕ) → n ∈ letters w.left ⊎ n ∈ letters w.right → Bound bindings n
    pub text : p ≡ call (law_name w.name) (bound names (0 ∷ 1 ∷ 2 ∷ []) bindings)

  module _ (w : Law) (σ : ℕ → Term) where
    abbrev s : Term
    s = subst σ w.left

    abbrev t : Term
    t = subst σ w.right

    -- the law's call, as `applied` makes it
    abbrev called : Option Bindings → List ℕ
    called o = elim o [ none ↦ [] | some u ↦ call (law_name w.name) (bound names (0 ∷ 1 ∷ 2 ∷ []) u) ]

    right_called : (u : Bindings) → Matching w.left s unbound u → (o : Option Bindings) → Matched w.right t u o → Called w σ (called o)
    right_called u h none k = absurd (k σ ((h.agrees σ).1 (nothing_agrees σ, refl)) refl)
    right_called u h (some v) k =
        record {
          bindings = v;
          agree = (k.agrees σ).1 ((h.agrees σ).1 (nothing_agrees σ, refl), refl);
          known = λ n. ⊎_elim (λ m. (k.bound n).1 (inl ((h.bound n).1 (inr m)))) (λ m. (k.bound n).1 (inr m));
          text = refl;
        }

    sides_called : Called w σ (called (match_sides w s t))
    unfolding match_sides
    sides_called = go (match w.left s unbound) (match_matched w.left s unbound)
      where
        go : (o : Option Bindings) → Matched w.left s unbound o → Called w σ (called (elim o [ none ↦ none | some u ↦ match w.right t u ]))
        go none h = absurd (h σ (nothing_agrees σ) refl)
        go (some u) h = right_called u h (match w.right t u) (match_matched w.right t u)

    pub applied_called : (ws : List Law) → Apart ws → w ∈ ws → Called w σ (applied names ws w.name s t)
    unfolding applied
    applied_called [] apart i = absurd (not-in-nil i)
    applied_called (v ∷ ws) (more new apart) i =
        go (eqb (rank v.name) (rank w.name)) (eqb_reflects (rank v.name) (rank w.name)) (cons-cases i) (applied_called ws apart)
      where
        go : (b : Bool) → Reflects (rank v.name ≡ rank w.name) b → (w ≡ v) ⊎ w ∈ ws → (w ∈ ws → Called w σ (applied names ws w.name s t))
            → Called w σ (elim b [ false ↦ applied names ws w.name s t | true ↦ called (match_sides v s t) ])
        go true h (inl e) rest = rw (← e) sides_called
        go true h (inr m) rest = absurd (new (rw h (in_map (λ w. rank w.name) m)))
        go false h (inl e) rest = absurd (h (ap (λ w. rank w.name) (sym e)))
        go false h (inr m) rest = rest m

-- the part at a place: what `one_line` comes to there
pub parts : List Side → Term → Term
parts [] t = t
parts (d ∷ p) t = parts p (part d t)

-- each node around the place is a sum or a product
pub data Inside : List Side → Term → Type 0 where
  root : {t : Term} → Inside [] t
  sum : {d : Side} {p : List Side} {s t : Term} → Inside p (part d (add s t)) → Inside (d ∷ p) (add s t)
  product : {d : Side} {p : List Side} {s t : Term} → Inside p (part d (mul s t)) → Inside (d ∷ p) (mul s t)

subterm_inside : (p : List Side) (s a : Term) → subterm p s ≡ some a → Inside p s × (parts p s ≡ a)
unfolding subterm part parts
subterm_inside [] s a e = (root, cc)
subterm_inside (d ∷ p) (letter n) a e = absurd (none-ne-some _ e)
subterm_inside (d ∷ p) zero a e = absurd (none-ne-some _ e)
subterm_inside (d ∷ p) one a e = absurd (none-ne-some _ e)
subterm_inside (l ∷ p) (add s t) a e = let (i, q) = subterm_inside p s a e in (sum i, q)
subterm_inside (r ∷ p) (add s t) a e = let (i, q) = subterm_inside p t a e in (sum i, q)
subterm_inside (l ∷ p) (mul s t) a e = let (i, q) = subterm_inside p s a e in (product i, q)
subterm_inside (r ∷ p) (mul s t) a e = let (i, q) = subterm_inside p t a e in (product i, q)

replace_part : (p : List Side) (s b v : Term) → replace p s b ≡ some v → parts p v ≡ b
unfolding replace part parts
replace_part [] s b v e = cc
replace_part (d ∷ p) (letter n) b v e = absurd (none-ne-some _ e)
replace_part (d ∷ p) zero b v e = absurd (none-ne-some _ e)
replace_part (d ∷ p) one b v e = absurd (none-ne-some _ e)
replace_part (l ∷ p) (add s t) b v e = let (u, i, j) = (map-eq-some_iff (λ u. add u t) (replace p s b)).0 e in rw (← j) (replace_part p s b u i)
replace_part (r ∷ p) (add s t) b v e = let (u, i, j) = (map-eq-some_iff (λ u. add s u) (replace p t b)).0 e in rw (← j) (replace_part p t b u i)
replace_part (l ∷ p) (mul s t) b v e = let (u, i, j) = (map-eq-some_iff (λ u. mul u t) (replace p s b)).0 e in rw (← j) (replace_part p s b u i)
replace_part (r ∷ p) (mul s t) b v e = let (u, i, j) = (map-eq-some_iff (λ u. mul s u) (replace p t b)).0 e in rw (← j) (replace_part p t b u i)

-- `applied` gets the law's left side first, whichever way the line goes
abbrev pub in_order : Direction → Term → Term → (Term → Term → List ℕ) → List ℕ
in_order forward s t f = f s t
in_order back s t f = f t s

module _ (names : List ℕ) (ws : List Law) (apart : Apart ws) (s : Term) (x : Line) (h : IsLine ws s x) where
  pub line_inside : Inside x.place s
  line_inside = (subterm_inside x.place s _ h.replaced).0

  law_called : (d : Direction) → Called names h.law h.terms
      (in_order d (subst h.terms (from d h.law)) (subst h.terms (to d h.law)) (applied names ws h.law.name))
  unfolding from to
  law_called forward = applied_called names h.law h.terms ws apart h.listed
  law_called back = applied_called names h.law h.terms ws apart h.listed

  pub line_called : Called names h.law h.terms (in_order x.direction (parts x.place s) (parts x.place x.result) (applied names ws x.law))
  line_called =
      rw ((subterm_inside x.place s _ h.replaced).1, replace_part x.place s _ x.result h.replacement, ← h.named) (law_called x.direction)

-- a line by one of the ten laws, whose proof text has no empty part
pub record Filled (names : List ℕ) (s : Term) (x : Line) : Type 0 where
  pub line : IsLine semiring s x
  pub inside : Inside x.place s
  pub called : Called names line.law line.terms (in_order x.direction (parts x.place s) (parts x.place x.result) (applied names semiring x.law))

-- every line of a path by the ten laws is such a line
pub path_filled : (names : List ℕ) {s t : Term} {xs : List Line} → Path (IsLine semiring) s xs t → Path (Filled names) s xs t
path_filled names end = end
path_filled names {s} (step x h path) =
    step x
    (record { line = h; inside = line_inside names semiring semiring_apart s x h; called = line_called names semiring semiring_apart s x h })
    (path_filled names path)
