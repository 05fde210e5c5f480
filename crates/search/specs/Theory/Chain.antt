-- The test of a line and of a chain says just what Path states.
use Rattle.std.specs.Prelude.{ℕ, ◌<◌, ◌≡◌, ◌↔◌, Bool, true, not, ◌&&◌, T, eqb, length, get_or}
use native.Mathlib.Omega.{arith}
use Rattle.std.proofs.Math.Path.{refl}
use Rattle.std.proofs.Common.{sym, ◌∙◌, ap, ⊎_elim}
use Rattle.std.proofs.Math.Bool.{false}
use Rattle.std.proofs.Math.Option.{Option, none, some, none-ne-some, some-injective, map-eq-some_iff}
use mathlib.Core.List.{List, [], ◌∷◌, map, cons-ne-nil}
use Rattle.terms.specs.Lists.{◌∈◌, here, there, not-in-nil, cons-cases, in_map, Distinct, none, more}
use Rattle.terms.specs.Term.{Term, letter, zero, one, add, mul, subst, same}
use Rattle.terms.specs.Numbers.{is_some}
use Rattle.terms.specs.Theory.Reflects.{Reflects, eqb_reflects, both, both_hold, like, reflects_true}
use Rattle.terms.specs.Theory.TermOrder.{same_reflects}
use Rattle.search.specs.Law as law
use Rattle.search.specs.Law.{Law, Name, rank, semiring}
use Rattle.search.specs.Match.{Bindings, unbound, match}
use Rattle.search.specs.Line.{Line, Direction, Side, l, r, from, to}
use Rattle.search.specs.Path.{subterm, replace, IsLine, Path, end, step}
use Rattle.search.specs.Theory.Bindings.{fill, fill_agrees, nothing_agrees}
use Rattle.search.specs.Theory.Match.{Matching, Matched, match_matched}
use Rattle.search.specs.Chain.{named, match_both, same_around, is_use, is_line, leads, any_line, is_chain}

-- two sides matched one after the other

-- terms for the letters make p the term a and q the term b
abbrev pub Both : Term → Term → Term → Term → Type 0
Both p q a b = (σ : ℕ → Term) × (subst σ p ≡ a) × (subst σ q ≡ b)

module _ (p q a b : Term) where
  pub match_both_reflects : Reflects (Both p q a b) (is_some (match_both p q a b))
  unfolding match_both is_some
  match_both_reflects = first (match p a unbound) (match_matched p a unbound)
    where
      second : (s : Bindings) → Matching p a unbound s → (o : Option Bindings) → Matched q b s o → Reflects (Both p q a b) (is_some o)
      second s h none k = λ (σ, e, f). k σ ((h.agrees σ).1 (nothing_agrees σ, e)) f
      second s h (some v) k = let i = (k.agrees (fill v)).0 (fill_agrees v) in (fill v, ((h.agrees (fill v)).0 i.0).1, i.1)

      first : (o : Option Bindings) → Matched p a unbound o
          → Reflects (Both p q a b) (is_some {A = Bindings} (elim o [ none ↦ none | some s ↦ match q b s ]))
      first none h = λ (σ, e, f). h σ (nothing_agrees σ) e
      first (some s) h = second s h (match q b s) (match_matched q b s)

-- what was put in at a place is there
pub subterm_replaced : (p : List Side) (s u : Term) {t : Term} → replace p s u ≡ some t → subterm p t ≡ some u
unfolding subterm replace
subterm_replaced [] s u e = sym e
subterm_replaced (d ∷ p) (letter n) u e = absurd (none-ne-some _ e)
subterm_replaced (d ∷ p) zero u e = absurd (none-ne-some _ e)
subterm_replaced (d ∷ p) one u e = absurd (none-ne-some _ e)
subterm_replaced (l ∷ p) (add s t) u e =
    let (v, i, j) = (map-eq-some_iff (λ v. add v t) (replace p s u)).0 e in rw (← j) (subterm_replaced p s u i)
subterm_replaced (r ∷ p) (add s t) u e =
    let (v, i, j) = (map-eq-some_iff (λ v. add s v) (replace p t u)).0 e in rw (← j) (subterm_replaced p t u i)
subterm_replaced (l ∷ p) (mul s t) u e =
    let (v, i, j) = (map-eq-some_iff (λ v. mul v t) (replace p s u)).0 e in rw (← j) (subterm_replaced p s u i)
subterm_replaced (r ∷ p) (mul s t) u e =
    let (v, i, j) = (map-eq-some_iff (λ v. mul s v) (replace p t u)).0 e in rw (← j) (subterm_replaced p t u i)

same_around_reflects : (p : List Side) (s b t : Term) → Reflects (replace p s b ≡ some t) (same_around p s b t)
unfolding same_around
same_around_reflects p s b t = go (replace p s b)
  where
    other : (u : Term) (c : Bool) → Reflects (u ≡ t) c → Reflects (◌≡◌ {A = Option Term} (some u) (some t)) c
    other u true h = ap some h
    other u false h = λ e. h (some-injective _ _ e)

    go : (o : Option Term) → Reflects (o ≡ some t) (elim o [ none ↦ false | some u ↦ same u t ])
    go none = λ e. none-ne-some _ e
    go (some u) = other u (same u t) (same_reflects u t)

-- terms for the law's letters, by which it gives t at the place of s
pub record Use (w : Law) (d : Direction) (p : List Side) (s t : Term) : Type 0 where
  pub terms : ℕ → Term
  pub replaced : subterm p s ≡ some (subst terms (from d w))
  pub replacement : replace p s (subst terms (to d w)) ≡ some t

module _ (w : Law) (d : Direction) (p : List Side) (s t : Term) where
  pub is_use_reflects : Reflects (Use w d p s t) (is_use w d p s t)
  unfolding is_use
  is_use_reflects = source (subterm p s) refl
    where
      put_there : (u : Use w d p s t) → subterm p t ≡ some (subst u.terms (to d w))
      put_there u = subterm_replaced p s _ u.replacement

      target : (a : Term) → subterm p s ≡ some a → (o : Option Term) → subterm p t ≡ o
          → Reflects (Use w d p s t) (elim o [ none ↦ false | some b ↦ is_some (match_both (from d w) (to d w) a b) && same_around p s b t ])
      target a e none f = λ u. none-ne-some _ (sym f ∙ put_there u)
      target a e (some b) f =
          like (Both (from d w) (to d w) a b × (replace p s b ≡ some t)) (Use w d p s t) (is_some (match_both (from d w) (to d w) a b) && same_around p s b t)
          (λ ((σ, i, j), k). record { terms = σ; replaced = e ∙ ap some (sym i); replacement = rw j k })
          (λ u.
          let i : subst u.terms (from d w) ≡ a = some-injective _ _ (sym u.replaced ∙ e) in
          let j : subst u.terms (to d w) ≡ b = some-injective _ _ (sym (put_there u) ∙ f) in
          ((u.terms, i, j), rw j at u.replacement))
          (both_hold _ _ (is_some (match_both (from d w) (to d w) a b)) (same_around p s b t) (match_both_reflects (from d w) (to d w) a b) (same_around_reflects p s b t))

      source : (o : Option Term) → subterm p s ≡ o
          → Reflects (Use w d p s t) (elim o [
            | none ↦ false
            | some a ↦ elim (subterm p t) [ none ↦ false | some b ↦ is_some (match_both (from d w) (to d w) a b) && same_around p s b t ]
          ])
      source none e = λ u. none-ne-some _ (sym e ∙ u.replaced)
      source (some a) e = target a e (subterm p t) refl

-- laws by their names

abbrev all_names : List Name
all_names =
    law.add_assoc ∷ law.add_comm ∷ law.add_zero_right ∷ law.mul_assoc ∷ law.mul_one_left ∷ law.mul_one_right ∷ law.left_distrib ∷ law.right_distrib
    ∷ law.zero_mul ∷ law.mul_zero ∷ []

rank_name : (n : Name) → get_or all_names (rank n) law.add_assoc ≡ n
rank_name law.add_assoc = refl
rank_name law.add_comm = refl
rank_name law.add_zero_right = refl
rank_name law.mul_assoc = refl
rank_name law.mul_one_left = refl
rank_name law.mul_one_right = refl
rank_name law.left_distrib = refl
rank_name law.right_distrib = refl
rank_name law.zero_mul = refl
rank_name law.mul_zero = refl

rank_injective : (m n : Name) → rank m ≡ rank n → m ≡ n
rank_injective m n e = sym (rank_name m) ∙ ap (λ k. get_or all_names k law.add_assoc) e ∙ rank_name n

-- no two laws of the list have one name
abbrev pub Different : List Law → Type 0
Different ws = Distinct (map (λ w. w.name) ws)

abbrev Named : List Law → Name → Option Law → Type 0
Named ws n none = (w : Law) → w ∈ ws → w.name ≡ n → ⊥
Named ws n (some w) = w ∈ ws × (w.name ≡ n) × ((v : Law) → v ∈ ws → v.name ≡ n → v ≡ w)

named_is : (ws : List Law) → Different ws → (n : Name) → Named ws n (named ws n)
unfolding named
named_is [] d n = λ w m. absurd (not-in-nil m)
named_is (w ∷ ws) (more new d) n = go (eqb (rank n) (rank w.name)) (eqb_reflects (rank n) (rank w.name)) (named ws n) (named_is ws d n)
  where
    later : (rank n ≡ rank w.name → ⊥) → (o : Option Law) → Named ws n o → Named (w ∷ ws) n o
    later other none h = λ v m e. ⊎_elim (λ (f : v ≡ w). other (rw (← e, f) refl)) (λ k. h v k e) (cons-cases m)
    later other (some v) (m, e, only) =
        (there m, e, λ u k f. ⊎_elim (λ (g : u ≡ w). absurd (other (rw (← f, g) refl))) (λ i. only u i f) (cons-cases k))

    go : (b : Bool) → Reflects (rank n ≡ rank w.name) b → (o : Option Law) → Named ws n o → Named (w ∷ ws) n (elim b [ true ↦ some w | false ↦ o ])
    go true h o k =
        let e : w.name ≡ n = rank_injective w.name n (sym h) in
        (here refl, e, λ v m f. ⊎_elim (λ (g : v ≡ w). g) (λ i. absurd (new (rw (e ∙ sym f) (in_map (λ (w : Law). w.name) i)))) (cons-cases m))
    go false h o k = later h o k

-- names are told apart by a test
abbrev has : Name → List Name → Bool
has n [] = false
has n (m ∷ ms) = elim (eqb (rank n) (rank m)) [ true ↦ true | false ↦ has n ms ]

abbrev different : List Name → Bool
different [] = true
different (n ∷ ns) = not (has n ns) && different ns

has_not : (n : Name) (ns : List Name) → T (not (has n ns)) → n ∈ ns → ⊥
has_not n [] t m = not-in-nil m
has_not n (k ∷ ns) t m = go (eqb (rank n) (rank k)) (eqb_reflects (rank n) (rank k)) t (has_not n ns)
  where
    go : (b : Bool) → Reflects (rank n ≡ rank k) b → T (not (elim b [ true ↦ true | false ↦ has n ns ])) → (T (not (has n ns)) → n ∈ ns → ⊥) → ⊥
    go true h t rest = t
    go false h t rest = ⊎_elim (λ e. h (ap rank e)) (rest t) (cons-cases m)

pub different_names : (ns : List Name) → T (different ns) → Distinct ns
different_names [] t = none
different_names (n ∷ ns) t = let (first, rest) = both (not (has n ns)) (different ns) t in more (has_not n ns first) (different_names ns rest)

pub semiring_different : Different semiring
unfolding semiring
semiring_different = different_names _ tt

-- lines and chains

path_ends : {Ok : Term → Line → Type 0} {s t : Term} {xs : List Line} → Path Ok s xs t → xs ≡ [] → s ≡ t
path_ends end e = refl
path_ends (step x {xs = xs} h p) e = absurd (cons-ne-nil x xs e)

path_parts : {Ok : Term → Line → Type 0} {s t : Term} {x : Line} {xs : List Line} → Path Ok s (x ∷ xs) t → Ok s x × Path Ok x.result xs t
path_parts (step x h p) = (h, p)

module _ (ws : List Law) (different : Different ws) where
  pub is_line_reflects : (s : Term) (x : Line) → Reflects (IsLine ws s x) (is_line ws s x)
  unfolding is_line
  is_line_reflects s x = go (named ws x.law) (named_is ws different x.law)
    where
      go : (o : Option Law) → Named ws x.law o
          → Reflects (IsLine ws s x) (elim o [ none ↦ false | some w ↦ is_use w x.direction x.place s x.result ])
      go none h = λ i. h i.law i.listed i.named
      go (some w) (m, e, only) =
          like (Use w x.direction x.place s x.result) (IsLine ws s x) (is_use w x.direction x.place s x.result)
          (λ u. record { law = w; listed = m; named = e; terms = u.terms; replaced = u.replaced; replacement = u.replacement })
          (λ i.
          let f = only i.law i.listed i.named in
          record { terms = i.terms; replaced = rw f at i.replaced; replacement = rw f at i.replacement })
          (is_use_reflects w x.direction x.place s x.result)

  -- the test of a line is true exactly of the lines
  pub is_line_exact : (s : Term) (x : Line) → (is_line ws s x ≡ true) ↔ IsLine ws s x
  is_line_exact s x = reflects_true (IsLine ws s x) (is_line ws s x) (is_line_reflects s x)

  pub leads_reflects : (s : Term) (xs : List Line) (t : Term) → Reflects (Path (IsLine ws) s xs t) (leads ws s xs t)
  unfolding leads
  leads_reflects s [] t = like (s ≡ t) (Path (IsLine ws) s [] t) (same s t) (λ e. rw e end) (λ p. path_ends p refl) (same_reflects s t)
  leads_reflects s (x ∷ xs) t =
      like (IsLine ws s x × Path (IsLine ws) x.result xs t) (Path (IsLine ws) s (x ∷ xs) t) (is_line ws s x && leads ws x.result xs t)
      (λ h. step x h.0 h.1) path_parts
      (both_hold _ _ (is_line ws s x) (leads ws x.result xs t) (is_line_reflects s x) (leads_reflects x.result xs t))

  pub any_line_reflects : (xs : List Line) → Reflects (0 < length xs) (any_line xs)
  unfolding any_line
  any_line_reflects [] = λ h. omega arith
  any_line_reflects (x ∷ xs) = omega arith

  pub is_chain_reflects : (s : Term) (xs : List Line) (t : Term) → Reflects ((0 < length xs) × Path (IsLine ws) s xs t) (is_chain ws s xs t)
  unfolding is_chain
  is_chain_reflects s xs t = both_hold _ _ (any_line xs) (leads ws s xs t) (any_line_reflects xs) (leads_reflects s xs t)

  -- the test of a chain is true exactly of the nonempty paths
  pub is_chain_exact : (s : Term) (xs : List Line) (t : Term) → (is_chain ws s xs t ≡ true) ↔ ((0 < length xs) × Path (IsLine ws) s xs t)
  is_chain_exact s xs t = reflects_true _ (is_chain ws s xs t) (is_chain_reflects s xs t)
