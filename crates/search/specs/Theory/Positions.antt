-- Subterms by number: their places, and that the lines of a term come in the order of these numbers.
use Prim.Native.Nat.{ℕ, suc, ◌+◌, ◌-◌, ◌<◌}
use native.Mathlib.Omega.{arith}
use Rattle.std.proofs.Math.Nat.{zero-add, suc-add}
use Rattle.std.specs.Prelude.{◌≡◌, Bool, ltb}
use Rattle.std.proofs.Math.Path.{refl, sym, ap, ap₂}
use Rattle.std.proofs.Common.{◌∙◌, lt-ltb, le-ltb}
use Rattle.std.proofs.Math.Bool.{true, false, cond}
use Rattle.std.proofs.Math.Option
use Rattle.std.proofs.Math.Option.{Option, none, some}
use mathlib.Core.List.{List, [], ◌∷◌, ◌++◌, map, map-append, map-map, append_assoc, append-nil}
use Rattle.terms.specs.Term.{Term, letter, zero, one, add, mul, size, same}
use Rattle.search.specs.Law.{Law}
use Rattle.search.specs.Line.{Line, Direction, forward, back, Side, l, r, from, to, rewrite, changed, at_root, root_lines, in_parts, lines, under}
use Rattle.search.specs.Path.{subterm, replace}
use Rattle.search.specs.Place.{subterm_at, place_at, replace_at, placed, lines_at, gather}

-- the place with a number

subterm_cond : (f : Term → Term → Term) (b : Bool) (s t u v : Term) (p q : List Side)
    → subterm (l ∷ p) (f s t) ≡ some u → subterm (r ∷ q) (f s t) ≡ some v → subterm (cond b (l ∷ p) (r ∷ q)) (f s t) ≡ some (cond b u v)
subterm_cond f true s t u v p q e₁ e₂ = e₁
subterm_cond f false s t u v p q e₁ e₂ = e₂

pub subterm_place : (t : Term) (i : ℕ) → subterm (place_at t i) t ≡ some (subterm_at t i)
unfolding subterm place_at subterm_at
subterm_place (letter n) i = refl
subterm_place zero i = refl
subterm_place one i = refl
subterm_place (add s t) ℕ.zero = refl
subterm_place (add s t) (suc i) = subterm_cond add (ltb i (size s)) s t _ _ _ _ (subterm_place s i) (subterm_place t (i - size s))
subterm_place (mul s t) ℕ.zero = refl
subterm_place (mul s t) (suc i) = subterm_cond mul (ltb i (size s)) s t _ _ _ _ (subterm_place s i) (subterm_place t (i - size s))

replace_cond : (f : Term → Term → Term) (b : Bool) (s t u v w : Term) (p q : List Side)
    → replace (l ∷ p) (f s t) w ≡ some u → replace (r ∷ q) (f s t) w ≡ some v → replace (cond b (l ∷ p) (r ∷ q)) (f s t) w ≡ some (cond b u v)
replace_cond f true s t u v w p q e₁ e₂ = e₁
replace_cond f false s t u v w p q e₁ e₂ = e₂

pub replace_place : (t : Term) (i : ℕ) (u : Term) → replace (place_at t i) t u ≡ some (replace_at t i u)
unfolding replace place_at replace_at
replace_place (letter n) i u = refl
replace_place zero i u = refl
replace_place one i u = refl
replace_place (add s t) ℕ.zero u = refl
replace_place (add s t) (suc i) u =
    replace_cond add (ltb i (size s)) s t _ _ u _ _ (ap (Option.map (λ v. add v t)) (replace_place s i u)) (ap (Option.map (λ v. add s v)) (replace_place t (i - size s) u))
replace_place (mul s t) ℕ.zero u = refl
replace_place (mul s t) (suc i) u =
    replace_cond mul (ltb i (size s)) s t _ _ u _ _ (ap (Option.map (λ v. mul v t)) (replace_place s i u)) (ap (Option.map (λ v. mul s v)) (replace_place t (i - size s) u))

-- lists one after the other

module _ {A : Type 0} where
  pub gather_snoc : (f : ℕ → List A) (n : ℕ) → gather f (suc n) ≡ gather f n ++ f n
  unfolding gather
  gather_snoc f ℕ.zero = append-nil (f 0)
  gather_snoc f (suc n) = rw (gather_snoc (λ i. f (suc i)) n) (sym (append_assoc (f 0) (gather (λ i. f (suc i)) n) (f (suc n))))

  pub gather_add : (f : ℕ → List A) (m n : ℕ) → gather f (m + n) ≡ gather f m ++ gather (λ i. f (m + i)) n
  unfolding gather
  gather_add f ℕ.zero n = simp zero-add
  gather_add f (suc m) n =
      simp suc-add (ap (λ k. f 0 ++ k) (gather_add (λ i. f (suc i)) m n) ∙ sym (append_assoc (f 0) (gather (λ i. f (suc i)) m) (gather (λ i. f (suc (m + i))) n)))

  gather_same : (f g : ℕ → List A) (n : ℕ) → ((i : ℕ) → i < n → f i ≡ g i) → gather f n ≡ gather g n
  unfolding gather
  gather_same f g ℕ.zero h = refl
  gather_same f g (suc n) h = rw (h 0 (omega arith), gather_same (λ i. f (suc i)) (λ i. g (suc i)) n (λ i p. h (suc i) (omega arith)))

pub gather_map : {A B : Type 0} (h : A → B) (f : ℕ → List A) (n : ℕ) → map h (gather f n) ≡ gather (λ i. map h (f i)) n
unfolding gather
gather_map h f ℕ.zero = refl
gather_map h f (suc n) = map-append h (f 0) (gather (λ i. f (suc i)) n) ∙ ap (λ k. map h (f 0) ++ k) (gather_map h (λ i. f (suc i)) n)

-- what leaves lines at the root as they are leaves `root_lines` as it is

abbrev root_line : Law → Direction → Term → Line
root_line w d u = record { law = w.name; direction = d; place = []; result = u }

module _ (f : Line → Line) (k : (w : Law) (d : Direction) (u : Term) → f (root_line w d u) ≡ root_line w d u) where
  changed_kept : (t : Term) (w : Law) (d : Direction) (o : Option Term) → map f (changed t w d o) ≡ changed t w d o
  unfolding changed
  changed_kept t w d none = refl
  changed_kept t w d (some u) = go (same u t)
    where
      go : (b : Bool) → map f (cond b [] (root_line w d u ∷ [])) ≡ cond b [] (root_line w d u ∷ [])
      go true = refl
      go false = ap (λ x. x ∷ []) (k w d u)

  at_root_kept : (t : Term) (w : Law) (d : Direction) → map f (at_root t w d) ≡ at_root t w d
  unfolding at_root
  at_root_kept t w d = changed_kept t w d (rewrite (from d w) (to d w) t)

  root_lines_kept : (ws : List Law) (t : Term) → map f (root_lines ws t) ≡ root_lines ws t
  unfolding root_lines
  root_lines_kept [] t = refl
  root_lines_kept (w ∷ ws) t =
      map-append f (at_root t w forward) (at_root t w back ++ root_lines ws t)
      ∙ rw (at_root_kept t w forward, map-append f (at_root t w back) (root_lines ws t), at_root_kept t w back, root_lines_kept ws t)

-- the root has number 0

subterm_root : (t : Term) → subterm_at t 0 ≡ t
unfolding subterm_at
subterm_root (letter n) = refl
subterm_root zero = refl
subterm_root one = refl
subterm_root (add s t) = refl
subterm_root (mul s t) = refl

placed_root : (t : Term) (x : Line) → placed t 0 x ≡ record { law = x.law; direction = x.direction; place = []; result = x.result }
unfolding placed place_at replace_at
placed_root (letter n) x = refl
placed_root zero x = refl
placed_root one x = refl
placed_root (add s t) x = refl
placed_root (mul s t) x = refl

root_at : (ws : List Law) (t : Term) → lines_at ws t 0 ≡ root_lines ws t
unfolding lines_at
root_at ws t = rw (subterm_root t) (root_lines_kept (placed t 0) (λ w d u. placed_root t (root_line w d u)) ws t)

-- the lines at a number below the root are those of a part, under the part's side
module _ (c : Term → Term → Term) (ws : List Law) (s t : Term)
    (sub : (i : ℕ) → subterm_at (c s t) (suc i) ≡ cond (ltb i (size s)) (subterm_at s i) (subterm_at t (i - size s)))
    (pla : (i : ℕ) → place_at (c s t) (suc i) ≡ cond (ltb i (size s)) (l ∷ place_at s i) (r ∷ place_at t (i - size s)))
    (rep : (i : ℕ) (u : Term) → replace_at (c s t) (suc i) u ≡ cond (ltb i (size s)) (c (replace_at s i u) t) (c s (replace_at t (i - size s) u))) where
  under_side : (d : Side) (f : Term → Term) (a : Term) (j i : ℕ) → place_at (c s t) (suc j) ≡ d ∷ place_at a i
      → ((u : Term) → replace_at (c s t) (suc j) u ≡ f (replace_at a i u)) → subterm_at (c s t) (suc j) ≡ subterm_at a i
      → lines_at ws (c s t) (suc j) ≡ map (under d f) (lines_at ws a i)
  unfolding lines_at placed under
  under_side d f a j i p q e =
      ap₂ map (λ k x. record { law = x.law; direction = x.direction; place = p k; result = q x.result k }) (ap (root_lines ws) e)
      ∙ sym (map-map (under d f) (placed a i) (root_lines ws (subterm_at a i)))

  left_lines : (i : ℕ) → i < size s → lines_at ws (c s t) (suc i) ≡ map (under l (λ u. c u t)) (lines_at ws s i)
  left_lines i h =
      let b = lt-ltb i (size s) h in
      under_side l (λ u. c u t) s i i (pla i ∙ rw b) (λ u. rep i u ∙ rw b) (sub i ∙ rw b)

  right_lines : (i : ℕ) → i < size t → lines_at ws (c s t) (suc (size s + i)) ≡ map (under r (λ u. c s u)) (lines_at ws t i)
  right_lines i h =
      let b = le-ltb (size s + i) (size s) (omega arith) in
      let e : size s + i - size s ≡ i = omega arith in
      under_side r (λ u. c s u) t (size s + i) i (pla (size s + i) ∙ rw (b, e)) (λ u. rep (size s + i) u ∙ rw (b, e)) (sub (size s + i) ∙ rw (b, e))

  parts_in_order : lines ws s ≡ gather (lines_at ws s) (size s) → lines ws t ≡ gather (lines_at ws t) (size t)
      → root_lines ws (c s t) ++ in_parts c s t (lines ws s) (lines ws t) ≡ gather (lines_at ws (c s t)) (1 + size s + size t)
  unfolding gather in_parts
  parts_in_order p q =
      let e : 1 + size s + size t ≡ suc (size s + size t) = omega arith in
      rw (
        p,
        q,
        e,
        root_at ws (c s t),
        gather_add (λ i. lines_at ws (c s t) (suc i)) (size s) (size t),
        gather_same (λ i. lines_at ws (c s t) (suc i)) (λ i. map (under l (λ u. c u t)) (lines_at ws s i)) (size s) left_lines,
        gather_same (λ i. lines_at ws (c s t) (suc (size s + i))) (λ i. map (under r (λ u. c s u)) (lines_at ws t i)) (size t) right_lines,
        gather_map (under l (λ u. c u t)) (lines_at ws s) (size s),
        gather_map (under r (λ u. c s u)) (lines_at ws t) (size t),
      )

pub lines_in_order : (ws : List Law) (t : Term) → lines ws t ≡ gather (lines_at ws t) (size t)
unfolding lines size gather subterm_at place_at replace_at
lines_in_order ws (letter n) = rw (root_at ws (letter n), append-nil)
lines_in_order ws zero = rw (root_at ws zero, append-nil)
lines_in_order ws one = rw (root_at ws one, append-nil)
lines_in_order ws (add s t) = parts_in_order add ws s t (λ i. refl) (λ i. refl) (λ i u. refl) (lines_in_order ws s) (lines_in_order ws t)
lines_in_order ws (mul s t) = parts_in_order mul ws s t (λ i. refl) (λ i. refl) (λ i u. refl) (lines_in_order ws s) (lines_in_order ws t)
