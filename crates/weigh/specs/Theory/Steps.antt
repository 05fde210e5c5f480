-- What the code's loops go by: lines taken one list after another, a line that repeats another, and how many terms are noted.
use Rattle.std.specs.Prelude.{ℕ, suc, ◌+◌, ◌≤◌, ◌<◌, ◌≡◌, ◌⊎◌, Bool, leb, get_or}
use native.Mathlib.Omega.{arith}
use Rattle.std.proofs.Math.Path.{refl}
use Rattle.std.proofs.Common.{sym, ◌∙◌, ap, inl, inr, ⊎_elim}
use Rattle.std.proofs.Math.Bool.{true, false}
use mathlib.Core.List.{List, [], ◌∷◌, ◌++◌}
use Rattle.std.proofs.Math.ListN.{length, set}
use Rattle.terms.specs.Lists.{◌∈◌, here, there, not-in-nil, cons-cases, in-cast, in_map, Distinct, more}
use Rattle.terms.specs.Term.{Term}
use Rattle.terms.specs.Theory.Members.{getD_in}
use Rattle.search.specs.Line.{Line}
use Rattle.weigh.specs.Weigh.{Weights, Weighed, terms, led, note, note_lines, mark, Turn, ends, arrives, opens, turn, spread}
use Rattle.weigh.specs.Theory.Noting.{Near, note_cases, note_has, opened, mark_cases}

-- n leaves the noted terms as they are where its term is noted with as small a total
pub note_stays : (n : Weighed) (zs : List Weighed) → Near zs n.term n.total → ((a b : Weighed) → a ∈ zs → b ∈ zs → a.term ≡ b.term → a ≡ b) → note n zs ≡ zs
unfolding note
note_stays n [] (z, i, e, h) once = absurd (not-in-nil i)
note_stays n (x ∷ xs) (z, i, e, h) once =
    note_cases (λ l. l ≡ x ∷ xs) n x xs
    (λ p k. let q = once z x i (here refl) (e ∙ p) in absurd (omega (arith, ap (λ y. y.total) q)))
    (λ p k. refl)
    (λ k. ap (λ l. x ∷ l)
    (note_stays n xs
    (⊎_elim (λ (q : z ≡ x). absurd (k (sym e ∙ ap (λ y. y.term) q))) (λ j. (z, j, e, h)) (cons-cases i))
    (λ a b j l p. once a b (there j) (there l) p)))

-- the same result again, no lighter
pub note_again : (n m : Weighed) (zs : List Weighed) → m.term ≡ n.term → n.total ≤ m.total
    → ((a b : Weighed) → a ∈ note n zs → b ∈ note n zs → a.term ≡ b.term → a ≡ b) → note m (note n zs) ≡ note n zs
note_again n m zs e h once = let (z, i, p, k) = note_has n zs in note_stays m (note n zs) (z, i, p ∙ sym e, omega arith) once

pub note_length_cases : (n : Weighed) (zs : List Weighed) → (length zs ≤ length (note n zs)) × (length (note n zs) ≤ suc (length zs))
unfolding note
note_length_cases n [] = (omega arith, omega arith)
note_length_cases n (z ∷ zs) =
    note_cases (λ l. (length (z ∷ zs) ≤ length l) × (length l ≤ suc (length (z ∷ zs)))) n z zs
    (λ e h. (omega arith, omega arith))
    (λ e h. (omega arith, omega arith))
    (λ h. let (low, high) = note_length_cases n zs in (omega arith, omega arith))

-- a term that was not noted is one more
pub note_new_length : (n : Weighed) (zs : List Weighed) → ((z : Weighed) → z ∈ zs → z.term ≡ n.term → ⊥) → note n zs ≡ zs ++ (n ∷ [])
unfolding note
note_new_length n [] h = refl
note_new_length n (z ∷ zs) h =
    note_cases (λ l. l ≡ z ∷ (zs ++ (n ∷ []))) n z zs (λ e k. absurd (h z (here refl) (sym e))) (λ e k. absurd (h z (here refl) (sym e)))
    (λ k. ap (λ l. z ∷ l) (note_new_length n zs (λ a i. h a (there i))))

-- n takes the place of its term, which is noted there with a greater total, and once only
pub note_lowers : (n : Weighed) (zs : List Weighed) (k : ℕ) (d : Weighed) → k < length zs → Distinct (terms zs) → n.term ≡ (get_or zs k d).term
    → n.total < (get_or zs k d).total → note n zs ≡ set zs k n
unfolding note
note_lowers n [] k d h u e low = absurd (omega arith)
note_lowers n (z ∷ zs) ℕ.zero d h u e low =
    note_cases (λ l. l ≡ n ∷ zs) n z zs (λ p q. refl) (λ p q. absurd (omega arith)) (λ p. absurd (p e))
note_lowers n (z ∷ zs) (suc k) d h (more other u) e low =
    note_cases (λ l. l ≡ z ∷ set zs k n) n z zs (λ p q. absurd (elsewhere p)) (λ p q. absurd (elsewhere p))
    (λ p. ap (λ l. z ∷ l) (note_lowers n zs k d (omega arith) u e low))
  where
    elsewhere : n.term ≡ z.term → ⊥
    elsewhere p = other (in-cast (sym p ∙ e) (in_map (λ (y : Weighed). y.term) (getD_in d zs k (omega arith))))

-- each place keeps what it has, or gets n with a lower total
abbrev pub Kept : Weighed → Weighed → Weighed → Type 0
Kept n old new = (new ≡ old) ⊎ ((new ≡ n) × (n.term ≡ old.term) × (n.total < old.total))

pub note_at : (n : Weighed) (zs : List Weighed) (k : ℕ) (d : Weighed) → k < length zs → Kept n (get_or zs k d) (get_or (note n zs) k d)
unfolding note
note_at n [] k d h = absurd (omega arith)
note_at n (z ∷ zs) ℕ.zero d h =
    note_cases (λ l. Kept n z (get_or l 0 d)) n z zs (λ e k. inr (refl, e, k)) (λ e k. inl refl) (λ k. inl refl)
note_at n (z ∷ zs) (suc k) d h =
    note_cases (λ l. Kept n (get_or zs k d) (get_or l (suc k) d)) n z zs (λ e i. inl refl) (λ e i. inl refl) (λ i. note_at n zs k d (omega arith))

-- and marking changes no place but the term's
pub mark_at : (t : Term) (zs : List Weighed) (k : ℕ) (d : Weighed) → k < length zs
    → (get_or (mark t zs) k d ≡ get_or zs k d) ⊎ ((get_or (mark t zs) k d ≡ opened (get_or zs k d)) × (t ≡ (get_or zs k d).term))
unfolding mark
mark_at t [] k d h = absurd (omega arith)
mark_at t (z ∷ zs) ℕ.zero d h =
    mark_cases (λ l. (get_or l 0 d ≡ z) ⊎ ((get_or l 0 d ≡ opened z) × (t ≡ z.term))) t z zs (λ e. inr (refl, e)) (λ e. inl refl)
mark_at t (z ∷ zs) (suc k) d h =
    mark_cases (λ l. (get_or l (suc k) d ≡ get_or zs k d) ⊎ ((get_or l (suc k) d ≡ opened (get_or zs k d)) × (t ≡ (get_or zs k d).term))) t z zs
    (λ e. inl refl) (λ e. mark_at t zs k d (omega arith))

module _ (w : Weights) (cost : ℕ) (x : Weighed) where
  -- one list of lines after another
  pub note_lines_append : (ys us : List Line) (zs : List Weighed) → note_lines w cost x (ys ++ us) zs ≡ note_lines w cost x us (note_lines w cost x ys zs)
  unfolding note_lines
  note_lines_append [] us zs = refl
  note_lines_append (y ∷ ys) us zs =
      go (leb (x.total + w y.law) cost) (note_lines_append ys us zs) (note_lines_append ys us (note (led w x y) zs))
    where
      go : (b : Bool) → note_lines w cost x (ys ++ us) zs ≡ note_lines w cost x us (note_lines w cost x ys zs)
          → note_lines w cost x (ys ++ us) (note (led w x y) zs) ≡ note_lines w cost x us (note_lines w cost x ys (note (led w x y) zs))
          → elim b [ true ↦ note_lines w cost x (ys ++ us) (note (led w x y) zs) | false ↦ note_lines w cost x (ys ++ us) zs ]
          ≡ note_lines w cost x us (elim b [ true ↦ note_lines w cost x ys (note (led w x y) zs) | false ↦ note_lines w cost x ys zs ])
      go true e f = f
      go false e f = e

  -- no term is forgotten
  pub note_lines_length : (ys : List Line) (zs : List Weighed) → length zs ≤ length (note_lines w cost x ys zs)
  unfolding note_lines
  note_lines_length [] zs = omega arith
  note_lines_length (y ∷ ys) zs =
      go (leb (x.total + w y.law) cost) (note_lines_length ys zs) (note_lines_length ys (note (led w x y) zs))
    where
      go : (b : Bool) → length zs ≤ length (note_lines w cost x ys zs) → length (note (led w x y) zs) ≤ length (note_lines w cost x ys (note (led w x y) zs))
          → length zs ≤ length {A = Weighed} (elim b [ true ↦ note_lines w cost x ys (note (led w x y) zs) | false ↦ note_lines w cost x ys zs ])
      go true e f = omega (arith, note_length_cases (led w x y) zs)
      go false e f = e

pub mark_length : (t : Term) (zs : List Weighed) → length (mark t zs) ≡ length zs
unfolding mark
mark_length t [] = refl
mark_length t (z ∷ zs) = mark_cases (λ l. length l ≡ suc (length zs)) t z zs (λ e. refl) (λ h. ap suc (mark_length t zs))

-- so a search that lacks a slot lacks it at the end
pub spread_length : (next : Term → List Line) (w : Weights) (cost : ℕ) (right : Term) (f : ℕ) (zs : List Weighed)
    → length zs ≤ length (spread next w cost right f zs)
unfolding spread
spread_length next w cost right ℕ.zero zs = omega arith
spread_length next w cost right (suc f) zs =
    go (turn right zs)
    (λ x. let more = note_lines w cost x (next x.term) (mark x.term zs) in
    omega (arith, spread_length next w cost right f more, note_lines_length w cost x (next x.term) (mark x.term zs), mark_length x.term zs))
  where
    go : (t : Turn)
        → ((x : Weighed) → length zs ≤ length (spread next w cost right f (note_lines w cost x (next x.term) (mark x.term zs))))
        → length zs ≤ length {A = Weighed} (elim t [
          | ends ↦ zs
          | arrives x ↦ zs
          | opens x ↦ spread next w cost right f (note_lines w cost x (next x.term) (mark x.term zs))
        ])
    go ends h = omega arith
    go (arrives x) h = omega arith
    go (opens x) h = h x
