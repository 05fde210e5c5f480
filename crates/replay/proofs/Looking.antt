-- An output and what is due of it.
use Rattle.std.proofs.Common.{◌≡◌, ℕ, suc, ◌+◌, ◌-◌, ◌%◌, ◌^◌, ◌<◌, ◌↔◌, IsTrue, nat_le, List, [], ◌∷◌, length, get_or, take, drop, arith, ◌∙◌, refl, ap, sym, append-nil, get_or-drop, add-zero, length-drop, le-leb, leb-true, min, nat_eq, Bool}
use Rattle.std.proofs.lemmas.List.{drop_more, drop_all, drop_min, drop-drop, take_rest}
use Rattle.std.proofs.lemmas.Bool.Decides.{Decides-eqb}
use Rattle.std.proofs.lemmas.Slice.Eq.{slice_eq-Decides}
use Rattle.std.proofs.Math.Seq.{drop-nil}
use Rattle.std.specs.Cmp.Lexicographic.{pointwise}
use Rattle.replay.specs.Dirt.{dirt, due}
use Rattle.replay.proofs.Filling.{dirt_none}

-- what is due from here on: a byte of the text, or the filled one behind it, and then what is due from the next on
due_suc : (text : List ℕ) (b m : ℕ) → due text b (suc m) ≡ get_or text 0 b ∷ due (drop 1 text) ((b + 37) % 2 ^ 8) m
unfolding dirt
due_suc [] b m = refl
due_suc (x ∷ text) b m = refl

due_more : (text : List ℕ) (b i n : ℕ) → i < n
    → due (drop i text) b (n - i) ≡ get_or text i b ∷ due (drop (i + 1) text) ((b + 37) % 2 ^ 8) (n - (i + 1))
due_more text b i n l =
    let m = n - (i + 1) in
    let e : n - i ≡ suc m = omega arith in
    let here : get_or (drop i text) 0 b ≡ get_or text i b = rw (get_or-drop i text 0 b, add-zero) in
    ap (λ (k : ℕ). due (drop i text) b k) e
    ∙ due_suc (drop i text) b m
    ∙ ap (λ (x : ℕ). x ∷ due (drop 1 (drop i text)) ((b + 37) % 2 ^ 8) m) here
    ∙ ap (λ (t : List ℕ). get_or text i b ∷ due t ((b + 37) % 2 ^ 8) m) (drop-drop 1 i text)

module _ (output text : List ℕ) (b i d : ℕ) (l : i < length output) (t : d ≡ get_or text i b) where
  abbrev pub DueFrom : (b i : ℕ) → Type 0
  DueFrom b i = drop i output ≡ due (drop i text) b (length output - i)

  here : drop i output ≡ get_or output i 0 ∷ drop (i + 1) output
  here = drop_more output i 0 l

  expected : due (drop i text) b (length output - i) ≡ d ∷ due (drop (i + 1) text) ((b + 37) % 2 ^ 8) (length output - (i + 1))
  expected = rw t (due_more text b i (length output) l)

  pub due_step : (y : ℕ) → get_or output i 0 ≡ d → y ≡ (b + 37) % 2 ^ 8 → DueFrom b i ↔ DueFrom y (i + 1)
  due_step y e w =
      (λ h. let both = sym here ∙ h ∙ expected in rw w (cc both), λ h. let g = rw w at h in here ∙ rw (e, g) (sym expected))

  pub other_byte : (get_or output i 0 ≡ d → ⊥) → DueFrom b i → ⊥
  other_byte n h = let both = sym here ∙ h ∙ expected in n (cc both)

pub due_end : (output text : List ℕ) (b i : ℕ) → i ≡ length output
    → IsTrue (nat_le (length text) (length output)) ↔ (drop i output ≡ due (drop i text) b (length output - i))
due_end output text b i e =
    let none : drop i output ≡ [] = drop_all i output (omega arith) in
    let behind : due (drop i text) b (length output - i) ≡ drop i text = rw (dirt_none (λ x. (x + 37) % 2 ^ 8) b i (length output) (omega arith)) (simp (drop-nil, append-nil)) in (
      λ t. none ∙ sym (behind ∙ drop_all i text (omega (arith, leb-true (length text) (length output) t))),
      λ h. let k = ap length (sym none ∙ h ∙ behind) in le-leb (length text) (length output) (omega (arith, length-drop i text, k)),
    )

-- from a position on, also from one past an end
pub same_from : (a b : List ℕ) (from i j : ℕ) (r : Bool) → i ≡ min from (length a) → j ≡ min from (length b)
    → r ≡ pointwise nat_eq (take (length a - i) (drop i a)) (take (length b - j) (drop j b)) → IsTrue r ↔ (drop from a ≡ drop from b)
same_from a b from i j r k l e =
    let x : drop i a ≡ drop from a = rw k (drop_min from a) in
    let y : drop j b ≡ drop from b = rw l (drop_min from b) in
    let tested = rw (take_rest a i, take_rest b j, x, y) at e in
    slice_eq-Decides Decides-eqb (drop from a) (drop from b) r tested
