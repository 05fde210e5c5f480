-- A place as it is written: a dot alone, or sides.
use Rattle.std.proofs.Common.{◌≡◌, ℕ, ◌≤◌, Bool, true, false, ◌&&◌, ◌||◌, eqb, List, [], ◌∷◌, length, drop, get_or, refl, sym, ap, ◌∙◌, arith}
use Rattle.std.specs.List.{list_all}
use Rattle.std.proofs.Math.Option.{Option, none, some, bind}
use Rattle.terms.specs.Numbers.{is_some}
use Rattle.terms.specs.Theory.Reflects.{Reflects, eqb_reflects}
use Rattle.search.specs.Line.{Side, l, r}
use Rattle.text.specs.Bytes.{end}
use Rattle.text.specs.StepText.{read_side, read_sides, read_place}

-- whether a byte is a side
abbrev pub side : ℕ → Bool
side b = eqb b 108 || eqb b 114

-- a side in front changes nothing
one_more : (d : Side) (o : Option (List Side)) → is_some {A = List Side} (bind o (λ p. some (d ∷ p))) ≡ is_some o
unfolding bind is_some
one_more d none = refl
one_more d (some p) = refl

all_sides : (bs : List ℕ) → list_all side bs ≡ is_some (read_sides bs)
unfolding read_sides read_side is_some bind
all_sides [] = refl
all_sides (b ∷ bs) = go (eqb b 108) (eqb b 114) (all_sides bs)
  where
    go : (s t : Bool) → list_all side bs ≡ is_some (read_sides bs)
        → (s || t) && list_all side bs
        ≡ is_some {A = List Side} (bind (elim s [ true ↦ some l | false ↦ elim t [ true ↦ some r | false ↦ none ] ]) (λ d. bind (read_sides bs) (λ p. some (d ∷ p))))
    go true t e = e ∙ sym (one_more l (read_sides bs))
    go false true e = e ∙ sym (one_more r (read_sides bs))
    go false false e = refl

-- ---- the ways out of `is_place`

pub no_place : (bs : List ℕ) → length bs ≡ 0 → false ≡ is_some (read_place bs)
unfolding read_place is_some
no_place [] h = refl
no_place (b ∷ bs) h = absurd (omega (arith, h))

-- a dot, and what is behind it
pub root_place : (bs : List ℕ) → 1 ≤ length bs → get_or bs 0 0 ≡ 46 → eqb (length (drop 1 bs)) 0 ≡ is_some (read_place bs)
unfolding read_place end is_some
root_place [] h e = absurd (omega (arith, h))
root_place (b ∷ []) h e = rw e
root_place (b ∷ c ∷ bs) h e = rw e (grind arith)

pub side_place : (bs : List ℕ) → 1 ≤ length bs → (get_or bs 0 0 ≡ 46 → ⊥) → list_all side bs ≡ is_some (read_place bs)
unfolding read_place
side_place [] h e = absurd (omega (arith, h))
side_place (b ∷ bs) h e = all_sides (b ∷ bs) ∙ ap is_some (go (eqb b 46) (eqb_reflects b 46))
  where
    go : (t : Bool) → Reflects (b ≡ 46) t → read_sides (b ∷ bs) ≡ elim t [ true ↦ end [] bs | false ↦ read_sides (b ∷ bs) ]
    go true f = absurd (e f)
    go false f = refl
