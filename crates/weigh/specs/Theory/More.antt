-- A search that may open more terms goes on from where one ends that may open fewer.
use Rattle.std.specs.Prelude.{ℕ, suc, ◌+◌, ◌-◌, ◌≡◌, true, false, List, [], ◌∷◌, leb, ◌&&◌}
use Rattle.std.proofs.Common.{arith, sym, ◌∙◌, ap}
use Rattle.std.proofs.Math.Path.{refl, fun_ext}
use Rattle.terms.specs.Term.{Term, size, depth}
use Rattle.search.specs.Law.{Law}
use Rattle.search.specs.Line.{Line, Limits, within, lines, allowed}
use Rattle.search.specs.Path.{Searchable}
use Rattle.weigh.specs.Weigh.{Weights, Weighed, start, note_lines, mark, Turn, ends, arrives, opens, turn, spread, weighed}
use Rattle.weigh.specs.Claims.{Heavy}
use Rattle.weigh.specs.Hand.{FewerNodes}
use Rattle.weigh.specs.Theory.Least.{Turned, turn_is}
use Rattle.weigh.specs.Theory.Noting.{Near}
use Rattle.weigh.specs.Theory.State.{Tries, State, near_after, opens_state}
use Rattle.weigh.specs.Theory.Final.{ended}
use Rattle.weigh.specs.Theory.Tries.{tries}

ends_not : (x : Weighed) → ends ≡ opens x → ⊥
ends_not x p = cc

arrives_not : (y x : Weighed) → arrives y ≡ opens x → ⊥
arrives_not y x p = cc

module _ (next : Term → List Line) (w : Weights) (cost : ℕ) (right : Term) where
  -- a search that would open nothing more stays
  pub spread_stays : (d : ℕ) (noted : List Weighed) → ((x : Weighed) → turn right noted ≡ opens x → ⊥) → spread next w cost right d noted ≡ noted
  unfolding spread
  spread_stays ℕ.zero noted h = refl
  spread_stays (suc d) noted h = go (turn right noted) refl
    where
      go : (t : Turn) → turn right noted ≡ t
          → elim t [
            | ends ↦ noted
            | arrives x ↦ noted
            | opens x ↦ spread next w cost right d (note_lines w cost x (next x.term) (mark x.term noted))
          ] ≡ noted
      go ends e = refl
      go (arrives x) e = refl
      go (opens x) e = absurd (h x e)

  -- opening f terms and then d more is opening f + d
  pub spread_on : (f d : ℕ) (noted : List Weighed) → spread next w cost right (f + d) noted ≡ spread next w cost right d (spread next w cost right f noted)
  unfolding spread
  spread_on ℕ.zero d noted = ap (λ g. spread next w cost right g noted) (omega arith)
  spread_on (suc f) d noted =
      let e : suc f + d ≡ suc (f + d) = omega arith in
      ap (λ g. spread next w cost right g noted) e ∙ go (turn right noted) refl (spread_on f d)
    where
      opened : Weighed → List Weighed
      opened x = note_lines w cost x (next x.term) (mark x.term noted)

      go : (t : Turn) → turn right noted ≡ t
          → ((zs : List Weighed) → spread next w cost right (f + d) zs ≡ spread next w cost right d (spread next w cost right f zs))
          → elim t as (λ _. List Weighed) [ ends ↦ noted | arrives x ↦ noted | opens x ↦ spread next w cost right (f + d) (opened x) ]
          ≡ spread next w cost right d (elim t [ ends ↦ noted | arrives x ↦ noted | opens x ↦ spread next w cost right f (opened x) ])
      go ends e on = sym (spread_stays d noted (λ x p. ends_not x (sym e ∙ p)))
      go (arrives y) e on = sym (spread_stays d noted (λ x p. arrives_not y x (sym e ∙ p)))
      go (opens x) e on = on (opened x)

  -- what is noted stays noted, with its total or less
  module _ {Ok : Term → Line → Type 0} (try : Tries Ok next) {left : Term} where
    pub spread_near : (f : ℕ) (noted : List Weighed) → State Ok w cost left right noted → (t : Term) (k : ℕ) → Near noted t k → Near (spread next w cost right f noted) t k
    unfolding spread
    spread_near ℕ.zero noted state t k near = near
    spread_near (suc f) noted state t k near = go (turn right noted) (turn_is right noted) (λ zs s n. spread_near f zs s t k n)
      where
        go : (u : Turn) → Turned right noted u
            → ((zs : List Weighed) → State Ok w cost left right zs → Near zs t k → Near (spread next w cost right f zs) t k)
            → Near (elim u [
              | ends ↦ noted
              | arrives x ↦ noted
              | opens x ↦ spread next w cost right f (note_lines w cost x (next x.term) (mark x.term noted))
            ]) t k
        go ends h on = near
        go (arrives x) h on = near
        go (opens x) (leads, other) on = on _ (opens_state try state leads other) (near_after try state leads t k near)

-- size and depth alone decide which lines are tried
pub same_lines : {ws : List Law} {m k : Limits} → m.size ≡ k.size → m.depth ≡ k.depth → (s : Term) (x : Line) → Searchable ws m s x → Searchable ws k s x
same_lines e f s x h = record { usable = h.usable; size = rw (← e) h.size; depth = rw (← f) h.depth }

module _ (m k : Limits) (e : m.size ≡ k.size) (f : m.depth ≡ k.depth) where
  same_within : (t : Term) → within m t ≡ within k t
  unfolding within
  same_within t = ap (λ n. leb (size t) n && leb (depth t) m.depth) e ∙ ap (λ n. leb (size t) k.size && leb (depth t) n) f

  same_allowed : (xs : List Line) → allowed m xs ≡ allowed k xs
  unfolding allowed
  same_allowed [] = refl
  same_allowed (x ∷ xs) =
      ap (λ b. elim b [ true ↦ x ∷ allowed m xs | false ↦ allowed m xs ]) (same_within x.result)
      ∙ ap (λ ys. elim (within k x.result) [ true ↦ x ∷ ys | false ↦ ys ]) (same_allowed xs)

module _ (ws : List Law) (w : Weights) (heavy : Heavy w) (cost : ℕ) (m k : Limits) (more : FewerNodes m k) (left right : Term) where
  abbrev next : Term → List Line
  next t = allowed m (lines ws t)

  pub weighed_on : weighed ws w cost k left right ≡ spread next w cost right (k.nodes - m.nodes) (weighed ws w cost m left right)
  unfolding weighed
  weighed_on =
      ap (λ g. spread g w cost right k.nodes (start left ∷ [])) (fun_ext λ t. sym (same_allowed m k more.size more.depth (lines ws t)))
      ∙ ap (λ n. spread next w cost right n (start left ∷ [])) (omega (arith, more.nodes))
      ∙ spread_on next w cost right m.nodes (k.nodes - m.nodes) (start left ∷ [])

  pub weighed_near : (t : Term) (n : ℕ) → Near (weighed ws w cost m left right) t n → Near (weighed ws w cost k left right) t n
  weighed_near t n near =
      rw weighed_on
      (spread_near next w cost right (tries ws m) (k.nodes - m.nodes) (weighed ws w cost m left right) (ended ws w heavy cost m left right).state t n near)

  pub weighed_stays : ((x : Weighed) → turn right (weighed ws w cost m left right) ≡ opens x → ⊥) → weighed ws w cost k left right ≡ weighed ws w cost m left right
  weighed_stays h = weighed_on ∙ spread_stays next w cost right (k.nodes - m.nodes) (weighed ws w cost m left right) h
