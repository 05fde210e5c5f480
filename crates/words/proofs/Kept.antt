-- Equations of runs: their sides in order, which of two comes first, and the lesser kept.
use Rattle.std.proofs.Common.{◌≡◌, ℕ, ◌≤◌, Bor, true, false, List, ◌++◌, length, take, take_at, sym, refl, ap, ◌∙◌, true≢false, arith}
use Rattle.std.specs.Ordering.{is_gt, MatchOrdering}
use Rattle.terms.specs.Compare.{lt, order_numbers}
use Rattle.terms.specs.Equation.{Equation, orient}
use Rattle.terms.specs.Theory.Equation.{orient_either, in_order_shows}
use Rattle.terms.specs.Promises.{ordering_of, in_order_of}
use Rattle.std.specs.declared.cmp.Ordering as answered
use Rattle.std.specs.declared.cmp.Ordering.TheVariants.{Less, Equal, Greater}
use Rattle.words.specs.Rename.{order_equations, lesser}
use Rattle.words.specs.Candidate.{Sides, Room, ordered, Stores, Keeps, KeepsLesser}

-- s and t are the sides of the equation that xs and ys make
pub record Ordered (xs ys s t : List ℕ) : Type 0 where
  pub left : s ≡ (orient order_numbers xs ys).left
  pub right : t ≡ (orient order_numbers xs ys).right

-- two lent runs in order are those sides
pub in_order : (a b : Bor (List ℕ)) {r : Bor (List ℕ) × Bor (List ℕ)} → r ≡ in_order_of (order_numbers a.now b.now) a b
    → Ordered a.now b.now r.0.now r.1.now
in_order a b h = let (e, d) = in_order_shows order_numbers (λ xs. xs) (λ (x : Bor (List ℕ)). x.now) a.now b.now a b refl refl in rw h (record { left = e; right = d })

-- the order of equations: by left side, then right
pub by_side : (xs ys us vs : List ℕ) (o r : answered.Ordering) {Right : Type 0} → ordering_of o ≡ order_numbers xs us
    → MatchOrdering o (r ≡ Less) Right (r ≡ Greater) → (Right → ordering_of r ≡ order_numbers ys vs) → ordering_of r ≡ ordered xs ys us vs
unfolding order_equations
by_side xs ys us vs Less r h m f = rw (m, sym h)
by_side xs ys us vs Equal r h m f = rw (sym h) (f m)
by_side xs ys us vs Greater r h m f = rw (m, sym h)

-- an equation is kept against two runs that both come after its left side
pub both_after : (xs ys : List ℕ) (e : Equation (List ℕ)) → order_numbers e.left xs ≡ lt → order_numbers e.left ys ≡ lt
    → lesser order_numbers e (orient order_numbers xs ys) ≡ e
unfolding lesser order_equations
both_after xs ys e p q =
    let d : order_numbers e.left (orient order_numbers xs ys).left ≡ lt = orient_either (λ us vs. order_numbers e.left us ≡ lt) order_numbers xs ys p q in
    let o : order_equations order_numbers e (orient order_numbers xs ys) ≡ lt = rw d in
    rw (o, lesser)

-- two runs kept

-- a run copied over the front of another list
pub front_copied : (s s' rest : List ℕ) → s' ≡ s → take (length s) (s' ++ rest) ≡ s
front_copied s s' rest e = rw e (take_at s rest (length s) refl)

pub stored : {s t us vs : List ℕ} {room : ℕ} → us ≡ s → vs ≡ t → Stores s t room (record { left = us; right = vs })
stored d e = record { exact = λ h k i. record { left = d i; right = e i } }

room_sides : {n room : ℕ} {xs ys : List ℕ} → Room n xs ys room
    → (length (orient order_numbers xs ys).left ≤ room) × (length (orient order_numbers xs ys).right ≤ room)
room_sides {n} {room} {xs} {ys} h =
    orient_either (λ us vs. (length us ≤ room) × (length vs ≤ room)) order_numbers xs ys
    (omega (arith, h.first, h.sides), omega (arith, h.second, h.sides))
    (omega (arith, h.second, h.sides), omega (arith, h.first, h.sides))

module _ {xs ys s t : List ℕ} (p : Ordered xs ys s t) where
  both_sides : ◌≡◌ {A = Sides} (record { left = s; right = t }) (orient order_numbers xs ys)
  both_sides i = record { left = p.left i; right = p.right i }

  pub kept : {room : ℕ} {e : Sides} → Stores s t room e → Keeps xs ys room e
  kept h =
      record {
        exact = λ n r.
            h.exact (omega (arith, (room_sides r).0, ap length p.left)) (omega (arith, (room_sides r).1, ap length p.right)) ∙ both_sides;
      }

  -- how the best so far compares with the equation of xs and ys
  compared : (e : Sides) (c : answered.Ordering) → ordering_of c ≡ ordered e.left e.right s t
      → order_equations order_numbers e (orient order_numbers xs ys) ≡ ordering_of c
  compared e c h = rw (← both_sides) (sym h)

  pub stays : {room : ℕ} {e : Sides} (c : answered.Ordering) → ordering_of c ≡ ordered e.left e.right s t → is_gt c ≡ false → KeepsLesser xs ys room e e
  unfolding lesser
  stays {e = e} Less h d = record { exact = λ n r. rw (compared e Less h, lesser) }
  stays {e = e} Equal h d = record { exact = λ n r. rw (compared e Equal h, lesser) }
  stays Greater h d = absurd (true≢false d)

  pub replaced : {room : ℕ} {e e' : Sides} (c : answered.Ordering) → ordering_of c ≡ ordered e.left e.right s t → is_gt c ≡ true
      → Stores s t room e' → KeepsLesser xs ys room e e'
  unfolding lesser
  replaced Less h d k = absurd (true≢false (sym d))
  replaced Equal h d k = absurd (true≢false (sym d))
  replaced {e = e} Greater h d k = record { exact = λ n r. rw (compared e Greater h, lesser) ((kept k).exact n r) }
