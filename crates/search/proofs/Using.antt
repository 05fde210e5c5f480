-- A law used at a position, on runs: the laws for each way out of the functions that test it.
use Prim.Native.Nat.{ℕ, suc, ◌+◌, ◌-◌, ◌≤◌, ◌<◌}
use native.Mathlib.Omega.{arith}
use mathlib.Core.Path.{◌≡◌, refl, sym, ap, ◌∙◌}
use mathlib.Core.Bool.{Bool, true, false}
use mathlib.Core.Option.{Option, none, some, map}
use mathlib.Core.List.{List, [], ◌∷◌, ◌++◌}
use lib.ListN.{length, take, drop, get_or, length-drop}
use lib.Seq.{take-take, drop-drop, length-take-le}
use Rattle.std.specs.Prelude.{Some, None}
use Rattle.std.proofs.lemmas.List.{drop-take, take_rest}
use Rattle.terms.specs.Term.{Term, letter, zero, one, add, mul, size}
use Rattle.terms.specs.Run.{ZERO, ADD, run}
use Rattle.terms.specs.Held.{Fine, IsRun, Holds}
use Rattle.terms.specs.Numbers.{is_some}
use Rattle.terms.specs.Promises.{Equals, Ends}
use Rattle.terms.specs.Theory.Reflects.{Reflects}
use Rattle.terms.specs.Theory.Held.{size_of}
use Rattle.terms.proofs.Positions.{drop_head}
use Rattle.terms.proofs.Compared.{equal_reflects}
use Rattle.terms.proofs.Held.{size_pos, holds_within, holds_add, holds_mul, front_holds}
use Rattle.search.specs.Match.{Bindings, unbound, match}
use Rattle.search.specs.Line as line
use Rattle.search.specs.Line.{l, r, from, to}
use Rattle.search.specs.Place.{subterm_at}
use Rattle.search.specs.Span.{no_spans, Pattern, Found, Matches}
use Rattle.search.specs.Law.{semiring}
use Rattle.search.specs.Coded.{name_of, law_at, law_of, direction_of}
use Rattle.search.specs.Spliced.{part}
use Rattle.search.specs.Chain.{named, match_both, is_use, is_line}
use Rattle.search.specs.Path.{subterm}
use Rattle.search.specs.Position.{position}
use Rattle.search.specs.Used.{FitsPair, FitsBoth, Uses, Entered, PartOn}
use Rattle.search.specs.declared.search.Law.{Law}
use Rattle.search.specs.declared.search.Law.TheVariants.{AddAssoc, AddComm, AddZeroRight, MulAssoc, MulOneLeft, MulOneRight, LeftDistrib, RightDistrib, ZeroMul, MulZero}
use Rattle.search.specs.declared.search.Direction.{Direction}
use Rattle.search.specs.declared.search.Spans.{Spans}
use Rattle.search.specs.declared.search.Binding.{Binding}
use Rattle.search.specs.declared.search.Binding.TheVariants.{Bound, Unbound}
use Rattle.search.specs.Theory.Position.{position_numbered}
use Rattle.search.specs.Theory.Chain.{Both, match_both_reflects}
use Rattle.search.proofs.Spans.{means_unbound}
use Rattle.search.proofs.Splits.{starts}
use Rattle.search.proofs.RunLine.{RunUse, use_on_runs}

-- the parts of a term

-- an atom's number is below those of sums and products
atom_head : {xs : List ℕ} {n x : ℕ} {t : Term} → Holds xs n t → run t ≡ x ∷ [] → get_or xs n 0 ≡ x
atom_head {xs} {n} {x} h e = (drop_head xs n x h.rest (h.here ∙ ap (λ k. k ++ h.rest) e)).1

-- a position, moved by one of two functions that agree
pub shifted : (f g : ℕ → ℕ) → ((i : ℕ) → f i ≡ g i) → (o : Option ℕ) → map f o ≡ map g o
shifted f g e none = refl
shifted f g e (some i) = ap some (e i)

module _ (xs : List ℕ) (n : ℕ) where
  pub no_part : (d : line.Side) → length xs ≤ n → PartOn xs n d None
  no_part d k = record { within = tt; exact = λ t h p. absurd (omega (arith, holds_within h, size_pos t)) }

  atom_part : get_or xs n 0 < ADD → (d : line.Side) (t : Term) → Holds xs n t → (p : List line.Side) → position (d ∷ p) t ≡ none
  unfolding position
  atom_part k d (letter m) h p = refl
  atom_part k d zero h p = refl
  atom_part k d one h p = refl
  atom_part k d (add u v) h p = absurd (omega (arith, (holds_add h).0))
  atom_part k d (mul u v) h p = absurd (omega (arith, (holds_mul h).0))

  pub atom_no_part : (d : line.Side) → get_or xs n 0 < ADD → PartOn xs n d None
  atom_no_part d k = record { within = tt; exact = λ t h p. atom_part k d t h p }

  -- a term that is no atom
  module _ (P : Term → Type 0) (node : ADD ≤ get_or xs n 0) where
    two_parts : (t : Term) → Holds xs n t
        → ((u v : Term) → Holds xs (n + 1) u → Holds xs (n + 1 + size u) v → P (add u v))
        → ((u v : Term) → Holds xs (n + 1) u → Holds xs (n + 1 + size u) v → P (mul u v)) → P t
    unfolding run Fine
    two_parts (letter m) h a b = absurd (let k : m < ZERO = h.fine in omega (arith, atom_head h refl))
    two_parts zero h a b = absurd (omega (arith, atom_head h refl))
    two_parts one h a b = absurd (omega (arith, atom_head h refl))
    two_parts (add u v) h a b = let (e, p, q) = holds_add h in a u v p q
    two_parts (mul u v) h a b = let (e, p, q) = holds_mul h in b u v p q

  pub left_part : n < length xs → ADD ≤ get_or xs n 0 → PartOn xs n l (Some (n + 1))
  unfolding position subterm
  left_part inside node =
      record {
        within = omega arith;
        exact = λ t h.
            two_parts (λ t. Entered xs n t l (n + 1)) node t h
            (λ u v p q. record { part = u; is = refl; held = p; later = omega arith; positions = λ s. shifted suc _ (λ i. omega arith) (position s u) })
            (λ u v p q. record { part = u; is = refl; held = p; later = omega arith; positions = λ s. shifted suc _ (λ i. omega arith) (position s u) });
      }

  pub right_part : (k : ℕ) → n < length xs → ADD ≤ get_or xs n 0 → Ends xs (n + 1) k → PartOn xs n r (Some k)
  unfolding position subterm
  right_part k inside node E =
      record {
        within = E.within (omega arith);
        exact = λ t h.
            two_parts (λ t. Entered xs n t r k) node t h
            (λ u v p q.
            let e : k ≡ n + 1 + size u = E.exact u p in
            record { part = v; is = refl; held = rw e q; later = omega arith; positions = λ s. shifted (λ i. suc (size u + i)) _ (λ i. omega arith) (position s v) })
            (λ u v p q.
            let e : k ≡ n + 1 + size u = E.exact u p in
            record { part = v; is = refl; held = rw e q; later = omega arith; positions = λ s. shifted (λ i. suc (size u + i)) _ (λ i. omega arith) (position s v) });
      }

-- two sides matched one after the other

module _ (p q xs : List ℕ) (at other : ℕ) (z₀ : Spans) (b : Binding) (n : z₀ ≡ no_spans) (M : Matches p xs at z₀ b) where
  first_found : (b' : Binding) → b ≡ b' → (u a : Term) → IsRun p u → Pattern u → Holds xs at a → Found xs b' (match u a unbound)
  first_found b' e u a hp gp H = rw e at (M.exact u a unbound (means_unbound n) hp gp H)

  pub pair_first : b ≡ Unbound → FitsPair p q xs at other false
  unfolding match_both is_some
  pair_first e = record { exact = λ u v a c hp gp hq gq Ha Hc. go v c (match u a unbound) (first_found Unbound e u a hp gp Ha) }
    where
      go : (v c : Term) (o : Option Bindings) → Found xs Unbound o → false ≡ is_some {A = Bindings} (elim o [ none ↦ none | some s ↦ match v c s ])
      go v c none F = refl
      go v c (some s) F = absurd F

  module _ (z : Spans) (e : b ≡ Bound z) (b₂ : Binding) (M₂ : Matches q xs other z b₂) where
    second_found : (b' : Binding) → b₂ ≡ b' → (u v a c : Term) → IsRun p u → Pattern u → IsRun q v → Pattern v → Holds xs at a → Holds xs other c
        → Found xs b' (match_both u v a c)
    unfolding match_both
    second_found b' k u v a c hp gp hq gq Ha Hc = go (match u a unbound) (first_found (Bound z) e u a hp gp Ha)
      where
        go : (o : Option Bindings) → Found xs (Bound z) o → Found xs b' (elim o [ none ↦ none | some s ↦ match v c s ])
        go none F = absurd F
        go (some s) F = rw k at (M₂.exact v c s F hq gq Hc)

    some_found : (y : Spans) (o : Option Bindings) → Found xs (Bound y) o → true ≡ is_some o
    unfolding is_some
    some_found y none F = absurd F
    some_found y (some s) F = refl

    none_found : (o : Option Bindings) → Found xs Unbound o → false ≡ is_some o
    unfolding is_some
    none_found none F = refl
    none_found (some s) F = absurd F

    pub pair_second : b₂ ≡ Unbound → FitsPair p q xs at other false
    pair_second k = record { exact = λ u v a c hp gp hq gq Ha Hc. none_found (match_both u v a c) (second_found Unbound k u v a c hp gp hq gq Ha Hc) }

    pub pair_both : (y : Spans) → b₂ ≡ Bound y → FitsPair p q xs at other true
    pair_both y k = record { exact = λ u v a c hp gp hq gq Ha Hc. some_found y (match_both u v a c) (second_found (Bound y) k u v a c hp gp hq gq Ha Hc) }

-- a use

module _ (w : Law) (d : Direction) (both : List ℕ) (middle at : ℕ) (within : middle ≤ length both) where
  -- what is known of the two terms
  record Known (s t : Term) (p : List line.Side) : Type 0 where
    source : IsRun (take middle both) s
    target : IsRun (drop middle both) t
    place : position p s ≡ some at

  module _ {s t : Term} {p : List line.Side} (k : Known s t p) where
    abbrev Seen : Type 0
    Seen = RunUse (law_of w) (direction_of d) (take middle both) (drop middle both) at s t

    seen : Reflects Seen (is_use (law_of w) (direction_of d) p s t)
    seen = use_on_runs (law_of w) (direction_of d) p k.source k.target k.place

    unseen : (Seen → ⊥) → false ≡ is_use (law_of w) (direction_of d) p s t
    unseen h = go (is_use (law_of w) (direction_of d) p s t) seen
      where
        go : (b : Bool) → Reflects Seen b → false ≡ b
        go true u = absurd (h u)
        go false u = refl

    whole_seen : Seen → true ≡ is_use (law_of w) (direction_of d) p s t
    whole_seen h = go (is_use (law_of w) (direction_of d) p s t) seen
      where
        go : (b : Bool) → Reflects Seen b → true ≡ b
        go true u = refl
        go false u = absurd (u h)

    middle_size : size s ≡ middle
    middle_size = sym (size_of k.source) ∙ length-take-le middle both within

    inside : at < middle
    inside = omega (arith, middle_size, (position_numbered p s k.place).0)

    -- the subterm of the source, in the list
    held_source : Holds both at (subterm_at s at)
    held_source =
        let h = starts k.source (position_numbered p s k.place).0 in
        front_holds (take middle both) both middle (sym (take-take middle middle both (omega arith)))
        (omega (arith, holds_within h, length-take-le middle both within)) h

    source_end : at + size (subterm_at s at) ≤ middle
    source_end = omega (arith, holds_within (starts k.source (position_numbered p s k.place).0), length-take-le middle both within)

    held_target : at < length (drop middle both) → Holds both (middle + at) (subterm_at t at)
    held_target h =
        let small : at < size t = omega (arith, size_of k.target) in
        let g = starts k.target small in
        record { fine = g.fine; rest = g.rest; here = sym (drop-drop at middle both) ∙ g.here }

  abbrev by : {b : Bool} → ((s t : Term) (p : List line.Side) → Known s t p → b ≡ is_use (law_of w) (direction_of d) p s t) → Uses w d both middle at b
  by f = record { exact = λ s t hs ht p e. f s t p (record { source = hs; target = ht; place = e }) }

  pub use_short : length both ≤ middle + at → Uses w d both middle at false
  use_short h = by (λ s t p k. unseen k (λ u. omega (arith, u.inside, length-drop middle both)))

  module _ (room : middle + at < length both) (b₁ : Bool) (E₁ : Equals (take at both) (part both middle (middle + at)) b₁) where
    front : take (middle + at - middle) (drop middle both) ≡ take at (drop middle both)
    front = let e : middle + at - middle ≡ at = omega arith in rw e

    pub use_before : b₁ ≡ false → Uses w d both middle at false
    use_before e =
        by (λ s t p k. unseen k (λ u. (rw e at (equal_reflects E₁)) (sym (take-take at middle both (omega (arith, inside k))) ∙ u.before ∙ sym front)))

    module _ (end : ℕ) (N : Ends both at end) where
      ended : {s t : Term} {p : List line.Side} (k : Known s t p) → end ≡ at + size (subterm_at s at)
      ended {s} k = N.exact (subterm_at s at) (held_source k)

      pub use_long : middle < end → Uses w d both middle at false
      use_long h = by (λ s t p k. absurd (omega (arith, ended k, source_end k)))

      module _ (past : end ≤ middle) (rest : ℕ) (O : Ends both (middle + at) rest) (b₂ : Bool)
          (E₂ : Equals (part both end middle) (part both rest (length both)) b₂) where
        target_inside : at < length (drop middle both)
        target_inside = omega (arith, length-drop middle both)

        rested : {s t : Term} {p : List line.Side} (k : Known s t p) → rest ≡ middle + at + size (subterm_at t at)
        rested {t = t} k = O.exact (subterm_at t at) (held_target k target_inside)

        source_tail : {s t : Term} {p : List line.Side} (k : Known s t p) → drop (at + size (subterm_at s at)) (take middle both) ≡ take (middle - end) (drop end both)
        source_tail k =
            let e : end + (middle - end) ≡ middle = omega arith in
            rw (← (ended k)) (rw e at (drop-take end (middle - end) both))

        target_tail : {s t : Term} {p : List line.Side} (k : Known s t p) → drop (at + size (subterm_at t at)) (drop middle both) ≡ take (length both - rest) (drop rest both)
        target_tail {t = t} k =
            let e : middle + (at + size (subterm_at t at)) ≡ rest = omega (arith, rested k) in
            drop-drop (at + size (subterm_at t at)) middle both ∙ rw e (sym (take_rest both rest))

        pub use_after : b₂ ≡ false → Uses w d both middle at false
        use_after e = by (λ s t p k. unseen k (λ u. (rw e at (equal_reflects E₂)) (sym (source_tail k) ∙ u.after ∙ target_tail k)))

        pub use_fits : (b : Bool) → b₁ ≡ true → b₂ ≡ true → FitsBoth w d both at (middle + at) b → Uses w d both middle at b
        use_fits b e₁ e₂ F = by go
          where
            go : (s t : Term) (p : List line.Side) → Known s t p → b ≡ is_use (law_of w) (direction_of d) p s t
            go s t p k = last b (rw (sym (F.exact (subterm_at s at) (subterm_at t at) (held_source k) (held_target k target_inside))) at (match_both_reflects (from (direction_of d) (law_of w)) (to (direction_of d) (law_of w)) (subterm_at s at) (subterm_at t at)))
              where
                last : (b : Bool) → Reflects (Both (from (direction_of d) (law_of w)) (to (direction_of d) (law_of w)) (subterm_at s at) (subterm_at t at)) b → b ≡ is_use (law_of w) (direction_of d) p s t
                last true h =
                    whole_seen k (record {
                      inside = target_inside;
                      before = take-take at middle both (omega (arith, inside k)) ∙ rw e₁ at (equal_reflects E₁) ∙ front;
                      after = source_tail k ∙ rw e₂ at (equal_reflects E₂) ∙ sym (target_tail k);
                      sides = h;
                    })
                last false h = unseen k (λ u. h u.sides)

-- the law of the code is the one with its name
pub law_by_name : (w : Law) → named semiring (name_of w) ≡ some (law_of w)
unfolding named semiring law_at
law_by_name AddAssoc = refl
law_by_name AddComm = refl
law_by_name AddZeroRight = refl
law_by_name MulAssoc = refl
law_by_name MulOneLeft = refl
law_by_name MulOneRight = refl
law_by_name LeftDistrib = refl
law_by_name RightDistrib = refl
law_by_name ZeroMul = refl
law_by_name MulZero = refl

pub line_by_law : (w : Law) (d : line.Direction) (p : List line.Side) (s t : Term)
    → is_line semiring s (record { law = name_of w; direction = d; place = p; result = t }) ≡ is_use (law_of w) d p s t
unfolding is_line
line_by_law w d p s t = ap (λ o. elim o [ none ↦ false | some v ↦ is_use v d p s t ]) (law_by_name w)
