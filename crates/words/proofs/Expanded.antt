-- A term in a run multiplied out: an atom, and a sum or product whose parts were.
use Rattle.std.proofs.Common.{◌≡◌, ℕ, ◌+◌, ◌<◌, ◌≤◌, ◌*◌, List, ◌++◌, length, get_or, take, refl, ◌∙◌, le_refl, arith}
use Rattle.terms.specs.Term as term
use Rattle.terms.specs.Term.{Term, letter, add, mul, size}
use Rattle.terms.specs.Run.{ZERO, ONE, ADD, run}
use Rattle.terms.specs.Held.{Fine, Holds}
use Rattle.terms.proofs.Positions.{drop_head}
use Rattle.terms.proofs.Held.{size_pos, holds_whole, holds_within, holds_add, holds_mul}
use Rattle.words.specs.Words.{products, expand}
use Rattle.words.specs.Multiply.{Puts, Fits, PutsWords, Joins, atom_words, Room, Expands, MultipliesOut}
use Rattle.words.specs.Spelled.{SLOT}
use Rattle.words.specs.Counts.{atoms, most}
use Rattle.words.specs.Theory.Bound.{size_atoms, most_most, most_bound, expand_bound}
use Rattle.words.specs.Theory.Longest.{longest_expand}
use Rattle.words.specs.declared.normal_form.Expanded.{Expanded}
use Rattle.words.proofs.Stand.{between_end, between_front}
use Rattle.words.proofs.Atoms.{letter_words}
use Rattle.words.proofs.Puts.{puts_then, puts_after}

-- the room that a term has is enough for its words
room_fits : {t : Term} {ws : List ℕ} {j : ℕ} {ss : List ℕ} {k : ℕ} → Room t ws j ss k → Fits (expand t) ws j
room_fits {t} r =
    let n = r.here in
    let h : n + atoms t ≤ 16 = omega (arith, r.small) in
    record {
      few = omega (arith, r.few_here, expand_bound t (omega (arith, h)), most_most n (atoms t) h, most_bound (n + atoms t) h);
      short = omega (arith, h, longest_expand t);
      room = r.room_here;
    }

-- the slots in each other's place
room_exchanged : {t : Term} {ws : List ℕ} {j : ℕ} {ss : List ℕ} {k : ℕ} → Room t ws j ss k → Room t ss k ws j
room_exchanged r =
    record {
      here = r.there;
      there = r.here;
      few_here = r.few_there;
      few_there = r.few_here;
      small = omega (arith, r.small);
      room_here = r.room_there;
      room_there = r.room_here;
    }

-- the first number of a term's run

letter_held : {xs : List ℕ} {i n : ℕ} → Holds xs i (letter n) → (get_or xs i 0 ≡ n) × (n < ZERO)
unfolding run Fine
letter_held {xs} {i} {n} h = ((drop_head xs i n h.rest h.here).1, h.fine)

zero_held : {xs : List ℕ} {i : ℕ} → Holds xs i term.zero → get_or xs i 0 ≡ ZERO
unfolding run
zero_held {xs} {i} h = (drop_head xs i ZERO h.rest h.here).1

one_held : {xs : List ℕ} {i : ℕ} → Holds xs i term.one → get_or xs i 0 ≡ ONE
unfolding run
one_held {xs} {i} h = (drop_head xs i ONE h.rest h.here).1

-- an atom: it takes one number, which says its words
pub atom_held : {xs : List ℕ} {i : ℕ} (t : Term) → Holds xs i t → get_or xs i 0 < ADD → (size t ≡ 1) × (atom_words (get_or xs i 0) ≡ expand t)
unfolding size expand atom_words
atom_held {xs} {i} (letter n) h q =
    let p = letter_held h in
    (refl, rw p.0 (letter_words n (λ e. omega arith) (λ e. omega arith)))
atom_held term.zero h q = (refl, rw (zero_held h))
atom_held term.one h q = (refl, rw (one_held h))
atom_held (add s t) h q = absurd (omega (arith, (holds_add h).0))
atom_held (mul s t) h q = absurd (omega (arith, (holds_mul h).0))

-- a sum or product: its parts, and its words from theirs
pub record Node (xs : List ℕ) (i : ℕ) (t : Term) : Type 0 where
  pub left : Term
  pub right : Term
  pub left_held : Holds xs (i + 1) left
  pub right_held : Holds xs (i + 1 + size left) right
  pub sized : size t ≡ 1 + size left + size right
  pub atomed : atoms t ≡ atoms left + atoms right
  pub sum : get_or xs i 0 ≡ ADD → expand t ≡ expand left ++ expand right
  pub product : (get_or xs i 0 ≡ ADD → ⊥) → expand t ≡ products (expand left) (expand right)

pub node_held : {xs : List ℕ} {i : ℕ} (t : Term) → Holds xs i t → ADD ≤ get_or xs i 0 → Node xs i t
unfolding size atoms expand
node_held (letter n) h q = absurd (omega (arith, letter_held h))
node_held term.zero h q = absurd (omega (arith, zero_held h))
node_held term.one h q = absurd (omega (arith, one_held h))
node_held (add s t) h q =
    let p = holds_add h in
    record { left = s; right = t; left_held = p.1; right_held = p.2; sized = refl; atomed = refl; sum = λ e. refl; product = λ n. absurd (n p.0) }
node_held (mul s t) h q =
    let p = holds_mul h in
    record { left = s; right = t; left_held = p.1; right_held = p.2; sized = refl; atomed = refl; sum = λ e. absurd (omega (arith, p.0)); product = λ n. refl }

module _ {xs : List ℕ} {at : ℕ} {ws : List ℕ} {j : ℕ} {ss : List ℕ} {k : ℕ} where
  pub expands_past : length xs ≤ at → Expands xs at ws j ss k (record { end = at; count = j }) ws ss
  expands_past h =
      record { forward = le_refl at; few = λ p. p; exact = λ t p r. absurd (omega (arith, holds_within p, size_pos t)) }

  pub expands_atom : {m : ℕ} {ws' : List ℕ} → get_or xs at 0 < ADD → PutsWords (atom_words (get_or xs at 0)) ws j m ws'
      → Expands xs at ws j ss k (record { end = at + 1; count = m }) ws' ss
  expands_atom {m} {ws'} q p =
      record {
        forward = omega arith;
        few = p.few;
        exact = λ t h r.
            let a = atom_held t h q in
            (omega (arith, a.0), rw a.1 at p.exact (room_fits r), refl);
      }

  -- both parts multiplied out into the same slots, one after the other
  module _ {l r : Expanded} {ws₁ ws₂ ss₁ ss₂ : List ℕ} (L : Expands xs (at + 1) ws j ss k l ws₁ ss₁) (R : Expands xs l.end ws₁ l.count ss₁ k r ws₂ ss₂)
      (kept : length ss₁ ≡ length ss) where
    module _ {t : Term} (n : Node xs at t) (room : Room t ws j ss k) where
      left_put : (l.end ≡ at + 1 + size n.left) × Puts (expand n.left) ws j l.count ws₁ × (take (SLOT * k) ss₁ ≡ take (SLOT * k) ss)
      left_put =
          L.exact n.left n.left_held
          (record {
            here = room.here;
            there = room.there;
            few_here = room.few_here;
            few_there = room.few_there;
            small = omega (arith, room.small, n.atomed);
            room_here = room.room_here;
            room_there = room.room_there;
          })

      right_room : Room n.right ws₁ l.count ss₁ k
      right_room =
          let a = atoms n.left in
          let few : a ≤ 16 = omega (arith, room.small, n.atomed) in
          let both : room.here + a ≤ 16 = omega (arith, room.small, n.atomed) in
          record {
            here = room.here + a;
            there = room.there;
            few_here = omega (arith, room.few_here, between_end left_put.1.put, expand_bound n.left few, most_most room.here a both);
            few_there = room.few_there;
            small = omega (arith, room.small, n.atomed);
            room_here = omega (arith, room.room_here, left_put.1.room);
            room_there = omega (arith, room.room_there);
          }

      right_put : (r.end ≡ l.end + size n.right) × Puts (expand n.right) ws₁ l.count r.count ws₂ × (take (SLOT * k) ss₂ ≡ take (SLOT * k) ss₁)
      right_put = R.exact n.right (rw left_put.0 n.right_held) right_room

      ended : r.end ≡ at + size t
      ended = omega (arith, left_put.0, right_put.0, n.sized)

      beside : take (SLOT * k) ss₂ ≡ take (SLOT * k) ss
      beside = right_put.2 ∙ left_put.2

    pub expands_sum : get_or xs at 0 ≡ ADD → Expands xs at ws j ss k r ws₂ ss₂
    expands_sum e =
        record {
          forward = omega (arith, L.forward, R.forward);
          few = λ p. R.few (L.few p);
          exact = λ t h room.
              let n = node_held t h (omega (arith, e)) in
              (ended n room, rw (n.sum e) (puts_then (left_put n room).1 (right_put n room).1), beside n room);
        }

-- the parts of a product, multiplied out into the other slots, joined
module _ {xs : List ℕ} {at : ℕ} {ws : List ℕ} {j : ℕ} {ss : List ℕ} {k : ℕ} {l r : Expanded} {ws₁ ws₂ ss₁ ss₂ : List ℕ}
    (L : Expands xs (at + 1) ss k ws j l ss₁ ws₁) (R : Expands xs l.end ss₁ l.count ws₁ j r ss₂ ws₂) (kept : length ws₁ ≡ length ws)
    (kept₂ : length ws₂ ≡ length ws) where
  pub expands_product : {m : ℕ} {ws₃ : List ℕ} → ADD < get_or xs at 0 → Joins ss₂ k l.count l.count r.count ws₂ j m ws₃
      → Expands xs at ws j ss k (record { end = r.end; count = m }) ws₃ ss₂
  expands_product {m} {ws₃} q J =
      record {
        forward = omega (arith, L.forward, R.forward);
        few = J.few;
        exact = λ t h room.
            let n = node_held t h (omega arith) in
            let back = room_exchanged room in
            let e = n.product (λ d. omega (arith, d)) in
            let p = (left_put L R kept n back).1 in
            let q = (right_put L R kept n back).1 in
            let left = between_front ss₂ l.count q.front (le_refl l.count) p.put in
            let f = room_fits room in
            let fits : Fits (expand t) ws₂ j = record { few = f.few; short = f.short; room = omega (arith, f.room) } in
            let put = J.exact (expand n.left) (expand n.right) left q.put (rw e at fits) in
            (ended L R kept n back, rw e (puts_after (beside L R kept n back) kept₂ put), (puts_then p q).front);
      }

pub multiplied_out : {xs ws ss ws' ss' : List ℕ} {r : Expanded} → Expands xs 0 ws 0 ss 0 r ws' ss' → MultipliesOut xs ws ss r.count ws'
unfolding most
multiplied_out {ws = ws} {ss = ss} {r = r} e =
    record {
      few = e.few (omega arith);
      exact = λ t h small words scratch.
          let room : Room t ws 0 ss 0 =
          record {
            here = 0;
            there = 0;
            few_here = omega arith;
            few_there = omega arith;
            small = omega (arith, size_atoms t);
            room_here = words;
            room_there = scratch;
          } in
          (e.exact t (holds_whole h) room).1;
    }
