-- The words of a term of 31 nodes are few, short and of small letters, and so are they when sorted or renamed: their run finds room.
use Rattle.std.proofs.Common.{◌≡◌, ℕ, ◌*◌, ◌<◌, ◌≤◌, max, List, [], ◌∷◌, map, length, take, refl, ap₂, arith}
use lib.ListN.{length-map}
use Rattle.terms.specs.Lists.{of_map}
use Rattle.terms.specs.Sort.{kept}
use Rattle.terms.specs.Term.{Term, size}
use Rattle.terms.specs.Run.{ZERO}
use Rattle.terms.specs.Held.{Fine, IsRun}
use Rattle.terms.specs.Theory.Held.{fine_letters}
use Rattle.terms.specs.Theory.SortMembers.{sort_member, sort_length}
use Rattle.words.specs.Words.{Word, order_words, normal, expand}
use Rattle.words.specs.Spelled.{SLOT, spelled}
use Rattle.words.specs.Multiply.{MOST, MultipliesOut}
use Rattle.words.specs.Sort.{Spells}
use Rattle.words.specs.Theory.Bound.{size_atoms, expand_bound, most_bound}
use Rattle.words.specs.Theory.Longest.{longest_sorted, longest_expand}
use Rattle.words.specs.Theory.Expand.{words_expand}
use Rattle.words.specs.Theory.Spelled.{spelled_length}
use Rattle.words.specs.WordLists.{slot_words, Bounded, WordsOf}
use Rattle.words.specs.Counts.{atoms, longest}
use Rattle.words.specs.Theory.WordLetters.{each_expanded}
use Rattle.words.proofs.SlotWords.{puts_listed}

pub expand_bounded : (t : Term) → Fine t → size t ≤ 31 → Bounded (expand t)
expand_bounded t f h =
    let few : atoms t ≤ 16 = omega (arith, size_atoms t) in
    record {
      few = omega (arith, expand_bound t few, most_bound (atoms t) few);
      short = omega (arith, longest_expand t);
      small = each_expanded (λ n. n < ZERO) t (fine_letters t f);
    }

sort_bounded : {us : List Word} → Bounded us → Bounded (normal kept us)
sort_bounded {us} b =
    record {
      few = omega (arith, b.few, sort_length kept order_words us);
      short = omega (arith, b.short, longest_sorted kept us);
      small = λ w m. b.small w (sort_member kept order_words us m);
    }

longest_renamed : (f : ℕ → ℕ) (us : List Word) → longest (map (map f) us) ≡ longest us
longest_renamed f [] = refl
longest_renamed f (u ∷ us) = ap₂ max (length-map u f) (longest_renamed f us)

pub rename_bounded : (f : ℕ → ℕ) → ((n : ℕ) → n < ZERO → f n < ZERO) → {us : List Word} → Bounded us → Bounded (map (map f) us)
rename_bounded f k {us} b =
    record {
      few = omega (arith, b.few, length-map us (map f));
      short = omega (arith, b.short, longest_renamed f us);
      small = λ w m n i.
          let (u, j, e) = of_map (map f) us m in
          let (x, l, d) = of_map f u (rw (← e) at i) in
          rw (← d) (k x (b.small u j x l));
    }

-- what is written of bounded words
pub bounded_written : {us : List Word} → Bounded us → {out out' : List ℕ} {r : ℕ} → SLOT * MOST ≤ length out
    → Spells (normal kept us) out r out' → take r out' ≡ spelled (normal kept us)
bounded_written {us} b h s =
    let c = sort_bounded b in
    (s.exact c.small (omega (arith, c.few, c.short, spelled_length (normal kept us) (omega (arith, c.short))))).numbers

-- the slots us hold the words of the term of the run xs
pub record Multiplied (xs us : List ℕ) : Type 0 where
  pub words : (t : Term) → IsRun xs t → size t ≤ 31 → slot_words us ≡ expand t

pub multiplied : {xs ws ss ws' : List ℕ} {n : ℕ} → SLOT * MOST ≤ length ws → SLOT * MOST ≤ length ss → MultipliesOut xs ws ss n ws'
    → Multiplied xs (take (SLOT * n) ws')
multiplied p q m = record { words = λ t h small. puts_listed (m.exact t h small p q) (omega (arith, m.few)) }

pub words_written : {xs us out out' : List ℕ} {r : ℕ} → Multiplied xs us → Spells (normal kept (slot_words us)) out r out' → WordsOf xs out r out'
words_written m s =
    record {
      within = s.within;
      exact = λ t h small room. rw words_expand (bounded_written (expand_bounded t h.fine small) room (rw (m.words t h small) at s));
    }
